use Rattle.std.proofs.Common.{◌≡◌, ℕ, Bool, true, false, is_err, List, length, Ok, Err, Result, sym, refl, ◌∙◌, ap₂, subst, inl, inr, true≢false, rules}
use Rattle.grammar.specs.Questions.{right_symbol}
use Rattle.parsing.specs.Grammar.{WellFormed, start}
use Rattle.parsing.specs.Items.{Source}
use Rattle.records.specs.declared.node.Node.{Node}
use Rattle.records.specs.declared.alternative.Alternative.{Alternative}
use Rattle.records.specs.Blanks.{blank_node, blank_alternative}
use Rattle.forest.specs.Tables.{told}
use Rattle.forest.specs.Sweeps.{MetNode}
use Rattle.forest.specs.Forests.{MetRecord, Blank, Writes, Fills, Gathers}
use Rattle.forest.specs.declared.gathering.Counts.{Counts}
use Rattle.forest.specs.declared.fault.GatherFault.{GatherFault}
use Rattle.forest.specs.declared.fault.GatherFault.TheVariants.{NoSentence}
use Rattle.forest.proofs.Grammars.{start_is}
use Rattle.forest.proofs.Fitting.{answers}
use Rattle.forest.proofs.gathering.gather.Goals as goal

-- What the look-up of the start symbol over all words says.
judged : (src : Source) → WellFormed src.grammar → (ws : List ℕ) (fits : ℕ → ℕ → ℕ → Bool) (x n : ℕ) (r : Bool)
    → x ≡ right_symbol src.grammar 0 0 → n ≡ length ws → r ≡ fits x 0 n → fits (start src.grammar) 0 (length ws) ≡ r
judged src wf ws fits x n r e l q = sym (q ∙ ap₂ (λ y m. fits y 0 m) (start_is src.grammar wf x e) l)

-- With room, and with a list that is too short.
module _ (S : Type 0) (s : S) (P : Node → Type 0) (Q : Alternative → Type 0) (xs us vs : List Node) (ys ts zs : List Alternative) where
  with_room : (r : Result Counts GatherFault) → is_err r ≡ false → Writes P Q xs ys vs zs r → Fills S P Q xs ys vs zs r
  with_room (Err e) f w = absurd (true≢false f)
  with_room (Ok c) f w = (s, w)

  too_short : (r : Result Counts GatherFault) → is_err r ≡ true → Writes P Q xs ys us ts r → Blank blank_node xs vs → Blank blank_alternative ys zs
      → Fills S P Q xs ys vs zs r
  too_short (Ok c) f w a b = absurd (true≢false (sym f))
  too_short (Err e) f w a b = inr (record { some = s; short = w; nodes = a; alternatives = b })

pub returns-then-not-fits : goal.returns-then-not-fits
returns-then-not-fits g c =
    let src = g.S.StateSource.meaning c.args.source.now in
    let wf = (g.met.S.StateSource.lawful c.args.source.now).well_formed in
    let ws = c.as_slice-words.result.now in
    let xs = c.args.nodes.now in
    let ys = c.args.alternatives.now in
    let fits = told c.add_links.new.self.cells in
    let ans = answers src ws c.args.links.now (told c.empty-spans.result.cells) (told c.add_words.new.self.cells) fits
    c.empty-spans.ensures c.add_words.ensures c.add_links.ensures in
    let j = judged src wf ws fits c.right.result (length ws) c.fits.result c.right.ensures refl c.fits.ensures in
    subst (λ (us : List ℕ). Gathers src us c.args.links.now xs ys xs ys (Err NoSentence)) c.as_slice-words.ensures.value
    (record {
      fits = fits;
      told = ans;
      filled = inl (record { number = refl; none = λ s. true≢false (sym s ∙ j ∙ c.if-not-fits.true); nodes = refl; alternatives = refl });
    })

pub returns-then-is_err : goal.returns-then-is_err
returns-then-is_err g c =
    let src = g.S.StateSource.meaning c.args.source.now in
    let wf = (g.met.S.StateSource.lawful c.args.source.now).well_formed in
    let ws = c.as_slice-words.result.now in
    let n = length ws in
    let xs = c.args.nodes.now in
    let ys = c.args.alternatives.now in
    let fits = told c.add_links.new.self.cells in
    let ans = answers src ws c.args.links.now (told c.empty-spans.result.cells) (told c.add_words.new.self.cells) fits
    c.empty-spans.ensures c.add_words.ensures c.add_links.ensures in
    let j = judged src wf ws fits c.right.result n c.fits.result c.right.ensures refl c.fits.ensures in
    subst (λ (us : List ℕ). Gathers src us c.args.links.now xs ys c.fill.new.self c.fill-then-is_err.new.self c.write-written.result)
    c.as_slice-words.ensures.value
    (record {
      fits = fits;
      told = ans;
      filled = too_short _ (j ∙ c.if-not-fits.false) (MetNode src.grammar fits n) (MetRecord src.grammar fits n) xs c.write-written.new.nodes
          c.fill.new.self ys c.write-written.new.alternatives c.fill-then-is_err.new.self c.write-written.result
          (sym c.if-is_err.ensures.value) c.write-written.ensures (search rules) (search rules);
    })

pub returns-else-is_err : goal.returns-else-is_err
returns-else-is_err g c =
    let src = g.S.StateSource.meaning c.args.source.now in
    let wf = (g.met.S.StateSource.lawful c.args.source.now).well_formed in
    let ws = c.as_slice-words.result.now in
    let n = length ws in
    let xs = c.args.nodes.now in
    let ys = c.args.alternatives.now in
    let vs = c.write-written.new.nodes in
    let zs = c.write-written.new.alternatives in
    let fits = told c.add_links.new.self.cells in
    let ans = answers src ws c.args.links.now (told c.empty-spans.result.cells) (told c.add_words.new.self.cells) fits
    c.empty-spans.ensures c.add_words.ensures c.add_links.ensures in
    let j = judged src wf ws fits c.right.result n c.fits.result c.right.ensures refl c.fits.ensures in
    subst (λ (us : List ℕ). Gathers src us c.args.links.now xs ys vs zs c.write-written.result) c.as_slice-words.ensures.value
    (record {
      fits = fits;
      told = ans;
      filled = with_room _ (j ∙ c.if-not-fits.false) (MetNode src.grammar fits n) (MetRecord src.grammar fits n) xs xs vs ys ys zs c.write-written.result
          (sym c.if-is_err.ensures.value) c.write-written.ensures;
    })
