-- What is met by asking which parts fit is what is reached.
use Rattle.std.proofs.Common.{◌≡◌, ℕ, zero, suc, ◌+◌, ◌-◌, ◌<◌, ◌≤◌, Bool, true, ◌⊎◌, List, length, get_or, sym, refl, ◌∙◌, inl, inr, add-one, arith}
use Rattle.std.proofs.lemmas.Bool.{cases_lt}
use Rattle.parsing.specs.Grammar.{Grammar, rule_count, lhs, rhs, start, Nonterminal, Sentence, WellFormed}
use Rattle.parsing.specs.Grammar.{Derivation, word, node}
use Rattle.parsing.specs.Items.{Next, Source, In, Lawful}
use Rattle.parsing.specs.Links.{Linked, Live, bottom, linked}
use Rattle.parsing.specs.Forest.{Alternative, Reached, top, child, ReachedAlternative}
use Rattle.parsing.proofs.States.{step_in, start_next, initial_in, entering}
use Rattle.parsing.proofs.Soundness.{sound, live_state, below as lower}
use Rattle.parsing.proofs.Completeness.{complete, predicts}
use Rattle.parsing.proofs.Theorems.{forest}
use Rattle.spans.specs.Spans.{Spans, IsWord, Tells, Path, step, part_fits, Fitting, Placed, Met, crown, below, MetAlternative}
use Rattle.spans.specs.Statements.{SpansTell, SpansJudge, MetForest}
use Rattle.spans.proofs.Paths.{join, places, places_count, places_from, places_to, places_fit, join_places, path_of}

-- A symbol of the grammar is a terminal or a nonterminal.
either : (g : Grammar) (X : ℕ) → X < g.terminals + g.nonterminals → (X < g.terminals) ⊎ Nonterminal g X
either g X h = elim (cases_lt X g.terminals) [ inl l ↦ inl l | inr l ↦ inr (record { low = l; high = h }) ]

-- A terminal derives one word.
is_word : {g : Grammar} {ws : List ℕ} {X i j : ℕ} → WellFormed g → X < g.terminals → Derivation g ws X i j → IsWord ws X i j
is_word wf t (word u h e) = record { inside = h; same = e; one = refl }
is_word {X = X} wf t (node r h e ps) = let n = (wf.left_in r h).low in absurd (omega arith)

word_derives : {g : Grammar} {ws : List ℕ} {X i j : ℕ} → X < g.terminals → IsWord ws X i j → Derivation g ws X i j
word_derives t w = rw w.one (word t w.inside w.same)

-- Some state that is live at i has X next.
record Awaited (src : Source) (ws : List ℕ) (X i : ℕ) : Type 0 where
  state : ℕ
  live : Live src ws state i
  rule : ℕ
  dot : ℕ
  item : In src state rule dot
  next : Next src.grammar rule dot X

module _ {src : Source} (wf : WellFormed src.grammar) (law : Lawful src) {ws : List ℕ} where
  -- Along the parts of an alternative of rule r, a state with the dot at each part is live.
  along : (r : ℕ) (cs : List ℕ) → r < rule_count src.grammar → Alternative src.grammar ws r cs → (p : ℕ) → p ≤ length (rhs src.grammar r)
      → (b : ℕ) → Live src ws b (get_or cs 0 0) → In src b r 0 → (t : ℕ) × Live src ws t (get_or cs p 0) × In src t r p
  along r cs h a zero l b v i = (b, v, i)
  along r cs h a (suc p) l b v i =
      let (t, w, k) = along r cs h a p (omega arith) b v i in
      let n : Next src.grammar r p (get_or (rhs src.grammar r) p 0) = record { rule_in = h; dot_in = omega arith; symbol = refl } in
      let (s, e, m) = complete law (a.derives p (omega arith)) w k n in
      (s, linked m, step_in law (live_state law w) e k n)

  awaited : {X i j : ℕ} → Reached src.grammar ws X i j → Awaited src ws X i
  awaited top = record { state = src.first; live = bottom; rule = 0; dot = 0; item = initial_in law; next = start_next wf }
  awaited (child r cs p a x l n) =
      let w = awaited x in
      let h = a.rule_in in
      let i = predicts law r w.live w.item h w.next in
      let (t, v, k) = along r cs h a p (omega arith) w.state w.live i in
      record { state = t; live = v; rule = r; dot = p; item = k; next = record { rule_in = h; dot_in = l; symbol = refl } }

  reached_derives : {X i j : ℕ} → Sentence src.grammar ws → Reached src.grammar ws X i j → Derivation src.grammar ws X i j
  reached_derives s top = s
  reached_derives s (child r cs p a x l n) = a.derives p l

  reached_spans : {X i j : ℕ} → Sentence src.grammar ws → Reached src.grammar ws X i j → Spans src (Linked src ws) X i j
  reached_spans s x =
      let w = awaited x in
      let (t, e, k) = complete law (reached_derives s x) w.live w.item w.next in
      (t, w.state, k, e)

  spans_derives : {X i j : ℕ} → Spans src (Linked src ws) X i j → Derivation src.grammar ws X i j
  spans_derives {X} {i} {j} x =
      let (s, b, k, e) = x in
      let (Y, f, d) = sound law k in
      let v = live_state law (lower k) in
      rw (entering law v v f e) at d

  reached_nonterminal : {X i j : ℕ} → Reached src.grammar ws X i j → Nonterminal src.grammar X
  reached_nonterminal top = wf.start_in
  reached_nonterminal (child r cs p a x l n) = n

pub spans_tell : SpansTell
spans_tell src wf law ws s fits w = record {
  sound = λ X i j h f. elim (either src.grammar X h) [
    | inl t ↦ word_derives t ((w.words X i j t).0 f)
    | inr n ↦ spans_derives wf law ((w.spans X i j n).0 f)
  ];
  words = λ X i j t d. (w.words X i j t).1 (is_word wf t d);
  nodes = λ X i j x. (w.spans X i j (reached_nonterminal wf law x)).1 (reached_spans wf law s x);
}

pub spans_judge : SpansJudge
spans_judge src wf law ws fits w = (
  (λ f. spans_derives wf law ((w.spans (start src.grammar) 0 (length ws) wf.start_in).0 f)),
  λ s. (w.spans (start src.grammar) 0 (length ws) wf.start_in).1 (reached_spans wf law s top),
)

module _ {g : Grammar} (wf : WellFormed g) {ws : List ℕ} {fits : ℕ → ℕ → ℕ → Bool} (tells : Tells g ws fits) where
  -- An alternative whose parts fit is one.
  alternative : (r : ℕ) (cs : List ℕ) → Fitting g fits r cs → Alternative g ws r cs
  alternative r cs x = record {
    rule_in = x.rule_in;
    count = x.count ∙ add-one (length (rhs g r));
    derives = λ p h. tells.sound (get_or (rhs g r) p 0) (get_or cs p 0) (get_or cs (suc p) 0) (wf.right_in r p x.rule_in h) (rw add-one at (x.fit p h));
  }

  -- The parts of a reached alternative fit.
  fitting : (r : ℕ) (cs : List ℕ) → Alternative g ws r cs → Reached g ws (lhs g r) (get_or cs 0 0) (get_or cs (length (rhs g r)) 0) → Fitting g fits r cs
  fitting r cs a x = record {
    rule_in = a.rule_in;
    count = a.count ∙ sym (add-one (length (rhs g r)));
    fit = λ p h. rw add-one (elim (either g (get_or (rhs g r) p 0) (wf.right_in r p a.rule_in h)) [
      | inl t ↦ tells.words (get_or (rhs g r) p 0) (get_or cs p 0) (get_or cs (suc p) 0) t (a.derives p h)
      | inr n ↦ tells.nodes (get_or (rhs g r) p 0) (get_or cs p 0) (get_or cs (suc p) 0) (child r cs p a x h n)
    ]);
  }

  -- The cuts of a way to place a part.
  record Way (r i j p a b : ℕ) : Type 0 where
    cs : List ℕ
    fits_all : Fitting g fits r cs
    from : get_or cs 0 0 ≡ i
    to : get_or cs (length (rhs g r)) 0 ≡ j
    at : get_or cs p 0 ≡ a
    past : get_or cs (suc p) 0 ≡ b

  way : {r i j p a b : ℕ} → r < rule_count g → Placed g fits r i j p a b → Way r i j p a b
  way {r} {i} {j} {p} {a} {b} h x =
      let m = length (rhs g r) in
      let tail : Path (part_fits g fits r) p a m j = step b x.here x.behind in
      let u : Path (part_fits g fits r) 0 i m j = join x.before tail in
      record {
        cs = places u;
        fits_all = record {
          rule_in = h;
          count = let e = places_count u in omega arith;
          fit = λ k l. rw add-one (let z : 0 + k ≡ k = omega arith in rw z at (places_fit u k (omega arith)));
        };
        from = places_from u;
        to = places_to u m (omega arith);
        at = let z : p + 0 ≡ p = omega arith in rw z at (join_places x.before tail p 0 (omega arith));
        past = let z : p + 1 ≡ suc p = omega arith in (rw z at (join_places x.before tail p 1 (omega arith))) ∙ places_from x.behind;
      }

  -- A part of an alternative whose parts fit is placed.
  placed : (r : ℕ) (cs : List ℕ) → Fitting g fits r cs → (p : ℕ) → p < length (rhs g r)
      → Placed g fits r (get_or cs 0 0) (get_or cs (length (rhs g r)) 0) p (get_or cs p 0) (get_or cs (p + 1) 0)
  placed r cs x p l =
      let all : (d : ℕ) → d < length (rhs g r) → part_fits g fits r (0 + d) (get_or cs d 0) (get_or cs (d + 1) 0) ≡ true =
      λ d h. let z : 0 + d ≡ d = omega arith in rw z (x.fit d h) in
      let z : 0 + (0 + p) ≡ p = omega arith in
      let z' : 0 + p ≡ p = omega arith in
      let m : p + 1 + (length (rhs g r) - (p + 1)) ≡ length (rhs g r) = omega arith in
      let m' : 0 + length (rhs g r) ≡ length (rhs g r) = omega arith in
      let w : 0 + (p + 1) ≡ p + 1 = omega arith in
      record {
        part_in = l;
        before = rw (z', z') at (path_of {f = part_fits g fits r} cs 0 0 p (λ d low h. all d (omega arith)));
        here = x.fit p l;
        behind = rw (m, m', w) at (path_of {f = part_fits g fits r} cs 0 (p + 1) (length (rhs g r) - (p + 1)) (λ d low h. all d (omega arith)));
      }

  mutual
    met_reached : {X i j : ℕ} → Met g fits (length ws) X i j → Reached g ws X i j
    met_reached crown = top
    met_reached (below r p a b h x q n) =
        let y = way h q in
        let z = met_reached x in
        let w : Reached g ws (lhs g r) (get_or y.cs 0 0) (get_or y.cs (length (rhs g r)) 0) = rw (y.from, y.to) z in
        let v = child r y.cs p (alternative r y.cs y.fits_all) w q.part_in n in
        rw (y.at, y.past) at v

  reached_met : {X i j : ℕ} → Reached g ws X i j → Met g fits (length ws) X i j
  reached_met top = crown
  reached_met (child r cs p a x l n) =
      let q = placed r cs (fitting r cs a x) p l in
      let v = below r p (get_or cs p 0) (get_or cs (p + 1) 0) a.rule_in (reached_met x) q n in
      rw add-one at v

  alternative_reached : (r : ℕ) (cs : List ℕ) → MetAlternative g fits (length ws) r cs → ReachedAlternative g ws r cs
  alternative_reached r cs x = (alternative r cs x.0, met_reached x.1)

  alternative_met : (r : ℕ) (cs : List ℕ) → ReachedAlternative g ws r cs → MetAlternative g fits (length ws) r cs
  alternative_met r cs x = (fitting r cs x.0 x.1, reached_met x.1)

pub met_forest : MetForest
met_forest g wf ws s fits tells =
    let all = forest g wf ws s in (
      (λ X i j. ((λ x. (all.0 X i j).0 (met_reached wf tells x)), λ x. reached_met wf tells ((all.0 X i j).1 x))),
      λ r cs. ((λ x. (all.1 r cs).0 (alternative_reached wf tells r cs x)), λ x. alternative_met wf tells r cs ((all.1 r cs).1 x)),
    )
