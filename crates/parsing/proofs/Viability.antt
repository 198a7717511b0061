-- The live states at the end of the words tell which terminals may follow, and whether the words begin a sentence.
use Rattle.std.proofs.Common.{◌≡◌, ℕ, suc, ◌+◌, ◌<◌, ◌≤◌, ◌≢◌, ◌↔◌, List, [], ◌∷◌, ◌++◌, length, get_or, drop, Some, None, Option, sym, refl, ap, ◌∙◌, append_assoc, append-nil, arith, length-append, length-drop, get_or-drop}
use native.Mathlib.Decide.{dec_lt}
use lib.ListN.{get_or-append}
use lib.Seq.{get_or-append_seam}
use Rattle.std.proofs.lemmas.List.{drop_all}
use Rattle.parsing.specs.Grammar.{Grammar, rule_count, rhs, start, WellFormed, Sentence}
use Rattle.parsing.specs.Grammar.{Derivation, word, node, Parts, end, part}
use Rattle.parsing.specs.Items.{Next, Closure, kernel, predict, Source, In, Initial, Step, Lawful}
use Rattle.parsing.specs.Links.{Linked, shift, reduce, Live, bottom, linked}
use Rattle.parsing.proofs.Derivations.{Agree, local, agree_append, agree_cut, monotone, behind, only}
use Rattle.parsing.proofs.Productivity.{Symbols, complete_behind}
use Rattle.parsing.proofs.States.{next_drop, next_some, step_in, next_item, some_not_none, initial_in, start_next}
use Rattle.parsing.proofs.Soundness.{linked_forward, live_state, below, link_symbol, sound}
use Rattle.parsing.proofs.Completeness.{begins_next, predicts, complete}
use Rattle.parsing.proofs.Judge.{start_state, judge}

-- What is derived behind the dot of the item (r, d) at place i can be completed to a sentence.
abbrev pub Completes : Grammar → List ℕ → ℕ → ℕ → ℕ → Type 0
Completes g ws i r d =
    (zs : List ℕ) → Agree i ws zs → Parts g zs (drop d (rhs g r)) i (length zs) → (vs : List ℕ) × Sentence g (zs ++ vs)

-- Agreement outlasts more words.
agree_more : (n : ℕ) (ws zs us : List ℕ) → Agree n ws zs → Agree n ws (zs ++ us)
agree_more n ws zs us a k p h =
    let (x, y) = a k p h in
    (rw length-append (omega arith), y ∙ sym (get_or-append zs us 0 k x))

module _ {g : Grammar} (wf : WellFormed g) where
  -- The symbols behind a dot are symbols of the grammar.
  rest_symbols : (r d : ℕ) → r < rule_count g → Symbols g (drop d (rhs g r))
  rest_symbols r d h k l =
      let m : d + k < length (rhs g r) = omega (arith, simp length-drop at l) in
      rw get_or-drop (wf.right_in r (d + k) h m)

  -- The right side of the goal's rule is the start symbol alone.
  goal_rhs : rhs g 0 ≡ start g ∷ []
  goal_rhs = next_drop (start_next wf) ∙ ap (λ Xs. start g ∷ Xs) (drop_all 1 (rhs g 0) (omega (arith, wf.goal_right)))

  -- The item (0, 0) is completed by nothing more: the start symbol over all words is a sentence.
  initial_completes : (ws : List ℕ) (q e : ℕ) → Initial q e → Completes g ws 0 q e
  initial_completes ws q e m zs a ps =
      let whole : Parts g zs (rhs g 0) 0 (length zs) = simp (m.rule_zero, m.dot_zero) at ps in
      ([], rw append-nil (only (rw goal_rhs at whole)))

  -- If the kernel of a closure can be completed, so can each of its items: what stands behind the predicting symbol is productive.
  closure_completes : {I : ℕ → ℕ → Type 0} (ws : List ℕ) (i : ℕ) {r d : ℕ}
      → ((q e : ℕ) → I q e → Completes g ws i q e) → Closure g I r d → Completes g ws i r d
  closure_completes ws i f (kernel {r = r} {d = d} x) = f r d x
  closure_completes ws i f (predict {r = r} {d = d} q c h n) = λ zs a ps.
      let (us, rest) = complete_behind wf zs (drop (suc d) (rhs g r)) (rest_symbols r (suc d) n.rule_in) in
      let whole = part (length zs) (monotone us (node q h refl ps)) rest in
      let (vs, s) = closure_completes ws i f c (zs ++ us) (agree_more i ws zs us a) (rw (next_drop n) whole) in
      (us ++ vs, rw (← append_assoc zs us vs) s)

module _ {src : Source} (wf : WellFormed src.grammar) (law : Lawful src) {ws : List ℕ} where
  -- Above a link, an item of the upper state is completed through the items of the lower one.
  link_completes : {s j b i r d : ℕ} → Linked src ws s j b i
      → ((q e : ℕ) → In src b q e → Completes src.grammar ws i q e) → In src s r d → Completes src.grammar ws j r d
  link_completes {s} {j} {b} {i} {r} {d} k f h =
      let (X, e, x) = sound law k in
      closure_completes wf ws j (move X x) ((law.next_row b X s (live_state law (below k)) e r d).0 h)
    where
      move : (X : ℕ) → Derivation src.grammar ws X i j → (q e : ℕ) → Step src b X q e → Completes src.grammar ws j q e
      move X x q e m zs a ps =
          let l = linked_forward k in
          let whole = part j (local a x) (rw m.moved at ps) in
          f q m.dot m.before zs (λ n p. a n (omega arith)) (rw (next_drop m.over) whole)

  mutual
    -- Viable prefixes: an item of a live state can be completed to a sentence.
    pub live_completes : {b i : ℕ} → Live src ws b i → (r d : ℕ) → In src b r d → Completes src.grammar ws i r d
    live_completes bottom r d h = closure_completes wf ws 0 (initial_completes wf ws) ((law.first_row r d).0 h)
    live_completes (linked k) r d h = linked_completes k r d h

    pub linked_completes : {s j b i : ℕ} → Linked src ws s j b i → (r d : ℕ) → In src s r d → Completes src.grammar ws j r d
    linked_completes (shift l h t e) r d = link_completes (shift l h t e) (live_completes l)
    linked_completes (reduce q t l h c x e) r d = link_completes (reduce q t l h c x e) (live_completes l)

-- A state that is live at the place n, with an item that has X next.
pub record Ready (src : Source) (ws : List ℕ) (n X : ℕ) : Type 0 where
  pub state : ℕ
  pub rule : ℕ
  pub dot : ℕ
  pub live : Live src ws state n
  pub item : In src state rule dot
  pub ready : Next src.grammar rule dot X

module _ {src : Source} (law : Lawful src) {ws zs : List ℕ} (n : ℕ) (agree : Agree n zs ws) where
  mutual
    -- A derivation over more words that goes past the place n leads to a state that is ready for the word there.
    pub descend : {b i j q d X : ℕ} → Derivation src.grammar zs X i j → Live src ws b i → In src b q d → Next src.grammar q d X
        → i ≤ n → n < j → Ready src ws n (get_or zs n 0)
    descend {b} {q = q} {d = d} (word {i = i} t h e) l x y lo hi =
        let m : i ≡ n = omega arith in
        record { state = b; rule = q; dot = d; live = rw m at l; item = x; ready = rw (← m, e) y }
    descend (node r h e ps) l x y lo hi = descend_parts ps l h (predicts law r l x h (rw e y)) refl lo hi

    pub descend_parts : {k j t q d : ℕ} {Xs : List ℕ} → Parts src.grammar zs Xs k j → Live src ws t k
        → q < rule_count src.grammar → In src t q d → Xs ≡ drop d (rhs src.grammar q) → k ≤ n → n < j → Ready src ws n (get_or zs n 0)
    descend_parts end l h x e lo hi = absurd (omega arith)
    descend_parts (part k d ps) l h x e lo hi =
        let (y, f) = begins_next h e in
        elim (dec_lt n k) [
          | yes m ↦ descend d l x y lo m
          | no m ↦
              let (s, z, u) = complete law (local (λ a p. agree a (omega arith)) d) l x y in
              descend_parts ps (linked u) h (step_in law (live_state law l) z x y) f (omega arith) hi
        ]

-- A state that is ready for X has a step by X.
ready_next : {src : Source} (law : Lawful src) {ws : List ℕ} {n X : ℕ} → Ready src ws n X
    → (b : ℕ) × Live src ws b n × (src.next b X ≢ None)
ready_next law y =
    let (s, e) = next_some law (live_state law y.live) y.item y.ready in
    (y.state, y.live, λ z. some_not_none (sym e ∙ z))

-- The words, t, and two lists behind, bracketed from the right.
regroup : (ws us vs : List ℕ) (t : ℕ) → ((ws ++ t ∷ []) ++ us) ++ vs ≡ ws ++ t ∷ (us ++ vs)
regroup ws us vs t = simp append_assoc

module _ {src : Source} (wf : WellFormed src.grammar) (law : Lawful src) (ws : List ℕ) (t : ℕ) where
  -- An item of a live state at the end with the terminal t next: the words and t begin a sentence.
  item_follows : {b r d : ℕ} → t < src.grammar.terminals → Live src ws b (length ws) → In src b r d → Next src.grammar r d t
      → (vs : List ℕ) × Sentence src.grammar (ws ++ t ∷ vs)
  item_follows {b} {r} {d} h l i x =
      let g = src.grammar in
      let zs = ws ++ t ∷ [] in
      let (us, ps) = complete_behind wf zs (drop (suc d) (rhs g r)) (rest_symbols wf r (suc d) x.rule_in) in
      let whole = part (length zs) (monotone us (behind ws (word h (omega arith) refl))) ps in
      let agree = agree_more (length ws) ws zs us (agree_append (length ws) ws (t ∷ [])) in
      let (vs, p) = live_completes wf law l r d i (zs ++ us) agree (rw (next_drop x) whole) in
      (us ++ vs, rw (← regroup ws us vs t) p)

  -- A live state at the end with a step by t has such an item.
  pub follows : (b : ℕ) → t < src.grammar.terminals → Live src ws b (length ws) → src.next b t ≢ None
      → (vs : List ℕ) × Sentence src.grammar (ws ++ t ∷ vs)
  follows b h l n = go (src.next b t) refl
    where
      go : (o : Option ℕ) → src.next b t ≡ o → (vs : List ℕ) × Sentence src.grammar (ws ++ t ∷ vs)
      go None e = absurd (n e)
      go (Some s) e = let (r, d, i, x) = next_item law (live_state law l) e in item_follows h l i x

  -- The words and t begin a sentence: some live state at the end has a step by t.
  pub followed : (vs : List ℕ) → Sentence src.grammar (ws ++ t ∷ vs) → (b : ℕ) × Live src ws b (length ws) × (src.next b t ≢ None)
  followed vs p =
      let agree = agree_cut (length ws) ws (t ∷ vs) (omega arith) in
      let past : length ws < length (ws ++ t ∷ vs) = rw length-append (omega arith) in
      let y = descend law (length ws) agree p bottom (initial_in law) (start_next wf) (omega arith) past in
      ready_next law (rw get_or-append_seam at y)

  -- The word t can follow exactly when some live state at the end has a step by it.
  pub viability : t < src.grammar.terminals
      → ((b : ℕ) × Live src ws b (length ws) × (src.next b t ≢ None)) ↔ ((vs : List ℕ) × Sentence src.grammar (ws ++ t ∷ vs))
  viability h = ((λ x. follows x.0 h x.1 x.2), λ x. followed x.0 x.1)

module _ {src : Source} (wf : WellFormed src.grammar) (law : Lawful src) {ws : List ℕ} where
  -- A live state has an item.
  live_item : {b i : ℕ} → Live src ws b i → (r : ℕ) × (d : ℕ) × (r < rule_count src.grammar) × In src b r d
  live_item bottom = (0, 0, (start_next wf).rule_in, initial_in law)
  live_item (linked k) =
      let h = live_state law (below k) in
      let (X, e) = link_symbol k in
      let (r, d, i, x) = next_item law h e in
      (r, suc d, x.rule_in, step_in law h e i x)

  -- So the words with a live state at their end begin a sentence.
  live_begins : {b : ℕ} → Live src ws b (length ws) → (vs : List ℕ) × Sentence src.grammar (ws ++ vs)
  live_begins l =
      let (r, d, h, i) = live_item l in
      let (us, ps) = complete_behind wf ws (drop d (rhs src.grammar r)) (rest_symbols wf r d h) in
      let (vs, p) = live_completes wf law l r d i (ws ++ us) (agree_append (length ws) ws us) ps in
      (us ++ vs, rw (← append_assoc ws us vs) p)

  -- And words that begin a sentence have a live state at their end.
  begins_live : (vs : List ℕ) → Sentence src.grammar (ws ++ vs) → (b : ℕ) × Live src ws b (length ws)
  begins_live [] p =
      let (s, e) = start_state wf law in
      (s, linked ((judge wf law s e ws).1 (rw append-nil at p)))
  begins_live (t ∷ vs) p = let (b, l, n) = followed wf law ws t vs p in (b, l)

  -- Words are a viable prefix exactly when some state is live at their end.
  pub viable_prefix : ((b : ℕ) × Live src ws b (length ws)) ↔ ((vs : List ℕ) × Sentence src.grammar (ws ++ vs))
  viable_prefix = ((λ x. live_begins x.1), λ x. begins_live x.0 x.1)
