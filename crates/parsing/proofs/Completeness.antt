-- Where a symbol comes next in a live state, each of its derivations makes a link.
use Rattle.std.proofs.Common.{◌≡◌, ℕ, suc, ◌<◌, ◌≤◌, List, ◌∷◌, length, drop, Some, refl, ap, ◌∙◌, arith, length-drop, drop-cons}
use Rattle.parsing.specs.Grammar.{Grammar, rule_count, lhs, rhs}
use Rattle.parsing.specs.Grammar.{Derivation, word, node, Parts, end, part}
use Rattle.parsing.specs.Items.{Next, predict, Source, In, Lawful}
use Rattle.parsing.specs.Links.{Linked, shift, reduce, Live, bottom, linked, Chain, stay, down}
use Rattle.parsing.proofs.States.{next_some, step_in}
use Rattle.parsing.proofs.Soundness.{live_state, chain_state, link_symbol, below}

-- Where the symbols behind the dot begin with X, X comes next.
pub begins_next : {g : Grammar} {q d X : ℕ} {Xs : List ℕ} → q < rule_count g → X ∷ Xs ≡ drop d (rhs g q)
    → Next g q d X × (Xs ≡ drop (suc d) (rhs g q))
begins_next {g} {q} {d} h e =
    let l : d < length (rhs g q) = omega (arith, ap length e ∙ length-drop d (rhs g q)) in
    let c = drop-cons (rhs g q) d 0 l in
    (record { rule_in = h; dot_in = l; symbol = cc }, (cc))

module _ {src : Source} (law : Lawful src) {ws : List ℕ} where
  -- The row of a live state is closed: it predicts each rule whose left symbol comes next.
  pub predicts : {b i r d : ℕ} (q : ℕ) → Live src ws b i → In src b r d → q < rule_count src.grammar
      → Next src.grammar r d (lhs src.grammar q) → In src b q 0
  predicts {r = r} {d = d} q bottom h l n = (law.first_row q 0).1 (predict q ((law.first_row r d).0 h) l n)
  predicts {r = r} {d = d} q (linked {s = s} {b = c} k) h l n =
      let (X, e) = link_symbol k in
      let row = law.next_row c X s (live_state law (below k)) e in
      (row q 0).1 (predict q ((row r d).0 h) l n)

  mutual
    -- An item of b has X next, b is live at i, and X derives the words from i to j: then b is linked to its step by X at j.
    pub complete : {b i j q d X : ℕ} → Derivation src.grammar ws X i j → Live src ws b i → In src b q d → Next src.grammar q d X
        → (s : ℕ) × (src.next b X ≡ Some s) × Linked src ws s j b i
    complete (word t h e) l i n =
        let (s, f) = next_some law (live_state law l) i n in
        (s, f, shift l h (rw e t) (rw e f))
    complete (node r h e ps) l i n =
        let (s, f) = next_some law (live_state law l) i n in
        let p = predicts r l i h (rw e n) in
        let (t, c, d) = advance ps l h (omega arith) p refl stay in
        (s, f, reduce r t l h c (law.done_row t r (chain_state law c (live_state law l)) h ∙ d) (rw e f))

    -- The parts behind the dot of an item make a chain that carries the dot to the end.
    pub advance : {b i k j t q d : ℕ} {Xs : List ℕ} → Parts src.grammar ws Xs k j → Live src ws t k
        → q < rule_count src.grammar → d ≤ length (rhs src.grammar q)
        → In src t q d → Xs ≡ drop d (rhs src.grammar q) → Chain src ws d t k b i
        → (u : ℕ) × Chain src ws (length (rhs src.grammar q)) u j b i × In src u q (length (rhs src.grammar q))
    advance {t = t} {q = q} {d = d} end l h m i e c =
        let f : d ≡ length (rhs src.grammar q) = omega (arith, ap length e ∙ length-drop d (rhs src.grammar q)) in
        (t, rw f at c, rw f at i)
    advance (part k d ps) l h m i e c =
        let (n, f) = begins_next h e in
        let (s, x, u) = complete d l i n in
        advance ps (linked u) h n.dot_in (step_in law (live_state law l) x i n) f (down u c)
