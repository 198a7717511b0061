-- The sentences of P begin with 0, and have two words, or five, or eight, and so on.
use Rattle.std.proofs.Common.{◌≡◌, ℕ, zero, suc, ◌+◌, ◌*◌, ◌<◌, List, [], ◌∷◌, length, get_or, refl, arith}
use Rattle.parsing.specs.Grammar.{lhs, rhs, rule, Derivation, word, node, end, part, Sentence}
use Rattle.histories.specs.Laws.{NoneBegins}
use Rattle.known.specs.Samples.{p}

-- A terminal derives one word, itself.
record Leaf (ws : List ℕ) (X i j : ℕ) : Type 0 where
  pub next : j ≡ suc i
  pub is : get_or ws i 0 ≡ X

leaf : {ws : List ℕ} {X i j : ℕ} → Derivation p.grammar ws X i j → X < 3 → Leaf ws X i j
unfolding lhs rhs rule
leaf (word t h e) q = record { next = refl; is = e }
leaf (node zero h e ps) q = absurd (omega arith)
leaf (node (suc zero) h e ps) q = absurd (omega arith)
leaf (node (suc (suc zero)) h e ps) q = absurd (omega arith)
leaf (node (suc (suc (suc r))) h e ps) q = absurd (omega arith)

record Shape (ws : List ℕ) (i j : ℕ) : Type 0 where
  pub first : get_or ws i 0 ≡ 0
  pub more : ℕ
  pub long : j ≡ i + (3 * more + 2)

shape : {ws : List ℕ} {i j : ℕ} {X : ℕ} → Derivation p.grammar ws X i j → X ≡ 4 → Shape ws i j
unfolding lhs rhs rule
shape (word t h e) q = absurd (omega arith)
shape (node zero h e ps) q = absurd (omega arith)
shape (node (suc zero) h e (part k d (part m c end))) q =
    let x = leaf d (omega arith) in
    let y = leaf c (omega arith) in
    record { first = x.is; more = 0; long = omega (arith, x.next, y.next) }
shape (node (suc (suc zero)) h e (part k d (part m c (part l b end)))) q =
    let x = shape d refl in
    let y = leaf c (omega arith) in
    let z = shape b refl in
    record { first = x.first; more = suc (x.more + z.more); long = omega (arith, x.long, y.next, z.long) }
shape (node (suc (suc (suc r))) h e ps) q = absurd (omega arith)

sentence_shape : (ws : List ℕ) → Sentence p.grammar ws → Shape ws 0 (length ws)
unfolding lhs rhs rule
sentence_shape ws d = shape d refl

pub three_none : {a b c : ℕ} → Sentence p.grammar (a ∷ b ∷ c ∷ []) → ⊥
three_none {a} {b} {c} d = let x = sentence_shape (a ∷ b ∷ c ∷ []) d in let e = x.long in omega arith

pub second_begins_none : NoneBegins p.grammar (1 ∷ [])
second_begins_none vs d = let x = sentence_shape (1 ∷ vs) d in let e = x.first in omega arith

pub first_two : Sentence p.grammar (0 ∷ 1 ∷ [])
unfolding lhs rhs rule
first_two =
    node 1 (omega arith) refl
    (part 1 (word (omega arith) (omega arith) refl) (part 2 (word (omega arith) (omega arith) refl) end))
