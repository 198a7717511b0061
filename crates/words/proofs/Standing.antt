-- Where the runs of a text stand.
use Rattle.std.proofs.Common.{◌≡◌, ℕ, suc, ◌+◌, ◌-◌, ◌<◌, ◌≤◌, Bool, true, false, cond, List, [], ◌∷◌, length, take, drop, sym, refl, ap, ◌∙◌, subst, inl, inr, arith}
use Rattle.std.proofs.lemmas.List.{length-take, length-drop, drop-drop}
use Rattle.std.proofs.lemmas.Bool.{cases_Bool}
use Rattle.std.proofs.lemmas.Bool.Decides.{nat_tests}
use Rattle.words.specs.Bytes.{is_blank, opens_remark, ends_remark}
use Rattle.words.specs.Places.{part}
use Rattle.words.specs.Runs.{Run, run_end, unremarked, front, begun, runs}
use Rattle.words.proofs.Running.{first_run_taken}
use Rattle.words.proofs.Scanning.{space_blank}

-- The run r stands in the text at i or behind it, with its bytes.
pub record Standing (text : List ℕ) (i : ℕ) (r : Run) : Type 0 where
  pub behind : i ≤ r.from
  pub some : 0 < length r.bytes
  pub within : run_end r ≤ length text
  pub there : r.bytes ≡ part text r.from (run_end r)

abbrev pub InRow : List ℕ → ℕ → List Run → Type 0
InRow text i [] = Unit {0}
InRow text i (r ∷ rs) = Standing text i r × InRow text (run_end r) rs

sooner : (text : List ℕ) (i j : ℕ) (rs : List Run) → i ≤ j → InRow text j rs → InRow text i rs
sooner text i j [] l h = tt
sooner text i j (r ∷ rs) l h =
    (record { behind = omega (arith, h.0.behind); some = h.0.some; within = h.0.within; there = h.0.there }, h.1)

-- What ends a remark is a blank.
pub line_feed_blank : (b : ℕ) → ends_remark b ≡ true → is_blank b ≡ true
unfolding is_blank ends_remark
line_feed_blank b e = grind (arith, nat_tests)

-- Bytes before the first blank stand in the text as they are, and there are none within a remark.
front_taken : (o : Bool) (xs : List ℕ) → front (unremarked o xs) ≡ take (length (front (unremarked o xs))) xs
front_taken true [] = refl
front_taken true (b ∷ xs) =
    elim (cases_Bool (ends_remark b)) [
      | inl e ↦ simp (e, line_feed_blank b e)
      | inr e ↦ simp (e, space_blank)
    ]
front_taken false xs = first_run_taken xs

-- Where the next run may begin: behind the bytes of a run that is open.
abbrev after : Bool → ℕ → List ℕ → ℕ
after o i zs = cond o (i + length (front zs)) i

-- One byte more in front of bytes zs whose runs are known to stand in the text.
module _ (text : List ℕ) (i z : ℕ) (xs zs : List ℕ) (here : drop i text ≡ xs) (taken : front (z ∷ zs) ≡ take (length (front (z ∷ zs))) xs) where
  -- The run that begins at a byte that is no blank.
  begun_here : 0 < length (front (z ∷ zs)) → Standing text i (record { from = i; bytes = front (z ∷ zs) })
  begun_here h =
      let short : length (front (z ∷ zs)) ≤ length text - i = omega (arith, ap length taken, length-take (length (front (z ∷ zs))) xs, ap length here, length-drop i text) in
      let size : i + length (front (z ∷ zs)) - i ≡ length (front (z ∷ zs)) = omega arith in
      record {
        behind = omega arith;
        some = omega arith;
        within = omega arith;
        there = taken ∙ ap (take (length (front (z ∷ zs)))) (sym here) ∙ ap (λ k. take k (drop i text)) (sym size);
      }

  one_more : (o a : Bool) → is_blank z ≡ a → InRow text (i + 1) (begun (i + 1) false zs) → InRow text (i + 1 + length (front zs)) (begun (i + 1) true zs) → InRow text (after o i (z ∷ zs)) (begun i o (z ∷ zs))
  one_more true true e shut going = simp e (sooner text (i + 0) (i + 1) (begun (i + 1) false zs) (omega arith) shut)
  one_more false true e shut going = simp e (sooner text i (i + 1) (begun (i + 1) false zs) (omega arith) shut)
  one_more true false e shut going =
      simp e (subst (λ j. InRow text j (begun (i + 1) true zs)) (let k : i + 1 + length (front zs) ≡ i + suc (length (front zs)) = omega arith in k) going)
  one_more false false e shut going =
      let size : length (front (z ∷ zs)) ≡ suc (length (front zs)) = simp e in
      simp e (
        simp e at (begun_here (omega arith)),
        subst (λ j. InRow text j (begun (i + 1) true zs)) (let k : i + 1 + length (front zs) ≡ i + suc (length (front zs)) = omega arith in k) going,
      )

-- The runs of a text stand in a row.
runs_stand : (text : List ℕ) (i : ℕ) (o m : Bool) (xs : List ℕ) → drop i text ≡ xs → InRow text (after o i (unremarked m xs)) (begun i o (unremarked m xs))
runs_stand text i o true [] e = tt
runs_stand text i o false [] e = tt
runs_stand text i o false (b ∷ xs) e =
    let f = sym (drop-drop 1 i text) ∙ ap (drop 1) e in
    elim (cases_Bool (opens_remark b)) [
      | inl g ↦
          simp g
          (one_more text i 32 (b ∷ xs) (unremarked true xs) e (simp g at (front_taken false (b ∷ xs))) o (is_blank 32) refl
          (runs_stand text (i + 1) false true xs f) (runs_stand text (i + 1) true true xs f))
      | inr g ↦
          simp g
          (one_more text i b (b ∷ xs) (unremarked false xs) e (simp g at (front_taken false (b ∷ xs))) o (is_blank b) refl
          (runs_stand text (i + 1) false false xs f) (runs_stand text (i + 1) true false xs f))
    ]
runs_stand text i o true (b ∷ xs) e =
    let f = sym (drop-drop 1 i text) ∙ ap (drop 1) e in
    elim (cases_Bool (ends_remark b)) [
      | inl g ↦
          simp g
          (one_more text i b (b ∷ xs) (unremarked false xs) e (simp g at (front_taken true (b ∷ xs))) o (is_blank b) refl
          (runs_stand text (i + 1) false false xs f) (runs_stand text (i + 1) true false xs f))
      | inr g ↦
          simp g
          (one_more text i 32 (b ∷ xs) (unremarked true xs) e (simp g at (front_taken true (b ∷ xs))) o (is_blank 32) refl
          (runs_stand text (i + 1) false true xs f) (runs_stand text (i + 1) true true xs f))
    ]

pub runs_in_row : (text : List ℕ) → InRow text 0 (runs 0 text)
runs_in_row text = runs_stand text 0 false false text refl
