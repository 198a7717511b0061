-- Laws of `listed`, and of lists joined from parts.
use Rattle.std.proofs.Common.{◌≡◌, ℕ, zero, suc, ◌+◌, ◌*◌, ◌<◌, ◌≤◌, List, [], ◌∷◌, ◌++◌, length, get_or, drop, sym, refl, ap, ◌∙◌, append_assoc, add-one, arith, length-append}
use native.Mathlib.Decide.{dec_lt}
use lib.Seq.{drop-append-add}
use Rattle.std.specs.List.{flat_map}
use Rattle.std.proofs.lemmas.List.{length_push, get_or_append_left, get_or_push, same_lists, get_or_default, flat_map_more}
use Rattle.grammar_format.specs.Fields.{listed}

module _ {A : Type 0} where
  pub listed_none : (f : ℕ → A) → listed f 0 ≡ []
  unfolding listed
  listed_none f = refl

  pub listed_more : (f : ℕ → A) (n : ℕ) → listed f (n + 1) ≡ listed f n ++ f n ∷ []
  unfolding listed
  listed_more f n = rw add-one refl

  pub length_listed : (f : ℕ → A) (n : ℕ) → length (listed f n) ≡ n
  unfolding listed
  length_listed f zero = refl
  length_listed f (suc n) = omega (arith, length_push (listed f n) (f n), length_listed f n)

  pub getD_listed : (f : ℕ → A) (n k : ℕ) (d : A) → k < n → get_or (listed f n) k d ≡ f k
  unfolding listed
  getD_listed f zero k d h = absurd (omega arith)
  getD_listed f (suc n) k d h =
      elim (dec_lt k n) [
        | yes l ↦ get_or_append_left (listed f n) (f n ∷ []) d k (omega (arith, length_listed f n)) ∙ getD_listed f n k d l
        | no l ↦
            let e : n ≡ k = omega arith in
            get_or_push (listed f n) (f n) d k (length_listed f n ∙ e) ∙ ap f e
      ]

  pub listed_same : (f g : ℕ → A) (n : ℕ) → ((k : ℕ) → k < n → f k ≡ g k) → listed f n ≡ listed g n
  unfolding listed
  listed_same f g zero s = refl
  listed_same f g (suc n) s = rw (listed_same f g n (λ k h. s k (omega arith)), s n (omega arith)) refl

  pub listed_getD : (xs : List A) (d : A) → listed (λ k. get_or xs k d) (length xs) ≡ xs
  listed_getD xs d =
      same_lists (listed (λ k. get_or xs k d) (length xs)) xs (length_listed (λ k. get_or xs k d) (length xs))
      (λ k e h.
      let l : k < length xs = omega (arith, length_listed (λ k. get_or xs k d) (length xs)) in
      getD_listed (λ k. get_or xs k d) (length xs) k e l ∙ get_or_default xs k d e l)

  -- What f gives at the places below n, when that is what xs holds there.
  pub listed_is : (f : ℕ → A) (xs : List A) (n : ℕ) (d : A) → length xs ≡ n → ((k : ℕ) → k < n → f k ≡ get_or xs k d) → listed f n ≡ xs
  listed_is f xs n d e s = listed_same f (λ k. get_or xs k d) n s ∙ (ap (listed (λ k. get_or xs k d)) (sym e) ∙ listed_getD xs d)

module _ {X A : Type 0} (h : X → List A) where
  -- Parts that are cut off the front of what is left, one after another, and what is left at the end.
  pub joined_listed : (f : ℕ → X) (rest : ℕ → List A) (n : ℕ)
      → ((k : ℕ) → k < n → h (f k) ++ rest (suc k) ≡ rest k) → flat_map h (listed f n) ++ rest n ≡ rest 0
  unfolding listed
  joined_listed f rest zero s = refl
  joined_listed f rest (suc n) s =
      ap (λ l. l ++ rest (suc n)) (sym (flat_map_more h [] (listed f n) (f n)))
      ∙ (append_assoc (flat_map h (listed f n)) (h (f n)) (rest (suc n))
      ∙ (ap (λ l. flat_map h (listed f n) ++ l) (s n (omega arith)) ∙ joined_listed f rest n (λ k l. s k (omega arith))))

  -- Parts of one size m, or of that size at most.
  module _ (m : ℕ) (d : X) where
    pub length_joined : (xs : List X) → ((k : ℕ) → k < length xs → length (h (get_or xs k d)) ≡ m) → length (flat_map h xs) ≡ m * length xs
    length_joined [] s = omega arith
    length_joined (x ∷ xs) s =
        omega (arith, length-append (h x) (flat_map h xs), s 0 (omega arith), length_joined xs (λ k l. s (suc k) (omega arith)))

    pub length_joined_le : (xs : List X) → ((k : ℕ) → k < length xs → length (h (get_or xs k d)) ≤ m) → length (flat_map h xs) ≤ m * length xs
    length_joined_le [] s = omega arith
    length_joined_le (x ∷ xs) s =
        omega (arith, length-append (h x) (flat_map h xs), s 0 (omega arith), length_joined_le xs (λ k l. s (suc k) (omega arith)))

    pub drop_joined : (xs : List X) (rest : List A) (r : ℕ) → ((k : ℕ) → k < length xs → length (h (get_or xs k d)) ≡ m)
        → r ≤ length xs → drop (m * r) (flat_map h xs ++ rest) ≡ flat_map h (drop r xs) ++ rest
    drop_joined xs rest zero s l =
        let e : m * 0 ≡ 0 = omega arith in
        rw e refl
    drop_joined [] rest (suc r) s l = absurd (omega arith)
    drop_joined (x ∷ xs) rest (suc r) s l =
        let e : m * suc r ≡ length (h x) + m * r = omega (arith, s 0 (omega arith)) in
        rw (e, append_assoc (h x) (flat_map h xs) rest, drop-append-add (h x) (flat_map h xs ++ rest) (m * r))
        (drop_joined xs rest r (λ k i. s (suc k) (omega arith)) (omega arith))
