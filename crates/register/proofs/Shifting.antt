-- Slots of which some were copied one place up, and slots that were filled.
use Rattle.std.proofs.Common.{◌≡◌, ℕ, ◌+◌, ◌-◌, ◌<◌, ◌≤◌, List, [], ◌∷◌, ◌++◌, length, get_or, take, drop, set, replicate, sym, refl, ap, ◌∙◌, subst, ap₂, append_assoc, append-nil, arith}
use Rattle.std.specs.List.{insert, copy_within, FoldsTo}
use Rattle.std.proofs.Math.Seq.{take-set-lt}
use Rattle.std.proofs.lemmas.List.{take_more, take-take, drop-take, drop_all, set_at, length-take-le, length-drop}
use Rattle.std.proofs.lemmas.List.Edits.{take-paste, paste_all}
use Rattle.std.proofs.lemmas.Slice.{put_mid-paste}
use borrow.Rule.Slice.PartMut.{put_mid}

module _ {X : Type 0} where
  -- Those of the first n from k on are copied one place up, and x is written at k.
  pub put_in : (xs : List X) (n k : ℕ) (x : X) → n < length xs → k ≤ n → take (n + 1) (set (copy_within xs k n (k + 1)) k x) ≡ insert (take n xs) k x
  put_in xs n k x l kn =
      let ds = drop k (take n xs) in
      let e : k + 1 + (n - k) ≡ n + 1 = omega arith in
      let f : k + (n - k) ≡ n = omega arith in
      let same : take (n - k) (drop k xs) ≡ ds = sym (rw f at (drop-take k (n - k) xs)) in
      let P : ℕ → Type 0 = λ m. take m (copy_within xs k n (k + 1)) ≡ take (k + 1) xs ++ take (n - k) (drop k xs) in
      let copied : take (n + 1) (copy_within xs k n (k + 1)) ≡ take (k + 1) xs ++ ds =
      subst P e (take-paste xs (k + 1) (drop k xs) (n - k) (omega arith) (let h = length-drop k xs in omega arith)) ∙ ap (λ zs. take (k + 1) xs ++ zs) same in
      take-set-lt (n + 1) (copy_within xs k n (k + 1)) k x (omega arith)
      ∙ ap (λ zs. set zs k x) (copied ∙ ap (λ zs. zs ++ ds) (take_more xs k x (omega arith)) ∙ append_assoc (take k xs) (get_or xs k x ∷ []) ds)
      ∙ set_at (take k xs) (get_or xs k x) ds x k (length-take-le k xs (omega arith))
      ∙ ap (λ zs. zs ++ x ∷ ds) (sym (take-take k n xs kn))

  -- A list of which each element is given as x, by a giver that stays as it is.
  pub all_alike : {P : Type 0} (R : P → X → P → Type 0) (x : X) (p : P) → ((y : X) (q : P) → R p y q → (y ≡ x) × (q ≡ p)) → (ys : List X) (q : P)
      → FoldsTo R p ys q → ys ≡ replicate (length ys) x
  all_alike R x p f [] q h = refl
  all_alike R x p f (y ∷ ys) q (j, r, s) =
      let (a, b) = f y j r in
      ap₂ ◌∷◌ a (all_alike R x p f ys q (subst (λ i. FoldsTo R i ys q) b s))

  -- The part from a on is replaced.
  pub part_replaced : (xs ys : List X) (a : ℕ) → length ys ≡ length xs - a → put_mid a (length xs - a) xs ys ≡ take a xs ++ ys
  part_replaced xs ys a e =
      let n = length xs - a in
      put_mid-paste a n xs ys ys n refl refl (sym e)
      ∙ paste_all xs a ys n (sym e)
      ∙ ap (λ zs. take a xs ++ (ys ++ zs)) (drop_all (a + n) xs (omega arith))
      ∙ ap (λ zs. take a xs ++ zs) (append-nil ys)
