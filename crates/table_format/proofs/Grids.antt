-- Laws of `grid`: rows of one length, one after another.
use Rattle.std.proofs.Common.{◌≡◌, ℕ, zero, suc, ◌+◌, ◌*◌, ◌/◌, ◌%◌, ◌<◌, List, [], ◌++◌, length, get_or, sym, refl, ap, ◌∙◌, subst, add-one, arith, ext_get_or}
use native.Mathlib.Decide.{ℕ_discrete, dec_lt}
use Rattle.std.specs.List.{AllByRecursion as All}
use Rattle.std.proofs.lemmas.Nat.{mul-add-lt, div-add-mod', div_below, mod_below}
use Rattle.std.proofs.ByRecursion.{All-from_get_or}
use Rattle.std.proofs.lemmas.List.{length-append, get_or_append_left, get_or-append_right}
use Rattle.grammar_format.specs.Fields.{listed}
use Rattle.grammar_format.proofs.Listed.{length_listed, getD_listed}
use Rattle.table_format.specs.Sheets.{grid}

-- A place among m rows of n values is in one row.
pub record Cell (m n k : ℕ) : Type 0 where
  pub row_in : k / n < m
  pub column_in : k % n < n
  pub is : k ≡ k / n * n + k % n

pub cell : (m n k : ℕ) → k < m * n → Cell m n k
cell m n k h = record {
  row_in = div_below k n m some h;
  column_in = mod_below k n some;
  is = omega (arith, div-add-mod' k n);
}
  where
    none : n ≡ 0 → ⊥
    none z = let l = rw z at h in omega arith

    some : 0 < n
    some = elim (ℕ_discrete n 0) [ yes z ↦ absurd (none z) | no p ↦ omega arith ]

pub grid_none : (f : ℕ → ℕ → ℕ) (n : ℕ) → grid f 0 n ≡ []
unfolding grid
grid_none f n = refl

pub grid_more : (f : ℕ → ℕ → ℕ) (m n : ℕ) → grid f (m + 1) n ≡ grid f m n ++ listed (f m) n
unfolding grid
grid_more f m n = rw add-one refl

pub length_grid : (f : ℕ → ℕ → ℕ) (m n : ℕ) → length (grid f m n) ≡ m * n
unfolding grid
length_grid f zero n = omega arith
length_grid f (suc m) n = omega (arith, length-append (grid f m n) (listed (f m) n), length_grid f m n, length_listed (f m) n)

pub getD_grid : (f : ℕ → ℕ → ℕ) (m n s x : ℕ) → s < m → x < n → get_or (grid f m n) (s * n + x) 0 ≡ f s x
unfolding grid
getD_grid f zero n s x h l = absurd (omega arith)
getD_grid f (suc m) n s x h l =
    elim (dec_lt s m) [
      | yes k ↦
          get_or_append_left (grid f m n) (listed (f m) n) 0 (s * n + x) (omega (arith, length_grid f m n, mul-add-lt s n x m k l))
          ∙ getD_grid f m n s x k l
      | no k ↦
          let e : s ≡ m = omega arith in
          rw e (last m x l)
    ]
  where
    last : (m x : ℕ) → x < n → get_or (grid f m n ++ listed (f m) n) (m * n + x) 0 ≡ f m x
    last m x l =
        get_or-append_right (grid f m n) (listed (f m) n) (m * n) (m * n + x) 0 (length_grid f m n) (omega arith)
        ∙ (ap (λ k. get_or (listed (f m) n) k 0) (omega arith) ∙ getD_listed (f m) n x 0 l)

-- The grid that a list is.
pub grid_is : (f : ℕ → ℕ → ℕ) (m n : ℕ) (xs : List ℕ) → length xs ≡ m * n
    → ((s x : ℕ) → s < m → x < n → f s x ≡ get_or xs (s * n + x) 0) → grid f m n ≡ xs
grid_is f m n xs e same =
    ext_get_or 0 (grid f m n) xs (length_grid f m n ∙ sym e)
    (λ k h.
    let c = cell m n k (omega (arith, length_grid f m n)) in
    ap (λ k. get_or (grid f m n) k 0) c.is
    ∙ (getD_grid f m n (k / n) (k % n) c.row_in c.column_in
    ∙ (same (k / n) (k % n) c.row_in c.column_in ∙ ap (λ k. get_or xs k 0) (omega (arith, c.is)))))

-- What holds of each value holds of all of the list.
pub all_grid : (P : ℕ → Type 0) (f : ℕ → ℕ → ℕ) (m n : ℕ) → ((s x : ℕ) → s < m → x < n → P (f s x)) → All P (grid f m n)
all_grid P f m n each =
    All-from_get_or P (grid f m n) 0
    (λ k h.
    let c = cell m n k (omega (arith, length_grid f m n)) in
    subst (λ (j : ℕ). P (get_or (grid f m n) j 0)) (sym c.is)
    (rw (getD_grid f m n (k / n) (k % n) c.row_in c.column_in) (each (k / n) (k % n) c.row_in c.column_in)))
