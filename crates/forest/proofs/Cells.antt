-- What the cells of a table tell, and how they change.
use Rattle.std.specs.Prelude.{◌≡◌, ℕ, zero, suc, ◌<◌, ◌≤◌, Bool, true, false, ◌&&◌, ◌≢◌, ◌⊎◌, List, [], length, replicate, nat_le, nat_lt, slice_index_or, slice_set, refl}
use Rattle.std.proofs.Common.{sym, ap, subst, ◌∙◌, true≢false, inl, inr, arith, get_or-set_same, get_or-set_other}
use Rattle.std.proofs.lemmas.Bool.{cases_order, lt-ltb, le-leb, and_from}
use Rattle.parsing.specs.Items.{Source}
use Rattle.rows.specs.Rows.{member}
use Rattle.rows.specs.declared.symbols.SymbolSet.{SymbolSet}
use Rattle.rows.proofs.Rows.{on_zero}
use Rattle.link_growth.specs.declared.Link.{Link}
use Rattle.forest.specs.TableLaws.{told_parts}
use Rattle.forest.specs.Tables.{cell, told, Joined, Grown, One, OfLink}

not-true : (b : Bool) → (b ≢ true) → b ≡ false
not-true true f = absurd (f refl)
not-true false f = refl

module _ (cells : List (List SymbolSet)) (x i j : ℕ) where
  pub told_from : j < 256 → i ≤ j → member (cell cells i j) x ≡ true → told cells x i j ≡ true
  unfolding told
  told_from l m h = and_from (nat_lt j 256) _ (lt-ltb j 256 l) (and_from (nat_le i j) _ (le-leb i j m) h)

  pub told_here : j < 256 → i ≤ j → told cells x i j ≡ member (cell cells i j) x
  unfolding told
  told_here l m =
      ap (λ t. t && (nat_le i j && member (cell cells i j) x)) (lt-ltb j 256 l)
      ∙ ap (λ t. t && member (cell cells i j) x) (le-leb i j m)

  pub told_back : j < i → told cells x i j ≡ false
  told_back l = not-true (told cells x i j) (λ h. let (a, b, c) = told_parts cells x i j h in omega arith)

module _ (s : SymbolSet) (none : (x : ℕ) → member s x ≡ false) where
  none_in_row : (m j x : ℕ) → member (slice_index_or (replicate m s) j (record { bits = 0 })) x ≡ false
  none_in_row zero j x = on_zero x
  none_in_row (suc m) zero x = none x
  none_in_row (suc m) (suc j) x = none_in_row m j x

  none_in_cells : (n m i j x : ℕ) → member (cell (replicate n (replicate m s)) i j) x ≡ false
  none_in_cells zero m i j x = on_zero x
  none_in_cells (suc n) m zero j x = none_in_row m j x
  none_in_cells (suc n) m (suc i) j x = none_in_cells n m i j x

  pub told_none : (n m x i j : ℕ) → told (replicate n (replicate m s)) x i j ≡ false
  told_none n m x i j = not-true (told (replicate n (replicate m s)) x i j)
      (λ h. let (a, b, c) = told_parts (replicate n (replicate m s)) x i j h in true≢false (sym c ∙ none_in_cells n m i j x))

-- A symbol that is added to one cell.
pub set_grown : (cells : List (List SymbolSet)) (x i j : ℕ) (row : List SymbolSet) → i < length cells → j < 256 → Joined x j (slice_index_or cells i []) row
    → Grown (One x i j) (told cells) (told (slice_set cells i row))
set_grown cells x i j row il jb added = record {
  kept = λ y a b h.
      let (bl, ab, o) = told_parts cells y a b h in
      told_from new y a b bl ab (elim (place a b) [
        | inl (p, q) ↦ ap (λ t. member t y) (here a b p q)
            ∙ added.joins.kept y (subst (λ t. member (cell cells t j) y ≡ true) p (subst (λ t. member (cell cells a t) y ≡ true) q o))
        | inr n ↦ ap (λ t. member t y) (there a b n) ∙ o
      ]);
  whole = λ y a b w.
      told_from new y a b (let q = w.to in omega arith) (let p = w.from in let q = w.to in let f = w.forward in omega arith)
      (ap (λ t. member t y) (here a b w.from w.to) ∙ ap (member added.symbols) w.symbol ∙ added.joins.added w.small);
  only = λ y a b h.
      let (bl, ab, o) = told_parts new y a b h in
      elim (place a b) [
        | inl (p, q) ↦ elim (added.joins.only y (sym (ap (λ t. member t y) (here a b p q)) ∙ o)) [
          | inl m ↦ inl (told_from cells y a b bl ab
              (subst (λ t. member (cell cells a t) y ≡ true) (sym q) (subst (λ t. member (cell cells t j) y ≡ true) (sym p) m)))
          | inr m ↦ inr (record { symbol = m.0; from = p; to = q; small = (let e = m.0 in let l = m.1 in omega arith); forward = omega arith })
        ]
        | inr n ↦ inl (told_from cells y a b bl ab (sym (ap (λ t. member t y) (there a b n)) ∙ o))
      ];
}
  where
    new : List (List SymbolSet)
    new = slice_set cells i row

    place : (a b : ℕ) → ((a ≡ i) × (b ≡ j)) ⊎ ((a ≢ i) ⊎ ((a ≡ i) × (b ≢ j)))
    place a b = elim (cases_order a i) [
      | inl p ↦ elim (cases_order b j) [
        | inl q ↦ inl (p, q)
        | inr (inl l) ↦ inr (inr (p, λ q. omega arith))
        | inr (inr l) ↦ inr (inr (p, λ q. omega arith))
      ]
      | inr (inl l) ↦ inr (inl (λ p. omega arith))
      | inr (inr l) ↦ inr (inl (λ p. omega arith))
    ]

    at_row : (a b : ℕ) → a ≡ i → cell new a b ≡ slice_index_or (slice_set (slice_index_or cells i []) j added.symbols) b (record { bits = 0 })
    at_row a b p =
        ap (λ t. cell new t b) p
        ∙ ap (λ r. slice_index_or r b (record { bits = 0 })) (get_or-set_same cells i row [] il ∙ added.put)

    here : (a b : ℕ) → a ≡ i → b ≡ j → cell new a b ≡ added.symbols
    here a b p q =
        at_row a b p
        ∙ ap (λ t. slice_index_or (slice_set (slice_index_or cells i []) j added.symbols) t (record { bits = 0 })) q
        ∙ get_or-set_same (slice_index_or cells i []) j added.symbols (record { bits = 0 }) (let s = added.size in omega arith)

    there : (a b : ℕ) → (a ≢ i) ⊎ ((a ≡ i) × (b ≢ j)) → cell new a b ≡ cell cells a b
    there a b (inl n) = ap (λ r. slice_index_or r b (record { bits = 0 })) (get_or-set_other cells i a row [] n)
    there a b (inr (p, n)) =
        at_row a b p
        ∙ get_or-set_other (slice_index_or cells i []) j b added.symbols (record { bits = 0 }) n
        ∙ ap (λ t. cell cells t b) (sym p)

-- The nonterminals below n that the link k is entered by.
abbrev pub Entered : Source → Link → ℕ → ℕ → ℕ → ℕ → Type 0
Entered src k n x i j = OfLink src k x i j × (x < n)
