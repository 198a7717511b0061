-- Derivations look only at their own words: they can be carried to other words, and put one behind another.
use Rattle.std.proofs.Common.{◌≡◌, ℕ, suc, ◌+◌, ◌<◌, ◌≤◌, List, [], ◌∷◌, ◌++◌, length, get_or, sym, refl, ◌∙◌, subst₂, append_assoc, append-nil, add-zero, add-suc, zero-add, arith, length-append, get_or-append-add}
use lib.ListN.{get_or-append}
use Rattle.parsing.specs.Grammar.{Grammar, Productive}
use Rattle.parsing.specs.Grammar.{Derivation, word, node, Parts, end, part}

mutual
  -- A derivation goes forward.
  pub derivation_forward : {g : Grammar} {ws : List ℕ} {X i j : ℕ} → Derivation g ws X i j → i ≤ j
  derivation_forward (word t h e) = omega arith
  derivation_forward (node r h e ps) = parts_forward ps

  pub parts_forward : {g : Grammar} {ws : List ℕ} {Xs : List ℕ} {i j : ℕ} → Parts g ws Xs i j → i ≤ j
  parts_forward end = omega arith
  parts_forward (part k d ps) =
      let a = derivation_forward d in
      let b = parts_forward ps in
      omega arith

-- The words of ws from i to j stand in zs as well, o places further on.
abbrev pub Match : List ℕ → List ℕ → ℕ → ℕ → ℕ → Type 0
Match ws zs o i j =
    (k : ℕ) → i ≤ k → k < j → k < length ws → (o + k < length zs) × (get_or ws k 0 ≡ get_or zs (o + k) 0)

mutual
  -- A derivation is carried along with its words.
  pub carry : {g : Grammar} {ws zs : List ℕ} (o : ℕ) {X i j : ℕ}
      → Derivation g ws X i j → Match ws zs o i j → Derivation g zs X (o + i) (o + j)
  carry o (word {i = i} t h e) m =
      let (a, b) = m i (omega arith) (omega arith) h in
      rw add-suc (word t a (sym b ∙ e))
  carry o (node r h e ps) m = node r h e (carry_parts o ps m)

  pub carry_parts : {g : Grammar} {ws zs : List ℕ} (o : ℕ) {Xs : List ℕ} {i j : ℕ}
      → Parts g ws Xs i j → Match ws zs o i j → Parts g zs Xs (o + i) (o + j)
  carry_parts o end m = end
  carry_parts o (part k d ps) m =
      let a = derivation_forward d in
      let b = parts_forward ps in
      part (o + k)
      (carry o d (λ n p q. m n p (omega arith)))
      (carry_parts o ps (λ n p q. m n (omega arith) q))

-- The first n words of ws stand in zs at the same places.
abbrev pub Agree : ℕ → List ℕ → List ℕ → Type 0
Agree n ws zs = (k : ℕ) → k < n → k < length ws → (k < length zs) × (get_or ws k 0 ≡ get_or zs k 0)

-- A derivation that ends at j looks only at the first j words.
pub local : {g : Grammar} {ws zs : List ℕ} {X i j : ℕ} → Agree j ws zs → Derivation g ws X i j → Derivation g zs X i j
local {g} {ws} {zs} {X} {i} {j} m d =
    subst₂ (Derivation g zs X) (zero-add i) (zero-add j)
    (carry 0 d (λ k p q h. let (a, b) = m k q h in (rw zero-add a, rw zero-add b)))

-- ws stands at the same places in ws ++ vs.
pub agree_append : (n : ℕ) (ws vs : List ℕ) → Agree n ws (ws ++ vs)
agree_append n ws vs k p h = (rw length-append (omega arith), sym (get_or-append ws vs 0 k h))

-- And the first words of ws ++ vs stand in ws, up to its length.
pub agree_cut : (n : ℕ) (ws vs : List ℕ) → n ≤ length ws → Agree n (ws ++ vs) ws
agree_cut n ws vs l k p h = let q : k < length ws = omega arith in (q, get_or-append ws vs 0 k q)

-- Derivations over ws are derivations over ws with more words behind.
pub monotone : {g : Grammar} {ws : List ℕ} (vs : List ℕ) {X i j : ℕ} → Derivation g ws X i j → Derivation g (ws ++ vs) X i j
monotone {ws = ws} vs {j = j} = local (agree_append j ws vs)

-- A derivation of the whole of us is one over zs ++ us, behind zs.
pub behind : {g : Grammar} (zs : List ℕ) {us : List ℕ} {X : ℕ} → Derivation g us X 0 (length us)
    → Derivation g (zs ++ us) X (length zs) (length (zs ++ us))
behind {g} zs {us} {X} d =
    subst₂ (Derivation g (zs ++ us) X) (add-zero (length zs)) (sym (length-append zs us))
    (carry (length zs) d (λ k p q h. (rw length-append (omega arith), sym (get_or-append-add zs us k 0))))

-- A single part is a derivation.
pub only : {g : Grammar} {ws : List ℕ} {X i j : ℕ} → Parts g ws (X ∷ []) i j → Derivation g ws X i j
only (part k d end) = d

-- A terminal derives itself.
pub terminal_productive : (g : Grammar) (X : ℕ) → X < g.terminals → Productive g X
terminal_productive g X h = (X ∷ [], word h (omega arith) refl)

-- Productive symbols derive, one after another, some words behind any others.
pub derive_behind : {g : Grammar} (zs Xs : List ℕ) → ((k : ℕ) → k < length Xs → Productive g (get_or Xs k 0))
    → (us : List ℕ) × Parts g (zs ++ us) Xs (length zs) (length (zs ++ us))
derive_behind zs [] f = ([], rw append-nil end)
derive_behind zs (X ∷ Xs) f =
    let (us, d) = f 0 (omega arith) in
    let (vs, ps) = derive_behind (zs ++ us) Xs (λ k h. f (suc k) (omega arith)) in
    (us ++ vs, rw (← append_assoc zs us vs) (part (length (zs ++ us)) (monotone vs (behind zs d)) ps))
