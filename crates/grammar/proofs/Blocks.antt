-- The nine bytes of a rule.
use Rattle.std.proofs.Common.{take-take, ◌≡◌, ℕ, zero, suc, ◌+◌, ◌-◌, ◌*◌, ◌/◌, ◌<◌, ◌≤◌, ◌≢◌, List, [], length, get_or, take, drop, sym, ap, ◌∙◌, ap₂, refl, arith, length-drop, get_or-drop, get_or-take, length-take-le}
use mathlib.Core.Path.{subst₃}
use Rattle.std.proofs.lemmas.List.{drop-drop, drop-take, take_all}
use Rattle.std.specs.Simd.{first_chunks}
use Rattle.grammar_format.specs.Sheets.{rule_bytes, rules_end}
use Rattle.grammar_format.specs.Fields.{terminals, nonterminals, symbols, rules, block, left, right_length, right, rule_of}
use Rattle.grammar_format.specs.Breaches.{IllFormed, unknown, unfilled, Breach, rule_form}
use Rattle.grammar_format.proofs.Cleaning.{Formed, formed_fine}
use Rattle.grammar_format.proofs.Rules.{rule_bytes_of}

-- The seven bytes behind the first two, split behind as many as the second tells.
module _ (x : List ℕ) (nine : length x ≡ 9) (n : ℕ) (e : n ≡ right_length x) (short : right_length x ≤ 7) (xs ys : List ℕ)
    (front : xs ≡ take n (take 7 (drop 2 x))) (back : ys ≡ drop n (take 7 (drop 2 x))) where
  behind : take 7 (drop 2 x) ≡ drop 2 x
  behind = take_all 7 (drop 2 x) (omega (arith, length-drop 2 x))

  front_is : xs ≡ take (right_length x) (drop 2 x)
  front_is = front ∙ ap₂ (λ (k : ℕ) (zs : List ℕ). take k zs) e behind

  back_is : ys ≡ drop (right_length x) (drop 2 x)
  back_is = back ∙ ap₂ (λ (k : ℕ) (zs : List ℕ). drop k zs) e behind

  front_size : length xs ≡ right_length x
  front_size = ap length front_is ∙ length-take-le (right_length x) (drop 2 x) (omega (arith, length-drop 2 x))

  back_size : length ys ≡ 7 - right_length x
  back_size = ap length back_is ∙ length-drop (right_length x) (drop 2 x) ∙ ap (λ (k : ℕ). k - right_length x) (omega (arith, length-drop 2 x))

  right_at : (d : ℕ) → d < right_length x → get_or xs d 0 ≡ right x d
  right_at d h = ap (λ (zs : List ℕ). get_or zs d 0) front_is ∙ get_or-take (right_length x) (drop 2 x) d 0 h ∙ get_or-drop 2 x d 0

  past_at : (d k : ℕ) → right_length x + d ≡ k → get_or ys d 0 ≡ right x k
  past_at d k i =
      ap (λ (zs : List ℕ). get_or zs d 0) back_is ∙ get_or-drop (right_length x) (drop 2 x) d 0 ∙ get_or-drop 2 x (right_length x + d) 0
      ∙ ap (right x) i

  -- A byte that is no symbol, or not 255 past the length, makes the rule ill-formed.
  pub unknown_at : (T K : ℕ) → (d : ℕ) × (d < length xs) × (K ≤ get_or xs d 0) → IllFormed T K x
  unknown_at T K (d, h, k) =
      let l : d < right_length x = omega (arith, front_size) in
      unknown d (omega arith) l (omega (arith, right_at d l))

  pub unfilled_at : (T K : ℕ) → (d : ℕ) × (d < length ys) × (get_or ys d 0 ≢ 255) → IllFormed T K x
  unfilled_at T K (d, h, k) =
      unfilled (right_length x + d) (omega (arith, back_size)) (omega arith) (λ i. k (past_at d (right_length x + d) refl ∙ i))

  -- Otherwise it has the form of a rule, and these are its bytes.
  module _ (T K : ℕ) (low : T ≤ left x) (high : left x < K) (known : (d : ℕ) → d < length xs → get_or xs d 0 < K)
      (filled : (d : ℕ) → d < length ys → get_or ys d 0 ≡ 255) where
    formed : Formed T K x
    formed = record {
      left_from = low;
      left_under = high;
      short = short;
      known = λ d h. omega (arith, known d (omega (arith, front_size)), right_at d h);
      filled = λ d h k. sym (past_at (d - right_length x) d (omega arith)) ∙ filled (d - right_length x) (omega (arith, back_size));
    }

    pub well_formed : IllFormed T K x → ⊥
    well_formed = formed_fine formed

    pub block_same : (zs : List ℕ) → zs ≡ xs → rule_bytes (record { left = get_or x 0 0; right = zs }) ≡ x
    unfolding rule_of
    block_same zs i = ap (λ (us : List ℕ). rule_bytes (record { left = get_or x 0 0; right = us })) (i ∙ front_is) ∙ rule_bytes_of x nine formed

-- The pieces of nine bytes from 12 on are the blocks of the rules.
chunk_at : (k : ℕ) (xs : List ℕ) (r : ℕ) → r < k → get_or (first_chunks 9 k xs) r [] ≡ take 9 (drop (9 * r) xs)
chunk_at zero xs r h = absurd (omega arith)
chunk_at (suc k) xs zero h = refl
chunk_at (suc k) xs (suc r) h =
    chunk_at k (drop 9 xs) r (omega arith) ∙ ap (take 9) (drop-drop (9 * r) 9 xs ∙ ap (λ (n : ℕ). drop n xs) (omega arith))

pub chunk_is : (b : List ℕ) (R k r E : ℕ) → E ≡ rules_end R → r < k → k ≤ R → get_or (first_chunks 9 k (take (E - 12) (drop 12 b))) r [] ≡ block b r
unfolding block
chunk_is b R k r E e h l =
    let m = 9 * (R - r - 1) in
    let i : E - 12 ≡ 9 * r + (9 + m) = omega arith in
    chunk_at k (take (E - 12) (drop 12 b)) r h
    ∙ ap (λ (n : ℕ). take 9 (drop (9 * r) (take n (drop 12 b)))) i
    ∙ ap (take 9) (drop-take (9 * r) (9 + m) (drop 12 b))
    ∙ take-take 9 (9 + m) (drop (9 * r) (drop 12 b)) (omega arith)
    ∙ ap (take 9) (drop-drop (9 * r) 12 b)

pub chunk_count : (b : List ℕ) (R E : ℕ) → E ≡ rules_end R → E ≤ length b → length (take (E - 12) (drop 12 b)) / 9 ≡ R
chunk_count b R E e h = omega (arith, length-take-le (E - 12) (drop 12 b) (omega (arith, length-drop 12 b)))

module _ (b : List ℕ) (r : ℕ) {T N : ℕ} (t : T ≡ terminals b) (n : N ≡ nonterminals b) (x : List ℕ) (e : x ≡ block b r) where
  pub block_ill : IllFormed T (T + N) x → IllFormed (terminals b) (symbols b) (block b r)
  block_ill = subst₃ IllFormed t (ap₂ ◌+◌ t n) e

  pub block_fine : (IllFormed T (T + N) x → ⊥) → IllFormed (terminals b) (symbols b) (block b r) → ⊥
  block_fine f h = f (subst₃ IllFormed (sym t) (sym (ap₂ ◌+◌ t n)) (sym e) h)

-- No breach of row 13 stands at r, or past the last rule.
pub no_breach : {b : List ℕ} {r : ℕ} → (IllFormed (terminals b) (symbols b) (block b r) → ⊥) → Breach b 13 r → ⊥
no_breach f (rule_form h i) = f i

pub no_breach_past : {b : List ℕ} {r : ℕ} → rules b ≤ r → Breach b 13 r → ⊥
no_breach_past l (rule_form h i) = omega arith
