-- A sheet that keeps the rules has at most 1108 bytes, and each is below 256.
use Rattle.std.proofs.Common.{◌≡◌, ℕ, zero, suc, ◌+◌, ◌-◌, ◌*◌, ◌/◌, ◌%◌, ◌<◌, ◌≤◌, List, [], ◌∷◌, ◌++◌, length, get_or, replicate, ap, arith}
use native.Mathlib.Decide.{dec_lt, ℕ_discrete}
use lib.ListN.{get_or-replicate, length-replicate}
use Rattle.std.specs.List.{flat_map}
use Rattle.std.proofs.lemmas.List.{get_or_past}
use Rattle.parsing.specs.Grammar.{Rule, rule_count, rule, lhs, rhs}
use Rattle.grammar_format.specs.Sheets.{Sheet, wide, rule_bytes, spelling_bytes, rules_bytes, spellings_bytes, rules_end, sheet_bytes}
use Rattle.grammar_format.specs.Keeping.{Keeps, spelling_of}
use Rattle.grammar_format.specs.Statements.{Bytes}
use Rattle.grammar_format.proofs.Listed.{length_joined_le}
use Rattle.grammar_format.proofs.Numbers.{six}
use Rattle.grammar_format.proofs.Decoding.{length_sheet_bytes, length_rules_bytes}

-- Lists of bytes.
bytes_within : (xs : List ℕ) → ((k : ℕ) → k < length xs → get_or xs k 0 < 256) → Bytes xs
bytes_within xs f k =
    elim (dec_lt k (length xs)) [
      | yes h ↦ f k h
      | no h ↦ omega (arith, get_or_past xs k 0 (omega arith))
    ]

bytes_cons : (x : ℕ) (xs : List ℕ) → x < 256 → Bytes xs → Bytes (x ∷ xs)
bytes_cons x xs h f zero = h
bytes_cons x xs h f (suc k) = f k

bytes_append : (xs ys : List ℕ) → Bytes xs → Bytes ys → Bytes (xs ++ ys)
bytes_append [] ys f g k = g k
bytes_append (x ∷ xs) ys f g zero = f 0
bytes_append (x ∷ xs) ys f g (suc k) = bytes_append xs ys (λ k. f (suc k)) g k

bytes_joined : {X : Type 0} (h : X → List ℕ) (d : X) (xs : List X) → ((k : ℕ) → k < length xs → Bytes (h (get_or xs k d))) → Bytes (flat_map h xs)
bytes_joined h d [] s k = omega arith
bytes_joined h d (x ∷ xs) s k = bytes_append (h x) (flat_map h xs) (s 0 (omega arith)) (bytes_joined h d xs (λ k l. s (suc k) (omega arith))) k

bytes_wide : (n : ℕ) (xs : List ℕ) → n < 65536 → Bytes xs → Bytes (wide n ++ xs)
bytes_wide n xs h f = bytes_cons (n / 256) (n % 256 ∷ xs) (omega arith) (bytes_cons (n % 256) xs (omega arith) f)

bytes_six : (n₀ n₁ n₂ n₃ n₄ n₅ : ℕ) (xs : List ℕ) → n₀ < 65536 → n₁ < 65536 → n₂ < 65536 → n₃ < 65536 → n₄ < 65536 → n₅ < 65536
    → Bytes xs → Bytes (six n₀ n₁ n₂ n₃ n₄ n₅ ++ xs)
bytes_six n₀ n₁ n₂ n₃ n₄ n₅ xs h₀ h₁ h₂ h₃ h₄ h₅ f =
    bytes_wide n₀ (wide n₁ ++ (wide n₂ ++ (wide n₃ ++ (wide n₄ ++ (wide n₅ ++ xs))))) h₀
    (bytes_wide n₁ (wide n₂ ++ (wide n₃ ++ (wide n₄ ++ (wide n₅ ++ xs)))) h₁
    (bytes_wide n₂ (wide n₃ ++ (wide n₄ ++ (wide n₅ ++ xs))) h₂
    (bytes_wide n₃ (wide n₄ ++ (wide n₅ ++ xs)) h₃
    (bytes_wide n₄ (wide n₅ ++ xs) h₄
    (bytes_wide n₅ xs h₅ f)))))

bytes_filled : (n : ℕ) → Bytes (replicate n 255)
bytes_filled n =
    bytes_within (replicate n 255)
    (λ k h. omega (arith, get_or-replicate {A = ℕ} n k 255 0 (omega (arith, length-replicate {A = ℕ} n 255))))

bytes_rule_bytes : (p : Rule) → p.left < 256 → length p.right ≤ 7 → ((d : ℕ) → d < length p.right → get_or p.right d 0 < 256)
    → Bytes (rule_bytes p)
bytes_rule_bytes p l h f =
    bytes_cons p.left (length p.right ∷ (p.right ++ replicate (7 - length p.right) 255)) l
    (bytes_cons (length p.right) (p.right ++ replicate (7 - length p.right) 255) (omega arith)
    (bytes_append p.right (replicate (7 - length p.right) 255) (bytes_within p.right f) (bytes_filled (7 - length p.right))))

module _ {s : Sheet} (k : Keeps s) where
  -- Each spelling is of at most 12 bytes, all below 256.
  few : (t : ℕ) → t < length s.spellings → length (spelling_bytes (spelling_of s t)) ≤ 13
  few t h =
      elim (ℕ_discrete t 0) [
        | yes z ↦ rw (z, k.amount) (omega arith)
        | no n ↦ omega (arith, (k.spelled t (omega arith) (omega (arith, k.one_each))).short)
      ]

  bytes_spelling : (t : ℕ) → t < length s.spellings → Bytes (spelling_bytes (spelling_of s t))
  bytes_spelling t h = bytes_cons (length (spelling_of s t)) (spelling_of s t) (omega (arith, few t h)) (bytes_within (spelling_of s t) low)
    where
      low : (i : ℕ) → i < length (spelling_of s t) → get_or (spelling_of s t) i 0 < 256
      low i l =
          elim (ℕ_discrete t 0) [
            | yes z ↦
                let e : spelling_of s t ≡ [] = rw z k.amount in
                absurd (omega (arith, ap length e))
            | no n ↦ omega (arith, ((k.spelled t (omega arith) (omega (arith, k.one_each))).letters i l).high)
          ]

  pub length_spellings_bytes : length (spellings_bytes s) ≤ 13 * s.grammar.terminals
  length_spellings_bytes = rw (← k.one_each) (length_joined_le spelling_bytes 13 [] s.spellings few)

  pub sheet_bytes_few : length (sheet_bytes s) ≤ 1108
  sheet_bytes_few = omega (arith, length_sheet_bytes s, length_rules_bytes k, length_spellings_bytes, k.few_terminals, k.well_formed.few_rules)

  bytes_rule : (r : ℕ) → r < rule_count s.grammar → Bytes (rule_bytes (rule s.grammar r))
  unfolding lhs rhs
  bytes_rule r h =
      bytes_rule_bytes (rule s.grammar r) (omega (arith, (k.well_formed.left_in r h).high, k.few_terminals, k.few_nonterminals))
      (k.well_formed.short r h)
      (λ d l. omega (arith, k.well_formed.right_in r d h l, k.few_terminals, k.few_nonterminals))

  pub sheet_bytes_below : Bytes (sheet_bytes s)
  unfolding sheet_bytes rule
  sheet_bytes_below =
      bytes_six (12 + (length (rules_bytes s) + length (spellings_bytes s))) s.grammar.terminals s.grammar.nonterminals
      (rule_count s.grammar) 12 (rules_end (rule_count s.grammar)) (rules_bytes s ++ spellings_bytes s)
      (omega (arith, length_sheet_bytes s, sheet_bytes_few))
      (omega (arith, k.few_terminals))
      (omega (arith, k.few_nonterminals))
      (omega (arith, k.well_formed.few_rules))
      (omega arith)
      (omega (arith, k.well_formed.few_rules))
      (bytes_append (rules_bytes s) (spellings_bytes s)
      (bytes_joined rule_bytes (record { left = 0; right = [] }) s.grammar.rules bytes_rule)
      (bytes_joined spelling_bytes [] s.spellings bytes_spelling))
