-- Rules and their nine bytes.
use Rattle.std.proofs.Common.{◌≡◌, ℕ, ◌+◌, ◌-◌, ◌<◌, ◌≤◌, List, ◌∷◌, ◌++◌, length, get_or, take, drop, replicate, sym, refl, ap, ◌∙◌, arith, length-append, length-drop, take-append-drop, length-take-le, get_or-drop, get_or-take, drop-drop, take_at, ext_get_or}
use lib.ListN.{length-replicate}
use lib.ListN.{get_or-replicate}
use Rattle.std.proofs.lemmas.List.{drop_more, get_or_append_left, get_or-append_right}
use Rattle.parsing.specs.Grammar.{Rule}
use Rattle.grammar_format.specs.Sheets.{rule_bytes, rules_end}
use Rattle.grammar_format.specs.Fields.{block, left, right_length, right, rule_of}
use Rattle.grammar_format.proofs.Cleaning.{Formed}

-- The bytes from a rule on: its block, and those from the next rule on.
pub block_drop : (b : List ℕ) (r : ℕ) → block b r ++ drop (rules_end (r + 1)) b ≡ drop (rules_end r) b
unfolding block
block_drop b r =
    let e : rules_end r + 9 ≡ rules_end (r + 1) = omega arith in
    ap (λ x. take 9 (drop (rules_end r) b) ++ x) (ap (λ n. drop n b) (sym e) ∙ sym (drop-drop 9 (rules_end r) b))
    ∙ take-append-drop 9 (drop (rules_end r) b)

pub length_block : (b : List ℕ) (r : ℕ) → rules_end (r + 1) ≤ length b → length (block b r) ≡ 9
unfolding block
length_block b r h = length-take-le 9 (drop (rules_end r) b) (omega (arith, length-drop (rules_end r) b))

-- Each byte of a block.
pub getD_block : (b : List ℕ) (r k : ℕ) → k < 9 → get_or (block b r) k 0 ≡ get_or b (rules_end r + k) 0
unfolding block
getD_block b r k h = get_or-take 9 (drop (rules_end r) b) k 0 h ∙ get_or-drop (rules_end r) b k 0

-- The rule that nine bytes say.
module _ (x : List ℕ) (nine : length x ≡ 9) (short : right_length x ≤ 7) where
  pub length_rule_of : length (rule_of x).right ≡ right_length x
  unfolding rule_of
  length_rule_of = length-take-le (right_length x) (drop 2 x) (omega (arith, length-drop 2 x))

  pub getD_rule_of : (d : ℕ) → d < right_length x → get_or (rule_of x).right d 0 ≡ right x d
  unfolding rule_of
  getD_rule_of d h = get_or-take (right_length x) (drop 2 x) d 0 h ∙ get_or-drop 2 x d 0

pub left_rule_of : (x : List ℕ) → (rule_of x).left ≡ left x
unfolding rule_of
left_rule_of x = refl

-- Nine bytes that are a rule are the bytes of the rule that they say.
pub rule_bytes_of : {T K : ℕ} (x : List ℕ) → length x ≡ 9 → Formed T K x → rule_bytes (rule_of x) ≡ x
unfolding rule_of
rule_bytes_of x nine f =
    rw (length-take-le (right_length x) (drop 2 x) few, ← behind, take-append-drop (right_length x) (drop 2 x)) (sym whole)
  where
    few : right_length x ≤ length (drop 2 x)
    few = omega (arith, length-drop 2 x, f.short)

    -- Past the length stands 255.
    behind : drop (right_length x) (drop 2 x) ≡ replicate (7 - right_length x) 255
    behind =
        ext_get_or 0 (drop (right_length x) (drop 2 x)) (replicate (7 - right_length x) 255)
        (omega (arith, length-drop (right_length x) (drop 2 x), length-drop 2 x, length-replicate {A = ℕ} (7 - right_length x) 255))
        (λ i h.
        let l : i < 7 - right_length x = omega (arith, length-drop (right_length x) (drop 2 x), length-drop 2 x) in
        get_or-drop (right_length x) (drop 2 x) i 0
        ∙ (get_or-drop 2 x (right_length x + i) 0
        ∙ (f.filled (right_length x + i) (omega arith) (omega arith)
        ∙ sym (get_or-replicate (7 - right_length x) i 255 0 l))))

    whole : x ≡ left x ∷ (right_length x ∷ drop 2 x)
    whole = drop_more x 0 0 (omega arith) ∙ ap (λ y. left x ∷ y) (drop_more x 1 0 (omega arith))

-- The bytes of a rule.
module _ (p : Rule) (short : length p.right ≤ 7) where
  pub length_rule_bytes : length (rule_bytes p) ≡ 9
  length_rule_bytes =
      omega (arith, length-append p.right (replicate (7 - length p.right) 255), length-replicate {A = ℕ} (7 - length p.right) 255)

  pub rule_of_bytes : rule_of (rule_bytes p) ≡ p
  unfolding rule_of
  rule_of_bytes = ap (λ w. record { left = p.left; right = w }) (take_at p.right (replicate (7 - length p.right) 255) (length p.right) refl)

  pub right_rule_bytes : (d : ℕ) → d < length p.right → right (rule_bytes p) d ≡ get_or p.right d 0
  right_rule_bytes d h =
      sym (get_or-drop 2 (rule_bytes p) d 0) ∙ get_or_append_left p.right (replicate (7 - length p.right) 255) 0 d h

  pub rest_rule_bytes : (d : ℕ) → d < 7 → length p.right ≤ d → right (rule_bytes p) d ≡ 255
  rest_rule_bytes d h l =
      sym (get_or-drop 2 (rule_bytes p) d 0)
      ∙ (get_or-append_right p.right (replicate (7 - length p.right) 255) (length p.right) d 0 refl l
      ∙ get_or-replicate (7 - length p.right) (d - length p.right) 255 0 (omega arith))
