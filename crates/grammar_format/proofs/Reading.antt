-- What the sheet read off some bytes holds at each place.
use Rattle.std.proofs.Common.{◌≡◌, ℕ, ◌<◌, ◌≤◌, List, [], length, get_or, ap, ◌∙◌, arith}
use Rattle.parsing.specs.Grammar.{rule_count, rule, lhs, rhs}
use Rattle.grammar_format.specs.Sheets.{rules_end}
use Rattle.grammar_format.specs.Keeping.{spelling_of}
use Rattle.grammar_format.specs.Fields.{terminals, rules, block, left, right_length, right, rule_of, spelling, grammar_of, sheet_of}
use Rattle.grammar_format.proofs.Listed.{length_listed, getD_listed}
use Rattle.grammar_format.proofs.Rules.{length_block, left_rule_of, length_rule_of, getD_rule_of}

pub rule_count_of : (b : List ℕ) → rule_count (grammar_of b) ≡ rules b
rule_count_of b = length_listed (λ r. rule_of (block b r)) (rules b)

pub rule_at : (b : List ℕ) (r : ℕ) → r < rules b → rule (grammar_of b) r ≡ rule_of (block b r)
unfolding rule
rule_at b r h = getD_listed (λ r. rule_of (block b r)) (rules b) r (record { left = 0; right = [] }) h

pub lhs_at : (b : List ℕ) (r : ℕ) → r < rules b → lhs (grammar_of b) r ≡ left (block b r)
unfolding lhs
lhs_at b r h = ap (λ p. p.left) (rule_at b r h) ∙ left_rule_of (block b r)

pub rhs_at : (b : List ℕ) (r : ℕ) → r < rules b → rhs (grammar_of b) r ≡ (rule_of (block b r)).right
unfolding rhs
rhs_at b r h = ap (λ p. p.right) (rule_at b r h)

-- The right side, when the rules fit into the bytes and this one is short.
module _ (b : List ℕ) (r : ℕ) (h : r < rules b) (fits : rules_end (rules b) ≤ length b) (short : right_length (block b r) ≤ 7) where
  pub nine_at : length (block b r) ≡ 9
  nine_at = length_block b r (omega arith)

  pub length_rhs_at : length (rhs (grammar_of b) r) ≡ right_length (block b r)
  length_rhs_at = ap length (rhs_at b r h) ∙ length_rule_of (block b r) nine_at short

  pub getD_rhs_at : (d : ℕ) → d < right_length (block b r) → get_or (rhs (grammar_of b) r) d 0 ≡ right (block b r) d
  getD_rhs_at d l = ap (λ w. get_or w d 0) (rhs_at b r h) ∙ getD_rule_of (block b r) nine_at short d l

pub spelling_count_of : (b : List ℕ) → length (sheet_of b).spellings ≡ terminals b
spelling_count_of b = length_listed (spelling b) (terminals b)

pub spelling_at : (b : List ℕ) (t : ℕ) → t < terminals b → spelling_of (sheet_of b) t ≡ spelling b t
spelling_at b t h = getD_listed (spelling b) (terminals b) t [] h
