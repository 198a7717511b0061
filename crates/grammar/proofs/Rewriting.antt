-- The rules of a grammar as they are held, read as those of the grammar that they stand for.
use Rattle.std.proofs.Common.{◌≡◌, ℕ, ◌<◌, List, [], ◌∷◌, map, length, get_or, refl, ap, ◌∙◌, arith}
use Rattle.std.proofs.lemmas.List.{get_or-map, length-map}
use Rattle.parsing.specs.Grammar.{rule_count, rule, lhs, rhs}
use Rattle.grammar_format.specs.Sheets.{rule_bytes}
use Rattle.grammar.specs.Holding.{rewriting, rule_block, grammar_from, rule_at, block_at}
use Rattle.grammar.specs.declared.rule.Rule.{Rule}

blocks_are : (ps : List Rule) → map rule_block ps ≡ map rule_bytes (map rewriting ps)
blocks_are [] = refl
blocks_are (p ∷ ps) = ap (λ (xs : List (List ℕ)). rule_block p ∷ xs) (blocks_are ps)

module _ (ps : List Rule) (r : ℕ) (h : r < length ps) where
  pub rule_is : (d : Rule) → rule_at ps r ≡ rewriting (get_or ps r d)
  rule_is d = get_or-map rewriting ps r d (record { left = 0; right = [] }) h

  pub block_is : (d : Rule) → block_at ps r ≡ rule_block (get_or ps r d)
  block_is d = get_or-map rule_block ps r d [] h

  pub block_of_rule : block_at ps r ≡ rule_bytes (rule_at ps r)
  block_of_rule =
      ap (λ (xs : List (List ℕ)). get_or xs r []) (blocks_are ps)
      ∙ get_or-map rule_bytes (map rewriting ps) r (record { left = 0; right = [] }) [] (omega (arith, length-map ps rewriting))

module _ (T N : ℕ) (ps : List Rule) where
  pub count_is : rule_count (grammar_from T N ps) ≡ length ps
  count_is = length-map ps rewriting

  pub left_is : (r : ℕ) → lhs (grammar_from T N ps) r ≡ (rule_at ps r).left
  unfolding lhs rule
  left_is r = refl

  pub right_is : (r : ℕ) → rhs (grammar_from T N ps) r ≡ (rule_at ps r).right
  unfolding rhs rule
  right_is r = refl
