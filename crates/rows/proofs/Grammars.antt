-- What every grammar gives: its bounds, and what its questions answer of a rule that it has.
use Rattle.std.proofs.Common.{◌≡◌, ℕ, ◌<◌, ◌≤◌, length, get_or, sym, ◌∙◌, arith}
use Rattle.std.proofs.lemmas.List.{get_or_default, get_or_past}
use Rattle.std.proofs.lemmas.Bool.{cond_below}
use Rattle.parsing.specs.Grammar.{WellFormed, rule_count, lhs, rhs}
use Rattle.parsing.specs.Items.{Next}
use Rattle.table_format.specs.ItemSets.{RightSides, symbols}
use Rattle.grammar.specs.Meaning.{meaning}
use Rattle.grammar.specs.Questions.{left_side, right_length, right_symbol}
use Rattle.grammar.specs.declared.grammar.Grammar.{Grammar}
use Rattle.grammar.proofs.Held.{held}

module _ (g : Grammar) where
  pub well_formed : WellFormed (meaning g)
  well_formed = (held g).kept.well_formed

  pub few_rules : rule_count (meaning g) ≤ 64
  few_rules = well_formed.few_rules

  pub few_symbols : symbols (meaning g) ≤ 64
  few_symbols = omega (arith, (held g).kept.few_terminals, (held g).kept.few_nonterminals)

  pub right_sides : RightSides (meaning g)
  right_sides = well_formed.right_in

  module _ (r : ℕ) (h : r < rule_count (meaning g)) where
    pub left_is : left_side (meaning g) r ≡ lhs (meaning g) r
    left_is = sym (cond_below r (rule_count (meaning g)) (lhs (meaning g) r) 255 h)

    pub length_is : right_length (meaning g) r ≡ length (rhs (meaning g) r)
    length_is = sym (cond_below r (rule_count (meaning g)) (length (rhs (meaning g) r)) 255 h)

    right_here : (d : ℕ) → right_symbol (meaning g) r d ≡ get_or (rhs (meaning g) r) d 255
    right_here d = sym (cond_below r (rule_count (meaning g)) (get_or (rhs (meaning g) r) d 255) 255 h)

    pub right_is : (d : ℕ) → d < length (rhs (meaning g) r) → right_symbol (meaning g) r d ≡ get_or (rhs (meaning g) r) d 0
    right_is d l = right_here d ∙ get_or_default (rhs (meaning g) r) d 255 0 l

    pub right_past : (d : ℕ) → length (rhs (meaning g) r) ≤ d → right_symbol (meaning g) r d ≡ 255
    right_past d l = right_here d ∙ get_or_past (rhs (meaning g) r) d 255 l

    -- The symbol that comes next in an item of the rule.
    pub right_next : (d x : ℕ) → d < length (rhs (meaning g) r) → x ≡ right_symbol (meaning g) r d → Next (meaning g) r d x
    right_next d x l e = record { rule_in = h; dot_in = l; symbol = sym (e ∙ right_is d l) }

    pub right_below : (d : ℕ) → d < length (rhs (meaning g) r) → right_symbol (meaning g) r d < 64
    right_below d l = omega (arith, right_is d l, right_sides r d h l, few_symbols)
