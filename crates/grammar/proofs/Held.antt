-- What every grammar holds while it exists.
use Rattle.std.proofs.Common.{◌≡◌, ℕ, ◌∙◌}
use mathlib.Core.Logic.{∥∥₁_elim}
use Rattle.parsing.specs.Grammar.{rule_count}
use Rattle.grammar_format.proofs.Props.{keeps_prop}
use Rattle.grammar.specs.Holding.{Held, sheet_from}
use Rattle.grammar.specs.Lists.{items}
use Rattle.grammar.specs.Meaning.{meaning}
use Rattle.grammar.specs.declared.few.Few.{Few}
use Rattle.grammar.specs.declared.grammar.Grammar.{Grammar}
use Rattle.grammar.specs.declared.rule.Rule.{Rule}
use Rattle.grammar.proofs.Lists.{count_items}
use Rattle.grammar.proofs.Rewriting as rewriting

held_prop : (N : ℕ) (ps : Few Rule 64) (ws : Few (Few ℕ 12) 40) → IsProp (Held N ps ws)
held_prop N ps ws x y = λ i. record { kept = keeps_prop (sheet_from ws.count N (items ps) (items ws)) x.kept y.kept i }

module _ (g : Grammar) where
  pub held : Held g.nonterminals g.rules g.spellings
  held = ∥∥₁_elim g.held (held_prop g.nonterminals g.rules g.spellings) (λ h. h)

  pub count_is : rule_count (meaning g) ≡ g.rules.count
  count_is = rewriting.count_is g.spellings.count g.nonterminals (items g.rules) ∙ count_items g.rules
