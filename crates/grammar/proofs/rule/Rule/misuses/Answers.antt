use Rattle.std.proofs.Common.{rules}
use Rattle.grammar.specs.Holding.{rewriting}
use Rattle.grammar.proofs.Goals.{later_rule}
use Rattle.grammar.proofs.rule.Rule.misuses.Goals as goal

pub returns-else-self-goal : goal.returns-else-self-goal
returns-else-self-goal c =
    later_rule c.args.goal c.args.r (rewriting c.args.self.now) c.contains.result c.if-r-gt0.true c.if-self-goal.false (search rules)
