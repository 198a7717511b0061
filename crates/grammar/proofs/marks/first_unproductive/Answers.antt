use Rattle.std.proofs.Common.{◌+◌}
use Rattle.parsing.specs.Grammar.{Productive}
use Rattle.grammar.specs.Holding.{grammar_from}
use Rattle.grammar.proofs.Marking.{first_without}
use Rattle.grammar.proofs.marks.first_unproductive.Goals as goal

pub returns : goal.returns
returns c =
    let h = c.args.header in
    first_without (Productive (grammar_from h.terminals h.nonterminals c.args.rules.now)) c.productive.result (c.productive.ensures h.nonterminals)
    h.terminals (h.terminals + h.nonterminals) c.first_unmarked.result c.first_unmarked.ensures
