-- What a grammar stands for.
--   sheet g     the sheet that it was read from and that it is written as
--   meaning g   the grammar of that sheet
--   Reads b g   the bytes b are the sheet of the grammar g, which keeps all the rules
use Rattle.std.specs.Prelude.{◌≡◌, ℕ, List}
use Rattle.parsing.specs.Grammar.{Grammar as Rewriting}
use Rattle.grammar_format.specs.Sheets.{Sheet, sheet_bytes}
use Rattle.grammar_format.specs.Keeping.{Keeps}
use Rattle.grammar.specs.Holding.{sheet_from}
use Rattle.grammar.specs.Lists.{items}
use Rattle.grammar.specs.declared.grammar.Grammar.{Grammar}

abbrev pub sheet : Grammar → Sheet
sheet g = sheet_from g.spellings.count g.nonterminals (items g.rules) (items g.spellings)

abbrev pub meaning : Grammar → Rewriting
meaning g = (sheet g).grammar

pub record Reads (b : List ℕ) (g : Grammar) : Type 0 where
  pub kept : Keeps (sheet g)
  pub same : sheet_bytes (sheet g) ≡ b
