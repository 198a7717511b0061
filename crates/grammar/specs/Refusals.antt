-- The refusals of grammar sheets.
--   of_grammar n p the refusal n of a sheet, at the place p
--   room_short n   the refusal 31 of a room that is too short, of which n bytes are needed
--   refusal f      the refusal that the fault f is shown as
--   FirstFault b f the fault f is the first row of the table that applies to the bytes b, at its lowest place
--   Refused b f    that, and the bytes are those of no sheet that keeps the rules
use Rattle.std.specs.Prelude.{ℕ, List, ◌≢◌}
use Rattle.grammar_format.specs.Sheets.{Sheet, sheet_bytes}
use Rattle.grammar_format.specs.Keeping.{Keeps}
use Rattle.grammar_format.specs.Breaches.{First}
use Rattle.grammar.specs.declared.refusal.Refusal.{Refusal}
use Rattle.grammar.specs.declared.refusal.Layer.TheVariants.{Grammar, Table}
use Rattle.grammar.specs.declared.fault.GrammarFault.{GrammarFault}
use Rattle.grammar.specs.declared.fault.GrammarFault.TheVariants.{WholeLength, CountRange, Offset, RuleForm, GoalRule}
use Rattle.grammar.specs.declared.fault.GrammarFault.TheVariants.{SpellingForm, SpellingRepeated, Unproductive, RoomShort}

abbrev pub of_grammar : ℕ → ℕ → Refusal
of_grammar n p = record { number = n; layer = Grammar; first = p; second = 0 }

abbrev pub room_short : ℕ → Refusal
room_short n = record { number = 31; layer = Table; first = n; second = 0 }

abbrev pub refusal : GrammarFault → Refusal
refusal WholeLength = of_grammar 10 0
refusal CountRange = of_grammar 11 0
refusal Offset = of_grammar 12 0
refusal (RuleForm r) = of_grammar 13 r
refusal (GoalRule r) = of_grammar 14 r
refusal (SpellingForm t) = of_grammar 15 t
refusal (SpellingRepeated t) = of_grammar 16 t
refusal (Unproductive X) = of_grammar 17 X
refusal (RoomShort n) = room_short n

abbrev pub FirstFault : List ℕ → GrammarFault → Type 0
FirstFault b f = First b (refusal f).number (refusal f).first

pub record Refused (b : List ℕ) (f : GrammarFault) : Type 0 where
  pub first : FirstFault b f
  pub never : (s : Sheet) → Keeps s → sheet_bytes s ≢ b
