-- The refusals of words.
--   number_of f   the number of the refusal of a word for the fault f
use Rattle.std.specs.Prelude.{ℕ}
use Rattle.links.specs.declared.fault.TakeFault.{TakeFault}
use Rattle.links.specs.declared.fault.TakeFault.TheVariants.{TooManyWords, NoTerminal, NoStep, TooManyLinks}

abbrev pub number_of : TakeFault → ℕ
number_of TooManyWords = 43
number_of NoTerminal = 44
number_of NoStep = 45
number_of TooManyLinks = 46
