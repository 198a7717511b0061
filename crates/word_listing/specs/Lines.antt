-- The words of a feed as text.
--   word_text w     the terminal, the amount and the places of the word w
--   word_line w     the same as a line
--   ending_text x   the end, or the refusal x
--   ending_line x   the same as a line
--   word_lines c    a line for each word of c, and the line for its end
use Rattle.std.specs.Prelude.{ℕ, List, ◌++◌, Some, None, codes, decimal, Option}
use Rattle.std.specs.List.{flat_map}
use Rattle.grammar.specs.Lines.{refusal_line}
use Rattle.grammar.specs.declared.refusal.Refusal.{Refusal}
use Rattle.words.specs.Feeds.{Coming}
use Rattle.words.specs.declared.word.Word.{Word}

abbrev pub word_text : Word → List ℕ
word_text w =
    codes "word " ++ (decimal w.terminal ++ (codes " amount " ++ (decimal w.amount
    ++ (codes " bytes " ++ (decimal w.from ++ (codes " " ++ decimal w.to))))))

abbrev pub word_line : Word → List ℕ
word_line w = word_text w ++ codes "\n"

abbrev pub ending_text : Option Refusal → List ℕ
ending_text None = codes "end"
ending_text (Some x) = refusal_line x

abbrev pub ending_line : Option Refusal → List ℕ
ending_line x = ending_text x ++ codes "\n"

unfoldable pub word_lines : Coming → List ℕ
word_lines c = flat_map word_line c.words ++ ending_line c.fault
