-- What is printed.
--   Outcome                what is told of a recipe: a refusal; a refusal of a word, with the bytes from which and up to which it stands; that the words
--                          are no sentence, with the number of words and of links; that they are one, with both, the number of nodes, and the alternatives
--   is_used c              the cut c is used: it is not 255
--   cut_text c             the cut c behind a blank
--   alternative_text z     the rule of the alternative z, and its cuts before the first that is not used
--   alternative_lines zs   a line for each of the alternatives zs
--   lines o                the outcome o in lines
use Rattle.std.specs.Prelude.{ℕ, Bool, not, List, ◌++◌, length, codes, decimal, ◌==◌}
use Rattle.std.specs.List.{flat_map, take_while}
use Rattle.grammar.specs.declared.refusal.Refusal.{Refusal}
use Rattle.grammar.specs.Lines.{refusal_line}
use Rattle.records.specs.declared.alternative.Alternative.{Alternative}

pub data Outcome : Type 0 where
  refused : Refusal → Outcome
  word_refused : Refusal → ℕ → ℕ → Outcome
  no_sentence : ℕ → ℕ → Outcome
  sentence : ℕ → ℕ → ℕ → List Alternative → Outcome

abbrev pub is_used : ℕ → Bool
is_used c = not (c == 255)

abbrev pub cut_text : ℕ → List ℕ
cut_text c = codes " " ++ decimal c

abbrev pub alternative_text : Alternative → List ℕ
alternative_text z = decimal z.rule ++ flat_map cut_text (take_while is_used z.cuts)

abbrev pub alternative_lines : List Alternative → List ℕ
alternative_lines zs = flat_map (λ z. alternative_text z ++ codes "\n") zs

abbrev pub lines : Outcome → List ℕ
lines (refused r) = refusal_line r ++ codes "\n"
lines (word_refused r p q) = refusal_line r ++ (codes " bytes " ++ (decimal p ++ (codes " " ++ (decimal q ++ codes "\n"))))
lines (no_sentence m n) = codes "words " ++ (decimal m ++ (codes " links " ++ (decimal n ++ codes " sentence no\n")))
lines (sentence m n k zs) =
    codes "words " ++ (decimal m ++ (codes " links " ++ (decimal n ++ (codes " sentence yes\nnodes " ++ (decimal k
    ++ (codes " alternatives " ++ (decimal (length zs) ++ (codes "\n" ++ alternative_lines zs))))))))
