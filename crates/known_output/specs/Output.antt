-- What is printed of a recipe in the words of P.
--   printed         a line of the words and links, one of the nodes and alternatives, and the alternatives
--   Prints P text   of what comes of the inputs by P, this text is shown, and no other
--   KnownOutput     the eight words of the known results, and what is printed of a recipe that says them
use Rattle.std.specs.Prelude.{◌≡◌, ℕ, ◌↔◌, List, [], ◌++◌, codes, None}
use Rattle.words.specs.Feeds.{Coming}
use Rattle.histories.specs.Laws.{terminals_of}
use Rattle.panel.specs.Lines.{Outcome, sentence, lines}
use Rattle.panel.specs.Outcomes.{Answered, TextOutcome, KeyOutcome, Shows}
use Rattle.known.specs.Automata.{source}
use Rattle.known.specs.Samples.{p, p_eight}
use Rattle.known_output.specs.Sheets.{grammar_bytes, table_bytes, recipe, keys}

abbrev pub printed : List ℕ
printed =
    codes "words 8 links 15 sentence yes\n"
    ++ (codes "nodes 6 alternatives 7\n"
    ++ (codes "1 0 1 2\n"
    ++ (codes "2 0 2 3 5\n"
    ++ (codes "2 0 2 3 8\n"
    ++ (codes "2 0 5 6 8\n"
    ++ (codes "1 3 4 5\n"
    ++ (codes "2 3 5 6 8\n"
    ++ codes "1 6 7 8\n")))))))

abbrev pub Prints : (Outcome → Type 0) → List ℕ → Type 0
Prints P text = (shown : List ℕ) → Shows P shown ↔ (shown ≡ text)

pub record KnownOutput : Type 0 where
  -- Reading the eight words comes to their links, nodes and alternatives, whatever feed they come from.
  pub read : (c : Coming) → terminals_of c.words ≡ p_eight.words → c.fault ≡ None
      → Answered (source p) c (sentence 8 15 6 p_eight.alternatives)
  pub text : lines (sentence 8 15 6 p_eight.alternatives) ≡ printed
  -- What is shown of the recipe, by the table sheet and by states that are built.
  pub text_by_table : Prints (TextOutcome grammar_bytes table_bytes recipe) printed
  pub text_by_built : Prints (TextOutcome grammar_bytes [] recipe) printed
  pub keys_by_table : Prints (KeyOutcome grammar_bytes table_bytes keys) printed
  pub keys_by_built : Prints (KeyOutcome grammar_bytes [] keys) printed
