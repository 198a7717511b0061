-- The sheets of P, and a recipe in its words.
use Rattle.std.proofs.Common.{true, [], None, sym, refl, ◌∙◌, subst}
use Rattle.built_states.specs.Built.{Built}
use Rattle.known.specs.Automata.{source}
use Rattle.built_states.proofs.OneWay.{one_building}
use Rattle.known.specs.Samples.{p, p_eight}
use Rattle.known.proofs.Automata.{few_states}
use Rattle.known.proofs.Walking.{in_order}
use Rattle.known.proofs.Theorem.{p_well_formed, p_passes}
use Rattle.words.specs.Feeds.{Coming}
use Rattle.histories.specs.Calls.{opened, read_through, judged, and_feed}
use Rattle.histories.specs.Doings.{Does, through_open}
use Rattle.known_output.specs.Sheets.{in_text, KnownSheets}
use Rattle.known_output.proofs.Passing.{eight_taken}
use Rattle.known_output.proofs.Sheets.{grammar_is, p_keeps, table_is, p_matches, right_sides, table_checked, text_words, key_words}
use Rattle.known_output.proofs.Building.{built_rows, built_steps, it_is_built, one_source}

-- The states that are built of P.
pub p_is_built : Built p.grammar 6 (built_rows p) (built_steps p)
p_is_built = it_is_built p (few_states p p_well_formed p_passes) p_matches (in_order p p_well_formed p_passes refl)

pub known_sheets : KnownSheets
known_sheets = record {
  keeps = p_keeps;
  grammar = grammar_is;
  states = table_is;
  checked = table_checked;
  built = λ n ws ss x. one_building p.grammar n 6 ws (built_rows p) ss (built_steps p) right_sides x p_is_built ∙ one_source p;
  text = text_words;
  read = λ n h.
      let left : Coming = record { words = []; fault = None } in
      subst (λ c. Does (source p) (opened n []) (read_through c) (and_feed (judged true) left) (opened n p_eight.words))
      (sym text_words) (through_open (eight_taken n h None refl in_text refl));
  record_of_keys = key_words;
}
