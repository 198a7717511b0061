-- The known results: the tests of P and Q and of the readings pass.
use Rattle.std.proofs.Common.{◌≡◌, true, [], ◌∷◌, refl, arith}
use Rattle.parsing.specs.Grammar.{rule, lhs, rhs, WellFormed}
use Rattle.table_format.specs.Tables.{source_of}
use Rattle.states.specs.Sources.{Sourced}
use Rattle.link_growth.specs.Counting.{Steps}
use Rattle.link_growth.proofs.Exacts.{fits, counting}
use Rattle.histories.specs.Meetings.{crowded, taken}
use Rattle.histories.specs.Doings.{back_done, judge_open}
use Rattle.known.specs.Automata.{source}
use Rattle.known.specs.Readings.{Right}
use Rattle.known.specs.Samples.{by_rule, p, q, p_two, p_five, p_eight, q_none, q_one}
use Rattle.known.specs.Results.{KnownResults}
use Rattle.known.proofs.Grammars.{is_well_formed}
use Rattle.known.proofs.Automata.{automaton?, is_sourced, rows_are, steps_are}
use Rattle.known.proofs.Walking.{in_order}
use Rattle.known.proofs.Readings.{is_right, counted}
use Rattle.known.proofs.Meeting.{steps_on}

-- All nonterminals of P derive 0 1, and all of Q derive no words.
pub p_well_formed : WellFormed p.grammar
unfolding lhs rhs rule
p_well_formed = is_well_formed p.grammar (0 ∷ 1 ∷ []) (by_rule 0 (0 ∷ 2 ∷ []) ∷ by_rule 1 (0 ∷ 1 ∷ 2 ∷ []) ∷ []) refl

pub q_well_formed : WellFormed q.grammar
unfolding lhs rhs rule
q_well_formed = is_well_formed q.grammar [] (by_rule 0 (0 ∷ 0 ∷ []) ∷ by_rule 3 (0 ∷ []) ∷ []) refl

pub p_passes : automaton? p ≡ true
unfolding lhs rhs rule
p_passes = refl

pub q_passes : automaton? q ≡ true
unfolding lhs rhs rule
q_passes = refl

pub p_sourced : Sourced (source p)
p_sourced = is_sourced p p_well_formed p_passes (omega arith) (omega arith) (omega arith) (omega arith)

pub q_sourced : Sourced (source q)
q_sourced = is_sourced q q_well_formed q_passes (omega arith) (omega arith) (omega arith) (omega arith)

pub p_two_right : Right p_two
unfolding lhs rhs rule source_of
p_two_right = is_right p_two p_sourced refl

pub p_five_right : Right p_five
unfolding lhs rhs rule source_of
p_five_right = is_right p_five p_sourced refl

pub p_eight_right : Right p_eight
unfolding lhs rhs rule source_of
p_eight_right = is_right p_eight p_sourced refl

pub q_none_right : Right q_none
unfolding lhs rhs rule source_of
q_none_right = is_right q_none q_sourced refl

pub q_one_right : Right q_one
unfolding lhs rhs rule source_of
q_one_right = is_right q_one q_sourced refl

-- The last of five words is met by the step of a state that is live before it.
last_steps : Steps (source p) (0 ∷ 1 ∷ 2 ∷ 0 ∷ []) 1
unfolding source_of
last_steps = steps_on p_sourced (0 ∷ 1 ∷ 2 ∷ 0 ∷ []) [] 1 (omega arith) p_five_right.sentence

pub known_results : KnownResults
unfolding source_of
known_results = record {
  p_source = p_sourced;
  q_source = q_sourced;
  p_rows = (rows_are p p_well_formed p_passes, in_order p p_well_formed p_passes refl, refl);
  p_steps = (steps_are p p_well_formed p_passes, refl);
  q_rows = (rows_are q q_well_formed q_passes, in_order q q_well_formed q_passes refl, refl);
  q_steps = (steps_are q q_well_formed q_passes, refl);
  two_words = (p_two_right, counted p_two p_two_right);
  five_words = (p_five_right, counted p_five p_five_right);
  seven_links =
      crowded (omega arith) (omega arith) last_steps
      ((counting (source p) p_five.words).2 8 7 (counted p_five p_five_right).links (omega arith));
  eight_links = taken (omega arith) (omega arith) last_steps (fits p_five_right.links (omega arith));
  eight_words = (p_eight_right, counted p_eight p_eight_right);
  back_to_two = λ n. back_done (omega arith);
  two_left = (counted p_two p_two_right).links;
  two_judged = λ n. judge_open ((λ e. p_two_right.judged), λ x. refl);
  no_words = (q_none_right, counted q_none q_none_right);
  one_word = (q_one_right, counted q_one q_one_right);
}
