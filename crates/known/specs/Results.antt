-- The known results: eight rows of what the definitions give for two small grammars.
--   KnownResults   all eight, over sources that keep what every source keeps
use Rattle.std.specs.Prelude.{◌≡◌, ℕ, true, [], ◌∷◌, length, Some, None}
use Rattle.states.specs.Sources.{Sourced}
use Rattle.link_growth.specs.Counting.{Counts}
use Rattle.histories.specs.Calls.{opened, back_to, judge, done, judged, plain}
use Rattle.histories.specs.Doings.{Does}
use Rattle.histories.specs.Meetings.{Meets}
use Rattle.histories.specs.Refusals.{of_reading}
use Rattle.known.specs.Automata.{states, RowsAre, StepsAre, InOrder, source}
use Rattle.known.specs.Readings.{Right, Counted}
use Rattle.known.specs.Samples.{p, q, p_two, p_five, p_eight, q_none, q_one}

pub record KnownResults : Type 0 where
  pub p_source : Sourced (source p)
  pub q_source : Sourced (source q)
  -- 1. The six rows of P, in the order in which the walk over its table meets them.
  pub p_rows : RowsAre p × InOrder p × (states p ≡ 6)
  -- 2. Its seven steps.
  pub p_steps : StepsAre p × (length p.steps ≡ 7)
  -- The same of Q: four rows and six steps.
  pub q_rows : RowsAre q × InOrder q × (states q ≡ 4)
  pub q_steps : StepsAre q × (length q.steps ≡ 6)
  -- 3. P over 0 1.
  pub two_words : Right p_two × Counted p_two 3 1 1
  -- 4. P over 0 1 2 0 1.
  pub five_words : Right p_five × Counted p_five 8 3 3
  -- Where seven links are allowed, the last of these words is refused; where eight are, it is taken.
  pub seven_links : Meets (source p) 7 (0 ∷ 1 ∷ 2 ∷ 0 ∷ []) 1 (Some (of_reading 46 4 1))
  pub eight_links : Meets (source p) 8 (0 ∷ 1 ∷ 2 ∷ 0 ∷ []) 1 None
  -- 5. P over 0 1 2 0 1 2 0 1.
  pub eight_words : Right p_eight × Counted p_eight 15 6 7
  -- 6. After that, going back to two words keeps 0 1, with their links, and they are judged a sentence.
  pub back_to_two : (n : ℕ) → Does (source p) (opened n p_eight.words) (back_to 2) (plain done) (opened n (0 ∷ 1 ∷ []))
  pub two_left : Counts (source p) (0 ∷ 1 ∷ []) 3
  pub two_judged : (n : ℕ) → Does (source p) (opened n (0 ∷ 1 ∷ [])) judge (plain (judged true)) (opened n (0 ∷ 1 ∷ []))
  -- 7. Q over no words.
  pub no_words : Right q_none × Counted q_none 3 1 2
  -- 8. Q over one word.
  pub one_word : Right q_one × Counted q_one 11 3 7
