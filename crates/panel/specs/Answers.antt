-- What the answer for a recipe tells.
--   alternatives_of f   the alternatives of the forest f
--   told a      the outcome that the answer a tells
--   outcome r   the same of an answer or a fault
use Rattle.std.specs.Prelude.{ℕ, List, take, Ok, Err, Some, None, Option, Result}
use Rattle.records.specs.declared.alternative.Alternative.{Alternative}
use Rattle.panel.specs.Faults.{outcome_of}
use Rattle.panel.specs.Lines.{Outcome, no_sentence, sentence}
use Rattle.panel.specs.declared.answer.Answer.{Answer}
use Rattle.panel.specs.declared.gathered.Forest.{Forest}
use Rattle.panel.specs.declared.fault.Fault.{Fault}

abbrev pub alternatives_of : Forest → List Alternative
alternatives_of f = take f.counts.alternatives f.list

abbrev pub told_of : ℕ → ℕ → Option Forest → Outcome
told_of m n None = no_sentence m n
told_of m n (Some f) = sentence m n f.counts.nodes (alternatives_of f)

abbrev pub told : Answer → Outcome
told a = told_of a.words a.links a.forest

abbrev pub outcome : Result Answer Fault → Outcome
outcome (Ok a) = told a
outcome (Err f) = outcome_of f
