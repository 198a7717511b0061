-- What is gathered of the words that a reading keeps.
--   ForestOf g ws r        r has all nodes and alternatives of the words ws, or too many of them is its fault
--   GathersHeld src h r    so it is where h is held, open, and its words are a sentence
use Rattle.std.specs.Prelude.{◌≡◌, ℕ, ◌≤◌, ◌⊎◌, List, length, Ok, Err, Result}
use Rattle.parsing.specs.Grammar.{Grammar}
use Rattle.parsing.specs.Items.{Source}
use Rattle.records.specs.declared.node.Node.{Node}
use Rattle.histories.specs.Calls.{Held, opened}
use Rattle.histories.specs.Doings.{Accepts}
use Rattle.histories.specs.Forests.{NodeOf, AlternativeOf, Nodes, Alternatives}
use Rattle.histories.specs.Refusals.{of_reading}
use Rattle.histories.specs.Sizes.{AtMost, MoreThan}
use Rattle.panel.specs.Answers.{alternatives_of}
use Rattle.panel.specs.Faults.{outcome_of}
use Rattle.panel.specs.Lines.{refused}
use Rattle.panel.specs.declared.gathered.Forest.{Forest}
use Rattle.panel.specs.declared.fault.Fault.{Fault}

pub record Gathered (g : Grammar) (ws : List ℕ) (f : Forest) : Type 0 where
  pub nodes : List Node
  pub nodes_are : Nodes g ws nodes
  pub few_nodes : length nodes ≤ 512
  pub count : f.counts.nodes ≡ length nodes
  pub alternatives_are : Alternatives g ws (alternatives_of f)
  pub few_alternatives : length (alternatives_of f) ≤ 2048

abbrev pub ForestOf : Grammar → List ℕ → Result Forest Fault → Type 0
ForestOf g ws (Ok f) = Gathered g ws f
ForestOf g ws (Err e) =
    ((outcome_of e ≡ refused (of_reading 49 0 0)) × MoreThan (NodeOf g ws) 512)
    ⊎ ((outcome_of e ≡ refused (of_reading 50 0 0)) × AtMost (NodeOf g ws) 512 × MoreThan (AlternativeOf g ws) 2048)

abbrev pub GathersHeld : Source → Held → Result Forest Fault → Type 0
GathersHeld src h r = (n : ℕ) (ws : List ℕ) → h ≡ opened n ws → Accepts src ws → ForestOf src.grammar ws r
