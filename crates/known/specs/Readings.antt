-- Readings written out: the links of some words, and the forest of their derivations.
--   Reading          an automaton, the words that it reads, and their links, nodes and alternatives
--   Right r          the words are a sentence, and are judged one; the links, the nodes and the alternatives are theirs and no others,
--                    each once, and the nodes and the alternatives stand in their order
--   Counted r l n a  the words have l links, n nodes and a alternatives
use Rattle.std.specs.Prelude.{◌≡◌, ℕ, List, length}
use Rattle.parsing.specs.Grammar.{Sentence}
use Rattle.link_growth.specs.declared.Link.{Link}
use Rattle.link_growth.specs.Counting.{Exact, Counts}
use Rattle.records.specs.declared.node.Node.{Node}
use Rattle.records.specs.declared.alternative.Alternative.{Alternative}
use Rattle.histories.specs.Doings.{Accepts}
use Rattle.histories.specs.Forests.{Nodes, Alternatives}
use Rattle.known.specs.Automata.{Automaton, source}

pub record Reading : Type 0 where
  pub automaton : Automaton
  pub words : List ℕ
  pub links : List Link
  pub nodes : List Node
  pub alternatives : List Alternative

pub record Right (r : Reading) : Type 0 where
  pub links : Exact (source r.automaton) r.words r.links
  pub sentence : Sentence r.automaton.grammar r.words
  pub judged : Accepts (source r.automaton) r.words
  pub nodes : Nodes r.automaton.grammar r.words r.nodes
  pub alternatives : Alternatives r.automaton.grammar r.words r.alternatives

pub record Counted (r : Reading) (l n a : ℕ) : Type 0 where
  pub links : Counts (source r.automaton) r.words l
  pub nodes : length r.nodes ≡ n
  pub alternatives : length r.alternatives ≡ a
