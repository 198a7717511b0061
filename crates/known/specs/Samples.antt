-- Two small grammars with their LR(0) automata, and what some words give.
--   rule X Xs, step s X u, link s j b i, node X i j, by_rule r cs   short for the records of rules, steps, links, nodes, alternatives;
--             the cuts that an alternative does not use are 255
--   p         the automaton of P: the terminals are 0, 1 and 2; 3 is the goal, and 4 is 0 and 1, or two of 4 with 2 between them
--   q         the automaton of Q: the terminals are 0 and 1; 2 is the goal, and 3 is two of 3, or 1, or nothing
--   p_two     P over one 4
--   p_five    P over two of 4
--   p_eight   P over three of 4, which can be read in two ways
--   q_none    Q over no words
--   q_one     Q over one word
use Rattle.std.specs.Prelude.{ℕ, List, [], ◌∷◌}
use Rattle.parsing.specs.Grammar.{Rule}
use Rattle.link_growth.specs.Entries.{lnk as link}
use Rattle.records.specs.declared.node.Node.{Node}
use Rattle.records.specs.declared.alternative.Alternative.{Alternative}
use Rattle.histories.specs.Forests.{padded}
use Rattle.known.specs.Automata.{Transition, Automaton}
use Rattle.known.specs.Readings.{Reading}

abbrev rule : ℕ → List ℕ → Rule
rule X Xs = record { left = X; right = Xs }

-- The state s steps by X to u.
abbrev step : ℕ → ℕ → ℕ → Transition
step s X u = record { state = s; symbol = X; to = u }

abbrev node : ℕ → ℕ → ℕ → Node
node X i j = record { symbol = X; from = i; to = j }

abbrev pub by_rule : ℕ → List ℕ → Alternative
by_rule r cs = record { rule = r; cuts = padded cs }

abbrev pub p : Automaton
p = record {
  grammar = record {
    terminals = 3;
    nonterminals = 2;
    rules = rule 3 (4 ∷ []) ∷ rule 4 (0 ∷ 1 ∷ []) ∷ rule 4 (4 ∷ 2 ∷ 4 ∷ []) ∷ [];
  };
  rows = (1 ∷ 1 ∷ 1 ∷ [])
      ∷ (0 ∷ 2 ∷ 0 ∷ [])
      ∷ (2 ∷ 0 ∷ 2 ∷ [])
      ∷ (0 ∷ 4 ∷ 0 ∷ [])
      ∷ (0 ∷ 1 ∷ 5 ∷ [])
      ∷ (0 ∷ 0 ∷ 10 ∷ [])
      ∷ [];
  steps = step 0 0 1 ∷ step 0 4 2 ∷ step 1 1 3 ∷ step 2 2 4 ∷ step 4 0 1 ∷ step 4 4 5 ∷ step 5 2 4 ∷ [];
}

abbrev pub q : Automaton
q = record {
  grammar = record {
    terminals = 2;
    nonterminals = 2;
    rules = rule 2 (3 ∷ []) ∷ rule 3 (3 ∷ 3 ∷ []) ∷ rule 3 (1 ∷ []) ∷ rule 3 [] ∷ [];
  };
  rows = (1 ∷ 1 ∷ 1 ∷ 1 ∷ []) ∷ (0 ∷ 0 ∷ 2 ∷ 0 ∷ []) ∷ (2 ∷ 3 ∷ 1 ∷ 1 ∷ []) ∷ (0 ∷ 7 ∷ 1 ∷ 1 ∷ []) ∷ [];
  steps = step 0 1 1 ∷ step 0 3 2 ∷ step 2 1 1 ∷ step 2 3 3 ∷ step 3 1 1 ∷ step 3 3 3 ∷ [];
}

abbrev pub p_two : Reading
p_two = record {
  automaton = p;
  words = 0 ∷ 1 ∷ [];
  links = link 1 1 0 0 ∷ link 3 2 1 1 ∷ link 2 2 0 0 ∷ [];
  nodes = node 4 0 2 ∷ [];
  alternatives = by_rule 1 (0 ∷ 1 ∷ 2 ∷ []) ∷ [];
}

abbrev pub p_five : Reading
p_five = record {
  automaton = p;
  words = 0 ∷ 1 ∷ 2 ∷ 0 ∷ 1 ∷ [];
  links = link 1 1 0 0 ∷ link 3 2 1 1 ∷ link 2 2 0 0 ∷ link 4 3 2 2 ∷ link 1 4 4 3 ∷ link 3 5 1 4 ∷ link 5 5 4 3 ∷ link 2 5 0 0 ∷ [];
  nodes = node 4 0 2 ∷ node 4 0 5 ∷ node 4 3 5 ∷ [];
  alternatives = by_rule 1 (0 ∷ 1 ∷ 2 ∷ []) ∷ by_rule 2 (0 ∷ 2 ∷ 3 ∷ 5 ∷ []) ∷ by_rule 1 (3 ∷ 4 ∷ 5 ∷ []) ∷ [];
}

abbrev pub p_eight : Reading
p_eight = record {
  automaton = p;
  words = 0 ∷ 1 ∷ 2 ∷ 0 ∷ 1 ∷ 2 ∷ 0 ∷ 1 ∷ [];
  links = link 1 1 0 0
      ∷ link 3 2 1 1
      ∷ link 2 2 0 0
      ∷ link 4 3 2 2
      ∷ link 1 4 4 3
      ∷ link 3 5 1 4
      ∷ link 5 5 4 3
      ∷ link 2 5 0 0
      ∷ link 4 6 5 5
      ∷ link 4 6 2 5
      ∷ link 1 7 4 6
      ∷ link 3 8 1 7
      ∷ link 5 8 4 6
      ∷ link 5 8 4 3
      ∷ link 2 8 0 0
      ∷ [];
  nodes = node 4 0 2 ∷ node 4 0 5 ∷ node 4 0 8 ∷ node 4 3 5 ∷ node 4 3 8 ∷ node 4 6 8 ∷ [];
  alternatives = by_rule 1 (0 ∷ 1 ∷ 2 ∷ [])
      ∷ by_rule 2 (0 ∷ 2 ∷ 3 ∷ 5 ∷ [])
      ∷ by_rule 2 (0 ∷ 2 ∷ 3 ∷ 8 ∷ [])
      ∷ by_rule 2 (0 ∷ 5 ∷ 6 ∷ 8 ∷ [])
      ∷ by_rule 1 (3 ∷ 4 ∷ 5 ∷ [])
      ∷ by_rule 2 (3 ∷ 5 ∷ 6 ∷ 8 ∷ [])
      ∷ by_rule 1 (6 ∷ 7 ∷ 8 ∷ [])
      ∷ [];
}

abbrev pub q_none : Reading
q_none = record {
  automaton = q;
  words = [];
  links = link 2 0 0 0 ∷ link 3 0 2 0 ∷ link 3 0 3 0 ∷ [];
  nodes = node 3 0 0 ∷ [];
  alternatives = by_rule 1 (0 ∷ 0 ∷ 0 ∷ []) ∷ by_rule 3 (0 ∷ []) ∷ [];
}

abbrev pub q_one : Reading
q_one = record {
  automaton = q;
  words = 1 ∷ [];
  links = link 2 0 0 0
      ∷ link 3 0 2 0
      ∷ link 3 0 3 0
      ∷ link 1 1 0 0
      ∷ link 1 1 2 0
      ∷ link 1 1 3 0
      ∷ link 2 1 0 0
      ∷ link 3 1 2 0
      ∷ link 3 1 3 0
      ∷ link 3 1 2 1
      ∷ link 3 1 3 1
      ∷ [];
  nodes = node 3 0 0 ∷ node 3 0 1 ∷ node 3 1 1 ∷ [];
  alternatives = by_rule 1 (0 ∷ 0 ∷ 0 ∷ [])
      ∷ by_rule 3 (0 ∷ [])
      ∷ by_rule 1 (0 ∷ 0 ∷ 1 ∷ [])
      ∷ by_rule 1 (0 ∷ 1 ∷ 1 ∷ [])
      ∷ by_rule 2 (0 ∷ 1 ∷ [])
      ∷ by_rule 1 (1 ∷ 1 ∷ 1 ∷ [])
      ∷ by_rule 3 (1 ∷ [])
      ∷ [];
}
