-- What a gather writes: the nodes and the alternatives of all derivations of some words.
--   NodeOf g ws z          the node z occurs in some derivation of the words ws
--   padded cs              the cuts cs, with 255 for the cuts that are not used
--   AlternativeOf g ws z   the alternative z occurs in some derivation of the words ws
--   Lists R P xs           xs has the records with the property P and no other, each once, in the order R
--   filled xs n x          the records xs in front of n slots, and x in the slots past them
--   Nodes g ws xs, Alternatives g ws ys   the lists of the nodes and of the alternatives that occur in some derivation
use Rattle.std.specs.Prelude.{◌≡◌, ℕ, ◌-◌, List, ◌++◌, length, replicate}
use Rattle.std.specs.declared.cmp.Ordering.{Ordering}
use Rattle.parsing.specs.Grammar.{Grammar, Sentence}
use Rattle.parsing.specs.Forest.{Occurs, Uses}
use Rattle.register.specs.Lists.{Has, Climbs}
use Rattle.records.specs.Orders.{node_cmp, alternative_cmp}
use Rattle.records.specs.declared.node.Node.{Node}
use Rattle.records.specs.declared.alternative.Alternative.{Alternative}

pub record NodeOf (g : Grammar) (ws : List ℕ) (z : Node) : Type 0 where
  pub derivation : Sentence g ws
  pub occurs : Occurs derivation z.symbol z.from z.to

abbrev pub padded : List ℕ → List ℕ
padded cs = cs ++ replicate (8 - length cs) 255

pub record AlternativeOf (g : Grammar) (ws : List ℕ) (z : Alternative) : Type 0 where
  pub derivation : Sentence g ws
  pub places : List ℕ
  pub uses : Uses derivation z.rule places
  pub cuts_are : z.cuts ≡ padded places

pub record Lists {X : Type 0} (R : X → X → Ordering) (P : X → Type 0) (xs : List X) : Type 0 where
  pub order : Climbs R xs
  pub each : (z : X) → P z → Has xs z
  pub only : (z : X) → Has xs z → P z

abbrev pub filled : {X : Type 0} → List X → ℕ → X → List X
filled xs n x = xs ++ replicate (n - length xs) x

abbrev pub Nodes : Grammar → List ℕ → List Node → Type 0
Nodes g ws xs = Lists node_cmp (NodeOf g ws) xs

abbrev pub Alternatives : Grammar → List ℕ → List Alternative → Type 0
Alternatives g ws ys = Lists alternative_cmp (AlternativeOf g ws) ys
