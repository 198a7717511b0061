-- What gathering a forest writes.
--   link_at s j b i               the link from the state s at place j down to the state b at place i
--   Among ks s j b i              a link of the list ks leads from the state s at place j down to the state b at place i, and does not rise
--   recorded r cs                 the record of the alternative (r, cs): its unused cuts are 255
--   MetRecord g fits n z          z is the record of an alternative that is met from the top
--   Lists R P blank xs n          the first n of the slots xs hold exactly the records with the property P, in the order R and each once;
--                                 the others are blank
--   Short P xs                    more records have the property P than there are slots xs
--   Blank b xs ys                 ys are as many slots as xs, all blank
--   Overfull P Q xs ys e          the nodes with the property P are more than the slots xs, and e says so; or they are not, but the
--                                 alternatives with the property Q are more than the slots ys, and e says so
--   Writes P Q xs ys vs zs r      what writing the nodes with the property P and the alternatives with the property Q into the slots xs and ys
--                                 answers, r, and leaves in them, vs and zs; what it leaves where they are too few is not told
--   Fills S P Q xs ys vs zs r     the same where S is asked first: without it the refusal is that of words that are no sentence, and the
--                                 slots stay as they were; where they are too few, all are blank
--   Gathers src ws ks xs ys vs zs r   what gathering over the words ws and the links ks answers and leaves: there is one answer to what fits,
--                                 that of the words and the links, and the slots are filled with what is met by it from the top, if the start
--                                 symbol fits over all words
--   IsNode g ws z                 the node z occurs in some derivation of the words
--   IsAlternative g ws z          z is the record of an alternative that is used in some derivation of the words
--   Holds ks L                    the list ks of links holds exactly those of the relation L
--   GathersForest g ws xs ys vs zs r   the slots are filled with what occurs in the derivations of the words, if they are a sentence
use Rattle.std.specs.Prelude.{◌≡◌, ℕ, ◌-◌, ◌≤◌, Bool, true, ◌↔◌, ◌⊎◌, List, [], ◌++◌, length, take, drop, replicate, Ok, Err, Result}
use Rattle.std.specs.declared.cmp.Ordering.{Ordering}
use Rattle.grammar.specs.declared.refusal.Refusal.{Refusal}
use Rattle.parsing.specs.Grammar.{Grammar, Sentence, start}
use Rattle.parsing.specs.Forest.{Occurs, Uses}
use Rattle.parsing.specs.Items.{Source}
use Rattle.spans.specs.Spans.{Answers, MetAlternative}
use Rattle.register.specs.Lists.{Has, Climbs, More}
use Rattle.records.specs.Orders.{node_cmp, alternative_cmp}
use Rattle.records.specs.declared.node.Node.{Node}
use Rattle.records.specs.declared.alternative.Alternative.{Alternative}
use Rattle.records.specs.Blanks.{blank_node, blank_alternative}
use Rattle.link_growth.specs.declared.Link.{Link}
use Rattle.forest.specs.Refusals.{no_sentence, nodes_short, alternatives_short, refusal}
use Rattle.forest.specs.Sweeps.{MetNode}
use Rattle.forest.specs.declared.gathering.Counts.{Counts}
use Rattle.forest.specs.declared.fault.GatherFault.{GatherFault}

abbrev pub link_at : ℕ → ℕ → ℕ → ℕ → Link
link_at s j b i = record { state = s; place = j; below = b; below_place = i }

abbrev pub Among : List Link → ℕ → ℕ → ℕ → ℕ → Type 0
Among ks s j b i = Has ks (link_at s j b i) × (i ≤ j)

abbrev pub recorded : ℕ → List ℕ → Alternative
recorded r cs = record { rule = r; cuts = cs ++ replicate (8 - length cs) 255 }

pub record MetRecord (g : Grammar) (fits : ℕ → ℕ → ℕ → Bool) (n : ℕ) (z : Alternative) : Type 0 where
  pub rule : ℕ
  pub cuts : List ℕ
  pub met : MetAlternative g fits n rule cuts
  pub here : z ≡ recorded rule cuts

pub record Lists {X : Type 0} (R : X → X → Ordering) (P : X → Type 0) (blank : X) (xs : List X) (n : ℕ) : Type 0 where
  pub room : n ≤ length xs
  pub order : Climbs R (take n xs)
  pub sound : (z : X) → Has (take n xs) z → P z
  pub whole : (z : X) → P z → Has (take n xs) z
  pub rest : drop n xs ≡ replicate (length xs - n) blank

abbrev pub Short : {X : Type 0} → (X → Type 0) → List X → Type 0
Short P xs = More P [] (length xs)

abbrev pub Blank : {X : Type 0} → X → List X → List X → Type 0
Blank b xs ys = ys ≡ replicate (length xs) b

pub record Refused (S : Type 0) (xs : List Node) (ys : List Alternative) (vs : List Node) (zs : List Alternative) (e : Refusal) : Type 0 where
  pub number : e ≡ no_sentence
  pub none : S → ⊥
  pub nodes : vs ≡ xs
  pub alternatives : zs ≡ ys

module _ (P : Node → Type 0) (Q : Alternative → Type 0) (xs : List Node) (ys : List Alternative) where
  abbrev pub Overfull : Refusal → Type 0
  Overfull e = ((e ≡ nodes_short) × Short P xs) ⊎ ((e ≡ alternatives_short) × (Short P xs → ⊥) × Short Q ys)

  module _ (vs : List Node) (zs : List Alternative) where
    pub record Written (c : Counts) : Type 0 where
      pub nodes : Lists node_cmp P blank_node vs c.nodes
      pub alternatives : Lists alternative_cmp Q blank_alternative zs c.alternatives

    abbrev pub Writes : Result Counts GatherFault → Type 0
    Writes (Ok c) = Written c
    Writes (Err f) = Overfull (refusal f)

    pub record Emptied (S : Type 0) (e : Refusal) : Type 0 where
      pub some : S
      pub short : Overfull e
      pub nodes : Blank blank_node xs vs
      pub alternatives : Blank blank_alternative ys zs

abbrev pub Fills : Type 0 → (Node → Type 0) → (Alternative → Type 0) → List Node → List Alternative → List Node → List Alternative
    → Result Counts GatherFault → Type 0
Fills S P Q xs ys vs zs (Ok c) = S × Written P Q xs ys vs zs c
Fills S P Q xs ys vs zs (Err f) = Refused S xs ys vs zs (refusal f) ⊎ Emptied P Q xs ys vs zs S (refusal f)

pub record Gathers (src : Source) (ws : List ℕ) (ks : List Link) (xs : List Node) (ys : List Alternative) (vs : List Node) (zs : List Alternative)
    (r : Result Counts GatherFault) : Type 0 where
  pub fits : ℕ → ℕ → ℕ → Bool
  pub told : Answers src (Among ks) ws fits
  pub filled :
      Fills (fits (start src.grammar) 0 (length ws) ≡ true) (MetNode src.grammar fits (length ws)) (MetRecord src.grammar fits (length ws))
      xs ys vs zs r

pub record IsNode (g : Grammar) (ws : List ℕ) (z : Node) : Type 0 where
  pub derivation : Sentence g ws
  pub occurs : Occurs derivation z.symbol z.from z.to

pub record IsAlternative (g : Grammar) (ws : List ℕ) (z : Alternative) : Type 0 where
  pub rule : ℕ
  pub cuts : List ℕ
  pub derivation : Sentence g ws
  pub uses : Uses derivation rule cuts
  pub here : z ≡ recorded rule cuts

abbrev pub Holds : List Link → (ℕ → ℕ → ℕ → ℕ → Type 0) → Type 0
Holds ks L = (s j b i : ℕ) → Has ks (link_at s j b i) ↔ L s j b i

abbrev pub GathersForest : Grammar → List ℕ → List Node → List Alternative → List Node → List Alternative → Result Counts GatherFault → Type 0
GathersForest g ws = Fills (Sentence g ws) (IsNode g ws) (IsAlternative g ws)
