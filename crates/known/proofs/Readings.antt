-- A reading that passes the tests is right.
use Rattle.std.proofs.Common.{◌≡◌, Bool, true, ◌&&◌, [], length, refl}
use Rattle.std.proofs.lemmas.Bool.{and_parts}
use Rattle.parsing.specs.Grammar.{start}
use Rattle.states.specs.Sources.{Sourced}
use Rattle.table_format.specs.Tables.{source_of}
use Rattle.histories.proofs.Sentences.{accepts_sentence}
use Rattle.known.specs.Automata.{source}
use Rattle.known.specs.Readings.{Reading, Right, Counted}
use Rattle.known.proofs.Members.{once?}
use Rattle.known.proofs.Links.{link_code, grounded?, saturated?, links_exactly}
use Rattle.known.proofs.Derivations.{derives?, it_derives}
use Rattle.known.proofs.Forests.{forest?, nodes_are, alternatives_are}

module _ (r : Reading) where
  abbrev links? : Bool
  links? =
      grounded? (source r.automaton) r.words [] r.links
      && (saturated? (source r.automaton) r.words r.links && once? link_code r.links)

  abbrev sentence? : Bool
  sentence? = derives? r.automaton.grammar r.words r.alternatives 3 (start r.automaton.grammar) 0 (length r.words)

  abbrev pub reading? : Bool
  reading? = links? && (sentence? && forest? r.automaton.grammar r.words r.nodes r.alternatives)

  pub is_right : Sourced (source r.automaton) → reading? ≡ true → Right r
  unfolding source_of
  is_right p e =
      let (l, x) = and_parts _ _ e in
      let (s, f) = and_parts _ _ x in
      let (a, b) = and_parts _ _ l in
      let (c, d) = and_parts _ _ b in
      let sentence = it_derives r.automaton.grammar r.words r.alternatives 3 _ _ _ s in
      record {
        links = links_exactly (source r.automaton) r.words r.links a c d;
        sentence = sentence;
        judged = (accepts_sentence p).1 sentence;
        nodes = nodes_are r.automaton.grammar r.words r.nodes r.alternatives p.well_formed sentence f;
        alternatives = alternatives_are r.automaton.grammar r.words r.nodes r.alternatives p.well_formed sentence f;
      }

  pub counted : Right r → Counted r (length r.links) (length r.nodes) (length r.alternatives)
  counted x = record { links = record { all = r.links; exact = x.links; size = refl }; nodes = refl; alternatives = refl }
