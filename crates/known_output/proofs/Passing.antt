-- The words of a sentence are all taken, where their links are few enough.
use Rattle.std.proofs.lemmas.Bool.{ltb-true}
use Rattle.std.proofs.Common.{◌≡◌, ℕ, ltb, ◌<◌, ◌≤◌, true, List, [], ◌∷◌, ◌++◌, length, None, Option, sym, refl, ap, subst, append_assoc, arith}
use Rattle.std.proofs.lemmas.List.{length-append}
use Rattle.parsing.specs.Grammar.{Sentence}
use Rattle.parsing.specs.Items.{Source}
use Rattle.parsing.proofs.Prefix.{linked_prefix}
use Rattle.parsing.proofs.Soundness.{linked_place}
use Rattle.states.specs.Sources.{Sourced}
use Rattle.grammar.specs.declared.refusal.Refusal.{Refusal}
use Rattle.link_growth.specs.Entries.{Mem, head, tail}
use Rattle.words.specs.declared.word.Word.{Word}
use Rattle.histories.specs.Calls.{judged}
use Rattle.histories.specs.Doings.{Passes, at_end, word_yes}
use Rattle.histories.specs.Laws.{terminals_of}
use Rattle.histories.specs.Meetings.{Fits, taken}
use Rattle.histories.proofs.Sentences.{accepts_sentence}
use Rattle.table_format.specs.Tables.{source_of}
use Rattle.link_growth.proofs.Exacts.{fits}
use Rattle.known.specs.Automata.{source}
use Rattle.known.specs.Samples.{p, p_eight}
use Rattle.known.proofs.Tests.{at_member}
use Rattle.known.proofs.Meeting.{steps_on}
use Rattle.known.proofs.Theorem.{p_sourced, p_eight_right}

-- The links of fewer words are not more.
pub fits_front : {src : Source} (ws vs : List ℕ) {n : ℕ} → Fits src (ws ++ vs) n → Fits src ws n
fits_front {src} ws vs f x =
    f (record {
      some = x.some;
      once = x.once;
      sound = λ s j b i m. let k = x.sound s j b i m in (linked_prefix src ws vs s j b i (linked_place k)).1 k;
      long = x.long;
    })

append_nil : (xs : List ℕ) → xs ++ [] ≡ xs
append_nil [] = refl
append_nil (x ∷ xs) = ap (λ ys. x ∷ ys) (append_nil xs)

module _ {src : Source} (law : Sourced src) (n : ℕ) (e : Option Refusal) (ends : e ≡ None) where
  pub takes_all : (ws : List ℕ) (cs : List Word) → length (ws ++ terminals_of cs) ≤ 254
      → ((t : ℕ) → Mem t (terminals_of cs) → t < src.grammar.terminals)
      → Fits src (ws ++ terminals_of cs) n → Sentence src.grammar (ws ++ terminals_of cs)
      → Passes src n e ws cs (judged true) (ws ++ terminals_of cs) []
  takes_all ws [] few small fits d =
      let s : Sentence src.grammar ws = subst (Sentence src.grammar) (append_nil ws) d in
      subst (λ vs. Passes src n e ws [] (judged true) vs []) (sym (append_nil ws))
      (at_end ends ((λ _. (accepts_sentence law).1 s), λ _. refl))
  takes_all ws (w ∷ cs) few small fits d =
      let t = w.terminal in
      let rest = terminals_of cs in
      let on : (ws ++ t ∷ []) ++ rest ≡ ws ++ t ∷ rest = append_assoc ws (t ∷ []) rest in
      let all : Fits src ((ws ++ t ∷ []) ++ rest) n = subst (λ vs. Fits src vs n) (sym on) fits in
      let low : t < src.grammar.terminals = small t head in
      word_yes
      (taken (omega (arith, length-append ws (t ∷ rest))) low (steps_on law ws rest t low d) (fits_front (ws ++ t ∷ []) rest all))
      (subst (λ vs. Passes src n e (ws ++ t ∷ []) cs (judged true) vs []) on
      (takes_all (ws ++ t ∷ []) cs (subst (λ vs. length vs ≤ 254) (sym on) few) (λ x m. small x (tail m)) all
      (subst (Sentence src.grammar) (sym on) d)))

-- The eight words of P.
terminals_low : (t : ℕ) → Mem t p_eight.words → t < 3
terminals_low t m = ltb-true _ _ (at_member (λ x. ltb x 3) t p_eight.words refl m)

pub eight_fit : (n : ℕ) → 15 ≤ n → Fits (source p) p_eight.words n
eight_fit n h = fits p_eight_right.links h

pub eight_taken : (n : ℕ) → 15 ≤ n → (e : Option Refusal) → e ≡ None → (cs : List Word) → terminals_of cs ≡ p_eight.words
    → Passes (source p) n e [] cs (judged true) (terminals_of cs) []
unfolding source_of
eight_taken n h e ends cs words =
    takes_all p_sourced n e ends [] cs (omega (arith, ap length words))
    (λ t m. terminals_low t (subst (Mem t) words m))
    (subst (λ ws. Fits (source p) ws n) (sym words) (eight_fit n h))
    (subst (Sentence p.grammar) (sym words) p_eight_right.sentence)
