-- How a read-through ends, from the words that it passes.
use Rattle.std.proofs.Common.{◌≡◌, ℕ, Bool, true, ◌↔◌, List, [], ◌∷◌, ◌++◌, Some, None, Option, sym, refl, ap, ◌∙◌, append_assoc, append-nil}
use Rattle.grammar.specs.declared.refusal.Refusal.{Refusal}
use Rattle.parsing.specs.Items.{Source}
use Rattle.words.specs.declared.word.Word.{Word}
use Rattle.histories.specs.Calls.{judged, refused, word_refused}
use Rattle.histories.specs.Doings.{Accepts, Passes, at_end, at_fault, word_no, word_yes}
use Rattle.histories.specs.Laws.{terminals_of}
use Rattle.histories.specs.Meetings.{Meets}

-- The words are all kept, and the feed is at its end.
pub record Ended (src : Source) (e : Option Refusal) (ws : List ℕ) (cs : List Word) (b : Bool) (vs : List ℕ) (ds : List Word) : Type 0 where
  pub no_fault : e ≡ None
  pub kept : vs ≡ ws ++ terminals_of cs
  pub none_left : ds ≡ []
  pub verdict : (b ≡ true) ↔ Accepts src vs

pub record Faulted (e : Option Refusal) (ws : List ℕ) (cs : List Word) (r : Refusal) (vs : List ℕ) (ds : List Word) : Type 0 where
  pub comes : e ≡ Some r
  pub kept : vs ≡ ws ++ terminals_of cs
  pub none_left : ds ≡ []

pub record Refused (src : Source) (n : ℕ) (ws : List ℕ) (cs : List Word) (r : Refusal) (p q : ℕ) (vs : List ℕ) (ds : List Word) : Type 0 where
  pub before : List Word
  pub word : Word
  pub here : cs ≡ before ++ word ∷ ds
  pub kept : vs ≡ ws ++ terminals_of before
  pub from_is : p ≡ word.from
  pub to_is : q ≡ word.to
  pub met : Meets src n vs word.terminal (Some r)

module _ {src : Source} {n : ℕ} {e : Option Refusal} where
  pub ended : {ws vs : List ℕ} {cs ds : List Word} {b : Bool} → Passes src n e ws cs (judged b) vs ds → Ended src e ws cs b vs ds
  ended (at_end {ws = ws} x y) = record { no_fault = x; kept = sym (append-nil ws); none_left = refl; verdict = y }
  ended (word_yes {ws = ws} {w = w} {cs = cs} m p) =
      let k = ended p in
      record { no_fault = k.no_fault; kept = k.kept ∙ append_assoc ws (w.terminal ∷ []) (terminals_of cs); none_left = k.none_left; verdict = k.verdict }

  pub faulted : {ws vs : List ℕ} {cs ds : List Word} {r : Refusal} → Passes src n e ws cs (refused r) vs ds → Faulted e ws cs r vs ds
  faulted (at_fault {ws = ws} x) = record { comes = x; kept = sym (append-nil ws); none_left = refl }
  faulted (word_yes {ws = ws} {w = w} {cs = cs} m p) =
      let k = faulted p in
      record { comes = k.comes; kept = k.kept ∙ append_assoc ws (w.terminal ∷ []) (terminals_of cs); none_left = k.none_left }

  pub refused_at : {ws vs : List ℕ} {cs ds : List Word} {r : Refusal} {p q : ℕ} → Passes src n e ws cs (word_refused r p q) vs ds → Refused src n ws cs r p q vs ds
  refused_at (word_no {ws = ws} {w = w} m) =
      record { before = []; word = w; here = refl; kept = sym (append-nil ws); from_is = refl; to_is = refl; met = m }
  refused_at (word_yes {ws = ws} {w = w} m p) =
      let k = refused_at p in
      record {
        before = w ∷ k.before;
        word = k.word;
        here = ap (λ x. w ∷ x) k.here;
        kept = k.kept ∙ append_assoc ws (w.terminal ∷ []) (terminals_of k.before);
        from_is = k.from_is;
        to_is = k.to_is;
        met = k.met;
      }
