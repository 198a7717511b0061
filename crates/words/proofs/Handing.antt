-- What a feed's answer says of the words that were coming, and what a feed's author shows.
use Rattle.std.proofs.Common.{◌≡◌, ℕ, List, [], ◌∷◌, Some, None, Ok, Err, Option, Result, sym, refl, ap, ◌∙◌, subst, arith}
use Rattle.grammar.specs.declared.refusal.Refusal.{Refusal}
use Rattle.words.specs.Feeds.{Coming, told, Ends, HandedOf, Handed}
use Rattle.words.specs.Refusals.{refusal}
use Rattle.words.specs.declared.word.Word.{Word}
use Rattle.words.specs.declared.fault.FeedFault.{FeedFault}

-- A word was answered: it was the first.
ending_word : {P : Type 0} (x : Option Refusal) (w : Word) → Ends x (Ok (Some w)) → P
ending_word None w e = let z : ◌≡◌ {A = ℕ} 0 1 = cc in absurd (omega arith)
ending_word (Some x) w e = absurd e

pub handed_word : (ws : List Word) (f : Option Refusal) (w : Word) (d : Coming) → HandedOf ws f (Ok (Some w)) d → (ws ≡ w ∷ d.words) × (d.fault ≡ f)
handed_word [] f w d h = ending_word f w h.0
handed_word (v ∷ ws) f w d h =
    let e : w ≡ v = let k = h.0 in cc in
    ((λ i. sym e i ∷ sym (ap (λ c. c.words) h.1) i), ap (λ c. c.fault) h.1)

-- The end was answered: nothing was coming.
ending_end : (x : Option Refusal) → Ends x (Ok None) → x ≡ None
ending_end None e = refl
ending_end (Some x) e = absurd e

pub handed_end : (ws : List Word) (f : Option Refusal) (d : Coming) → HandedOf ws f (Ok None) d → (ws ≡ []) × (f ≡ None) × (d ≡ record { words = []; fault = f })
handed_end [] f d h = (refl, ending_end f h.0, h.1)
handed_end (v ∷ ws) f d h = let k = h.0 in let z : ◌≡◌ {A = ℕ} 0 1 = cc in absurd (omega arith)

-- A fault was answered: it was what came.
ending_fault : (x : Option Refusal) (g : FeedFault) → Ends x (Err g) → x ≡ Some (refusal g)
ending_fault None g e = let z : ◌≡◌ {A = ℕ} 0 1 = cc in absurd (omega arith)
ending_fault (Some x) g e = ap Some (sym e)

pub handed_fault : (ws : List Word) (f : Option Refusal) (g : FeedFault) (d : Coming) → HandedOf ws f (Err g) d → (ws ≡ []) × (f ≡ Some (refusal g)) × (d ≡ record { words = []; fault = f })
handed_fault [] f g d h = (refl, ending_fault f g h.0, h.1)
handed_fault (v ∷ ws) f g d h = let k = h.0 in let z : ◌≡◌ {A = ℕ} 0 1 = cc in absurd (omega arith)

-- The other way, for a feed whose meaning c is told by a list: it answers the first of the list.
pub hand_word : (c d : Coming) (w : Word) (rs : List (Result Word Refusal)) → c ≡ told (Ok w ∷ rs) → d ≡ told rs → Handed c (Ok (Some w)) d
hand_word c d w rs e f = subst (λ x. Handed x (Ok (Some w)) d) (sym e) (refl, f)

pub hand_fault : (c d : Coming) (g : FeedFault) (rs : List (Result Word Refusal)) → c ≡ told (Err (refusal g) ∷ rs) → d ≡ c → Handed c (Err g) d
hand_fault c d g rs e f = subst (λ x. Handed x (Err g) d) (sym e) (refl, f ∙ e)
