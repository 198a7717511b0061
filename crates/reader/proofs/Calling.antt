-- From what the links of a reading answer to what its calls promise.
use Rattle.std.proofs.Common.{◌≡◌, ℕ, ◌<◌, ◌≤◌, List, [], ◌∷◌, ◌++◌, length, take, Ok, Err, Result, Some, None, Option, sym, refl, ◌∙◌, subst, arith}
use Rattle.parsing.specs.Items.{Source}
use Rattle.link_growth.specs.Counting.{Exact, Exceeds}
use Rattle.links.specs.declared.links.Links.{Links}
use Rattle.links.specs.Holding.{Holds, Same, most, Opened, Took}
use Rattle.links.specs.Refusals.{number_of}
use Rattle.links.specs.Words
use Rattle.links.specs.Words.{Ready, blank, holding, OpenedWords, TookWords}
use Rattle.links.proofs.Words.{opened_words, took_words}
use Rattle.links.specs.declared.fault.TooManyLinks.{TooManyLinks as Many}
use Rattle.links.specs.declared.fault.TakeFault.{TakeFault}
use Rattle.histories.specs.Calls.{opened, open_with, take_word, back_to, refused, done, plain}
use Rattle.histories.specs.Meetings.{Meets, full, foreign, stuck, crowded, taken}
use Rattle.histories.specs.Doings.{Limit, Does, open_range, open_crowded, open_done, take_closed, take_no, take_yes, back_closed, back_beyond, back_done}
use Rattle.histories.specs.Refusals.{of_reading}
use Rattle.reader.specs.Holding.{Sound, holding as held_by}
use Rattle.reader.specs.Readings.{Reading, Makes}

-- A limit of a reading is a limit of its links.
pub most_is : {n : ℕ} → Limit n → most n ≡ n
most_is k = omega (arith, k.high)

holds_same : {src : Source} {ws : List ℕ} {l k : Links} → Holds src ws l → Same l k → Holds src ws k
holds_same {src} {ws} h s = record { place = s.place ∙ h.place; exact = subst (λ xs. Exact src ws xs) (sym s.links) h.exact }

-- Links that are alike go with the same words.
pub sound_same : (src : Source) (o : Option ℕ) (ws : List ℕ) {l k : Links} → Sound src o ws l → Same l k → Sound src o ws k
sound_same src None ws (e, b) s = (e, record { links = s.links ∙ b.links; place = s.place ∙ b.place })
sound_same src (Some n) ws (f, h) s = (f, holds_same h s)

pub sound_ready : (src : Source) (o : Option ℕ) (ws : List ℕ) {l : Links} → Sound src o ws l → Ready src l
sound_ready src None ws (e, b) = blank b
sound_ready src (Some n) ws (f, h) = holding ws h

-- What an open reading has.
pub limit_of : (src : Source) {o : Option ℕ} (ws : List ℕ) (l : Links) {n : ℕ} → o ≡ Some n → Sound src o ws l → Limit n
limit_of src ws l e s = (subst (λ p. Sound src p ws l) e s).0

pub holds_of : (src : Source) {o : Option ℕ} (ws : List ℕ) (l : Links) {n : ℕ} → o ≡ Some n → Sound src o ws l → Holds src ws l
holds_of src ws l e s = (subst (λ p. Sound src p ws l) e s).1

pub sound_opened : (src : Source) {o : Option ℕ} (ws : List ℕ) (l : Links) {n : ℕ} → o ≡ Some n → Limit n → Holds src ws l → Sound src o ws l
sound_opened src ws l e few h = subst (λ p. Sound src p ws l) (sym e) (few, h)

module _ {src : Source} {ws : List ℕ} {t n : ℕ} {l k : Links} where
  -- A word that is not taken is met by the refusal of its fault.
  met : (f : TakeFault) → TookWords src ws t n l (Err f) k → Meets src n ws t (Some (of_reading (number_of f) (length ws) t))
  met f (Words.full e a s) = rw e (full a)
  met f (Words.foreign e a b s) = rw e (foreign a b)
  met f (Words.stuck e a b c s) = rw e (stuck a b c)
  met f (Words.crowded e a b c d s) = rw e (crowded a b c d)

  met_none : TookWords src ws t n l (Ok tt) k → Meets src n ws t None
  met_none (Words.taken a b c d h) = taken a b c d

-- What it leaves.
pub took_same : {src : Source} {ws : List ℕ} {t n : ℕ} {l k : Links} (f : TakeFault) → TookWords src ws t n l (Err f) k → Same l k
took_same _ (Words.full e a s) = s
took_same _ (Words.foreign e a b s) = s
took_same _ (Words.stuck e a b c s) = s
took_same _ (Words.crowded e a b c d s) = s

pub record Taken (src : Source) (ws : List ℕ) (t : ℕ) (k : Links) : Type 0 where
  pub room : length ws < 254
  pub terminal : t < src.grammar.terminals
  pub holds : Holds src (ws ++ t ∷ []) k

pub took_taken : {src : Source} {ws : List ℕ} {t n : ℕ} {l k : Links} → TookWords src ws t n l (Ok tt) k → Taken src ws t k
took_taken (Words.taken a b c d h) = record { room = a; terminal = b; holds = h }

-- What the links of a reading leave, told of its words.
pub opened_of : (src : Source) (o : Option ℕ) (ws : List ℕ) {n : ℕ} {l k : Links} {r : Result (Unit {0}) Many} → Limit n → Sound src o ws l
    → Opened src (most n) l r k → OpenedWords src n l r k
opened_of src o ws {n} {l} {k} {r} few s h =
    subst (λ x. OpenedWords src x l r k) (most_is few) (opened_words (sound_ready src o ws s) h)

pub took_of : (src : Source) {o : Option ℕ} (ws : List ℕ) {t n : ℕ} {l k : Links} {r : Result (Unit {0}) TakeFault} → o ≡ Some n → Sound src o ws l
    → Took src t (most n) l r k → TookWords src ws t n l r k
took_of src ws {t} {n} {l} {k} {r} e s h =
    subst (λ x. TookWords src ws t x l r k) (most_is (limit_of src ws l e s)) (took_words (holds_of src ws l e s) h)

module _ {S : Type 0} (m : S → Source) where
  pub open_out : (r : Reading S) (n : ℕ) → (Limit n → ⊥) → Makes m r (open_with n) (plain (refused (of_reading 41 0 0))) r
  open_out r n f = record { over = refl; does = open_range f }

  pub open_over : (r : Reading S) (n : ℕ) → Limit n → Exceeds (m r.source) [] n → Makes m r (open_with n) (plain (refused (of_reading 42 0 0))) r
  open_over r n k e = record { over = refl; does = open_crowded k e }

  pub open_in : (r : Reading S) (n : ℕ) (ws : List ℕ) → Limit n → (Exceeds (m r.source) [] n → ⊥) → ws ≡ []
      → Makes m r (open_with n) (plain done) (record { source = r.source; limit = Some n; words = ws })
  open_in r n ws k f e = record {
    over = refl;
    does = subst (λ vs. Does (m r.source) (held_by r.limit r.words) (open_with n) (plain done) (opened n vs)) (sym e)
        (open_done k f);
  }

  pub take_out : (r : Reading S) (t : ℕ) → r.limit ≡ None → Makes m r (take_word t) (plain (refused (of_reading 40 0 0))) r
  take_out r t e = record {
    over = refl;
    does = subst (λ o. Does (m r.source) (held_by o r.words) (take_word t) (plain (refused (of_reading 40 0 0))) (held_by o r.words)) (sym e) take_closed;
  }

  pub back_out : (r : Reading S) (k : ℕ) → r.limit ≡ None → Makes m r (back_to k) (plain (refused (of_reading 40 0 0))) r
  back_out r k e = record {
    over = refl;
    does = subst (λ o. Does (m r.source) (held_by o r.words) (back_to k) (plain (refused (of_reading 40 0 0))) (held_by o r.words)) (sym e) back_closed;
  }

  pub back_over : (r : Reading S) (k n : ℕ) → r.limit ≡ Some n → length r.words < k
      → Makes m r (back_to k) (plain (refused (of_reading 47 k (length r.words)))) r
  back_over r k n e l = record {
    over = refl;
    does = subst (λ o. Does (m r.source) (held_by o r.words) (back_to k) (plain (refused (of_reading 47 k (length r.words)))) (held_by o r.words)) (sym e) (back_beyond l);
  }

  pub back_in : (r : Reading S) (k n : ℕ) (ws : List ℕ) → r.limit ≡ Some n → k ≤ length r.words → ws ≡ take k r.words
      → Makes m r (back_to k) (plain done) (record { source = r.source; limit = r.limit; words = ws })
  back_in r k n ws e l w = record {
    over = refl;
    does = subst (λ o. Does (m r.source) (held_by o r.words) (back_to k) (plain done) (held_by o ws)) (sym e)
        (subst (λ vs. Does (m r.source) (opened n r.words) (back_to k) (plain done) (opened n vs)) (sym w) (back_done l));
  }

  -- A word that is not taken, and one that is.
  pub take_out_of : (r : Reading S) (t n : ℕ) (l k : Links) (f : TakeFault) → r.limit ≡ Some n
      → TookWords (m r.source) r.words t n l (Err f) k → Makes m r (take_word t) (plain (refused (of_reading (number_of f) (length r.words) t))) r
  take_out_of r t n l k f e x = record {
    over = refl;
    does = subst (λ o. Does (m r.source) (held_by o r.words) (take_word t) (plain (refused (of_reading (number_of f) (length r.words) t))) (held_by o r.words)) (sym e)
        (take_no (met f x));
  }

  pub take_in : (r : Reading S) (t n : ℕ) (l k : Links) (ws : List ℕ) → r.limit ≡ Some n
      → TookWords (m r.source) r.words t n l (Ok tt) k → ws ≡ r.words ++ t ∷ []
      → Makes m r (take_word t) (plain done) (record { source = r.source; limit = r.limit; words = ws })
  take_in r t n l k ws e x w = record {
    over = refl;
    does = subst (λ o. Does (m r.source) (held_by o r.words) (take_word t) (plain done) (held_by o ws)) (sym e)
        (subst (λ vs. Does (m r.source) (opened n r.words) (take_word t) (plain done) (opened n vs)) (sym w) (take_yes (met_none x)));
  }
