-- What a reading is to its user, and what the calls on it promise.
--   Reading S        the source of the kind S that a reading is made over, its limit of links while it is open, and its words
--   reading_code     a reading is told by these three
--   held r           what the reading r holds
--   Begins s r       r is a reading that is just made over the source s: closed
--   Makes m r c a q  where r is the reading, the call c is answered by a and leaves the reading q, over the same source; m is what sources mean
--   TakesFed m r w x q   taking the word w of a feed on the reading r, answered by x, leaves q; a refusal has the bytes of the word
use Rattle.std.specs.Prelude.{◌≡◌, ℕ, List, Ok, Err, Option, Result, refl}
use Rattle.std.specs.Coded.{Coded, code_by, coded×, coded_list, coded_option, coded_ℕ}
use Rattle.parsing.specs.Items.{Source}
use Rattle.words.specs.declared.word.Word.{Word}
use Rattle.histories.specs.Calls.{Held, Call, take_word, Answer, plain, done, refused, closed}
use Rattle.histories.specs.Doings.{Does}
use Rattle.reader.specs.declared.fault.WordRefused.{WordRefused}
use Rattle.reader.specs.Refusals.{refusal}
use Rattle.reader.specs.Holding.{holding}

pub record Reading (S : Type 0) : Type 0 where
  pub source : S
  pub limit : Option ℕ
  pub words : List ℕ

abbrev pub reading_code : {S : Type 0} → Coded S → Coded (Reading S)
reading_code {S} code =
    code_by (S × (Option ℕ × List ℕ)) (coded× code (coded× (coded_option coded_ℕ) (coded_list coded_ℕ)))
    (λ r. (r.source, (r.limit, r.words)))
    (λ p. record { source = p.0; limit = p.1.0; words = p.1.1 }) (λ _. refl)

abbrev pub held : {S : Type 0} → Reading S → Held
held r = holding r.limit r.words

pub record Begins {S : Type 0} (s : S) (r : Reading S) : Type 0 where
  pub over : r.source ≡ s
  pub none : held r ≡ closed

pub record Makes {S : Type 0} (m : S → Source) (r : Reading S) (c : Call) (a : Answer) (q : Reading S) : Type 0 where
  pub over : q.source ≡ r.source
  pub does : Does (m r.source) (held r) c a (held q)

abbrev pub TakesFed : {S : Type 0} → (S → Source) → Reading S → Word → Result (Unit {0}) WordRefused → Reading S → Type 0
TakesFed m r w (Ok _) q = Makes m r (take_word w.terminal) (plain done) q
TakesFed m r w (Err e) q = (e.from ≡ w.from) × (e.to ≡ w.to) × Makes m r (take_word w.terminal) (plain (refused (refusal e.fault))) q
