-- Calls made one after another.
--   Exchange                a call, and its answer
--   calls_of xs             the calls of the exchanges xs
--   after h xs              the history h, and then the exchanges xs
--   Continues src m xs k    the exchanges xs, of which each answers and leaves what its rule says, lead from holding m to holding k
--   taken t, takes ts       a take of the terminal t that is done; takes of the terminals ts, each of them done
--   anew n ts               the history of a reading that is opened with the limit n and takes the terminals ts
--   Ends src k e cs a       where k is held and the words cs and then the fault e are coming, the call that is made last answers a
--   ByTakes src m c a d k   taking the words of c one by one until one is refused, and then judging, answers a and leaves d coming and k held
use Rattle.std.specs.Prelude.{◌≡◌, ℕ, Bool, List, [], ◌∷◌, ◌++◌, map, drop, Some, None, Option}
use Rattle.grammar.specs.declared.refusal.Refusal.{Refusal}
use Rattle.parsing.specs.Items.{Source}
use Rattle.words.specs.Feeds.{Coming}
use Rattle.words.specs.declared.word.Word.{Word}
use Rattle.histories.specs.Calls.{Held, Call, open_with, take_word, judge, Reply, done, judged, refused, word_refused, Answer, plain}
use Rattle.histories.specs.Doings.{Does}
use Rattle.histories.specs.Histories.{History, made, then}
use Rattle.histories.specs.Laws.{terminals_of}

pub record Exchange : Type 0 where
  pub call : Call
  pub answer : Answer

abbrev pub calls_of : List Exchange → List Call
calls_of xs = map (λ x. x.call) xs

abbrev pub after : History → List Exchange → History
after h [] = h
after h (x ∷ xs) = after (then h x.call x.answer) xs

pub data Continues (src : Source) : Held → List Exchange → Held → Type 0 where
  stays : {m : Held} → Continues src m [] m
  goes : {m l k : Held} {x : Exchange} {xs : List Exchange} → Does src m x.call x.answer l → Continues src l xs k → Continues src m (x ∷ xs) k

abbrev pub taken : ℕ → Exchange
taken t = record { call = take_word t; answer = plain done }

abbrev pub takes : List ℕ → List Exchange
takes ts = map taken ts

abbrev pub anew : ℕ → List ℕ → History
anew n ts = after (then made (open_with n) (plain done)) (takes ts)

-- A judgement, the fault of the feed, or the refusal of its next word.
pub data Ends (src : Source) (k : Held) (e : Option Refusal) : List Word → Reply → Type 0 where
  by_judge : {b : Bool} → e ≡ None → Does src k judge (plain (judged b)) k → Ends src k e [] (judged b)
  by_fault : {r : Refusal} → e ≡ Some r → Ends src k e [] (refused r)
  by_word : {w : Word} {cs : List Word} {r : Refusal} → Does src k (take_word w.terminal) (plain (refused r)) k
      → Ends src k e (w ∷ cs) (word_refused r w.from w.to)

pub record ByTakes (src : Source) (m : Held) (c : Coming) (a : Reply) (d : Coming) (k : Held) : Type 0 where
  pub added : List Word
  pub rest : List Word
  pub held : c.words ≡ added ++ rest
  pub steps : Continues src m (takes (terminals_of added)) k
  pub ends : Ends src k c.fault rest a
  pub left : d ≡ record { words = drop 1 rest; fault = c.fault }
