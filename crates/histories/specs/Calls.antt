-- What a reading holds, the calls on it, and what they answer.
--   Held            what a reading holds: nothing while closed; while open a limit of its links, and the kept words
--   Call            a call with its arguments
--   Reply           what the call itself answers
--   Answer          the reply, with what was lent to the call as it is afterwards
--   Refuses a       the reply a is a refusal
--   RefusedAs n a   the reply a is a refusal by the reading, of the number n, in whichever form and with whatever places
--   reply_of a      the reply of the answer a
--   unchanged c a   the reply a, where what was lent to the call c is as it was
use Rattle.std.specs.Prelude.{ℕ, Bool, List}
use Rattle.grammar.specs.declared.refusal.Refusal.{Refusal}
use Rattle.words.specs.Feeds.{Coming}
use Rattle.records.specs.declared.node.Node.{Node}
use Rattle.records.specs.declared.alternative.Alternative.{Alternative}
use Rattle.histories.specs.Refusals.{Numbered}

-- Words are kept as terminals.
pub data Held : Type 0 where
  closed : Held
  opened : ℕ → List ℕ → Held

-- A feed counts by its meaning as the call begins, a list by what it holds then.
pub data Call : Type 0 where
  open_with : ℕ → Call
  take_word : ℕ → Call
  read_through : Coming → Call
  back_to : ℕ → Call
  judge : Call
  gather : List Node → List Alternative → Call

-- A refusal of a feed is carried as it is; where the reading refused a word of a feed, its refusal has the word's bytes with it.
pub data Reply : Type 0 where
  done : Reply
  judged : Bool → Reply
  counted : ℕ → ℕ → Reply
  refused : Refusal → Reply
  word_refused : Refusal → ℕ → ℕ → Reply

pub data Answer : Type 0 where
  plain : Reply → Answer
  and_feed : Reply → Coming → Answer
  and_lists : Reply → List Node → List Alternative → Answer

abbrev pub Refuses : Reply → Type 0
Refuses done = ⊥
Refuses (judged b) = ⊥
Refuses (counted m n) = ⊥
Refuses (refused r) = Unit {0}
Refuses (word_refused r p q) = Unit {0}

abbrev pub RefusedAs : ℕ → Reply → Type 0
RefusedAs n done = ⊥
RefusedAs n (judged b) = ⊥
RefusedAs n (counted p q) = ⊥
RefusedAs n (refused r) = Numbered n r
RefusedAs n (word_refused r p q) = Numbered n r

abbrev pub reply_of : Answer → Reply
reply_of (plain a) = a
reply_of (and_feed a c) = a
reply_of (and_lists a ns bs) = a

abbrev pub unchanged : Call → Reply → Answer
unchanged (open_with n) a = plain a
unchanged (take_word t) a = plain a
unchanged (read_through c) a = and_feed a c
unchanged (back_to k) a = plain a
unchanged judge a = plain a
unchanged (gather ns bs) a = and_lists a ns bs
