-- What holds of every history of a reading beside the law: the theorems on histories, of chains of calls as callers make them.
--   Renewed m s h r n ts   whatever follows the history h, which led to the reading r, follows opening with the limit n and taking the terminals ts
--   NoMemory m             an open reading is so renewed by its limit and its kept words: it remembers nothing else
--   Begun m                the kept words of an open reading begin some sentence
--   TakenThrough m s h c a d q   behind h the words of c are taken one by one until one is refused, which leads to q, answers a and leaves d coming
--   OneByOne m             a read-through is those takes, and then a judgement
--   InOne m s h cs ds e    behind h, reading the words cs through and then ds, which end with e, is reading their words through in one
--   TwoFeeds m             that holds of all histories and feeds
-- m is what sources mean; Leads says which histories there are, and to which readings they lead.
use Rattle.std.specs.Prelude.{◌≡◌, ℕ, Bool, ◌↔◌, List, ◌++◌, drop, None, Option}
use Rattle.grammar.specs.declared.refusal.Refusal.{Refusal}
use Rattle.parsing.specs.Items.{Source}
use Rattle.words.specs.Feeds.{Coming}
use Rattle.words.specs.declared.word.Word.{Word}
use Rattle.histories.specs.Calls.{opened, read_through, Reply, judged, word_refused, and_feed}
use Rattle.histories.specs.Continuations.{Exchange, calls_of, after, takes, anew, Ends}
use Rattle.histories.specs.Histories.{History, then}
use Rattle.histories.specs.Laws.{Begins, terminals_of}
use Rattle.histories.specs.Statements.{feed}
use Rattle.reader.specs.Readings.{Reading, held}
use Rattle.replay.specs.Chains.{Leads}

pub record Renewed {S : Type 0} (m : S → Source) (s : S) (h : History) (r : Reading S) (n : ℕ) (ts : List ℕ) : Type 0 where
  -- Opening and taking lead to this very reading.
  pub there : Leads m s (anew n ts) r
  -- Whatever follows the one history can follow the other, and leads to the same.
  pub same : (xs : List Exchange) (q : Reading S) → Leads m s (after h xs) q ↔ Leads m s (after (anew n ts) xs) q
  -- Where the further calls are the same, so are the answers, and what is held in the end.
  pub alike : (xs ys : List Exchange) (p q : Reading S) → calls_of xs ≡ calls_of ys
      → Leads m s (after h xs) p → Leads m s (after (anew n ts) ys) q → (xs ≡ ys) × (held p ≡ held q)

abbrev pub NoMemory : {S : Type 0} → (S → Source) → Type 0
NoMemory {S} m = (s : S) (h : History) (r : Reading S) (n : ℕ) (ts : List ℕ) → Leads m s h r → held r ≡ opened n ts → Renewed m s h r n ts

abbrev pub Begun : {S : Type 0} → (S → Source) → Type 0
Begun {S} m = (s : S) (h : History) (r : Reading S) (n : ℕ) (ts : List ℕ) → Leads m s h r → held r ≡ opened n ts → Begins (m s).grammar ts

-- The words that were added are taken one by one, which leads to the reading q. It answers as the call that comes next there: a judge, or a take
-- of the next word, which is refused; or the refusal of the feed.
pub record TakenThrough {S : Type 0} (m : S → Source) (s : S) (h : History) (c : Coming) (a : Reply) (d : Coming) (q : Reading S) : Type 0 where
  pub added : List Word
  pub rest : List Word
  pub words : c.words ≡ added ++ rest
  pub steps : Leads m s (after h (takes (terminals_of added))) q
  pub ends : Ends (m s) (held q) c.fault rest a
  pub left : d ≡ record { words = drop 1 rest; fault = c.fault }

abbrev pub OneByOne : {S : Type 0} → (S → Source) → Type 0
OneByOne {S} m = (s : S) (h : History) (r : Reading S) (n : ℕ) (ts : List ℕ) → Leads m s h r → held r ≡ opened n ts
    → (c d : Coming) (a : Reply) (q : Reading S) → Leads m s (then h (read_through c) (and_feed a d)) q ↔ TakenThrough m s h c a d q

-- The words cs come from the first feed, and ds from the second, which ends with the refusal e or without one. Where the first is not refused, the
-- second goes on as the rest of the one does; where it is refused at a word, so is the one.
pub record InOne {S : Type 0} (m : S → Source) (s : S) (h : History) (cs ds : List Word) (e : Option Refusal) : Type 0 where
  pub goes_on : (b : Bool) (d : Coming) (p : Reading S) → Leads m s (then h (read_through (feed cs None)) (and_feed (judged b) d)) p
      → (a : Reply) (f : Coming) (q : Reading S)
      → Leads m s (then (then h (read_through (feed cs None)) (and_feed (judged b) d)) (read_through (feed ds e)) (and_feed a f)) q
      ↔ Leads m s (then h (read_through (feed (cs ++ ds) e)) (and_feed a f)) q
  pub stops : (r : Refusal) (from to : ℕ) (us : List Word) (q : Reading S)
      → Leads m s (then h (read_through (feed cs None)) (and_feed (word_refused r from to) (feed us None))) q
      ↔ Leads m s (then h (read_through (feed (cs ++ ds) e)) (and_feed (word_refused r from to) (feed (us ++ ds) e))) q

abbrev pub TwoFeeds : {S : Type 0} → (S → Source) → Type 0
TwoFeeds {S} m = (s : S) (h : History) (cs ds : List Word) (e : Option Refusal) → InOne m s h cs ds e
