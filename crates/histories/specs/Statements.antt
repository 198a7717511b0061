-- The theorems on histories.
--   Tidiness      what a gather writes is within the words, and never the goal or its rule
--   Determinacy   each call has one answer, and leaves one thing held
--   Lawfulness    every history whose calls do what their rules say keeps the law
--   NoMemory      an open reading knows its limit and its kept words, and nothing else of its history
--   Viable        the kept words of an open reading begin some sentence
--   OneByOne      a read-through is the takes of its words, one by one until one is refused, and then a judgement
--   feed cs e     the words cs, and then the fault e
--   TwoFeeds      reading through two feeds, the first without a fault, is reading through their words in one
use Rattle.std.specs.Prelude.{◌≡◌, ℕ, suc, ◌<◌, ◌≤◌, Bool, ◌≢◌, ◌↔◌, List, ◌++◌, length, slice_index, None, Option}
use Rattle.grammar.specs.declared.refusal.Refusal.{Refusal}
use Rattle.parsing.specs.Grammar.{Grammar, rule_count, rhs, goal, Nonterminal, WellFormed}
use Rattle.parsing.specs.Items.{Source}
use Rattle.states.specs.Sources.{Sourced}
use Rattle.records.specs.declared.node.Node.{Node}
use Rattle.records.specs.declared.alternative.Alternative.{Alternative}
use Rattle.words.specs.Feeds.{Coming}
use Rattle.words.specs.declared.word.Word.{Word}
use Rattle.histories.specs.Calls.{Held, opened, Call, read_through, Reply, judged, word_refused, Answer, and_feed}
use Rattle.histories.specs.Forests.{NodeOf, AlternativeOf}
use Rattle.histories.specs.Doings.{Does}
use Rattle.histories.specs.Histories.{History, Runs}
use Rattle.histories.specs.Laws.{Begins, Law}
use Rattle.histories.specs.Continuations.{Exchange, calls_of, after, anew, ByTakes}

pub record TidyNode (g : Grammar) (ws : List ℕ) (z : Node) : Type 0 where
  pub nonterminal : Nonterminal g z.symbol
  pub not_goal : z.symbol ≢ goal g
  pub forward : z.from ≤ z.to
  pub within : z.to ≤ length ws

-- The cuts never fall, and are as many as the parts of the rule and one; a record has eight.
pub record TidyAlternative (g : Grammar) (ws : List ℕ) (z : Alternative) (cs : List ℕ) : Type 0 where
  pub rule_in : z.rule < rule_count g
  pub not_zero : z.rule ≢ 0
  pub count : length cs ≡ suc (length (rhs g z.rule))
  pub forward : (p : ℕ) → p < length (rhs g z.rule) → slice_index cs p ≤ slice_index cs (suc p)
  pub within : (p : ℕ) → p ≤ length (rhs g z.rule) → slice_index cs p ≤ length ws
  pub eight : length z.cuts ≡ 8

abbrev pub Tidiness : Type 0
Tidiness = (g : Grammar) → WellFormed g → (ws : List ℕ)
    → ((z : Node) → NodeOf g ws z → TidyNode g ws z)
    × ((z : Alternative) (x : AlternativeOf g ws z) → TidyAlternative g ws z x.places)

abbrev pub Determinacy : Type 0
Determinacy = (src : Source) (m : Held) (c : Call) (a b : Answer) (j k : Held) → Does src m c a j → Does src m c b k → (a ≡ b) × (j ≡ k)

abbrev pub Lawfulness : Type 0
Lawfulness = (src : Source) → Sourced src → (h : History) (m : Held) → Runs src h m → Law src h m

-- The history h is as the one in which the reading is opened anew with its limit, and takes its kept words.
pub record Renewed (src : Source) (h : History) (n : ℕ) (ws : List ℕ) : Type 0 where
  pub there : Runs src (anew n ws) (opened n ws)
  -- Whatever follows the one can follow the other, and leaves the same held.
  pub same : (xs : List Exchange) (k : Held) → Runs src (after h xs) k ↔ Runs src (after (anew n ws) xs) k
  -- Where the further calls are the same, so are the answers, and what is held in the end.
  pub alike : (xs ys : List Exchange) (j k : Held) → calls_of xs ≡ calls_of ys → Runs src (after h xs) j → Runs src (after (anew n ws) ys) k
      → (xs ≡ ys) × (j ≡ k)

abbrev pub NoMemory : Type 0
NoMemory = (src : Source) (h : History) (n : ℕ) (ws : List ℕ) → Runs src h (opened n ws) → Renewed src h n ws

abbrev pub Viable : Type 0
Viable = (src : Source) → Sourced src → (h : History) (n : ℕ) (ws : List ℕ) → Runs src h (opened n ws) → Begins src.grammar ws

abbrev pub OneByOne : Type 0
OneByOne = (src : Source) (n : ℕ) (ws : List ℕ) (c d : Coming) (a : Reply) (k : Held)
    → Does src (opened n ws) (read_through c) (and_feed a d) k ↔ ByTakes src (opened n ws) c a d k

abbrev pub feed : List Word → Option Refusal → Coming
feed cs e = record { words = cs; fault = e }

pub record TwoInOne (src : Source) (n : ℕ) (ws : List ℕ) (cs ds : List Word) (e : Option Refusal) (k : Held) : Type 0 where
  -- Where the first is read to its end, the second goes on as the rest of the one does.
  pub onward : (b : Bool) (d : Coming) → Does src (opened n ws) (read_through (feed cs None)) (and_feed (judged b) d) k
      → (a : Reply) (f : Coming) (j : Held)
      → Does src k (read_through (feed ds e)) (and_feed a f) j
      ↔ Does src (opened n ws) (read_through (feed (cs ++ ds) e)) (and_feed a f) j
  -- Where a word of the first is refused, so it is in the one.
  pub stops : (r : Refusal) (p q : ℕ) (us : List Word)
      → Does src (opened n ws) (read_through (feed cs None)) (and_feed (word_refused r p q) (feed us None)) k
      ↔ Does src (opened n ws) (read_through (feed (cs ++ ds) e)) (and_feed (word_refused r p q) (feed (us ++ ds) e)) k

abbrev pub TwoFeeds : Type 0
TwoFeeds = (src : Source) (n : ℕ) (ws : List ℕ) (cs ds : List Word) (e : Option Refusal) (k : Held) → TwoInOne src n ws cs ds e k
