-- Calls that are given as values, as a history.
--   call_of s            the call that the step s asks for
--   answer_of t s        the answer t, with what the step s was lent as it is afterwards
--   Kind                 what kind of answer: done or refused, a judgement, that of a read-through, counts
--   step_kind s          what kind of answer the step s is owed
--   told_kind t          of what kind the answer t is
--   asked s              what the step s asks for: the call with its numbers, and how long its lists are; not what is lent to it
--   made_of ss us        how many calls are made of the steps ss with the log us
--   Leaves ss us ts zs   making them leaves the log ts and the steps zs: each step stays the call that it was, each answer is of its kind, and what is past them is as it was
--   history_of ss ts zs  the steps ss as they were asked, each with its answer of the log ts, and as it was left in zs: as many as the log has room for
use Rattle.std.specs.Prelude.{◌≡◌, ℕ, min, List, [], ◌∷◌, map, length, take, drop, None}
use Rattle.words.specs.Feeds.{Coming}
use Rattle.records.specs.declared.node.Node.{Node}
use Rattle.records.specs.declared.alternative.Alternative.{Alternative}
use Rattle.histories.specs.Calls.{Call, open_with, take_word, read_through, back_to, judge, gather, Answer, and_feed, and_lists}
use Rattle.histories.specs.Histories.{History, made, then}
use Rattle.reader.specs.Replies.{made as done_or_refused, judgement, through, counts}
use Rattle.replay.specs.declared.step.Step.{Step}
use Rattle.replay.specs.declared.step.Step.TheVariants.{Open, Take, ReadThrough, Back, Judge, Gather}
use Rattle.replay.specs.declared.step.Told.{Told}
use Rattle.replay.specs.declared.step.Told.TheVariants
use Rattle.replay.specs.declared.step.Told.TheVariants.{Done, Judged, Gathered}

pub data Kind : Type 0 where
  done_kind : Kind
  judged_kind : Kind
  through_kind : Kind
  counts_kind : Kind

abbrev pub told_kind : Told → Kind
told_kind (Done r) = done_kind
told_kind (Judged r) = judged_kind
told_kind (TheVariants.ReadThrough r) = through_kind
told_kind (Gathered r) = counts_kind

pub data Asked : Type 0 where
  asks_open : ℕ → Asked
  asks_take : ℕ → Asked
  asks_through : Asked
  asks_back : ℕ → Asked
  asks_judge : Asked
  asks_gather : ℕ → ℕ → Asked

abbrev pub kind_of : Asked → Kind
kind_of (asks_open n) = done_kind
kind_of (asks_take t) = done_kind
kind_of asks_through = through_kind
kind_of (asks_back k) = done_kind
kind_of asks_judge = judged_kind
kind_of (asks_gather m n) = counts_kind

module _ {F : Type 0} where
  abbrev pub asked : Step F → Asked
  asked (Open n) = asks_open n
  asked (Take t) = asks_take t
  asked (ReadThrough f) = asks_through
  asked (Back k) = asks_back k
  asked Judge = asks_judge
  asked (Gather ns bs) = asks_gather (length ns.items) (length bs.items)

module _ {F : Type 0} where
  abbrev pub step_kind : Step F → Kind
  step_kind s = kind_of (asked s)

  -- As many calls are made as there are steps and as the log has room for.
  abbrev pub made_of : List (Step F) → List Told → ℕ
  made_of ss us = min (length ss) (length us)

  pub record Leaves (ss : List (Step F)) (us ts : List Told) (zs : List (Step F)) : Type 0 where
    pub stays : map asked zs ≡ map asked ss
    pub kinds : map told_kind (take (made_of ss us) ts) ≡ take (made_of ss us) (map step_kind ss)
    pub log : drop (made_of ss us) ts ≡ drop (made_of ss us) us
    pub steps : drop (made_of ss us) zs ≡ drop (made_of ss us) ss

module _ {F : Type 0} (coming : F → Coming) where
  abbrev pub call_of : Step F → Call
  call_of (Open n) = open_with n
  call_of (Take t) = take_word t
  call_of (ReadThrough f) = read_through (coming f)
  call_of (Back k) = back_to k
  call_of Judge = judge
  call_of (Gather ns bs) = gather ns.items bs.items

  -- Nothing is lent by the other calls.
  abbrev pub feed_after : Step F → Coming
  feed_after (Open n) = record { words = []; fault = None }
  feed_after (Take t) = record { words = []; fault = None }
  feed_after (ReadThrough f) = coming f
  feed_after (Back k) = record { words = []; fault = None }
  feed_after Judge = record { words = []; fault = None }
  feed_after (Gather ns bs) = record { words = []; fault = None }

  abbrev pub nodes_after : Step F → List Node
  nodes_after (Open n) = []
  nodes_after (Take t) = []
  nodes_after (ReadThrough f) = []
  nodes_after (Back k) = []
  nodes_after Judge = []
  nodes_after (Gather ns bs) = ns.items

  abbrev pub alternatives_after : Step F → List Alternative
  alternatives_after (Open n) = []
  alternatives_after (Take t) = []
  alternatives_after (ReadThrough f) = []
  alternatives_after (Back k) = []
  alternatives_after Judge = []
  alternatives_after (Gather ns bs) = bs.items

  abbrev pub answer_of : Told → Step F → Answer
  answer_of (Done r) s = done_or_refused r
  answer_of (Judged r) s = judgement r
  answer_of (TheVariants.ReadThrough r) s = and_feed (through r) (feed_after s)
  answer_of (Gathered r) s = and_lists (counts r) (nodes_after s) (alternatives_after s)

  abbrev pub history_on : History → List (Step F) → List Told → List (Step F) → History
  history_on h [] ts zs = h
  history_on h (s ∷ ss) [] zs = h
  history_on h (s ∷ ss) (t ∷ ts) [] = h
  history_on h (s ∷ ss) (t ∷ ts) (z ∷ zs) = history_on (then h (call_of s) (answer_of t z)) ss ts zs

  abbrev pub history_of : List (Step F) → List Told → List (Step F) → History
  history_of ss ts zs = history_on made ss ts zs
