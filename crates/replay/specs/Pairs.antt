-- Two feeds on one reading, as calls that are made by a caller.
--   Notes h c ws k d     behind the history h the feed c is read through as often as it is refused at a word: ws are the words, each with its refusal; k is
--                        the history then, and d what is coming
--   ReadsPast m s h c ws a d r   behind h, after the refusals of the words ws, c is read through and answered by a: d is coming then, and the reading is r
--   whole h n c a d b    the history h; then c is read through, answered by a, with d left; and where b is an answer, it is that of going back to n words
--   Lent                 the two feeds and the two lists that are lent
--   first_read h c t y   the history h, and then the feed c read through as the report t tells, and left as y has it
--   pair_history h x t y   the history h, and then the second feed of x, a judge and a gather as the report t tells, with all left as y has it
--   PairRead m s n l x ws t y r   over the source s, with the limit n and x lent, the report t tells a history of calls, each of which did what it ensures:
--                        ws are the words of the first feed that were passed over, l the link that was asked for, y is left, and r is the reading; the law holds
use Rattle.std.specs.Prelude.{◌≡◌, ℕ, List, [], ◌∷◌, ◌++◌, length, Some, None, Err, Option, Result, OnErr, IsSome, IsErr, ◌↔◌}
use Rattle.parsing.specs.Items.{Source}
use Rattle.link_growth.specs.declared.Link.{Link}
use Rattle.words.specs.Feeds.{Coming}
use Rattle.records.specs.declared.node.Node.{Node}
use Rattle.records.specs.declared.alternative.Alternative.{Alternative}
use Rattle.histories.specs.Calls.{open_with, read_through, back_to, judge, gather, Reply, and_feed, and_lists}
use Rattle.histories.specs.Histories.{History, made, then}
use Rattle.histories.specs.Laws.{Law}
use Rattle.histories.specs.Questions.{HasLink, LinkCount, word_count}
use Rattle.reader.specs.declared.fault.ReadingFault.{ReadingFault}
use Rattle.reader.specs.declared.fault.ThroughFault.TheVariants.{Word}
use Rattle.reader.specs.declared.fault.WordRefused.{WordRefused}
use Rattle.reader.specs.Readings.{Reading, held}
use Rattle.reader.specs.Replies.{made as done_or_refused, judgement, through, counts}
use Rattle.replay.specs.Chains.{Leads}
use Rattle.replay.specs.declared.pair.Report.{Report}

pub data Notes (h : History) (c : Coming) : List WordRefused → History → Coming → Type 0 where
  none : Notes h c [] h c
  more : {ws : List WordRefused} {k : History} {d e : Coming} (w : WordRefused) → Notes h c ws k d
      → Notes h c (ws ++ w ∷ []) (then k (read_through d) (and_feed (through (Err (Word w))) e)) e

pub record ReadsPast {S : Type 0} (m : S → Source) (s : S) (h : History) (c : Coming) (ws : List WordRefused) (a : Reply) (d : Coming) (r : Reading S) : Type 0 where
  pub before : History
  pub left : Coming
  pub notes : Notes h c ws before left
  pub leads : Leads m s (then before (read_through left) (and_feed a d)) r

abbrev pub whole : History → ℕ → Coming → Reply → Coming → Option (Result (Unit {0}) ReadingFault) → History
whole h n c a d None = then h (read_through c) (and_feed a d)
whole h n c a d (Some b) = then (then h (read_through c) (and_feed a d)) (back_to n) (done_or_refused b)

-- What is lent to the calls, as it is before them or after them.
pub record Lent : Type 0 where
  pub first : Coming
  pub second : Coming
  pub nodes : List Node
  pub alternatives : List Alternative

abbrev pub first_read : History → Coming → Report → Lent → History
first_read h c t y = then h (read_through c) (and_feed (through t.first) y.first)

abbrev pub pair_history : History → Lent → Report → Lent → History
pair_history h x t y = then (then (whole h t.words x.second (through t.second) y.second t.back) judge (judgement t.judged))
    (gather x.nodes x.alternatives) (and_lists (counts t.gathered) y.nodes y.alternatives)

pub record PairRead {S : Type 0} (m : S → Source) (s : S) (n : ℕ) (l : Link) (x : Lent) (ws : List WordRefused) (t : Report) (y : Lent) (r : Reading S) : Type 0 where
  pub before : History
  pub left : Coming
  pub notes : Notes (then made (open_with n) (done_or_refused t.opened)) x.first ws before left
  pub passed : t.passed ≡ length ws
  -- Between the feeds the reading is asked: that is no call, and changes nothing.
  pub between : Reading S
  pub first : Leads m s (first_read before left t y) between
  pub words : t.words ≡ word_count (held between)
  pub links : LinkCount (m s) (held between) t.links
  pub linked : HasLink (m s) (held between) l t.linked
  -- It goes back exactly where the second feed is refused, and then what is held is as it was before it.
  pub back : IsSome t.back ↔ IsErr t.second
  pub undone : OnErr t.second (held r ≡ held between)
  pub leads : Leads m s (pair_history (first_read before left t y) x t y) r
  pub law : Law (m s) (pair_history (first_read before left t y) x t y) (held r)
