-- What each call answers, and what is held after it.
--   Limit n                        n can be a limit of links
--   Accepts src ws                 the link by which the words ws are judged is there
--   Passes src n e ws cs a vs ds   reading through the coming words cs, which end with the fault e or without one, over the kept words ws
--                                  answers a, and leaves the words vs kept and the words ds coming
--   rest_of c ds                   what is left of the feed c: the words ds are coming
--   blank_lists r ns bs            the reply r to a gather into the lists ns and bs, both left blank throughout
--   written ns bs xs ys            the answer of a gather that writes the records xs and ys into the lists ns and bs, and counts them
--   Does src m c a k               where m is held, the call c is answered by a, and k is held afterwards
use Rattle.std.specs.Prelude.{◌≡◌, ℕ, ◌<◌, ◌≤◌, Bool, true, ◌↔◌, List, [], ◌∷◌, ◌++◌, length, take, replicate, Some, None, Option}
use Rattle.grammar.specs.declared.refusal.Refusal.{Refusal}
use Rattle.parsing.specs.Grammar.{start}
use Rattle.parsing.specs.Items.{Source}
use Rattle.parsing.specs.Links.{Linked}
use Rattle.link_growth.specs.Counting.{Exceeds}
use Rattle.words.specs.Feeds.{Coming}
use Rattle.words.specs.declared.word.Word.{Word}
use Rattle.records.specs.Blanks.{blank_node, blank_alternative}
use Rattle.records.specs.declared.node.Node.{Node}
use Rattle.records.specs.declared.alternative.Alternative.{Alternative}
use Rattle.histories.specs.Refusals.{of_reading}
use Rattle.histories.specs.Sizes.{AtMost, MoreThan}
use Rattle.histories.specs.Calls.{Held, closed, opened, Call, open_with, take_word, read_through, back_to, judge, gather}
use Rattle.histories.specs.Calls.{Reply, done, judged, counted, refused, word_refused, Answer, plain, and_feed, and_lists}
use Rattle.histories.specs.Forests.{NodeOf, AlternativeOf, Nodes, Alternatives, filled}
use Rattle.histories.specs.Meetings.{Fits, Meets}

pub record Limit (n : ℕ) : Type 0 where
  pub low : 1 ≤ n
  pub high : n ≤ 4096

-- The step of the first state by the start symbol, over all words.
pub record Accepts (src : Source) (ws : List ℕ) : Type 0 where
  pub state : ℕ
  pub steps : src.next src.first (start src.grammar) ≡ Some state
  pub linked : Linked src ws state (length ws) src.first 0

-- The words are taken one by one. At the first that is refused it stops: the words before it stay kept, and it has left the feed.
pub data Passes (src : Source) (n : ℕ) (e : Option Refusal) : List ℕ → List Word → Reply → List ℕ → List Word → Type 0 where
  at_end : {ws : List ℕ} {b : Bool} → e ≡ None → (b ≡ true) ↔ Accepts src ws → Passes src n e ws [] (judged b) ws []
  at_fault : {ws : List ℕ} {r : Refusal} → e ≡ Some r → Passes src n e ws [] (refused r) ws []
  word_no : {ws : List ℕ} {w : Word} {cs : List Word} {r : Refusal} → Meets src n ws w.terminal (Some r)
      → Passes src n e ws (w ∷ cs) (word_refused r w.from w.to) ws cs
  word_yes : {ws vs : List ℕ} {w : Word} {cs ds : List Word} {a : Reply} → Meets src n ws w.terminal None
      → Passes src n e (ws ++ w.terminal ∷ []) cs a vs ds → Passes src n e ws (w ∷ cs) a vs ds

-- Of the same feed, with the words ds still coming.
abbrev pub rest_of : Coming → List Word → Coming
rest_of c ds = record { words = ds; fault = c.fault }

-- Both lists of a gather that has too little room, of either list.
abbrev pub blank_lists : Reply → List Node → List Alternative → Answer
blank_lists r ns bs = and_lists r (replicate (length ns) blank_node) (replicate (length bs) blank_alternative)

-- Both lists of a gather that has room: the records, and blank ones past them.
abbrev pub written : List Node → List Alternative → List Node → List Alternative → Answer
written ns bs xs ys =
    and_lists (counted (length xs) (length ys)) (filled xs (length ns) blank_node) (filled ys (length bs) blank_alternative)

pub data Does (src : Source) : Held → Call → Answer → Held → Type 0 where
  -- Open: a refused one changes nothing, also where the reading is open already.
  open_range : {m : Held} {n : ℕ} → (Limit n → ⊥) → Does src m (open_with n) (plain (refused (of_reading 41 0 0))) m
  open_crowded : {m : Held} {n : ℕ} → Limit n → Exceeds src [] n
      → Does src m (open_with n) (plain (refused (of_reading 42 0 0))) m
  open_done : {m : Held} {n : ℕ} → Limit n → Fits src [] n → Does src m (open_with n) (plain done) (opened n [])
  take_closed : {t : ℕ} → Does src closed (take_word t) (plain (refused (of_reading 40 0 0))) closed
  take_no : {n t : ℕ} {ws : List ℕ} {r : Refusal} → Meets src n ws t (Some r)
      → Does src (opened n ws) (take_word t) (plain (refused r)) (opened n ws)
  take_yes : {n t : ℕ} {ws : List ℕ} → Meets src n ws t None
      → Does src (opened n ws) (take_word t) (plain done) (opened n (ws ++ t ∷ []))
  -- While closed, a read-through asks nothing of its feed.
  through_closed : {c : Coming} → Does src closed (read_through c) (and_feed (refused (of_reading 40 0 0)) c) closed
  through_open : {n : ℕ} {ws vs : List ℕ} {c : Coming} {a : Reply} {ds : List Word} → Passes src n c.fault ws c.words a vs ds
      → Does src (opened n ws) (read_through c) (and_feed a (rest_of c ds)) (opened n vs)
  back_closed : {k : ℕ} → Does src closed (back_to k) (plain (refused (of_reading 40 0 0))) closed
  back_beyond : {n k : ℕ} {ws : List ℕ} → length ws < k
      → Does src (opened n ws) (back_to k) (plain (refused (of_reading 47 k (length ws)))) (opened n ws)
  back_done : {n k : ℕ} {ws : List ℕ} → k ≤ length ws → Does src (opened n ws) (back_to k) (plain done) (opened n (take k ws))
  judge_closed : Does src closed judge (plain (refused (of_reading 40 0 0))) closed
  judge_open : {n : ℕ} {ws : List ℕ} {b : Bool} → (b ≡ true) ↔ Accepts src ws
      → Does src (opened n ws) judge (plain (judged b)) (opened n ws)
  -- Gather: while closed, and where the words are no sentence, both lists stay as they are.
  gather_closed : {ns : List Node} {bs : List Alternative}
      → Does src closed (gather ns bs) (and_lists (refused (of_reading 40 0 0)) ns bs) closed
  gather_none : {n : ℕ} {ws : List ℕ} {ns : List Node} {bs : List Alternative} → (Accepts src ws → ⊥)
      → Does src (opened n ws) (gather ns bs) (and_lists (refused (of_reading 48 0 0)) ns bs) (opened n ws)
  -- Too little room for the nodes comes before too little room for the alternatives.
  gather_nodes : {n : ℕ} {ws : List ℕ} {ns : List Node} {bs : List Alternative} → Accepts src ws
      → MoreThan (NodeOf src.grammar ws) (length ns)
      → Does src (opened n ws) (gather ns bs) (blank_lists (refused (of_reading 49 0 0)) ns bs) (opened n ws)
  gather_alternatives : {n : ℕ} {ws : List ℕ} {ns : List Node} {bs : List Alternative} → Accepts src ws
      → AtMost (NodeOf src.grammar ws) (length ns) → MoreThan (AlternativeOf src.grammar ws) (length bs)
      → Does src (opened n ws) (gather ns bs) (blank_lists (refused (of_reading 50 0 0)) ns bs) (opened n ws)
  gather_done : {n : ℕ} {ws : List ℕ} {ns xs : List Node} {bs ys : List Alternative} → Accepts src ws
      → Nodes src.grammar ws xs → length xs ≤ length ns → Alternatives src.grammar ws ys → length ys ≤ length bs
      → Does src (opened n ws) (gather ns bs) (written ns bs xs ys) (opened n ws)
