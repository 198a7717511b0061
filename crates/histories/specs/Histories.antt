-- Histories of one reading, and the words that they keep.
--   History            the making of a reading, and then calls on it with their answers
--   Adds src n ws cs vs  the words cs are taken over ws one by one, until one is refused: vs are kept then
--   Moves src m c k    the call c takes what is held from m to k, by its arguments alone
--   Keeps src h m      the history h leaves m held; no answer is looked at
--   Runs src h m       each call of the history h answers and leaves what its rule says, and m is held in the end
use Rattle.std.specs.Prelude.{ℕ, ◌<◌, ◌≤◌, List, [], ◌∷◌, ◌++◌, length, take, Some, None}
use Rattle.grammar.specs.declared.refusal.Refusal.{Refusal}
use Rattle.parsing.specs.Items.{Source}
use Rattle.link_growth.specs.Counting.{Exceeds}
use Rattle.words.specs.Feeds.{Coming}
use Rattle.words.specs.declared.word.Word.{Word}
use Rattle.records.specs.declared.node.Node.{Node}
use Rattle.records.specs.declared.alternative.Alternative.{Alternative}
use Rattle.histories.specs.Calls.{Held, closed, opened, Call, open_with, take_word, read_through, back_to, judge, gather, Answer}
use Rattle.histories.specs.Meetings.{Fits, Meets}
use Rattle.histories.specs.Doings.{Limit, Does}

pub data History : Type 0 where
  made : History
  then : History → Call → Answer → History

pub data Adds (src : Source) (n : ℕ) : List ℕ → List Word → List ℕ → Type 0 where
  out : {ws : List ℕ} → Adds src n ws [] ws
  stop : {ws : List ℕ} {w : Word} {cs : List Word} {r : Refusal} → Meets src n ws w.terminal (Some r) → Adds src n ws (w ∷ cs) ws
  add : {ws vs : List ℕ} {w : Word} {cs : List Word} → Meets src n ws w.terminal None
      → Adds src n (ws ++ w.terminal ∷ []) cs vs → Adds src n ws (w ∷ cs) vs

-- An open that is not refused makes the reading open, with its limit and no words. While closed, the other calls leave it so.
pub data Moves (src : Source) : Held → Call → Held → Type 0 where
  opens : {m : Held} {n : ℕ} → Limit n → Fits src [] n → Moves src m (open_with n) (opened n [])
  opens_out : {m : Held} {n : ℕ} → (Limit n → ⊥) → Moves src m (open_with n) m
  opens_over : {m : Held} {n : ℕ} → Exceeds src [] n → Moves src m (open_with n) m
  takes : {n t : ℕ} {ws : List ℕ} → Meets src n ws t None → Moves src (opened n ws) (take_word t) (opened n (ws ++ t ∷ []))
  takes_not : {n t : ℕ} {ws : List ℕ} {r : Refusal} → Meets src n ws t (Some r) → Moves src (opened n ws) (take_word t) (opened n ws)
  takes_closed : {t : ℕ} → Moves src closed (take_word t) closed
  reads : {n : ℕ} {ws vs : List ℕ} {c : Coming} → Adds src n ws c.words vs → Moves src (opened n ws) (read_through c) (opened n vs)
  reads_closed : {c : Coming} → Moves src closed (read_through c) closed
  goes : {n k : ℕ} {ws : List ℕ} → k ≤ length ws → Moves src (opened n ws) (back_to k) (opened n (take k ws))
  goes_not : {n k : ℕ} {ws : List ℕ} → length ws < k → Moves src (opened n ws) (back_to k) (opened n ws)
  goes_closed : {k : ℕ} → Moves src closed (back_to k) closed
  judges : {m : Held} → Moves src m judge m
  gathers : {m : Held} {ns : List Node} {bs : List Alternative} → Moves src m (gather ns bs) m

-- A reading starts closed.
pub data Keeps (src : Source) : History → Held → Type 0 where
  keeps_made : Keeps src made closed
  keeps_then : {h : History} {m k : Held} {c : Call} {a : Answer} → Keeps src h m → Moves src m c k → Keeps src (then h c a) k

pub data Runs (src : Source) : History → Held → Type 0 where
  runs_made : Runs src made closed
  runs_then : {h : History} {m k : Held} {c : Call} {a : Answer} → Runs src h m → Does src m c a k → Runs src (then h c a) k
