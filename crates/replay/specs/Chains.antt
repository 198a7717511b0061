-- Histories of readings as callers make them.
--   Leads m s h r     the history h of calls, each of which did what it ensures, leads from a reading just made over the source s to the reading r;
--                     m is what sources mean
--   EveryHistory m    the law holds of every history
use Rattle.parsing.specs.Items.{Source}
use Rattle.histories.specs.Calls.{Call, Answer}
use Rattle.histories.specs.Histories.{History, made, then}
use Rattle.histories.specs.Laws.{Law}
use Rattle.reader.specs.Readings.{Reading, held, Begins, Makes}

pub data Leads {S : Type 0} (m : S → Source) (s : S) : History → Reading S → Type 0 where
  begun : {r : Reading S} → Begins s r → Leads m s made r
  called : {h : History} {r q : Reading S} {c : Call} {a : Answer} → Leads m s h r → Makes m r c a q → Leads m s (then h c a) q

abbrev pub EveryHistory : {S : Type 0} → (S → Source) → Type 0
EveryHistory {S} m = (s : S) (h : History) (r : Reading S) → Leads m s h r → Law (m s) h (held r)
