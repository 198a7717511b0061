-- The theorems on histories, of chains of calls as callers make them.
use Rattle.std.proofs.Common.{◌≡◌, ℕ, Bool, ◌↔◌, List, ◌++◌, None, Option, refl, subst}
use Rattle.grammar.specs.declared.refusal.Refusal.{Refusal}
use Rattle.parsing.specs.Items.{Source}
use Rattle.states.specs.Sources.{Sourced}
use Rattle.words.specs.Feeds.{Coming}
use Rattle.words.specs.declared.word.Word.{Word}
use Rattle.histories.specs.Calls.{Held, opened, read_through, Reply, judged, word_refused, and_feed}
use Rattle.histories.specs.Continuations.{takes}
use Rattle.histories.specs.Doings.{Does, through_open}
use Rattle.histories.specs.Histories.{History, then, Runs, runs_then}
use Rattle.histories.specs.Laws.{terminals_of}
use Rattle.histories.specs.Statements.{feed}
use Rattle.histories.proofs.Continuing.{one_by_one, two_feeds}
use Rattle.histories.proofs.Remembering.{no_memory, kept_words_begin}
use Rattle.reader.specs.Readings.{Reading, held}
use Rattle.replay.specs.Chains.{Leads}
use Rattle.replay.specs.Statements.{NoMemory, Begun, OneByOne, TwoFeeds}
use Rattle.replay.proofs.Going.{last_of, last_from, continues_from, runs_onward}
use Rattle.replay.proofs.Leading.{leads_over, leads_runs, runs_leads}

-- Where a read-through is answered by a judgement, or at a word, the reading is open.
judged_open : {src : Source} {m k : Held} {c d : Coming} {b : Bool}
    → Does src m (read_through c) (and_feed (judged b) d) k → (n : ℕ) × (ts : List ℕ) × (m ≡ opened n ts)
judged_open (through_open {n = n} {ws = ts} p) = (n, ts, refl)

refused_open : {src : Source} {m k : Held} {c d : Coming} {r : Refusal} {p q : ℕ}
    → Does src m (read_through c) (and_feed (word_refused r p q) d) k → (n : ℕ) × (ts : List ℕ) × (m ≡ opened n ts)
refused_open (through_open {n = n} {ws = ts} p) = (n, ts, refl)

module _ {S : Type 0} (m : S → Source) where
  runs_open : {s : S} {h : History} {r : Reading S} {n : ℕ} {ts : List ℕ} → Leads m s h r → held r ≡ opened n ts → Runs (m s) h (opened n ts)
  runs_open {s} {h} {r} l e = subst (λ z. Runs (m s) h z) e (leads_runs m s h r l)

  -- The same of a history that runs.
  again : {s : S} {h j : History} {q : Reading S} → Leads m s h q → Runs (m s) j (held q) → Leads m s j q
  again {s} {h} {j} {q} l r = runs_leads m r q (leads_over m s h q l) refl

  pub remembers_nothing : NoMemory m
  remembers_nothing s h r n ts l e =
      let new = no_memory (m s) h n ts (runs_open l e) in
      record {
        there = runs_leads m new.there r (leads_over m s h r l) e;
        same = λ xs q. (
          (λ k. again k ((new.same xs (held q)).0 (leads_runs m s _ q k))),
          λ k. again k ((new.same xs (held q)).1 (leads_runs m s _ q k)),
        );
        alike = λ xs ys p q f x y. new.alike xs ys (held p) (held q) f (leads_runs m s _ p x) (leads_runs m s _ q y);
      }

  pub begun : ((s : S) → Sourced (m s)) → Begun m
  begun law s h r n ts l e = kept_words_begin (m s) (law s) h n ts (runs_open l e)

  pub taken_through : OneByOne m
  taken_through s h r n ts l e c d a q =
      let before = runs_open l e in (
        λ k.
            let t = (one_by_one (m s) n ts c d a (held q)).0 (last_from before (leads_runs m s _ q k)) in
            record {
              added = t.added;
              rest = t.rest;
              words = t.held;
              steps = again k (runs_onward (takes (terminals_of t.added)) before t.steps);
              ends = t.ends;
              left = t.left;
            },
        λ t.
            let does = (one_by_one (m s) n ts c d a (held q)).1 (record {
              added = t.added;
              rest = t.rest;
              held = t.words;
              steps = continues_from (takes (terminals_of t.added)) before (leads_runs m s _ q t.steps);
              ends = t.ends;
              left = t.left;
            }) in
            again t.steps (runs_then before does),
      )

  goes_on : (s : S) (h : History) (cs ds : List Word) (e : Option Refusal) (b : Bool) (d : Coming) (p : Reading S)
      → Leads m s (then h (read_through (feed cs None)) (and_feed (judged b) d)) p → (a : Reply) (f : Coming) (q : Reading S)
      → Leads m s (then (then h (read_through (feed cs None)) (and_feed (judged b) d)) (read_through (feed ds e)) (and_feed a f)) q
      ↔ Leads m s (then h (read_through (feed (cs ++ ds) e)) (and_feed a f)) q
  goes_on s h cs ds e b d p l a f q =
      let first = leads_runs m s _ p l in
      let (j, before, does) = last_of first in
      let (n, ts, o) = judged_open does in
      let start : Runs (m s) h (opened n ts) = subst (λ z. Runs (m s) h z) o before in
      let two = (two_feeds (m s) n ts cs ds e (held p)).onward b d (last_from start first) a f (held q) in (
        (λ k. again k (runs_then start (two.0 (last_from first (leads_runs m s _ q k))))),
        λ k. again k (runs_then first (two.1 (last_from start (leads_runs m s _ q k)))),
      )

  start_of : {s : S} {h : History} {k : Held} {c d : Coming} {r : Refusal} {p q : ℕ} → Runs (m s) (then h (read_through c) (and_feed (word_refused r p q) d)) k
      → (n : ℕ) × (ts : List ℕ) × Runs (m s) h (opened n ts)
  start_of {s} {h} x =
      let (j, before, does) = last_of x in
      let (n, ts, o) = refused_open does in
      (n, ts, subst (λ z. Runs (m s) h z) o before)

  stops : (s : S) (h : History) (cs ds : List Word) (e : Option Refusal) (r : Refusal) (from to : ℕ) (us : List Word) (q : Reading S)
      → Leads m s (then h (read_through (feed cs None)) (and_feed (word_refused r from to) (feed us None))) q
      ↔ Leads m s (then h (read_through (feed (cs ++ ds) e)) (and_feed (word_refused r from to) (feed (us ++ ds) e))) q
  stops s h cs ds e r from to us q = (
    λ k.
        let runs = leads_runs m s _ q k in
        let (n, ts, start) = start_of runs in
        again k (runs_then start (((two_feeds (m s) n ts cs ds e (held q)).stops r from to us).0 (last_from start runs))),
    λ k.
        let runs = leads_runs m s _ q k in
        let (n, ts, start) = start_of runs in
        again k (runs_then start (((two_feeds (m s) n ts cs ds e (held q)).stops r from to us).1 (last_from start runs))),
  )

  pub two_are_one : TwoFeeds m
  two_are_one s h cs ds e = record { goes_on = goes_on s h cs ds e; stops = stops s h cs ds e }
