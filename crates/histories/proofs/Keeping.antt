-- What is kept follows from the calls' arguments alone.
use Rattle.std.proofs.Common.{◌≡◌, ℕ, List, Some, None, Option, refl, ap, subst, arith}
use Rattle.grammar.specs.declared.refusal.Refusal.{Refusal}
use Rattle.parsing.specs.Items.{Source}
use Rattle.words.specs.declared.word.Word.{Word}
use Rattle.histories.specs.Calls.{Held, opened, Call, Reply, Answer}
use Rattle.histories.specs.Meetings.{Meets, full, foreign, stuck, crowded, taken}
use Rattle.histories.specs.Doings.{Passes, at_end, at_fault, word_no, word_yes}
use Rattle.histories.specs.Doings.{Does, open_range, open_crowded, open_done, take_closed, take_no, take_yes, through_closed, through_open}
use Rattle.histories.specs.Doings.{back_closed, back_beyond, back_done, judge_closed, judge_open}
use Rattle.histories.specs.Doings.{gather_closed, gather_none, gather_nodes, gather_alternatives, gather_done}
use Rattle.histories.specs.Histories.{History, Adds, out, stop, add, Keeps, keeps_made, keeps_then, Runs, runs_made, runs_then}
use Rattle.histories.specs.Histories.{Moves, opens, opens_out, opens_over, takes, takes_not, takes_closed, reads, reads_closed}
use Rattle.histories.specs.Histories.{goes, goes_not, goes_closed, judges, gathers}

passes_adds : {src : Source} {n : ℕ} {e : Option Refusal} {ws vs : List ℕ} {cs ds : List Word} {a : Reply}
    → Passes src n e ws cs a vs ds → Adds src n ws cs vs
passes_adds (at_end x y) = out
passes_adds (at_fault x) = out
passes_adds (word_no x) = stop x
passes_adds (word_yes x p) = add x (passes_adds p)

does_moves : {src : Source} {m k : Held} {c : Call} {a : Answer} → Does src m c a k → Moves src m c k
does_moves (open_range x) = opens_out x
does_moves (open_crowded x y) = opens_over y
does_moves (open_done x y) = opens x y
does_moves take_closed = takes_closed
does_moves (take_no x) = takes_not x
does_moves (take_yes x) = takes x
does_moves through_closed = reads_closed
does_moves (through_open p) = reads (passes_adds p)
does_moves back_closed = goes_closed
does_moves (back_beyond x) = goes_not x
does_moves (back_done x) = goes x
does_moves judge_closed = judges
does_moves (judge_open x) = judges
does_moves gather_closed = gathers
does_moves (gather_none x) = gathers
does_moves (gather_nodes x y) = gathers
does_moves (gather_alternatives x y z) = gathers
does_moves (gather_done x p q u v) = gathers

pub runs_keeps : {src : Source} {h : History} {m : Held} → Runs src h m → Keeps src h m
runs_keeps runs_made = keeps_made
runs_keeps (runs_then r d) = keeps_then (runs_keeps r) (does_moves d)

-- A terminal that is taken is not refused.
pub apart : {P : Type 0} {src : Source} {n t : ℕ} {ws : List ℕ} {r : Refusal} → Meets src n ws t None → Meets src n ws t (Some r) → P
apart (taken a b c e) (full x) = absurd (omega arith)
apart (taken a b c e) (foreign x y) = absurd (omega arith)
apart (taken a b c e) (stuck x y z) = absurd (z c)
apart (taken a b c e) (crowded x y z v) = absurd (e v)

adds_same : {src : Source} {n : ℕ} {ws vs us : List ℕ} {cs : List Word} → Adds src n ws cs vs → Adds src n ws cs us → vs ≡ us
adds_same out out = refl
adds_same (stop x) (stop y) = refl
adds_same (stop x) (add y b) = apart y x
adds_same (add x a) (stop y) = apart x y
adds_same (add x a) (add y b) = adds_same a b

moves_same : {src : Source} {m j k : Held} {c : Call} → Moves src m c j → Moves src m c k → j ≡ k
moves_same (opens a b) (opens c d) = refl
moves_same (opens a b) (opens_out c) = absurd (c a)
moves_same (opens a b) (opens_over c) = absurd (b c)
moves_same (opens_out a) (opens c d) = absurd (a c)
moves_same (opens_out a) (opens_out c) = refl
moves_same (opens_out a) (opens_over c) = refl
moves_same (opens_over a) (opens c d) = absurd (d a)
moves_same (opens_over a) (opens_out c) = refl
moves_same (opens_over a) (opens_over c) = refl
moves_same (takes x) (takes y) = refl
moves_same (takes x) (takes_not y) = apart x y
moves_same (takes_not x) (takes y) = apart y x
moves_same (takes_not x) (takes_not y) = refl
moves_same takes_closed takes_closed = refl
moves_same (reads {n} x) (reads y) = ap (opened n) (adds_same x y)
moves_same reads_closed reads_closed = refl
moves_same (goes x) (goes y) = refl
moves_same (goes x) (goes_not y) = absurd (omega arith)
moves_same (goes_not x) (goes y) = absurd (omega arith)
moves_same (goes_not x) (goes_not y) = refl
moves_same goes_closed goes_closed = refl
moves_same judges judges = refl
moves_same gathers gathers = refl

-- One history keeps one thing.
pub keeps_same : {src : Source} {h : History} {m k : Held} → Keeps src h m → Keeps src h k → m ≡ k
keeps_same keeps_made keeps_made = refl
keeps_same {src} (keeps_then {k = k} {c = c} x p) (keeps_then y q) =
    moves_same (subst (λ z. Moves src z c k) (keeps_same x y) p) q
