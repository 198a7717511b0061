-- A history that goes on, and what is held on the way.
use Rattle.std.proofs.Common.{◌≡◌, List, [], ◌∷◌, subst}
use Rattle.parsing.specs.Items.{Source}
use Rattle.histories.specs.Calls.{Held, Call, Answer}
use Rattle.histories.specs.Continuations.{Exchange, after, Continues, stays, goes}
use Rattle.histories.specs.Doings.{Does}
use Rattle.histories.specs.Histories.{History, then, Runs, runs_then}
use Rattle.histories.proofs.Keeping.{runs_keeps, keeps_same}

-- It is the history before, and what went on.
record Parted (src : Source) (h : History) (xs : List Exchange) (k : Held) : Type 0 where
  pub middle : Held
  pub runs : Runs src h middle
  pub after : Continues src middle xs k

module _ {src : Source} where
  -- One history leaves one thing held.
  runs_same : {h : History} {m k : Held} → Runs src h m → Runs src h k → m ≡ k
  runs_same r s = keeps_same (runs_keeps r) (runs_keeps s)

  pub last_of : {h : History} {k : Held} {c : Call} {a : Answer} → Runs src (then h c a) k → (m : Held) × Runs src h m × Does src m c a k
  last_of (runs_then {m = m} r d) = (m, r, d)

  -- The last call, where it is known what was held before it.
  pub last_from : {h : History} {m k : Held} {c : Call} {a : Answer} → Runs src h m → Runs src (then h c a) k → Does src m c a k
  last_from {k = k} {c = c} {a = a} x y =
      let (j, r, d) = last_of y in
      subst (λ z. Does src z c a k) (runs_same r x) d

  part : {h : History} {k : Held} (xs : List Exchange) → Runs src (after h xs) k → Parted src h xs k
  part {h} {k} [] r = record { middle = k; runs = r; after = stays }
  part {h} {k} (x ∷ xs) r =
      let p = part {h = then h x.call x.answer} xs r in
      let (m, before, d) = last_of p.runs in
      record { middle = m; runs = before; after = goes d p.after }

  pub continues_from : {h : History} {m k : Held} (xs : List Exchange) → Runs src h m → Runs src (after h xs) k → Continues src m xs k
  continues_from {h} {m} {k} xs r s =
      let p = part {h = h} xs s in
      subst (λ z. Continues src z xs k) (runs_same p.runs r) p.after

  pub runs_onward : {h : History} {m k : Held} (xs : List Exchange) → Runs src h m → Continues src m xs k → Runs src (after h xs) k
  runs_onward [] r stays = r
  runs_onward (x ∷ xs) r (goes d g) = runs_onward xs (runs_then r d) g
