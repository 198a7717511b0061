-- A chain of calls that did what they ensure is a history that runs, so it keeps the law.
use Rattle.std.proofs.Common.{◌≡◌, ℕ, List, [], Some, None, Option, sym, refl, ◌∙◌, subst}
use Rattle.parsing.specs.Items.{Source}
use Rattle.states.specs.Sources.{Sourced}
use Rattle.histories.specs.Calls.{Held, closed, opened}
use Rattle.histories.specs.Doings.{Does}
use Rattle.histories.specs.Histories.{History, made, Runs, runs_made, runs_then}
use Rattle.histories.proofs.Rights.{lawfulness}
use Rattle.reader.specs.Holding.{holding}
use Rattle.reader.specs.Readings.{Reading, held}
use Rattle.replay.specs.Chains.{Leads, begun, called, EveryHistory}

limit_of : Held → Option ℕ
limit_of closed = None
limit_of (opened n ws) = Some n

words_of : Held → List ℕ
words_of closed = []
words_of (opened n ws) = ws

unheld : (k : Held) → holding (limit_of k) (words_of k) ≡ k
unfolding limit_of words_of
unheld closed = refl
unheld (opened n ws) = refl

module _ {S : Type 0} (m : S → Source) where
  pub leads_over : (s : S) (h : History) (r : Reading S) → Leads m s h r → r.source ≡ s
  leads_over s _ r (begun b) = b.over
  leads_over s _ r (called l k) = k.over ∙ leads_over s _ _ l

  pub leads_runs : (s : S) (h : History) (r : Reading S) → Leads m s h r → Runs (m s) h (held r)
  leads_runs s _ r (begun b) = subst (λ h. Runs (m s) made h) (sym b.none) runs_made
  leads_runs s _ r (called {r = q} {c = c} {a = a} l k) =
      runs_then (leads_runs s _ q l) (subst (λ x. Does (m x) (held q) c a (held r)) (leads_over s _ q l) k.does)

  -- And a history that runs leads to each reading that holds what it leaves.
  pub runs_leads : {s : S} {h : History} {k : Held} → Runs (m s) h k → (r : Reading S) → r.source ≡ s → held r ≡ k → Leads m s h r
  runs_leads runs_made r e f = begun (record { over = e; none = f })
  runs_leads {s} (runs_then {m = j} {c = c} {a = a} x d) r e f =
      let q : Reading S = record { source = s; limit = limit_of j; words = words_of j } in
      called (runs_leads x q refl (unheld j))
      (record { over = e; does = subst (λ k. Does (m s) k c a (held r)) (sym (unheld j)) (subst (λ k. Does (m s) j c a k) (sym f) d) })

  pub every_history : ((s : S) → Sourced (m s)) → EveryHistory m
  every_history law s h r l = lawfulness (m s) (law s) h (held r) (leads_runs s h r l)
