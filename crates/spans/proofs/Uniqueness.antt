-- There is one answer to what fits, and to what is met.
use Rattle.std.proofs.Common.{◌≡◌, ℕ, ◌+◌, ◌<◌, ◌≤◌, Bool, true, false, List, length, get_or, sym, refl, ◌∙◌, inl, inr, arith}
use Rattle.std.proofs.lemmas.Bool.{cases_lt}
use Rattle.parsing.specs.Items.{Source}
use Rattle.parsing.specs.Grammar.{Grammar, WellFormed, rule_count, rhs}
use Rattle.spans.specs.Spans.{Answers, Path, stay, step, part_fits, Placed, Met, crown, below, MetAlternative}
use Rattle.spans.specs.Statements.{MetIsOne}
use Rattle.spans.proofs.Paths.{path_rises}

same_bool : (a b : Bool) → (a ≡ true → b ≡ true) → (b ≡ true → a ≡ true) → a ≡ b
same_bool true b f h = sym (f refl)
same_bool false true f h = h refl
same_bool false false f h = refl

pub fit_is_one : (src : Source) (K : ℕ → ℕ → ℕ → ℕ → Type 0) (ws : List ℕ) (f h : ℕ → ℕ → ℕ → Bool) → Answers src K ws f → Answers src K ws h
    → (X i j : ℕ) → X < src.grammar.terminals + src.grammar.nonterminals → f X i j ≡ h X i j
fit_is_one src K ws f h p q X i j l = elim (cases_lt X src.grammar.terminals) [
  | inl t ↦
      let (a, b) = p.words X i j t in
      let (c, d) = q.words X i j t in
      same_bool (f X i j) (h X i j) (λ e. d (a e)) (λ e. b (c e))
  | inr t ↦
      let (a, b) = p.spans X i j (record { low = t; high = l }) in
      let (c, d) = q.spans X i j (record { low = t; high = l }) in
      same_bool (f X i j) (h X i j) (λ e. d (a e)) (λ e. b (c e))
]

module _ (g : Grammar) (wf : WellFormed g) (f h : ℕ → ℕ → ℕ → Bool) (same : (X i j : ℕ) → X < g.terminals + g.nonterminals → f X i j ≡ h X i j) where
  part_as : (r p a b : ℕ) → r < rule_count g → p < length (rhs g r) → part_fits g f r p a b ≡ true → part_fits g h r p a b ≡ true
  part_as r p a b l m e = sym (same (get_or (rhs g r) p 0) a b (wf.right_in r p l m)) ∙ e

  path_as : (r : ℕ) → r < rule_count g → {p a q b : ℕ} → q ≤ length (rhs g r) → Path (part_fits g f r) p a q b → Path (part_fits g h r) p a q b
  path_as r l m stay = stay
  path_as r l {p = p} {a = a} m (step c e u) = let n = path_rises u in step c (part_as r p a c l (omega arith) e) (path_as r l m u)

  placed_as : (r i j p a b : ℕ) → r < rule_count g → Placed g f r i j p a b → Placed g h r i j p a b
  placed_as r i j p a b l w = let k = w.part_in in record {
    part_in = k;
    before = path_as r l (omega arith) w.before;
    here = part_as r p a b l k w.here;
    behind = path_as r l (omega arith) w.behind;
  }

  pub met_as : {n X i j : ℕ} → Met g f n X i j → Met g h n X i j
  met_as crown = crown
  met_as (below {i} {j} r p a b l m w nt) = below r p a b l (met_as m) (placed_as r i j p a b l w) nt

  pub alternative_as : (n r : ℕ) (cs : List ℕ) → MetAlternative g f n r cs → MetAlternative g h n r cs
  alternative_as n r cs (w, m) = (
    record { rule_in = w.rule_in; count = w.count; fit = λ p k. part_as r p (get_or cs p 0) (get_or cs (p + 1) 0) w.rule_in k (w.fit p k) },
    met_as m,
  )

pub met_is_one : MetIsOne
met_is_one g wf f h same n =
    let back : (X i j : ℕ) → X < g.terminals + g.nonterminals → h X i j ≡ f X i j = λ X i j l. sym (same X i j l) in (
      (λ X i j. ((λ m. met_as g wf f h same m), λ m. met_as g wf h f back m)),
      λ r cs. ((λ m. alternative_as g wf f h same n r cs m), λ m. alternative_as g wf h f back n r cs m),
    )
