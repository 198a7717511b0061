-- What occurs in a derivation lies within the words, and is never the goal or its rule.
use Rattle.std.proofs.Common.{◌≡◌, ℕ, zero, suc, ◌+◌, ◌-◌, ◌≤◌, List, length, get_or, ap, ◌∙◌, subst, arith, length-append}
use Rattle.std.proofs.lemmas.List.{length-replicate}
use Rattle.parsing.specs.Grammar.{Grammar, lhs, rhs, WellFormed}
use Rattle.parsing.specs.Forest.{Alternative as Cut, Reached, top, child}
use Rattle.parsing.proofs.Derivations.{derivation_forward}
use Rattle.parsing.proofs.Theorems.{forest}
use Rattle.records.specs.declared.node.Node.{Node}
use Rattle.records.specs.declared.alternative.Alternative.{Alternative}
use Rattle.histories.specs.Forests.{NodeOf, AlternativeOf}
use Rattle.histories.specs.Statements.{TidyNode, TidyAlternative, Tidiness}

-- The cuts of an alternative never fall.
cuts_rise : {g : Grammar} {ws : List ℕ} {r : ℕ} {cs : List ℕ} → Cut g ws r cs → (q p : ℕ) → p + q ≡ length (rhs g r)
    → get_or cs p 0 ≤ get_or cs (length (rhs g r)) 0
cuts_rise {g} {ws} {r} {cs} a zero p e = let same : p ≡ length (rhs g r) = omega arith in subst (λ k. get_or cs p 0 ≤ get_or cs k 0) same (omega arith)
cuts_rise {g} {ws} {r} {cs} a (suc q) p e =
    let step = derivation_forward (a.derives p (omega arith)) in
    let rest = cuts_rise a q (suc p) (omega arith) in
    omega arith

module _ {g : Grammar} (wf : WellFormed g) {ws : List ℕ} where
  reached_tidy : {X i j : ℕ} → Reached g ws X i j → TidyNode g ws (record { from = i; to = j; symbol = X })
  reached_tidy top = record { nonterminal = wf.start_in; not_goal = wf.start_goal; forward = omega arith; within = omega arith }
  reached_tidy (child r cs p a up h n) =
      let t = reached_tidy up in
      let rise = cuts_rise a (length (rhs g r) - suc p) (suc p) (omega arith) in
      record {
        nonterminal = n;
        not_goal = wf.goal_unused r p a.rule_in h;
        forward = derivation_forward (a.derives p h);
        within = let w = t.within in omega arith;
      }

  node_tidy : (z : Node) → NodeOf g ws z → TidyNode g ws z
  node_tidy z x = reached_tidy (((forest g wf ws x.derivation).0 z.symbol z.from z.to).1 (x.derivation, x.occurs))

  alternative_tidy : (z : Alternative) (x : AlternativeOf g ws z) → TidyAlternative g ws z x.places
  alternative_tidy z x =
      let cs : List ℕ = x.places in
      let (a, up) = ((forest g wf ws x.derivation).1 z.rule cs).1 (x.derivation, x.uses) in
      let t = reached_tidy up in
      let few = wf.short z.rule a.rule_in in
      let long = a.count in
      record {
        rule_in = a.rule_in;
        not_zero = λ e. t.not_goal (ap (lhs g) e ∙ wf.goal_left);
        count = a.count;
        forward = λ p h. derivation_forward (a.derives p h);
        within = λ p h. let rise = cuts_rise a (length (rhs g z.rule) - p) p (omega arith) in let w = t.within in omega arith;
        eight = ap length x.cuts_are ∙ simp (length-append, length-replicate) (omega arith);
      }

pub tidiness : Tidiness
tidiness g wf ws = (node_tidy wf, alternative_tidy wf)
