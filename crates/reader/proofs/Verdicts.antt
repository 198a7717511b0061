-- From the link that is looked for to the judgement of the kept words.
use Rattle.std.proofs.Common.{◌≡◌, ℕ, Bool, true, ◌↔◌, List, length, Some, None, sym, refl, ap, ◌∙◌, subst, arith}
use Rattle.parsing.specs.Grammar.{WellFormed, start}
use Rattle.parsing.specs.Items.{Source}
use Rattle.parsing.specs.Links.{Linked}
use Rattle.grammar.specs.Questions.{right_symbol}
use Rattle.links.specs.Holding.{Tells}
use Rattle.forest.proofs.Grammars.{start_is}
use Rattle.histories.specs.Calls.{judge, refused, judged, plain}
use Rattle.histories.specs.Doings.{Accepts, Does, judge_closed, judge_open}
use Rattle.histories.specs.Refusals.{of_reading}
use Rattle.reader.specs.Holding.{holding}
use Rattle.reader.specs.Readings.{Reading, Makes}

module _ (src : Source) (wf : WellFormed src.grammar) (ws : List ℕ) (f x : ℕ) (first : f ≡ src.first) (symbol : x ≡ right_symbol src.grammar 0 0) where
  next_is : src.next f x ≡ src.next src.first (start src.grammar)
  next_is = ap (λ b. src.next b x) first ∙ ap (src.next src.first) (start_is src.grammar wf x symbol)

  pub not_accepted : src.next f x ≡ None → Accepts src ws → ⊥
  not_accepted e a = let both : None ≡ Some a.state = sym e ∙ next_is ∙ a.steps in let z : ◌≡◌ {A = ℕ} 0 1 = cc in omega arith

  pub told_accepted : (s n : ℕ) (r : Bool) → src.next f x ≡ Some s → n ≡ length ws → Tells r (Linked src ws s n f 0) → (r ≡ true) ↔ Accepts src ws
  told_accepted s n r e l t = (
    λ h. record {
      state = s;
      steps = sym next_is ∙ e;
      linked = subst (λ b. Linked src ws s (length ws) b 0) first (subst (λ k. Linked src ws s k f 0) l (t.told h));
    },
    λ a.
        let both : Some s ≡ Some a.state = sym e ∙ next_is ∙ a.steps in
        let same : a.state ≡ s = cc in
        t.so (subst (λ b. Linked src ws s n b 0) (sym first) (subst (λ k. Linked src ws s k src.first 0) (sym l)
        (subst (λ v. Linked src ws v (length ws) src.first 0) same a.linked))),
  )

module _ {S : Type 0} (m : S → Source) where
  pub judge_out : (r : Reading S) → r.limit ≡ None → Makes m r judge (plain (refused (of_reading 40 0 0))) r
  judge_out r e = record {
    over = refl;
    does = subst (λ o. Does (m r.source) (holding o r.words) judge (plain (refused (of_reading 40 0 0))) (holding o r.words)) (sym e) judge_closed;
  }

  pub judge_in : (r : Reading S) (n : ℕ) (b : Bool) → r.limit ≡ Some n → (b ≡ true) ↔ Accepts (m r.source) r.words → Makes m r judge (plain (judged b)) r
  judge_in r n b e h = record {
    over = refl;
    does = subst (λ o. Does (m r.source) (holding o r.words) judge (plain (judged b)) (holding o r.words)) (sym e) (judge_open h);
  }
