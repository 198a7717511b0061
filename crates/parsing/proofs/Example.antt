-- The hypotheses can be met: the grammar whose only sentence is one word has three LR(0) states.
use Rattle.std.proofs.Common.{◌≡◌, ℕ, zero, suc, ◌<◌, Bool, true, ◌&&◌, eqb, ltb, ◌≢◌, [], ◌∷◌, length, get_or, Some, None, Option, sym, refl, ◌∙◌, subst, arith}
use Rattle.std.proofs.lemmas.Bool.{and_parts, eqb-true, ltb-true}
use Rattle.parsing.specs.Grammar.{Grammar, rule, lhs, rhs, Nonterminal, WellFormed, Productive}
use Rattle.parsing.specs.Grammar.{Derivation, word, node, end, part}
use Rattle.parsing.specs.Items.{Next, Closure, kernel, predict, Source, Initial, Step, Lawful}
use Rattle.parsing.proofs.States.{some_not_none}
use Rattle.parsing.proofs.Least.{closure_least}

-- Rule 0 rewrites the goal 1 to the start symbol 2, and rule 1 rewrites that to the terminal 0.
abbrev tiny : Grammar
tiny = record {
  terminals = 1;
  nonterminals = 2;
  rules = record { left = 1; right = 2 ∷ [] } ∷ (record { left = 2; right = 0 ∷ [] } ∷ []);
}

-- Both nonterminals derive the word 0.
the_start : Derivation tiny (0 ∷ []) 2 0 1
unfolding lhs rhs rule
the_start = node 1 (omega arith) refl (part 1 (word (omega arith) (omega arith) refl) end)

the_goal : Derivation tiny (0 ∷ []) 1 0 1
unfolding lhs rhs rule
the_goal = node 0 (omega arith) refl (part 1 the_start end)

tiny_productive : (X : ℕ) → Nonterminal tiny X → Productive tiny X
tiny_productive zero n = absurd (omega (arith, n.low))
tiny_productive (suc zero) n = (0 ∷ [], the_goal)
tiny_productive (suc (suc zero)) n = (0 ∷ [], the_start)
tiny_productive (suc (suc (suc X))) n = absurd (omega (arith, n.high))

-- What holds of both rules holds of each.
each_rule : (P : ℕ → Type 0) → P 0 → P 1 → (r : ℕ) → r < 2 → P r
each_rule P a b zero h = a
each_rule P a b (suc zero) h = b
each_rule P a b (suc (suc r)) h = absurd (omega arith)

-- The symbols that come next in the items.
data Comes : ℕ → ℕ → ℕ → Type 0 where
  the_start_next : Comes 0 0 2
  the_word_next : Comes 1 0 0

comes : (r d X : ℕ) → r < 2 → d < length (rhs tiny r) → get_or (rhs tiny r) d 0 ≡ X → Comes r d X
unfolding lhs rhs rule
comes zero zero X h l e = subst (Comes 0 0) e the_start_next
comes zero (suc d) X h l e = absurd (omega arith)
comes (suc zero) zero X h l e = subst (Comes 1 0) e the_word_next
comes (suc zero) (suc d) X h l e = absurd (omega arith)
comes (suc (suc r)) d X h l e = absurd (omega arith)

next_comes : {r d X : ℕ} → Next tiny r d X → Comes r d X
next_comes {r} {d} {X} n = comes r d X n.rule_in n.dot_in n.symbol

comes_next : {r d X : ℕ} → Comes r d X → Next tiny r d X
unfolding lhs rhs rule
comes_next the_start_next = record { rule_in = omega arith; dot_in = omega arith; symbol = refl }
comes_next the_word_next = record { rule_in = omega arith; dot_in = omega arith; symbol = refl }

-- They are symbols of the grammar other than the goal.
right_symbol : {r d X : ℕ} → Comes r d X → (X < 3) × (X ≢ 1)
right_symbol the_start_next = (omega arith, omega arith)
right_symbol the_word_next = (omega arith, omega arith)

tiny_well_formed : WellFormed tiny
unfolding lhs rhs rule
tiny_well_formed = record {
  two_rules = omega arith;
  few_rules = omega arith;
  left_in = each_rule _ (record { low = omega arith; high = omega arith }) (record { low = omega arith; high = omega arith });
  right_in = λ r d h l. (right_symbol (comes r d _ h l refl)).0;
  short = each_rule _ (omega arith) (omega arith);
  goal_left = refl;
  goal_right = refl;
  start_in = record { low = omega arith; high = omega arith };
  start_goal = omega arith;
  goal_once = each_rule _ (λ e. refl) (λ e. absurd (omega arith));
  goal_unused = λ r d h l. (right_symbol (comes r d _ h l refl)).1;
  productive = λ X n. ∣ tiny_productive X n ∣₁;
}

-- The rows of the three states: (0, 0) and (1, 0); (0, 1); (1, 1).
abbrev tiny_has : ℕ → ℕ → ℕ → Bool
tiny_has zero r d = ltb r 2 && eqb d 0
tiny_has (suc zero) r d = eqb r 0 && eqb d 1
tiny_has (suc (suc b)) r d = eqb r 1 && eqb d 1

data Held : ℕ → ℕ → ℕ → Type 0 where
  goal_begins : Held 0 0 0
  start_begins : Held 0 1 0
  goal_ends : Held 1 0 1
  start_ends : {b : ℕ} → Held (suc (suc b)) 1 1

held : (b r d : ℕ) → tiny_has b r d ≡ true → Held b r d
held zero r d e =
    let (p, q) = and_parts (ltb r 2) (eqb d 0) e in
    rw (eqb-true d 0 q) (each_rule (λ r. Held 0 r 0) goal_begins start_begins r (ltb-true r 2 p))
held (suc zero) r d e = let (p, q) = and_parts (eqb r 0) (eqb d 1) e in rw (eqb-true r 0 p, eqb-true d 1 q) goal_ends
held (suc (suc b)) r d e = let (p, q) = and_parts (eqb r 1) (eqb d 1) e in rw (eqb-true r 1 p, eqb-true d 1 q) start_ends

holds : {b r d : ℕ} → Held b r d → tiny_has b r d ≡ true
holds goal_begins = refl
holds start_begins = refl
holds goal_ends = refl
holds start_ends = refl

-- The first state has a step by the terminal and one by the start symbol.
abbrev tiny_next : ℕ → ℕ → Option ℕ
tiny_next zero zero = Some 2
tiny_next zero (suc zero) = None
tiny_next zero (suc (suc zero)) = Some 1
tiny_next zero (suc (suc (suc X))) = None
tiny_next (suc b) X = None

data Goes : ℕ → ℕ → ℕ → Type 0 where
  by_word : Goes 0 0 2
  by_start : Goes 0 2 1

goes : (b X s : ℕ) → tiny_next b X ≡ Some s → Goes b X s
goes zero zero s e = let same : 2 ≡ s = cc in subst (Goes 0 0) same by_word
goes zero (suc zero) s e = absurd (some_not_none (sym e))
goes zero (suc (suc zero)) s e = let same : 1 ≡ s = cc in subst (Goes 0 2) same by_start
goes zero (suc (suc (suc X))) s e = absurd (some_not_none (sym e))
goes (suc b) X s e = absurd (some_not_none (sym e))

abbrev tiny_source : Source
tiny_source = record {
  grammar = tiny;
  states = 3;
  first = 0;
  next = tiny_next;
  has = tiny_has;
  done = λ t r. tiny_has t r (length (rhs tiny r));
}

-- The row of the first state is the closure of (0, 0).
first_closed : {r d : ℕ} → Held 0 r d → Closure tiny Initial r d
unfolding lhs rhs rule
first_closed goal_begins = kernel (record { rule_zero = refl; dot_zero = refl })
first_closed start_begins = predict 1 (kernel (record { rule_zero = refl; dot_zero = refl })) (omega arith) (comes_next the_start_next)

predicted : {r d : ℕ} (q Y : ℕ) → q < 2 → Comes r d Y → Y ≡ lhs tiny q → Held 0 q 0
unfolding lhs rhs rule
predicted zero Y h the_start_next e = absurd (omega arith)
predicted zero Y h the_word_next e = absurd (omega arith)
predicted (suc zero) Y h c e = start_begins
predicted (suc (suc q)) Y h c e = absurd (omega arith)

closed_first : {r d : ℕ} → Closure tiny Initial r d → Held 0 r d
closed_first =
    closure_least (Held 0)
    (λ r d x. rw (x.rule_zero, x.dot_zero) goal_begins)
    (λ r d q x h n. predicted q (lhs tiny q) h (next_comes n) refl)

-- The other two rows are the steps of the first.
step_closed : {b X s r d : ℕ} → Goes b X s → Held s r d → Closure tiny (Step tiny_source b X) r d
step_closed by_word start_ends = kernel (record { dot = 0; moved = refl; before = refl; over = comes_next the_word_next })
step_closed by_start goal_ends = kernel (record { dot = 0; moved = refl; before = refl; over = comes_next the_start_next })

moves : {b X s r d : ℕ} → Goes b X s → Comes r d X → Held b r d → Held s r (suc d)
moves by_word the_word_next start_begins = start_ends
moves by_start the_start_next goal_begins = goal_ends

ends : {b X s r d Y : ℕ} → Goes b X s → Held s r d → Comes r d Y → ⊥
ends by_word start_ends c = elim c [ ]
ends by_start goal_ends c = elim c [ ]

closed_step : {b X s r d : ℕ} → Goes b X s → Closure tiny (Step tiny_source b X) r d → Held s r d
closed_step {b} {s = s} g =
    closure_least (Held s)
    (λ r d x. rw x.moved (moves g (next_comes x.over) (held b r x.dot x.before)))
    (λ r d q x h n. absurd (ends g x (next_comes n)))

-- A state has no step by X exactly when none of its items has X next.
no_step : {b X r d : ℕ} → Comes r d X → Held b r d → tiny_next b X ≡ None → ⊥
no_step the_start_next goal_begins = some_not_none
no_step the_word_next start_begins = some_not_none

no_item : (b X : ℕ) → ((r d : ℕ) → tiny_has b r d ≡ true → Next tiny r d X → ⊥) → tiny_next b X ≡ None
no_item zero zero f = absurd (f 1 0 refl (comes_next the_word_next))
no_item zero (suc zero) f = refl
no_item zero (suc (suc zero)) f = absurd (f 0 0 refl (comes_next the_start_next))
no_item zero (suc (suc (suc X))) f = refl
no_item (suc b) X f = refl

-- Each state has an item that no other has.
own_item : (s : ℕ) → (r : ℕ) × (d : ℕ) × Held s r d
own_item zero = (0, 0, goal_begins)
own_item (suc zero) = (0, 1, goal_ends)
own_item (suc (suc s)) = (1, 1, start_ends)

same_state : {s t r d : ℕ} → s < 3 → t < 3 → Held s r d → Held t r d → s ≡ t
same_state h k goal_begins goal_begins = refl
same_state h k start_begins start_begins = refl
same_state h k goal_ends goal_ends = refl
same_state h k start_ends start_ends = omega arith

in_range : {b X s : ℕ} → Goes b X s → s < 3
in_range by_word = omega arith
in_range by_start = omega arith

tiny_lawful : Lawful tiny_source
tiny_lawful = record {
  first_in = omega arith;
  next_in = λ b X s h e. in_range (goes b X s e);
  first_row = λ r d. ((λ x. first_closed (held 0 r d x)), λ c. holds (closed_first c));
  next_row = λ b X s h e r d. ((λ x. step_closed (goes b X s e) (held s r d x)), λ c. holds (closed_step (goes b X s e) c));
  next_none = λ b X h. ((λ e r d x n. no_step (next_comes n) (held b r d x) e), no_item b X);
  done_row = λ t r h k. refl;
  rows_apart = λ s t h k f. let (r, d, x) = own_item s in same_state h k x (held t r d (sym (f r d) ∙ holds x));
}

pub lawful_exists : (src : Source) × WellFormed src.grammar × Lawful src
lawful_exists = (tiny_source, tiny_well_formed, tiny_lawful)
