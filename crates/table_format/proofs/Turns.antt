-- The turns of the walk, as code takes them: from the walk to a place, to the walk to the next one or to a refusal.
--   At g t ks i X v s b       the walk is at the symbol X of the known state in place i: the state s with the row v and the step byte b
--   AtMark g t ks i r v s b   the walk is at the rule r of that state, whose mark byte for it is b
use Rattle.std.proofs.Common.{◌≡◌, ℕ, suc, ◌+◌, ◌<◌, ◌≤◌, Bool, true, false, cond, ◌&&◌, ltb, ◌≢◌, List, [], ◌∷◌, ◌++◌, length, sym, refl, ap, ◌∙◌, subst, add-one, arith}
use mir.Val.{bool_byte}
use Rattle.std.proofs.lemmas.Bool.{lt-ltb}
use Rattle.parsing.specs.Grammar.{Grammar, rule_count, rhs}
use Rattle.table_format.specs.ItemSets.{Items, symbols, NoStep, StepTo}
use Rattle.table_format.specs.Tables.{Table, wanted_mark}
use Rattle.table_format.specs.Walks.{Known, state_at, row_at, byte_at, KnownAt, NewState, NewRow}
use Rattle.table_format.specs.Walks.{Walked, none, met, new, mark, turn}
use Rattle.table_format.specs.Walks.{Walk, refuses, step_where_none, step_lacking, other_row, known_row, mark_wrong}

pub record At (g : Grammar) (t : Table) (ks : List Known) (i X : ℕ) (v : Items) (s b : ℕ) : Type 0 where
  pub come : Walked g t ks i X 0
  pub inside : i < length ks
  pub symbol : X < symbols g
  pub row : v ≡ row_at ks i
  pub state : s ≡ state_at ks i
  pub byte : b ≡ t.step s X

module _ {g : Grammar} {t : Table} {ks : List Known} {i X : ℕ} {v : Items} {s b : ℕ} (a : At g t ks i X v s b) where
  byte_is : byte_at t ks i X ≡ b
  byte_is = sym (a.byte ∙ ap (λ q. t.step q X) a.state)

  there : b ≢ 255 → byte_at t ks i X ≢ 255
  there n e = n (sym byte_is ∙ e)

  refused : (n : ℕ) → Walk g t (refuses n (state_at ks i) X) → Walk g t (refuses n s X)
  refused n w = rw a.state w

  -- No step is wanted.
  module _ (no : NoStep g v X) where
    no_step : NoStep g (row_at ks i) X
    no_step = rw a.row at no

    pub at_none : b ≡ 255 → Walked g t ks i (X + 1) 0
    at_none e = rw add-one (none a.come a.inside a.symbol no_step (byte_is ∙ e))

    pub at_where_none : b ≢ 255 → Walk g t (refuses 24 s X)
    at_where_none n = refused 24 (step_where_none a.come a.inside a.symbol no_step (there n))

  -- A step to the row w is wanted.
  module _ {w : Items} (st : StepTo g v X w) where
    step_to : StepTo g (row_at ks i) X w
    step_to = rw a.row at st

    pub at_lacking : b ≡ 255 → Walk g t (refuses 25 s X)
    at_lacking e = refused 25 (step_lacking a.come a.inside a.symbol step_to (byte_is ∙ e))

    module _ (n : b ≢ 255) where
      -- It goes to the known state in place j, with the row u.
      module _ (j : ℕ) (k : KnownAt ks b j) (u : Items) (r : u ≡ row_at ks j) where
        target : KnownAt ks (byte_at t ks i X) j
        target = subst (λ q. KnownAt ks q j) (sym byte_is) k

        pub at_met : u ≡ w → Walked g t ks i (X + 1) 0
        at_met e = rw add-one (met j a.come a.inside a.symbol (subst (StepTo g (row_at ks i) X) (sym e ∙ r) step_to) (there n) target)

        pub at_other : u ≢ w → Walk g t (refuses 26 s X)
        at_other d = refused 26 (other_row j a.come a.inside a.symbol step_to (there n) target (λ p. d (r ∙ p)))

      -- It goes to a new state.
      module _ (fresh : NewState ks b) where
        fresh_target : NewState ks (byte_at t ks i X)
        fresh_target j h p = fresh j h (p ∙ byte_is)

        pub at_known : (j : ℕ) → j < length ks → row_at ks j ≡ w → Walk g t (refuses 27 s X)
        at_known j h e = refused 27 (known_row j a.come a.inside a.symbol step_to (there n) fresh_target h e)

        pub at_new : NewRow ks w → Walked g t (ks ++ record { state = b; row = w } ∷ []) i (X + 1) 0
        at_new d =
            rw add-one
            (subst (λ q. Walked g t (ks ++ record { state = q; row = w } ∷ []) i (suc X) 0) byte_is
            (new a.come a.inside a.symbol step_to (there n) fresh_target d))

pub record AtMark (g : Grammar) (t : Table) (ks : List Known) (i r : ℕ) (v : Items) (s b : ℕ) : Type 0 where
  pub come : Walked g t ks i (symbols g) r
  pub inside : i < length ks
  pub rule : r < rule_count g
  pub row : v ≡ row_at ks i
  pub state : s ≡ state_at ks i
  pub byte : b ≡ t.mark s r

module _ {g : Grammar} {t : Table} {ks : List Known} {i r : ℕ} {v : Items} {s b : ℕ} (a : AtMark g t ks i r v s b) where
  mark_is : t.mark (state_at ks i) r ≡ b
  mark_is = sym (a.byte ∙ ap (λ q. t.mark q r) a.state)

  wanted_is : wanted_mark g v r ≡ wanted_mark g (row_at ks i) r
  wanted_is = ap (λ u. wanted_mark g u r) a.row

  pub at_mark : b ≡ wanted_mark g v r → Walked g t ks i (symbols g) (r + 1)
  at_mark e = rw add-one (mark a.come a.inside a.rule (mark_is ∙ e ∙ wanted_is))

  pub at_mark_wrong : b ≢ wanted_mark g v r → Walk g t (refuses 28 s r)
  at_mark_wrong n = rw a.state (mark_wrong a.come a.inside a.rule (λ e. n (sym mark_is ∙ e ∙ sym wanted_is)))

-- The mark that a row wants, as a test of the row answers it.
pub wanted : (g : Grammar) (v : Items) (r x : ℕ) (p : Bool) → x ≡ r → r < rule_count g → p ≡ (ltb x (rule_count g) && v x (length (rhs g x)))
    → bool_byte p ≡ wanted_mark g v r
wanted g v r x p e h q = as_byte p ∙ ap (λ (c : Bool). cond {A = ℕ} c 1 0) (q ∙ rw (e, lt-ltb r (rule_count g) h))
  where
    as_byte : (p : Bool) → bool_byte p ≡ cond p 1 0
    as_byte true = refl
    as_byte false = refl

-- After all rules, the next known state.
pub at_turn : {g : Grammar} {t : Table} {ks : List Known} {i r : ℕ} → Walked g t ks i (symbols g) r → r ≡ rule_count g → i < length ks
    → Walked g t ks (i + 1) 0 0 × (i + 1 ≤ length ks)
at_turn {g} {t} {ks} {i} w e h = (rw add-one (turn (subst (Walked g t ks i (symbols g)) e w) h), omega arith)
