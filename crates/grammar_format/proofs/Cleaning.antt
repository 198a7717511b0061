-- What it says that no row of the table applies: each row as plain facts, and how the facts give the row back.
--   Headed b          the header is right, rows 10 to 12
--   Formed T K x      the nine bytes x are a rule, row 13
--   GoalKept T r x    the rule r, in nine bytes x, uses the goal rightly, row 14
--   WellSpelled t w   the bytes w may spell the terminal t, row 15
use Rattle.std.proofs.Common.{◌≡◌, ℕ, ◌+◌, ◌<◌, ◌≤◌, ◌≢◌, ◌⊎◌, List, [], length, get_or, refl, ap, inl, inr, arith}
use native.Mathlib.Decide.{ℕ_discrete, dec_le, dec_lt}
use Rattle.std.proofs.lemmas.List.{nil_from_length}
use Rattle.parsing.specs.Grammar.{Nonterminal, Productive}
use Rattle.grammar_format.specs.Sheets.{rules_end}
use Rattle.grammar_format.specs.Keeping.{Letter, Spelled}
use Rattle.grammar_format.specs.Fields.{number, terminals, nonterminals, rules, symbols, block, left, right_length, right}
use Rattle.grammar_format.specs.Fields.{remains, spelling, grammar_of}
use Rattle.grammar_format.specs.Breaches.{IllFormed, GoalMisused, IllSpelled, Breach, Before, CleanTo, Clean}

-- Rows and places, one after another. The first row is 10.
pub clean_start : (b : List ℕ) → Clean b 10
clean_start b m q x e = none x e
  where
    none : {m q : ℕ} → Before m q 10 0 → Breach b m q → ⊥
    none x (Breach.short h) = omega arith
    none x (Breach.other_length h) = omega arith
    none x (Breach.few_terminals h) = omega arith
    none x (Breach.many_terminals h) = omega arith
    none x (Breach.few_nonterminals h) = omega arith
    none x (Breach.many_nonterminals h) = omega arith
    none x (Breach.few_rules h) = omega arith
    none x (Breach.many_rules h) = omega arith
    none x (Breach.rules_offset h) = omega arith
    none x (Breach.spellings_offset h) = omega arith
    none x (Breach.overrun h) = omega arith
    none x (Breach.rule_form h i) = omega arith
    none x (Breach.goal_rule h i) = omega arith
    none x (Breach.cut h i) = omega arith
    none x (Breach.spelling_form h i) = omega arith
    none x (Breach.left_over h) = omega arith
    none x (Breach.repeated u h i e) = omega arith
    none x (Breach.unproductive h i) = omega arith

pub clean_down : {b : List ℕ} {n p : ℕ} (m : ℕ) → m ≤ n → CleanTo b n p → Clean b m
clean_down m h c k q x = c k q (inl (omega arith))

pub clean_at : {b : List ℕ} {n : ℕ} (p : ℕ) → CleanTo b n p → (Breach b n p → ⊥) → CleanTo b n (p + 1)
clean_at {b} {n} p c f m q (inl h) e = c m q (inl h) e
clean_at {b} {n} p c f m q (inr h) e =
    elim (dec_lt q p) [
      | yes l ↦ c m q (inr (h.0, l)) e
      | no l ↦
          let i : q ≡ p = omega arith in
          f (rw (h.0, i) at e)
    ]

pub clean_row : {b : List ℕ} {n : ℕ} (p : ℕ) → CleanTo b n p → ((q : ℕ) → p ≤ q → Breach b n q → ⊥) → Clean b (n + 1)
clean_row {b} {n} p c f m q x e =
    elim (dec_lt m n) [
      | yes l ↦ c m q (inl l) e
      | no l ↦ let i : m ≡ n = omega arith in last (rw i at e)
    ]
  where
    last : Breach b n q → ⊥
    last e = elim (dec_lt q p) [ yes l ↦ c n q (inr (refl, l)) e | no l ↦ f q (omega arith) e ]

-- A row that is passed whole does not apply.
pub clean_none : {b : List ℕ} {n p m q : ℕ} → CleanTo b n p → m < n → Breach b m q → ⊥
clean_none {m = m} {q = q} c h e = c m q (inl h) e

-- A denied denial of an equation is the equation.
same : (m n : ℕ) → (m ≢ n → ⊥) → m ≡ n
same m n f = elim (ℕ_discrete m n) [ yes e ↦ e | no d ↦ absurd (f d) ]

-- Rows 10 to 12.
pub record Headed (b : List ℕ) : Type 0 where
  pub twelve : 12 ≤ length b
  pub whole : number b 0 ≡ length b
  pub some_terminals : 1 ≤ terminals b
  pub few_terminals : terminals b ≤ 40
  pub some_nonterminals : 2 ≤ nonterminals b
  pub few_nonterminals : nonterminals b ≤ 24
  pub some_rules : 2 ≤ rules b
  pub few_rules : rules b ≤ 64
  pub rules_at : number b 8 ≡ 12
  pub spellings_at : number b 10 ≡ rules_end (rules b)
  pub fits : rules_end (rules b) ≤ length b

-- What the rows 10, 11 and 12 ask, each by itself.
pub row_10 : (b : List ℕ) → 12 ≤ length b → number b 0 ≡ length b → (q : ℕ) → Breach b 10 q → ⊥
row_10 b h e q (Breach.short l) = omega arith
row_10 b h e q (Breach.other_length n) = n e

pub row_11 : (b : List ℕ) → 1 ≤ terminals b → terminals b ≤ 40 → 2 ≤ nonterminals b → nonterminals b ≤ 24
    → 2 ≤ rules b → rules b ≤ 64 → (q : ℕ) → Breach b 11 q → ⊥
row_11 b t t' n n' r r' q (Breach.few_terminals h) = omega arith
row_11 b t t' n n' r r' q (Breach.many_terminals h) = omega arith
row_11 b t t' n n' r r' q (Breach.few_nonterminals h) = omega arith
row_11 b t t' n n' r r' q (Breach.many_nonterminals h) = omega arith
row_11 b t t' n n' r r' q (Breach.few_rules h) = omega arith
row_11 b t t' n n' r r' q (Breach.many_rules h) = omega arith

pub row_12 : (b : List ℕ) → number b 8 ≡ 12 → number b 10 ≡ rules_end (rules b) → rules_end (rules b) ≤ length b
    → (q : ℕ) → Breach b 12 q → ⊥
row_12 b r s f q (Breach.rules_offset n) = n r
row_12 b r s f q (Breach.spellings_offset n) = n s
row_12 b r s f q (Breach.overrun h) = omega arith

pub headed : {b : List ℕ} → Clean b 13 → Headed b
headed {b} c = record {
  twelve = omega (arith, λ (h : length b < 12). c 10 0 (inl (omega arith)) (Breach.short h));
  whole = same (number b 0) (length b) (λ h. c 10 0 (inl (omega arith)) (Breach.other_length h));
  some_terminals = omega (arith, λ (h : terminals b < 1). c 11 0 (inl (omega arith)) (Breach.few_terminals h));
  few_terminals = omega (arith, λ (h : 40 < terminals b). c 11 0 (inl (omega arith)) (Breach.many_terminals h));
  some_nonterminals = omega (arith, λ (h : nonterminals b < 2). c 11 0 (inl (omega arith)) (Breach.few_nonterminals h));
  few_nonterminals = omega (arith, λ (h : 24 < nonterminals b). c 11 0 (inl (omega arith)) (Breach.many_nonterminals h));
  some_rules = omega (arith, λ (h : rules b < 2). c 11 0 (inl (omega arith)) (Breach.few_rules h));
  few_rules = omega (arith, λ (h : 64 < rules b). c 11 0 (inl (omega arith)) (Breach.many_rules h));
  rules_at = same (number b 8) 12 (λ h. c 12 0 (inl (omega arith)) (Breach.rules_offset h));
  spellings_at = same (number b 10) (rules_end (rules b)) (λ h. c 12 0 (inl (omega arith)) (Breach.spellings_offset h));
  fits = omega (arith, λ (h : length b < rules_end (rules b)). c 12 0 (inl (omega arith)) (Breach.overrun h));
}

pub headed_clean : {b : List ℕ} → Headed b → Clean b 13
headed_clean {b} h =
    clean_row {n = 12} 0
    (clean_row {n = 11} 0
    (clean_row {n = 10} 0 (clean_start b) (λ q l. row_10 b h.twelve h.whole q))
    (λ q l. row_11 b h.some_terminals h.few_terminals h.some_nonterminals h.few_nonterminals h.some_rules h.few_rules q))
    (λ q l. row_12 b h.rules_at h.spellings_at h.fits q)

-- Row 13.
pub record Formed (T K : ℕ) (x : List ℕ) : Type 0 where
  pub left_from : T ≤ left x
  pub left_under : left x < K
  pub short : right_length x ≤ 7
  pub known : (d : ℕ) → d < right_length x → right x d < K
  pub filled : (d : ℕ) → d < 7 → right_length x ≤ d → right x d ≡ 255

pub formed : {T K : ℕ} {x : List ℕ} → (IllFormed T K x → ⊥) → Formed T K x
formed {T} {K} {x} f = record {
  left_from = omega (arith, λ (h : left x < T). f (IllFormed.left_low h));
  left_under = omega (arith, λ (h : K ≤ left x). f (IllFormed.left_high h));
  short = few;
  known = λ d l. omega (arith, λ (h : K ≤ right x d). f (IllFormed.unknown d (omega (arith, few)) l h));
  filled = λ d l h. same (right x d) 255 (λ n. f (IllFormed.unfilled d l h n));
}
  where
    few : right_length x ≤ 7
    few = omega (arith, λ (h : 7 < right_length x). f (IllFormed.long h))

pub formed_fine : {T K : ℕ} {x : List ℕ} → Formed T K x → IllFormed T K x → ⊥
formed_fine f (IllFormed.left_low h) = omega arith
formed_fine f (IllFormed.left_high h) = omega arith
formed_fine f (IllFormed.long h) = omega arith
formed_fine f (IllFormed.unknown d l h k) = omega (arith, f.known d h)
formed_fine f (IllFormed.unfilled d l h n) = n (f.filled d l h)

pub row_13 : (b : List ℕ) (r : ℕ) → (r < rules b → Formed (terminals b) (symbols b) (block b r)) → Breach b 13 r → ⊥
row_13 b r f (Breach.rule_form h i) = formed_fine (f h) i

pub row_13_formed : {b : List ℕ} {r : ℕ} → (Breach b 13 r → ⊥) → r < rules b → Formed (terminals b) (symbols b) (block b r)
row_13_formed f h = formed (λ i. f (Breach.rule_form h i))

-- Row 14.
pub record GoalKept (T r : ℕ) (x : List ℕ) : Type 0 where
  pub goal_left : r ≡ 0 → left x ≡ T
  pub goal_length : r ≡ 0 → right_length x ≡ 1
  pub start_above : r ≡ 0 → T < right x 0
  pub left_other : 0 < r → left x ≢ T
  pub unused : (d : ℕ) → 0 < r → d < right_length x → right x d ≢ T

pub goal_kept : {T r : ℕ} {x : List ℕ} → (GoalMisused T r x → ⊥) → GoalKept T r x
goal_kept {T} {r} {x} f = record {
  goal_left = λ z. same (left x) T (λ n. f (GoalMisused.other_left z n));
  goal_length = λ z. same (right_length x) 1 (λ n. f (GoalMisused.other_length z n));
  start_above = λ z. omega (arith, λ (h : right x 0 ≤ T). f (GoalMisused.no_start z h));
  left_other = λ p e. f (GoalMisused.again p e);
  unused = λ d p l e. f (GoalMisused.within d p l e);
}

pub goal_kept_fine : {T r : ℕ} {x : List ℕ} → GoalKept T r x → GoalMisused T r x → ⊥
goal_kept_fine k (GoalMisused.other_left z n) = n (k.goal_left z)
goal_kept_fine k (GoalMisused.other_length z n) = n (k.goal_length z)
goal_kept_fine k (GoalMisused.no_start z h) = omega (arith, k.start_above z)
goal_kept_fine k (GoalMisused.again p e) = k.left_other p e
goal_kept_fine k (GoalMisused.within d p l e) = k.unused d p l e

pub row_14 : (b : List ℕ) (r : ℕ) → (r < rules b → GoalKept (terminals b) r (block b r)) → Breach b 14 r → ⊥
row_14 b r f (Breach.goal_rule h i) = goal_kept_fine (f h) i

pub row_14_kept : {b : List ℕ} {r : ℕ} → (Breach b 14 r → ⊥) → r < rules b → GoalKept (terminals b) r (block b r)
row_14_kept f h = goal_kept (λ i. f (Breach.goal_rule h i))

-- Row 15. Whether a byte is a letter is told by a test.
pub letter? : (c : ℕ) → Letter c ⊎ (Letter c → ⊥)
letter? c =
    elim (dec_le 33 c) [
      | yes l ↦
          elim (dec_le c 126) [
            | yes h ↦ elim (ℕ_discrete c 35) [ yes e ↦ inr (λ x. x.no_remark e) | no n ↦ inl (record { low = l; high = h; no_remark = n }) ]
            | no h ↦ inr (λ x. h x.high)
          ]
      | no l ↦ inr (λ x. l x.low)
    ]

letter : (c : ℕ) → ((Letter c → ⊥) → ⊥) → Letter c
letter c f = elim (letter? c) [ inl x ↦ x | inr n ↦ absurd (f n) ]

abbrev pub WellSpelled : ℕ → List ℕ → Type 0
WellSpelled t w = ((t ≡ 0) × (w ≡ [])) ⊎ ((0 < t) × Spelled w)

pub well_spelled : (t : ℕ) (w : List ℕ) → (IllSpelled t w → ⊥) → WellSpelled t w
well_spelled t w f =
    elim (ℕ_discrete t 0) [
      | yes z ↦ inl (z, nil_from_length w (omega (arith, λ (h : 0 < length w). f (IllSpelled.amount z h))))
      | no n ↦
          let p : 0 < t = omega arith in
          inr (
            p,
            record {
              some = omega (arith, λ (h : length w ≡ 0). f (IllSpelled.empty p h));
              short = omega (arith, λ (h : 12 < length w). f (IllSpelled.lengthy h));
              letters = λ k h. letter (get_or w k 0) (λ n. f (IllSpelled.no_letter k h n));
              no_amount = λ a. f (IllSpelled.digits p a);
            },
          )
    ]

pub well_spelled_fine : {t : ℕ} {w : List ℕ} → WellSpelled t w → IllSpelled t w → ⊥
well_spelled_fine {t} {w} (inl x) i = none x.0 (rw x.1 refl) i
  where
    none : t ≡ 0 → length w ≡ 0 → IllSpelled t w → ⊥
    none z e (IllSpelled.amount q h) = omega arith
    none z e (IllSpelled.empty h q) = omega arith
    none z e (IllSpelled.lengthy h) = omega arith
    none z e (IllSpelled.no_letter k h n) = omega arith
    none z e (IllSpelled.digits p a) = omega arith
well_spelled_fine (inr (p, s)) (IllSpelled.amount z h) = omega arith
well_spelled_fine (inr (p, s)) (IllSpelled.empty h e) = omega (arith, s.some)
well_spelled_fine (inr (p, s)) (IllSpelled.lengthy h) = omega (arith, s.short)
well_spelled_fine (inr (p, s)) (IllSpelled.no_letter k h n) = n (s.letters k h)
well_spelled_fine (inr (p, s)) (IllSpelled.digits q a) = s.no_amount a

pub row_15 : (b : List ℕ) (t : ℕ)
    → (t < terminals b → (get_or (remains b t) 0 0 < length (remains b t)) × WellSpelled t (spelling b t))
    → (t ≡ terminals b → remains b t ≡ []) → Breach b 15 t → ⊥
row_15 b t f e (Breach.cut h i) = omega (arith, (f h).0)
row_15 b t f e (Breach.spelling_form h i) = well_spelled_fine (f h).1 i
row_15 b t f e (Breach.left_over h) = omega (arith, ap length (e refl))

pub row_15_uncut : {b : List ℕ} {t : ℕ} → (Breach b 15 t → ⊥) → t < terminals b → get_or (remains b t) 0 0 < length (remains b t)
row_15_uncut {b} {t} f h = omega (arith, λ (i : length (remains b t) ≤ get_or (remains b t) 0 0). f (Breach.cut h i))

pub row_15_spelled : {b : List ℕ} {t : ℕ} → (Breach b 15 t → ⊥) → t < terminals b → WellSpelled t (spelling b t)
row_15_spelled {b} {t} f h = well_spelled t (spelling b t) (λ i. f (Breach.spelling_form h i))

pub row_15_end : {b : List ℕ} → (Breach b 15 (terminals b) → ⊥) → remains b (terminals b) ≡ []
row_15_end {b} f =
    nil_from_length (remains b (terminals b)) (omega (arith, λ (h : 0 < length (remains b (terminals b))). f (Breach.left_over h)))

-- Row 16.
pub row_16 : (b : List ℕ) (t : ℕ) → ((u : ℕ) → u < t → t < terminals b → spelling b u ≢ spelling b t) → Breach b 16 t → ⊥
row_16 b t f (Breach.repeated u h i e) = f u h i e

pub row_16_apart : {b : List ℕ} {t : ℕ} → (Breach b 16 t → ⊥) → (u : ℕ) → u < t → t < terminals b → spelling b u ≢ spelling b t
row_16_apart f u h i e = f (Breach.repeated u h i e)

-- Row 17.
pub row_17 : (b : List ℕ) (X : ℕ) → (Nonterminal (grammar_of b) X → (Productive (grammar_of b) X → ⊥) → ⊥) → Breach b 17 X → ⊥
row_17 b X f (Breach.unproductive n i) = f n i

pub row_17_productive : {b : List ℕ} {X : ℕ} → (Breach b 17 X → ⊥) → Nonterminal (grammar_of b) X → (Productive (grammar_of b) X → ⊥) → ⊥
row_17_productive f n i = f (Breach.unproductive n i)

-- All the rows together.
module _ {b : List ℕ} (c : Clean b 18) where
  pub clean_headed : Headed b
  clean_headed = headed (clean_down 13 (omega arith) c)

  pub clean_rule : (r : ℕ) → r < rules b → Formed (terminals b) (symbols b) (block b r)
  clean_rule r = row_13_formed (c 13 r (inl (omega arith)))

  pub clean_goal : (r : ℕ) → r < rules b → GoalKept (terminals b) r (block b r)
  clean_goal r = row_14_kept (c 14 r (inl (omega arith)))

  pub clean_uncut : (t : ℕ) → t < terminals b → get_or (remains b t) 0 0 < length (remains b t)
  clean_uncut t = row_15_uncut (c 15 t (inl (omega arith)))

  pub clean_spelled : (t : ℕ) → t < terminals b → WellSpelled t (spelling b t)
  clean_spelled t = row_15_spelled (c 15 t (inl (omega arith)))

  pub clean_end : remains b (terminals b) ≡ []
  clean_end = row_15_end (c 15 (terminals b) (inl (omega arith)))

  pub clean_apart : (t u : ℕ) → u < t → t < terminals b → spelling b u ≢ spelling b t
  clean_apart t = row_16_apart (c 16 t (inl (omega arith)))

  pub clean_productive : (X : ℕ) → Nonterminal (grammar_of b) X → (Productive (grammar_of b) X → ⊥) → ⊥
  clean_productive X = row_17_productive (c 17 X (inl (omega arith)))

-- And the other way.
pub all_clean : {b : List ℕ} → Headed b
    → ((r : ℕ) → r < rules b → Formed (terminals b) (symbols b) (block b r))
    → ((r : ℕ) → r < rules b → GoalKept (terminals b) r (block b r))
    → ((t : ℕ) → t < terminals b → get_or (remains b t) 0 0 < length (remains b t))
    → ((t : ℕ) → t < terminals b → WellSpelled t (spelling b t))
    → remains b (terminals b) ≡ []
    → ((t u : ℕ) → u < t → t < terminals b → spelling b u ≢ spelling b t)
    → ((X : ℕ) → Nonterminal (grammar_of b) X → (Productive (grammar_of b) X → ⊥) → ⊥)
    → Clean b 18
all_clean {b} h rs gs us ws e ds ps =
    clean_row {n = 17} 0
    (clean_row {n = 16} 0
    (clean_row {n = 15} 0
    (clean_row {n = 14} 0
    (clean_row {n = 13} 0 (headed_clean h)
    (λ r l. row_13 b r (rs r)))
    (λ r l. row_14 b r (gs r)))
    (λ t l. row_15 b t (λ i. (us t i, ws t i)) (λ q. rw q e)))
    (λ t l. row_16 b t (ds t)))
    (λ X l. row_17 b X (ps X))
