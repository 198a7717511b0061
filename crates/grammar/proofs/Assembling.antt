-- From the parts of a sheet to its grammar: the rows of the table that are left, and that the bytes are those of the grammar's sheet.
use Rattle.std.proofs.Common.{◌≡◌, ℕ, ◌+◌, ◌-◌, ◌<◌, ◌≤◌, List, [], map, length, get_or, replicate, Some, None, refl, sym, ap, ◌∙◌, subst, subst₂, inl, inr, arith, take_at}
use Rattle.std.proofs.lemmas.List.{length-map}
use Rattle.parsing.specs.Grammar.{Grammar, Rule as Rewriting, Productive}
use Rattle.grammar_format.specs.Sheets.{Sheet, rule_bytes, sheet_bytes}
use Rattle.grammar_format.specs.Keeping.{Keeps}
use Rattle.grammar_format.specs.Fields.{terminals, nonterminals, rules, block, rule_of, spelling, rules_of, grammar_of, sheet_of}
use Rattle.grammar_format.specs.Breaches.{GoalMisused, Breach, goal_rule, repeated, unproductive, CleanTo, Clean, First}
use Rattle.grammar_format.specs.Statements.{Bytes}
use Rattle.grammar_format.proofs.Cleaning.{clean_row}
use Rattle.grammar_format.proofs.Decoding.{breach_never}
use Rattle.grammar_format.proofs.Listed.{listed_is, length_listed, getD_listed}
use Rattle.grammar_format.proofs.Theorems.{sufficiency}
use Rattle.grammar.specs.Finding.{NoneOf, FirstOf}
use Rattle.grammar.specs.Holding.{rule_at, rule_block, block_at, rewriting, words, grammar_from, sheet_from}
use Rattle.grammar.specs.Heads.{Headed}
use Rattle.grammar.specs.Lists.{items}
use Rattle.grammar.specs.Progress.{Repeated, RulesRead, SpellingsRead, PartsRead}
use Rattle.grammar.specs.Refusals.{FirstFault, Refused}
use Rattle.grammar.specs.declared.fault.GrammarFault.{GrammarFault}
use Rattle.grammar.specs.declared.few.Few.{Few}
use Rattle.grammar.specs.declared.header.Header.{Header}
use Rattle.grammar.specs.declared.parts.Parts.{Parts}
use Rattle.grammar.specs.declared.rule.Rule.{Rule}
use Rattle.grammar.proofs.Lists.{count_items}
use Rattle.grammar.proofs.Rewriting.{block_of_rule}

-- A row that applies nowhere below p, after rows that do not apply.
pub clean_to : {b : List ℕ} {n : ℕ} (p : ℕ) → Clean b n → ((q : ℕ) → q < p → Breach b n q → ⊥) → CleanTo b n p
clean_to p c f m q (inl h) x = c m q (inl h) x
clean_to {b} p c f m q (inr (e, l)) x = f q l (subst (λ (k : ℕ). Breach b k q) e x)

-- The bytes of a rule say that rule.
said : (q : Rewriting) → rule_of (rule_bytes q) ≡ q
unfolding rule_of
said q = ap (λ (xs : List ℕ). record q { right = xs }) (take_at q.right (replicate (7 - length q.right) 255) (length q.right) refl)

module _ {b : List ℕ} {ps : List Rule} (read : RulesRead b ps) where
  pub rules_count : length ps ≡ rules b
  rules_count = sym (length-map ps rule_block) ∙ ap length read.same ∙ length_listed (block b) (rules b)

  block_front : (r : ℕ) → r < rules b → block_at ps r ≡ block b r
  block_front r l = ap (λ (xs : List (List ℕ)). get_or xs r []) read.same ∙ getD_listed (block b) (rules b) r [] l

  -- Row 14, from the first rule that misuses the goal.
  module _ (goal : ℕ) (g : goal ≡ terminals b) where
    none_misused : (k : ℕ) → NoneOf 0 k (λ r. GoalMisused goal r (block_at ps r)) → (q : ℕ) → q < k → Breach b 14 q → ⊥
    none_misused k f q l (goal_rule i x) =
        f q (omega arith) l (subst₂ (λ (y : ℕ) (z : List ℕ). GoalMisused y q z) (sym g) (sym (block_front q i)) x)

    pub goal_fault : (k : ℕ) → FirstOf 0 (length ps) (λ r. GoalMisused goal r (block_at ps r)) (Some k) → First b 14 k
    goal_fault k (z, l, x, f) =
        let i : k < rules b = omega (arith, rules_count) in
        record {
          applies = goal_rule i (subst₂ (λ (y : ℕ) (z : List ℕ). GoalMisused y k z) g (block_front k i) x);
          before = clean_to k read.clean (none_misused k f);
        }

    pub goal_clean : FirstOf 0 (length ps) (λ r. GoalMisused goal r (block_at ps r)) None → Clean b 15
    goal_clean f = clean_row {n = 14} (length ps) (clean_to (length ps) read.clean (none_misused (length ps) f)) past
      where
        past : (q : ℕ) → length ps ≤ q → Breach b 14 q → ⊥
        past q l (goal_rule i x) = omega (arith, rules_count)

  -- The rules as they are held stand for those that the bytes say.
  rules_same : map rewriting ps ≡ rules_of b
  rules_same =
      sym (listed_is (λ r. rule_of (block b r)) (map rewriting ps) (rules b) (record { left = 0; right = [] }) (length-map ps rewriting ∙ rules_count)
      (λ r l.
      let h : r < length ps = omega (arith, rules_count) in
      ap rule_of (sym (block_front r l) ∙ block_of_rule ps r h) ∙ said (rule_at ps r)))

  pub grammar_same : (T N : ℕ) → T ≡ terminals b → N ≡ nonterminals b → grammar_from T N ps ≡ grammar_of b
  grammar_same T N t s = cc (t, s, rules_same)

  -- Row 17, from the first nonterminal that derives no list of terminals.
  module _ (T N : ℕ) (t : T ≡ terminals b) (s : N ≡ nonterminals b) (c : Clean b 17) where
    none_unproductive : (k : ℕ) → NoneOf T k (λ X. Productive (grammar_from T N ps) X → ⊥) → (q : ℕ) → q < k → Breach b 17 q → ⊥
    none_unproductive k f q l (unproductive i x) =
        f q (omega (arith, i.low)) l (λ p. x (subst (λ (g : Grammar). Productive g q) (grammar_same T N t s) p))

    pub unproductive_fault : (k : ℕ) → FirstOf T (T + N) (λ X. Productive (grammar_from T N ps) X → ⊥) (Some k) → First b 17 k
    unproductive_fault k (z, l, x, f) =
        record {
          applies = unproductive (record { low = omega arith; high = omega arith }) (λ p. x (subst (λ (g : Grammar). Productive g k) (sym (grammar_same T N t s)) p));
          before = clean_to k c (none_unproductive k f);
        }

    pub productive_clean : FirstOf T (T + N) (λ X. Productive (grammar_from T N ps) X → ⊥) None → Clean b 18
    productive_clean f = clean_row {n = 17} (T + N) (clean_to (T + N) c (none_unproductive (T + N) f)) past
      where
        past : (q : ℕ) → T + N ≤ q → Breach b 17 q → ⊥
        past q l (unproductive i x) = omega (arith, i.high)

module _ {b : List ℕ} {ws : List (Few ℕ 12)} (read : SpellingsRead b ws) where
  pub words_count : length ws ≡ terminals b
  words_count = sym (length-map ws items) ∙ ap length read.same ∙ length_listed (spelling b) (terminals b)

  word_front : (t : ℕ) → t < terminals b → get_or (words ws) t [] ≡ spelling b t
  word_front t l = ap (λ (xs : List (List ℕ)). get_or xs t []) read.same ∙ getD_listed (spelling b) (terminals b) t [] l

  -- Row 16, from the first terminal that is spelled like an earlier one.
  none_repeated : (k : ℕ) → NoneOf 0 k (Repeated (words ws)) → (q : ℕ) → q < k → Breach b 16 q → ⊥
  none_repeated k f q l (repeated u i j x) =
      f q (omega arith) l (u, i, word_front u (omega arith) ∙ x ∙ sym (word_front q j))

  pub repeated_fault : (k : ℕ) → FirstOf 0 (length ws) (Repeated (words ws)) (Some k) → First b 16 k
  repeated_fault k (z, l, (u, i, x), f) =
      let j : k < terminals b = omega (arith, words_count) in
      record {
        applies = repeated u i j (sym (word_front u (omega arith)) ∙ x ∙ word_front k j);
        before = clean_to k read.clean (none_repeated k f);
      }

  pub repeated_clean : FirstOf 0 (length ws) (Repeated (words ws)) None → Clean b 17
  repeated_clean f = clean_row {n = 16} (length ws) (clean_to (length ws) read.clean (none_repeated (length ws) f)) past
    where
      past : (q : ℕ) → length ws ≤ q → Breach b 16 q → ⊥
      past q l (repeated u i j x) = omega (arith, words_count)

-- The sheet of what is held is the one that the bytes say.
pub sheet_same : {b : List ℕ} {h : Header} {ps : List Rule} {ws : List (Few ℕ 12)} → Headed b h → RulesRead b ps → SpellingsRead b ws
    → sheet_from (length ws) h.nonterminals ps ws ≡ sheet_of b
sheet_same {b} {h} {ps} {ws} head rs ss = cc (grammar_same rs (length ws) h.nonterminals (words_count ss) head.nonterminals_are, ss.same)

-- Where every nonterminal derives some list of terminals, no row applies: what is held keeps the rules, and its sheet has the bytes.
pub all_kept : {b : List ℕ} {p : Parts} → Bytes b → PartsRead b p
    → FirstOf p.header.terminals (p.header.terminals + p.header.nonterminals)
    (λ X. Productive (grammar_from p.header.terminals p.header.nonterminals (items p.rules)) X → ⊥) None
    → Keeps (sheet_from p.spellings.count p.header.nonterminals (items p.rules) (items p.spellings))
    × (sheet_bytes (sheet_from p.spellings.count p.header.nonterminals (items p.rules) (items p.spellings)) ≡ b)
all_kept {b} {p} bytes read f =
    let head = read.headed in
    let same : sheet_from p.spellings.count p.header.nonterminals (items p.rules) (items p.spellings) ≡ sheet_of b =
    ap (λ (T : ℕ). sheet_from T p.header.nonterminals (items p.rules) (items p.spellings)) (sym (count_items p.spellings))
    ∙ sheet_same head read.rules_read read.spellings_read
    in
    subst (λ (s : Sheet). Keeps s × (sheet_bytes s ≡ b)) (sym same)
    (sufficiency b bytes
    (productive_clean read.rules_read p.header.terminals p.header.nonterminals head.terminals_are head.nonterminals_are read.clean f))

-- A fault that is the first of some bytes shows that they are no sheet.
pub refused : (b : List ℕ) (f : GrammarFault) → FirstFault b f → Refused b f
refused b f first = record { first = first; never = breach_never first.applies }
