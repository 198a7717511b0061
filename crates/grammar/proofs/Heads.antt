-- The rows of the header: what has passed leaves no breach there.
use Rattle.std.proofs.Common.{◌≡◌, ℕ, List, length, get_or, sym, ◌∙◌, inl, inr, arith}
use Rattle.grammar_format.specs.Breaches.{Breach, Clean, First, few_terminals, many_terminals, few_nonterminals, many_nonterminals, few_rules, many_rules}
use Rattle.grammar_format.proofs.Cleaning.{clean_start, clean_row, row_10, row_11, row_12}
use Rattle.sheet_head.specs.Heads.{Tells}
use Rattle.grammar.specs.Heads.{Long, Outside, Counted, Placed}

pub clean_long : (b : List ℕ) → Long b → Clean b 11
clean_long b l = clean_row {n = 10} 0 (clean_start b) (λ q h. row_10 b l.head l.whole q)

pub clean_counted : (b : List ℕ) → Long b → Counted b → Clean b 12
clean_counted b l c =
    clean_row {n = 11} 0 (clean_long b l)
    (λ q h. row_11 b c.some_terminals c.few_terminals c.some_nonterminals c.few_nonterminals c.some_rules c.few_rules q)

pub clean_placed : (b : List ℕ) → Long b → Counted b → Placed b → Clean b 13
clean_placed b l c p =
    clean_row {n = 12} 0 (clean_counted b l c) (λ q h. row_12 b p.rules_at p.spellings_at p.fit q)

-- The six numbers of the head, of which the first is the whole length.
module _ {b ns : List ℕ} (t : Tells b ns) (w : get_or ns 0 0 ≡ length b) where
  pub long_told : Long b
  long_told = record { head = t.head; whole = sym t.first ∙ w }

  count_fault : Breach b 11 0 → First b 11 0
  count_fault x = record { applies = x; before = clean_long b long_told }

  -- A count outside its range is a breach.
  pub terminals_fault : Outside (get_or ns 1 0) 1 40 → First b 11 0
  terminals_fault (inl h) = count_fault (few_terminals (omega (arith, t.second)))
  terminals_fault (inr h) = count_fault (many_terminals (omega (arith, t.second)))

  pub nonterminals_fault : Outside (get_or ns 2 0) 2 24 → First b 11 0
  nonterminals_fault (inl h) = count_fault (few_nonterminals (omega (arith, t.third)))
  nonterminals_fault (inr h) = count_fault (many_nonterminals (omega (arith, t.third)))

  pub rules_fault : Outside (get_or ns 3 0) 2 64 → First b 11 0
  rules_fault (inl h) = count_fault (few_rules (omega (arith, t.fourth)))
  rules_fault (inr h) = count_fault (many_rules (omega (arith, t.fourth)))

  pub offset_fault : Counted b → Breach b 12 0 → First b 12 0
  offset_fault c x = record { applies = x; before = clean_counted b long_told c }
