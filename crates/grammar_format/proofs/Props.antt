-- A sheet keeps the rules in one way at most.
use mathlib.Core.HLevel.{⊥_prop}
use Rattle.std.proofs.Common.{ℕ, List, [], length, get_or}
use mathlib.Core.List.{is_set}
use native.Mathlib.Bridge.{le_prop}
use native.Mathlib.Nat.{ℕ_set}
use Rattle.parsing.proofs.Props.{well_formed_prop}
use Rattle.grammar_format.specs.Sheets.{Sheet}
use Rattle.grammar_format.specs.Keeping.{Letter, Spelled, Keeps, spelling_of}

pub letter_prop : (c : ℕ) → IsProp (Letter c)
letter_prop c p q = λ i. record {
  low = le_prop p.low q.low i;
  high = le_prop p.high q.high i;
  no_remark = λ e. ⊥_prop (p.no_remark e) (q.no_remark e) i;
}

pub spelled_prop : (w : List ℕ) → IsProp (Spelled w)
spelled_prop w p q = λ i. record {
  some = le_prop p.some q.some i;
  short = le_prop p.short q.short i;
  letters = λ k h. letter_prop (get_or w k 0) (p.letters k h) (q.letters k h) i;
  no_amount = λ a. ⊥_prop (p.no_amount a) (q.no_amount a) i;
}

pub keeps_prop : (s : Sheet) → IsProp (Keeps s)
keeps_prop s p q = λ i. record {
  some_terminals = le_prop p.some_terminals q.some_terminals i;
  few_terminals = le_prop p.few_terminals q.few_terminals i;
  some_nonterminals = le_prop p.some_nonterminals q.some_nonterminals i;
  few_nonterminals = le_prop p.few_nonterminals q.few_nonterminals i;
  well_formed = well_formed_prop s.grammar p.well_formed q.well_formed i;
  one_each = ℕ_set (length s.spellings) s.grammar.terminals p.one_each q.one_each i;
  amount = is_set ℕ_set (spelling_of s 0) [] p.amount q.amount i;
  spelled = λ t l h. spelled_prop (spelling_of s t) (p.spelled t l h) (q.spelled t l h) i;
  apart = λ t u l h e. ⊥_prop (p.apart t u l h e) (q.apart t u l h e) i;
}
