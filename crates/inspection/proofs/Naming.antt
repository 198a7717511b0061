-- Which name a symbol has, case by case.
use Rattle.std.proofs.Common.{◌≡◌, ℕ, ◌<◌, ◌≤◌, ◌≢◌, ◌++◌, codes, decimal, arith}
use Rattle.std.proofs.lemmas.Bool.Decides.{nat_tests}
use Rattle.parsing.specs.Grammar.{start}
use Rattle.grammar_format.specs.Sheets.{Sheet}
use Rattle.grammar_format.specs.Keeping.{spelling_of}
use Rattle.inspection.specs.Names.{symbol_name}

pub named_amount : (s : Sheet) (x : ℕ) → x ≡ 0 → symbol_name s x ≡ codes "amount"
unfolding symbol_name
named_amount s x h = grind (arith, nat_tests)

pub named_word : (s : Sheet) (x : ℕ) → x ≢ 0 → x < s.grammar.terminals → symbol_name s x ≡ spelling_of s x
unfolding symbol_name
named_word s x n h = grind (arith, nat_tests)

pub named_goal : (s : Sheet) (x : ℕ) → x ≢ 0 → x ≡ s.grammar.terminals → symbol_name s x ≡ codes "goal"
unfolding symbol_name
named_goal s x n h = grind (arith, nat_tests)

pub named_start : (s : Sheet) (x : ℕ) → x ≢ 0 → s.grammar.terminals ≤ x → x ≢ s.grammar.terminals → x ≡ start s.grammar
    → symbol_name s x ≡ codes "start"
unfolding symbol_name
named_start s x n h g e = grind (arith, nat_tests)

pub named_other : (s : Sheet) (x : ℕ) → x ≢ 0 → s.grammar.terminals ≤ x → x ≢ s.grammar.terminals → x ≢ start s.grammar
    → symbol_name s x ≡ codes "part-" ++ decimal x
unfolding symbol_name
named_other s x n h g e = grind (arith, nat_tests)
