-- A header that passed.
--   Long b      the bytes have a header, and the length that it tells
--   Counted b   its counts are in their ranges
--   Placed b    its offsets are right, and the rules end within the bytes
--   Headed b h  all of these, and h has the counts
use Rattle.std.specs.Prelude.{◌≡◌, ℕ, ◌<◌, ◌≤◌, ◌⊎◌, List, length}
use Rattle.grammar_format.specs.Sheets.{rules_end}
use Rattle.grammar_format.specs.Fields.{number, terminals, nonterminals, rules}
use Rattle.grammar.specs.declared.header.Header.{Header}

pub record Long (b : List ℕ) : Type 0 where
  pub head : 12 ≤ length b
  pub whole : number b 0 ≡ length b

-- The number n lies outside a range.
abbrev pub Outside : ℕ → ℕ → ℕ → Type 0
Outside n low high = (n < low) ⊎ (high < n)

pub record Counted (b : List ℕ) : Type 0 where
  pub some_terminals : 1 ≤ terminals b
  pub few_terminals : terminals b ≤ 40
  pub some_nonterminals : 2 ≤ nonterminals b
  pub few_nonterminals : nonterminals b ≤ 24
  pub some_rules : 2 ≤ rules b
  pub few_rules : rules b ≤ 64

pub record Placed (b : List ℕ) : Type 0 where
  pub rules_at : number b 8 ≡ 12
  pub spellings_at : number b 10 ≡ rules_end (rules b)
  pub fit : rules_end (rules b) ≤ length b

pub record Headed (b : List ℕ) (h : Header) : Type 0 where
  pub long : Long b
  pub counted : Counted b
  pub placed : Placed b
  pub terminals_are : h.terminals ≡ terminals b
  pub nonterminals_are : h.nonterminals ≡ nonterminals b
  pub rules_are : h.rules ≡ rules b
