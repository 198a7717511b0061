-- What the head of a grammar sheet tells.
--   Tells b h   h has the six numbers of the head of the bytes b
use Rattle.std.specs.Prelude.{◌≡◌, ℕ, List}
use Rattle.grammar_format.specs.Fields.{number, terminals, nonterminals, rules}
use Rattle.inspection.specs.declared.fields.Header.{Header}

pub record Tells (b : List ℕ) (h : Header) : Type 0 where
  pub length_is : h.length ≡ number b 0
  pub terminals_are : h.terminals ≡ terminals b
  pub nonterminals_are : h.nonterminals ≡ nonterminals b
  pub rules_are : h.rules ≡ rules b
  pub rules_are_at : h.rules_at ≡ number b 8
  pub spellings_are_at : h.spellings_at ≡ number b 10
