-- Grammar sheets: what one holds, and its bytes.
--   Sheet              a grammar, and the spelling of each of its terminals
--   wide n             a number of 16 bits: its high byte, then its low byte
--   rule_bytes p       a rule: its left symbol, its length, seven right symbols, those past the length being 255
--   spelling_bytes w   a spelling: its length, then its bytes
--   sheet_bytes s      the whole sheet: the header, the rules, the spellings
use Rattle.std.specs.Prelude.{ℕ, ◌+◌, ◌-◌, ◌*◌, ◌/◌, ◌%◌, List, [], ◌∷◌, ◌++◌, length, replicate}
use Rattle.std.specs.List.{flat_map}
use Rattle.parsing.specs.Grammar.{Grammar, Rule, rule_count}

pub record Sheet : Type 0 where
  pub grammar : Grammar
  pub spellings : List (List ℕ)

abbrev pub wide : ℕ → List ℕ
wide n = n / 256 ∷ (n % 256 ∷ [])

abbrev pub rule_bytes : Rule → List ℕ
rule_bytes p = p.left ∷ (length p.right ∷ (p.right ++ replicate (7 - length p.right) 255))

abbrev pub spelling_bytes : List ℕ → List ℕ
spelling_bytes w = length w ∷ w

-- The rules, one after another, and the spellings.
abbrev pub rules_bytes : Sheet → List ℕ
rules_bytes s = flat_map rule_bytes s.grammar.rules

abbrev pub spellings_bytes : Sheet → List ℕ
spellings_bytes s = flat_map spelling_bytes s.spellings

-- The offset at which the spellings begin.
abbrev pub rules_end : ℕ → ℕ
rules_end n = 12 + 9 * n

-- Six numbers: the whole length; how many terminals, nonterminals and rules; the offsets of the rules and of the spellings.
abbrev pub header_bytes : Sheet → List ℕ
header_bytes s =
    wide (12 + (length (rules_bytes s) + length (spellings_bytes s)))
    ++ (wide s.grammar.terminals
    ++ (wide s.grammar.nonterminals
    ++ (wide (rule_count s.grammar)
    ++ (wide 12 ++ wide (rules_end (rule_count s.grammar))))))

unfoldable pub sheet_bytes : Sheet → List ℕ
sheet_bytes s = header_bytes s ++ (rules_bytes s ++ spellings_bytes s)
