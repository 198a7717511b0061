-- What has been read of a sheet, and held.
--   Repeated vs t         an earlier word of vs is that at t
--   RulesRead b ps        ps are the rules of the bytes b, and no row up to 13 applies
--   SpellingsRead b ws    ws are its spellings, and no row up to 15 applies
--   PartsRead b p         all of it, and no row up to 16 applies
use Rattle.std.specs.Prelude.{◌≡◌, ℕ, ◌<◌, List, [], map, slice_index_or}
use Rattle.grammar_format.specs.Fields.{terminals, rules, block, spelling, listed}
use Rattle.grammar_format.specs.Breaches.{Clean}
use Rattle.grammar.specs.Heads.{Headed}
use Rattle.grammar.specs.Holding.{rule_block, words}
use Rattle.grammar.specs.Lists.{items}
use Rattle.grammar.specs.declared.few.Few.{Few}
use Rattle.grammar.specs.declared.parts.Parts.{Parts}
use Rattle.grammar.specs.declared.rule.Rule.{Rule}

abbrev pub Repeated : List (List ℕ) → ℕ → Type 0
Repeated vs t = (u : ℕ) × (u < t) × (slice_index_or vs u [] ≡ slice_index_or vs t [])

pub record RulesRead (b : List ℕ) (ps : List Rule) : Type 0 where
  pub same : map rule_block ps ≡ listed (block b) (rules b)
  pub clean : Clean b 14

pub record SpellingsRead (b : List ℕ) (ws : List (Few ℕ 12)) : Type 0 where
  pub same : words ws ≡ listed (spelling b) (terminals b)
  pub clean : Clean b 16

pub record PartsRead (b : List ℕ) (p : Parts) : Type 0 where
  pub headed : Headed b p.header
  pub rules_read : RulesRead b (items p.rules)
  pub spellings_read : SpellingsRead b (items p.spellings)
  pub clean : Clean b 17
