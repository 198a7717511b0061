-- Clean bytes are the bytes of the sheet that they say.
use Rattle.std.proofs.Common.{◌≡◌, ℕ, suc, ◌+◌, ◌<◌, List, ◌++◌, length, drop, sym, ap, ◌∙◌, append-nil, add-one, arith, length-append, length-drop}
use Rattle.parsing.specs.Grammar.{rule_count}
use Rattle.grammar_format.specs.Sheets.{rules_bytes, spellings_bytes, rule_bytes, spelling_bytes, rules_end, sheet_bytes}
use Rattle.grammar_format.specs.Fields.{number, terminals, rules, block, rule_of, remains, spelling, grammar_of, sheet_of}
use Rattle.grammar_format.specs.Breaches.{Clean}
use Rattle.grammar_format.specs.Statements.{Bytes}
use Rattle.grammar_format.proofs.Listed.{joined_listed}
use Rattle.grammar_format.proofs.Numbers.{six, six_drop}
use Rattle.grammar_format.proofs.Cleaning.{clean_headed, clean_rule, clean_uncut, clean_end}
use Rattle.grammar_format.proofs.Rules.{block_drop, length_block, rule_bytes_of}
use Rattle.grammar_format.proofs.Spellings.{remains_none, remains_drop}
use Rattle.grammar_format.proofs.Reading.{rule_count_of}

module _ {b : List ℕ} (c : Clean b 18) where
  -- Each block is the bytes of its rule.
  pub block_is : (r : ℕ) → r < rules b → rule_bytes (rule_of (block b r)) ≡ block b r
  block_is r h =
      rule_bytes_of (block b r) (length_block b r (omega (arith, (clean_headed c).fits))) (clean_rule c r h)

  -- All rules, and all spellings.
  pub rules_are : rules_bytes (sheet_of b) ++ drop (rules_end (rules b)) b ≡ drop 12 b
  rules_are =
      joined_listed rule_bytes (λ r. rule_of (block b r)) (λ r. drop (rules_end r) b) (rules b)
      (λ r h. ap (λ x. x ++ drop (rules_end (suc r)) b) (block_is r h) ∙ rw (← add-one r) (block_drop b r))

  pub spellings_are : spellings_bytes (sheet_of b) ≡ drop (rules_end (rules b)) b
  spellings_are =
      sym (append-nil (spellings_bytes (sheet_of b)))
      ∙ (ap (λ x. spellings_bytes (sheet_of b) ++ x) (sym (clean_end c))
      ∙ (joined_listed spelling_bytes (spelling b) (remains b) (terminals b) (λ t h. remains_drop b t (clean_uncut c t h))
      ∙ remains_none b))

  pub body_is : rules_bytes (sheet_of b) ++ spellings_bytes (sheet_of b) ≡ drop 12 b
  body_is = rw spellings_are rules_are

  pub sheet_bytes_of : Bytes b → sheet_bytes (sheet_of b) ≡ b
  unfolding sheet_bytes
  sheet_bytes_of s =
      header (12 + (length (rules_bytes (sheet_of b)) + length (spellings_bytes (sheet_of b)))) (rule_count (grammar_of b)) 12 (rules_end (rule_count (grammar_of b)))
      (omega (arith, clean_headed c, length-append (rules_bytes (sheet_of b)) (spellings_bytes (sheet_of b)), ap length body_is, length-drop 12 b))
      (rule_count_of b)
      (sym (clean_headed c).rules_at)
      (omega (arith, rule_count_of b, (clean_headed c).spellings_at))
      ∙ six_drop b s (clean_headed c).twelve
    where
      header : (n₀ n₃ n₄ n₅ : ℕ) → n₀ ≡ number b 0 → n₃ ≡ number b 6 → n₄ ≡ number b 8 → n₅ ≡ number b 10
          → six n₀ (number b 2) (number b 4) n₃ n₄ n₅ ++ (rules_bytes (sheet_of b) ++ spellings_bytes (sheet_of b))
          ≡ six (number b 0) (number b 2) (number b 4) (number b 6) (number b 8) (number b 10) ++ drop 12 b
      header n₀ n₃ n₄ n₅ e₀ e₃ e₄ e₅ = rw (e₀, e₃, e₄, e₅, body_is)
