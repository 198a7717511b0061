-- What the questions on a table answer.
use Rattle.tables.specs.Heads.{Laid}
use Rattle.std.specs.Prelude.{◌≡◌, ℕ, ◌<◌, ◌≤◌, Bool, false, ◌&&◌, ◌≢◌, Some, None, Option, MatchOption, ◌==◌, nat_lt, List}
use Rattle.std.proofs.Math.Path.{sym, ap}
use Rattle.std.proofs.Common.{refl, ◌∙◌, inl, inr, arith, subst}
use Rattle.std.proofs.lemmas.Bool.{lt-ltb, and_from, le-ltb, and_right}
use Rattle.parsing.specs.Grammar.{rule_count}
use Rattle.grammar.specs.Meaning.{meaning}
use Rattle.table_format.specs.ItemSets.{symbols}
use Rattle.table_format.specs.Tables.{source_of, answered}
use Rattle.table_format.specs.Sheets.{table_of}
use Rattle.table_format.proofs.Sheets.{form_ranged}
use Rattle.tables.specs.declared.table.Table.{Table}
use Rattle.tables.specs.Meaning.{grammar_of, bytes, source}
use Rattle.tables.specs.Held.{held, sourced}
use Rattle.tables.proofs.Answering.{states_are, laid}

module _ (t : Table) where
  pub held_laid : (xs : List ℕ) → xs ≡ bytes t → Laid xs t.header
  held_laid xs e = subst (λ ys. Laid ys t.header) (sym e) (laid (held t).formed)

  pub header_states : t.header.states ≡ (table_of (bytes t)).states
  header_states = sym (states_are (held t).formed)

  pub header_symbols : t.header.symbols ≡ symbols (meaning (grammar_of t))
  header_symbols = (held t).formed.told.symbols_are ∙ (held t).formed.form.same_symbols

  pub header_rules : t.header.rules ≡ rule_count (meaning (grammar_of t))
  header_rules = (held t).formed.told.rules_are ∙ (held t).formed.form.same_rules

  -- The questions on states.
  module _ (s : ℕ) where
    module _ (X : ℕ) where
      pub next_past_states : t.header.states ≤ s → None ≡ (source t).next s X
      unfolding source source_of
      next_past_states h = sym ((sourced t).bounded.next_outside s X (inl (omega (arith, header_states))))

      pub next_past_symbols : t.header.symbols ≤ X → None ≡ (source t).next s X
      unfolding source source_of
      next_past_symbols h = sym ((sourced t).bounded.next_outside s X (inr (omega (arith, header_symbols))))

      module _ (b : ℕ) (h : s < t.header.states) (x : X < t.header.symbols) (e : b ≡ (table_of (bytes t)).step s X) where
        pub next_none : b ≡ 255 → None ≡ (source t).next s X
        unfolding source source_of
        next_none n =
            sym (ap (λ c. answered c ((table_of (bytes t)).step s X))
            (and_right (nat_lt s (table_of (bytes t)).states) (nat_lt X (symbols (meaning (grammar_of t))) && nat_lt ((table_of (bytes t)).step s X) 255)
            (and_right (nat_lt X (symbols (meaning (grammar_of t)))) (nat_lt ((table_of (bytes t)).step s X) 255)
            (le-ltb ((table_of (bytes t)).step s X) 255 (omega arith)))))

        pub next_some : b < 256 → b ≢ 255 → Some b ≡ (source t).next s X
        unfolding source source_of
        next_some l n =
            sym (ap (λ c. answered c ((table_of (bytes t)).step s X))
            (and_from (nat_lt s (table_of (bytes t)).states) (nat_lt X (symbols (meaning (grammar_of t))) && nat_lt ((table_of (bytes t)).step s X) 255)
            (lt-ltb s (table_of (bytes t)).states (omega (arith, header_states)))
            (and_from (nat_lt X (symbols (meaning (grammar_of t)))) (nat_lt ((table_of (bytes t)).step s X) 255)
            (lt-ltb X (symbols (meaning (grammar_of t))) (omega (arith, header_symbols)))
            (lt-ltb ((table_of (bytes t)).step s X) 255 (omega arith))))
            ∙ ap Some (sym e))

      -- The step that its byte tells.
      pub next_is : (o : Option ℕ) → s < t.header.states → X < t.header.symbols
          → MatchOption o ((table_of (bytes t)).step s X ≡ 255) (λ b. (b ≡ (table_of (bytes t)).step s X) × (b ≢ 255)) → o ≡ (source t).next s X
      next_is None h x e = next_none 255 h x (sym e) refl
      next_is (Some b) h x e =
          let l = (form_ranged (held t).formed.form).step_in s X (omega (arith, header_states)) (omega (arith, header_symbols)) (λ p. e.1 (e.0 ∙ p)) in
          next_some b h x e.0 (omega (arith, e.0, l, (form_ranged (held t).formed.form).few_states)) e.1

    module _ (r : ℕ) where
      pub done_past_states : t.header.states ≤ s → false ≡ (source t).done s r
      unfolding source source_of
      done_past_states h = sym ((sourced t).bounded.done_outside s r (inl (omega (arith, header_states))))

      pub done_past_rules : t.header.rules ≤ r → false ≡ (source t).done s r
      unfolding source source_of
      done_past_rules h = sym ((sourced t).bounded.done_outside s r (inr (omega (arith, header_rules))))

      pub done_is : (p : Bool) → s < t.header.states → r < t.header.rules → p ≡ ((table_of (bytes t)).mark s r == 1) → p ≡ (source t).done s r
      unfolding source source_of
      done_is p h q e =
          e
          ∙ sym (ap (λ c. c && (nat_lt r (rule_count (meaning (grammar_of t))) && (table_of (bytes t)).mark s r == 1))
          (lt-ltb s (table_of (bytes t)).states (omega (arith, header_states)))
          ∙ ap (λ c. c && (table_of (bytes t)).mark s r == 1)
          (lt-ltb r (rule_count (meaning (grammar_of t))) (omega (arith, header_rules))))
