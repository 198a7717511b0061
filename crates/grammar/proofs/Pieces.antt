-- The bytes of a grammar's sheet, read off what it holds.
use Rattle.std.proofs.Common.{◌≡◌, ℕ, ◌+◌, ◌-◌, ◌*◌, ◌≤◌, List, [], ◌∷◌, ◌++◌, length, get_or, take, drop, replicate, sum_by, sym, ap, ◌∙◌, subst, ap₂, append_assoc, arith}
use Rattle.std.specs.List.{flat_map}
use Rattle.std.proofs.lemmas.List.{length-take-le, length-replicate, take_at, drop_at, length-append}
use Rattle.std.proofs.lemmas.List.Concat.{length-flat_map}
use Rattle.parsing.specs.Grammar.{rule_count}
use Rattle.grammar_format.specs.Sheets.{sheet_bytes, rule_bytes, rules_bytes, spelling_bytes, spellings_bytes, rules_end, wide, header_bytes}
use Rattle.grammar_format.proofs.Decoding as decoding
use Rattle.grammar_format.proofs.Listed.{length_joined}
use Rattle.grammar_format.proofs.Sizes.{sheet_bytes_few}
use Rattle.grammar.specs.Holding.{rule_block, rewriting, spelling_piece}
use Rattle.grammar.specs.Lists.{items}
use Rattle.grammar.specs.Meaning.{meaning, sheet}
use Rattle.grammar.specs.Writing.{Put, Writes}
use Rattle.grammar.specs.declared.grammar.Grammar.{Grammar}
use Rattle.grammar.specs.declared.rule.Rule.{Rule}
use Rattle.grammar.proofs.Held.{held}
use Rattle.grammar.proofs.Lists.{count_items}
use Rattle.grammar.proofs.Putting.{put_more, joined_map}

-- A rule has nine bytes.
pub block_size : (p : Rule) → length (rule_block p) ≡ 9
block_size p =
    let n = length (items p.right) in
    let few : n ≤ 7 = omega (arith, count_items p.right, p.right.few) in
    omega (arith, length-append (items p.right) (replicate (7 - n) 255), length-replicate {A = ℕ} (7 - n) 255)

pub blocks_size : (ps : List Rule) (r : ℕ) (d : Rule) → r ≤ length ps → length (flat_map rule_block (take r ps)) ≡ 9 * r
blocks_size ps r d h =
    length_joined rule_block 9 d (take r ps) (λ k l. block_size (get_or (take r ps) k d)) ∙ ap (λ (n : ℕ). 9 * n) (length-take-le r ps h)

module _ (g : Grammar) where
  pub rules_are : rules_bytes (sheet g) ≡ flat_map rule_block (items g.rules)
  rules_are = joined_map rule_bytes rewriting (items g.rules)

  pub spellings_are : spellings_bytes (sheet g) ≡ flat_map spelling_piece (items g.spellings)
  spellings_are = joined_map spelling_bytes items (items g.spellings)

  pub rules_size : length (rules_bytes (sheet g)) ≡ 9 * rule_count (meaning g)
  rules_size = decoding.length_rules_bytes (held g).kept

  -- The length of the sheet.
  pub size_is : length (sheet_bytes (sheet g)) ≡ 12 + 9 * rule_count (meaning g) + sum_by (λ w. length (spelling_piece w)) (items g.spellings)
  size_is =
      let a = decoding.length_sheet_bytes (sheet g) in
      let b = rules_size in
      let c : length (spellings_bytes (sheet g)) ≡ sum_by (λ w. length (spelling_piece w)) (items g.spellings) =
      ap length spellings_are ∙ length-flat_map spelling_piece (items g.spellings)
      in
      omega arith

  pub size_few : length (sheet_bytes (sheet g)) ≤ 1108
  size_few = sheet_bytes_few (held g).kept

  pub sheet_is : (header_bytes (sheet g) ++ rules_bytes (sheet g)) ++ spellings_bytes (sheet g) ≡ sheet_bytes (sheet g)
  unfolding sheet_bytes
  sheet_is = append_assoc (header_bytes (sheet g)) (rules_bytes (sheet g)) (spellings_bytes (sheet g))

  -- The header, the rules and the spellings, put one behind another into a room that is long enough, are the sheet.
  module _ {a t s r z : ℕ} (size : a ≡ length (sheet_bytes (sheet g))) (ts : t ≡ (meaning g).terminals) (ss : s ≡ (meaning g).nonterminals)
      (rs : r ≡ rule_count (meaning g)) (zs : z ≡ rules_end (rule_count (meaning g))) where
    numbers_are : flat_map wide (a ∷ (t ∷ (s ∷ (r ∷ (12 ∷ (z ∷ [])))))) ≡ header_bytes (sheet g)
    numbers_are =
        ap₂ (λ (x y : ℕ). flat_map wide (a ∷ (x ∷ (y ∷ (r ∷ (12 ∷ (z ∷ []))))))) ts ss
        ∙ ap₂ (λ (k m : ℕ). flat_map wide (k ∷ ((meaning g).terminals ∷ ((meaning g).nonterminals ∷ (m ∷ (12 ∷ (z ∷ [])))))))
        (size ∙ decoding.length_sheet_bytes (sheet g)) rs
        ∙ ap (λ (k : ℕ). flat_map wide ((12 + (length (rules_bytes (sheet g)) + length (spellings_bytes (sheet g)))) ∷ ((meaning g).terminals ∷ ((meaning g).nonterminals ∷ (rule_count (meaning g) ∷ (12 ∷ (k ∷ []))))))) zs

    pub written : (old one two new head : List ℕ) → a ≤ length old → head ≡ flat_map wide (a ∷ (t ∷ (s ∷ (r ∷ (12 ∷ (z ∷ []))))))
        → Put old 0 head one → Put one 12 (rules_bytes (sheet g)) two → Put two z (spellings_bytes (sheet g)) new
        → Writes (sheet_bytes (sheet g)) old new a
    written old one two new head h e p q w =
        let X = sheet_bytes (sheet g) in
        let H = header_bytes (sheet g) in
        let R = rules_bytes (sheet g) in
        let S = spellings_bytes (sheet g) in
        let D = drop (0 + length X) old in
        let first : Put old 0 H one = subst (λ (xs : List ℕ). Put old 0 xs one) (e ∙ numbers_are) p in
        let second : Put old 0 (H ++ R) two = put_more old one two H R 0 (omega arith) first q in
        let at : z ≡ 0 + length (H ++ R) = omega (arith, length-append H R, rules_size) in
        let third : Put old 0 ((H ++ R) ++ S) new = put_more old two new (H ++ R) S 0 (omega arith) second (subst (λ (k : ℕ). Put two k S new) at w) in
        let whole : new ≡ X ++ D = subst (λ (xs : List ℕ). Put old 0 xs new) sheet_is third in
        let end : 0 + length X ≡ a = omega arith in
        record {
          need = size;
          room = h;
          front = ap (take a) whole ∙ take_at X D a (sym size);
          past = ap (drop a) whole ∙ drop_at X D a (sym size) ∙ ap (λ (k : ℕ). drop k old) end;
        }
