-- What is printed of a recipe in the words of P.
use Rattle.std.proofs.Common.{◌≡◌, ℕ, ◌≤◌, true, List, [], length, None, sym, refl, ap, ◌∙◌, subst, arith}
use Rattle.std.specs.Fmt.{digits}
use Rattle.std.proofs.lemmas.List.{length-map}
use Rattle.parsing.specs.Grammar.{Sentence}
use Rattle.grammar_format.specs.Sheets.{Sheet}
use Rattle.table_format.specs.Tables.{source_of}
use Rattle.words.specs.Feeds.{Coming}
use Rattle.words.specs.Texts.{text_coming}
use Rattle.words.specs.Keys.{key_coming}
use Rattle.link_growth.specs.Counting.{Counts}
use Rattle.histories.specs.Forests.{Nodes, Alternatives}
use Rattle.histories.specs.Laws.{terminals_of}
use Rattle.panel.specs.Lines.{Outcome, sentence, lines}
use Rattle.panel.specs.Outcomes.{Read, Answered, yes, ByTable, supplied, built, Comes, read, TextOutcome, KeyOutcome, OneOf, Shows}
use Rattle.known.specs.Automata.{row, source}
use Rattle.known.specs.Samples.{p, p_eight}
use Rattle.known.proofs.Theorem.{p_eight_right}
use Rattle.known_output.specs.Sheets.{p_sheet, grammar_bytes, table_bytes, recipe, keys}
use Rattle.known_output.specs.Output.{printed, Prints, KnownOutput}
use Rattle.panel.proofs.Agreeing.{one_of_text, one_of_record}
use Rattle.known_output.proofs.Passing.{fits_front, eight_fit, eight_taken}
use Rattle.known_output.proofs.Sheets.{grammar_is, p_keeps, table_checked, table_form, table_matches, table_source, text_words, key_words}
use Rattle.known_output.proofs.Building.{built_rows, built_steps, one_source}
use Rattle.known_output.proofs.Theorem.{p_is_built}

abbrev outcome : Outcome
outcome = sentence 8 15 6 p_eight.alternatives

module _ (c : Coming) (words : terminals_of c.words ≡ p_eight.words) (ends : c.fault ≡ None) where
  eight : length c.words ≡ 8
  eight = sym (simp length-map refl) ∙ ap length words

  whole_read : Read (source p) c true
  whole_read = record {
    opens = fits_front [] p_eight.words (eight_fit 4096 (omega arith));
    ends = ends;
    takes = eight_taken 4096 (omega arith) c.fault ends c.words words;
  }

  pub answered : Answered (source p) c outcome
  unfolding source_of
  answered =
      let over : (P : List ℕ → Type 0) → P p_eight.words → P (terminals_of c.words) = λ P x. subst P (sym words) x in
      subst (λ n. Answered (source p) c (sentence n 15 6 p_eight.alternatives)) eight
      (yes 15 p_eight.nodes p_eight.alternatives whole_read
      (over (Sentence p.grammar) p_eight_right.sentence)
      (over (λ ws. Counts (source p) ws 15) (record { all = p_eight.links; exact = p_eight_right.links; size = refl }))
      (over (λ ws. Nodes p.grammar ws p_eight.nodes) p_eight_right.nodes)
      (omega arith)
      (over (λ ws. Alternatives p.grammar ws p_eight.alternatives) p_eight_right.alternatives)
      (omega arith))

-- By the table sheet, and by states that are built.
module _ (c : Coming) (answer : Answered (source p) c outcome) where
  by_table : ByTable p.grammar table_bytes c outcome
  by_table =
      supplied (row p) outcome (omega arith) table_checked table_form table_matches
      (subst (λ src. Answered src c outcome) (sym table_source) answer)

  by_built : ByTable p.grammar [] c outcome
  by_built =
      built 6 (built_rows p) (built_steps p) outcome refl p_is_built
      (subst (λ src. Answered src c outcome) (sym (one_source p)) answer)

-- The bytes are read as the sheet.
comes : (f : Sheet → Coming) (b xs : List ℕ) → length b ≤ 40000 → length xs ≤ 40000
    → ByTable p.grammar b (f p_sheet) outcome → Comes f grammar_bytes b xs outcome
comes f b xs l m x = read p_sheet (record { grammar = omega arith; table = l; words = m }) p_keeps grammar_is x

-- What is shown of one outcome is its lines.
text_is : lines outcome ≡ printed
unfolding digits
text_is = refl

prints : (P : List ℕ → List ℕ → List ℕ → Outcome → Type 0) → OneOf P → (b xs : List ℕ) → P grammar_bytes b xs outcome
    → Prints (P grammar_bytes b xs) printed
prints P one b xs x shown =
    let it : Shows (P grammar_bytes b xs) printed = record { outcome = outcome; so = x; text_is = sym text_is } in
    ((λ s. (one grammar_bytes b xs).1 shown printed s it), λ e. subst (Shows (P grammar_bytes b xs)) (sym e) it)

text_answer : Answered (source p) (text_coming p_sheet 0 recipe) outcome
text_answer = answered (text_coming p_sheet 0 recipe) (ap (λ c. terminals_of c.words) text_words) (ap (λ c. c.fault) text_words)

keys_answer : Answered (source p) (key_coming 3 0 keys) outcome
keys_answer = answered (key_coming 3 0 keys) (ap (λ c. terminals_of c.words) key_words) (ap (λ c. c.fault) key_words)

of_text : (b : List ℕ) → length b ≤ 40000 → ByTable p.grammar b (text_coming p_sheet 0 recipe) outcome → TextOutcome grammar_bytes b recipe outcome
of_text b l x = comes (λ s. text_coming s 0 recipe) b recipe l (omega arith) x

of_keys : (b : List ℕ) → length b ≤ 40000 → ByTable p.grammar b (key_coming 3 0 keys) outcome → KeyOutcome grammar_bytes b keys outcome
of_keys b l x = comes (λ s. key_coming s.grammar.terminals 0 keys) b keys l (omega arith) x

pub known_output : KnownOutput
known_output = record {
  read = answered;
  text = text_is;
  text_by_table = prints TextOutcome one_of_text table_bytes recipe (of_text table_bytes (omega arith) (by_table _ text_answer));
  text_by_built = prints TextOutcome one_of_text [] recipe (of_text [] (omega arith) (by_built _ text_answer));
  keys_by_table = prints KeyOutcome one_of_record table_bytes keys (of_keys table_bytes (omega arith) (by_table _ keys_answer));
  keys_by_built = prints KeyOutcome one_of_record [] keys (of_keys [] (omega arith) (by_built _ keys_answer));
}
