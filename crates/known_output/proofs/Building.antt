-- An automaton whose states are numbered as the walk meets them is what is built of its grammar.
use Rattle.std.proofs.Common.{◌≡◌, ℕ, ◌<◌, ◌≤◌, Bool, true, false, cond, eqb, List, [], map, get_or, Some, None, Option, sym, refl, ap, ◌∙◌, subst, inl, inr, ⊎_elim, arith}
use Rattle.std.proofs.lemmas.Bool.{eqb-true}
use Rattle.std.proofs.lemmas.List.{get_or-map}
use Rattle.parsing.specs.Grammar.{Grammar}
use Rattle.parsing.specs.Rows.{has}
use Rattle.grammar_format.specs.Fields.{listed}
use Rattle.grammar_format.proofs.Listed.{getD_listed, listed_same}
use Rattle.table_format.specs.ItemSets.{Items, symbols, FirstRow, NoStep, StepTo, ItemSet}
use Rattle.table_format.specs.Tables.{Table, Matches, Alike, wanted_mark}
use Rattle.table_format.specs.Walks.{Known, Walked, state_at}
use Rattle.table_format.proofs.Alike.{matches_alike, walked_alike}
use Rattle.table_format.proofs.Once.{source_same}
use Rattle.table_format.proofs.Passing.{matches_ranged}
use Rattle.table_format.proofs.Progress.{kept}
use Rattle.rows.specs.declared.row.Row.{Row}
use Rattle.built_states.specs.Built.{row_items, entry, step_byte as byte_of, built_table, known_rows, Built}
use Rattle.built_states.specs.Once.{built_source}
use Rattle.known.specs.Automata.{Automaton, states, row_bytes, row, step_byte, table, source, known_states, InOrder}

-- Rows that are the same for each state match alike.
matches_rows : {g : Grammar} {t : Table} {rows vs : ℕ → Items} → ((s : ℕ) → s < t.states → rows s ≡ vs s) → Matches g t rows → Matches g t vs
matches_rows {g} {t} {rows} {vs} same m = record {
  item_sets = λ s h. subst (λ (w : Items). ∥ ItemSet g w ∥₁) (same s h) (m.item_sets s h);
  one-to-one = λ s u h l e. m.one-to-one s u h l (same s h ∙ (e ∙ sym (same u l)));
  onto = λ w i. let (s, h, e) = m.onto w i in (s, h, sym (same s h) ∙ e);
  zero_first = subst (FirstRow g) (same 0 (let (s, h, e) = m.onto (rows 0) (ItemSet.first m.zero_first) in omega arith)) m.zero_first;
  steps = λ s X h x.
      ⊎_elim
      (λ a. inl (a.0, subst (λ (w : Items). NoStep g w X) (same s h) a.1))
      (λ a.
      inr (
        a.0,
        subst (λ (w : Items). StepTo g w X (vs (t.step s X))) (same s h)
            (subst (λ (w : Items). StepTo g (rows s) X w) (same (t.step s X) a.0) a.1),
      ))
      (m.steps s X h x);
  marks = λ s r h l. m.marks s r h l ∙ ap (λ (w : Items). wanted_mark g w r) (same s h);
}

abbrev step_or_none : ℕ → Option ℕ
step_or_none b = cond (eqb b 255) None (Some b)

byte_again : (b : ℕ) → byte_of (step_or_none b) ≡ b
byte_again b = go (eqb b 255) refl
  where
    go : (c : Bool) → eqb b 255 ≡ c → byte_of (cond c None (Some b)) ≡ b
    go true e = sym (eqb-true b 255 e)
    go false e = refl

module _ (a : Automaton) where
  abbrev g : Grammar
  g = a.grammar

  abbrev whole_row : List ℕ → Row
  whole_row w = record { items = row_bytes w }

  abbrev pub built_rows : List Row
  built_rows = map whole_row a.rows

  abbrev entries : ℕ → List (Option ℕ)
  entries s = listed (λ X. step_or_none (step_byte a.steps s X)) (symbols g)

  abbrev pub built_steps : List (List (Option ℕ))
  built_steps = listed entries (states a)

  abbrev built : Table
  built = built_table g (states a) built_rows built_steps

  row_same : (s : ℕ) → s < states a → row_items built_rows s ≡ row a s
  row_same s h = ap {B = Items} (λ (w : Row). has w.items) (get_or-map whole_row a.rows s [] (record { items = [] }) h)

  step_same : (s X : ℕ) → s < states a → X < symbols g → byte_of (entry built_steps s X) ≡ step_byte a.steps s X
  step_same s X h x =
      ap (λ (es : List (Option ℕ)). byte_of (get_or es X None)) (getD_listed entries (states a) s [] h)
      ∙ (ap byte_of (getD_listed (λ X. step_or_none (step_byte a.steps s X)) (symbols g) X None x) ∙ byte_again (step_byte a.steps s X))

  alike : Alike g built (table a)
  alike = record {
    states_are = refl;
    steps_are = λ s X h x. step_same s X h x;
    marks_are = λ s r h l. ap (λ (w : Items). wanted_mark g w r) (row_same s h);
  }

  known_same : known_rows (states a) built_rows ≡ known_states a
  unfolding known_rows
  known_same = listed_same _ _ (states a) (λ k h. ap (λ (w : Items). record { state = k; row = w }) (row_same k h))

  module _ (few : states a ≤ 255) (m : Matches g (table a) (row a)) (walk : InOrder a) where
    walked : Walked g built (known_rows (states a) built_rows) (states a) 0 0
    walked =
        let w = walk.walked in
        let k = kept (matches_ranged few m) w in
        subst (λ (ks : List Known). Walked g built ks (states a) 0 0) (sym known_same)
        (walked_alike
        (record {
          steps_are = λ j y h x d. step_same (state_at (known_states a) j) y (k.state_in j h) x;
          marks_are = λ j q h l d. ap (λ (v : Items). wanted_mark g v q) (row_same (state_at (known_states a) j) (k.state_in j h));
        })
        w)

    pub it_is_built : Built g (states a) built_rows built_steps
    it_is_built = record {
      some = (matches_ranged few m).some_states;
      few = few;
      matched = matches_rows (λ s h. sym (row_same s h)) (matches_alike alike m);
      in_order = walked;
    }

  pub one_source : built_source g (states a) built_rows built_steps ≡ source a
  one_source = source_same alike row_same
