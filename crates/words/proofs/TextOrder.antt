-- The words of a text are sound, stand in order, and say what their bytes are.
use Rattle.std.proofs.Common.{◌≡◌, ℕ, ◌<◌, ◌≤◌, List, [], ◌∷◌, map, length, Ok, Err, Result, sym, ap, ◌∙◌, subst, arith, MatchResult}
use Rattle.std.specs.List.{AllByRecursion}
use Rattle.std.proofs.ByRecursion.{All-weaker}
use Rattle.grammar_format.specs.Sheets.{Sheet}
use Rattle.grammar.specs.declared.refusal.Refusal.{Refusal}
use Rattle.words.specs.Faithful.{Spells, Unspelled, Blames, Faithful}
use Rattle.words.specs.Faithful.Blames.{unknown, long}
use Rattle.words.specs.Places.{part, Spot, Sound, Orderly}
use Rattle.words.specs.Runs.{Run, run_end, runs}
use Rattle.words.specs.Texts.{all_digits, said, text_coming}
use Rattle.words.specs.declared.word.Word.{Word}
use Rattle.words.proofs.Saying.{WordOf, FaultOf, unspelled, too_long, said_right}
use Rattle.words.proofs.Standing.{Standing, InRow, runs_in_row}
use Rattle.words.proofs.Telling.{Row, told_in_order, told_words, told_fault}

module _ (s : Sheet) (some : 1 ≤ s.grammar.terminals) (one_each : length s.spellings ≡ s.grammar.terminals) (text : List ℕ) where
  -- The run stands at these places.
  spot : (i p q : ℕ) (r : Run) → Standing text i r → p ≡ r.from → q ≡ run_end r → Spot (length text) i p q
  spot i p q r h e f = record { behind = omega (arith, h.behind); some = omega (arith, h.some); within = omega (arith, h.within) }

  there : (i p q : ℕ) (r : Run) → Standing text i r → p ≡ r.from → q ≡ run_end r → r.bytes ≡ part text p q
  there i p q r h e f = h.there ∙ (λ k. part text (sym e k) (sym f k))

  in_row : (i : ℕ) (r : Run) (a : Result Word Refusal) (rs : List (Result Word Refusal)) → Standing text i r → MatchResult a (WordOf s some one_each r) (FaultOf s some one_each r) → Row (length text) (run_end r) rs → Row (length text) i (a ∷ rs)
  in_row i r (Ok w) rs h k t = (spot i w.from w.to r h k.from_is k.to_is, subst (λ j. Row (length text) j rs) (sym k.to_is) t)
  in_row i r (Err x) rs h (unspelled e d n) t = spot i x.first x.second r h (ap (λ y. y.first) e) (ap (λ y. y.second) e)
  in_row i r (Err x) rs h (too_long e d n) t = spot i x.first x.second r h (ap (λ y. y.first) e) (ap (λ y. y.second) e)

  rows : (i : ℕ) (rs : List Run) → InRow text i rs → Row (length text) i (map (said s) rs)
  rows i [] h = tt
  rows i (r ∷ rs) h = in_row i r (said s r) (map (said s) rs) h.0 (said_right s some one_each r) (rows (run_end r) rs h.1)

  -- What a word and a refusal are.
  abbrev Right : Word → Type 0
  Right w = Sound s.grammar.terminals w × Spells s w (part text w.from w.to)

  abbrev Wrong : Refusal → Type 0
  Wrong x = Blames s text x

  right : (i : ℕ) (r : Run) (a : Result Word Refusal) → Standing text i r → MatchResult a (WordOf s some one_each r) (FaultOf s some one_each r) → MatchResult a Right Wrong
  right i r (Ok w) h k = (k.sound, subst (Spells s w) (there i w.from w.to r h k.from_is k.to_is) k.spells)
  right i r (Err x) h (unspelled e d n) = unknown r.from (run_end r) e (sym (ap all_digits h.there) ∙ d) (subst (Unspelled s) h.there n)
  right i r (Err x) h (too_long e d n) = long r.from (run_end r) e (sym (ap all_digits h.there) ∙ d) (subst (λ bs. 5 < length bs) h.there n)

  rights : (i : ℕ) (rs : List Run) → InRow text i rs → AllByRecursion (λ a. MatchResult a Right Wrong) (map (said s) rs)
  rights i [] h = tt
  rights i (r ∷ rs) h = (right i r (said s r) h.0 (said_right s some one_each r), rights (run_end r) rs h.1)

  whole : AllByRecursion (λ a. MatchResult a Right Wrong) (map (said s) (runs 0 text))
  whole = rights 0 (runs 0 text) (runs_in_row text)

  pub text_orderly : Orderly s.grammar.terminals (length text) (text_coming s 0 text)
  text_orderly = record {
    sound = All-weaker Right (Sound s.grammar.terminals) (λ w h. h.0) (text_coming s 0 text).words (told_words Right Wrong (map (said s) (runs 0 text)) whole);
    placed = told_in_order (length text) 0 (map (said s) (runs 0 text)) (rows 0 (runs 0 text) (runs_in_row text));
  }

  pub text_faithful : Faithful s text (text_coming s 0 text)
  text_faithful = record {
    spelled = All-weaker Right (λ w. Spells s w (part text w.from w.to)) (λ w h. h.1) (text_coming s 0 text).words (told_words Right Wrong (map (said s) (runs 0 text)) whole);
    blamed = told_fault Right Wrong (map (said s) (runs 0 text)) whole;
  }
