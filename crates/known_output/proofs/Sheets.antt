-- The sheets of P keep the rules and match its states, and the recipe says eight words.
use Rattle.std.proofs.Common.{◌≡◌, ℕ, suc, zero, ◌<◌, Bool, true, not, ◌&&◌, eqb, leb, List, [], ◌∷◌, length, get_or, None, refl, subst, arith}
use Rattle.std.proofs.lemmas.Bool.{and_parts, and_from, eq-eqb, leb-true, le-leb, not-true, both_ways}
use Rattle.parsing.specs.Grammar.{rule, lhs, rhs}
use Rattle.grammar_format.specs.Fields.{listed}
use Rattle.grammar_format.specs.Keeping.{Letter, Spelled, spelling_of, Keeps}
use Rattle.grammar_format.specs.Sheets.{sheet_bytes}
use Rattle.table_format.specs.ItemSets.{RightSides}
use Rattle.table_format.specs.Tables.{Alike, Matches, source_of}
use Rattle.table_format.specs.Walks.{passes}
use Rattle.table_format.specs.Sheets.{table_of, table_bytes as bytes_of, grid, Form}
use Rattle.table_format.specs.Breaches.{Checked}
use Rattle.table_format.proofs.Alike.{matches_alike}
use Rattle.table_format.proofs.Checks.{written_passes, checked_matches}
use Rattle.table_format.proofs.Once.{source_same}
use Rattle.table_format.proofs.Sheets.{table_of_bytes}
use Rattle.link_growth.proofs.Members.{mem_at}
use Rattle.words.specs.Bytes.{is_blank, opens_remark, ends_remark, is_digit}
use Rattle.words.specs.Texts.{spelled_terminal, text_coming}
use Rattle.words.specs.Keys.{key_coming}
use Rattle.known.specs.Samples.{p}
use Rattle.known.specs.Automata.{row, table, source}
use Rattle.known.proofs.Tests.{all_below, at_below, all_of, at_member}
use Rattle.known.proofs.Members.{same_numbers, same_self}
use Rattle.known.proofs.Automata.{matches}
use Rattle.known.proofs.Theorem.{p_well_formed, p_passes}
use Rattle.known_output.specs.Sheets.{p_sheet, grammar_bytes, table_bytes, recipe, keys, in_text, in_record}

pub grammar_is : sheet_bytes p_sheet ≡ grammar_bytes
unfolding sheet_bytes
grammar_is = refl

-- Tests of a spelling.
abbrev letter? : ℕ → Bool
letter? c = (leb 33 c && leb c 126) && not (eqb c 35)

abbrev digit? : ℕ → Bool
digit? c = leb 48 c && leb c 57

abbrev spelled? : List ℕ → Bool
spelled? w = (leb 1 (length w) && leb (length w) 12) && (all_of letter? w && not (all_of digit? w))

is_letter : (c : ℕ) → letter? c ≡ true → Letter c
is_letter c e =
    let (x, y) = and_parts _ _ e in
    let (a, b) = and_parts _ _ x in
    record { low = leb-true _ _ a; high = leb-true _ _ b; no_remark = λ q. both_ways _ (not-true _ y) (eq-eqb _ _ q) }

all_pass : (f : ℕ → Bool) (w : List ℕ) → ((k : ℕ) → k < length w → f (get_or w k 0) ≡ true) → all_of f w ≡ true
all_pass f [] g = refl
all_pass f (c ∷ w) g = and_from _ _ (g 0 (omega arith)) (all_pass f w (λ k h. g (suc k) (omega arith)))

is_spelled : (w : List ℕ) → spelled? w ≡ true → Spelled w
is_spelled w e =
    let (x, y) = and_parts _ _ e in
    let (a, b) = and_parts _ _ x in
    let (c, d) = and_parts _ _ y in
    record {
      some = leb-true _ _ a;
      short = leb-true _ _ b;
      letters = λ k h. is_letter (get_or w k 0) (at_member letter? (get_or w k 0) w c (mem_at w k 0 h));
      no_amount = λ all.
          both_ways _ (not-true _ d)
          (all_pass digit? w (λ k h. let z = all k h in and_from _ _ (le-leb _ _ z.low) (le-leb _ _ z.high)));
    }

abbrev all_spelled? : Bool
all_spelled? = all_below 2 (λ t. spelled? (spelling_of p_sheet (suc t)))

abbrev apart? : Bool
apart? = all_below 3 (λ t. all_below t (λ u. not (same_numbers (spelling_of p_sheet u) (spelling_of p_sheet t))))

differ : (v w : List ℕ) → not (same_numbers v w) ≡ true → v ≡ w → ⊥
differ v w e q = both_ways _ (not-true _ e) (subst (λ z. same_numbers v z ≡ true) q (same_self v))

nth_spelled : all_spelled? ≡ true → (t : ℕ) → 0 < t → t < 3 → Spelled (spelling_of p_sheet t)
nth_spelled e zero h l = absurd (omega arith)
nth_spelled e (suc t) h l = is_spelled (spelling_of p_sheet (suc t)) (at_below 2 (λ t. spelled? (spelling_of p_sheet (suc t))) e t (omega arith))

pub p_keeps : Keeps p_sheet
p_keeps = record {
  some_terminals = omega arith;
  few_terminals = omega arith;
  some_nonterminals = omega arith;
  few_nonterminals = omega arith;
  well_formed = p_well_formed;
  one_each = refl;
  amount = refl;
  spelled = nth_spelled refl;
  apart = λ t u l h.
      differ (spelling_of p_sheet u) (spelling_of p_sheet t)
      (at_below t (λ u. not (same_numbers (spelling_of p_sheet u) (spelling_of p_sheet t)))
      (at_below 3 (λ t. all_below t (λ u. not (same_numbers (spelling_of p_sheet u) (spelling_of p_sheet t)))) refl t h) u l);
}

-- The table sheet.
pub table_is : bytes_of p.grammar (table p) ≡ table_bytes
unfolding bytes_of grid listed lhs rhs rule
table_is = refl

pub p_matches : Matches p.grammar (table p) (row p)
p_matches = matches p p_well_formed p_passes

pub right_sides : RightSides p.grammar
right_sides = p_well_formed.right_in

alike : Alike p.grammar (table_of table_bytes) (table p)
alike = subst (λ b. Alike p.grammar (table_of b) (table p)) table_is (table_of_bytes p.grammar (table p))

pub table_checked : Checked p.grammar table_bytes passes
table_checked = subst (λ b. Checked p.grammar b passes) table_is (written_passes right_sides (omega arith) p_matches)

pub table_form : Form p.grammar table_bytes
table_form = (checked_matches right_sides table_checked).0

pub table_matches : Matches p.grammar (table_of table_bytes) (row p)
table_matches = matches_alike alike p_matches

pub table_source : source_of p.grammar (table_of table_bytes) (row p) ≡ source p
table_source = source_same alike (λ s h. refl)

-- The recipe, as a text and as a record of keys.
pub text_words : text_coming p_sheet 0 recipe ≡ record { words = in_text; fault = None }
unfolding is_blank opens_remark ends_remark is_digit spelled_terminal
text_words = refl

pub key_words : key_coming 3 0 keys ≡ record { words = in_record; fault = None }
key_words = refl
