use Rattle.std.proofs.Common.{◌≡◌, ℕ, Bool, true, false, cond, List, ◌++◌, codes, decimal, refl, ap, ◌∙◌}
use mir.Val.{bool_byte}
use Rattle.std.specs.Prelude.{◌==◌}
use Rattle.std.proofs.Output.{has_written_of_eq}
use Rattle.grammar.specs.Meaning.{sheet}
use Rattle.grammar_format.specs.Sheets.{Sheet}
use Rattle.table_explanation.specs.Explanations.{rule_shown, mark_line}
use Rattle.table_explanation.proofs.lines.MarkLineDisplay.fmt.Goals as goal

byte_of : (b : Bool) → bool_byte b ≡ cond b 1 0
byte_of true = refl
byte_of false = refl

-- The line, where a mark is told and another is wanted for a rule that is shown.
abbrev line : Sheet → ℕ → ℕ → ℕ → ℕ → ℕ → List ℕ
line s t r shown mark wanted =
    codes "State " ++ (decimal t ++ (codes " has the done mark " ++ (decimal mark ++ (codes " for rule " ++ (decimal r ++ (codes ", `"
    ++ (rule_shown s shown ++ (codes "`, and " ++ (decimal wanted ++ codes " is wanted.\n")))))))))

pub returns-clause-writes : goal.returns-clause-writes
returns-clause-writes g c = λ plain ok.
    let x = c.args.self.now in
    let s = sheet x.0.grammar.now in
    let mark = c.mark_byte-mark.result in
    let wanted = c.from-wanted.result in
    has_written_of_eq g.W.Write.write_str_gives _ (line s x.1 x.2 c.from.result mark wanted) (mark_line s x.0.sheet.now x.1 x.2) _
    (ap (λ (q : ℕ). line s x.1 x.2 q mark wanted) c.from.ensures
    ∙ ap (λ (w : ℕ). line s x.1 x.2 x.2 mark w) (c.from-wanted.ensures ∙ byte_of (mark == 0))
    ∙ ap (λ (m : ℕ). line s x.1 x.2 x.2 m (cond {A = ℕ} (m == 0) 1 0)) c.mark_byte-mark.ensures)
    (c.write.ensures.writes plain ok)
