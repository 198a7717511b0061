use Rattle.std.proofs.Common.{◌≡◌, ◌<◌, ◌≢◌, sym, ◌∙◌, arith}
use Rattle.parsing.specs.Grammar.{start}
use Rattle.grammar_format.specs.Keeping.{spelling_of}
use Rattle.grammar.specs.Meaning.{sheet, meaning}
use Rattle.inspection.proofs.Keepers.{spelled_some, spelled_none, text_kept, start_kept}
use Rattle.inspection.proofs.Naming.{named_amount, named_word, named_goal, named_start, named_other}
use Rattle.inspection.proofs.name.Name.of.Goals as goal

pub returns-then-symbol-eq0 : goal.returns-then-symbol-eq0
returns-then-symbol-eq0 c = sym (named_amount (sheet c.args.grammar.now) c.args.symbol c.if-symbol-eq0.true)

pub returns-in-Some : goal.returns-in-Some
returns-in-Some c =
    let g = c.args.grammar.now in
    let x = c.args.symbol in
    let i : c.from.result ≡ x = c.from.ensures in
    let found = spelled_some (sheet g) c.from.result c.in-Some.spelling.now c.in-Some.ensures in
    let l : x < (meaning g).terminals = omega arith in
    let e : c.in-Some.spelling.now ≡ spelling_of (sheet g) x = rw i at found.1 in
    text_kept g x c.in-Some.spelling.now c.text.result.now c.if-symbol-eq0.false l e c.text.ensures
    ∙ sym (named_word (sheet g) x c.if-symbol-eq0.false l)

pub returns-then-symbol-terminals : goal.returns-then-symbol-terminals
returns-then-symbol-terminals c =
    sym (named_goal (sheet c.args.grammar.now) c.args.symbol c.if-symbol-eq0.false (omega arith))

pub returns-then-symbol-right : goal.returns-then-symbol-right
returns-then-symbol-right c =
    let g = c.args.grammar.now in
    let x = c.args.symbol in
    let i : c.from.result ≡ x = c.from.ensures in
    let past = spelled_none (sheet g) c.from.result c.in_default.ensures in
    let e : x ≡ start (meaning g) = c.if-symbol-right.true ∙ (c.right.ensures ∙ start_kept g) in
    sym (named_start (sheet g) x c.if-symbol-eq0.false (omega arith) (λ h. c.if-symbol-terminals.false (h ∙ sym c.terminals.ensures)) e)

pub returns : goal.returns
returns c =
    let g = c.args.grammar.now in
    let x = c.args.symbol in
    let i : c.from.result ≡ x = c.from.ensures in
    let past = spelled_none (sheet g) c.from.result c.in_default.ensures in
    let e : x ≢ start (meaning g) = λ h. c.if-symbol-right.false (h ∙ sym (c.right.ensures ∙ start_kept g)) in
    sym (named_other (sheet g) x c.if-symbol-eq0.false (omega arith) (λ h. c.if-symbol-terminals.false (h ∙ sym c.terminals.ensures)) e)
