use Rattle.std.proofs.Common.{true, ◌++◌, codes, refl, ap, ◌∙◌, arith}
use Rattle.std.proofs.Output.{has_written_of_eq}
use Rattle.grammar.specs.Meaning.{sheet}
use Rattle.inspection.specs.Names.{symbol_name, called}
use Rattle.inspection.specs.Rules.{right_piece}
use Rattle.inspection.proofs.Joining.{each_none, each_more}
use Rattle.inspection.proofs.rule.RightSymbolsDisplay.fmt.Goals as goal

pub loop-place-init : goal.loop-place-init
loop-place-init g c =
    let x = c.args.self.now in
    ((λ _. refl), each_none g.W.Write.write_str_gives (right_piece (sheet x.grammar.now) x.rule) x.from c.args.f.now)

pub loop-place-preserved : goal.loop-place-preserved
loop-place-preserved g c = (
  (λ h. omega arith),
  λ plain.
      let x = c.args.self.now in
      let s = sheet x.grammar.now in
      let before = c.loop-place.invariant.1 plain in
      each_more g.W.Write.write_str_gives (right_piece s x.rule) x.from c.args.f.now c.loop-place.f c.write.new.self c.loop-place.place
      (omega arith) before
      (has_written_of_eq g.W.Write.write_str_gives c.loop-place.f (codes " " ++ called c.of-symbol.result) (right_piece s x.rule c.loop-place.place)
      c.write.new.self (ap (λ w. codes " " ++ w) (c.of-symbol.ensures ∙ ap (symbol_name s) c.right.ensures))
      (c.in_ok-write.ensures.writes before.plain (refl {a = true}))),
)
