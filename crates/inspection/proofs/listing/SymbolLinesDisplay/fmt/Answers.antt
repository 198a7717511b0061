use Rattle.std.proofs.Common.{true, ◌++◌, codes, refl, arith}
use Rattle.grammar.specs.Meaning.{sheet}
use Rattle.inspection.specs.Listings.{symbol_line}
use Rattle.inspection.proofs.Joining.{each_none, each_more}
use Rattle.inspection.proofs.listing.SymbolLinesDisplay.fmt.Goals as goal

pub loop-symbol-init : goal.loop-symbol-init
loop-symbol-init g c =
    ((λ _. refl), each_none g.W.Write.write_str_gives (λ k. symbol_line (sheet c.args.self.now.grammar.now) k ++ codes "\n") c.args.self.now.from c.args.f.now)

pub loop-symbol-preserved : goal.loop-symbol-preserved
loop-symbol-preserved g c = (
  (λ h. omega arith),
  λ plain.
      let before = c.loop-symbol.invariant.1 plain in
      each_more g.W.Write.write_str_gives (λ k. symbol_line (sheet c.args.self.now.grammar.now) k ++ codes "\n") c.args.self.now.from c.args.f.now
      c.loop-symbol.f c.writeln.new.self c.loop-symbol.symbol (omega arith) before
      (c.in_ok-writeln.ensures.writes before.plain (refl {a = true})),
)
