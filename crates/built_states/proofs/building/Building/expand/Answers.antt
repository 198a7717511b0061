use Rattle.std.proofs.Common.{arith}
use Rattle.grammar.specs.Meaning.{meaning}
use Rattle.built_states.proofs.Growing.{expanded}
use Rattle.built_states.proofs.building.Building.expand.Goals as goal

pub returns : goal.returns
returns c =
    record {
      cases = expanded (meaning c.args.grammar.now) c.loop-x.self c.args.i c.loop-x.x c.loop-x.invariant.0 (omega arith) (omega (arith, c.loop-x.invariant.1));
      grows = c.loop-x.invariant.1;
    }
