use Rattle.std.proofs.Common.{◌∙◌, arith}
use Rattle.std.proofs.lemmas.List.{length-take-le}
use Rattle.built_states.specs.Writing.{sheet}
use Rattle.built_states.proofs.Writing.{written, sheet_passes}
use Rattle.built_states.proofs.built.BuiltStates.write.Goals as goal

pub returns : goal.returns
returns c =
    let b = c.args.self.now in
    let n = c.sheet_len-need.result in
    let e = length-take-le n c.args.room.now c.if-room-need.false in
    record {
      writes =
          written (sheet b) c.args.room.now c.loop-offset.front n c.sheet_len-need.ensures.value c.if-room-need.false (c.loop-offset.auto.front ∙ e)
          (λ k h. c.loop-offset.invariant k (omega arith));
      passes_check = sheet_passes b;
    }
