use Rattle.std.proofs.Common.{◌≡◌, ◌+◌, false}
use Rattle.words.proofs.Scanning.{ahead}
use Rattle.words.proofs.runs.run_start.Given as goal

abbrev pub invariant-loop-i : goal.invariant-loop-i
invariant-loop-i l = ahead l.text (l.place + l.i) l.remark ≡ ahead l.text l.place false
