use Rattle.links.proofs.Members.{present, absent}
use Rattle.links.proofs.cells.Cells.has.Goals as goal

pub returns-clause-there : goal.returns-clause-there
returns-clause-there c = rw (c.from.ensures, c.from-2.ensures) (present c.args.self.now c.args.c)

pub returns-clause-absent : goal.returns-clause-absent
returns-clause-absent c = rw (c.from.ensures, c.from-2.ensures) (absent c.args.self.now c.args.c)
