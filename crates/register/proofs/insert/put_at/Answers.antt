use Rattle.std.proofs.Common.{ap, ◌∙◌, take, ◌+◌, set}
use Rattle.register.proofs.Shifting.{put_in}
use Rattle.register.proofs.insert.put_at.Goals as goal

pub returns : goal.returns
returns g c =
    ap (λ zs. take (c.args.count + 1) (set zs c.args.place c.args.x)) c.copy_within.ensures.after
    ∙ put_in c.args.slots.now c.args.count c.args.place c.args.x c.requires.room c.requires.place
