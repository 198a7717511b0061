use Rattle.std.proofs.Common.{rules, ◌≡◌, Ok, Err, ap, ◌∙◌}
use Rattle.parsing.specs.Links.{Linked}
use Rattle.forest.specs.Forests
use Rattle.forest.specs.Forests.{GathersForest}
use Rattle.forest.proofs.Answering.{gathered_occurs}
use Rattle.reader.specs.declared.fault.ReadingFault.TheVariants.{Closed, Gather}
use Rattle.reader.proofs.Calling.{holds_of}
use Rattle.reader.proofs.Forests.{all_held, gather_out, gather_refused, gather_made}
use Rattle.reader.proofs.reading.Reading.gather.Goals as goal

pub returns-in_err-_limit : goal.returns-in_err-_limit
returns-in_err-_limit g c =
    let why : c.from_residual.result ≡ Err Closed = search rules in
    rw why (gather_out g.S.StateSource.meaning c.args.self.now c.args.nodes.now c.args.alternatives.now c.in_err-_limit.ensures.1)

pub returns-in_err-gather : goal.returns-in_err-gather
returns-in_err-gather g c =
    let m = g.S.StateSource.meaning in
    let src = m c.self.inside.source in
    let law = g.met.S.StateSource.lawful c.self.inside.source in
    let ws = c.self.inside.words.items in
    let limit = ap (λ v. v.limit) c.self.view_is ∙ c.in_ok-_limit.ensures in
    let held : Forests.Holds c.all-links.result.now (Linked src ws) =
    rw c.all-links.ensures.value (all_held (holds_of src ws c.self.inside.links limit c.self.invariant).exact) in
    let f = c.in_err-gather.field-0.0 in
    let why : c.from_residual-in_err-gather.result ≡ Err (Gather f) = search rules in
    let told : GathersForest src.grammar ws c.args.nodes.now c.args.alternatives.now c.gather.new.nodes c.gather.new.alternatives (Err f) =
    gathered_occurs src law.well_formed law.lawful ws c.all-links.result.now held c.args.nodes.now c.gather.new.nodes c.args.alternatives.now
    c.gather.new.alternatives (Err f) c.in_err-gather.ensures in
    rw (why, ← c.self.view_is) (gather_refused m (record { source = c.self.inside.source; limit = c.self.inside.limit; words = ws }) c.in_ok-_limit._limit limit
    law c.args.nodes.now c.gather.new.nodes c.args.alternatives.now c.gather.new.alternatives
    c.gather.auto.nodes c.gather.auto.alternatives f told)

pub returns : goal.returns
returns g c =
    let m = g.S.StateSource.meaning in
    let src = m c.self.inside.source in
    let law = g.met.S.StateSource.lawful c.self.inside.source in
    let ws = c.self.inside.words.items in
    let limit = ap (λ v. v.limit) c.self.view_is ∙ c.in_ok-_limit.ensures in
    let held : Forests.Holds c.all-links.result.now (Linked src ws) =
    rw c.all-links.ensures.value (all_held (holds_of src ws c.self.inside.links limit c.self.invariant).exact) in
    let told : GathersForest src.grammar ws c.args.nodes.now c.args.alternatives.now c.gather.new.nodes c.gather.new.alternatives (Ok c.in_ok-gather.field-0) =
    gathered_occurs src law.well_formed law.lawful ws c.all-links.result.now held c.args.nodes.now c.gather.new.nodes c.args.alternatives.now
    c.gather.new.alternatives (Ok c.in_ok-gather.field-0) c.in_ok-gather.ensures in
    rw (← c.self.view_is) (gather_made m (record { source = c.self.inside.source; limit = c.self.inside.limit; words = ws }) c.in_ok-_limit._limit limit
    law c.args.nodes.now c.gather.new.nodes c.args.alternatives.now c.gather.new.alternatives
    c.gather.auto.nodes c.gather.auto.alternatives c.in_ok-gather.field-0 told)
