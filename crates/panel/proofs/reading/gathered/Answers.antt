use Rattle.std.proofs.Common.{rules, ◌≡◌, Err, refl}
use Rattle.std.proofs.lemmas.List.{length-replicate}
use Rattle.reader.specs.declared.fault.ThroughFault.TheVariants.{Reading as Itself}
use Rattle.panel.specs.declared.fault.Fault.TheVariants.{Reading}
use Rattle.panel.proofs.Gathering.{few_counted, forest_made, forest_refused}
use Rattle.panel.proofs.reading.gathered.Goals as goal

pub returns-in_err-counts : goal.returns-in_err-counts
returns-in_err-counts g c = λ n ws e a.
    let why : c.from_residual.result ≡ Err (Reading (Itself c.in_err-counts.field-0.0)) = search rules in
    rw why (forest_refused _ _ _ _ _ _ _ (length-replicate 512 c.blank-nodes.result) (length-replicate 2048 c.blank-list.result) n ws e _ a c.in_err-counts.ensures.does)

pub invariant_of-result : goal.invariant_of-result
invariant_of-result g c = record { within = few_counted c.in_ok-counts.ensures.does }

pub returns : goal.returns
returns g c = λ n ws e a. forest_made _ _ _ _ _ _ _ (length-replicate 512 c.blank-nodes.result) (length-replicate 2048 c.blank-list.result) n ws e _ refl c.in_ok-counts.ensures.does
