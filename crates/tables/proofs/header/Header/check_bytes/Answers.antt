use Rattle.std.proofs.Common.{◌+◌, length, arith}
use Rattle.table_format.specs.Breaches.{by_form}
use Rattle.tables.proofs.Heads.{parts, clean_bytes, step_breach, mark_breach}
use Rattle.tables.proofs.header.Header.check_bytes.Goals as goal

pub returns-in-Some-clause-cases : goal.returns-in-Some-clause-cases
returns-in-Some-clause-cases c g k =
    let f = c.in-Some.ensures in
    let s = parts c.args.self.now c.split_at.result.0.now (rw c.layout.ensures at c.marks_at.ensures) c.split_at.ensures.front_len c.split_at.ensures.back_len c.split_at.ensures.by_index.1 c.split_at.ensures.by_index.2 in
    by_form (record {
      applies = step_breach c.requires s c.in-Some.place f.0 f.1 f.2;
      before = clean_bytes c.requires s (12 + c.in-Some.place) (omega (arith, s.steps_long, s.marks_long, f.0)) k (λ i h m. f.3 i (omega arith)) (λ i h m. absurd (omega (arith, s.steps_long, f.0)));
    })

pub returns-in-Some-stray_mark-clause-cases : goal.returns-in-Some-stray_mark-clause-cases
returns-in-Some-stray_mark-clause-cases c g k =
    let f = c.in-Some-stray_mark.ensures in
    let s = parts c.args.self.now c.split_at.result.0.now (rw c.layout.ensures at c.marks_at.ensures) c.split_at.ensures.front_len c.split_at.ensures.back_len c.split_at.ensures.by_index.1 c.split_at.ensures.by_index.2 in
    by_form (record {
      applies = rw c.split_at.ensures.front_len (mark_breach c.requires s c.in-Some-stray_mark.place f.0 f.1);
      before = rw c.split_at.ensures.front_len (clean_bytes c.requires s (c.marks_at.result + c.in-Some-stray_mark.place) (omega (arith, s.marks_long, f.0)) k (λ i h m. c.in_default.ensures i h) (λ i h m. f.2 i (omega arith)));
    })

pub returns-clause-cases : goal.returns-clause-cases
returns-clause-cases c g k =
    let s = parts c.args.self.now c.split_at.result.0.now (rw c.layout.ensures at c.marks_at.ensures) c.split_at.ensures.front_len c.split_at.ensures.back_len c.split_at.ensures.by_index.1 c.split_at.ensures.by_index.2 in
    clean_bytes c.requires s (length c.args.sheet.now) (omega arith) k (λ i h m. c.in_default.ensures i h) (λ i h m. c.in_default-stray_mark.ensures i h)
