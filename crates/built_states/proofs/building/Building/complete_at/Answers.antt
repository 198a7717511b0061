use Rattle.std.proofs.Common.{◌≡◌, ◌<◌, true, [], length, set, sym, refl, ap, ◌∙◌, subst, arith}
use Rattle.std.proofs.lemmas.List.{length-set, get_or-set_same, get_or-set_other}
use Rattle.grammar.specs.Meaning.{meaning}
use Rattle.table_format.specs.ItemSets.{Completed}
use Rattle.rows.specs.declared.row.Row.{Row}
use Rattle.rows.specs.Rows.{items}
use Rattle.built_states.proofs.building.Building.complete_at.Goals as goal

pub returns : goal.returns
returns c =
    let ws = c.args.self.now.rows in
    let n = c.args.slot in
    let room : n < length (set ws n c.args.kernel) = simp length-set (omega arith) in
    record {
      count_same = refl;
      steps_same = refl;
      room_same = simp length-set refl;
      others_same = λ j p. ap items (get_or-set_other (set ws n c.args.kernel) n j c.complete.new.self (record { items = [] }) p ∙ get_or-set_other ws n j c.args.kernel (record { items = [] }) p);
      completed =
          subst (Completed (meaning c.args.grammar.now) (λ r d. items c.args.kernel r d ≡ true))
          (sym (ap items (get_or-set_same (set ws n c.args.kernel) n c.complete.new.self (record { items = [] }) room)))
          (subst (λ (w : Row). Completed (meaning c.args.grammar.now) (λ r d. items w r d ≡ true) (items c.complete.new.self))
          (get_or-set_same ws n c.args.kernel (record { items = [] }) (omega arith)) c.complete.ensures);
    }
