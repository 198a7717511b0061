use Rattle.std.proofs.Common.{◌≡◌, ℕ, ◌<◌, ◌≢◌, refl, ◌∙◌, arith}
use Rattle.grammar.specs.Meaning.{meaning}
use Rattle.built_states.specs.Built.{row_items}
use Rattle.built_states.specs.Building.{CompletedAt}
use Rattle.rows.proofs.Grammars.{few_symbols}
use Rattle.built_states.proofs.Growing.{tried_none, met_turn, new_turn, many_turn}
use Rattle.built_states.proofs.building.Building.add_step.Goals as goal
use Rattle.built_states.proofs.building.Building.add_step.Goals.{then-target-slot, else-target-slot}

pub returns-in_default : goal.returns-in_default
returns-in_default c =
    let b = c.args.self.now in
    record {
      cases =
          tried_none (meaning c.args.grammar.now) b.count b.rows b.steps c.args.i c.args.x c.requires.come c.requires.state c.requires.symbol
          (few_symbols c.args.grammar.now) c.in_default.ensures;
      grows = omega arith;
    }

pub returns-then-target-eq255 : goal.returns-then-target-eq255
returns-then-target-eq255 c =
    let g = meaning c.args.grammar.now in
    let b = c.args.self.now in
    let e : b.count ≡ 255 = omega (arith, c.requires.come.few, c.from-slot.ensures, c.place_of-target.ensures.within) in
    let done : CompletedAt g b b.count c.in-Some.kernel c.complete_at.new.self = rw c.from-slot.ensures at c.complete_at.ensures in
    let first : (k : ℕ) → k < c.place_of-target.result → row_items c.complete_at.new.self.rows k ≢ row_items c.complete_at.new.self.rows b.count = rw c.from-slot.ensures at c.place_of-target.ensures.first in
    record {
      cases = (
        refl,
        many_turn g b c.complete_at.new.self c.args.i c.args.x c.in-Some.kernel c.requires.come c.requires.state c.requires.symbol
            (few_symbols c.args.grammar.now) c.in-Some.ensures done e (λ k h. first k (omega arith)),
      );
      grows = omega (arith, c.complete_at.ensures.count_same);
    }

pub returns : goal.returns
returns c =
    let g = meaning c.args.grammar.now in
    let b = c.args.self.now in
    let d = c.complete_at.new.self in
    let done : CompletedAt g b b.count c.in-Some.kernel d = rw c.from-slot.ensures at c.complete_at.ensures in
    let first : (k : ℕ) → k < c.place_of-target.result → row_items d.rows k ≢ row_items d.rows b.count = rw c.from-slot.ensures at c.place_of-target.ensures.first in
    let same : row_items d.rows c.place_of-target.result ≡ row_items d.rows b.count = rw c.from-slot.ensures at c.place_of-target.ensures.same in
    elim c.if-target-slot.branch [
      | then-target-slot w ↦
          let t =
          new_turn g b d c.args.i c.args.x c.in-Some.kernel c.requires.come c.requires.state c.requires.symbol (few_symbols c.args.grammar.now)
          c.in-Some.ensures done c.if-target-slot.self c.place_of-target.result (w.if-target-slot.true ∙ c.from-slot.ensures) c.if-target-eq255.false
          first w.self-is
          in
          record { cases = t.0; grows = t.1 }
      | else-target-slot w ↦
          let h : c.place_of-target.result < b.count = omega (arith, c.place_of-target.ensures.within, w.if-target-slot.false, c.from-slot.ensures) in
          let t =
          met_turn g b d c.args.i c.args.x c.in-Some.kernel c.requires.come c.requires.state c.requires.symbol (few_symbols c.args.grammar.now)
          c.in-Some.ensures done c.if-target-slot.self c.place_of-target.result h same w.self-is
          in
          record { cases = t.0; grows = t.1 }
    ]
