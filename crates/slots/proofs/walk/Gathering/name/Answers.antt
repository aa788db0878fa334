-- Of 256 names the first 255 stay.
use mathlib.Core.Path.{refl}
use native.Mathlib.Omega.{arith}
use Rattle.slots.proofs.Adding.{added-most, added-first}
use Rattle.slots.proofs.Steps.{adds-over}
use Rattle.slots.proofs.walk.Gathering.name.Goals as goal

pub invariant_of-self : goal.invariant_of-self
invariant_of-self c =
    let s = c.args.self.now in record {
      short = s.short;
      room = omega (arith, s.room, c.add_at-n.auto.slots);
      few = s.few;
      indexed = added-first s.tree.now s.slots.now c.add_at-n.new.slots s.n _ c.args.at c.add_at-n.ensures (omega (arith, s.room, s.few)) c.add_at-n.auto.slots;
      loops_most = s.loops_most;
    }

pub returns-then-n-gt-SLOTS_MOST : goal.returns-then-n-gt-SLOTS_MOST
returns-then-n-gt-SLOTS_MOST c =
    let s = c.args.self.now in
    adds-over (omega (arith, c.if-n-gt-SLOTS_MOST.true, added-most s.tree.now s.slots.now c.add_at-n.new.slots s.n _ c.args.at c.add_at-n.ensures (omega (arith, s.room, s.few)) c.add_at-n.auto.slots)) refl refl
