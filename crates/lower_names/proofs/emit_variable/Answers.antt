use native.Mathlib.Omega.{arith}
use mathlib.Core.Path.{refl, sym}
use Rattle.definitions.proofs.Resolve.{position-lt}
use Rattle.state.specs.Words.{name_at}
use Rattle.state.specs.State.{slot_names}
use Rattle.lower_emit.proofs.Packing.{instr-plain}
use Rattle.lower_emit.proofs.Steps.{put-lifts, lowers-state}
use Rattle.names.proofs.Indexing.{slots-count}
use Rattle.lower_names.proofs.Naming.{plain_op, at_slot, at-global}
use Rattle.lower_names.proofs.emit_variable.Goals as goal

pub put_op-requires : goal.put_op-requires
put_op-requires c = let a = c.args in (omega (arith, c.requires.3), omega (arith, position-lt _ _ _ (sym c.in-Some.ensures), slots-count a.s.tree.now a.s.slots.now a.s.slotted), omega arith)

pub returns-in-Some : goal.returns-in-Some
returns-in-Some c = let a = c.args in
    let few = slots-count a.s.tree.now a.s.slots.now a.s.slotted in
    record {
      lowers = lowers-state (put-lifts c.requires.0 refl (instr-plain _ _ _ _ (plain_op _ _ c.requires.2 (omega (arith, c.requires.3)) (omega (arith, position-lt _ _ _ (sym c.in-Some.ensures), few)))) c.put_op.ensures)
          (sym (at_slot a.op a.e.now.code.base (slot_names a.s.tree.now a.s.slots.now) (name_at a.s.tree.now a.at) _ c.in-Some.slot c.in-Some.ensures));
      made = refl;
    }

pub emit_symbol-requires : goal.emit_symbol-requires
emit_symbol-requires c = (c.requires.0, c.requires.1, plain_op _ _ (omega (arith, c.requires.2)) (omega (arith, c.requires.3)) (omega arith))

pub returns : goal.returns
returns c = let a = c.args in
    record { lowers = lowers-state c.emit_symbol.ensures.lowers (sym (at-global a.op a.e.now.code.base (slot_names a.s.tree.now a.s.slots.now) (name_at a.s.tree.now a.at) _ c.in_default.ensures)); made = c.emit_symbol.ensures.made }
