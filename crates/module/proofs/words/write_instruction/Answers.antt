-- the opcode of an instruction with operands is written
use native.Mathlib.Omega.{arith}
use Rattle.state.specs.Words.{instr_of}
use Rattle.writing.proofs.Begun.{begun-length, begun-fits, begun-number, begun-next, begun-done}
use Rattle.module.proofs.Encoding.{wrote-alone, begun-word}
use Rattle.module.proofs.words.write_instruction.Goals as goal
use Rattle.definitions.proofs.Lengths.{length-encode}

pub bounds-out-0 : goal.bounds-out-0
bounds-out-0 c = omega (arith, length-encode (instr_of c.args.tree.now c.args.w), c.requires)

pub returns-then-first-eq0 : goal.returns-then-first-eq0
returns-then-first-eq0 c = let a = c.args in wrote-alone a.tree.now a.out.now a.w (c.opcode-op.ensures.0 a.tree.now) c.first_width-first.ensures.0 c.if-first-eq0.true c.requires

pub bounds-out-0-2 : goal.bounds-out-0-2
bounds-out-0-2 c =
    let begun = let t = c.args.tree.now in
    begun-word t c.args.out.now c.args.w (c.opcode-op.ensures.0 t) c.first_width-first.ensures.0
    c.second_width-second.ensures.0 (c.first_operand-a.ensures t) (c.second_operand-b.ensures t) c.requires in
    omega (arith, begun-fits begun, begun-length begun)

pub slice_bounds-write_number-count : goal.slice_bounds-write_number-count
slice_bounds-write_number-count c =
    let begun = let t = c.args.tree.now in
    begun-word t c.args.out.now c.args.w (c.opcode-op.ensures.0 t) c.first_width-first.ensures.0
    c.second_width-second.ensures.0 (c.first_operand-a.ensures t) (c.second_operand-b.ensures t) c.requires in
    omega (arith, begun-fits begun)

pub slice_bounds-write_number-start : goal.slice_bounds-write_number-start
slice_bounds-write_number-start c =
    let begun = let t = c.args.tree.now in
    begun-word t c.args.out.now c.args.w (c.opcode-op.ensures.0 t) c.first_width-first.ensures.0
    c.second_width-second.ensures.0 (c.first_operand-a.ensures t) (c.second_operand-b.ensures t) c.requires in
    omega (arith, begun-fits begun)

pub write_number-n-requires : goal.write_number-n-requires
write_number-n-requires c =
    let begun = let t = c.args.tree.now in
    begun-word t c.args.out.now c.args.w (c.opcode-op.ensures.0 t) c.first_width-first.ensures.0
    c.second_width-second.ensures.0 (c.first_operand-a.ensures t) (c.second_operand-b.ensures t) c.requires in
    (begun-number _ _ begun, c.first_width-first.ensures.1)

pub overflow_add-at : goal.overflow_add-at
overflow_add-at c =
    let begun = let t = c.args.tree.now in
    begun-word t c.args.out.now c.args.w (c.opcode-op.ensures.0 t) c.first_width-first.ensures.0
    c.second_width-second.ensures.0 (c.first_operand-a.ensures t) (c.second_operand-b.ensures t) c.requires in
    omega (arith, begun-fits (begun-next begun c.write_number-n.ensures), begun-length (begun-next begun c.write_number-n.ensures))

pub slice_bounds-write_number-count-2 : goal.slice_bounds-write_number-count-2
slice_bounds-write_number-count-2 c =
    let begun = let t = c.args.tree.now in
    begun-word t c.args.out.now c.args.w (c.opcode-op.ensures.0 t) c.first_width-first.ensures.0
    c.second_width-second.ensures.0 (c.first_operand-a.ensures t) (c.second_operand-b.ensures t) c.requires in
    omega (arith, begun-fits (begun-next begun c.write_number-n.ensures))

pub slice_bounds-write_number-start-2 : goal.slice_bounds-write_number-start-2
slice_bounds-write_number-start-2 c =
    let begun = let t = c.args.tree.now in
    begun-word t c.args.out.now c.args.w (c.opcode-op.ensures.0 t) c.first_width-first.ensures.0
    c.second_width-second.ensures.0 (c.first_operand-a.ensures t) (c.second_operand-b.ensures t) c.requires in
    omega (arith, begun-fits (begun-next begun c.write_number-n.ensures))

pub write_number-requires : goal.write_number-requires
write_number-requires c =
    let begun = let t = c.args.tree.now in
    begun-word t c.args.out.now c.args.w (c.opcode-op.ensures.0 t) c.first_width-first.ensures.0
    c.second_width-second.ensures.0 (c.first_operand-a.ensures t) (c.second_operand-b.ensures t) c.requires in
    (begun-number _ _ (begun-next begun c.write_number-n.ensures), omega (arith, c.second_width-second.ensures.1))

pub overflow_add-result : goal.overflow_add-result
overflow_add-result c =
    let begun = let t = c.args.tree.now in
    begun-word t c.args.out.now c.args.w (c.opcode-op.ensures.0 t) c.first_width-first.ensures.0
    c.second_width-second.ensures.0 (c.first_operand-a.ensures t) (c.second_operand-b.ensures t) c.requires in
    let b = begun-next (begun-next begun c.write_number-n.ensures) c.write_number.ensures in omega (arith, (begun-done b).count, c.requires, c.well_formed)

pub returns : goal.returns
returns c =
    let begun = let t = c.args.tree.now in
    begun-word t c.args.out.now c.args.w (c.opcode-op.ensures.0 t) c.first_width-first.ensures.0
    c.second_width-second.ensures.0 (c.first_operand-a.ensures t) (c.second_operand-b.ensures t) c.requires in
    begun-done (begun-next (begun-next begun c.write_number-n.ensures) c.write_number.ensures)
