use mathlib.Core.Path.{refl, sym}
use Rattle.reader.proofs.InstructionLaws.{no-byte, no-opcode, no-operands, yes-instruction}
use Rattle.reader.proofs.code.instruction_at.Goals as goal

pub returns-then-bytes-at : goal.returns-then-bytes-at
returns-then-bytes-at c = sym (no-byte _ _ c.if-bytes-at.true)

pub returns-then-op-gt-LAST : goal.returns-then-op-gt-LAST
returns-then-op-gt-LAST c = sym (no-opcode _ _ c.if-bytes-at.false c.if-op-gt-LAST.true)

pub returns-then-bytes-at-2 : goal.returns-then-bytes-at-2
returns-then-bytes-at-2 c = sym (no-operands _ _ c.if-bytes-at.false c.if-op-gt-LAST.false _ _ c.first_width-first.ensures.0 c.second_width-second.ensures.0 c.if-bytes-at-2.true)

pub returns : goal.returns
returns c =
    sym (yes-instruction _ _ c.if-bytes-at.false c.if-op-gt-LAST.false _ _ c.first_width-first.ensures.0 c.second_width-second.ensures.0
    _ _ _ _ refl c.number_at-a.ensures.0 c.number_at-b.ensures.0 refl c.if-bytes-at-2.false)
