-- by the widths of its opcode
use native.Mathlib.Omega.{arith}
use mathlib.Core.Path.{sym, ap, ◌∙◌}
use Prim.Native.Nat.{ℕ, ◌+◌}
use Rattle.definitions.specs.Instruction.{first_width, second_width}
use Rattle.state.specs.Words.{instr_of}
use Rattle.module.proofs.words.instruction_size.Goals as goal
use Rattle.definitions.proofs.Lengths.{length-encode}
use Rattle.module.proofs.Encoding.{word-op}

pub returns : goal.returns
returns c =
    let r = c.word_width.ensures in (
      λ t. r.0 ∙ ap (λ (op : ℕ). 1 + first_width op + second_width op) (word-op t _) ∙ sym (length-encode (instr_of t _)),
      omega (arith, r.1),
    )
