-- What a line's writer asks of an instruction that was read, and what is written of a function.
use Rattle.std.specs.Prelude.{ℕ, ◌^◌, ◌<◌, ◌≡◌, List}
use Rattle.definitions.specs.Instruction.{first_width, second_width}
use Rattle.definitions.specs.Listing.{code_lines}
use Rattle.definitions.specs.Reader.{instruction}
use Rattle.writing.specs.Wrote.{Wrote}
use Rattle.tally.specs.Walk.{values_end, code_from}
use Rattle.reader.specs.declared.Placed.{Placed}
use Rattle.listing.specs.declared.Next.{Next}

-- an opcode, and operands that fit their bytes
pub record Operands (p : Placed) : Type 0 where
  pub opcode : p.instruction.op < 46
  pub first : p.instruction.a < 256 ^ first_width p.instruction.op
  pub second : p.instruction.b < 256 ^ second_width p.instruction.op

-- the lines of n instructions, and where the code after them begins
pub record Lined (r : Next) (n : ℕ) (t : List ℕ) (at f k : ℕ) (before after : List ℕ) : Type 0 where
  pub ends : r.at ≡ values_end instruction n t at
  pub wrote : Wrote r.put (code_lines f 0 k (code_from n t at)) before after
