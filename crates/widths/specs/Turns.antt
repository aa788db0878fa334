-- Where the next place is not met at the height that an instruction leaves.
use Rattle.std.specs.Prelude.{ℕ}
use Rattle.definitions.specs.Instruction.{Flow, straight, jump, returns, question}

-- 1 after a jump and after a return, else 0
unfoldable pub turn : Flow → ℕ
turn straight = 0
turn jump = 1
turn returns = 1
turn (question b) = 0
