-- R-10, stack heights: what an instruction does to the height of the stack, and the number in a function's record.
use Rattle.std.specs.Prelude.{ℕ, zero, suc, ◌+◌, ◌-◌, ◌*◌, max, List, [], ◌∷◌}
use Rattle.definitions.specs.Instruction.{Instr, row_of, Flow, straight, jump, returns, question, flow}

-- ---- what an instruction does to the height

-- how many values it pops, by its row and by what its operands count
unfoldable pub pops : Instr → ℕ
pops i =
    let q = (row_of i.op).pops in
    q.own + q.per_first * i.a + q.per_second * i.b

unfoldable pub pushes : Instr → ℕ
pushes i = (row_of i.op).pushes

-- the height that it leaves, met at height h
unfoldable pub height_after : Instr → ℕ → ℕ
height_after i h = h - pops i + pushes i

-- ---- the number in a function's record

-- The height at the next place of the code, after an instruction at height h. After a Jump it is one less, or 0: the Jump of `and` and `or` stands
-- behind the right side, whose value is not there at the constant that follows; every other Jump stands between statements, at 0. After a Return a
-- statement begins
unfoldable pub following : Flow → Instr → ℕ → ℕ
following straight i h = height_after i h
following jump i h = h - 1
following returns i h = 0
following (question b) i h = height_after i h

-- the largest height that an instruction of the code leaves, the first one at height h
unfoldable pub tallest : ℕ → List Instr → ℕ
tallest h [] = 0
tallest h (i ∷ is) = max (height_after i h) (tallest (following (flow i.op) i h) is)

-- a function's number: it starts at 0
unfoldable pub height_number : List Instr → ℕ
height_number code = tallest 0 code

-- the height of place p, so counted, the first place at height h
abbrev pub height_at : ℕ → List Instr → ℕ → ℕ
height_at h is zero = h
height_at h [] (suc p) = h
height_at h (i ∷ is) (suc p) = height_at (following (flow i.op) i h) is p
