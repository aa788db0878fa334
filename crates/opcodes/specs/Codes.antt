-- The opcodes of operators and displays, by their bytes in the tree.
use Rattle.std.specs.Prelude.{ℕ, ◌*◌, ◌-◌, true, false, [], ◌∷◌, get_or, eqb}
use Rattle.definitions.specs.Tree.{Display, list_d, tuple_d, dict_d, set_d, tree_set_d, not_op}
use Rattle.definitions.specs.Instruction.{unary_code}
use Rattle.tree_view.specs.ExprAt.{unary_ops}

-- the opcode of a unary operator's byte; of a binary one it is `operator_code`
unfoldable pub unary_opcode : ℕ → ℕ
unary_opcode k = unary_code (get_or unary_ops k not_op)

-- a display by its kind byte, 11 to 15: what it builds, and how many expressions it holds with the count n
unfoldable pub display_by_kind : ℕ → Display
display_by_kind k = get_or (list_d ∷ dict_d ∷ tuple_d ∷ set_d ∷ tree_set_d ∷ []) (k - 11) list_d

unfoldable pub held_of : ℕ → ℕ → ℕ
held_of k n = elim (eqb k 12) [ true ↦ 2 * n | false ↦ n ]
