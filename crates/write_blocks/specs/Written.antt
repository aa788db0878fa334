-- The code that is written for what stands at a position.
use Rattle.std.specs.Prelude.{ℕ, suc, ◌+◌, ◌≤◌, ◌≡◌, false, List, ◌++◌, Option, Some}
use Rattle.definitions.specs.Bytes.{Name}
use Rattle.definitions.specs.Tree.{Expr, Block, Branches}
use Rattle.definitions.specs.Instruction.{Instr, Jump, JumpIfFalse}
use Rattle.definitions.specs.Tables.{Function, Emit, one, ◌⨟◌}
use Rattle.definitions.specs.Slots.{Keeping, past}
use Rattle.definitions.specs.Lower.{Keeper, ask_iter, take_iter}
use Rattle.definitions.specs.Measured as Measured
use Rattle.definitions.specs.Measured.{knowing, measure_expr, measure_block, measure_hop, measure_ask, measure_take, write_expr, write_loop, write_for, write_stmt, write_block, write_branches}
use Rattle.tree_view.specs.StmtAt.{stmt_at, block_at, stmts_at}
use Rattle.lower_forms.specs.Lowering.{BlockLowerable}
use Rattle.lower_emit.specs.declared.emitter.Emitter.{Emitter}
use Rattle.lower_emit.specs.Emitting.{state_in}
use Rattle.write_blocks.specs.declared.Loop.{Loop}

-- a block that no loop is around
pub record BodyLowerable (d : ℕ) (t : List ℕ) (p : ℕ) : Type 0 where
  pub block : BlockLowerable d t p
  pub outside : block.loop ≡ false

-- What was written before a part is as it was, the words of the open functions and the functions that had begun; what is new comes after it
pub record KeepsWritten (r : Option ℕ) (tree : List ℕ) (a b : Emitter) : Type 0 where
  pub words : (n : ℕ) → r ≡ Some n → (more : List Instr) × ((state_in tree b).stack ≡ (state_in tree a).stack ++ more)
  pub functions : (n : ℕ) → r ≡ Some n → (new : List Function) × ((state_in tree b).tables.functions ≡ (state_in tree a).tables.functions ++ new)

-- the loop around a part, as the definitions have it
abbrev pub loop_of : Loop → Measured.Loop
loop_of w = record { start = w.start; end = w.end }

-- it starts no later than the word that is put next
abbrev pub Started : Loop → Emitter → Type 0
Started w e = w.start + e.code.base ≤ e.code.open

abbrev pub stmt_written : ℕ → List ℕ → List Name → Keeping → Loop → ℕ → Emit
stmt_written d t names keep w p = write_stmt names keep (loop_of w) (stmt_at d t p).value

abbrev pub block_written : ℕ → List ℕ → List Name → Keeping → Loop → ℕ → Emit
block_written d t names keep w p = write_block names keep (loop_of w) (block_at d t p).value

abbrev pub stmts_written : ℕ → ℕ → List ℕ → List Name → Keeping → Loop → ℕ → Emit
stmts_written d n t names keep w p = write_block names keep (loop_of w) (stmts_at d n t p).value

-- a branch without its end jump: condition, question over the block and the jump, block
unfoldable pub branch_written : List Name → Keeping → Loop → Expr → Block → Emit
branch_written names keep w c b = knowing (λ k. write_expr names c ⨟ one (JumpIfFalse (suc (measure_block names k b))) ⨟ write_block names keep (loop_of w) b)

-- what comes after a branch: its end jump, and the branches after it
unfoldable pub rest_written : List Name → Keeping → Loop → Branches → Emit
rest_written names keep w r = knowing (λ k. one (Jump (measure_hop names k r)) ⨟ write_branches names keep (loop_of w) r)

-- a while
unfoldable pub while_written : List Name → Keeping → Expr → Block → Emit
while_written names keep c b = knowing (λ k. write_loop (measure_expr names k c) (measure_block names k b) (write_expr names c) (λ v. write_block names keep v b))

-- the rounds of a for, whose iterator g keeps
unfoldable pub rounds_written : List Name → Keeping → Name → Keeper → Block → Emit
rounds_written names keep x g b =
    knowing (λ k. write_loop measure_ask (measure_take + measure_block names k b) (ask_iter g) (λ v. take_iter names x g ⨟ write_block names keep v b))

-- a for
unfoldable pub for_written : List Name → Keeping → Name → Expr → Block → Emit
for_written names keep x e b = write_for names keep x (write_expr names e) (λ k. measure_block names k b) (λ v. write_block names (past 1 keep) v b)
