-- Statements and blocks: each part by the laws of its steps.
use Prim.Native.Nat.{ℕ, ◌+◌, ◌-◌}
use mathlib.Core.Path.{refl, sym, ap, ◌∙◌, subst}
use mathlib.Core.Bool.{false}
use native.Mathlib.Omega.{arith}
use lib.Seq.{length-take-le}
use Rattle.definitions.specs.Slots.{loops_branches}
use Rattle.numerals.specs.Kinds.{stmt_byte}
use Rattle.numerals.specs.declared.kinds.StmtKind.TheVariants.{Break, Continue, If, While, For, Def, Class}
use Rattle.tree_view.specs.Places.{count_at, name_end}
use Rattle.tree_view.specs.ExprAt.{expr_at}
use Rattle.tree_view.specs.StmtAt.{body_at, class_methods_at, block_at, branches_at}
use Rattle.tree_view.proofs.LoopsAt.{block-loops, loops-at, no-else-loops, else-loops, if-loops, while-loops, for-loops, other-loops}
use Rattle.state.specs.Words.{name_at}
use Rattle.state.specs.State.{slots_from, slot_names}
use Rattle.state.specs.Kept.{keeping_of, Spare}
use Rattle.state.proofs.Kept.{passes_over, passes-done, passes_none, spare-first, spare-then, keeping-then, passes_then}
use Rattle.definitions.proofs.Growth.{lengthens-emits}
use Rattle.lower_forms.proofs.Sole.{sole-at}
use Rattle.lower_forms.specs.Lowerable.{of_names}
use Rattle.lower_emit.proofs.Steps.{sound-next, lowers-by, lowers_then, lowers-stopped, writes-in}
use Rattle.lower_emit.proofs.Parts.{emits-by, emits-state, emits-stopped, emits-words, emits-no-words, words-end, words-none}
use Rattle.lower_names.proofs.Symbols.{naming-sound}
use Rattle.lower_forms.specs.Lowering.{end_of, function_code, class_code}
use Rattle.lower_forms.proofs.Sequences.{block-at, elifs-at}
use Rattle.lower_forms.proofs.StmtArms.{block-parts, elifs-more, elifs-none, else-parts, else-in, else-one, none_is, methods-parts, stmts-more}
use Rattle.lower_forms.proofs.StmtArms.{arm-deep, arm-inside, arm-known, arm-break, arm-continue, arm-if, arm-while, arm-for, arm-def, arm-class}
use Rattle.lower_loops.specs.Iterators.{keeper_of}
use Rattle.lower_simple.proofs.KindBytes.{byte-is}
use Rattle.lower_blocks.proofs.Sequence.{passes-by, spare-at, block-stmts}
use Rattle.lower_blocks.proofs.Branches.{iterable-by, for-sound, for-loads, for-spare, for-passes}
use Rattle.lower_blocks.proofs.Functions.{function-parts, slots-stopped, function-over, function-sound, function-stopped, function-done, body-by, compiles-emits, reaches-lowers}
use Rattle.lower_blocks.proofs.Classes.{class-methods, methods-all, methods-sole, methods-done, methods-stopped, methods-number, methods-room, methods-next, class-lists}
use Rattle.lower_blocks.proofs.Classes.{class-over, class-sound, class-stopped, class-asks, class-many, class-done}
use Rattle.write_blocks.specs.Written.{BodyLowerable}
use Rattle.write_blocks.proofs.Growing.{grows-stmt, grows-block}
use Rattle.write_blocks.proofs.Jumping.{question-put, jump-put}
use Rattle.write_blocks.proofs.Sequence.{stmts-all, stmts-sound, stmts-spare, stmts-over, stmts-next, stmts-done, block-is, block_by, fits-at, started_on, started-next, keeps-written}
use Rattle.write_blocks.proofs.Branches.{branch-stopped, branch-long, branch-full, branch-done, if-stopped, if-done, else-long, else-full, else-done}
use Rattle.write_blocks.proofs.Asked.{asked-block, asked-branch, asked-branches}
use Rattle.write_stmts.proofs.Arms.{written-break, written-continue, written-if, written-while, written-for, same-def, same-class, same-simple, below-six, none-as, else-as}
use Rattle.write_blocks.proofs.Elifs.{elifs-all, elifs-sound, elifs-spare, elifs-long, elifs-full, elifs-over, elifs-next, elifs-rest, elifs-last}
use Rattle.write_blocks.proofs.Whiles.{while-stopped, while-long, while-full, while-over, while-ends, rounds-stopped, rounds-long, rounds-full, rounds-over, rounds-ends}
use Rattle.write_blocks.proofs.Fors.{for-stopped, for-over, for-done}
use Rattle.write_blocks.proofs.Body.{body-emits}
use Rattle.write_stmts.proofs.+write.Goals as goal

-- ---- write_stmt

pub write_stmt-bounds-s-at : goal.write_stmt-bounds-s-at
write_stmt-bounds-s-at t c = arm-inside _ _ _ c.requires.1

pub write_stmt-of-requires : goal.write_stmt-of-requires
write_stmt-of-requires t c = arm-known _ _ _ c.requires.1

pub write_stmt-overflow_sub-below : goal.write_stmt-overflow_sub-below
write_stmt-overflow_sub-below t c = omega (arith, arm-deep _ _ _ c.requires.1)

pub write_stmt-write_if-requires : goal.write_stmt-write_if-requires
unfolding stmt_byte
write_stmt-write_if-requires t c = (
  omega (arith, c.decreases, arm-deep _ _ _ c.requires.1),
  (
    c.requires.0,
    (arm-if _ _ _ c.requires.1 (byte-is If c.of.ensures c.in-If.is)).parts,
    subst (Spare c.args.it.now) (sym (if-loops _ _ _ c.requires.1.reads (byte-is If c.of.ensures c.in-If.is))) c.requires.2,
    c.requires.3,
  ),
)

pub write_stmt-returns-in-If-clause-written : goal.write_stmt-returns-in-If-clause-written
unfolding stmt_byte
write_stmt-returns-in-If-clause-written t c =
    let k = byte-is If c.of.ensures c.in-If.is in
    (emits-by c.write_if.ensures.0 (written-if _ _ _ c.requires.1 _ _ c.args.around k) (arm-if _ _ _ c.requires.1 k).end, passes-by (if-loops _ _ _ c.requires.1.reads k) c.write_if.ensures.1)

pub write_stmt-returns-in-If-clause-before : goal.write_stmt-returns-in-If-clause-before
write_stmt-returns-in-If-clause-before t c = keeps-written (grows-stmt _ _ _ _) (write_stmt-returns-in-If-clause-written t c).0

pub write_stmt-write_while-requires : goal.write_stmt-write_while-requires
unfolding stmt_byte
write_stmt-write_while-requires t c = (
  omega (arith, c.decreases, arm-deep _ _ _ c.requires.1),
  (
    c.requires.0,
    (arm-while _ _ _ c.requires.1 (byte-is While c.of.ensures c.in-While.is)).parts,
    subst (Spare c.args.it.now) (sym (while-loops _ _ _ c.requires.1.reads (byte-is While c.of.ensures c.in-While.is))) c.requires.2,
  ),
)

pub write_stmt-returns-in-While-clause-written : goal.write_stmt-returns-in-While-clause-written
unfolding stmt_byte
write_stmt-returns-in-While-clause-written t c =
    let k = byte-is While c.of.ensures c.in-While.is in
    (emits-by c.write_while.ensures.0 (written-while _ _ _ c.requires.1 _ _ c.args.around k) (arm-while _ _ _ c.requires.1 k).end, passes-by (while-loops _ _ _ c.requires.1.reads k) c.write_while.ensures.1)

pub write_stmt-returns-in-While-clause-before : goal.write_stmt-returns-in-While-clause-before
write_stmt-returns-in-While-clause-before t c = keeps-written (grows-stmt _ _ _ _) (write_stmt-returns-in-While-clause-written t c).0

pub write_stmt-write_for-requires : goal.write_stmt-write_for-requires
unfolding stmt_byte
write_stmt-write_for-requires t c = (
  omega (arith, c.decreases, arm-deep _ _ _ c.requires.1),
  (
    c.requires.0,
    (arm-for _ _ _ c.requires.1 (byte-is For c.of.ensures c.in-For.is)).parts,
    subst (Spare c.args.it.now) (sym (for-loops _ _ _ c.requires.1.reads (byte-is For c.of.ensures c.in-For.is))) c.requires.2,
  ),
)

pub write_stmt-returns-in-For-clause-written : goal.write_stmt-returns-in-For-clause-written
unfolding stmt_byte
write_stmt-returns-in-For-clause-written t c =
    let k = byte-is For c.of.ensures c.in-For.is in
    (emits-by c.write_for.ensures.0 (written-for _ _ _ c.requires.1 _ _ c.args.around k) (arm-for _ _ _ c.requires.1 k).end, passes-by (for-loops _ _ _ c.requires.1.reads k) c.write_for.ensures.1)

pub write_stmt-returns-in-For-clause-before : goal.write_stmt-returns-in-For-clause-before
write_stmt-returns-in-For-clause-before t c = keeps-written (grows-stmt _ _ _ _) (write_stmt-returns-in-For-clause-written t c).0

pub write_stmt-write_function-requires : goal.write_stmt-write_function-requires
unfolding stmt_byte
write_stmt-write_function-requires t c = (omega (arith, c.decreases, arm-deep _ _ _ c.requires.1), (c.requires.0, (arm-def _ _ _ c.requires.1 (byte-is Def c.of.ensures c.in-Def.is)).parts))

pub write_stmt-returns-in-Def-clause-written : goal.write_stmt-returns-in-Def-clause-written
unfolding stmt_byte
write_stmt-returns-in-Def-clause-written t c =
    let k = byte-is Def c.of.ensures c.in-Def.is in
    let m = arm-def _ _ _ c.requires.1 k in
    let keep = keeping_of c.args.it.now in
    let h = emits-by (compiles-emits (function_code (c.args.depth - 1) c.args.s.tree.now (c.args.at + 1) false) c.write_function.ensures) (sym (m.code (slot_names c.args.s.tree.now c.args.s.slots.now) keep)) m.end in (
      emits-state h (same-def _ _ _ c.requires.1 _ keep c.args.around c.requires.0.sound k) refl,
      passes-by (other-loops _ _ _ c.requires.1.reads (λ h. omega (arith, k))) passes_none,
    )

pub write_stmt-returns-in-Def-clause-before : goal.write_stmt-returns-in-Def-clause-before
write_stmt-returns-in-Def-clause-before t c = keeps-written (grows-stmt _ _ _ _) (write_stmt-returns-in-Def-clause-written t c).0

pub write_stmt-write_class-requires : goal.write_stmt-write_class-requires
unfolding stmt_byte
write_stmt-write_class-requires t c = (omega (arith, c.decreases, arm-deep _ _ _ c.requires.1), (c.requires.0, (arm-class _ _ _ c.requires.1 (byte-is Class c.of.ensures c.in-Class.is)).parts))

pub write_stmt-returns-in_err-write_class-in-Class-clause-written : goal.write_stmt-returns-in_err-write_class-in-Class-clause-written
unfolding stmt_byte
write_stmt-returns-in_err-write_class-in-Class-clause-written t c =
    let k = byte-is Class c.of.ensures c.in-Class.is in
    let keep = keeping_of c.args.it.now in
    let m = arm-class _ _ _ c.requires.1 k in
    let code = class_code (name_at c.args.s.tree.now (c.args.at + 1)) (class_methods_at (c.args.depth - 1) c.args.s.tree.now (c.args.at + 1)).value in
    let h = lowers-by (reaches-lowers code c.write_class.ensures) (sym (m.code (slot_names c.args.s.tree.now c.args.s.slots.now) keep)) in
    (emits-state (words-none c.in_err-write_class-in-Class.was c.from_residual.ensures h) (same-class _ _ _ c.requires.1 _ keep c.args.around c.requires.0.sound k) refl, passes_over c.from_residual.ensures)

pub write_stmt-returns-in_err-write_class-in-Class-clause-before : goal.write_stmt-returns-in_err-write_class-in-Class-clause-before
write_stmt-returns-in_err-write_class-in-Class-clause-before t c = keeps-written (grows-stmt _ _ _ _) (write_stmt-returns-in_err-write_class-in-Class-clause-written t c).0

pub write_stmt-returns-in_ok-write_class-in-Class-clause-written : goal.write_stmt-returns-in_ok-write_class-in-Class-clause-written
unfolding stmt_byte
write_stmt-returns-in_ok-write_class-in-Class-clause-written t c =
    let k = byte-is Class c.of.ensures c.in-Class.is in
    let keep = keeping_of c.args.it.now in
    let m = arm-class _ _ _ c.requires.1 k in
    let code = class_code (name_at c.args.s.tree.now (c.args.at + 1)) (class_methods_at (c.args.depth - 1) c.args.s.tree.now (c.args.at + 1)).value in
    let h = lowers-by (reaches-lowers code c.write_class.ensures) (sym (m.code (slot_names c.args.s.tree.now c.args.s.slots.now) keep)) in (
      emits-state (words-end c.in_ok-write_class-in-Class.was c.skip_stmt.ensures h) (same-class _ _ _ c.requires.1 _ keep c.args.around c.requires.0.sound k) refl,
      passes-by (other-loops _ _ _ c.requires.1.reads (λ h. omega (arith, k))) passes_none,
    )

pub write_stmt-returns-in_ok-write_class-in-Class-clause-before : goal.write_stmt-returns-in_ok-write_class-in-Class-clause-before
write_stmt-returns-in_ok-write_class-in-Class-clause-before t c = keeps-written (grows-stmt _ _ _ _) (write_stmt-returns-in_ok-write_class-in-Class-clause-written t c).0

-- ---- write_stmt: break, continue, and statements that hold no block

pub write_stmt-put_ahead-requires : goal.write_stmt-put_ahead-requires
write_stmt-put_ahead-requires t c = (c.requires.0.sound.sound.base, omega (arith, c.args.around.few))

pub write_stmt-returns-in_err-put_ahead-in-Break-clause-written : goal.write_stmt-returns-in_err-put_ahead-in-Break-clause-written
unfolding stmt_byte
write_stmt-returns-in_err-put_ahead-in-Break-clause-written t c =
    let k = byte-is Break c.of.ensures c.in-Break.is in
    let h = lowers-by (writes-in c.requires.0.sound refl c.put_ahead.ensures) (written-break _ _ _ c.requires.1 _ (keeping_of c.args.it.now) c.args.around k) in
    (words-none c.in_err-put_ahead-in-Break.was c.from_residual-in_err-put_ahead-in-Break.ensures h, passes_over c.from_residual-in_err-put_ahead-in-Break.ensures)

pub write_stmt-returns-in_err-put_ahead-in-Break-clause-before : goal.write_stmt-returns-in_err-put_ahead-in-Break-clause-before
write_stmt-returns-in_err-put_ahead-in-Break-clause-before t c = keeps-written (grows-stmt _ _ _ _) (write_stmt-returns-in_err-put_ahead-in-Break-clause-written t c).0

pub write_stmt-returns-in_ok-put_ahead-in-Break-clause-written : goal.write_stmt-returns-in_ok-put_ahead-in-Break-clause-written
unfolding stmt_byte
write_stmt-returns-in_ok-put_ahead-in-Break-clause-written t c =
    let k = byte-is Break c.of.ensures c.in-Break.is in
    let h = lowers-by (writes-in c.requires.0.sound refl c.put_ahead.ensures) (written-break _ _ _ c.requires.1 _ (keeping_of c.args.it.now) c.args.around k) in (
      words-end c.in_ok-put_ahead-in-Break.was (arm-break _ _ _ c.requires.1 k).end h,
      passes-by (other-loops _ _ _ c.requires.1.reads (λ h. omega (arith, k))) passes_none,
    )

pub write_stmt-returns-in_ok-put_ahead-in-Break-clause-before : goal.write_stmt-returns-in_ok-put_ahead-in-Break-clause-before
write_stmt-returns-in_ok-put_ahead-in-Break-clause-before t c = keeps-written (grows-stmt _ _ _ _) (write_stmt-returns-in_ok-put_ahead-in-Break-clause-written t c).0

pub write_stmt-put_back-requires : goal.write_stmt-put_back-requires
write_stmt-put_back-requires t c = c.requires.3

pub write_stmt-returns-in_err-put_back-in-Continue-clause-written : goal.write_stmt-returns-in_err-put_back-in-Continue-clause-written
unfolding stmt_byte
write_stmt-returns-in_err-put_back-in-Continue-clause-written t c =
    let k = byte-is Continue c.of.ensures c.in-Continue.is in
    let h = lowers-by (writes-in c.requires.0.sound refl c.put_back.ensures) (written-continue _ _ _ c.requires.1 _ (keeping_of c.args.it.now) c.args.around k) in
    (words-none c.in_err-put_back-in-Continue.was c.from_residual-in_err-put_back-in-Continue.ensures h, passes_over c.from_residual-in_err-put_back-in-Continue.ensures)

pub write_stmt-returns-in_err-put_back-in-Continue-clause-before : goal.write_stmt-returns-in_err-put_back-in-Continue-clause-before
write_stmt-returns-in_err-put_back-in-Continue-clause-before t c = keeps-written (grows-stmt _ _ _ _) (write_stmt-returns-in_err-put_back-in-Continue-clause-written t c).0

pub write_stmt-returns-in_ok-put_back-in-Continue-clause-written : goal.write_stmt-returns-in_ok-put_back-in-Continue-clause-written
unfolding stmt_byte
write_stmt-returns-in_ok-put_back-in-Continue-clause-written t c =
    let k = byte-is Continue c.of.ensures c.in-Continue.is in
    let h = lowers-by (writes-in c.requires.0.sound refl c.put_back.ensures) (written-continue _ _ _ c.requires.1 _ (keeping_of c.args.it.now) c.args.around k) in (
      words-end c.in_ok-put_back-in-Continue.was (arm-continue _ _ _ c.requires.1 k).end h,
      passes-by (other-loops _ _ _ c.requires.1.reads (λ h. omega (arith, k))) passes_none,
    )

pub write_stmt-returns-in_ok-put_back-in-Continue-clause-before : goal.write_stmt-returns-in_ok-put_back-in-Continue-clause-before
write_stmt-returns-in_ok-put_back-in-Continue-clause-before t c = keeps-written (grows-stmt _ _ _ _) (write_stmt-returns-in_ok-put_back-in-Continue-clause-written t c).0

pub write_stmt-emit_simple-requires : goal.write_stmt-emit_simple-requires
write_stmt-emit_simple-requires t c = (c.requires.0, c.requires.1, (below-six c.of.ensures c.in-Pass.is).0)

pub write_stmt-returns-in-Pass-clause-written : goal.write_stmt-returns-in-Pass-clause-written
write_stmt-returns-in-Pass-clause-written t c =
    let keep = keeping_of c.args.it.now in (
      emits-state (c.emit_simple.ensures keep) (same-simple _ _ _ c.requires.1 _ keep c.args.around c.requires.0.sound c.of.ensures c.in-Pass.is) refl,
      passes-by (other-loops _ _ _ c.requires.1.reads (λ h. omega (arith, below-six c.of.ensures c.in-Pass.is))) passes_none,
    )

pub write_stmt-returns-in-Pass-clause-before : goal.write_stmt-returns-in-Pass-clause-before
write_stmt-returns-in-Pass-clause-before t c = keeps-written (grows-stmt _ _ _ _) (write_stmt-returns-in-Pass-clause-written t c).0

-- ---- write_block

pub write_block-u16_at-count-requires : goal.write_block-u16_at-count-requires
write_block-u16_at-count-requires t c = (block-parts _ _ _ c.requires.1).0

pub write_block-loop-init : goal.write_block-loop-init
write_block-loop-init t c =
    stmts-all (slot_names c.args.s.tree.now c.args.s.slots.now) _ (omega arith) c.requires.0.sound (block-stmts _ _ _ _ c.requires.1 c.u16_at-count.ensures.0) c.requires.3
    (subst (Spare c.args.it.now) (sym (block-loops _ _ c.requires.1.reads c.u16_at-count.ensures.0 refl)) c.requires.2)

pub write_block-write_stmt-requires : goal.write_block-write_stmt-requires
write_block-write_stmt-requires t c = (
  omega (arith, c.decreases),
  (
    sole-at c.requires.0 (stmts-sound c.loop.invariant),
    (stmts-more _ _ _ _ (omega (arith, c.loop-test.true)) c.loop.invariant.stmts).0,
    stmts-spare c.loop.invariant (omega (arith, c.loop-test.true)),
    c.loop.invariant.started,
  ),
)

pub write_block-returns-in_err-p-clause-written : goal.write_block-returns-in_err-p-clause-written
write_block-returns-in_err-p-clause-written t c =
    block-is _ _ _ c.args.around _ _ c.requires.1 c.u16_at-count.ensures.0 (stmts-over c.loop.invariant (omega (arith, c.loop-test.true)) c.write_stmt.ensures.written.0 c.in_err-p.was c.from_residual.ensures)

pub write_block-returns-in_err-p-clause-before : goal.write_block-returns-in_err-p-clause-before
write_block-returns-in_err-p-clause-before t c = keeps-written (grows-block _ _ _ _) (write_block-returns-in_err-p-clause-written t c).0

pub write_block-loop-preserved : goal.write_block-loop-preserved
write_block-loop-preserved t c = stmts-next c.loop.invariant (omega (arith, c.loop-test.true)) c.write_stmt.ensures.written.0 _ (omega arith) c.in_ok-p.was c.write_stmt.ensures.written.1

pub write_block-returns-clause-written : goal.write_block-returns-clause-written
write_block-returns-clause-written t c = block-is _ _ _ c.args.around _ _ c.requires.1 c.u16_at-count.ensures.0 (stmts-done c.loop.invariant (omega (arith, c.loop-test.false)))

pub write_block-returns-clause-before : goal.write_block-returns-clause-before
write_block-returns-clause-before t c = keeps-written (grows-block _ _ _ _) (write_block-returns-clause-written t c).0

-- ---- write_branch

pub write_branch-emit_expr-requires : goal.write_branch-emit_expr-requires
write_branch-emit_expr-requires t c = (c.requires.0, c.requires.1.condition)

pub write_branch-returns-in_err-block : goal.write_branch-returns-in_err-block
write_branch-returns-in_err-block t c =
    (branch-stopped c.requires.0.sound _ (keeping_of c.args.it.now) c.args.around (asked-branch c.requires.1) c.emit_expr.ensures c.in_err-block.was c.from_residual.ensures, passes_over c.from_residual.ensures)

pub write_branch-block_size-requires : goal.write_branch-block_size-requires
write_branch-block_size-requires t c =
    let g = c.emit_expr.ensures in
    (sole-at c.requires.0 (sound-next c.in_ok-block.was g.lowers.reaches), (block-at _ _ _ _ (g.place _ c.in_ok-block.was) c.requires.1.block).reads)

pub write_branch-returns-in_err-n : goal.write_branch-returns-in_err-n
write_branch-returns-in_err-n t c =
    let g = c.emit_expr.ensures in
    let F = fits-at c.args.depth c.args.s.tree.now _ _ (g.place _ c.in_ok-block.was) c.block_size.ensures in
    (branch-long c.requires.0.sound _ (keeping_of c.args.it.now) c.args.around (asked-branch c.requires.1) g c.in_ok-block.was F refl c.in_err-n.was c.from_residual-in_err-n.ensures, passes_over c.from_residual-in_err-n.ensures)

pub write_branch-returns-in_err-put_op : goal.write_branch-returns-in_err-put_op
write_branch-returns-in_err-put_op t c =
    let g = c.emit_expr.ensures in
    let F = fits-at c.args.depth c.args.s.tree.now _ _ (g.place _ c.in_ok-block.was) c.block_size.ensures in
    let j = question-put (sound-next c.in_ok-block.was g.lowers.reaches) refl (omega (arith, F.few _ c.in_ok-n.was, c.emit_expr.new.e.code.code_limit)) c.put_op.ensures in (
      branch-full c.requires.0.sound _ (keeping_of c.args.it.now) c.args.around (asked-branch c.requires.1) g c.in_ok-block.was (F.is _ c.in_ok-n.was) j c.in_err-put_op.was c.from_residual-in_err-put_op.ensures,
      passes_over c.from_residual-in_err-put_op.ensures,
    )

pub write_branch-write_block-requires : goal.write_branch-write_block-requires
write_branch-write_block-requires t c =
    let g = c.emit_expr.ensures in
    let place = g.place _ c.in_ok-block.was in
    let F = fits-at c.args.depth c.args.s.tree.now _ _ place c.block_size.ensures in
    let S = sound-next c.in_ok-block.was g.lowers.reaches in
    let j = question-put S refl (omega (arith, F.few _ c.in_ok-n.was, c.emit_expr.new.e.code.code_limit)) c.put_op.ensures in (
      omega (arith, c.decreases),
      (
        sole-at c.requires.0 (sound-next c.in_ok-put_op.was j.reaches),
        block-at _ _ _ _ place c.requires.1.block,
        spare-at _ _ place c.requires.2,
        started-next c.args.around.start _ _ c.requires.0.sound S (g.lowers.reaches.done _ c.in_ok-block.was) (j.reaches.done _ c.in_ok-put_op.was) c.requires.3,
      ),
    )

pub write_branch-returns : goal.write_branch-returns
write_branch-returns t c =
    let g = c.emit_expr.ensures in
    let place = g.place _ c.in_ok-block.was in
    let F = fits-at c.args.depth c.args.s.tree.now _ _ place c.block_size.ensures in
    let j = question-put (sound-next c.in_ok-block.was g.lowers.reaches) refl (omega (arith, F.few _ c.in_ok-n.was, c.emit_expr.new.e.code.code_limit)) c.put_op.ensures in
    let b = block_by c.args.depth c.args.s.tree.now _ _ _ place c.write_block.ensures.written in
    (branch-done c.requires.0.sound _ (keeping_of c.args.it.now) c.args.around (asked-branch c.requires.1) g c.in_ok-block.was (F.is _ c.in_ok-n.was) j c.in_ok-put_op.was b.0, b.1)

-- ---- write_if

pub write_if-write_branch-requires : goal.write_if-write_branch-requires
write_if-write_branch-requires t c = (omega (arith, c.decreases), (c.requires.0, c.requires.1.first, spare-first _ _ _ c.requires.2, c.requires.3))

pub write_if-returns-in_err-p : goal.write_if-returns-in_err-p
write_if-returns-in_err-p t c = (
  if-stopped c.requires.0.sound _ (keeping_of c.args.it.now) c.args.around (asked-branch c.requires.1.first) (asked-branches c.requires.1.rest) c.write_branch.ensures.0 c.in_err-p.was c.from_residual.ensures,
  passes_over c.from_residual.ensures,
)

pub write_if-write_elifs-requires : goal.write_if-write_elifs-requires
write_if-write_elifs-requires t c =
    let tree = c.args.s.tree.now in
    let g = c.write_branch.ensures.0 in
    let place = g.place _ c.in_ok-p.was in
    let n = c.u16_at-count.ensures.0 ∙ ap (count_at tree) place in
    let p = ap (λ (x : ℕ). x + 2) place in (
      omega (arith, c.decreases),
      (
        sole-at c.requires.0 (sound-next c.in_ok-p.was g.lowers.reaches),
        elifs-at _ _ _ _ _ _ n p c.requires.1.rest,
        spare-then c.in_ok-p.was c.write_branch.ensures.1 c.requires.2 (sym (λ i. loops_branches (branches_at c.args.depth (n i) tree (p i)).value)),
        started_on c.args.around.start _ c.requires.0.sound (g.lowers.reaches.done _ c.in_ok-p.was) c.requires.3,
      ),
    )

pub write_if-returns : goal.write_if-returns
write_if-returns t c =
    let tree = c.args.s.tree.now in
    let g = c.write_branch.ensures.0 in
    let place = g.place _ c.in_ok-p.was in
    let n = c.u16_at-count.ensures.0 ∙ ap (count_at tree) place in
    let p = ap (λ (x : ℕ). x + 2) place in
    let passed = c.write_branch.ensures.1 in (
      if-done c.requires.0.sound _ (keeping_of c.args.it.now) c.args.around (asked-branch c.requires.1.first) (asked-branches c.requires.1.rest) g c.in_ok-p.was
          (keeping-then c.in_ok-p.was passed (spare-first _ _ _ c.requires.2)) (λ i. (branches_at c.args.depth (n i) tree (p i)).value) (λ i. (branches_at c.args.depth (n i) tree (p i)).end) c.write_elifs.ensures.0,
      passes_then c.requires.2 c.in_ok-p.was passed (passes-by (λ i. loops_branches (branches_at c.args.depth (n i) tree (p i)).value) c.write_elifs.ensures.1),
    )

-- ---- write_elifs

pub write_elifs-loop-init : goal.write_elifs-loop-init
write_elifs-loop-init t c = elifs-all (slot_names c.args.s.tree.now c.args.s.slots.now) _ (omega arith) c.requires.0.sound c.requires.1 c.requires.3 c.requires.2

pub write_elifs-write_else-requires : goal.write_elifs-write_else-requires
write_elifs-write_else-requires t c = (
  omega (arith, c.decreases),
  (
    sole-at c.requires.0 (elifs-sound c.loop.invariant),
    elifs-none _ _ _ _ (omega (arith, c.loop-test.false)) c.loop.invariant.branches,
    elifs-rest c.loop.invariant (omega (arith, c.loop-test.false)),
    c.loop.invariant.started,
  ),
)

pub write_elifs-returns : goal.write_elifs-returns
write_elifs-returns t c = elifs-last c.loop.invariant (omega (arith, c.loop-test.false)) c.write_else.ensures

pub write_elifs-branch_size-requires : goal.write_elifs-branch_size-requires
write_elifs-branch_size-requires t c =
    let r = (elifs-more _ _ _ _ (omega (arith, c.loop-test.true)) c.loop.invariant.branches).0 in
    (sole-at c.requires.0 (elifs-sound c.loop.invariant), record { condition = r.condition.reads; block = r.block.reads })

pub write_elifs-returns-in_err-n : goal.write_elifs-returns-in_err-n
write_elifs-returns-in_err-n t c = elifs-long c.loop.invariant (omega (arith, c.loop-test.true)) c.branch_size.ensures refl c.in_err-n.was c.from_residual.ensures

pub write_elifs-overflow_sub-n : goal.write_elifs-overflow_sub-n
write_elifs-overflow_sub-n t c = omega (arith, c.branch_size.ensures.is _ c.in_ok-n.was)

pub write_elifs-put_op-requires : goal.write_elifs-put_op-requires
write_elifs-put_op-requires t c = (omega arith, omega (arith, c.branch_size.ensures.few _ c.in_ok-n.was, c.loop.e.code.code_limit), omega arith)

pub write_elifs-returns-in_err-put_op : goal.write_elifs-returns-in_err-put_op
write_elifs-returns-in_err-put_op t c =
    let F = c.branch_size.ensures in
    let j = jump-put (elifs-sound c.loop.invariant) refl (omega (arith, F.few _ c.in_ok-n.was, c.loop.e.code.code_limit)) c.put_op.ensures in
    elifs-full c.loop.invariant (omega (arith, c.loop-test.true)) (F.is _ c.in_ok-n.was) j c.in_err-put_op.was c.from_residual-in_err-put_op.ensures

pub write_elifs-write_branch-requires : goal.write_elifs-write_branch-requires
write_elifs-write_branch-requires t c =
    let S = elifs-sound c.loop.invariant in
    let j = jump-put S refl (omega (arith, c.branch_size.ensures.few _ c.in_ok-n.was, c.loop.e.code.code_limit)) c.put_op.ensures in (
      omega (arith, c.decreases),
      (
        sole-at c.requires.0 (sound-next c.in_ok-put_op.was j.reaches),
        (elifs-more _ _ _ _ (omega (arith, c.loop-test.true)) c.loop.invariant.branches).0,
        elifs-spare c.loop.invariant (omega (arith, c.loop-test.true)),
        started_on c.args.around.start _ S (j.reaches.done _ c.in_ok-put_op.was) c.loop.invariant.started,
      ),
    )

pub write_elifs-returns-in_err-p : goal.write_elifs-returns-in_err-p
write_elifs-returns-in_err-p t c =
    let F = c.branch_size.ensures in
    let j = jump-put (elifs-sound c.loop.invariant) refl (omega (arith, F.few _ c.in_ok-n.was, c.loop.e.code.code_limit)) c.put_op.ensures in
    elifs-over c.loop.invariant (omega (arith, c.loop-test.true)) (F.is _ c.in_ok-n.was) j c.in_ok-put_op.was c.write_branch.ensures.0 c.in_err-p.was c.from_residual-in_err-p.ensures

pub write_elifs-loop-preserved : goal.write_elifs-loop-preserved
write_elifs-loop-preserved t c =
    let F = c.branch_size.ensures in
    let j = jump-put (elifs-sound c.loop.invariant) refl (omega (arith, F.few _ c.in_ok-n.was, c.loop.e.code.code_limit)) c.put_op.ensures in
    elifs-next c.loop.invariant (omega (arith, c.loop-test.true)) (F.is _ c.in_ok-n.was) j c.in_ok-put_op.was c.write_branch.ensures.0 _ (omega arith) c.in_ok-p.was c.write_branch.ensures.1

-- ---- write_else

pub write_else-bounds-s-at : goal.write_else-bounds-s-at
write_else-bounds-s-at t c = else-in _ _ _ c.requires.1

pub write_else-returns-in_err-put_op : goal.write_else-returns-in_err-put_op
write_else-returns-in_err-put_op t c =
    let j = jump-put c.requires.0.sound refl (omega arith) c.put_op.ensures in
    (words-none c.in_err-put_op.was c.from_residual.ensures (none-as _ (keeping_of c.args.it.now) c.args.around c.requires.0.sound c.requires.1 c.if-s-at-eq0.true j), passes_over c.from_residual.ensures)

pub write_else-returns-then-s-at-eq0 : goal.write_else-returns-then-s-at-eq0
write_else-returns-then-s-at-eq0 t c =
    let j = jump-put c.requires.0.sound refl (omega arith) c.put_op.ensures in (
      words-end c.in_ok-put_op.was (sym (ap (λ x. x.end) (none_is _ _ _ c.requires.1 c.if-s-at-eq0.true))) (none-as _ (keeping_of c.args.it.now) c.args.around c.requires.0.sound c.requires.1 c.if-s-at-eq0.true j),
      passes-by (no-else-loops _ _ c.requires.1.reads c.if-s-at-eq0.true) passes_none,
    )

pub write_else-block_size-requires : goal.write_else-block_size-requires
write_else-block_size-requires t c = (c.requires.0, (else-parts _ _ _ c.requires.1 (else-one _ _ _ c.requires.1 c.if-s-at-eq0.false)).0.reads)

pub write_else-returns-in_err-n : goal.write_else-returns-in_err-n
write_else-returns-in_err-n t c =
    let e = else-parts _ _ _ c.requires.1 (else-one _ _ _ c.requires.1 c.if-s-at-eq0.false) in (
      else-as _ (keeping_of c.args.it.now) c.args.around c.requires.1 e.1
          (else-long c.requires.0.sound _ (keeping_of c.args.it.now) c.args.around _ (asked-block e.0) c.block_size.ensures refl c.in_err-n.was c.from_residual-in_err-n.ensures),
      passes_over c.from_residual-in_err-n.ensures,
    )

pub write_else-returns-in_err-put_op-2 : goal.write_else-returns-in_err-put_op-2
write_else-returns-in_err-put_op-2 t c =
    let e = else-parts _ _ _ c.requires.1 (else-one _ _ _ c.requires.1 c.if-s-at-eq0.false) in
    let F = c.block_size.ensures in
    let j = jump-put c.requires.0.sound refl (omega (arith, F.few _ c.in_ok-n.was, c.args.e.now.code.code_limit)) c.put_op-2.ensures in (
      else-as _ (keeping_of c.args.it.now) c.args.around c.requires.1 e.1
          (else-full c.requires.0.sound _ (keeping_of c.args.it.now) c.args.around _ (asked-block e.0) (F.is _ c.in_ok-n.was) j c.in_err-put_op-2.was c.from_residual-in_err-put_op-2.ensures),
      passes_over c.from_residual-in_err-put_op-2.ensures,
    )

pub write_else-write_block-requires : goal.write_else-write_block-requires
write_else-write_block-requires t c =
    let e = else-parts _ _ _ c.requires.1 (else-one _ _ _ c.requires.1 c.if-s-at-eq0.false) in
    let F = c.block_size.ensures in
    let j = jump-put c.requires.0.sound refl (omega (arith, F.few _ c.in_ok-n.was, c.args.e.now.code.code_limit)) c.put_op-2.ensures in (
      omega (arith, c.decreases),
      (
        sole-at c.requires.0 (sound-next c.in_ok-put_op-2.was j.reaches),
        e.0,
        subst (Spare c.args.it.now) (sym (else-loops _ _ c.requires.1.reads c.if-s-at-eq0.false)) c.requires.2,
        started_on c.args.around.start _ c.requires.0.sound (j.reaches.done _ c.in_ok-put_op-2.was) c.requires.3,
      ),
    )

pub write_else-returns : goal.write_else-returns
write_else-returns t c =
    let e = else-parts _ _ _ c.requires.1 (else-one _ _ _ c.requires.1 c.if-s-at-eq0.false) in
    let F = c.block_size.ensures in
    let j = jump-put c.requires.0.sound refl (omega (arith, F.few _ c.in_ok-n.was, c.args.e.now.code.code_limit)) c.put_op-2.ensures in (
      else-as _ (keeping_of c.args.it.now) c.args.around c.requires.1 e.1
          (else-done c.requires.0.sound _ (keeping_of c.args.it.now) c.args.around _ (asked-block e.0) (F.is _ c.in_ok-n.was) j c.in_ok-put_op-2.was c.write_block.ensures.written.0),
      passes-by (else-loops _ _ c.requires.1.reads c.if-s-at-eq0.false) c.write_block.ensures.written.1,
    )

-- ---- write_while

pub write_while-place-start-requires : goal.write_while-place-start-requires
write_while-place-start-requires t c = c.requires.0.sound.sound.base

pub write_while-emit_expr-requires : goal.write_while-emit_expr-requires
write_while-emit_expr-requires t c = (c.requires.0, c.requires.1.condition)

pub write_while-returns-in_err-block : goal.write_while-returns-in_err-block
write_while-returns-in_err-block t c =
    (while-stopped c.requires.0.sound _ (keeping_of c.args.it.now) c.requires.1 c.emit_expr.ensures c.in_err-block.was c.from_residual.ensures, passes_over c.from_residual.ensures)

pub write_while-block_size-requires : goal.write_while-block_size-requires
write_while-block_size-requires t c =
    let g = c.emit_expr.ensures in
    (sole-at c.requires.0 (sound-next c.in_ok-block.was g.lowers.reaches), (block-at _ _ _ _ (g.place _ c.in_ok-block.was) c.requires.1.block).reads)

pub write_while-returns-in_err-n : goal.write_while-returns-in_err-n
write_while-returns-in_err-n t c =
    let g = c.emit_expr.ensures in
    let F = fits-at c.args.depth c.args.s.tree.now _ _ (g.place _ c.in_ok-block.was) c.block_size.ensures in
    (while-long c.requires.0.sound _ (keeping_of c.args.it.now) c.requires.1 g c.in_ok-block.was F refl c.in_err-n.was c.from_residual-in_err-n.ensures, passes_over c.from_residual-in_err-n.ensures)

pub write_while-returns-in_err-put_op : goal.write_while-returns-in_err-put_op
write_while-returns-in_err-put_op t c =
    let g = c.emit_expr.ensures in
    let F = fits-at c.args.depth c.args.s.tree.now _ _ (g.place _ c.in_ok-block.was) c.block_size.ensures in
    let j = question-put (sound-next c.in_ok-block.was g.lowers.reaches) refl (omega (arith, F.few _ c.in_ok-n.was, c.emit_expr.new.e.code.code_limit)) c.put_op.ensures in (
      while-full c.requires.0.sound _ (keeping_of c.args.it.now) c.requires.1 g c.in_ok-block.was (F.is _ c.in_ok-n.was) j c.in_err-put_op.was c.from_residual-in_err-put_op.ensures,
      passes_over c.from_residual-in_err-put_op.ensures,
    )

pub write_while-write_block-requires : goal.write_while-write_block-requires
write_while-write_block-requires t c =
    let g = c.emit_expr.ensures in
    let place = g.place _ c.in_ok-block.was in
    let F = fits-at c.args.depth c.args.s.tree.now _ _ place c.block_size.ensures in
    let S = sound-next c.in_ok-block.was g.lowers.reaches in
    let j = question-put S refl (omega (arith, F.few _ c.in_ok-n.was, c.emit_expr.new.e.code.code_limit)) c.put_op.ensures in (
      omega (arith, c.decreases),
      (
        sole-at c.requires.0 (sound-next c.in_ok-put_op.was j.reaches),
        block-at _ _ _ _ place c.requires.1.block,
        spare-at _ _ place c.requires.2,
        started-next _ _ _ c.requires.0.sound S (g.lowers.reaches.done _ c.in_ok-block.was) (j.reaches.done _ c.in_ok-put_op.was) (omega (arith, c.place-start.ensures)),
      ),
    )

pub write_while-returns-in_err-next : goal.write_while-returns-in_err-next
write_while-returns-in_err-next t c =
    let g = c.emit_expr.ensures in
    let place = g.place _ c.in_ok-block.was in
    let F = fits-at c.args.depth c.args.s.tree.now _ _ place c.block_size.ensures in
    let j = question-put (sound-next c.in_ok-block.was g.lowers.reaches) refl (omega (arith, F.few _ c.in_ok-n.was, c.emit_expr.new.e.code.code_limit)) c.put_op.ensures in
    let b = block_by c.args.depth c.args.s.tree.now _ _ _ place c.write_block.ensures.written in (
      while-over c.requires.0.sound _ (keeping_of c.args.it.now) c.requires.1 g c.in_ok-block.was (F.is _ c.in_ok-n.was) j c.in_ok-put_op.was _ b.0 c.place-start.ensures
          (omega (arith, c.place.ensures, (g.lowers.reaches.done _ c.in_ok-block.was).left.base, (j.reaches.done _ c.in_ok-put_op.was).left.base)) c.in_err-next.was c.from_residual-in_err-next.ensures,
      passes_over c.from_residual-in_err-next.ensures,
    )

pub write_while-put_back-requires : goal.write_while-put_back-requires
write_while-put_back-requires t c =
    let g = c.emit_expr.ensures in
    let F = fits-at c.args.depth c.args.s.tree.now _ _ (g.place _ c.in_ok-block.was) c.block_size.ensures in
    let S = sound-next c.in_ok-block.was g.lowers.reaches in
    let j = question-put S refl (omega (arith, F.few _ c.in_ok-n.was, c.emit_expr.new.e.code.code_limit)) c.put_op.ensures in
    started_on _ _ (sound-next c.in_ok-put_op.was j.reaches) (c.write_block.ensures.written.0.lowers.reaches.done _ c.in_ok-next.was)
    (started-next _ _ _ c.requires.0.sound S (g.lowers.reaches.done _ c.in_ok-block.was) (j.reaches.done _ c.in_ok-put_op.was) (omega (arith, c.place-start.ensures)))

pub write_while-returns-in_err-put_back : goal.write_while-returns-in_err-put_back
write_while-returns-in_err-put_back t c =
    let g = c.emit_expr.ensures in
    let place = g.place _ c.in_ok-block.was in
    let F = fits-at c.args.depth c.args.s.tree.now _ _ place c.block_size.ensures in
    let j = question-put (sound-next c.in_ok-block.was g.lowers.reaches) refl (omega (arith, F.few _ c.in_ok-n.was, c.emit_expr.new.e.code.code_limit)) c.put_op.ensures in
    let b = block_by c.args.depth c.args.s.tree.now _ _ _ place c.write_block.ensures.written in
    let f = writes-in (sound-next c.in_ok-next.was b.0.lowers.reaches) refl c.put_back.ensures in
    let h = while-ends c.requires.0.sound _ (keeping_of c.args.it.now) c.requires.1 g c.in_ok-block.was (F.is _ c.in_ok-n.was) j c.in_ok-put_op.was _ b.0 c.place-start.ensures
    (omega (arith, c.place.ensures, (g.lowers.reaches.done _ c.in_ok-block.was).left.base, (j.reaches.done _ c.in_ok-put_op.was).left.base)) c.in_ok-next.was f in
    (words-none c.in_err-put_back.was c.from_residual-in_err-put_back.ensures h, passes_over c.from_residual-in_err-put_back.ensures)

pub write_while-returns : goal.write_while-returns
write_while-returns t c =
    let g = c.emit_expr.ensures in
    let place = g.place _ c.in_ok-block.was in
    let F = fits-at c.args.depth c.args.s.tree.now _ _ place c.block_size.ensures in
    let j = question-put (sound-next c.in_ok-block.was g.lowers.reaches) refl (omega (arith, F.few _ c.in_ok-n.was, c.emit_expr.new.e.code.code_limit)) c.put_op.ensures in
    let b = block_by c.args.depth c.args.s.tree.now _ _ _ place c.write_block.ensures.written in
    let f = writes-in (sound-next c.in_ok-next.was b.0.lowers.reaches) refl c.put_back.ensures in
    let h = while-ends c.requires.0.sound _ (keeping_of c.args.it.now) c.requires.1 g c.in_ok-block.was (F.is _ c.in_ok-n.was) j c.in_ok-put_op.was _ b.0 c.place-start.ensures
    (omega (arith, c.place.ensures, (g.lowers.reaches.done _ c.in_ok-block.was).left.base, (j.reaches.done _ c.in_ok-put_op.was).left.base)) c.in_ok-next.was f in
    (words-end c.in_ok-put_back.was (b.0.place _ c.in_ok-next.was) h, passes-done c.in_ok-next.was refl b.1)

-- ---- write_for

pub write_for-returns-in_err-block : goal.write_for-returns-in_err-block
write_for-returns-in_err-block t c =
    let tree = c.args.s.tree.now in
    let g = iterable-by c.args.depth tree (slot_names tree c.args.s.slots.now) c.name_end-start.ensures c.emit_iterable.ensures in
    (for-stopped _ c.args.it.now _ (name_at tree c.args.at) _ (c.requires.1.loop.condition.asks 7 of_names) c.requires.0.sound g c.in_err-block.was c.from_residual.ensures, passes_over c.from_residual.ensures)

pub write_for-returns-in_err-load : goal.write_for-returns-in_err-load
write_for-returns-in_err-load t c =
    let tree = c.args.s.tree.now in
    let g = iterable-by c.args.depth tree (slot_names tree c.args.s.slots.now) c.name_end-start.ensures c.emit_iterable.ensures in (
      for-over _ c.args.it.now _ (name_at tree c.args.at) _ (c.requires.1.loop.condition.asks 7 of_names) c.requires.0.sound g c.in_ok-block.was c.store_iterator.ensures c.in_err-load.was c.from_residual-in_err-load.ensures,
      passes_over c.from_residual-in_err-load.ensures,
    )

pub write_for-write_rounds-requires : goal.write_for-write_rounds-requires
write_for-write_rounds-requires t c =
    let tree = c.args.s.tree.now in
    let names = slot_names tree c.args.s.slots.now in
    let expr = (expr_at c.args.depth tree (name_end tree c.args.at)).value in
    let body = (body_at c.args.depth tree (name_end tree c.args.at)).value in
    let g = iterable-by c.args.depth tree names c.name_end-start.ensures c.emit_iterable.ensures in
    let place = g.place _ c.in_ok-block.was in (
      omega (arith, c.decreases),
      (
        sole-at c.requires.0 (for-sound names c.args.it.now expr (name_at tree c.args.at) body c.requires.0.sound g c.in_ok-block.was c.store_iterator.ensures c.in_ok-load.was),
        c.requires.1.name,
        block-at _ _ _ _ place c.requires.1.loop.block,
        for-loads names c.args.it.now expr (name_at tree c.args.at) body c.requires.0.sound g c.in_ok-block.was c.store_iterator.ensures c.in_ok-load.was,
        spare-at _ _ place (for-spare names c.args.it.now expr (name_at tree c.args.at) body c.requires.0.sound g c.in_ok-block.was c.store_iterator.ensures c.in_ok-load.was c.requires.2),
      ),
    )

pub write_for-returns : goal.write_for-returns
write_for-returns t c =
    let tree = c.args.s.tree.now in
    let names = slot_names tree c.args.s.slots.now in
    let expr = (expr_at c.args.depth tree (name_end tree c.args.at)).value in
    let body = (body_at c.args.depth tree (name_end tree c.args.at)).value in
    let g = iterable-by c.args.depth tree names c.name_end-start.ensures c.emit_iterable.ensures in
    let place = g.place _ c.in_ok-block.was in (
      for-done _ c.args.it.now _ (name_at tree c.args.at) _ (c.requires.1.loop.condition.asks 7 of_names) c.requires.0.sound g c.in_ok-block.was c.store_iterator.ensures c.in_ok-load.was c.requires.2
          (λ i. (block_at c.args.depth tree (place i)).value) (λ i. (block_at c.args.depth tree (place i)).end) c.write_rounds.ensures.0,
      for-passes names c.args.it.now expr (name_at tree c.args.at) body c.requires.0.sound g c.in_ok-block.was c.store_iterator.ensures c.in_ok-load.was c.requires.2 (passes-by (loops-at _ _ place) c.write_rounds.ensures.1),
    )

-- ---- write_rounds

pub write_rounds-place-start-requires : goal.write_rounds-place-start-requires
write_rounds-place-start-requires t c = c.requires.0.sound.sound.base

pub write_rounds-ask_more-requires : goal.write_rounds-ask_more-requires
write_rounds-ask_more-requires t c = (c.requires.0.sound, c.requires.3)

pub write_rounds-returns-in_err-ask_more : goal.write_rounds-returns-in_err-ask_more
write_rounds-returns-in_err-ask_more t c = (
  rounds-stopped c.requires.0.sound _ (keeping_of c.args.it.now) (name_at c.args.s.tree.now c.args.at) (keeper_of c.args.load) c.requires.2 c.ask_more.ensures c.in_err-ask_more.was c.from_residual.ensures,
  passes_over c.from_residual.ensures,
)

pub write_rounds-block_size-requires : goal.write_rounds-block_size-requires
write_rounds-block_size-requires t c = (sole-at c.requires.0 (sound-next c.in_ok-ask_more.was c.ask_more.ensures.reaches), c.requires.2.reads)

pub write_rounds-returns-in_err-size : goal.write_rounds-returns-in_err-size
write_rounds-returns-in_err-size t c = (
  rounds-long c.requires.0.sound _ (keeping_of c.args.it.now) (name_at c.args.s.tree.now c.args.at) (keeper_of c.args.load) c.requires.2 c.ask_more.ensures
      c.in_ok-ask_more.was c.block_size.ensures refl c.in_err-size.was c.from_residual-in_err-size.ensures,
  passes_over c.from_residual-in_err-size.ensures,
)

pub write_rounds-returns-in_err-put_op : goal.write_rounds-returns-in_err-put_op
write_rounds-returns-in_err-put_op t c =
    let a = c.ask_more.ensures in
    let F = c.block_size.ensures in
    let j = question-put (sound-next c.in_ok-ask_more.was a.reaches) refl (omega (arith, F.few _ c.in_ok-size.was, c.ask_more.new.e.code.code_limit)) c.put_op.ensures in (
      rounds-full c.requires.0.sound _ (keeping_of c.args.it.now) (name_at c.args.s.tree.now c.args.at) (keeper_of c.args.load) c.requires.2 a c.in_ok-ask_more.was
          (F.is _ c.in_ok-size.was) j c.in_err-put_op.was c.from_residual-in_err-put_op.ensures,
      passes_over c.from_residual-in_err-put_op.ensures,
    )

pub write_rounds-take_iterator-requires : goal.write_rounds-take_iterator-requires
write_rounds-take_iterator-requires t c =
    let a = c.ask_more.ensures in
    let F = c.block_size.ensures in
    let j = question-put (sound-next c.in_ok-ask_more.was a.reaches) refl (omega (arith, F.few _ c.in_ok-size.was, c.ask_more.new.e.code.code_limit)) c.put_op.ensures in
    (sound-next c.in_ok-put_op.was j.reaches, omega (arith, c.requires.1.byte, c.requires.0.tree-short), c.requires.3)

pub write_rounds-returns-in_err-take_iterator : goal.write_rounds-returns-in_err-take_iterator
write_rounds-returns-in_err-take_iterator t c =
    let a = c.ask_more.ensures in
    let F = c.block_size.ensures in
    let j = question-put (sound-next c.in_ok-ask_more.was a.reaches) refl (omega (arith, F.few _ c.in_ok-size.was, c.ask_more.new.e.code.code_limit)) c.put_op.ensures in
    let z = c.in_err-take_iterator.was in
    let b = (block_at c.args.depth c.args.s.tree.now c.args.block).value in
    let w = lowers-stopped z z (sound-next c.in_ok-put_op.was j.reaches) (grows-block (slot_names c.args.s.tree.now c.args.s.slots.now) (keeping_of c.args.it.now) _ b) c.take_iterator.ensures in (
      rounds-over c.requires.0.sound _ (keeping_of c.args.it.now) (name_at c.args.s.tree.now c.args.at) (keeper_of c.args.load) c.requires.2 a c.in_ok-ask_more.was (F.is _ c.in_ok-size.was) j c.in_ok-put_op.was
          (record { start = c.place-start.result; end = c.place.result + (3 + c.in_ok-size.size) + 1 }) w c.place-start.ensures
          (omega (arith, c.place.ensures, (a.reaches.done _ c.in_ok-ask_more.was).left.base, (j.reaches.done _ c.in_ok-put_op.was).left.base)) z c.from_residual-in_err-take_iterator.ensures,
      passes_over c.from_residual-in_err-take_iterator.ensures,
    )

pub write_rounds-write_block-requires : goal.write_rounds-write_block-requires
write_rounds-write_block-requires t c =
    let a = c.ask_more.ensures in
    let F = c.block_size.ensures in
    let S₁ = sound-next c.in_ok-ask_more.was a.reaches in
    let j = question-put S₁ refl (omega (arith, F.few _ c.in_ok-size.was, c.ask_more.new.e.code.code_limit)) c.put_op.ensures in
    let S₂ = sound-next c.in_ok-put_op.was j.reaches in
    let u = c.take_iterator.ensures in (
      omega (arith, c.decreases),
      (
        sole-at c.requires.0 (sound-next c.in_ok-take_iterator.was u.reaches),
        c.requires.2,
        c.requires.4,
        started_on _ _ S₂ (u.reaches.done _ c.in_ok-take_iterator.was) (started-next _ _ _ c.requires.0.sound S₁ (a.reaches.done _ c.in_ok-ask_more.was) (j.reaches.done _ c.in_ok-put_op.was) (omega (arith, c.place-start.ensures))),
      ),
    )

pub write_rounds-returns-in_err-next : goal.write_rounds-returns-in_err-next
write_rounds-returns-in_err-next t c =
    let a = c.ask_more.ensures in
    let F = c.block_size.ensures in
    let j = question-put (sound-next c.in_ok-ask_more.was a.reaches) refl (omega (arith, F.few _ c.in_ok-size.was, c.ask_more.new.e.code.code_limit)) c.put_op.ensures in
    let w = lowers_then c.in_ok-take_iterator.was (sound-next c.in_ok-put_op.was j.reaches) c.take_iterator.ensures c.write_block.ensures.written.0.lowers in (
      rounds-over c.requires.0.sound _ (keeping_of c.args.it.now) (name_at c.args.s.tree.now c.args.at) (keeper_of c.args.load) c.requires.2 a c.in_ok-ask_more.was (F.is _ c.in_ok-size.was) j c.in_ok-put_op.was
          _ w c.place-start.ensures (omega (arith, c.place.ensures, (a.reaches.done _ c.in_ok-ask_more.was).left.base, (j.reaches.done _ c.in_ok-put_op.was).left.base)) c.in_err-next.was c.from_residual-in_err-next.ensures,
      passes_over c.from_residual-in_err-next.ensures,
    )

pub write_rounds-put_back-requires : goal.write_rounds-put_back-requires
write_rounds-put_back-requires t c =
    let a = c.ask_more.ensures in
    let F = c.block_size.ensures in
    let S₁ = sound-next c.in_ok-ask_more.was a.reaches in
    let j = question-put S₁ refl (omega (arith, F.few _ c.in_ok-size.was, c.ask_more.new.e.code.code_limit)) c.put_op.ensures in
    let S₂ = sound-next c.in_ok-put_op.was j.reaches in
    let u = c.take_iterator.ensures in
    started-next _ _ _ S₂ (sound-next c.in_ok-take_iterator.was u.reaches) (u.reaches.done _ c.in_ok-take_iterator.was) (c.write_block.ensures.written.0.lowers.reaches.done _ c.in_ok-next.was)
    (started-next _ _ _ c.requires.0.sound S₁ (a.reaches.done _ c.in_ok-ask_more.was) (j.reaches.done _ c.in_ok-put_op.was) (omega (arith, c.place-start.ensures)))

pub write_rounds-returns-in_err-put_back : goal.write_rounds-returns-in_err-put_back
write_rounds-returns-in_err-put_back t c =
    let a = c.ask_more.ensures in
    let F = c.block_size.ensures in
    let j = question-put (sound-next c.in_ok-ask_more.was a.reaches) refl (omega (arith, F.few _ c.in_ok-size.was, c.ask_more.new.e.code.code_limit)) c.put_op.ensures in
    let w = lowers_then c.in_ok-take_iterator.was (sound-next c.in_ok-put_op.was j.reaches) c.take_iterator.ensures c.write_block.ensures.written.0.lowers in
    let f = writes-in (sound-next c.in_ok-next.was w.reaches) refl c.put_back.ensures in
    let h = rounds-ends c.requires.0.sound _ (keeping_of c.args.it.now) (name_at c.args.s.tree.now c.args.at) (keeper_of c.args.load) c.requires.2 a c.in_ok-ask_more.was (F.is _ c.in_ok-size.was) j c.in_ok-put_op.was
    _ w c.place-start.ensures (omega (arith, c.place.ensures, (a.reaches.done _ c.in_ok-ask_more.was).left.base, (j.reaches.done _ c.in_ok-put_op.was).left.base)) c.in_ok-next.was f in
    (words-none c.in_err-put_back.was c.from_residual-in_err-put_back.ensures h, passes_over c.from_residual-in_err-put_back.ensures)

pub write_rounds-returns : goal.write_rounds-returns
write_rounds-returns t c =
    let a = c.ask_more.ensures in
    let F = c.block_size.ensures in
    let j = question-put (sound-next c.in_ok-ask_more.was a.reaches) refl (omega (arith, F.few _ c.in_ok-size.was, c.ask_more.new.e.code.code_limit)) c.put_op.ensures in
    let w = lowers_then c.in_ok-take_iterator.was (sound-next c.in_ok-put_op.was j.reaches) c.take_iterator.ensures c.write_block.ensures.written.0.lowers in
    let f = writes-in (sound-next c.in_ok-next.was w.reaches) refl c.put_back.ensures in
    let h = rounds-ends c.requires.0.sound _ (keeping_of c.args.it.now) (name_at c.args.s.tree.now c.args.at) (keeper_of c.args.load) c.requires.2 a c.in_ok-ask_more.was (F.is _ c.in_ok-size.was) j c.in_ok-put_op.was
    _ w c.place-start.ensures (omega (arith, c.place.ensures, (a.reaches.done _ c.in_ok-ask_more.was).left.base, (j.reaches.done _ c.in_ok-put_op.was).left.base)) c.in_ok-next.was f in
    (words-end c.in_ok-put_back.was (c.write_block.ensures.written.0.place _ c.in_ok-next.was) h, passes-done c.in_ok-next.was refl c.write_block.ensures.written.1)

-- ---- write_body

pub write_body-returns-in_err-next : goal.write_body-returns-in_err-next
write_body-returns-in_err-next t c =
    emits-stopped c.in_err-next.was c.from_residual.ensures c.requires.0.sound (lengthens-emits _) (body-emits _ _ _ c.requires.1.block c.requires.1.outside c.requires.0.sound c.write_block.ensures.written.0)

pub write_body-returns-in_err-put_end : goal.write_body-returns-in_err-put_end
write_body-returns-in_err-put_end t c =
    let b = body-emits _ _ _ c.requires.1.block c.requires.1.outside c.requires.0.sound c.write_block.ensures.written.0 in
    emits-no-words c.in_ok-next.was c.in_err-put_end.was c.from_residual-in_err-put_end.ensures c.requires.0.sound b (writes-in (sound-next c.in_ok-next.was b.lowers.reaches) refl c.put_end.ensures)

pub write_body-returns : goal.write_body-returns
write_body-returns t c =
    let b = body-emits _ _ _ c.requires.1.block c.requires.1.outside c.requires.0.sound c.write_block.ensures.written.0 in
    emits-words c.in_ok-next.was c.in_ok-put_end.was c.requires.0.sound b (writes-in (sound-next c.in_ok-next.was b.lowers.reaches) refl c.put_end.ensures)

-- ---- write_function

pub write_function-returns-in_err-frame : goal.write_function-returns-in_err-frame
write_function-returns-in_err-frame t c = slots-stopped c.args.depth c.args.at c.args.init c.in_err-frame.was c.from_residual.ensures c.name_end-params.ensures c.skip_params-block.ensures c.collect_locals.ensures

pub write_function-start_named-requires : goal.write_function-start_named-requires
write_function-start_named-requires t c =
    let k = function-parts c.requires.1 c.name_end-params.ensures c.u16_at-arity.ensures.0 c.skip_params-block.ensures c.collect_locals.ensures c.in_ok-frame.was (omega (arith, c.collect_locals.auto.slots)) in
    (naming-sound c.requires.0.sound, omega (arith, c.requires.1.name.byte, c.requires.0.tree-short), k.arity-few, omega (arith, k.framing.few))

pub write_function-returns-in_err-f : goal.write_function-returns-in_err-f
write_function-returns-in_err-f t c =
    let k = function-parts c.requires.1 c.name_end-params.ensures c.u16_at-arity.ensures.0 c.skip_params-block.ensures c.collect_locals.ensures c.in_ok-frame.was (omega (arith, c.collect_locals.auto.slots)) in
    function-over c.args.depth c.args.init c.requires.0.sound k.arity-is k.framing.locals c.start_named.ensures c.in_err-f.was c.from_residual-in_err-f.ensures

pub write_function-slice_bounds-slots-end : goal.write_function-slice_bounds-slots-end
write_function-slice_bounds-slots-end t c =
    let k = function-parts c.requires.1 c.name_end-params.ensures c.u16_at-arity.ensures.0 c.skip_params-block.ensures c.collect_locals.ensures c.in_ok-frame.was (omega (arith, c.collect_locals.auto.slots)) in
    omega (arith, k.room)

pub write_function-slice_bounds-s-end : goal.write_function-slice_bounds-s-end
write_function-slice_bounds-s-end t c =
    let k = function-parts c.requires.1 c.name_end-params.ensures c.u16_at-arity.ensures.0 c.skip_params-block.ensures c.collect_locals.ensures c.in_ok-frame.was (omega (arith, c.collect_locals.auto.slots)) in
    omega (arith, length-take-le (slots_from + c.in_ok-frame.frame.named) c.collect_locals.new.slots k.room)

pub write_function-invariant_of-s : goal.write_function-invariant_of-s
write_function-invariant_of-s t c =
    let k = function-parts c.requires.1 c.name_end-params.ensures c.u16_at-arity.ensures.0 c.skip_params-block.ensures c.collect_locals.ensures c.in_ok-frame.was (omega (arith, c.collect_locals.auto.slots)) in
    record { slotted = k.slotted }

pub write_function-write_body-requires : goal.write_function-write_body-requires
write_function-write_body-requires t c =
    let k = function-parts c.requires.1 c.name_end-params.ensures c.u16_at-arity.ensures.0 c.skip_params-block.ensures c.collect_locals.ensures c.in_ok-frame.was (omega (arith, c.collect_locals.auto.slots)) in (
      omega (arith, c.decreases),
      (
        sole-at c.requires.0 (function-sound c.args.depth c.args.init c.requires.0.sound k.arity-is k.framing.locals c.start_named.ensures c.in_ok-f.was),
        subst (BodyLowerable c.args.depth c.args.tree.now) (sym k.block-is) (record { block = c.requires.1.block; outside = c.requires.1.outside }),
        spare-at _ _ k.block-is k.spare,
      ),
    )

pub write_function-returns-in_err-next : goal.write_function-returns-in_err-next
write_function-returns-in_err-next t c =
    let k = function-parts c.requires.1 c.name_end-params.ensures c.u16_at-arity.ensures.0 c.skip_params-block.ensures c.collect_locals.ensures c.in_ok-frame.was (omega (arith, c.collect_locals.auto.slots)) in
    let b = body-by c.args.depth c.args.tree.now _ _ (end_of c.args.init) k.block-is c.write_body.ensures in
    function-stopped c.args.depth c.args.init c.requires.0.sound k.arity-is k.framing.locals c.start_named.ensures c.in_ok-f.was k.names k.keep b c.in_err-next.was c.from_residual-in_err-next.ensures

pub write_function-returns : goal.write_function-returns
write_function-returns t c =
    let k = function-parts c.requires.1 c.name_end-params.ensures c.u16_at-arity.ensures.0 c.skip_params-block.ensures c.collect_locals.ensures c.in_ok-frame.was (omega (arith, c.collect_locals.auto.slots)) in
    let b = body-by c.args.depth c.args.tree.now _ _ (end_of c.args.init) k.block-is c.write_body.ensures in
    function-done c.args.depth c.args.init c.requires.0.sound k.arity-is k.framing.locals c.start_named.ensures c.in_ok-f.was k.names k.keep b c.in_ok-next.was c.end_function.ensures

-- ---- write_methods

pub write_methods-loop-init : goal.write_methods-loop-init
write_methods-loop-init t c = methods-all _ (omega arith) c.requires.0 c.requires.1 c.requires.2

pub write_methods-write_function-requires : goal.write_methods-write_function-requires
write_methods-write_function-requires t c = (omega (arith, c.decreases), (methods-sole c.loop.invariant c.requires.0, (methods-parts _ _ _ _ (omega (arith, c.loop-test.true)) c.loop.invariant.methods).0))

pub write_methods-returns-in_err-next : goal.write_methods-returns-in_err-next
write_methods-returns-in_err-next t c = methods-stopped c.loop.invariant c.requires.0 (omega (arith, c.loop-test.true)) c.is_init.ensures c.write_function.ensures c.in_err-next.was c.from_residual.ensures

pub write_methods-overflow_cast-p : goal.write_methods-overflow_cast-p
write_methods-overflow_cast-p t c = omega (arith, (methods-parts _ _ _ _ (omega (arith, c.loop-test.true)) c.loop.invariant.methods).0.name.byte, c.requires.0.tree-short)

pub write_methods-overflow_mul-p : goal.write_methods-overflow_mul-p
write_methods-overflow_mul-p t c = omega (arith, (methods-parts _ _ _ _ (omega (arith, c.loop-test.true)) c.loop.invariant.methods).0.name.byte, c.requires.0.tree-short)

pub write_methods-overflow_add-p : goal.write_methods-overflow_add-p
write_methods-overflow_add-p t c =
    let number = methods-number c.loop.invariant c.requires.0 (omega (arith, c.loop-test.true)) c.is_init.ensures c.write_function.ensures c.in_ok-next.was in
    omega (arith, (methods-parts _ _ _ _ (omega (arith, c.loop-test.true)) c.loop.invariant.methods).0.name.byte, c.requires.0.tree-short, number)

pub write_methods-insert_method-count-requires : goal.write_methods-insert_method-count-requires
write_methods-insert_method-count-requires t c =
    let m = methods-room c.loop.invariant c.requires.0 (omega (arith, c.loop-test.true)) c.is_init.ensures c.write_function.ensures c.in_ok-next.was in
    (omega (arith, m, c.loop.invariant.room), omega (arith, m), c.loop.invariant.ordered)

pub write_methods-loop-preserved : goal.write_methods-loop-preserved
write_methods-loop-preserved t c =
    methods-next c.loop.invariant c.requires.0 (omega (arith, c.loop-test.true)) c.is_init.ensures c.write_function.ensures c.in_ok-next.was _ (omega arith) c.insert_method-count.ensures
    c.insert_method-count.auto.list

pub write_methods-returns : goal.write_methods-returns
write_methods-returns t c = methods-done c.loop.invariant c.requires.0 (omega (arith, c.loop-test.false))

-- ---- write_class

pub write_class-returns-in_err-i : goal.write_class-returns-in_err-i
write_class-returns-in_err-i t c = class-over (class_methods_at c.args.depth c.args.tree.now c.args.at).value c.requires.0.sound c.begin_class.ensures c.in_err-i.was c.from_residual.ensures

pub write_class-write_methods-requires : goal.write_class-write_methods-requires
write_class-write_methods-requires t c = (
  omega (arith, c.decreases),
  (
    sole-at c.requires.0 (class-sound (class_methods_at c.args.depth c.args.tree.now c.args.at).value c.requires.0.sound c.begin_class.ensures c.in_ok-i.was),
    class-methods _ _ _ c.name_end-start.ensures c.u16_at-n.ensures.0 c.requires.1.methods,
    omega arith,
  ),
)

pub write_class-returns-in_err-count : goal.write_class-returns-in_err-count
write_class-returns-in_err-count t c =
    let b = class-lists c.args.depth c.args.tree.now c.args.at c.name_end-start.ensures c.u16_at-n.ensures.0 _ c.write_methods.ensures in
    class-stopped (class_methods_at c.args.depth c.args.tree.now c.args.at).value c.requires.0.sound c.begin_class.ensures c.in_ok-i.was b c.in_err-count.was c.from_residual-in_err-count.ensures

pub write_class-slice_bounds-list-end : goal.write_class-slice_bounds-list-end
write_class-slice_bounds-list-end t c =
    let b = class-lists c.args.depth c.args.tree.now c.args.at c.name_end-start.ensures c.u16_at-n.ensures.0 _ c.write_methods.ensures in
    (class-asks (class_methods_at c.args.depth c.args.tree.now c.args.at).value c.requires.0.sound c.begin_class.ensures c.in_ok-i.was b c.in_ok-count.was).2

pub write_class-finish_class-requires : goal.write_class-finish_class-requires
write_class-finish_class-requires t c =
    let b = class-lists c.args.depth c.args.tree.now c.args.at c.name_end-start.ensures c.u16_at-n.ensures.0 _ c.write_methods.ensures in
    let q = class-asks (class_methods_at c.args.depth c.args.tree.now c.args.at).value c.requires.0.sound c.begin_class.ensures c.in_ok-i.was b c.in_ok-count.was in
    let many = class-many (class_methods_at c.args.depth c.args.tree.now c.args.at).value c.requires.0.sound c.begin_class.ensures c.in_ok-i.was b c.in_ok-count.was in
    (q.0, omega (arith, c.requires.1.name.byte, c.requires.0.tree-short), q.1, omega (arith, many, q.3), q.4)

pub write_class-returns : goal.write_class-returns
write_class-returns t c =
    let b = class-lists c.args.depth c.args.tree.now c.args.at c.name_end-start.ensures c.u16_at-n.ensures.0 _ c.write_methods.ensures in
    class-done (class_methods_at c.args.depth c.args.tree.now c.args.at).value c.requires.0.sound c.begin_class.ensures c.in_ok-i.was b c.in_ok-count.was c.finish_class.ensures
