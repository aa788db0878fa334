-- Statements and blocks: each part by the laws of its steps.
use Prim.Native.Nat.{ℕ, ◌+◌, ◌-◌}
use mathlib.Core.Path.{refl, sym, ap, ◌∙◌, subst}
use mathlib.Core.Bool.{false}
use native.Mathlib.Omega.{arith}
use lib.Seq.{length-take-le}
use Rattle.definitions.specs.Instruction.{instr}
use Rattle.definitions.specs.Slots.{loops_branches}
use Rattle.definitions.specs.Lower.{ask_iter}
use Rattle.numerals.specs.Kinds.{stmt_byte}
use Rattle.numerals.specs.declared.kinds.StmtKind.TheVariants.{If, While, For, Def, Class}
use Rattle.tree_view.specs.Places.{count_at, name_end}
use Rattle.tree_view.specs.ExprAt.{expr_at}
use Rattle.tree_view.specs.StmtAt.{body_at, class_methods_at, block_at, branches_at}
use Rattle.tree_view.proofs.LoopsAt.{block-loops, loops-at, no-else-loops, else-loops, if-loops, while-loops, for-loops, other-loops}
use Rattle.state.specs.Words.{name_at}
use Rattle.state.specs.State.{slots_from, slot_names}
use Rattle.state.specs.Kept.{keeping_of, Spare}
use Rattle.state.proofs.Kept.{passes_over, passes-done, passes_none, spare-first, spare-then, keeping-then, passes_then}
use Rattle.definitions.proofs.Growth.{lengthens-emits, lengthens-seq, lengthens-block, lengthens-take_iter}
use Rattle.lower_forms.proofs.Sole.{sole-at}
use Rattle.lower_emit.proofs.Packing.{instr-jump}
use Rattle.lower_emit.proofs.Steps.{sound-next, lowers-by, lowers_then, lowers-stopped, writes-in}
use Rattle.lower_emit.proofs.Parts.{emits-by, emits-stopped, emits-words, emits-no-words, words-end, words-none}
use Rattle.lower_names.proofs.Symbols.{naming-sound}
use Rattle.lower_forms.specs.Lowerable.{expr_code}
use Rattle.lower_forms.specs.Lowering.{end_of, function_code, class_code}
use Rattle.lower_forms.proofs.Sequences.{block-at, elifs-at}
use Rattle.lower_forms.proofs.StmtArms.{block-parts, elifs-more, elifs-none, else-parts, else-in, else-one, methods-parts, stmts-more}
use Rattle.lower_forms.proofs.StmtArms.{arm-deep, arm-inside, arm-known, arm-if, arm-while, arm-for, arm-def, arm-class}
use Rattle.lower_loops.specs.Iterators.{keeper_of}
use Rattle.lower_simple.proofs.KindBytes.{byte-is, simple-kinds}
use Rattle.lower_blocks.proofs.Between.{next-none}
use Rattle.lower_blocks.proofs.Sequence.{passes-by, stmts-all, stmts-sound, stmts-spare, stmts-over, stmts-next, stmts-done, block-is, block-by, spare-at, block-stmts}
use Rattle.lower_blocks.proofs.Branches.{loop-stopped, loop-over, inside-above, end-above, loop-ends, branch-stopped, branch-over, branch-ends, if-stopped, if-open, if-done}
use Rattle.lower_blocks.proofs.Branches.{chain-all, chain-sound, chain-spare, chain-over, chain-longer, chain_next, chain-rest, chain-last, else-none, else-over, else-longer, else-done}
use Rattle.lower_blocks.proofs.Branches.{iterable-by, for-stopped, for-over, for-sound, for-loads, for-spare, for-passes, for-done}
use Rattle.lower_blocks.proofs.Functions.{function-parts, slots-stopped, function-over, function-sound, function-stopped, function-done, body-by, compiles-emits, reaches-lowers}
use Rattle.lower_blocks.proofs.Classes.{class-methods, methods-all, methods-sole, methods-done, methods-stopped, methods-number, methods-room, methods-next, class-lists}
use Rattle.lower_blocks.proofs.Classes.{class-over, class-sound, class-stopped, class-asks, class-many, class-done}
use Rattle.lower_stmt.proofs.+emit.Goals as goal

-- ---- emit_stmt

pub emit_stmt-bounds-s-at : goal.emit_stmt-bounds-s-at
emit_stmt-bounds-s-at t c = arm-inside _ _ _ c.requires.1

pub emit_stmt-of-requires : goal.emit_stmt-of-requires
emit_stmt-of-requires t c = arm-known _ _ _ c.requires.1

pub emit_stmt-overflow_sub-depth : goal.emit_stmt-overflow_sub-depth
emit_stmt-overflow_sub-depth t c = omega (arith, arm-deep _ _ _ c.requires.1)

pub emit_stmt-emit_if-requires : goal.emit_stmt-emit_if-requires
unfolding stmt_byte
emit_stmt-emit_if-requires t c = (
  omega (arith, c.decreases, arm-deep _ _ _ c.requires.1),
  (c.requires.0, (arm-if _ _ _ c.requires.1 (byte-is If c.of.ensures c.in-If.is)).parts, subst (Spare c.args.it.now) (sym (if-loops _ _ _ c.requires.1.reads (byte-is If c.of.ensures c.in-If.is))) c.requires.2),
)

pub emit_stmt-returns-in-If : goal.emit_stmt-returns-in-If
unfolding stmt_byte
emit_stmt-returns-in-If t c =
    let m = arm-if _ _ _ c.requires.1 (byte-is If c.of.ensures c.in-If.is) in
    (emits-by c.emit_if.ensures.0 (sym (m.code _ _)) m.end, passes-by (if-loops _ _ _ c.requires.1.reads (byte-is If c.of.ensures c.in-If.is)) c.emit_if.ensures.1)

pub emit_stmt-overflow_sub-depth-in-While : goal.emit_stmt-overflow_sub-depth-in-While
emit_stmt-overflow_sub-depth-in-While t c = omega (arith, arm-deep _ _ _ c.requires.1)

pub emit_stmt-emit_while-requires : goal.emit_stmt-emit_while-requires
unfolding stmt_byte
emit_stmt-emit_while-requires t c = (
  omega (arith, c.decreases, arm-deep _ _ _ c.requires.1),
  (c.requires.0, (arm-while _ _ _ c.requires.1 (byte-is While c.of.ensures c.in-While.is)).parts, subst (Spare c.args.it.now) (sym (while-loops _ _ _ c.requires.1.reads (byte-is While c.of.ensures c.in-While.is))) c.requires.2),
)

pub emit_stmt-returns-in-While : goal.emit_stmt-returns-in-While
unfolding stmt_byte
emit_stmt-returns-in-While t c =
    let m = arm-while _ _ _ c.requires.1 (byte-is While c.of.ensures c.in-While.is) in
    (emits-by c.emit_while.ensures.0 (sym (m.code _ _)) m.end, passes-by (while-loops _ _ _ c.requires.1.reads (byte-is While c.of.ensures c.in-While.is)) c.emit_while.ensures.1)

pub emit_stmt-overflow_sub-depth-in-For : goal.emit_stmt-overflow_sub-depth-in-For
emit_stmt-overflow_sub-depth-in-For t c = omega (arith, arm-deep _ _ _ c.requires.1)

pub emit_stmt-emit_for-requires : goal.emit_stmt-emit_for-requires
unfolding stmt_byte
emit_stmt-emit_for-requires t c = (
  omega (arith, c.decreases, arm-deep _ _ _ c.requires.1),
  (c.requires.0, (arm-for _ _ _ c.requires.1 (byte-is For c.of.ensures c.in-For.is)).parts, subst (Spare c.args.it.now) (sym (for-loops _ _ _ c.requires.1.reads (byte-is For c.of.ensures c.in-For.is))) c.requires.2),
)

pub emit_stmt-returns-in-For : goal.emit_stmt-returns-in-For
unfolding stmt_byte
emit_stmt-returns-in-For t c =
    let m = arm-for _ _ _ c.requires.1 (byte-is For c.of.ensures c.in-For.is) in
    (emits-by c.emit_for.ensures.0 (sym (m.code _ _)) m.end, passes-by (for-loops _ _ _ c.requires.1.reads (byte-is For c.of.ensures c.in-For.is)) c.emit_for.ensures.1)

pub emit_stmt-overflow_sub-depth-in-Def : goal.emit_stmt-overflow_sub-depth-in-Def
emit_stmt-overflow_sub-depth-in-Def t c = omega (arith, arm-deep _ _ _ c.requires.1)

pub emit_stmt-compile_function-requires : goal.emit_stmt-compile_function-requires
unfolding stmt_byte
emit_stmt-compile_function-requires t c = (omega (arith, c.decreases, arm-deep _ _ _ c.requires.1), (c.requires.0, (arm-def _ _ _ c.requires.1 (byte-is Def c.of.ensures c.in-Def.is)).parts))

pub emit_stmt-returns-in-Def : goal.emit_stmt-returns-in-Def
unfolding stmt_byte
emit_stmt-returns-in-Def t c =
    let m = arm-def _ _ _ c.requires.1 (byte-is Def c.of.ensures c.in-Def.is) in (
      emits-by (compiles-emits (function_code (c.args.depth - 1) c.args.s.tree.now (c.args.at + 1) false) c.compile_function.ensures) (sym (m.code _ (keeping_of c.args.it.now))) m.end,
      passes-by (other-loops _ _ _ c.requires.1.reads (λ h. omega (arith, (byte-is Def c.of.ensures c.in-Def.is)))) passes_none,
    )

pub emit_stmt-overflow_sub-depth-in-Class : goal.emit_stmt-overflow_sub-depth-in-Class
emit_stmt-overflow_sub-depth-in-Class t c = omega (arith, arm-deep _ _ _ c.requires.1)

pub emit_stmt-emit_class-requires : goal.emit_stmt-emit_class-requires
unfolding stmt_byte
emit_stmt-emit_class-requires t c = (omega (arith, c.decreases, arm-deep _ _ _ c.requires.1), (c.requires.0, (arm-class _ _ _ c.requires.1 (byte-is Class c.of.ensures c.in-Class.is)).parts))

pub emit_stmt-returns-in_err-emit_class-in-Class : goal.emit_stmt-returns-in_err-emit_class-in-Class
unfolding stmt_byte
emit_stmt-returns-in_err-emit_class-in-Class t c =
    let m = arm-class _ _ _ c.requires.1 (byte-is Class c.of.ensures c.in-Class.is) in
    let code = class_code (name_at c.args.s.tree.now (c.args.at + 1)) (class_methods_at (c.args.depth - 1) c.args.s.tree.now (c.args.at + 1)).value in
    let h = lowers-by (reaches-lowers code c.emit_class.ensures) (sym (m.code _ (keeping_of c.args.it.now))) in
    (words-none c.in_err-emit_class-in-Class.was c.from_residual.ensures h, passes_over c.from_residual.ensures)

pub emit_stmt-returns-in_ok-emit_class-in-Class : goal.emit_stmt-returns-in_ok-emit_class-in-Class
unfolding stmt_byte
emit_stmt-returns-in_ok-emit_class-in-Class t c =
    let m = arm-class _ _ _ c.requires.1 (byte-is Class c.of.ensures c.in-Class.is) in
    let code = class_code (name_at c.args.s.tree.now (c.args.at + 1)) (class_methods_at (c.args.depth - 1) c.args.s.tree.now (c.args.at + 1)).value in
    let h = lowers-by (reaches-lowers code c.emit_class.ensures) (sym (m.code _ (keeping_of c.args.it.now))) in
    (words-end c.in_ok-emit_class-in-Class.was c.skip_stmt.ensures h, passes-by (other-loops _ _ _ c.requires.1.reads (λ h. omega (arith, (byte-is Class c.of.ensures c.in-Class.is)))) passes_none)

pub emit_stmt-emit_simple-requires : goal.emit_stmt-emit_simple-requires
emit_stmt-emit_simple-requires t c = (c.requires.0, c.requires.1, simple-kinds c.of.ensures c.in-Break.is)

pub emit_stmt-returns-in-Break : goal.emit_stmt-returns-in-Break
emit_stmt-returns-in-Break t c = (c.emit_simple.ensures (keeping_of c.args.it.now), passes-by (other-loops _ _ _ c.requires.1.reads (λ h. omega (arith, simple-kinds c.of.ensures c.in-Break.is))) passes_none)

-- ---- emit_stmts

pub emit_stmts-loop-init : goal.emit_stmts-loop-init
emit_stmts-loop-init t c = stmts-all (slot_names c.args.s.tree.now c.args.s.slots.now) _ (omega arith) c.requires.0.sound c.requires.1 c.requires.2

pub emit_stmts-emit_stmt-requires : goal.emit_stmts-emit_stmt-requires
emit_stmts-emit_stmt-requires t c = (
  omega (arith, c.decreases),
  (sole-at c.requires.0 (stmts-sound c.loop.invariant), (stmts-more _ _ _ _ (omega (arith, c.loop-test.true)) c.loop.invariant.stmts).0, stmts-spare c.loop.invariant (omega (arith, c.loop-test.true))),
)

pub emit_stmts-returns-in_err-p : goal.emit_stmts-returns-in_err-p
emit_stmts-returns-in_err-p t c = stmts-over c.loop.invariant (omega (arith, c.loop-test.true)) c.emit_stmt.ensures.0 c.in_err-p.was c.from_residual.ensures

pub emit_stmts-loop-preserved : goal.emit_stmts-loop-preserved
emit_stmts-loop-preserved t c = stmts-next c.loop.invariant (omega (arith, c.loop-test.true)) c.emit_stmt.ensures.0 _ (omega arith) c.in_ok-p.was c.emit_stmt.ensures.1

pub emit_stmts-returns : goal.emit_stmts-returns
emit_stmts-returns t c = stmts-done c.loop.invariant (omega (arith, c.loop-test.false))

-- ---- emit_block

pub emit_block-u16_at-count-requires : goal.emit_block-u16_at-count-requires
emit_block-u16_at-count-requires t c = (block-parts _ _ _ c.requires.1).0

pub emit_block-emit_stmts-requires : goal.emit_block-emit_stmts-requires
emit_block-emit_stmts-requires t c = (
  omega (arith, c.decreases),
  (c.requires.0, block-stmts _ _ _ _ c.requires.1 c.u16_at-count.ensures.0, subst (Spare c.args.it.now) (sym (block-loops _ _ c.requires.1.reads c.u16_at-count.ensures.0 refl)) c.requires.2),
)

pub emit_block-returns : goal.emit_block-returns
emit_block-returns t c =
    let tree = c.args.s.tree.now in
    let names = slot_names tree c.args.s.slots.now in (
      block-is c.args.depth tree names (keeping_of c.args.it.now) c.args.at _ c.requires.1 c.u16_at-count.ensures.0 c.emit_stmts.ensures.0,
      passes-by (block-loops _ _ c.requires.1.reads c.u16_at-count.ensures.0 refl) c.emit_stmts.ensures.1,
    )

-- ---- emit_branch

pub emit_branch-emit_value-requires : goal.emit_branch-emit_value-requires
emit_branch-emit_value-requires t c = (c.requires.0, c.requires.1.condition, omega arith, (λ t. instr-jump t 29 0 (omega arith) (omega arith) (omega arith)))

pub emit_branch-returns-in_err-block : goal.emit_branch-returns-in_err-block
emit_branch-returns-in_err-block t c =
    let tree = c.args.s.tree.now in
    let names = slot_names tree c.args.s.slots.now in
    let expr = (expr_at c.args.depth tree c.args.at).value in
    let body = (body_at c.args.depth tree c.args.at).value in
    let v = c.emit_value.ensures in
    (branch-stopped names (keeping_of c.args.it.now) expr body (instr 29 0 0) c.requires.0.sound v c.in_err-block.was c.from_residual.ensures, passes_over c.from_residual.ensures)

pub emit_branch-returns-in_err-next : goal.emit_branch-returns-in_err-next
emit_branch-returns-in_err-next t c =
    let tree = c.args.s.tree.now in
    let names = slot_names tree c.args.s.slots.now in
    let expr = (expr_at c.args.depth tree c.args.at).value in
    let body = (body_at c.args.depth tree c.args.at).value in
    let v = c.emit_value.ensures in
    let place = v.place _ c.in_ok-block.was in
    let b = block-by c.args.depth tree names (keeping_of c.args.it.now) place c.emit_block.ensures.0 in
    (branch-over names (keeping_of c.args.it.now) expr body (instr 29 0 0) c.requires.0.sound v c.in_ok-block.was b c.in_err-next.was c.from_residual-in_err-next.ensures, passes_over c.from_residual-in_err-next.ensures)

pub emit_branch-end_branch-requires : goal.emit_branch-end_branch-requires
emit_branch-end_branch-requires t c =
    let tree = c.args.s.tree.now in
    let names = slot_names tree c.args.s.slots.now in
    let question = expr_code c.args.depth tree names c.args.at in
    let v = c.emit_value.ensures in
    let place = v.place _ c.in_ok-block.was in
    let b = block-by c.args.depth tree names (keeping_of c.args.it.now) place c.emit_block.ensures.0 in
    (omega (arith, inside-above question (instr 29 0 0) c.requires.0.sound v.lowers c.in_ok-block.was b.lowers), end-above question (instr 29 0 0) c.requires.0.sound v.lowers c.in_ok-block.was b.lowers c.in_ok-next.was)

pub emit_branch-returns-in_err-end_branch : goal.emit_branch-returns-in_err-end_branch
emit_branch-returns-in_err-end_branch t c =
    let tree = c.args.s.tree.now in
    let names = slot_names tree c.args.s.slots.now in
    let expr = (expr_at c.args.depth tree c.args.at).value in
    let body = (body_at c.args.depth tree c.args.at).value in
    let v = c.emit_value.ensures in
    let place = v.place _ c.in_ok-block.was in
    let b = block-by c.args.depth tree names (keeping_of c.args.it.now) place c.emit_block.ensures.0 in
    let h = branch-ends names (keeping_of c.args.it.now) expr body (instr 29 0 0) c.requires.0.sound v c.in_ok-block.was b c.in_ok-next.was c.end_branch.ensures in
    (words-none c.in_err-end_branch.was c.from_residual-in_err-end_branch.ensures h, passes_over c.from_residual-in_err-end_branch.ensures)

pub emit_branch-returns : goal.emit_branch-returns
emit_branch-returns t c =
    let tree = c.args.s.tree.now in
    let names = slot_names tree c.args.s.slots.now in
    let expr = (expr_at c.args.depth tree c.args.at).value in
    let body = (body_at c.args.depth tree c.args.at).value in
    let v = c.emit_value.ensures in
    let place = v.place _ c.in_ok-block.was in
    let b = block-by c.args.depth tree names (keeping_of c.args.it.now) place c.emit_block.ensures.0 in (
      words-end c.in_ok-end_branch.was (b.place _ c.in_ok-next.was) (branch-ends names (keeping_of c.args.it.now) expr body (instr 29 0 0) c.requires.0.sound v c.in_ok-block.was b c.in_ok-next.was c.end_branch.ensures),
      passes-done c.in_ok-next.was (loops-at _ _ place) c.emit_block.ensures.1,
    )

-- ---- emit_if

pub emit_if-returns-in_err-p : goal.emit_if-returns-in_err-p
emit_if-returns-in_err-p t c =
    let tree = c.args.s.tree.now in
    let names = slot_names tree c.args.s.slots.now in
    let expr = (expr_at c.args.depth tree c.args.at).value in
    let body = (body_at c.args.depth tree c.args.at).value in
    let g = c.emit_branch.ensures.0 in
    (if-stopped names (keeping_of c.args.it.now) expr body c.requires.0.sound g _ c.in_err-p.was c.from_residual.ensures, passes_over c.from_residual.ensures)

pub emit_if-emit_elifs-requires : goal.emit_if-emit_elifs-requires
emit_if-emit_elifs-requires t c =
    let tree = c.args.s.tree.now in
    let names = slot_names tree c.args.s.slots.now in
    let expr = (expr_at c.args.depth tree c.args.at).value in
    let body = (body_at c.args.depth tree c.args.at).value in
    let g = c.emit_branch.ensures.0 in
    let place = g.place _ c.in_ok-p.was in
    let n = c.u16_at-n.ensures.0 ∙ ap (count_at tree) place in
    let p = ap (λ (x : ℕ). x + 2) place in (
      omega (arith, c.decreases),
      (
        sole-at c.requires.0 (sound-next c.in_ok-p.was g.lowers.reaches),
        elifs-at _ _ _ _ _ _ n p c.requires.1.rest,
        if-open names (keeping_of c.args.it.now) expr body c.requires.0.sound g c.in_ok-p.was,
        spare-then c.in_ok-p.was c.emit_branch.ensures.1 c.requires.2 (sym (λ i. loops_branches (branches_at c.args.depth (n i) tree (p i)).value)),
      ),
    )

pub emit_if-returns : goal.emit_if-returns
emit_if-returns t c =
    let tree = c.args.s.tree.now in
    let names = slot_names tree c.args.s.slots.now in
    let expr = (expr_at c.args.depth tree c.args.at).value in
    let body = (body_at c.args.depth tree c.args.at).value in
    let g = c.emit_branch.ensures.0 in
    let place = g.place _ c.in_ok-p.was in
    let n = c.u16_at-n.ensures.0 ∙ ap (count_at tree) place in
    let p = ap (λ (x : ℕ). x + 2) place in
    let passed = c.emit_branch.ensures.1 in (
      if-done names (keeping_of c.args.it.now) expr body c.requires.0.sound g c.in_ok-p.was (keeping-then c.in_ok-p.was passed (spare-first _ _ _ c.requires.2)) (λ i. (branches_at c.args.depth (n i) tree (p i)).value)
          (λ i. (branches_at c.args.depth (n i) tree (p i)).end) c.emit_elifs.ensures.0 c.emit_elifs.ensures.1,
      passes_then c.requires.2 c.in_ok-p.was passed (passes-by (λ i. loops_branches (branches_at c.args.depth (n i) tree (p i)).value) c.emit_elifs.ensures.2),
    )

-- ---- emit_elifs

pub emit_elifs-loop-init : goal.emit_elifs-loop-init
emit_elifs-loop-init t c = chain-all (slot_names c.args.s.tree.now c.args.s.slots.now) _ (omega arith) c.requires.0.sound c.requires.1 c.requires.2 c.requires.3

pub emit_elifs-emit_branch-requires : goal.emit_elifs-emit_branch-requires
emit_elifs-emit_branch-requires t c = (
  omega (arith, c.decreases),
  (sole-at c.requires.0 (chain-sound c.loop.invariant), (elifs-more _ _ _ _ (omega (arith, c.loop-test.true)) c.loop.invariant.branches).0, chain-spare c.loop.invariant (omega (arith, c.loop-test.true))),
)

pub emit_elifs-returns-in_err-p : goal.emit_elifs-returns-in_err-p
emit_elifs-returns-in_err-p t c = chain-over c.loop.invariant (omega (arith, c.loop-test.true)) c.emit_branch.ensures.0 c.in_err-p.was c.from_residual.ensures

pub emit_elifs-overflow_sub-over : goal.emit_elifs-overflow_sub-over
emit_elifs-overflow_sub-over t c = omega (arith, chain-longer c.loop.invariant (omega (arith, c.loop-test.true)) c.emit_branch.ensures.0 c.in_ok-p.was)

pub emit_elifs-overflow_sub-over-in-loop : goal.emit_elifs-overflow_sub-over-in-loop
emit_elifs-overflow_sub-over-in-loop t c = omega (arith, chain-longer c.loop.invariant (omega (arith, c.loop-test.true)) c.emit_branch.ensures.0 c.in_ok-p.was)

pub emit_elifs-loop-preserved : goal.emit_elifs-loop-preserved
emit_elifs-loop-preserved t c = chain_next c.loop.invariant (omega (arith, c.loop-test.true)) c.emit_branch.ensures.0 c.in_ok-p.was _ (omega arith) c.emit_branch.ensures.1 c.set_jump.ensures

pub emit_elifs-emit_else-requires : goal.emit_elifs-emit_else-requires
emit_elifs-emit_else-requires t c = (
  omega (arith, c.decreases),
  (sole-at c.requires.0 (chain-sound c.loop.invariant), elifs-none _ _ _ _ (omega (arith, c.loop-test.false)) c.loop.invariant.branches, c.loop.invariant.some, chain-rest c.loop.invariant (omega (arith, c.loop-test.false))),
)

pub emit_elifs-returns : goal.emit_elifs-returns
emit_elifs-returns t c = chain-last c.loop.invariant (omega (arith, c.loop-test.false)) c.emit_else.ensures

-- ---- emit_else

pub emit_else-bounds-s-at : goal.emit_else-bounds-s-at
emit_else-bounds-s-at t c = else-in _ _ _ c.requires.1

pub emit_else-returns-then-s-at-eq0 : goal.emit_else-returns-then-s-at-eq0
emit_else-returns-then-s-at-eq0 t c =
    let w = else-none (slot_names c.args.s.tree.now c.args.s.slots.now) (keeping_of c.args.it.now) c.requires.0.sound c.requires.2 c.requires.1 c.if-s-at-eq0.true c.set_jump.ensures in
    (w.0, w.1, passes-by (no-else-loops _ _ c.requires.1.reads c.if-s-at-eq0.true) passes_none)

pub emit_else-emit_block-requires : goal.emit_else-emit_block-requires
emit_else-emit_block-requires t c = (
  omega (arith, c.decreases),
  (
    c.requires.0,
    (else-parts _ _ _ c.requires.1 (else-one _ _ _ c.requires.1 c.if-s-at-eq0.false)).0,
    subst (Spare c.args.it.now) (sym (else-loops _ _ c.requires.1.reads c.if-s-at-eq0.false)) c.requires.3,
  ),
)

pub emit_else-returns-in_err-next : goal.emit_else-returns-in_err-next
emit_else-returns-in_err-next t c =
    let w = else-over (slot_names c.args.s.tree.now c.args.s.slots.now) (keeping_of c.args.it.now) c.requires.0.sound c.requires.2 c.requires.1 c.if-s-at-eq0.false c.emit_block.ensures.0 c.in_err-next.was c.from_residual.ensures in
    (next-none c.from_residual.ensures, w, passes_over c.from_residual.ensures)

pub emit_else-overflow_sub-over : goal.emit_else-overflow_sub-over
emit_else-overflow_sub-over t c = else-longer (slot_names c.args.s.tree.now c.args.s.slots.now) (keeping_of c.args.it.now) c.requires.0.sound c.requires.2 c.requires.1 c.if-s-at-eq0.false c.emit_block.ensures.0 c.in_ok-next.was

pub emit_else-returns : goal.emit_else-returns
emit_else-returns t c =
    let w = else-done (slot_names c.args.s.tree.now c.args.s.slots.now) (keeping_of c.args.it.now) c.requires.0.sound c.requires.2 c.requires.1 c.if-s-at-eq0.false c.emit_block.ensures.0 c.in_ok-next.was c.set_jump-2.ensures in
    (w.0, w.1, passes-done c.in_ok-next.was (else-loops _ _ c.requires.1.reads c.if-s-at-eq0.false) c.emit_block.ensures.1)

-- ---- emit_while

pub emit_while-emit_value-requires : goal.emit_while-emit_value-requires
emit_while-emit_value-requires t c = (c.requires.0, c.requires.1.condition, omega arith, (λ t. instr-jump t 29 0 (omega arith) (omega arith) (omega arith)))

pub emit_while-returns-in_err-block : goal.emit_while-returns-in_err-block
emit_while-returns-in_err-block t c =
    let tree = c.args.s.tree.now in
    let names = slot_names tree c.args.s.slots.now in
    let question = expr_code c.args.depth tree names c.args.at in
    let v = c.emit_value.ensures in
    (loop-stopped question (instr 29 0 0) c.requires.0.sound v.lowers (lengthens-block _ _ _) c.in_err-block.was c.from_residual.ensures, passes_over c.from_residual.ensures)

pub emit_while-returns-in_err-next : goal.emit_while-returns-in_err-next
emit_while-returns-in_err-next t c =
    let tree = c.args.s.tree.now in
    let names = slot_names tree c.args.s.slots.now in
    let question = expr_code c.args.depth tree names c.args.at in
    let v = c.emit_value.ensures in
    let place = v.place _ c.in_ok-block.was in
    let b = block-by c.args.depth tree names (keeping_of c.args.it.now) place c.emit_block.ensures.0 in
    (loop-over question (instr 29 0 0) c.requires.0.sound v.lowers c.in_ok-block.was b.lowers c.in_err-next.was c.from_residual-in_err-next.ensures, passes_over c.from_residual-in_err-next.ensures)

pub emit_while-end_loop-requires : goal.emit_while-end_loop-requires
emit_while-end_loop-requires t c =
    let tree = c.args.s.tree.now in
    let names = slot_names tree c.args.s.slots.now in
    let question = expr_code c.args.depth tree names c.args.at in
    let v = c.emit_value.ensures in
    let place = v.place _ c.in_ok-block.was in
    let b = block-by c.args.depth tree names (keeping_of c.args.it.now) place c.emit_block.ensures.0 in
    (inside-above question (instr 29 0 0) c.requires.0.sound v.lowers c.in_ok-block.was b.lowers, end-above question (instr 29 0 0) c.requires.0.sound v.lowers c.in_ok-block.was b.lowers c.in_ok-next.was)

pub emit_while-returns-in_err-end_loop : goal.emit_while-returns-in_err-end_loop
emit_while-returns-in_err-end_loop t c =
    let tree = c.args.s.tree.now in
    let names = slot_names tree c.args.s.slots.now in
    let question = expr_code c.args.depth tree names c.args.at in
    let v = c.emit_value.ensures in
    let place = v.place _ c.in_ok-block.was in
    let b = block-by c.args.depth tree names (keeping_of c.args.it.now) place c.emit_block.ensures.0 in
    let h = loop-ends question (instr 29 0 0) c.requires.0.sound v.lowers c.in_ok-block.was b.lowers c.in_ok-next.was c.end_loop.ensures in
    (words-none c.in_err-end_loop.was c.from_residual-in_err-end_loop.ensures h, passes_over c.from_residual-in_err-end_loop.ensures)

pub emit_while-returns : goal.emit_while-returns
emit_while-returns t c =
    let tree = c.args.s.tree.now in
    let names = slot_names tree c.args.s.slots.now in
    let question = expr_code c.args.depth tree names c.args.at in
    let v = c.emit_value.ensures in
    let place = v.place _ c.in_ok-block.was in
    let b = block-by c.args.depth tree names (keeping_of c.args.it.now) place c.emit_block.ensures.0 in (
      words-end c.in_ok-end_loop.was (b.place _ c.in_ok-next.was) (loop-ends question (instr 29 0 0) c.requires.0.sound v.lowers c.in_ok-block.was b.lowers c.in_ok-next.was c.end_loop.ensures),
      passes-done c.in_ok-next.was (loops-at _ _ place) c.emit_block.ensures.1,
    )

-- ---- emit_for

pub emit_for-returns-in_err-block : goal.emit_for-returns-in_err-block
emit_for-returns-in_err-block t c =
    let tree = c.args.s.tree.now in
    let names = slot_names tree c.args.s.slots.now in
    let expr = (expr_at c.args.depth tree (name_end tree c.args.at)).value in
    let body = (body_at c.args.depth tree (name_end tree c.args.at)).value in
    let g = iterable-by c.args.depth tree names c.name_end-start.ensures c.emit_iterable.ensures in
    (for-stopped names c.args.it.now expr (name_at tree c.args.at) body c.requires.0.sound g c.in_err-block.was c.from_residual.ensures, passes_over c.from_residual.ensures)

pub emit_for-returns-in_err-load : goal.emit_for-returns-in_err-load
emit_for-returns-in_err-load t c =
    let tree = c.args.s.tree.now in
    let names = slot_names tree c.args.s.slots.now in
    let expr = (expr_at c.args.depth tree (name_end tree c.args.at)).value in
    let body = (body_at c.args.depth tree (name_end tree c.args.at)).value in
    let g = iterable-by c.args.depth tree names c.name_end-start.ensures c.emit_iterable.ensures in
    (for-over names c.args.it.now expr (name_at tree c.args.at) body c.requires.0.sound g c.in_ok-block.was c.store_iterator.ensures c.in_err-load.was c.from_residual-in_err-load.ensures, passes_over c.from_residual-in_err-load.ensures)

pub emit_for-emit_rounds-requires : goal.emit_for-emit_rounds-requires
emit_for-emit_rounds-requires t c =
    let tree = c.args.s.tree.now in
    let names = slot_names tree c.args.s.slots.now in
    let expr = (expr_at c.args.depth tree (name_end tree c.args.at)).value in
    let body = (body_at c.args.depth tree (name_end tree c.args.at)).value in
    let g = iterable-by c.args.depth tree names c.name_end-start.ensures c.emit_iterable.ensures in
    let place = g.place _ c.in_ok-block.was in (
      omega (arith, c.decreases),
      (
        sole-at c.requires.0 (for-sound names c.args.it.now expr (name_at tree c.args.at) body c.requires.0.sound g c.in_ok-block.was c.store_iterator.ensures c.in_ok-load.was),
        c.requires.1.name,
        block-at _ _ _ _ place c.requires.1.loop.block,
        for-loads names c.args.it.now expr (name_at tree c.args.at) body c.requires.0.sound g c.in_ok-block.was c.store_iterator.ensures c.in_ok-load.was,
        spare-at _ _ place (for-spare names c.args.it.now expr (name_at tree c.args.at) body c.requires.0.sound g c.in_ok-block.was c.store_iterator.ensures c.in_ok-load.was c.requires.2),
      ),
    )

pub emit_for-returns : goal.emit_for-returns
emit_for-returns t c =
    let tree = c.args.s.tree.now in
    let names = slot_names tree c.args.s.slots.now in
    let expr = (expr_at c.args.depth tree (name_end tree c.args.at)).value in
    let body = (body_at c.args.depth tree (name_end tree c.args.at)).value in
    let g = iterable-by c.args.depth tree names c.name_end-start.ensures c.emit_iterable.ensures in
    let place = g.place _ c.in_ok-block.was in (
      for-done names c.args.it.now expr (name_at tree c.args.at) body c.requires.0.sound g c.in_ok-block.was c.store_iterator.ensures c.in_ok-load.was c.requires.2
          (λ i. (block_at c.args.depth tree (place i)).value) (λ i. (block_at c.args.depth tree (place i)).end)
          c.emit_rounds.ensures.0,
      for-passes names c.args.it.now expr (name_at tree c.args.at) body c.requires.0.sound g c.in_ok-block.was c.store_iterator.ensures c.in_ok-load.was c.requires.2 (passes-by (loops-at _ _ place) c.emit_rounds.ensures.1),
    )

-- ---- emit_rounds

pub emit_rounds-returns-in_err-ask_iterator : goal.emit_rounds-returns-in_err-ask_iterator
emit_rounds-returns-in_err-ask_iterator t c =
    let a = c.ask_iterator.ensures in
    let l = lengthens-seq (lengthens-take_iter _ _ _) (lengthens-block _ _ _) in
    let r = c.from_residual.ensures in
    (loop-stopped (ask_iter (keeper_of c.args.load)) (instr 29 0 0) c.requires.0.sound a l c.in_err-ask_iterator.was r, passes_over r)

pub emit_rounds-returns-in_err-take_iterator : goal.emit_rounds-returns-in_err-take_iterator
emit_rounds-returns-in_err-take_iterator t c =
    let tree = c.args.s.tree.now in
    let names = slot_names tree c.args.s.slots.now in
    let a = c.ask_iterator.ensures in
    let u = c.take_iterator.ensures in
    let s = sound-next c.in_ok-ask_iterator.was a.reaches in
    let z = c.in_err-take_iterator.was in
    let w = lowers-stopped z z s (lengthens-block names (keeping_of c.args.it.now) (block_at c.args.depth tree c.args.block).value) u in
    (loop-over (ask_iter (keeper_of c.args.load)) (instr 29 0 0) c.requires.0.sound a c.in_ok-ask_iterator.was w z c.from_residual-in_err-take_iterator.ensures, passes_over c.from_residual-in_err-take_iterator.ensures)

pub emit_rounds-returns-in_err-next : goal.emit_rounds-returns-in_err-next
emit_rounds-returns-in_err-next t c =
    let a = c.ask_iterator.ensures in
    let u = c.take_iterator.ensures in
    let s = sound-next c.in_ok-ask_iterator.was a.reaches in
    let w = lowers_then c.in_ok-take_iterator.was s u c.emit_block.ensures.0.lowers in
    (loop-over (ask_iter (keeper_of c.args.load)) (instr 29 0 0) c.requires.0.sound a c.in_ok-ask_iterator.was w c.in_err-next.was c.from_residual-in_err-next.ensures, passes_over c.from_residual-in_err-next.ensures)

pub emit_rounds-end_loop-requires : goal.emit_rounds-end_loop-requires
emit_rounds-end_loop-requires t c =
    let a = c.ask_iterator.ensures in
    let u = c.take_iterator.ensures in
    let s = sound-next c.in_ok-ask_iterator.was a.reaches in
    let w = lowers_then c.in_ok-take_iterator.was s u c.emit_block.ensures.0.lowers in (
      inside-above (ask_iter (keeper_of c.args.load)) (instr 29 0 0) c.requires.0.sound a c.in_ok-ask_iterator.was w,
      end-above (ask_iter (keeper_of c.args.load)) (instr 29 0 0) c.requires.0.sound a c.in_ok-ask_iterator.was w c.in_ok-next.was,
    )

pub emit_rounds-returns-in_err-end_loop : goal.emit_rounds-returns-in_err-end_loop
emit_rounds-returns-in_err-end_loop t c =
    let a = c.ask_iterator.ensures in
    let u = c.take_iterator.ensures in
    let s = sound-next c.in_ok-ask_iterator.was a.reaches in
    let w = lowers_then c.in_ok-take_iterator.was s u c.emit_block.ensures.0.lowers in
    let h = loop-ends (ask_iter (keeper_of c.args.load)) (instr 29 0 0) c.requires.0.sound a c.in_ok-ask_iterator.was w c.in_ok-next.was c.end_loop.ensures in
    (words-none c.in_err-end_loop.was c.from_residual-in_err-end_loop.ensures h, passes_over c.from_residual-in_err-end_loop.ensures)

pub emit_rounds-returns : goal.emit_rounds-returns
emit_rounds-returns t c =
    let a = c.ask_iterator.ensures in
    let u = c.take_iterator.ensures in
    let s = sound-next c.in_ok-ask_iterator.was a.reaches in
    let w = lowers_then c.in_ok-take_iterator.was s u c.emit_block.ensures.0.lowers in (
      words-end c.in_ok-end_loop.was (c.emit_block.ensures.0.place _ c.in_ok-next.was) (loop-ends (ask_iter (keeper_of c.args.load)) (instr 29 0 0) c.requires.0.sound a c.in_ok-ask_iterator.was w c.in_ok-next.was c.end_loop.ensures),
      passes-done c.in_ok-next.was refl c.emit_block.ensures.1,
    )

-- ---- emit_body

pub emit_body-returns-in_err-next : goal.emit_body-returns-in_err-next
emit_body-returns-in_err-next t c = emits-stopped c.in_err-next.was c.from_residual.ensures c.requires.0.sound (lengthens-emits _) c.emit_block.ensures.0

pub emit_body-returns-in_err-put_end : goal.emit_body-returns-in_err-put_end
emit_body-returns-in_err-put_end t c =
    let b = c.emit_block.ensures.0 in
    emits-no-words c.in_ok-next.was c.in_err-put_end.was c.from_residual-in_err-put_end.ensures c.requires.0.sound b (writes-in (sound-next c.in_ok-next.was b.lowers.reaches) refl c.put_end.ensures)

pub emit_body-returns : goal.emit_body-returns
emit_body-returns t c =
    let b = c.emit_block.ensures.0 in
    emits-words c.in_ok-next.was c.in_ok-put_end.was c.requires.0.sound b (writes-in (sound-next c.in_ok-next.was b.lowers.reaches) refl c.put_end.ensures)

-- ---- compile_function

pub compile_function-returns-in_err-frame : goal.compile_function-returns-in_err-frame
compile_function-returns-in_err-frame t c = slots-stopped c.args.depth c.args.at c.args.init c.in_err-frame.was c.from_residual.ensures c.name_end-params.ensures c.skip_params-block.ensures c.collect_locals.ensures

pub compile_function-start_named-requires : goal.compile_function-start_named-requires
compile_function-start_named-requires t c =
    let k = function-parts c.requires.1 c.name_end-params.ensures c.u16_at-arity.ensures.0 c.skip_params-block.ensures c.collect_locals.ensures c.in_ok-frame.was (omega (arith, c.collect_locals.auto.slots)) in
    (naming-sound c.requires.0.sound, omega (arith, c.requires.1.name.byte, c.requires.0.tree-short), k.arity-few, omega (arith, k.framing.few))

pub compile_function-returns-in_err-f : goal.compile_function-returns-in_err-f
compile_function-returns-in_err-f t c =
    let k = function-parts c.requires.1 c.name_end-params.ensures c.u16_at-arity.ensures.0 c.skip_params-block.ensures c.collect_locals.ensures c.in_ok-frame.was (omega (arith, c.collect_locals.auto.slots)) in
    function-over c.args.depth c.args.init c.requires.0.sound k.arity-is k.framing.locals c.start_named.ensures c.in_err-f.was c.from_residual-in_err-f.ensures

pub compile_function-slice_bounds-slots-end : goal.compile_function-slice_bounds-slots-end
compile_function-slice_bounds-slots-end t c =
    let k = function-parts c.requires.1 c.name_end-params.ensures c.u16_at-arity.ensures.0 c.skip_params-block.ensures c.collect_locals.ensures c.in_ok-frame.was (omega (arith, c.collect_locals.auto.slots)) in
    omega (arith, k.room)

pub compile_function-slice_bounds-s-end : goal.compile_function-slice_bounds-s-end
compile_function-slice_bounds-s-end t c =
    let k = function-parts c.requires.1 c.name_end-params.ensures c.u16_at-arity.ensures.0 c.skip_params-block.ensures c.collect_locals.ensures c.in_ok-frame.was (omega (arith, c.collect_locals.auto.slots)) in
    omega (arith, length-take-le (slots_from + c.in_ok-frame.frame.named) c.collect_locals.new.slots k.room)

pub compile_function-invariant_of-s : goal.compile_function-invariant_of-s
compile_function-invariant_of-s t c =
    let k = function-parts c.requires.1 c.name_end-params.ensures c.u16_at-arity.ensures.0 c.skip_params-block.ensures c.collect_locals.ensures c.in_ok-frame.was (omega (arith, c.collect_locals.auto.slots)) in
    record { slotted = k.slotted }

pub compile_function-emit_body-requires : goal.compile_function-emit_body-requires
compile_function-emit_body-requires t c =
    let k = function-parts c.requires.1 c.name_end-params.ensures c.u16_at-arity.ensures.0 c.skip_params-block.ensures c.collect_locals.ensures c.in_ok-frame.was (omega (arith, c.collect_locals.auto.slots)) in (
      omega (arith, c.decreases),
      (sole-at c.requires.0 (function-sound c.args.depth c.args.init c.requires.0.sound k.arity-is k.framing.locals c.start_named.ensures c.in_ok-f.was), block-at _ _ _ _ k.block-is c.requires.1.block, spare-at _ _ k.block-is k.spare),
    )

pub compile_function-returns-in_err-next : goal.compile_function-returns-in_err-next
compile_function-returns-in_err-next t c =
    let k = function-parts c.requires.1 c.name_end-params.ensures c.u16_at-arity.ensures.0 c.skip_params-block.ensures c.collect_locals.ensures c.in_ok-frame.was (omega (arith, c.collect_locals.auto.slots)) in
    let b = body-by c.args.depth c.args.tree.now _ _ (end_of c.args.init) k.block-is c.emit_body.ensures in
    function-stopped c.args.depth c.args.init c.requires.0.sound k.arity-is k.framing.locals c.start_named.ensures c.in_ok-f.was k.names k.keep b c.in_err-next.was c.from_residual-in_err-next.ensures

pub compile_function-returns : goal.compile_function-returns
compile_function-returns t c =
    let k = function-parts c.requires.1 c.name_end-params.ensures c.u16_at-arity.ensures.0 c.skip_params-block.ensures c.collect_locals.ensures c.in_ok-frame.was (omega (arith, c.collect_locals.auto.slots)) in
    let b = body-by c.args.depth c.args.tree.now _ _ (end_of c.args.init) k.block-is c.emit_body.ensures in
    function-done c.args.depth c.args.init c.requires.0.sound k.arity-is k.framing.locals c.start_named.ensures c.in_ok-f.was k.names k.keep b c.in_ok-next.was c.end_function.ensures

-- ---- emit_methods

pub emit_methods-loop-init : goal.emit_methods-loop-init
emit_methods-loop-init t c = methods-all _ (omega arith) c.requires.0 c.requires.1 c.requires.2

pub emit_methods-compile_function-requires : goal.emit_methods-compile_function-requires
emit_methods-compile_function-requires t c = (omega (arith, c.decreases), (methods-sole c.loop.invariant c.requires.0, (methods-parts _ _ _ _ (omega (arith, c.loop-test.true)) c.loop.invariant.methods).0))

pub emit_methods-returns-in_err-next : goal.emit_methods-returns-in_err-next
emit_methods-returns-in_err-next t c = methods-stopped c.loop.invariant c.requires.0 (omega (arith, c.loop-test.true)) c.is_init.ensures c.compile_function.ensures c.in_err-next.was c.from_residual.ensures

pub emit_methods-overflow_cast-p : goal.emit_methods-overflow_cast-p
emit_methods-overflow_cast-p t c = omega (arith, (methods-parts _ _ _ _ (omega (arith, c.loop-test.true)) c.loop.invariant.methods).0.name.byte, c.requires.0.tree-short)

pub emit_methods-overflow_mul-p : goal.emit_methods-overflow_mul-p
emit_methods-overflow_mul-p t c = omega (arith, (methods-parts _ _ _ _ (omega (arith, c.loop-test.true)) c.loop.invariant.methods).0.name.byte, c.requires.0.tree-short)

pub emit_methods-overflow_add-p : goal.emit_methods-overflow_add-p
emit_methods-overflow_add-p t c =
    let number = methods-number c.loop.invariant c.requires.0 (omega (arith, c.loop-test.true)) c.is_init.ensures c.compile_function.ensures c.in_ok-next.was in
    omega (arith, (methods-parts _ _ _ _ (omega (arith, c.loop-test.true)) c.loop.invariant.methods).0.name.byte, c.requires.0.tree-short, number)

pub emit_methods-insert_method-count-requires : goal.emit_methods-insert_method-count-requires
emit_methods-insert_method-count-requires t c =
    let m = methods-room c.loop.invariant c.requires.0 (omega (arith, c.loop-test.true)) c.is_init.ensures c.compile_function.ensures c.in_ok-next.was in
    (omega (arith, m, c.loop.invariant.room), omega (arith, m), c.loop.invariant.ordered)

pub emit_methods-loop-preserved : goal.emit_methods-loop-preserved
emit_methods-loop-preserved t c =
    methods-next c.loop.invariant c.requires.0 (omega (arith, c.loop-test.true)) c.is_init.ensures c.compile_function.ensures c.in_ok-next.was _ (omega arith) c.insert_method-count.ensures
    c.insert_method-count.auto.list

pub emit_methods-returns : goal.emit_methods-returns
emit_methods-returns t c = methods-done c.loop.invariant c.requires.0 (omega (arith, c.loop-test.false))

-- ---- emit_class

pub emit_class-returns-in_err-i : goal.emit_class-returns-in_err-i
emit_class-returns-in_err-i t c = class-over (class_methods_at c.args.depth c.args.tree.now c.args.at).value c.requires.0.sound c.begin_class.ensures c.in_err-i.was c.from_residual.ensures

pub emit_class-emit_methods-requires : goal.emit_class-emit_methods-requires
emit_class-emit_methods-requires t c = (
  omega (arith, c.decreases),
  (
    sole-at c.requires.0 (class-sound (class_methods_at c.args.depth c.args.tree.now c.args.at).value c.requires.0.sound c.begin_class.ensures c.in_ok-i.was),
    class-methods _ _ _ c.name_end-start.ensures c.u16_at-n.ensures.0 c.requires.1.methods,
    omega arith,
  ),
)

pub emit_class-returns-in_err-count : goal.emit_class-returns-in_err-count
emit_class-returns-in_err-count t c =
    let b = class-lists c.args.depth c.args.tree.now c.args.at c.name_end-start.ensures c.u16_at-n.ensures.0 _ c.emit_methods.ensures in
    class-stopped (class_methods_at c.args.depth c.args.tree.now c.args.at).value c.requires.0.sound c.begin_class.ensures c.in_ok-i.was b c.in_err-count.was c.from_residual-in_err-count.ensures

pub emit_class-slice_bounds-list-end : goal.emit_class-slice_bounds-list-end
emit_class-slice_bounds-list-end t c =
    let b = class-lists c.args.depth c.args.tree.now c.args.at c.name_end-start.ensures c.u16_at-n.ensures.0 _ c.emit_methods.ensures in
    (class-asks (class_methods_at c.args.depth c.args.tree.now c.args.at).value c.requires.0.sound c.begin_class.ensures c.in_ok-i.was b c.in_ok-count.was).2

pub emit_class-finish_class-requires : goal.emit_class-finish_class-requires
emit_class-finish_class-requires t c =
    let b = class-lists c.args.depth c.args.tree.now c.args.at c.name_end-start.ensures c.u16_at-n.ensures.0 _ c.emit_methods.ensures in
    let q = class-asks (class_methods_at c.args.depth c.args.tree.now c.args.at).value c.requires.0.sound c.begin_class.ensures c.in_ok-i.was b c.in_ok-count.was in
    let many = class-many (class_methods_at c.args.depth c.args.tree.now c.args.at).value c.requires.0.sound c.begin_class.ensures c.in_ok-i.was b c.in_ok-count.was in
    (q.0, omega (arith, c.requires.1.name.byte, c.requires.0.tree-short), q.1, omega (arith, many, q.3), q.4)

pub emit_class-returns : goal.emit_class-returns
emit_class-returns t c =
    let b = class-lists c.args.depth c.args.tree.now c.args.at c.name_end-start.ensures c.u16_at-n.ensures.0 _ c.emit_methods.ensures in
    class-done (class_methods_at c.args.depth c.args.tree.now c.args.at).value c.requires.0.sound c.begin_class.ensures c.in_ok-i.was b c.in_ok-count.was c.finish_class.ensures
