use native.Mathlib.Omega.{arith}
use mathlib.Core.Logic.{⊎_elim}
use mathlib.Core.Path.{sym, ap, ◌∙◌}
use Rattle.std.proofs.Common.{rules}
use Rattle.numerals.specs.Kinds.{stmt_byte}
use Rattle.tree_view.proofs.StmtViews.{stmt-inside, stmt-deep, stmt-known, view-expr, view-return, view-assign, view-if, view-while, view-for, view-def, view-class, view-block, else-inside}
use Rattle.instep.proofs.Stepping.{stopped, by-rank, ranked-same}
use Rattle.instep.proofs.Parts.{expr-is, return-is, assign-is, if-is, while-is, for-is, def_is, stmt-begins, stmts-head, block_reads}
use Rattle.instep.proofs.Ways.{begin-less, begin-greater, kind-steps, simple-steps, pair-start, pair-first, pair-second, pair-there, pair-next, pair-apart, pair_inside, pair-done}
use Rattle.instep.proofs.Ways.{along-start, along-last, along-next, along-apart, branches-head, branches-first, branches-none, branches-zero, methods-head, methods-first, methods-done}
use Rattle.instep.proofs.Ways.{block-less, block-greater, block-kept, block-steps, branch-apart, branch-first, branch-second, branch-steps, same_count}
use Rattle.instep.proofs.Ways.{if-apart, if-first, if-second, if-reads, if-others, if-less, if-greater, if-steps}
use Rattle.instep.proofs.Ways.{else-less, else-greater, else-none, else-first, else-second, else-steps, for-apart, for-first, for-second, for-steps}
use Rattle.instep.proofs.Ways.{def-apart, def-first, def-second, params-apart, block-first, block-second, def-steps}
use Rattle.instep.proofs.Ways.{class-apart, class-first, class-second, class-methods, class-others, class-less, class-greater, methods-apart, class-done}
use Rattle.instep.proofs.Trees.+step.Goals as goal
use Rattle.numerals.proofs.KindBytes.{plain-kind}

pub block-u16_at-m-requires : goal.block-u16_at-m-requires
block-u16_at-m-requires t c = let h = (view-block _ _ _ c.requires.1).parts.count.bytes in omega arith

pub block-u16_at-n-requires : goal.block-u16_at-n-requires
block-u16_at-n-requires t c = let h = (view-block _ _ _ c.requires.2).parts.count.bytes in omega arith

pub block-kept-left-requires : goal.block-kept-left-requires
block-kept-left-requires t c = block_reads _ _ _ _ c.requires.1 c.u16_at-m.ensures.0

pub block-kept-other-requires : goal.block-kept-other-requires
block-kept-other-requires t c = block_reads _ _ _ _ c.requires.2 c.u16_at-n.ensures.0

pub block-returns-in_err-same_number : goal.block-returns-in_err-same_number
block-returns-in_err-same_number t c =
    stopped (search rules) (by-rank c.same_number.ensures c.in_err-same_number.was
    (block-less _ _ _ _ _ _ _ c.requires.1 c.requires.2 c.u16_at-m.ensures.0 c.u16_at-n.ensures.0 _ _ c.kept-left.ensures c.kept-other.ensures c.u16_at-n.ensures.1)
    (block-greater _ _ _ _ _ _ _ c.requires.1 c.requires.2 c.u16_at-m.ensures.0 c.u16_at-n.ensures.0 _ _ c.kept-left.ensures c.kept-other.ensures c.u16_at-m.ensures.1))

pub block-stmts-requires : goal.block-stmts-requires
block-stmts-requires t c =
    let k = ranked-same c.same_number.ensures c.in_ok-same_number.was in (
      omega arith,
      (
        c.requires.0,
        block_reads _ _ _ _ c.requires.1 c.u16_at-m.ensures.0,
        block_reads _ _ _ _ c.requires.2 c.u16_at-n.ensures.0,
        block-kept _ _ _ _ _ _ _ c.requires.1 c.requires.2 c.u16_at-m.ensures.0 c.u16_at-n.ensures.0 _ _ c.kept-left.ensures c.kept-other.ensures (omega (arith, k)) (omega (arith, k)),
      ),
    )

pub block-returns : goal.block-returns
block-returns t c =
    let k = ranked-same c.same_number.ensures c.in_ok-same_number.was in
    block-steps _ _ _ _ _ _ _ c.requires.1 c.requires.2 c.u16_at-m.ensures.0 c.u16_at-n.ensures.0 _ _ c.kept-left.ensures c.kept-other.ensures (omega (arith, k)) (omega (arith, k)) c.stmts.ensures

pub branch-returns-in_err-next : goal.branch-returns-in_err-next
branch-returns-in_err-next t c = stopped (search rules) (branch-apart _ _ _ _ _ c.expr.ensures c.in_err-next.was)

pub branch-block-requires : goal.branch-block-requires
branch-block-requires t c =
    let S = c.expr.ensures in
    let h = c.in_ok-next.was in
    (omega arith, (c.requires.0, branch-first _ _ _ _ _ S h c.requires.1, branch-second _ _ _ _ _ S h c.requires.2))

pub branch-returns : goal.branch-returns
branch-returns t c = branch-steps _ _ _ _ _ c.expr.ensures c.in_ok-next.was c.block.ensures

pub branches-returns-in_err-next : goal.branches-returns-in_err-next
branches-returns-in_err-next t c = stopped (search rules) (if-apart _ _ _ _ _ c.branch-self.ensures c.in_err-next.was)

pub branches-u16_at-count-requires : goal.branches-u16_at-count-requires
branches-u16_at-count-requires t c = let h = if-first _ _ _ _ _ c.branch-self.ensures c.in_ok-next.was c.requires.1 in omega arith

pub branches-u16_at-other-requires : goal.branches-u16_at-other-requires
branches-u16_at-other-requires t c = let h = if-second _ _ _ _ _ c.branch-self.ensures c.in_ok-next.was c.requires.2 in omega arith

pub branches-returns-in_err-same_number : goal.branches-returns-in_err-same_number
branches-returns-in_err-same_number t c =
    stopped (search rules) (by-rank c.same_number.ensures c.in_err-same_number.was
    (if-less _ _ _ _ _ c.branch-self.ensures c.in_ok-next.was c.u16_at-count.ensures.0 c.u16_at-other.ensures.0 c.u16_at-other.ensures.1)
    (if-greater _ _ _ _ _ c.branch-self.ensures c.in_ok-next.was c.u16_at-count.ensures.0 c.u16_at-other.ensures.0 c.u16_at-count.ensures.1))

pub branches-overflow_add-next : goal.branches-overflow_add-next
branches-overflow_add-next t c = let h = if-first _ _ _ _ _ c.branch-self.ensures c.in_ok-next.was c.requires.1 in omega arith

pub branches-overflow_add-next-2 : goal.branches-overflow_add-next-2
branches-overflow_add-next-2 t c = let h = if-second _ _ _ _ _ c.branch-self.ensures c.in_ok-next.was c.requires.2 in omega arith

pub branches-elifs-requires : goal.branches-elifs-requires
branches-elifs-requires t c =
    let k = ranked-same c.same_number.ensures c.in_ok-same_number.was in (
      omega arith,
      (
        c.requires.0,
        if-reads _ _ _ _ _ c.branch-self.ensures c.in_ok-next.was c.u16_at-count.ensures.0 c.requires.1,
        if-others _ _ _ _ _ c.branch-self.ensures c.in_ok-next.was (same_count c.u16_at-other.ensures.0 (omega (arith, k)) (omega (arith, k))) c.requires.2,
      ),
    )

pub branches-returns : goal.branches-returns
branches-returns t c =
    let k = ranked-same c.same_number.ensures c.in_ok-same_number.was in
    if-steps _ _ _ _ _ c.branch-self.ensures c.in_ok-next.was c.u16_at-count.ensures.0 c.u16_at-other.ensures.0 (omega (arith, k)) (omega (arith, k)) c.elifs.ensures

pub class-name-requires : goal.class-name-requires
class-name-requires t c = (c.requires.0, (view-class _ _ _ c.requires.1 c.requires.2).parts.name, (view-class _ _ _ c.requires.3 c.requires.4).parts.name)

pub class-returns-in_err-next : goal.class-returns-in_err-next
class-returns-in_err-next t c = stopped (search rules) (class-apart _ _ _ _ _ c.requires.1 c.requires.2 c.requires.3 c.requires.4 c.name.ensures c.in_err-next.was)

pub class-u16_at-count-requires : goal.class-u16_at-count-requires
class-u16_at-count-requires t c = let h = class-first _ _ _ _ _ c.requires.1 c.requires.2 c.requires.3 c.requires.4 c.name.ensures c.in_ok-next.was in omega arith

pub class-u16_at-other-requires : goal.class-u16_at-other-requires
class-u16_at-other-requires t c = let h = class-second _ _ _ _ _ c.requires.1 c.requires.2 c.requires.3 c.requires.4 c.name.ensures c.in_ok-next.was in omega arith

pub class-returns-in_err-same_number : goal.class-returns-in_err-same_number
class-returns-in_err-same_number t c =
    stopped (search rules) (by-rank c.same_number.ensures c.in_err-same_number.was
    (class-less _ _ _ _ _ c.requires.1 c.requires.2 c.requires.3 c.requires.4 c.name.ensures c.in_ok-next.was c.u16_at-count.ensures.0 c.u16_at-other.ensures.0 c.u16_at-other.ensures.1)
    (class-greater _ _ _ _ _ c.requires.1 c.requires.2 c.requires.3 c.requires.4 c.name.ensures c.in_ok-next.was c.u16_at-count.ensures.0 c.u16_at-other.ensures.0 c.u16_at-count.ensures.1))

pub class-overflow_add-next : goal.class-overflow_add-next
class-overflow_add-next t c = let h = class-first _ _ _ _ _ c.requires.1 c.requires.2 c.requires.3 c.requires.4 c.name.ensures c.in_ok-next.was in omega arith

pub class-overflow_add-next-2 : goal.class-overflow_add-next-2
class-overflow_add-next-2 t c = let h = class-second _ _ _ _ _ c.requires.1 c.requires.2 c.requires.3 c.requires.4 c.name.ensures c.in_ok-next.was in omega arith

pub class-overflow_sub-depth : goal.class-overflow_sub-depth
class-overflow_sub-depth t c = let h = stmt-deep _ _ _ c.requires.1 in omega arith

pub class-methods-requires : goal.class-methods-requires
class-methods-requires t c =
    let k = ranked-same c.same_number.ensures c.in_ok-same_number.was in
    let h = stmt-deep _ _ _ c.requires.1 in (
      omega arith,
      (
        c.requires.0,
        class-methods _ _ _ _ _ c.requires.1 c.requires.2 c.requires.3 c.requires.4 c.name.ensures c.in_ok-next.was c.u16_at-count.ensures.0,
        class-others _ _ _ _ _ c.requires.1 c.requires.2 c.requires.3 c.requires.4 c.name.ensures c.in_ok-next.was (same_count c.u16_at-other.ensures.0 (omega (arith, k)) (omega (arith, k))),
      ),
    )

pub class-returns-in_err-methods : goal.class-returns-in_err-methods
class-returns-in_err-methods t c =
    let k = ranked-same c.same_number.ensures c.in_ok-same_number.was in
    stopped (search rules) (methods-apart _ _ _ _ _ c.requires.1 c.requires.2 c.requires.3 c.requires.4 c.name.ensures c.in_ok-next.was
    c.u16_at-count.ensures.0 c.u16_at-other.ensures.0 (omega (arith, k)) (omega (arith, k)) c.methods.ensures c.in_err-methods.was)

pub class-returns : goal.class-returns
class-returns t c =
    let k = ranked-same c.same_number.ensures c.in_ok-same_number.was in
    class-done _ _ _ _ _ c.requires.1 c.requires.2 c.requires.3 c.requires.4 c.name.ensures c.in_ok-next.was c.u16_at-count.ensures.0 c.u16_at-other.ensures.0
    (omega (arith, k)) (omega (arith, k)) c.methods.ensures c.in_ok-methods.was c.skip_stmt-first.ensures c.skip_stmt-second.ensures

pub def-returns-in_err-params : goal.def-returns-in_err-params
def-returns-in_err-params t c = stopped (search rules) (def-apart _ _ _ _ c.name.ensures _ c.in_err-params.was)

pub def-params-requires : goal.def-params-requires
def-params-requires t c = (c.requires.0, def-first _ _ _ _ c.name.ensures c.in_ok-params.was c.requires.1, def-second _ _ _ _ c.name.ensures c.in_ok-params.was c.requires.2)

pub def-returns-in_err-block : goal.def-returns-in_err-block
def-returns-in_err-block t c = stopped (search rules) (params-apart _ _ _ _ c.name.ensures c.in_ok-params.was _ c.params.ensures c.in_err-block.was)

pub def-block-requires : goal.def-block-requires
def-block-requires t c = (
  omega arith,
  (
    c.requires.0,
    block-first _ _ _ _ c.name.ensures c.in_ok-params.was _ c.params.ensures c.in_ok-block.was c.requires.1,
    block-second _ _ _ _ c.name.ensures c.in_ok-params.was _ c.params.ensures c.in_ok-block.was c.requires.2,
  ),
)

pub def-returns : goal.def-returns
def-returns t c = def-steps _ _ _ _ c.name.ensures c.in_ok-params.was _ c.params.ensures c.in_ok-block.was c.block.ensures

pub elifs-loop-init : goal.elifs-loop-init
elifs-loop-init t c = along-start (omega arith) c.requires.1 c.requires.2

pub elifs-branch-self-requires : goal.elifs-branch-self-requires
elifs-branch-self-requires t c = (omega arith, (c.requires.0, branches-head _ _ _ _ (omega (arith, c.loop-test.true)) c.loop.invariant.first, branches-head _ _ _ _ (omega (arith, c.loop-test.true)) c.loop.invariant.second))

pub elifs-returns-in_err-p : goal.elifs-returns-in_err-p
elifs-returns-in_err-p t c =
    let first = branches-first _ _ _ _ (omega (arith, c.loop-test.true)) c.loop.invariant.first in
    let second = branches-first _ _ _ _ (omega (arith, c.loop-test.true)) c.loop.invariant.second in
    stopped (search rules) (along-apart c.loop.invariant first second c.branch-self.ensures c.in_err-p.was)

pub elifs-loop-preserved : goal.elifs-loop-preserved
elifs-loop-preserved t c =
    let first = branches-first _ _ _ _ (omega (arith, c.loop-test.true)) c.loop.invariant.first in
    let second = branches-first _ _ _ _ (omega (arith, c.loop-test.true)) c.loop.invariant.second in
    along-next c.loop.invariant first second c.branch-self.ensures c.in_ok-p.was (omega arith)

pub elifs-else_block-requires : goal.elifs-else_block-requires
elifs-else_block-requires t c = (omega arith, (c.requires.0, branches-none _ _ _ _ (omega (arith, c.loop-test.false)) c.loop.invariant.first, branches-none _ _ _ _ (omega (arith, c.loop-test.false)) c.loop.invariant.second))

pub elifs-returns : goal.elifs-returns
elifs-returns t c = along-last c.loop.invariant (branches-zero _ _ _ _ _ _ (omega (arith, c.loop-test.false)) c.else_block.ensures)

pub else_block-bounds-self-at : goal.else_block-bounds-self-at
else_block-bounds-self-at t c = let h = else-inside _ _ _ 0 (omega arith) c.requires.1 in omega arith

pub else_block-bounds-self-at-2 : goal.else_block-bounds-self-at-2
else_block-bounds-self-at-2 t c = let h = else-inside _ _ _ 0 (omega arith) c.requires.2 in omega arith

pub else_block-returns-in_err-same_number : goal.else_block-returns-in_err-same_number
else_block-returns-in_err-same_number t c = stopped (search rules) (by-rank c.same_number.ensures c.in_err-same_number.was (else-less _ _ _ _ _ c.requires.1 c.requires.2) (else-greater _ _ _ _ _ c.requires.1 c.requires.2))

pub else_block-returns-then-there-eq0 : goal.else_block-returns-then-there-eq0
else_block-returns-then-there-eq0 t c =
    let k = ranked-same c.same_number.ensures c.in_ok-same_number.was in
    else-none _ _ _ _ _ c.requires.1 c.requires.2 (omega (arith, k)) (omega (arith, k)) c.if-there-eq0.true

pub else_block-block-requires : goal.else_block-block-requires
else_block-block-requires t c =
    let k = ranked-same c.same_number.ensures c.in_ok-same_number.was in
    let h = c.if-there-eq0.false in
    (omega arith, (c.requires.0, else-first _ _ _ _ _ c.requires.1 c.requires.2 (omega (arith, k)) (omega (arith, k)) h, else-second _ _ _ _ _ c.requires.1 c.requires.2 (omega (arith, k)) (omega (arith, k)) h))

pub else_block-returns : goal.else_block-returns
else_block-returns t c =
    let k = ranked-same c.same_number.ensures c.in_ok-same_number.was in
    else-steps _ _ _ _ _ c.requires.1 c.requires.2 (omega (arith, k)) (omega (arith, k)) c.if-there-eq0.false c.block.ensures

pub loop_over-returns-in_err-next : goal.loop_over-returns-in_err-next
loop_over-returns-in_err-next t c = stopped (search rules) (for-apart _ _ _ _ c.name.ensures _ c.in_err-next.was)

pub loop_over-branch-self-requires : goal.loop_over-branch-self-requires
loop_over-branch-self-requires t c = (omega arith, (c.requires.0, for-first _ _ _ _ c.name.ensures c.in_ok-next.was c.requires.1, for-second _ _ _ _ c.name.ensures c.in_ok-next.was c.requires.2))

pub loop_over-returns : goal.loop_over-returns
loop_over-returns t c = for-steps _ _ _ _ c.name.ensures c.in_ok-next.was _ c.branch-self.ensures

pub methods-loop-init : goal.methods-loop-init
methods-loop-init t c = along-start (omega arith) c.requires.1 c.requires.2

pub methods-def-requires : goal.methods-def-requires
methods-def-requires t c = (omega arith, (c.requires.0, methods-head _ _ _ _ (omega (arith, c.loop-test.true)) c.loop.invariant.first, methods-head _ _ _ _ (omega (arith, c.loop-test.true)) c.loop.invariant.second))

pub methods-returns-in_err-p : goal.methods-returns-in_err-p
methods-returns-in_err-p t c =
    let first = methods-first _ _ _ _ (omega (arith, c.loop-test.true)) c.loop.invariant.first in
    let second = methods-first _ _ _ _ (omega (arith, c.loop-test.true)) c.loop.invariant.second in
    stopped (search rules) (along-apart c.loop.invariant first second c.def.ensures c.in_err-p.was)

pub methods-loop-preserved : goal.methods-loop-preserved
methods-loop-preserved t c =
    let first = methods-first _ _ _ _ (omega (arith, c.loop-test.true)) c.loop.invariant.first in
    let second = methods-first _ _ _ _ (omega (arith, c.loop-test.true)) c.loop.invariant.second in
    along-next c.loop.invariant first second c.def.ensures c.in_ok-p.was (omega arith)

pub methods-returns : goal.methods-returns
methods-returns t c = methods-done _ _ _ _ _ _ _ _ _ c.loop.invariant (omega (arith, c.loop-test.false))

pub stmt-bounds-self-at : goal.stmt-bounds-self-at
stmt-bounds-self-at t c = stmt-inside _ _ _ c.requires.1

pub stmt-bounds-self-at-2 : goal.stmt-bounds-self-at-2
stmt-bounds-self-at-2 t c = stmt-inside _ _ _ c.requires.2

pub stmt-returns-in_err-same_number : goal.stmt-returns-in_err-same_number
stmt-returns-in_err-same_number t c =
    let X = stmt-begins _ _ _ c.requires.1 in
    let Y = stmt-begins _ _ _ c.requires.2 in
    stopped (search rules) (by-rank c.same_number.ensures c.in_err-same_number.was (begin-less X Y) (begin-greater X Y))

pub stmt-of-requires : goal.stmt-of-requires
stmt-of-requires t c = stmt-known _ _ _ c.requires.1

pub stmt-overflow_sub-depth : goal.stmt-overflow_sub-depth
stmt-overflow_sub-depth t c = let h = stmt-deep _ _ _ c.requires.1 in omega arith

pub stmt-overflow_sub-depth-in-Assign : goal.stmt-overflow_sub-depth-in-Assign
stmt-overflow_sub-depth-in-Assign t c = let h = stmt-deep _ _ _ c.requires.1 in omega arith

pub stmt-overflow_sub-depth-in-If : goal.stmt-overflow_sub-depth-in-If
stmt-overflow_sub-depth-in-If t c = let h = stmt-deep _ _ _ c.requires.1 in omega arith

pub stmt-overflow_sub-depth-in-While : goal.stmt-overflow_sub-depth-in-While
stmt-overflow_sub-depth-in-While t c = let h = stmt-deep _ _ _ c.requires.1 in omega arith

pub stmt-overflow_sub-depth-in-For : goal.stmt-overflow_sub-depth-in-For
stmt-overflow_sub-depth-in-For t c = let h = stmt-deep _ _ _ c.requires.1 in omega arith

pub stmt-overflow_sub-depth-in-Def : goal.stmt-overflow_sub-depth-in-Def
stmt-overflow_sub-depth-in-Def t c = let h = stmt-deep _ _ _ c.requires.1 in omega arith

pub stmt-expr-requires : goal.stmt-expr-requires
unfolding stmt_byte
stmt-expr-requires t c =
    let k = ranked-same c.same_number.ensures c.in_ok-same_number.was in
    ⊎_elim
    (λ e. let f = sym c.of.ensures ∙ ap stmt_byte e in (c.requires.0, (view-expr _ _ _ c.requires.1 f).parts, (view-expr _ _ _ c.requires.2 (sym k ∙ f)).parts))
    (λ e. let f = sym c.of.ensures ∙ ap stmt_byte e in (c.requires.0, (view-return _ _ _ c.requires.1 f).parts, (view-return _ _ _ c.requires.2 (sym k ∙ f)).parts))
    c.in-Expr.is

pub stmt-two-requires : goal.stmt-two-requires
unfolding stmt_byte
stmt-two-requires t c =
    let k = ranked-same c.same_number.ensures c.in_ok-same_number.was in
    let f = sym c.in-Assign.ensures in
    (c.requires.0, (view-assign _ _ _ c.requires.1 f).parts, (view-assign _ _ _ c.requires.2 (sym k ∙ f)).parts)

pub stmt-branches-requires : goal.stmt-branches-requires
unfolding stmt_byte
stmt-branches-requires t c =
    let k = ranked-same c.same_number.ensures c.in_ok-same_number.was in
    let f = sym c.in-If.ensures in
    let h = stmt-deep _ _ _ c.requires.1 in
    (omega arith, (c.requires.0, (view-if _ _ _ c.requires.1 f).parts, (view-if _ _ _ c.requires.2 (sym k ∙ f)).parts))

pub stmt-branch-self-requires : goal.stmt-branch-self-requires
unfolding stmt_byte
stmt-branch-self-requires t c =
    let k = ranked-same c.same_number.ensures c.in_ok-same_number.was in
    let f = sym c.in-While.ensures in
    let h = stmt-deep _ _ _ c.requires.1 in
    (omega arith, (c.requires.0, (view-while _ _ _ c.requires.1 f).parts, (view-while _ _ _ c.requires.2 (sym k ∙ f)).parts))

pub stmt-loop_over-requires : goal.stmt-loop_over-requires
unfolding stmt_byte
stmt-loop_over-requires t c =
    let k = ranked-same c.same_number.ensures c.in_ok-same_number.was in
    let f = sym c.in-For.ensures in
    let h = stmt-deep _ _ _ c.requires.1 in
    (omega arith, (c.requires.0, (view-for _ _ _ c.requires.1 f).parts, (view-for _ _ _ c.requires.2 (sym k ∙ f)).parts))

pub stmt-def-requires : goal.stmt-def-requires
unfolding stmt_byte
stmt-def-requires t c =
    let k = ranked-same c.same_number.ensures c.in_ok-same_number.was in
    let f = sym c.in-Def.ensures in
    let h = stmt-deep _ _ _ c.requires.1 in
    (omega arith, (c.requires.0, (view-def _ _ _ c.requires.1 f).parts, (view-def _ _ _ c.requires.2 (sym k ∙ f)).parts))

pub stmt-class-requires : goal.stmt-class-requires
unfolding stmt_byte
stmt-class-requires t c =
    let k = ranked-same c.same_number.ensures c.in_ok-same_number.was in
    let f = sym c.in-Class.ensures in
    (omega arith, (c.requires.0, c.requires.1, f, c.requires.2, sym k ∙ f))

pub stmt-returns-in-Break : goal.stmt-returns-in-Break
stmt-returns-in-Break t c =
    let k = ranked-same c.same_number.ensures c.in_ok-same_number.was in
    simple-steps _ c.requires.1 c.requires.2 k (plain-kind _ _ c.of.ensures c.in-Break.is)

pub stmt-returns-in-Expr : goal.stmt-returns-in-Expr
unfolding stmt_byte
stmt-returns-in-Expr t c =
    let k = ranked-same c.same_number.ensures c.in_ok-same_number.was in
    ⊎_elim
    (λ e. let f = sym c.of.ensures ∙ ap stmt_byte e in kind-steps (expr-is _ _ _ c.requires.1 f) (expr-is _ _ _ c.requires.2 (sym k ∙ f)) c.expr.ensures)
    (λ e. let f = sym c.of.ensures ∙ ap stmt_byte e in kind-steps (return-is _ _ _ c.requires.1 f) (return-is _ _ _ c.requires.2 (sym k ∙ f)) c.expr.ensures)
    c.in-Expr.is

pub stmt-returns-in-Assign : goal.stmt-returns-in-Assign
unfolding stmt_byte
stmt-returns-in-Assign t c =
    let k = ranked-same c.same_number.ensures c.in_ok-same_number.was in
    let f = sym c.in-Assign.ensures in
    kind-steps (assign-is _ _ _ c.requires.1 f) (assign-is _ _ _ c.requires.2 (sym k ∙ f)) c.two.ensures

pub stmt-returns-in-If : goal.stmt-returns-in-If
unfolding stmt_byte
stmt-returns-in-If t c =
    let k = ranked-same c.same_number.ensures c.in_ok-same_number.was in
    let f = sym c.in-If.ensures in
    kind-steps (if-is _ _ _ c.requires.1 f) (if-is _ _ _ c.requires.2 (sym k ∙ f)) c.branches.ensures

pub stmt-returns-in-While : goal.stmt-returns-in-While
unfolding stmt_byte
stmt-returns-in-While t c =
    let k = ranked-same c.same_number.ensures c.in_ok-same_number.was in
    let f = sym c.in-While.ensures in
    kind-steps (while-is _ _ _ c.requires.1 f) (while-is _ _ _ c.requires.2 (sym k ∙ f)) c.branch-self.ensures

pub stmt-returns-in-For : goal.stmt-returns-in-For
unfolding stmt_byte
stmt-returns-in-For t c =
    let k = ranked-same c.same_number.ensures c.in_ok-same_number.was in
    let f = sym c.in-For.ensures in
    kind-steps (for-is _ _ _ c.requires.1 f) (for-is _ _ _ c.requires.2 (sym k ∙ f)) c.loop_over.ensures

pub stmt-returns-in-Def : goal.stmt-returns-in-Def
unfolding stmt_byte
stmt-returns-in-Def t c =
    let k = ranked-same c.same_number.ensures c.in_ok-same_number.was in
    let f = sym c.in-Def.ensures in
    kind-steps (def_is _ _ _ c.requires.1 f) (def_is _ _ _ c.requires.2 (sym k ∙ f)) c.def.ensures

pub stmts-loop-i-init : goal.stmts-loop-i-init
stmts-loop-i-init t c = pair-start c.requires.1 c.requires.2 c.requires.3

pub stmts-bounds-self-x : goal.stmts-bounds-self-x
stmts-bounds-self-x t c = stmt-inside _ _ _ (stmts-head _ _ _ _ c.loop-i-test.true c.loop-i.invariant.first)

pub stmts-loop-i-preserved-then-self-x-eq-PASS : goal.stmts-loop-i-preserved-then-self-x-eq-PASS
stmts-loop-i-preserved-then-self-x-eq-PASS t c = pair-first c.loop-i.invariant c.loop-i-test.true c.if-self-x-eq-PASS.true

pub stmts-bounds-self-y : goal.stmts-bounds-self-y
stmts-bounds-self-y t c = stmt-inside _ _ _ (stmts-head _ _ _ _ (pair-there c.loop-i.invariant c.loop-i-test.true c.if-self-x-eq-PASS.false) c.loop-i.invariant.second)

pub stmts-overflow_sub-j : goal.stmts-overflow_sub-j
stmts-overflow_sub-j t c = let h = pair-there c.loop-i.invariant c.loop-i-test.true c.if-self-x-eq-PASS.false in omega arith

pub stmts-loop-i-smaller-then-self-y-eq-PASS : goal.stmts-loop-i-smaller-then-self-y-eq-PASS
stmts-loop-i-smaller-then-self-y-eq-PASS t c = let h = pair-there c.loop-i.invariant c.loop-i-test.true c.if-self-x-eq-PASS.false in omega arith

pub stmts-loop-i-preserved-then-self-y-eq-PASS : goal.stmts-loop-i-preserved-then-self-y-eq-PASS
stmts-loop-i-preserved-then-self-y-eq-PASS t c = pair-second c.loop-i.invariant (pair-there c.loop-i.invariant c.loop-i-test.true c.if-self-x-eq-PASS.false) c.if-self-y-eq-PASS.true

pub stmts-stmt-requires : goal.stmts-stmt-requires
stmts-stmt-requires t c =
    let there = pair-there c.loop-i.invariant c.loop-i-test.true c.if-self-x-eq-PASS.false in
    (omega arith, (c.requires.0, stmts-head _ _ _ _ c.loop-i-test.true c.loop-i.invariant.first, stmts-head _ _ _ _ there c.loop-i.invariant.second))

pub stmts-returns-in_err-next : goal.stmts-returns-in_err-next
stmts-returns-in_err-next t c =
    let x = c.if-self-x-eq-PASS.false in
    let there = pair-there c.loop-i.invariant c.loop-i-test.true x in
    stopped (search rules) (pair-apart c.loop-i.invariant c.loop-i-test.true x there c.if-self-y-eq-PASS.false c.stmt.ensures c.in_err-next.was)

pub stmts-overflow_sub-j-else-self-y-eq-PASS : goal.stmts-overflow_sub-j-else-self-y-eq-PASS
stmts-overflow_sub-j-else-self-y-eq-PASS t c = let h = pair-there c.loop-i.invariant c.loop-i-test.true c.if-self-x-eq-PASS.false in omega arith

pub stmts-loop-i-smaller : goal.stmts-loop-i-smaller
stmts-loop-i-smaller t c = let h = pair-there c.loop-i.invariant c.loop-i-test.true c.if-self-x-eq-PASS.false in omega arith

pub stmts-loop-i-preserved : goal.stmts-loop-i-preserved
stmts-loop-i-preserved t c = pair-next c.loop-i.invariant c.loop-i-test.true c.if-self-x-eq-PASS.false (pair-there c.loop-i.invariant c.loop-i-test.true c.if-self-x-eq-PASS.false) c.if-self-y-eq-PASS.false c.stmt.ensures c.in_ok-next.was

pub stmts-overflow_add-result : goal.stmts-overflow_add-result
stmts-overflow_add-result t c = let h = pair_inside c.loop-i.invariant c.loop-i-test.false in omega arith

pub stmts-returns : goal.stmts-returns
stmts-returns t c = pair-done c.loop-i.invariant c.loop-i-test.false
