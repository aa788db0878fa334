use native.Mathlib.Omega.{arith}
use mathlib.Core.Path.{refl}
use Rattle.definitions.proofs.Growth.{lengthens-store}
use Rattle.tree_view.proofs.ExprViews.{expr-inside, expr-known}
use Rattle.lower_emit.proofs.Parts.{emits-stopped, emits-no-words, emits-words, words_then, words-stopped, words-end, words-none}
use Rattle.lower_forms.proofs.ExprArms.{lowerable-at}
use Rattle.lower_targets.proofs.Assigned.{expr-by, constant-lowers, constant-end}
use Rattle.lower_targets.proofs.assign_variable.Goals as goal

pub bounds-s-start : goal.bounds-s-start
bounds-s-start c = expr-inside _ _ _ (lowerable-at _ _ _ _ c.name_end-start.ensures c.requires.1.value).reads

pub of-requires : goal.of-requires
of-requires c = expr-known _ _ _ (lowerable-at _ _ _ _ c.name_end-start.ensures c.requires.1.value).reads

pub put_op-requires : goal.put_op-requires
put_op-requires c = (omega (arith, c.in-Some.ensures.1), omega arith, omega arith)

pub returns-in_err-put_op : goal.returns-in_err-put_op
returns-in_err-put_op c =
    words-stopped c.in_err-put_op.was c.from_residual.ensures c.requires.0.sound (lengthens-store _ _)
    (constant-lowers _ c.requires.1.value c.name_end-start.ensures c.of.ensures c.in-Some.ensures _ c.requires.0.sound refl c.put_op.ensures)

pub returns-in_err-emit_store : goal.returns-in_err-emit_store
returns-in_err-emit_store c =
    words_then c.in_ok-put_op.was c.requires.0.sound
    (constant-lowers _ c.requires.1.value c.name_end-start.ensures c.of.ensures c.in-Some.ensures _ c.requires.0.sound refl c.put_op.ensures)
    (words-none c.in_err-emit_store.was c.from_residual-in_err-emit_store.ensures c.emit_store.ensures.lowers)

pub returns-in-Some : goal.returns-in-Some
returns-in-Some c =
    words_then c.in_ok-put_op.was c.requires.0.sound
    (constant-lowers _ c.requires.1.value c.name_end-start.ensures c.of.ensures c.in-Some.ensures _ c.requires.0.sound refl c.put_op.ensures)
    (words-end c.in_ok-emit_store.was (constant-end _ c.requires.1.value c.name_end-start.ensures c.of.ensures c.in-Some.ensures) c.emit_store.ensures.lowers)

pub emit_expr-requires : goal.emit_expr-requires
emit_expr-requires c = (c.requires.0, lowerable-at _ _ _ _ c.name_end-start.ensures c.requires.1.value)

pub returns-in_err-next : goal.returns-in_err-next
returns-in_err-next c = emits-stopped c.in_err-next.was c.from_residual-in_err-next.ensures c.requires.0.sound (lengthens-store _ _) (expr-by _ _ c.name_end-start.ensures c.emit_expr.ensures)

pub returns-in_err-emit_store-2 : goal.returns-in_err-emit_store-2
returns-in_err-emit_store-2 c =
    emits-no-words c.in_ok-next.was c.in_err-emit_store-2.was c.from_residual-in_err-emit_store-2.ensures c.requires.0.sound (expr-by _ _ c.name_end-start.ensures c.emit_expr.ensures) c.emit_store-2.ensures.lowers

pub returns : goal.returns
returns c = emits-words c.in_ok-next.was c.in_ok-emit_store-2.was c.requires.0.sound (expr-by _ _ c.name_end-start.ensures c.emit_expr.ensures) c.emit_store-2.ensures.lowers
