use mathlib.Core.Path.{refl, sym}
use native.Mathlib.Omega.{arith}
use Rattle.numerals.specs.Kinds.{stmt_byte}
use Rattle.numerals.specs.declared.kinds.StmtKind.TheVariants.{Break, Continue, Pass, Expr, Return}
use Rattle.lower_emit.proofs.Packing.{instr-plain}
use Rattle.lower_emit.proofs.Steps.{put-lifts}
use Rattle.lower_emit.proofs.Parts.{emits-by, words-end, words-none}
use Rattle.lower_forms.proofs.StmtArms.{arm-deep, arm-break, arm-continue, arm-pass, arm-expr, arm-return, arm-assign, arm-inside}
use Rattle.lower_forms.proofs.Sequences.{plain-break, plain-continue, plain-pop, plain-return}
use Rattle.lower_calls.proofs.Words.{nothing-emits}
use Rattle.lower_simple.proofs.KindBytes.{byte-is, assign-left}
use Rattle.lower_simple.proofs.emit_simple.Goals as goal

pub bounds-s-at : goal.bounds-s-at
bounds-s-at c = arm-inside _ _ _ c.requires.1

pub of-requires : goal.of-requires
of-requires c = omega (arith, c.requires.2)

pub overflow_sub-below : goal.overflow_sub-below
overflow_sub-below c = arm-deep _ _ _ c.requires.1

pub returns-in_err-put_op-in-Break : goal.returns-in_err-put_op-in-Break
unfolding stmt_byte
returns-in_err-put_op-in-Break c =
    let m = arm-break _ _ _ c.requires.1 (byte-is Break c.of.ensures c.in-Break.is) in
    λ keep. emits-by (words-none c.in_err-put_op-in-Break.was c.from_residual.ensures (put-lifts c.requires.0.sound refl (instr-plain _ 46 0 0 plain-break) c.put_op.ensures)) (sym (m.code _ keep)) refl

pub returns-in_ok-put_op-in-Break : goal.returns-in_ok-put_op-in-Break
unfolding stmt_byte
returns-in_ok-put_op-in-Break c =
    let m = arm-break _ _ _ c.requires.1 (byte-is Break c.of.ensures c.in-Break.is) in
    λ keep. emits-by (words-end c.in_ok-put_op-in-Break.was m.end (put-lifts c.requires.0.sound refl (instr-plain _ 46 0 0 plain-break) c.put_op.ensures)) (sym (m.code _ keep)) refl

pub returns-in_err-put_op-in-Continue : goal.returns-in_err-put_op-in-Continue
unfolding stmt_byte
returns-in_err-put_op-in-Continue c =
    let m = arm-continue _ _ _ c.requires.1 (byte-is Continue c.of.ensures c.in-Continue.is) in
    λ keep. emits-by (words-none c.in_err-put_op-in-Continue.was c.from_residual-in_err-put_op-in-Continue.ensures
    (put-lifts c.requires.0.sound refl (instr-plain _ 47 0 0 plain-continue) c.put_op-in-Continue.ensures)) (sym (m.code _ keep)) refl

pub returns-in_ok-put_op-in-Continue : goal.returns-in_ok-put_op-in-Continue
unfolding stmt_byte
returns-in_ok-put_op-in-Continue c =
    let m = arm-continue _ _ _ c.requires.1 (byte-is Continue c.of.ensures c.in-Continue.is) in
    λ keep. emits-by (words-end c.in_ok-put_op-in-Continue.was m.end (put-lifts c.requires.0.sound refl (instr-plain _ 47 0 0 plain-continue) c.put_op-in-Continue.ensures)) (sym (m.code _ keep)) refl

pub returns-in-Pass : goal.returns-in-Pass
unfolding stmt_byte
returns-in-Pass c = let m = arm-pass _ _ _ c.requires.1 (byte-is Pass c.of.ensures c.in-Pass.is) in λ keep. emits-by (nothing-emits c.requires.0.sound m.end) (sym (m.code _ keep)) refl

pub emit_value-requires : goal.emit_value-requires
unfolding stmt_byte
emit_value-requires c = (c.requires.0, (arm-expr _ _ _ c.requires.1 (byte-is Expr c.of.ensures c.in-Expr.is)).parts, omega arith, (λ t. instr-plain t 7 0 0 plain-pop))

pub returns-in-Expr : goal.returns-in-Expr
unfolding stmt_byte
returns-in-Expr c = let m = arm-expr _ _ _ c.requires.1 (byte-is Expr c.of.ensures c.in-Expr.is) in λ keep. emits-by c.emit_value.ensures (sym (m.code _ keep)) m.end

pub emit_value-requires-in-Return : goal.emit_value-requires-in-Return
unfolding stmt_byte
emit_value-requires-in-Return c = (c.requires.0, (arm-return _ _ _ c.requires.1 (byte-is Return c.of.ensures c.in-Return.is)).parts, omega arith, (λ t. instr-plain t 33 0 0 plain-return))

pub returns-in-Return : goal.returns-in-Return
unfolding stmt_byte
returns-in-Return c = let m = arm-return _ _ _ c.requires.1 (byte-is Return c.of.ensures c.in-Return.is) in λ keep. emits-by c.emit_value-in-Return.ensures (sym (m.code _ keep)) m.end

pub emit_assign-requires : goal.emit_assign-requires
emit_assign-requires c = let o = c.in_default in (c.requires.0, (arm-assign _ _ _ c.requires.1 (assign-left _ c.of.ensures c.requires.2 o.not-Break o.not-Continue o.not-Pass o.not-Expr o.not-Return)).parts)

pub returns-in_default : goal.returns-in_default
returns-in_default c =
    let o = c.in_default in
    let m = arm-assign _ _ _ c.requires.1 (assign-left _ c.of.ensures c.requires.2 o.not-Break o.not-Continue o.not-Pass o.not-Expr o.not-Return) in
    λ keep. emits-by c.emit_assign.ensures (sym (m.code _ keep)) m.end
