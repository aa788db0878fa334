-- The answers for an expression and its parts.
use Prim.Native.Nat.{ℕ, ◌+◌}
use mathlib.Core.Path.{refl, sym, ap, ◌∙◌}
use native.Mathlib.Omega.{arith}
use lib.Dec.{eqb}
use lib.ListN.{length-drop}
use lib.Seq.{length-take-le}
use Rattle.definitions.specs.Instruction.{LoadAttr, instr}
use Rattle.definitions.specs.Tables.{one, intern, ◌⨟◌}
use Rattle.definitions.specs.Lower.{Callee, shortcut}
use Rattle.tree_view.specs.Places.{count_at, name_end}
use Rattle.tree_view.specs.ExprAt.{expr_at, list_at}
use Rattle.tree_view.proofs.ExprViews.{expr-known}
use Rattle.state.specs.Words.{name_at}
use Rattle.state.specs.State.{slot_names, slots_from}
use Rattle.definitions.proofs.Growth.{lengthens-one, lengthens-intern, lengthens-seq, lengthens-exprs, lengthens-loads, lengthens-expr, lengthens-shortcut}
use Rattle.numerals.specs.Kinds.{expr_byte}
use Rattle.numerals.specs.declared.kinds.ExprKind.TheVariants.{Variable, Unary, Binary, Call, Attribute, Index, Lambda}
use Rattle.opcodes.specs.Codes.{held_of}
use Rattle.opcodes.proofs.KindBytes.{byte-is, other-kind, literal-kinds, display-kinds}
use Rattle.lower_forms.specs.Lowerable.{call_instr, expr_code, exprs_code}
use Rattle.lower_forms.proofs.ExprArms.{many-at, there-at, low-code, logical-code, args_at, lowerable-at, counted-at}
use Rattle.lower_forms.proofs.ExprArms.{arm-inside, arm-deep, arm-literal, arm-variable, arm_unary, arm_binary, arm-call, arm-attribute, arm-index, arm-display, arm-lambda}
use Rattle.lower_forms.proofs.CallForms.{call-named, call-method, callee-short}
use Rattle.lower_forms.proofs.Elements.{more-view}
use Rattle.lower_forms.proofs.Sole.{sole-at}
use Rattle.lower_emit.proofs.Packing.{plain-above, instr-plain}
use Rattle.lower_emit.specs.Emitting.{counts_of, limits_in}
use Rattle.lower_emit.proofs.Steps.{sound-next, lowers-by, writes-in}
use Rattle.lower_emit.proofs.Parts.{emits_then, emits-stopped, emits-words, emits-no-words, words_then, words-stopped, words-end, words-none, emits-by, emits-state}
use Rattle.lower_names.specs.declared.Callee.TheVariants.{Value}
use Rattle.lower_names.specs.Naming.{callee_of}
use Rattle.lower_names.proofs.Callees.{call-instr}
use Rattle.lower_leaves.proofs.Collecting.{collected-count, collected-over}
use Rattle.lower_leaves.proofs.Lambdas.{ends-in}
use Rattle.lower_leaves.proofs.LambdaState.{captured-is, captured-held, captured-few, lambda-ready, lambda-is, slots-few}
use Rattle.lower_expr.proofs.Bodies.{body-ready, body-in, lambda-over, closure_by, body-full, body-stopped, body-ends}
use Rattle.lower_calls.proofs.Calls.{call-value, named-state, functions-few, value-short, value-callee, method_then, method-symbol}
use Rattle.lower_expr.proofs.Several.{many_by, rest-all, rest-sound, rest-next, rest-over, rest-done, rest-constants}
use Rattle.lower_calls.proofs.Shortcut.{sound-over, shortcut-none, shortcut-stopped, shortcut-long, shortcut-over, shortcut-ends}
use Rattle.lower_calls.proofs.Words.{sole-after, sound-after, word-ends, word-over, expr_then, emits_at}
use Rattle.lower_expr.proofs.+emit.Goals as goal

-- ---- emit_expr

pub emit_expr-bounds-s-at : goal.emit_expr-bounds-s-at
emit_expr-bounds-s-at t c = arm-inside _ _ _ c.requires.1

pub emit_expr-of-requires : goal.emit_expr-of-requires
emit_expr-of-requires t c = expr-known _ _ _ c.requires.1.reads

pub emit_expr-emit_literal_at-requires : goal.emit_expr-emit_literal_at-requires
emit_expr-emit_literal_at-requires t c = (c.requires.0, (arm-literal _ _ _ c.requires.1 (literal-kinds c.of.ensures c.in-NoneLiteral.is)).parts)

pub emit_expr-returns-in-NoneLiteral : goal.emit_expr-returns-in-NoneLiteral
emit_expr-returns-in-NoneLiteral t c =
    let v = arm-literal _ _ _ c.requires.1 (literal-kinds c.of.ensures c.in-NoneLiteral.is) in
    emits-by (c.emit_literal_at.ensures (slot_names c.args.s.tree.now c.args.s.slots.now)) (v.code _) (sym v.end)

pub emit_expr-overflow_sub-below : goal.emit_expr-overflow_sub-below
emit_expr-overflow_sub-below t c = omega (arith, arm-deep _ _ _ c.requires.1)

pub emit_expr-emit_load-requires : goal.emit_expr-emit_load-requires
unfolding expr_byte
emit_expr-emit_load-requires t c = (c.requires.0.sound, omega (arith, (arm-variable _ _ _ c.requires.1 (byte-is Variable c.of.ensures c.in-Variable.is)).parts.byte, c.requires.0.tree-short))

pub emit_expr-returns-in_err-emit_load-in-Variable : goal.emit_expr-returns-in_err-emit_load-in-Variable
unfolding expr_byte
emit_expr-returns-in_err-emit_load-in-Variable t c =
    let v = arm-variable _ _ _ c.requires.1 (byte-is Variable c.of.ensures c.in-Variable.is) in
    emits-by (words-none c.in_err-emit_load-in-Variable.was c.from_residual.ensures c.emit_load.ensures.lowers) (v.code _) refl

pub emit_expr-name_end-requires : goal.emit_expr-name_end-requires
unfolding expr_byte
emit_expr-name_end-requires t c = (arm-variable _ _ _ c.requires.1 (byte-is Variable c.of.ensures c.in-Variable.is)).parts

pub emit_expr-returns-in_ok-emit_load-in-Variable : goal.emit_expr-returns-in_ok-emit_load-in-Variable
unfolding expr_byte
emit_expr-returns-in_ok-emit_load-in-Variable t c =
    let v = arm-variable _ _ _ c.requires.1 (byte-is Variable c.of.ensures c.in-Variable.is) in
    emits-by (words-end c.in_ok-emit_load-in-Variable.was c.name_end.ensures c.emit_load.ensures.lowers) (v.code _) (sym v.end)

pub emit_expr-emit_unary-requires : goal.emit_expr-emit_unary-requires
unfolding expr_byte
emit_expr-emit_unary-requires t c =
    let v = arm_unary _ _ _ c.requires.1 (byte-is Unary c.of.ensures c.in-Unary.is) in (omega (arith, c.decreases, arm-deep _ _ _ c.requires.1), (c.requires.0, v.parts))

pub emit_expr-returns-in-Unary : goal.emit_expr-returns-in-Unary
unfolding expr_byte
emit_expr-returns-in-Unary t c = let v = arm_unary _ _ _ c.requires.1 (byte-is Unary c.of.ensures c.in-Unary.is) in emits-by c.emit_unary.ensures (v.code _) (sym v.end)

pub emit_expr-emit_binary-requires : goal.emit_expr-emit_binary-requires
unfolding expr_byte
emit_expr-emit_binary-requires t c =
    let v = arm_binary _ _ _ c.requires.1 (byte-is Binary c.of.ensures c.in-Binary.is) in (omega (arith, c.decreases, arm-deep _ _ _ c.requires.1), (c.requires.0, v.parts))

pub emit_expr-returns-in-Binary : goal.emit_expr-returns-in-Binary
unfolding expr_byte
emit_expr-returns-in-Binary t c = let v = arm_binary _ _ _ c.requires.1 (byte-is Binary c.of.ensures c.in-Binary.is) in emits-by c.emit_binary.ensures (v.code _) (sym v.end)

pub emit_expr-emit_call-requires : goal.emit_expr-emit_call-requires
unfolding expr_byte
emit_expr-emit_call-requires t c =
    let v = arm-call _ _ _ c.requires.1 (byte-is Call c.of.ensures c.in-Call.is) in (omega (arith, c.decreases, arm-deep _ _ _ c.requires.1), (c.requires.0, v.parts))

pub emit_expr-returns-in-Call : goal.emit_expr-returns-in-Call
unfolding expr_byte
emit_expr-returns-in-Call t c = let v = arm-call _ _ _ c.requires.1 (byte-is Call c.of.ensures c.in-Call.is) in emits-by c.emit_call.ensures (v.code _) (sym v.end)

pub emit_expr-emit_attribute-requires : goal.emit_expr-emit_attribute-requires
unfolding expr_byte
emit_expr-emit_attribute-requires t c =
    let v = arm-attribute _ _ _ c.requires.1 (byte-is Attribute c.of.ensures c.in-Attribute.is) in (omega (arith, c.decreases, arm-deep _ _ _ c.requires.1), (c.requires.0, v.parts))

pub emit_expr-returns-in-Attribute : goal.emit_expr-returns-in-Attribute
unfolding expr_byte
emit_expr-returns-in-Attribute t c = let v = arm-attribute _ _ _ c.requires.1 (byte-is Attribute c.of.ensures c.in-Attribute.is) in emits-by c.emit_attribute.ensures (v.code _) (sym v.end)

pub emit_expr-emit_display-requires : goal.emit_expr-emit_display-requires
emit_expr-emit_display-requires t c =
    let k = display-kinds c.of.ensures c.in-List.is in
    let v = arm-display _ _ _ c.requires.1 k.0 k.1 in (omega (arith, c.decreases, arm-deep _ _ _ c.requires.1), (c.requires.0, v.parts))

pub emit_expr-returns-in-List : goal.emit_expr-returns-in-List
emit_expr-returns-in-List t c =
    let k = display-kinds c.of.ensures c.in-List.is in
    let v = arm-display _ _ _ c.requires.1 k.0 k.1 in emits-by c.emit_display.ensures (v.code _) (sym v.end)

pub emit_expr-emit_two-requires : goal.emit_expr-emit_two-requires
unfolding expr_byte
emit_expr-emit_two-requires t c =
    let v = arm-index _ _ _ c.requires.1 (byte-is Index c.of.ensures c.in-Index.is) in
    (omega (arith, c.decreases, arm-deep _ _ _ c.requires.1), (c.requires.0, v.parts, plain-above 43 0 0 (omega arith) (omega arith) (omega arith) (omega arith)))

pub emit_expr-returns-in-Index : goal.emit_expr-returns-in-Index
unfolding expr_byte
emit_expr-returns-in-Index t c = let v = arm-index _ _ _ c.requires.1 (byte-is Index c.of.ensures c.in-Index.is) in emits-by c.emit_two.ensures (v.code _) (sym v.end)

pub emit_expr-emit_lambda-requires : goal.emit_expr-emit_lambda-requires
unfolding expr_byte
emit_expr-emit_lambda-requires t c =
    let v = arm-lambda _ _ _ c.requires.1 (byte-is Lambda c.of.ensures c.in-Lambda.is) in (omega (arith, c.decreases, arm-deep _ _ _ c.requires.1), (c.requires.0, v.parts))

pub emit_expr-returns-in-Lambda : goal.emit_expr-returns-in-Lambda
unfolding expr_byte
emit_expr-returns-in-Lambda t c = let v = arm-lambda _ _ _ c.requires.1 (byte-is Lambda c.of.ensures c.in-Lambda.is) in emits-by c.emit_lambda.ensures (v.code _) (sym v.end)

-- ---- emit_exprs

pub emit_exprs-loop-left-init : goal.emit_exprs-loop-left-init
emit_exprs-loop-left-init t c = rest-all (slot_names c.args.s.tree.now c.args.s.slots.now) c.requires.0.sound c.requires.1

pub emit_exprs-returns-then-left-eq0 : goal.emit_exprs-returns-then-left-eq0
emit_exprs-returns-then-left-eq0 t c = rest-done (rest-constants c.loop-left.invariant c.put_constants-c.ensures) (omega (arith, c.if-left-eq0.true))

pub emit_exprs-emit_expr-requires : goal.emit_exprs-emit_expr-requires
emit_exprs-emit_expr-requires t c =
    let w = rest-constants c.loop-left.invariant c.put_constants-c.ensures in
    (omega (arith, c.decreases), (sole-at c.requires.0 (rest-sound w), (more-view _ _ _ _ (omega (arith, c.if-left-eq0.false)) w.rest.elements).head))

pub emit_exprs-returns-in_err-p : goal.emit_exprs-returns-in_err-p
emit_exprs-returns-in_err-p t c = rest-over (rest-constants c.loop-left.invariant c.put_constants-c.ensures) (omega (arith, c.if-left-eq0.false)) c.in_err-p.was c.from_residual.ensures c.emit_expr.ensures

pub emit_exprs-loop-left-smaller : goal.emit_exprs-loop-left-smaller
emit_exprs-loop-left-smaller t c = omega (arith, c.if-left-eq0.false, c.loop-left-test.true)

pub emit_exprs-loop-left-preserved : goal.emit_exprs-loop-left-preserved
emit_exprs-loop-left-preserved t c = rest-next (rest-constants c.loop-left.invariant c.put_constants-c.ensures) (omega (arith, c.if-left-eq0.false)) c.in_ok-p.was c.emit_expr.ensures

pub emit_exprs-returns : goal.emit_exprs-returns
emit_exprs-returns t c = rest-done c.loop-left.invariant c.loop-left-test.false

-- ---- emit_unary

pub emit_unary-returns-in_err-next : goal.emit_unary-returns-in_err-next
emit_unary-returns-in_err-next t c = emits-stopped c.in_err-next.was c.from_residual.ensures c.requires.0.sound (lengthens-one _) c.emit_expr.ensures

pub emit_unary-returns-in_err-put_op : goal.emit_unary-returns-in_err-put_op
emit_unary-returns-in_err-put_op t c =
    emits-by (word-over c.in_ok-next.was c.requires.0.sound c.emit_expr.ensures (instr-plain _ _ _ _ c.unary_code-op.ensures.1) c.put_op.ensures c.in_err-put_op.was c.from_residual-in_err-put_op.ensures)
    (ap (λ (o : ℕ). expr_code c.args.depth c.args.s.tree.now (slot_names c.args.s.tree.now c.args.s.slots.now) (c.args.at + 1) ⨟ one (instr o 0 0)) (sym c.unary_code-op.ensures.0)) refl

pub emit_unary-returns : goal.emit_unary-returns
emit_unary-returns t c =
    emits-by (word-ends c.in_ok-next.was c.requires.0.sound c.emit_expr.ensures (instr-plain _ _ _ _ c.unary_code-op.ensures.1) c.put_op.ensures c.in_ok-put_op.was)
    (ap (λ (o : ℕ). expr_code c.args.depth c.args.s.tree.now (slot_names c.args.s.tree.now c.args.s.slots.now) (c.args.at + 1) ⨟ one (instr o 0 0)) (sym c.unary_code-op.ensures.0)) refl

-- ---- emit_two

pub emit_two-returns-in_err-middle : goal.emit_two-returns-in_err-middle
emit_two-returns-in_err-middle t c = emits-stopped c.in_err-middle.was c.from_residual.ensures c.requires.0.sound (lengthens-seq (lengthens-expr _ _) (lengthens-one _)) c.emit_expr.ensures

pub emit_two-returns-in_err-next : goal.emit_two-returns-in_err-next
emit_two-returns-in_err-next t c =
    let s = c.args.s in let e = c.emit_expr.ensures in
    expr_then c.args.depth (slot_names s.tree.now s.slots.now) (one (instr c.args.op 0 0)) c.in_ok-middle.was c.requires.0.sound e
    (emits-stopped c.in_err-next.was c.from_residual-in_err-next.ensures (sound-after c.in_ok-middle.was e) (lengthens-one _) c.emit_expr-2.ensures)

pub emit_two-put_op-requires : goal.emit_two-put_op-requires
emit_two-put_op-requires t c = (c.requires.2.op-byte, omega arith, omega arith)

pub emit_two-returns-in_err-put_op : goal.emit_two-returns-in_err-put_op
emit_two-returns-in_err-put_op t c =
    let s = c.args.s in let e = c.emit_expr.ensures in
    expr_then c.args.depth (slot_names s.tree.now s.slots.now) (one (instr c.args.op 0 0)) c.in_ok-middle.was c.requires.0.sound e
    (word-over c.in_ok-next.was (sound-after c.in_ok-middle.was e) c.emit_expr-2.ensures (instr-plain _ _ _ _ c.requires.2) c.put_op.ensures c.in_err-put_op.was c.from_residual-in_err-put_op.ensures)

pub emit_two-returns : goal.emit_two-returns
emit_two-returns t c =
    let s = c.args.s in let e = c.emit_expr.ensures in
    expr_then c.args.depth (slot_names s.tree.now s.slots.now) (one (instr c.args.op 0 0)) c.in_ok-middle.was c.requires.0.sound e
    (word-ends c.in_ok-next.was (sound-after c.in_ok-middle.was e) c.emit_expr-2.ensures (instr-plain _ _ _ _ c.requires.2) c.put_op.ensures c.in_ok-put_op.was)

-- ---- emit_binary

pub emit_binary-returns-then-operator-lt-AND : goal.emit_binary-returns-then-operator-lt-AND
emit_binary-returns-then-operator-lt-AND t c = emits-by c.emit_two.ensures (low-code _ _ _ _ _ c.if-operator-lt-AND.true c.binary_code.ensures.0) refl

pub emit_binary-returns : goal.emit_binary-returns
emit_binary-returns t c = emits-by c.emit_logical.ensures (logical-code _ _ _ _ c.if-operator-lt-AND.false c.requires.1.operator) refl

-- ---- emit_logical

pub emit_logical-returns-in_err-middle : goal.emit_logical-returns-in_err-middle
emit_logical-returns-in_err-middle t c = emits-stopped c.in_err-middle.was c.from_residual.ensures c.requires.0.sound (lengthens-shortcut _ (lengthens-expr _ _)) c.emit_expr.ensures

pub emit_logical-emit_shortcut-requires : goal.emit_logical-emit_shortcut-requires
emit_logical-emit_shortcut-requires t c =
    let e = c.emit_expr.ensures in
    (omega (arith, c.decreases), (sole-after c.requires.0 c.in_ok-middle.was e, lowerable-at _ _ _ _ (e.place _ c.in_ok-middle.was) c.requires.1.second, c.requires.2, c.requires.3))

pub emit_logical-returns : goal.emit_logical-returns
emit_logical-returns t c =
    let d = c.args.depth in let s = c.args.s in
    emits_then (λ x. shortcut (eqb c.args.op 30) (expr_code d s.tree.now (slot_names s.tree.now s.slots.now) x)) (λ x. (expr_at d s.tree.now x).end) c.in_ok-middle.was c.requires.0.sound c.emit_expr.ensures c.emit_shortcut.ensures

-- ---- emit_shortcut

pub emit_shortcut-expr_size-size-requires : goal.emit_shortcut-expr_size-size-requires
emit_shortcut-expr_size-size-requires t c = (c.requires.0, c.requires.1.reads)

pub emit_shortcut-returns-in_err-put_over : goal.emit_shortcut-returns-in_err-put_over
emit_shortcut-returns-in_err-put_over t c =
    let R = c.requires in
    shortcut-none _ R.0.sound R.1 R.2 R.3 c.expr_size-size.ensures c.put_over.ensures c.in_err-put_over.was c.from_residual.ensures

pub emit_shortcut-emit_expr-requires : goal.emit_shortcut-emit_expr-requires
emit_shortcut-emit_expr-requires t c =
    let R = c.requires in
    (omega (arith, c.decreases), (sole-at R.0 (sound-over _ R.0.sound R.1 R.2 R.3 c.expr_size-size.ensures c.put_over.ensures c.in_ok-put_over.was), R.1))

pub emit_shortcut-returns-in_err-next : goal.emit_shortcut-returns-in_err-next
emit_shortcut-returns-in_err-next t c =
    let R = c.requires in
    shortcut-stopped _ R.0.sound R.1 R.2 R.3 c.expr_size-size.ensures c.put_over.ensures c.in_ok-put_over.was c.emit_expr.ensures c.in_err-next.was c.from_residual-in_err-next.ensures

pub emit_shortcut-returns-in_err-put_op : goal.emit_shortcut-returns-in_err-put_op
emit_shortcut-returns-in_err-put_op t c =
    let R = c.requires in
    shortcut-long _ R.0.sound R.1 R.2 R.3 c.expr_size-size.ensures c.put_over.ensures c.in_ok-put_over.was c.emit_expr.ensures c.in_ok-next.was c.put_op.ensures
    c.in_err-put_op.was c.from_residual-in_err-put_op.ensures

pub emit_shortcut-returns-in_err-put_op-2 : goal.emit_shortcut-returns-in_err-put_op-2
emit_shortcut-returns-in_err-put_op-2 t c =
    let R = c.requires in
    shortcut-over _ R.0.sound R.1 R.2 R.3 c.expr_size-size.ensures c.put_over.ensures c.in_ok-put_over.was c.emit_expr.ensures c.in_ok-next.was c.put_op.ensures
    c.in_ok-put_op.was c.put_op-2.ensures c.in_err-put_op-2.was c.from_residual-in_err-put_op-2.ensures

pub emit_shortcut-returns : goal.emit_shortcut-returns
emit_shortcut-returns t c =
    let R = c.requires in
    shortcut-ends _ R.0.sound R.1 R.2 R.3 c.expr_size-size.ensures c.put_over.ensures c.in_ok-put_over.was c.emit_expr.ensures c.in_ok-next.was c.put_op.ensures
    c.in_ok-put_op.was c.put_op-2.ensures c.in_ok-put_op-2.was

-- ---- emit_call

pub emit_call-bounds-s-at : goal.emit_call-bounds-s-at
emit_call-bounds-s-at t c = arm-inside _ _ _ c.requires.1.callee

pub emit_call-of-requires : goal.emit_call-of-requires
emit_call-of-requires t c = expr-known _ _ _ c.requires.1.callee.reads

pub emit_call-emit_named-requires : goal.emit_call-emit_named-requires
unfolding expr_byte
emit_call-emit_named-requires t c = (omega (arith, c.decreases), (c.requires.0, (call-named _ _ _ c.requires.1 (byte-is Variable c.of.ensures c.in-Variable.is)).parts))

pub emit_call-returns-in-Variable : goal.emit_call-returns-in-Variable
unfolding expr_byte
emit_call-returns-in-Variable t c = let v = call-named _ _ _ c.requires.1 (byte-is Variable c.of.ensures c.in-Variable.is) in emits-by c.emit_named.ensures (v.code _) (sym v.end)

pub emit_call-emit_method-requires : goal.emit_call-emit_method-requires
unfolding expr_byte
emit_call-emit_method-requires t c = (omega (arith, c.decreases), (c.requires.0, (call-method _ _ _ c.requires.1 (byte-is Attribute c.of.ensures c.in-Attribute.is)).parts))

pub emit_call-returns-in-Attribute : goal.emit_call-returns-in-Attribute
unfolding expr_byte
emit_call-returns-in-Attribute t c = let v = call-method _ _ _ c.requires.1 (byte-is Attribute c.of.ensures c.in-Attribute.is) in emits-by c.emit_method.ensures (v.code _) (sym v.end)

pub emit_call-emit_expr-requires : goal.emit_call-emit_expr-requires
emit_call-emit_expr-requires t c = (omega (arith, c.decreases), (c.requires.0, c.requires.1.callee))

pub emit_call-returns-in_err-next-in_default : goal.emit_call-returns-in_err-next-in_default
unfolding expr_byte
emit_call-returns-in_err-next-in_default t c =
    emits-by (emits-stopped c.in_err-next-in_default.was c.from_residual.ensures c.requires.0.sound (lengthens-seq (lengthens-exprs _ _) (lengthens-one _)) c.emit_expr.ensures)
    (call-value _ _ _ c.requires.1 _ (other-kind Variable c.of.ensures c.in_default.not-Variable) (other-kind Attribute c.of.ensures c.in_default.not-Attribute)) refl

pub emit_call-emit_args-requires : goal.emit_call-emit_args-requires
emit_call-emit_args-requires t c = let e = c.emit_expr.ensures in (omega (arith, c.decreases), (sole-after c.requires.0 c.in_ok-next-in_default.was e, args_at _ _ _ _ (e.place _ c.in_ok-next-in_default.was) c.requires.1.args, value-short))

pub emit_call-returns-in_ok-next-in_default : goal.emit_call-returns-in_ok-next-in_default
unfolding expr_byte
emit_call-returns-in_ok-next-in_default t c =
    let d = c.args.depth in let tree = c.args.s.tree.now in let names = slot_names tree c.args.s.slots.now in let m = (expr_at d tree c.args.at).end in
    emits-by (emits_then (λ x. exprs_code d (count_at tree x) tree names (x + 2) ⨟ one (call_instr (callee_of Value) (count_at tree x)))
    (λ x. (list_at d tree x).end) c.in_ok-next-in_default.was c.requires.0.sound c.emit_expr.ensures c.emit_args.ensures)
    (call-value _ _ _ c.requires.1 _ (other-kind Variable c.of.ensures c.in_default.not-Variable) (other-kind Attribute c.of.ensures c.in_default.not-Attribute)
    ∙ ap (λ (r : Callee). expr_code d tree names c.args.at ⨟ exprs_code d (count_at tree m) tree names (m + 2) ⨟ one (call_instr r (count_at tree m))) value-callee) refl

-- ---- emit_named

pub emit_named-returns-in_err-load_callee : goal.emit_named-returns-in_err-load_callee
emit_named-returns-in_err-load_callee t c =
    emits-state (words-stopped c.in_err-load_callee.was c.from_residual.ensures c.requires.0.sound (lengthens-seq (lengthens-exprs _ _) (lengthens-one _)) c.load_callee.ensures.lowers)
    (named-state _ _ _ _ _ _ _ c.requires.1 (c.callee_at-callee.ensures.callee c.args.e.now.code.words.now (counts_of c.args.e.now) (limits_in c.args.e.now) refl refl refl c.requires.0.sound.sound)) refl

pub emit_named-emit_args-requires : goal.emit_named-emit_args-requires
emit_named-emit_args-requires t c = (
  omega (arith, c.decreases),
  (
    sole-at c.requires.0 (sound-next c.in_ok-load_callee.was c.load_callee.ensures.lowers.reaches),
    args_at _ _ _ _ c.name_end.ensures c.requires.1.args,
    callee-short _ _ _ (functions-few _ _ c.requires.0.sound) (c.callee_at-callee.ensures.callee c.args.e.now.code.words.now (counts_of c.args.e.now) (limits_in c.args.e.now) refl refl refl c.requires.0.sound.sound),
  ),
)

pub emit_named-returns : goal.emit_named-returns
emit_named-returns t c =
    let d = c.args.depth in let tree = c.args.s.tree.now in let names = slot_names tree c.args.s.slots.now in
    emits-state (words_then c.in_ok-load_callee.was c.requires.0.sound c.load_callee.ensures.lowers
    (emits_at (λ x. exprs_code d (count_at tree x) tree names (x + 2) ⨟ one (call_instr (callee_of c.callee_at-callee.result) (count_at tree x))) (λ x. (list_at d tree x).end) c.name_end.ensures c.emit_args.ensures))
    (named-state _ _ _ _ _ _ _ c.requires.1 (c.callee_at-callee.ensures.callee c.args.e.now.code.words.now (counts_of c.args.e.now) (limits_in c.args.e.now) refl refl refl c.requires.0.sound.sound)) refl

-- ---- emit_method

pub emit_method-emit_expr-requires : goal.emit_method-emit_expr-requires
emit_method-emit_expr-requires t c = (omega (arith, c.decreases, c.requires.1.deep), (c.requires.0, c.requires.1.callee.object))

pub emit_method-returns-in_err-name : goal.emit_method-returns-in_err-name
emit_method-returns-in_err-name t c = emits-stopped c.in_err-name.was c.from_residual.ensures c.requires.0.sound (lengthens-seq (lengthens-exprs _ _) (lengthens-intern _ (λ k. lengthens-one _))) c.emit_expr.ensures

pub emit_method-name_end-start-requires : goal.emit_method-name_end-start-requires
emit_method-name_end-start-requires t c = there-at _ _ _ (c.emit_expr.ensures.place _ c.in_ok-name.was) c.requires.1.callee.name

pub emit_method-u16_at-n-requires : goal.emit_method-u16_at-n-requires
emit_method-u16_at-n-requires t c = counted-at _ _ _ (c.name_end-start.ensures ∙ ap (name_end c.args.s.tree.now) (c.emit_expr.ensures.place _ c.in_ok-name.was)) c.requires.1.args.count

pub emit_method-emit_exprs-requires : goal.emit_method-emit_exprs-requires
emit_method-emit_exprs-requires t c =
    let s = c.name_end-start.ensures ∙ ap (name_end c.args.s.tree.now) (c.emit_expr.ensures.place _ c.in_ok-name.was) in (
      omega (arith, c.decreases),
      (sole-after c.requires.0 c.in_ok-name.was c.emit_expr.ensures, many-at _ _ _ _ _ _ (c.u16_at-n.ensures.0 ∙ ap (count_at c.args.s.tree.now) s) (ap (λ (x : ℕ). x + 2) s) c.requires.1.args.elements),
    )

pub emit_method-returns-in_err-next : goal.emit_method-returns-in_err-next
emit_method-returns-in_err-next t c =
    let tree = c.args.s.tree.now in let e = c.emit_expr.ensures in let u = c.u16_at-n.ensures.0 ∙ ap (count_at tree) c.name_end-start.ensures in
    let y = many_by _ _ _ u (ap (λ (x : ℕ). x + 2) c.name_end-start.ensures) c.emit_exprs.ensures in
    method_then c.args.depth (slot_names tree c.args.s.slots.now) c.in_ok-name.was c.requires.0.sound e
    (emits-stopped c.in_err-next.was c.from_residual-in_err-next.ensures (sound-after c.in_ok-name.was e) (lengthens-intern _ (λ k. lengthens-one _)) y)

pub emit_method-emit_symbol-requires : goal.emit_method-emit_symbol-requires
emit_method-emit_symbol-requires t c =
    let tree = c.args.s.tree.now in let h = c.emit_expr.ensures.place _ c.in_ok-name.was in
    let u = c.u16_at-n.ensures.0 ∙ ap (count_at tree) c.name_end-start.ensures in (
      sound-after c.in_ok-next.was c.emit_exprs.ensures,
      omega (arith, (there-at _ _ _ h c.requires.1.callee.name).byte, c.requires.0.tree-short),
      plain-above 35 0 _ (omega arith) (omega arith) (omega arith) (omega (arith, u ∙ ap (λ (x : ℕ). count_at tree (name_end tree x)) h, c.requires.1.args.few)),
    )

pub emit_method-returns-in_err-emit_symbol : goal.emit_method-returns-in_err-emit_symbol
emit_method-returns-in_err-emit_symbol t c =
    let tree = c.args.s.tree.now in let e = c.emit_expr.ensures in let u = c.u16_at-n.ensures.0 ∙ ap (count_at tree) c.name_end-start.ensures in
    let y = many_by _ _ _ u (ap (λ (x : ℕ). x + 2) c.name_end-start.ensures) c.emit_exprs.ensures in
    method_then c.args.depth (slot_names tree c.args.s.slots.now) c.in_ok-name.was c.requires.0.sound e
    (emits-no-words c.in_ok-next.was c.in_err-emit_symbol.was c.from_residual-in_err-emit_symbol.ensures (sound-after c.in_ok-name.was e) y (method-symbol _ u c.emit_symbol.ensures.lowers))

pub emit_method-returns : goal.emit_method-returns
emit_method-returns t c =
    let tree = c.args.s.tree.now in let e = c.emit_expr.ensures in let u = c.u16_at-n.ensures.0 ∙ ap (count_at tree) c.name_end-start.ensures in
    let y = many_by _ _ _ u (ap (λ (x : ℕ). x + 2) c.name_end-start.ensures) c.emit_exprs.ensures in
    method_then c.args.depth (slot_names tree c.args.s.slots.now) c.in_ok-name.was c.requires.0.sound e
    (emits-words c.in_ok-next.was c.in_ok-emit_symbol.was (sound-after c.in_ok-name.was e) y (method-symbol _ u c.emit_symbol.ensures.lowers))

-- ---- emit_args

pub emit_args-returns-in_err-next : goal.emit_args-returns-in_err-next
emit_args-returns-in_err-next t c = emits-stopped c.in_err-next.was c.from_residual.ensures c.requires.0.sound (lengthens-one _) (many_by _ _ _ c.u16_at-n.ensures.0 refl c.emit_exprs.ensures)

pub emit_args-returns-in_err-put_call : goal.emit_args-returns-in_err-put_call
emit_args-returns-in_err-put_call t c =
    word-over c.in_ok-next.was c.requires.0.sound (many_by _ _ _ c.u16_at-n.ensures.0 refl c.emit_exprs.ensures)
    (call-instr c.args.callee _ _ (omega (arith, c.u16_at-n.ensures.0, c.requires.1.few)) c.requires.2 ∙ ap (λ (m : ℕ). call_instr (callee_of c.args.callee) m) c.u16_at-n.ensures.0)
    c.put_call.ensures c.in_err-put_call.was c.from_residual-in_err-put_call.ensures

pub emit_args-returns : goal.emit_args-returns
emit_args-returns t c =
    word-ends c.in_ok-next.was c.requires.0.sound (many_by _ _ _ c.u16_at-n.ensures.0 refl c.emit_exprs.ensures)
    (call-instr c.args.callee _ _ (omega (arith, c.u16_at-n.ensures.0, c.requires.1.few)) c.requires.2 ∙ ap (λ (m : ℕ). call_instr (callee_of c.args.callee) m) c.u16_at-n.ensures.0)
    c.put_call.ensures c.in_ok-put_call.was

-- ---- emit_attribute

pub emit_attribute-returns-in_err-name : goal.emit_attribute-returns-in_err-name
emit_attribute-returns-in_err-name t c = emits-stopped c.in_err-name.was c.from_residual.ensures c.requires.0.sound (lengthens-intern _ (λ k. lengthens-one _)) c.emit_expr.ensures

pub emit_attribute-emit_symbol-requires : goal.emit_attribute-emit_symbol-requires
emit_attribute-emit_symbol-requires t c =
    let e = c.emit_expr.ensures in (
      sound-after c.in_ok-name.was e,
      omega (arith, (there-at _ _ _ (e.place _ c.in_ok-name.was) c.requires.1.name).byte, c.requires.0.tree-short),
      plain-above 36 0 0 (omega arith) (omega arith) (omega arith) (omega arith),
    )

pub emit_attribute-returns-in_err-emit_symbol : goal.emit_attribute-returns-in_err-emit_symbol
emit_attribute-returns-in_err-emit_symbol t c =
    let tree = c.args.s.tree.now in
    emits_then (λ x. intern (name_at tree x) (λ k. one (LoadAttr k))) (λ x. name_end tree x) c.in_ok-name.was c.requires.0.sound c.emit_expr.ensures
    (words-none c.in_err-emit_symbol.was c.from_residual-in_err-emit_symbol.ensures c.emit_symbol.ensures.lowers)

pub emit_attribute-returns : goal.emit_attribute-returns
emit_attribute-returns t c =
    let tree = c.args.s.tree.now in
    emits_then (λ x. intern (name_at tree x) (λ k. one (LoadAttr k))) (λ x. name_end tree x) c.in_ok-name.was c.requires.0.sound c.emit_expr.ensures
    (words-end c.in_ok-emit_symbol.was c.name_end.ensures c.emit_symbol.ensures.lowers)

-- ---- emit_display

pub emit_display-returns-in_err-next : goal.emit_display-returns-in_err-next
emit_display-returns-in_err-next t c =
    let u = c.held.ensures ∙ ap (held_of c.args.kind) c.u16_at-n.ensures.0 in
    emits-stopped c.in_err-next.was c.from_residual.ensures c.requires.0.sound (lengthens-one _) (many_by _ _ _ u refl c.emit_exprs.ensures)

pub emit_display-returns-in_err-put_op : goal.emit_display-returns-in_err-put_op
emit_display-returns-in_err-put_op t c =
    let u = c.held.ensures ∙ ap (held_of c.args.kind) c.u16_at-n.ensures.0 in let b = c.build_code.ensures in
    word-over c.in_ok-next.was c.requires.0.sound (many_by _ _ _ u refl c.emit_exprs.ensures)
    (instr-plain _ _ _ 0 (plain-above _ _ 0 b.1 b.2 c.u16_at-n.ensures.1 (omega arith)) ∙ (λ i. instr (b.0 i) (c.u16_at-n.ensures.0 i) 0)) c.put_op.ensures c.in_err-put_op.was c.from_residual-in_err-put_op.ensures

pub emit_display-returns : goal.emit_display-returns
emit_display-returns t c =
    let u = c.held.ensures ∙ ap (held_of c.args.kind) c.u16_at-n.ensures.0 in let b = c.build_code.ensures in
    word-ends c.in_ok-next.was c.requires.0.sound (many_by _ _ _ u refl c.emit_exprs.ensures)
    (instr-plain _ _ _ 0 (plain-above _ _ 0 b.1 b.2 c.u16_at-n.ensures.1 (omega arith)) ∙ (λ i. instr (b.0 i) (c.u16_at-n.ensures.0 i) 0)) c.put_op.ensures c.in_ok-put_op.was

-- ---- emit_lambda

pub emit_lambda-returns-in_err-n : goal.emit_lambda-returns-in_err-n
emit_lambda-returns-in_err-n t c = lambda-over _ _ _ c.requires.0.sound c.skip_params-body.ensures (collected-over _ _ _ _ c.in_err-n.was c.lambda_slots.ensures) c.from_residual.ensures

pub emit_lambda-slice_bounds-places-end : goal.emit_lambda-slice_bounds-places-end
emit_lambda-slice_bounds-places-end t c = let w = c.lambda_slots.auto.slots in let q = collected-count _ _ _ _ _ c.in_ok-n.was c.lambda_slots.ensures w in omega (arith, q.0, w)

pub emit_lambda-slice_bounds-inner-end : goal.emit_lambda-slice_bounds-inner-end
emit_lambda-slice_bounds-inner-end t c = let w = c.lambda_slots.auto.slots in let q = collected-count _ _ _ _ _ c.in_ok-n.was c.lambda_slots.ensures w in sym (length-take-le _ _ (omega (arith, q.0, w)))

pub emit_lambda-invariant_of-inner : goal.emit_lambda-invariant_of-inner
emit_lambda-invariant_of-inner t c = let w = c.lambda_slots.auto.slots in let q = collected-count _ _ _ _ _ c.in_ok-n.was c.lambda_slots.ensures w in record { slotted = q.2 }

pub emit_lambda-emit_closure-requires : goal.emit_lambda-emit_closure-requires
emit_lambda-emit_closure-requires t c =
    let w = c.lambda_slots.auto.slots in let q = collected-count _ _ _ _ _ c.in_ok-n.was c.lambda_slots.ensures w in
    let v = lambda-ready _ _ _ _ c.requires.1 _ _ _ c.u16_at-arity.ensures.0 c.skip_params-body.ensures q.1 (slots-few _ _ q.2) in
    (omega (arith, c.decreases), (c.requires.0, refl, v.0, v.1))

pub emit_lambda-returns : goal.emit_lambda-returns
emit_lambda-returns t c =
    let w = c.lambda_slots.auto.slots in let q = collected-count _ _ _ _ _ c.in_ok-n.was c.lambda_slots.ensures w in
    emits-by c.emit_closure.ensures (lambda-is _ _ _ _ c.requires.1 _ _ _ c.u16_at-arity.ensures.0 c.skip_params-body.ensures q.1) (ap (λ (p : ℕ). (expr_at c.args.depth c.args.s.tree.now p).end) c.skip_params-body.ensures)

-- ---- emit_closure

pub emit_closure-emit_function-requires : goal.emit_closure-emit_function-requires
emit_closure-emit_function-requires t c = (omega (arith, c.decreases), body-ready (sym c.requires.1) c.requires.0 c.requires.2)

pub emit_closure-returns-in_err-next : goal.emit_closure-returns-in_err-next
emit_closure-returns-in_err-next t c =
    closure_by _ _ _ _ _ c.requires.0.sound
    (emits-stopped c.in_err-next.was c.from_residual.ensures c.requires.0.sound (lengthens-seq (lengthens-loads _ _) (lengthens-one _)) (body-in _ _ _ _ _ c.requires.1 c.emit_function.ensures))

pub emit_closure-slice_bounds-end_closure-count : goal.emit_closure-slice_bounds-end_closure-count
emit_closure-slice_bounds-end_closure-count t c = omega (arith, c.requires.2.params, c.requires.2.few, length-drop slots_from c.args.inner.slots.now, c.args.inner.slotted.room)

pub emit_closure-slice_bounds-end_closure-start : goal.emit_closure-slice_bounds-end_closure-start
emit_closure-slice_bounds-end_closure-start t c = omega (arith, c.requires.2.params, c.requires.2.few, length-drop slots_from c.args.inner.slots.now, c.args.inner.slotted.room)

pub emit_closure-end_closure-requires : goal.emit_closure-end_closure-requires
emit_closure-end_closure-requires t c = (
  captured-held _ _ c.args.arity c.args.inner.slots.now c.requires.3,
  captured-few c.args.arity c.args.inner.slots.now c.requires.2.few,
  omega (arith, c.requires.0.sound.sound.functions, c.requires.0.sound.sound.limited.functions),
)

pub emit_closure-returns-in_err-end_closure : goal.emit_closure-returns-in_err-end_closure
emit_closure-returns-in_err-end_closure t c =
    let h = body-in _ _ _ _ _ c.requires.1 c.emit_function.ensures in
    closure_by _ _ _ _ _ c.requires.0.sound (emits-no-words c.in_ok-next.was c.in_err-end_closure.was c.from_residual-in_err-end_closure.ensures c.requires.0.sound h
    (lowers-by (writes-in (sound-after c.in_ok-next.was h) refl c.end_closure.ensures) (captured-is c.args.arity c.args.inner.slots.now _ _ _)))

pub emit_closure-returns : goal.emit_closure-returns
emit_closure-returns t c =
    let h = body-in _ _ _ _ _ c.requires.1 c.emit_function.ensures in
    closure_by _ _ _ _ _ c.requires.0.sound (emits-words c.in_ok-next.was c.in_ok-end_closure.was c.requires.0.sound h
    (lowers-by (writes-in (sound-after c.in_ok-next.was h) refl c.end_closure.ensures) (captured-is c.args.arity c.args.inner.slots.now _ _ _)))

-- ---- emit_function

pub emit_function-returns-in_err-f : goal.emit_function-returns-in_err-f
emit_function-returns-in_err-f t c = body-full c.requires.0.sound c.args.s.slots.now c.args.depth c.args.at c.start_lambda.ensures c.in_err-f.was c.from_residual.ensures

pub emit_function-returns-in_err-next : goal.emit_function-returns-in_err-next
emit_function-returns-in_err-next t c = body-stopped c.requires.0.sound c.args.s.slots.now c.args.depth c.args.at c.start_lambda.ensures c.in_ok-f.was c.emit_expr.ensures c.in_err-next.was c.from_residual-in_err-next.ensures

pub emit_function-returns-in_err-end_lambda : goal.emit_function-returns-in_err-end_lambda
emit_function-returns-in_err-end_lambda t c =
    words-none c.in_err-end_lambda.was c.from_residual-in_err-end_lambda.ensures
    (body-ends c.requires.0.sound c.args.s.slots.now c.args.depth c.args.at c.start_lambda.ensures c.in_ok-f.was c.emit_expr.ensures c.in_ok-next.was (ends-in c.emit_expr.new.e.tables c.end_lambda.ensures))

pub emit_function-returns : goal.emit_function-returns
emit_function-returns t c =
    words-end c.in_ok-end_lambda.was (c.emit_expr.ensures.place _ c.in_ok-next.was)
    (body-ends c.requires.0.sound c.args.s.slots.now c.args.depth c.args.at c.start_lambda.ensures c.in_ok-f.was c.emit_expr.ensures c.in_ok-next.was (ends-in c.emit_expr.new.e.tables c.end_lambda.ensures))
