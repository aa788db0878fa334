-- Calls by the form of their callee: by name as a step, by a value, and by a method.
use Prim.Native.Nat.{ℕ, zero, suc, ◌+◌, ◌-◌, ◌<◌, ◌≤◌}
use mathlib.Core.Path.{◌≡◌, refl, sym, ap, ◌∙◌}
use mathlib.Core.Bool.{Bool, true, false}
use mathlib.Core.List.{List, ◌++◌}
use native.Mathlib.Omega.{arith}
use lib.Dec.{ltb}
use lib.ListN.{length, get_or}
use borrow.Author.Tests.{ltb-true, ltb-false}
use Rattle.definitions.specs.Bytes.{Name}
use Rattle.definitions.specs.Tree.{Expr, var, call, View, as_var, as_attr, as_index, as_tuple, as_other, view, view_display}
use Rattle.definitions.specs.Instruction.{instr, CallMethod}
use Rattle.definitions.specs.Tables.{Out, Emit, one, intern, ◌⨟◌}
use Rattle.definitions.specs.Lower.{Callee, value_callee, resolve, call_by, emit_expr}
use Rattle.tree_view.specs.Places.{Node, count_at, name_end}
use Rattle.tree_view.specs.ExprAt.{expr_at, list_at, ExprReads, binary_of, int_at, float_at, string_at, unary_at, binary_at, call_at, display_at, dict_at, index_at, lambda_at}
use Rattle.tree_view.proofs.ExprViews.{expr-known, view-none, view-false, view-true, view-int, view-float, view-string, view-unary, view-binary, view-call, view-list, view-dict}
use Rattle.tree_view.proofs.ExprViews.{view-tuple, view-set, view-tree-set, view-index, view-lambda, unary-of, binary-of, and-of, or-of}
use Rattle.state.specs.Words.{name_at}
use Rattle.state.specs.State.{State, emit_at}
use Rattle.state.proofs.Views.{function-count}
use Rattle.state.specs.Steps.{is_computed}
use Rattle.lower_forms.specs.Lowerable.{expr_code, exprs_code, CallLowerable, NamedLowerable, load_callee, call_instr, Short}
use Rattle.std.specs.Prelude.{Option, Some}
use Rattle.lower_emit.specs.declared.emitter.Emitter.{Emitter}
use Rattle.lower_emit.specs.Emitting.{counts_of, limits_in, state_in, SoundIn, LowersIn, EmitsTo}
use Rattle.lower_emit.proofs.Steps.{lowers-by}
use Rattle.lower_emit.proofs.Parts.{emits_then}
use Rattle.lower_names.specs.declared.Callee.TheVariants.{Value}
use Rattle.lower_names.specs.Naming.{callee_of}
use Rattle.lower_forms.proofs.ExprArms.{exprs-count}
use Rattle.lower_forms.proofs.CallForms.{call_expr, named-args}

-- ---- by name

-- parts that give the same at the state's place and tables
pub at_same : (base : ℕ) (e f : Emit) (s : State) → e (length s.stack - base) s.tables ≡ f (length s.stack - base) s.tables → emit_at base e s ≡ emit_at base f s
unfolding emit_at
at_same base e f s h = ap (λ (o : Out). record { stack = s.stack ++ o.code; tables = o.tables }) h

-- a named call's code, with the count of the arguments
pub named-state : (base d : ℕ) (t : List ℕ) (names : List Name) (p : ℕ) (ce : Callee) (s : State) → NamedLowerable d t p → ce ≡ resolve (name_at t p) s.tables →
    emit_at base (emit_expr names (call (var (name_at t p)) (list_at d t (name_end t p)).value)) s
    ≡ emit_at base (load_callee ce names (name_at t p) ⨟ exprs_code d (count_at t (name_end t p)) t names (name_end t p + 2) ⨟ one (call_instr ce (count_at t (name_end t p)))) s
named-state base d t names p ce s r e = at_same base _ _ s (named-args d t names p ce (length s.stack - base) s.tables r e)

-- ---- by a value

computed-code : (v : View) (names : List Name) (f o args : Emit) (n : ℕ) → is_computed v ≡ true → call_by v names f o args n ≡ f ⨟ args ⨟ one (call_instr value_callee n)
unfolding call_by is_computed call_instr
computed-code (as_var x) names f o args n h = let z : ◌≡◌ {A = ℕ} 0 1 = cc in absurd (omega arith)
computed-code (as_attr e x) names f o args n h = let z : ◌≡◌ {A = ℕ} 0 1 = cc in absurd (omega arith)
computed-code (as_index e i) names f o args n h = refl
computed-code (as_tuple ts) names f o args n h = refl
computed-code as_other names f o args n h = refl

binary-view : (k : ℕ) (x y : Expr) → k < 14 → is_computed (view (binary_of k x y)) ≡ true
unfolding view is_computed
binary-view k x y h = go (ltb k 12) (ltb k 13) refl refl
  where
    by : (f : Expr → Expr → Expr) → binary_of k ≡ f → is_computed (view (binary_of k x y)) ≡ is_computed (view (f x y))
    by f e = ap (λ (g : Expr → Expr → Expr). is_computed (view (g x y))) e

    go : (a b : Bool) → ltb k 12 ≡ a → ltb k 13 ≡ b → is_computed (view (binary_of k x y)) ≡ true
    go true b e f = by _ (binary-of k (ltb-true k 12 e))
    go false true e f = by _ (and-of k (omega (arith, ltb-false k 12 e, ltb-true k 13 f)))
    go false false e f = by _ (or-of k (omega (arith, ltb-false k 13 f)))

module _ (d : ℕ) (t : List ℕ) (p : ℕ) (r : ExprReads d t p) where
  seen : (x : Node Expr) → expr_at d t p ≡ x → is_computed (view x.value) ≡ true → is_computed (view (expr_at d t p).value) ≡ true
  seen x e h = ap (λ (y : Node Expr). is_computed (view y.value)) e ∙ h

  computed-view : (k : ℕ) → get_or t p 0 ≡ k → (k ≡ 6 → ⊥) → (k ≡ 10 → ⊥) → is_computed (view (expr_at d t p).value) ≡ true
  unfolding view view_display is_computed int_at float_at string_at unary_at binary_at call_at display_at dict_at index_at lambda_at
  computed-view zero e a b = seen _ (view-none d t p r e) refl
  computed-view (suc zero) e a b = seen _ (view-false d t p r e) refl
  computed-view (suc (suc zero)) e a b = seen _ (view-true d t p r e) refl
  computed-view (suc (suc (suc zero))) e a b = seen _ (view-int d t p r e).is refl
  computed-view (suc (suc (suc (suc zero)))) e a b = seen _ (view-float d t p r e).is refl
  computed-view (suc (suc (suc (suc (suc zero))))) e a b = seen _ (view-string d t p r e).is refl
  computed-view (suc (suc (suc (suc (suc (suc zero)))))) e a b = absurd (a refl)
  computed-view (suc (suc (suc (suc (suc (suc (suc zero))))))) e a b =
      let v = view-unary d t p r e in
      seen _ v.is (ap (λ (f : Expr → Expr). is_computed (view (f (expr_at (d - 1) t (p + 1 + 1)).value))) (unary-of (get_or t (p + 1) 0) v.parts.operator))
  computed-view (suc (suc (suc (suc (suc (suc (suc (suc zero)))))))) e a b =
      let v = view-binary d t p r e in seen _ v.is (binary-view (get_or t (p + 1) 0) _ _ v.parts.operator)
  computed-view (suc (suc (suc (suc (suc (suc (suc (suc (suc zero))))))))) e a b = seen _ (view-call d t p r e).is refl
  computed-view (suc (suc (suc (suc (suc (suc (suc (suc (suc (suc zero)))))))))) e a b = absurd (b refl)
  computed-view (suc (suc (suc (suc (suc (suc (suc (suc (suc (suc (suc zero))))))))))) e a b = seen _ (view-list d t p r e).is refl
  computed-view (suc (suc (suc (suc (suc (suc (suc (suc (suc (suc (suc (suc zero)))))))))))) e a b = seen _ (view-dict d t p r e).is refl
  computed-view (suc (suc (suc (suc (suc (suc (suc (suc (suc (suc (suc (suc (suc zero))))))))))))) e a b = seen _ (view-tuple d t p r e).is refl
  computed-view (suc (suc (suc (suc (suc (suc (suc (suc (suc (suc (suc (suc (suc (suc zero)))))))))))))) e a b = seen _ (view-set d t p r e).is refl
  computed-view (suc (suc (suc (suc (suc (suc (suc (suc (suc (suc (suc (suc (suc (suc (suc zero))))))))))))))) e a b = seen _ (view-tree-set d t p r e).is refl
  computed-view (suc (suc (suc (suc (suc (suc (suc (suc (suc (suc (suc (suc (suc (suc (suc (suc zero)))))))))))))))) e a b = seen _ (view-index d t p r e).is refl
  computed-view (suc (suc (suc (suc (suc (suc (suc (suc (suc (suc (suc (suc (suc (suc (suc (suc (suc zero))))))))))))))))) e a b = seen _ (view-lambda d t p r e).is refl
  computed-view (suc (suc (suc (suc (suc (suc (suc (suc (suc (suc (suc (suc (suc (suc (suc (suc (suc (suc k)))))))))))))))))) e a b =
      let h = expr-known d t p r in absurd (omega arith)

module _ (d : ℕ) (t : List ℕ) (p : ℕ) (r : CallLowerable d t p) where
  pub call-value : (names : List Name) → (get_or t p 0 ≡ 6 → ⊥) → (get_or t p 0 ≡ 10 → ⊥) → emit_expr names (call_expr d t p)
      ≡ expr_code d t names p ⨟ exprs_code d (count_at t (expr_at d t p).end) t names ((expr_at d t p).end + 2) ⨟ one (call_instr value_callee (count_at t (expr_at d t p).end))
  unfolding emit_expr
  call-value names a b =
      let q = (expr_at d t p).end in
      computed-code (view (expr_at d t p).value) names _ _ _ _ (computed-view d t p r.callee.reads (get_or t p 0) refl a b)
      ∙ ap (λ (n : ℕ). expr_code d t names p ⨟ exprs_code d (count_at t q) t names (q + 2) ⨟ one (call_instr value_callee n)) (exprs-count d (count_at t q) t (q + 2) r.args.elements.reads)

-- ---- numbers of callees are short

pub value-callee : value_callee ≡ callee_of Value
unfolding callee_of
value-callee = refl

pub value-short : Short (callee_of Value)
unfolding callee_of Short
value-short = tt

pub functions-few : (t : List ℕ) (e : Emitter) → SoundIn t e → length (state_in t e).tables.functions ≤ 256
functions-few t e S =
    let k = function-count t e.tables.names.made.now e.code.words.now e.tables.entries.words.now (counts_of e) (limits_in e) S.sound in
    omega (arith, k, S.sound.functions, S.sound.limited.functions)

-- ---- by a method

-- what follows a method's object, which ends at x
abbrev pub method_rest : ℕ → List ℕ → List Name → ℕ → Emit
method_rest d t names x = exprs_code d (count_at t (name_end t x)) t names (name_end t x + 2) ⨟ intern (name_at t x) (λ k. one (CallMethod k (count_at t (name_end t x))))

pub method_then : {r q : Option ℕ} {n m : ℕ} {t : List ℕ} {a b c : Emitter} {e : Emit} (d : ℕ) (names : List Name) → r ≡ Some n → SoundIn t a → EmitsTo r e m t a b
    → EmitsTo q (method_rest d t names n) (list_at d t (name_end t n)).end t b c → EmitsTo q (e ⨟ method_rest d t names m) (list_at d t (name_end t m)).end t a c
method_then {t = t} d names z S h g = emits_then (λ x. method_rest d t names x) (λ x. (list_at d t (name_end t x)).end) z S h g

-- the method's symbol, whose count is n
pub method-symbol : {A : Type 0} {u : Option A} {t : List ℕ} {a b : Emitter} (x : Name) {n k : ℕ} → n ≡ k → LowersIn u (intern x (λ i. one (instr 35 i n))) t a b → LowersIn u (intern x (λ i. one (CallMethod i k))) t a b
method-symbol x e h = lowers-by h (ap (λ (m : ℕ). intern x (λ i. one (CallMethod i m))) (sym e))
