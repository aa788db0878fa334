-- Calls by the form of their callee.
use Prim.Native.Nat.{ℕ, ◌+◌, ◌-◌, ◌<◌, ◌≤◌}
use mathlib.Core.Path.{◌≡◌, refl, sym, ap, ◌∙◌, subst}
use mathlib.Core.Bool.{Bool, true, false, ◌||◌}
use mathlib.Core.List.{List, [], ◌∷◌}
use native.Mathlib.Omega.{arith}
use lib.Dec.{T, eqb, ltb}
use lib.ListN.{length, get_or}
use borrow.Author.Tests.{eqb-true, ltb-true}
use Rattle.definitions.specs.Bytes.{Name, all}
use Rattle.definitions.specs.Builtins.{Builtin, registry}
use Rattle.definitions.specs.Reader.{is_builtin}
use Rattle.definitions.specs.Tree.{Expr, var, call, attr, Exprs, count, view}
use Rattle.definitions.specs.Wellformed.{ask_expr}
use Rattle.definitions.specs.Instruction as Instruction
use Rattle.definitions.specs.Tables.{Tables, Emit, emits, one, ◌⨟◌, intern}
use Rattle.definitions.proofs.Resolve.{CalleeIn, resolve-in}
use Rattle.definitions.specs.Lower.{Callee, builtin_callee, function_callee, value_callee, resolve, call_named, call_by, emit_expr, emit_exprs}
use Rattle.tree_view.specs.Places.{Node, count_at, name_from, name_end}
use Rattle.tree_view.specs.ExprAt.{expr_at, list_at, var_at, attribute_at}
use Rattle.tree_view.proofs.ExprViews.{expr-deep, view-var, view-attribute}
use Rattle.state.specs.Words.{name_at}
use Rattle.lower_forms.specs.Lowerable.{expr_code, exprs_code, ArgsLowerable, CallLowerable, NamedLowerable, MethodLowerable, load_callee, call_instr, Short}
use Rattle.lower_forms.proofs.ExprArms.{and_both, name-same, exprs-count}

-- ---- by name

by-callee : (ce : Callee) (names : List Name) (x : Name) (args : Emit) (n p : ℕ) (t : Tables) → call_named ce names x args n p t ≡ (load_callee ce names x ⨟ args ⨟ one (call_instr ce n)) p t
unfolding call_named load_callee call_instr ◌⨟◌ emits
by-callee (builtin_callee i) names x args n p t = ap (λ (q : ℕ). (args ⨟ one (Instruction.CallBuiltin i n)) q t) (let z : p ≡ p + 0 = omega arith in z)
by-callee (function_callee i) names x args n p t = ap (λ (q : ℕ). (args ⨟ one (Instruction.Call i n)) q t) (let z : p ≡ p + 0 = omega arith in z)
by-callee value_callee names x args n p t = refl

-- a call of the name x where it resolves to ce
pub named-code : (ce : Callee) (names : List Name) (x : Name) (es : Exprs) (p : ℕ) (t : Tables) → ce ≡ resolve x t →
    emit_expr names (call (var x) es) p t ≡ (load_callee ce names x ⨟ emit_exprs names es ⨟ one (call_instr ce (count es))) p t
unfolding emit_expr view call_by
named-code ce names x es p t e = ap (λ (c : Callee). call_named c names x (emit_exprs names es) (count es) p t) (sym e) ∙ by-callee ce names x (emit_exprs names es) (count es) p t

-- ---- the call at p, by its callee's kind byte

abbrev pub call_expr : ℕ → List ℕ → ℕ → Expr
call_expr d t p = call (expr_at d t p).value (list_at d t (expr_at d t p).end).value

pub record CallArm (Parts : Type 0) (d : ℕ) (t : List ℕ) (p : ℕ) (e : List Name → Emit) (q : ℕ) : Type 0 where
  pub parts : Parts
  pub code : (names : List Name) → emit_expr names (call_expr d t p) ≡ e names
  pub end : (list_at d t (expr_at d t p).end).end ≡ q

module _ (d : ℕ) (t : List ℕ) (p : ℕ) (r : CallLowerable d t p) where
  pub call-named : get_or t p 0 ≡ 6 → CallArm (NamedLowerable d t (p + 1)) d t p
      (λ names. emit_expr names (call (var (name_at t (p + 1))) (list_at d t (name_end t (p + 1))).value)) (list_at d t (name_end t (p + 1))).end
  unfolding var_at
  call-named k =
      let v = view-var d t p r.callee.reads k in
      let q : (expr_at d t p).end ≡ name_end t (p + 1) = ap (λ (x : Node Expr). x.end) v.is in
      record {
        parts = record { name = v.parts; args = subst (ArgsLowerable d t) q r.args };
        code = λ names. ap (λ (x : Node Expr). emit_expr names (call x.value (list_at d t x.end).value)) v.is
            ∙ ap (λ (x : Name). emit_expr names (call (var x) (list_at d t (name_end t (p + 1))).value)) (name-same t (p + 1));
        end = ap (λ (n : ℕ). (list_at d t n).end) q;
      }

  pub call-method : get_or t p 0 ≡ 10 → CallArm (MethodLowerable d t (p + 1)) d t p
      (λ names. expr_code (d - 1) t names (p + 1)
      ⨟ exprs_code d (count_at t (name_end t (expr_at (d - 1) t (p + 1)).end)) t names (name_end t (expr_at (d - 1) t (p + 1)).end + 2)
      ⨟ intern (name_at t (expr_at (d - 1) t (p + 1)).end) (λ k. one (Instruction.CallMethod k (count_at t (name_end t (expr_at (d - 1) t (p + 1)).end)))))
      (list_at d t (name_end t (expr_at (d - 1) t (p + 1)).end)).end
  unfolding attribute_at emit_expr view call_by ask_expr
  call-method k =
      let v = view-attribute d t p r.callee.reads k in
      let o = expr_at (d - 1) t (p + 1) in
      let q : (expr_at d t p).end ≡ name_end t o.end = ap (λ (x : Node Expr). x.end) v.is in
      let w : (expr_at d t p).value ≡ attr o.value (name_from t o.end) = ap (λ (x : Node Expr). x.value) v.is in
      let args = subst (ArgsLowerable d t) q r.args in
      let z = expr-deep d t p r.callee.reads in
      record {
        parts = record {
          deep = omega arith;
          callee = record {
            object = record { reads = v.parts.object; asks = λ n j. (and_both _ _ (ap (ask_expr n) (sym w) ∙ r.callee.asks n j)).0 };
            name = v.parts.name;
          };
          args = args;
        };
        code = λ names. ap (λ (x : Node Expr). emit_expr names (call x.value (list_at d t x.end).value)) v.is
            ∙ ap (λ (n : ℕ). emit_expr names o.value ⨟ emit_exprs names (list_at d t (name_end t o.end)).value ⨟ intern (name_from t o.end) (λ k. one (Instruction.CallMethod k n)))
            (exprs-count d (count_at t (name_end t o.end)) t (name_end t o.end + 2) args.elements.reads)
            ∙ ap (λ (x : Name). emit_expr names o.value ⨟ emit_exprs names (list_at d t (name_end t o.end)).value ⨟ intern x (λ k. one (Instruction.CallMethod k (count_at t (name_end t o.end))))) (name-same t o.end);
        end = ap (λ (n : ℕ). (list_at d t n).end) q;
      }

-- a named call's code, with the count of the arguments
pub named-args : (d : ℕ) (t : List ℕ) (names : List Name) (q : ℕ) (ce : Callee) (p : ℕ) (u : Tables) → NamedLowerable d t q → ce ≡ resolve (name_at t q) u →
    emit_expr names (call (var (name_at t q)) (list_at d t (name_end t q)).value) p u
    ≡ (load_callee ce names (name_at t q) ⨟ exprs_code d (count_at t (name_end t q)) t names (name_end t q + 2) ⨟ one (call_instr ce (count_at t (name_end t q)))) p u
named-args d t names q ce p u r e =
    let a = name_end t q in
    named-code ce names (name_at t q) (list_at d t a).value p u e
    ∙ ap (λ (n : ℕ). (load_callee ce names (name_at t q) ⨟ exprs_code d (count_at t a) t names (a + 2) ⨟ one (call_instr ce n)) p u) (exprs-count d (count_at t a) t (a + 2) r.args.elements.reads)

-- ---- numbers of callees are short

ids_short : (bs : List Builtin) (i : ℕ) → all (λ (b : Builtin). ltb b.id 256) bs ≡ true → T (is_builtin bs i) → i < 256
unfolding all is_builtin
ids_short [] i a h = absurd h
ids_short (b ∷ bs) i a h =
    let w = and_both (ltb b.id 256) (all (λ (b : Builtin). ltb b.id 256) bs) a in
    go (eqb b.id i) refl (ids_short bs i w.1) (ltb-true b.id 256 w.0) h
  where
    go : (c : Bool) → eqb b.id i ≡ c → (T (is_builtin bs i) → i < 256) → b.id < 256 → T (c || is_builtin bs i) → i < 256
    go true e f k h = let q = eqb-true b.id i e in omega arith
    go false e f k h = f h

short-in : (t : Tables) (ce : Callee) → length t.functions ≤ 256 → CalleeIn t ce → Short ce
unfolding Short registry all
short-in t (builtin_callee i) h k = ids_short registry i refl k
short-in t (function_callee i) h k = omega arith
short-in t value_callee h k = tt

pub callee-short : (x : Name) (t : Tables) (ce : Callee) → length t.functions ≤ 256 → ce ≡ resolve x t → Short ce
callee-short x t ce h e = short-in t ce h (subst (CalleeIn t) (sym e) (resolve-in x t))
