-- Expressions as parts, and whole functions.
use mathlib.Core.Path.{◌≡◌, refl, ap}
use mathlib.Core.Bool.{Bool, true, false, ◌&&◌}
use mathlib.Core.Option.{Option, none as nothing, some}
use mathlib.Core.List.{List, [], ◌∷◌, ◌++◌, append-nil}
use Prim.Native.Nat.{ℕ, ◌<◌}
use lib.ListN.{length}
use lib.Dec.{T}
use Rattle.definitions.specs.Bytes.{Name, position, same, concat}
use Rattle.definitions.specs.Tree.{Literal, none_l, bool_l, int_l, float_l, string_l, UnaryOp, not_op, negate_op, pos_op, Display, list_d, tuple_d, dict_d, set_d, tree_set_d}
use Rattle.definitions.specs.Tree.{BinaryOp, add_op, subtract_op, multiply_op, divide_op, floor_divide_op, modulo_op, equal_op, not_equal_op, less_op, less_equal_op, greater_op, greater_equal_op, binary_number}
use Rattle.definitions.specs.Tree.{Expr, lit, var, unary, binary, logical, call, attr, display, index, lambda, Exprs, []ᵉ, ◌∷ᵉ◌, count}
use Rattle.definitions.specs.Tree.{View, as_var, as_attr, as_index, as_tuple, as_other, view}
use Rattle.definitions.specs.Wellformed.{init}
use Rattle.definitions.specs.Slots.{captures, Frame, names_only}
use Rattle.definitions.specs.Instruction
use Rattle.definitions.specs.Instruction.{Instr, ConstBool, Return, LoadLocal, encodes, unary_code, operator_code, binary_code, build_code}
use Rattle.definitions.specs.Tables.{Tables, Body, expr_body, Out, Emit, add_symbol, begin, emits, one, ◌⨟◌, intern, function, enclose}
use Rattle.definitions.specs.Lower
use Rattle.definitions.specs.Lower.{Callee, builtin_callee, function_callee, value_callee, resolve, load, store, literal, decides, call_named, call_by, loads, closure, emit_expr, emit_exprs, emit_object, method_end, emit_body}
use Rattle.definitions.specs.Walk.{walked, returned, Walk, before, and_then, follow, adds, leaves, Both, walk_named, walk_call, walk_expr, walk_exprs, walk_object, walk_body, walk_at}
use Rattle.definitions.specs.Reader.{ends_in_return, jumps_land, code_stands}
use Rattle.definitions.specs.Open.{flows}
use Rattle.definitions.proofs.Shape.{plain, ret, seq, Plain, none, more}
use Rattle.definitions.proofs.Demand.{Over, over-then}
use Rattle.definitions.proofs.Lands.{Stop, stands, stop-return, stop-init}
use Rattle.definitions.proofs.Meaning.{meaning-calm}
use Rattle.definitions.proofs.Grows.{grow-none, grow-function}
use Rattle.definitions.proofs.Part.{Part, Leaf, part-adds, part-follow, part-logical, leaf-emits, leaf-one, leaf-seq, leaf-symbol, leaf-string, leaf-by, num}

-- ---- leaves

pub leaf-load : (slots : List Name) (x : Name) → Leaf (load slots x)
unfolding load flows
leaf-load slots x = go (position (same x) slots)
  where
    go : (o : Option ℕ) → Leaf (elim o as (λ z. Emit) [ some i ↦ one (LoadLocal i) | nothing ↦ intern x (λ k. one (Instruction.LoadGlobal k)) ])
    go (some i) = leaf-one (num refl refl refl)
    go nothing = leaf-symbol x (λ k. leaf-one (num refl refl refl))

pub leaf-store : (slots : List Name) (x : Name) → Leaf (store slots x)
unfolding store flows
leaf-store slots x = go (position (same x) slots)
  where
    go : (o : Option ℕ) → Leaf (elim o as (λ z. Emit) [ some i ↦ one (Instruction.StoreLocal i) | nothing ↦ intern x (λ k. one (Instruction.StoreGlobal k)) ])
    go (some i) = leaf-one (num refl refl refl)
    go nothing = leaf-symbol x (λ k. leaf-one (num refl refl refl))

pub plain-bool : (b : Bool) → Plain (ConstBool b)
unfolding flows
plain-bool false = num refl refl refl
plain-bool true = num refl refl refl

pub plain-build : (k : Display) (n : ℕ) → Plain (Instruction.Build k n)
unfolding flows build_code
plain-build list_d n = num refl refl refl
plain-build tuple_d n = num refl refl refl
plain-build dict_d n = num refl refl refl
plain-build set_d n = num refl refl refl
plain-build tree_set_d n = num refl refl refl

pub plain-unary : (op : UnaryOp) → Plain (Instruction.Unary op)
unfolding flows unary_code
plain-unary not_op = num refl refl refl
plain-unary negate_op = num refl refl refl
plain-unary pos_op = num refl refl refl

pub plain-binary : (op : BinaryOp) → Plain (Instruction.Binary op)
unfolding flows binary_code operator_code binary_number
plain-binary add_op = num refl refl refl
plain-binary subtract_op = num refl refl refl
plain-binary multiply_op = num refl refl refl
plain-binary divide_op = num refl refl refl
plain-binary floor_divide_op = num refl refl refl
plain-binary modulo_op = num refl refl refl
plain-binary equal_op = num refl refl refl
plain-binary not_equal_op = num refl refl refl
plain-binary less_op = num refl refl refl
plain-binary less_equal_op = num refl refl refl
plain-binary greater_op = num refl refl refl
plain-binary greater_equal_op = num refl refl refl

pub leaf-literal : (v : Literal) → Leaf (literal v)
unfolding literal flows
leaf-literal none_l = leaf-one (num refl refl refl)
leaf-literal (bool_l b) = leaf-one (plain-bool b)
leaf-literal (int_l n) = leaf-one (num refl refl refl)
leaf-literal (float_l n) = leaf-one (num refl refl refl)
leaf-literal (string_l s) = leaf-string s (λ k. leaf-one (num refl refl refl))

pub leaf-loads : (slots xs : List Name) → Leaf (loads slots xs)
unfolding loads
leaf-loads slots [] = leaf-emits none
leaf-loads slots (x ∷ xs) = leaf-seq (leaf-load slots x) (leaf-loads slots xs)

-- ---- a whole function

-- a body whose end leaves the function
pub record Whole (e : Emit) (frame : Frame) (body : Body) : Type 0 where
  pub emitted : e ≡ emit_body frame body
  pub part : Part false e (walk_body frame body)
  pub over : (t : Tables) (xs : List ℕ) → Over (walk_body frame body 0 t xs).ending
  pub stand : (t : Tables) → length (e 0 t).code < 4294967296 → T (ends_in_return (e 0 t).code && jumps_land (length (e 0 t).code) 0 (e 0 t).code)

pub whole : {e : Emit} {w : Walk} (frame : Frame) (body : Body) (end : List Instr)
    → e ⨟ emits end ≡ emit_body frame body → walk_body frame body ≡ follow e w (leaves end)
    → Part false e w → Part false (emits end) (leaves end) → Stop end → Whole (e ⨟ emits end) frame body
unfolding follow leaves ◌⨟◌ emits
whole {e} {w} frame body end c q A B S = record {
  emitted = c;
  part = rw q (part-follow A B);
  over = λ t xs. rw q (over-then _ (w 0 t xs).ending (w 0 t xs).left (w 0 t xs).events (meaning-calm (A.at 0 t) xs) (λ zs. tt));
  stand = λ t. let M = A.at 0 t in stands M.code M.ok (e 0 t).code end M.emitted S;
}

pub part-leave : {l : Bool} → Part l (one Return) (leaves (Return ∷ []))
unfolding leaves emits
part-leave = record { at = λ p t. record { code = ret; ok = tt; emitted = refl; walks = refl }; grows = λ p t. grow-none }

pub part-init : Part false (emits (LoadLocal 0 ∷ Return ∷ [])) (leaves (LoadLocal 0 ∷ Return ∷ []))
unfolding emits leaves flows encodes concat and_then before
part-init = record {
  at = λ p t. record {
    code = seq (plain (LoadLocal 0 ∷ [])) ret;
    ok = (more (num refl refl refl) none, tt);
    emitted = refl;
    walks = λ i xs. walked returned xs (init-events i);
  };
  grows = λ p t. grow-none;
}
  where
    init-events : encodes (LoadLocal 0 ∷ Return ∷ []) ≡ encodes (LoadLocal 0 ∷ []) ++ encodes (Return ∷ [])
    init-events = simp append-nil

pub part_end : (x : Name) → Part false (emits (method_end x)) (leaves (method_end x))
unfolding method_end
part_end x = go (same x init)
  where
    go : (b : Bool) → Part false (emits (elim b as (λ z. List Instr) [ true ↦ LoadLocal 0 ∷ Return ∷ [] | false ↦ Return ∷ [] ])) (leaves (elim b as (λ z. List Instr) [ true ↦ LoadLocal 0 ∷ Return ∷ [] | false ↦ Return ∷ [] ]))
    go true = part-init
    go false = part-leave

pub stop-end : (x : Name) → Stop (method_end x)
unfolding method_end
stop-end x = go (same x init)
  where
    go : (b : Bool) → Stop (elim b as (λ z. List Instr) [ true ↦ LoadLocal 0 ∷ Return ∷ [] | false ↦ Return ∷ [] ])
    go true = stop-init
    go false = stop-return

pub leaf-function : {e : Emit} (x : Name) (arity : ℕ) (frame : Frame) (body : Body) → Whole e frame body → Leaf (function x arity frame body e)
unfolding function enclose begin walk_at code_stands
leaf-function {e} x arity frame body B = leaf-symbol x (λ k. record {
  at = λ p t. none;
  grows = λ p t.
      let u = begin k arity frame t in
      grow-function t.functions _ _ _ _ (e 0 u).code (B.part.grows 0 u) (record { source = record { locals = refl; code = ap (λ (z : Emit). (z 0 u).code) B.emitted }; meaning = B.part.at 0 u; over = λ xs. B.over u xs; stands = B.stand u });
})

-- it gives no code in its parent
pub function-silent : (x : Name) (arity : ℕ) (frame : Frame) (body : Body) (e : Emit) (p : ℕ) (t : Tables) → (function x arity frame body e p t).code ≡ []
unfolding function intern enclose
function-silent x arity frame body e p t = go (position (same x) t.symbols)
  where
    go : (o : Option ℕ) → (elim o as (λ z. Out) [ some k ↦ enclose k arity frame body e p t | nothing ↦ enclose (length t.symbols) arity frame body e p (add_symbol x t) ]).code ≡ []
    go (some k) = refl
    go nothing = refl

pub leaf-closure : (e : Emit) (slots : List Name) (n : ℕ) (inner cs : List Name) (body : Body) → Whole (e ⨟ one Return) (names_only inner) body → Leaf (closure slots n inner cs body e)
unfolding closure flows
leaf-closure e slots n inner cs body B =
    leaf-by (λ t. function (Lower.lambda_name (length t.functions)) n (names_only inner) body (e ⨟ one Return) ⨟ loads slots cs ⨟ one (Instruction.MakeClosure (length t.functions) (length cs)))
    (λ t. leaf-seq (leaf-function _ n (names_only inner) body B) (leaf-seq (leaf-loads slots cs) (leaf-one (num refl refl refl))))

-- ---- expressions

pub whole-expr : (slots : List Name) (b : Expr) → Part false (emit_expr slots b) (walk_expr slots b) → Whole (emit_expr slots b ⨟ one Return) (names_only slots) (expr_body b)
unfolding walk_body emit_body
whole-expr slots b A = whole (names_only slots) (expr_body b) (Return ∷ []) refl refl A part-leave stop-return

pub part-named : {l : Bool} (c : Callee) (slots : List Name) (x : Name) {e : Emit} {w : Walk} (n : ℕ) → Part l e w → Part l (call_named c slots x e n) (walk_named c slots x e w n)
unfolding call_named walk_named flows
part-named (builtin_callee i) slots x n A = part-follow A (part-adds (leaf-one (num refl refl refl)))
part-named (function_callee i) slots x n A = part-follow A (part-adds (leaf-one (num refl refl refl)))
part-named value_callee slots x n A = part-follow (part-adds (leaf-load slots x)) (part-follow A (part-adds (leaf-one (num refl refl refl))))

pub part-value : {l : Bool} {e f : Emit} {w v : Walk} (n : ℕ) → Part l e w → Part l f v → Part l (e ⨟ f ⨟ one (Instruction.CallValue n)) (follow e w (follow f v (adds (one (Instruction.CallValue n)))))
unfolding flows
part-value n A B = part-follow A (part-follow B (part-adds (leaf-one (num refl refl refl))))

pub part-method : {l : Bool} {e f : Emit} {w v : Walk} (x : Name) (n : ℕ) → Part l e w → Part l f v
    → Part l (e ⨟ f ⨟ intern x (λ k. one (Instruction.CallMethod k n))) (follow e w (follow f v (adds (intern x (λ k. one (Instruction.CallMethod k n))))))
unfolding flows
part-method x n A B = part-follow A (part-follow B (part-adds (leaf-symbol x (λ k. leaf-one (num refl refl refl)))))

-- code and walk of a part
abbrev pair : Emit → Walk → Both
pair e w = record { code = e; walk = w }

pub part-call : {l : Bool} (v : View) (slots : List Name) (n : ℕ) {e o a : Emit} {we wo wa : Walk} → Part l e we → Part l o wo → Part l a wa
    → Part l (call_by v slots e o a n) (walk_call v slots (pair e we) (pair o wo) (pair a wa) n)
unfolding call_by walk_call
part-call {l} (as_var x) slots n E O A = record {
  at = λ p t. (part-named (resolve x t) slots x n A).at p t;
  grows = λ p t. (part-named {l = l} (resolve x t) slots x n A).grows p t;
}
part-call (as_attr o x) slots n E O A = let P = part-method x n O A in record { at = P.at; grows = P.grows }
part-call (as_index o i) slots n E O A = let P = part-value n E A in record { at = P.at; grows = P.grows }
part-call (as_tuple es) slots n E O A = let P = part-value n E A in record { at = P.at; grows = P.grows }
part-call as_other slots n E O A = let P = part-value n E A in record { at = P.at; grows = P.grows }

pub part-nothing : {l : Bool} → Part l (emits []) (adds (emits []))
part-nothing = part-adds (leaf-emits none)

mutual
  unfolding emit_expr walk_expr emit_exprs walk_exprs emit_object walk_object flows

  pub part-expr : (l : Bool) (slots : List Name) (e : Expr) → Part l (emit_expr slots e) (walk_expr slots e)
  part-expr l slots (lit v) = part-adds (leaf-literal v)
  part-expr l slots (var x) = part-adds (leaf-load slots x)
  part-expr l slots (unary op e) = part-follow (part-expr l slots e) (part-adds (leaf-one (plain-unary op)))
  part-expr l slots (binary op a b) = part-follow (part-expr l slots a) (part-follow (part-expr l slots b) (part-adds (leaf-one (plain-binary op))))
  part-expr l slots (logical op e f) = part-logical (decides op) (part-expr l slots e) (part-expr l slots f) (plain-bool (decides op))
  part-expr l slots (call f es) = part-call (view f) slots (count es) (part-expr l slots f) (part-object l slots f) (part-exprs l slots es)
  part-expr l slots (attr o x) = part-follow (part-expr l slots o) (part-adds (leaf-symbol x (λ n. leaf-one (num refl refl refl))))
  part-expr l slots (display k es) = part-follow (part-exprs l slots es) (part-adds (leaf-one (plain-build k _)))
  part-expr l slots (index o i) = part-follow (part-expr l slots o) (part-follow (part-expr l slots i) (part-adds (leaf-one (num refl refl refl))))
  part-expr l slots (lambda ps b) =
      let cs = captures slots ps b in
      part-adds (leaf-closure (emit_expr (ps ++ cs) b) slots (length ps) (ps ++ cs) cs (expr_body b) (whole-expr (ps ++ cs) b (part-expr false (ps ++ cs) b)))

  part-exprs : (l : Bool) (slots : List Name) (es : Exprs) → Part l (emit_exprs slots es) (walk_exprs slots es)
  part-exprs l slots []ᵉ = part-nothing
  part-exprs l slots (e ∷ᵉ es) = part-follow (part-expr l slots e) (part-exprs l slots es)

  part-object : (l : Bool) (slots : List Name) (e : Expr) → Part l (emit_object slots e) (walk_object slots e)
  part-object l slots (lit v) = part-nothing
  part-object l slots (var x) = part-nothing
  part-object l slots (unary op e) = part-nothing
  part-object l slots (binary op a b) = part-nothing
  part-object l slots (logical op e f) = part-nothing
  part-object l slots (call f es) = part-nothing
  part-object l slots (attr o x) = part-expr l slots o
  part-object l slots (display k es) = part-nothing
  part-object l slots (index o i) = part-nothing
  part-object l slots (lambda ps b) = part-nothing
