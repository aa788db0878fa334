-- Each loop of a def or method has a slot of its own, after those of the names: what the code does with the slots beyond the names.
use mathlib.Core.Path.{◌≡◌, refl, sym, ap, ◌∙◌, subst}
use mathlib.Core.Bool.{Bool, true, false, ◌&&◌}
use mathlib.Core.Option.{Option, none, some}
use mathlib.Core.List.{List, [], ◌∷◌, ◌++◌, append-nil}
use Prim.Native.Nat.{ℕ, zero, suc, ◌+◌, ◌-◌, ◌≤◌, ◌<◌}
use native.Mathlib.Omega.{arith}
use lib.ListN.{length, get_elem?}
use lib.Dec.{T, eqb, eqb→eq, leb, le→leb}
use lib.Arith.{lt→nleb}
use Rattle.definitions.specs.Bytes.{Name, Text, position, same, all}
use Rattle.definitions.specs.Tree.{Literal, none_l, bool_l, int_l, float_l, string_l, UnaryOp, not_op, negate_op, pos_op, Display, list_d, tuple_d, dict_d, set_d, tree_set_d}
use Rattle.definitions.specs.Tree.{BinaryOp, add_op, subtract_op, multiply_op, divide_op, floor_divide_op, modulo_op, equal_op, not_equal_op, less_op, less_equal_op, greater_op, greater_equal_op, binary_number}
use Rattle.definitions.specs.Tree.{Expr, lit, var, unary, binary, logical, call, attr, display, index, lambda, Exprs, []ᵉ, ◌∷ᵉ◌, count}
use Rattle.definitions.specs.Tree.{View, as_var, as_attr, as_index, as_tuple, as_other, view, Attribute}
use Rattle.definitions.specs.Tree.{Stmt, break, continue, pass, expr, return, assign, if, while, for, def, class}
use Rattle.definitions.specs.Tree.{Block, []ᵇ, ◌∷ᵇ◌, Branches, done, else, when, Methods, []ᵐ, method}
use Rattle.definitions.specs.Wellformed.{is_tuple, init, if_asked, ask_name, ask_params, ask_method, ask_attribute, ask_expr, ask_stmt, ask_block, ask_branches, ask_methods}
use Rattle.definitions.specs.Slots.{captures, Keeping, in_globals, in_slots, past, Frame, names_only, with_loops, loops_stmt, loops_block, loops_branches}
use Rattle.definitions.specs.Instruction
use Rattle.definitions.specs.Instruction.{Instr, Jump, JumpIfFalse, ConstBool, Return, LoadLocal, StoreLocal}
use Rattle.definitions.specs.Tables.{Function, Method, Tables, Body, block_body, expr_body, Source, Out, Emit, add_symbol, add_string, emits, one, ◌⨟◌, here, intern, get_or_add_string, begin, function, enclose}
use Rattle.definitions.specs.Lower
use Rattle.definitions.specs.Lower.{Callee, builtin_callee, function_callee, value_callee, resolve, load, store, literal, decides, jump_on, shortcut, call_named, call_by, loads, closure, emit_expr, emit_exprs, emit_object}
use Rattle.definitions.specs.Lower.{copy, emit_target, unpack, assign_by, patched, patch, loop, Keeper, global, local, make_iter, named_iter, kept_iter, store_iter, load_iter, iter_name, ask_iter, take_iter}
use Rattle.definitions.specs.Lower.{method_end, begin_class, class_object, end_class, class_out, emit_stmt, emit_block, emit_branches, emit_methods, emit_body, compile}
use Rattle.definitions.specs.Open.{all_instruction}
use Rattle.definitions.specs.Statements.{is_slot, is_beyond, beyond, iterator_code, loops_body, loops_of, ComesFrom, OwnSlots, LoopSlots}
use Rattle.definitions.proofs.Truth.{left, right, is_true, is_false}
use Rattle.definitions.proofs.Every.{Every, no_every, every, every_append}
use Rattle.definitions.proofs.Resolve.{position-lt}
use Rattle.definitions.proofs.Accepted.{accepted-gives}
use Rattle.definitions.proofs.InitSlot.{init-slot}
use Rattle.definitions.proofs.Demand3.{sources}

-- ---- the instructions beyond

beyond-append : (n : ℕ) (is js : List Instr) → beyond n (is ++ js) ≡ beyond n is ++ beyond n js
unfolding beyond
beyond-append n [] js = refl
beyond-append n (i ∷ is) js = go (is_beyond n i) (beyond-append n is js)
  where
    go : (b : Bool) → beyond n (is ++ js) ≡ beyond n is ++ beyond n js
        → (elim b as (λ z. List Instr) [ true ↦ i ∷ beyond n (is ++ js) | false ↦ beyond n (is ++ js) ]) ≡ (elim b as (λ z. List Instr) [ true ↦ i ∷ beyond n is | false ↦ beyond n is ]) ++ beyond n js
    go true e = ap (λ (z : List Instr). i ∷ z) e
    go false e = e

-- an instruction that is not
beyond-past : (n : ℕ) (i : Instr) (is : List Instr) → is_beyond n i ≡ false → beyond n (i ∷ is) ≡ beyond n is
unfolding beyond
beyond-past n i is e = rw (e, beyond)

-- an instruction that is
beyond-at : (n : ℕ) (i : Instr) (is : List Instr) → is_beyond n i ≡ true → beyond n (i ∷ is) ≡ i ∷ beyond n is
unfolding beyond
beyond-at n i is e = rw (e, beyond)

-- what a loop's patches change was not, and is not
patched_same : (n h m i : ℕ) (x : Instr) (xs ys : List Instr) → beyond n xs ≡ beyond n ys → beyond n (patched h m i x ∷ xs) ≡ beyond n (x ∷ ys)
unfolding patched is_beyond is_slot all_instruction
patched_same n h m i x xs ys e = go (eqb x.op 46) (eqb x.op 47) (eqb→eq x.op 46) (eqb→eq x.op 47)
  where
    quiet : (k : ℕ) → is_slot (Instruction.numbers_of k) ≡ false → x.op ≡ k → is_beyond n x ≡ false
    quiet k q h = rw (h, is_beyond) (rw (q, is_beyond))

    go : (b c : Bool) → (T b → x.op ≡ 46) → (T c → x.op ≡ 47)
        → beyond n ((elim b as (λ z. Instr) [ true ↦ Jump (m - i) | false ↦ elim c as (λ z. Instr) [ true ↦ Jump (Instruction.minus (h + suc i)) | false ↦ x ] ]) ∷ xs) ≡ beyond n (x ∷ ys)
    go true c p q = beyond-past n _ xs refl ∙ e ∙ sym (beyond-past n x ys (quiet 46 refl (p tt)))
    go false true p q = beyond-past n _ xs refl ∙ e ∙ sym (beyond-past n x ys (quiet 47 refl (q tt)))
    go false false p q = beyond-append n (x ∷ []) xs ∙ ap (λ (z : List Instr). beyond n (x ∷ []) ++ z) e ∙ sym (beyond-append n (x ∷ []) ys)

beyond-patch : (n h m i : ℕ) (is : List Instr) → beyond n (patch h m i is) ≡ beyond n is
unfolding patch
beyond-patch n h m i [] = refl
beyond-patch n h m i (x ∷ xs) = patched_same n h m i x (patch h m (suc i) xs) xs (beyond-patch n h m (suc i) xs)

-- loops one after another
iterator-sum : (n a b : ℕ) → iterator_code n (a + b) ≡ iterator_code n a ++ iterator_code (n + a) b
unfolding iterator_code
iterator-sum n zero b =
    let e : 0 + b ≡ b = omega arith in
    let f : n + 0 ≡ n = omega arith in
    rw (e, f)
iterator-sum n (suc a) b =
    let e : suc a + b ≡ suc (a + b) = omega arith in
    let f : n + suc a ≡ suc n + a = omega arith in
    rw (e, f, iterator-sum (suc n) a b)

-- ---- parts

-- a source whose function keeps the iterators of all its loops in slots of their own
record Own (s : Source) : Type 0 where
  locals : s.frame.locals ≡ length s.frame.names + loops_body s.body
  code : beyond (length s.frame.names) (emit_body s.frame s.body 0 s.start).code ≡ iterator_code (length s.frame.names) (loops_body s.body)

-- a part whose instructions beyond n are these; the functions that begin in it keep their iterators so
record Slotted (n : ℕ) (e : Emit) (is : List Instr) : Type 0 where
  code : (p : ℕ) (t : Tables) → beyond n (e p t).code ≡ is
  own : (p : ℕ) (t : Tables) → Every Own (e p t).sources

-- a part with none
abbrev Still : ℕ → Emit → Type 0
Still n e = Slotted n e []

slotted-same : {n : ℕ} {e : Emit} {is js : List Instr} → is ≡ js → Slotted n e is → Slotted n e js
slotted-same q A = record { code = λ p t. A.code p t ∙ q; own = A.own }

still-nothing : {n : ℕ} → Still n (emits [])
unfolding emits beyond
still-nothing = record { code = λ p t. refl; own = λ p t. no_every }

still_one : {n : ℕ} (i : Instr) → is_beyond n i ≡ false → Still n (one i)
unfolding emits beyond
still_one {n} i e = record { code = λ p t. beyond-past n i [] e; own = λ p t. no_every }

-- an instruction that names no slot
still : {n : ℕ} (i : Instr) → is_slot (Instruction.numbers_of i.op) ≡ false → Still n (one i)
unfolding is_beyond
still {n} i e = still_one i (ap (λ (z : Bool). z && leb n i.a) e)

slotted-seq : {n : ℕ} {e f : Emit} {is js : List Instr} → Slotted n e is → Slotted n f js → Slotted n (e ⨟ f) (is ++ js)
unfolding ◌⨟◌
slotted-seq {n} {e} {f} A B = record {
  code = λ p t. beyond-append n (e p t).code _ ∙ rw (A.code p t, B.code (p + length (e p t).code) (e p t).tables);
  own = λ p t. every_append (A.own p t) (B.own (p + length (e p t).code) (e p t).tables);
}

slotted-then : {n : ℕ} {e f : Emit} {is : List Instr} → Slotted n e is → Still n f → Slotted n (e ⨟ f) is
slotted-then {is} A B = slotted-same (append-nil is) (slotted-seq A B)

slotted-by : {n : ℕ} {g : Tables → Emit} {is : List Instr} → ((t : Tables) → Slotted n (g t) is) → Slotted n (λ p t. g t p t) is
slotted-by G = record { code = λ p t. (G t).code p t; own = λ p t. (G t).own p t }

slotted-symbol : {n : ℕ} {f : ℕ → Emit} {is : List Instr} (x : Name) → ((k : ℕ) → Slotted n (f k) is) → Slotted n (intern x f) is
unfolding intern
slotted-symbol {n} {f} {is} x F = record { code = λ p t. code p t (position (same x) t.symbols); own = λ p t. own p t (position (same x) t.symbols) }
  where
    code : (p : ℕ) (t : Tables) (o : Option ℕ) → beyond n (elim o as (λ z. Out) [ some k ↦ f k p t | none ↦ f (length t.symbols) p (add_symbol x t) ]).code ≡ is
    code p t (some k) = (F k).code p t
    code p t none = (F (length t.symbols)).code p (add_symbol x t)

    own : (p : ℕ) (t : Tables) (o : Option ℕ) → Every Own (elim o as (λ z. Out) [ some k ↦ f k p t | none ↦ f (length t.symbols) p (add_symbol x t) ]).sources
    own p t (some k) = (F k).own p t
    own p t none = (F (length t.symbols)).own p (add_symbol x t)

slotted-string : {n : ℕ} {f : ℕ → Emit} {is : List Instr} (x : Text) → ((k : ℕ) → Slotted n (f k) is) → Slotted n (get_or_add_string x f) is
unfolding get_or_add_string
slotted-string {n} {f} {is} x F = record { code = λ p t. code p t (position (same x) t.strings); own = λ p t. own p t (position (same x) t.strings) }
  where
    code : (p : ℕ) (t : Tables) (o : Option ℕ) → beyond n (elim o as (λ z. Out) [ some k ↦ f k p t | none ↦ f (length t.strings) p (add_string x t) ]).code ≡ is
    code p t (some k) = (F k).code p t
    code p t none = (F (length t.strings)).code p (add_string x t)

    own : (p : ℕ) (t : Tables) (o : Option ℕ) → Every Own (elim o as (λ z. Out) [ some k ↦ f k p t | none ↦ f (length t.strings) p (add_string x t) ]).sources
    own p t (some k) = (F k).own p t
    own p t none = (F (length t.strings)).own p (add_string x t)

-- a whole function
still-function : {n : ℕ} {e : Emit} (x : Name) (arity : ℕ) (frame : Frame) (body : Body) → e ≡ emit_body frame body → frame.locals ≡ length frame.names + loops_body body
    → Slotted (length frame.names) e (iterator_code (length frame.names) (loops_body body)) → Still n (function x arity frame body e)
unfolding function enclose beyond
still-function x arity frame body q l E = slotted-symbol x (λ k. record {
  code = λ p t. refl;
  own = λ p t.
      let u = begin k arity frame t in
      every (record { locals = l; code = subst (λ (z : Emit). beyond (length frame.names) (z 0 u).code ≡ iterator_code (length frame.names) (loops_body body)) q (E.code 0 u) }) (E.own 0 u);
})

short-code : (n : ℕ) (b : Bool) (k : ℕ) (is : List Instr) → beyond n is ≡ [] → beyond n (jump_on b k ∷ is ++ Jump 1 ∷ ConstBool b ∷ []) ≡ []
unfolding jump_on is_beyond is_slot beyond all_instruction
short-code n false k is e = beyond-append n is _ ∙ rw e
short-code n true k is e = beyond-append n is _ ∙ rw e

slotted-shortcut : {n : ℕ} {e : Emit} (b : Bool) → Still n e → Still n (shortcut b e)
unfolding shortcut
slotted-shortcut {n} {e} b E = record { code = λ p t. short-code n b (suc (length (e (suc p) t).code)) (e (suc p) t).code (E.code (suc p) t); own = λ p t. E.own (suc p) t }

loop-code : (n j h m k : ℕ) (is js us vs : List Instr) → beyond n is ≡ us → beyond n js ≡ vs → beyond n (is ++ (JumpIfFalse j ∷ patch h m 0 js ++ Jump k ∷ [])) ≡ us ++ vs
unfolding is_beyond is_slot beyond all_instruction
loop-code n j h m k is js us vs e f =
    beyond-append n is _ ∙ rw e (ap (λ (z : List Instr). us ++ z) (beyond-append n (patch h m 0 js) (Jump k ∷ []) ∙ append-nil _ ∙ beyond-patch n h m 0 js ∙ f))

slotted-loop : {n : ℕ} {e f : Emit} {is js : List Instr} → Slotted n e is → Slotted n f js → Slotted n (loop e f) (is ++ js)
unfolding loop
slotted-loop {n} {e} {f} {is} {js} A B = record {
  code = λ p t. loop-code n _ _ _ _ (e p t).code _ is js (A.code p t) (B.code _ _);
  own = λ p t. every_append (A.own p t) (B.own _ _);
}

-- ---- expressions

-- a slot below n
still-below : {n : ℕ} (i : Instr) → i.a < n → Still n (one i)
unfolding is_beyond
still-below {n} i h = still_one i (go (is_slot (Instruction.numbers_of i.op)))
  where
    go : (b : Bool) → (b && leb n i.a) ≡ false
    go true = is_false (leb n i.a) (lt→nleb n i.a h)
    go false = refl

still-load : (slots : List Name) (x : Name) → Still (length slots) (load slots x)
unfolding load is_slot all_instruction
still-load slots x = go (position (same x) slots) (position-lt (same x) slots)
  where
    go : (o : Option ℕ) → ((j : ℕ) → o ≡ some j → j < length slots) → Still (length slots) (elim o as (λ z. Emit) [ some i ↦ one (LoadLocal i) | none ↦ intern x (λ k. one (Instruction.LoadGlobal k)) ])
    go (some i) l = still-below (LoadLocal i) (l i refl)
    go none l = slotted-symbol x (λ k. still (Instruction.LoadGlobal k) refl)

still-store : (slots : List Name) (x : Name) → Still (length slots) (store slots x)
unfolding store is_slot all_instruction
still-store slots x = go (position (same x) slots) (position-lt (same x) slots)
  where
    go : (o : Option ℕ) → ((j : ℕ) → o ≡ some j → j < length slots) → Still (length slots) (elim o as (λ z. Emit) [ some i ↦ one (StoreLocal i) | none ↦ intern x (λ k. one (Instruction.StoreGlobal k)) ])
    go (some i) l = still-below (StoreLocal i) (l i refl)
    go none l = slotted-symbol x (λ k. still (Instruction.StoreGlobal k) refl)

still-loads : (slots xs : List Name) → Still (length slots) (loads slots xs)
unfolding loads
still-loads slots [] = still-nothing
still-loads slots (x ∷ xs) = slotted-seq (still-load slots x) (still-loads slots xs)

still-unary : {n : ℕ} (op : UnaryOp) → Still n (one (Instruction.Unary op))
unfolding is_slot all_instruction
still-unary not_op = still _ refl
still-unary negate_op = still _ refl
still-unary pos_op = still _ refl

still-binary : {n : ℕ} (op : BinaryOp) → Still n (one (Instruction.Binary op))
unfolding is_slot all_instruction binary_number
still-binary add_op = still _ refl
still-binary subtract_op = still _ refl
still-binary multiply_op = still _ refl
still-binary divide_op = still _ refl
still-binary floor_divide_op = still _ refl
still-binary modulo_op = still _ refl
still-binary equal_op = still _ refl
still-binary not_equal_op = still _ refl
still-binary less_op = still _ refl
still-binary less_equal_op = still _ refl
still-binary greater_op = still _ refl
still-binary greater_equal_op = still _ refl

still-build : {n : ℕ} (k : Display) (m : ℕ) → Still n (one (Instruction.Build k m))
unfolding is_slot all_instruction
still-build list_d m = still _ refl
still-build tuple_d m = still _ refl
still-build dict_d m = still _ refl
still-build set_d m = still _ refl
still-build tree_set_d m = still _ refl

still-bool : {n : ℕ} (b : Bool) → Still n (one (ConstBool b))
unfolding is_slot all_instruction
still-bool false = still _ refl
still-bool true = still _ refl

still-literal : {n : ℕ} (l : Literal) → Still n (literal l)
unfolding literal is_slot all_instruction
still-literal none_l = still _ refl
still-literal (bool_l b) = still-bool b
still-literal (int_l v) = still _ refl
still-literal (float_l v) = still _ refl
still-literal (string_l s) = slotted-string s (λ k. still _ refl)

still-closure : (e : Emit) (slots : List Name) (m : ℕ) (inner cs : List Name) (body : Body) → e ⨟ one Return ≡ emit_body (names_only inner) body → loops_body body ≡ 0 → Still (length inner) e
    → Still (length slots) (closure slots m inner cs body e)
unfolding closure is_slot all_instruction iterator_code
still-closure e slots m inner cs body q z E =
    slotted-by {g = λ t. function (Lower.lambda_name (length t.functions)) m (names_only inner) body (e ⨟ one Return) ⨟ loads slots cs ⨟ one (Instruction.MakeClosure (length t.functions) (length cs))}
    (λ t. slotted-then (still-function _ m (names_only inner) body q (rw z (omega arith)) (rw z (slotted-then E (still Return refl)))) (slotted-then (still-loads slots cs) (still _ refl)))

still-named : {a : Emit} (c : Callee) (slots : List Name) (x : Name) (m : ℕ) → Still (length slots) a → Still (length slots) (call_named c slots x a m)
unfolding call_named is_slot all_instruction
still-named (builtin_callee i) slots x m A = slotted-then A (still _ refl)
still-named (function_callee i) slots x m A = slotted-then A (still _ refl)
still-named value_callee slots x m A = slotted-seq (still-load slots x) (slotted-then A (still _ refl))

still-call : (v : View) (slots : List Name) (m : ℕ) {e o a : Emit} → Still (length slots) e → Still (length slots) o → Still (length slots) a → Still (length slots) (call_by v slots e o a m)
unfolding call_by is_slot all_instruction
still-call (as_var x) slots m E O A = record { code = λ p t. (still-named (resolve x t) slots x m A).code p t; own = λ p t. (still-named (resolve x t) slots x m A).own p t }
still-call (as_attr o x) slots m E O A = let P = slotted-seq O (slotted-then A (slotted-symbol x (λ k. still (Instruction.CallMethod k m) refl))) in record { code = P.code; own = P.own }
still-call (as_index o i) slots m E O A = let P = slotted-seq E (slotted-then A (still (Instruction.CallValue m) refl)) in record { code = P.code; own = P.own }
still-call (as_tuple es) slots m E O A = let P = slotted-seq E (slotted-then A (still (Instruction.CallValue m) refl)) in record { code = P.code; own = P.own }
still-call as_other slots m E O A = let P = slotted-seq E (slotted-then A (still (Instruction.CallValue m) refl)) in record { code = P.code; own = P.own }

mutual
  unfolding emit_expr emit_exprs emit_object emit_body loops_body is_slot all_instruction

  still-expr : (slots : List Name) (e : Expr) → Still (length slots) (emit_expr slots e)
  still-expr slots (lit l) = still-literal l
  still-expr slots (var x) = still-load slots x
  still-expr slots (unary op e) = slotted-then (still-expr slots e) (still-unary op)
  still-expr slots (binary op l r) = slotted-seq (still-expr slots l) (slotted-then (still-expr slots r) (still-binary op))
  still-expr slots (logical op l r) = slotted-seq (still-expr slots l) (slotted-shortcut (decides op) (still-expr slots r))
  still-expr slots (call f es) = still-call (view f) slots (count es) (still-expr slots f) (still-object slots f) (still-exprs slots es)
  still-expr slots (attr o x) = slotted-then (still-expr slots o) (slotted-symbol x (λ k. still (Instruction.LoadAttr k) refl))
  still-expr slots (display k es) = slotted-then (still-exprs slots es) (still-build k _)
  still-expr slots (index o i) = slotted-seq (still-expr slots o) (slotted-then (still-expr slots i) (still Instruction.LoadIndex refl))
  still-expr slots (lambda ps b) =
      let cs = captures slots ps b in
      still-closure (emit_expr (ps ++ cs) b) slots (length ps) (ps ++ cs) cs (expr_body b) refl refl (still-expr (ps ++ cs) b)

  still-exprs : (slots : List Name) (es : Exprs) → Still (length slots) (emit_exprs slots es)
  still-exprs slots []ᵉ = still-nothing
  still-exprs slots (e ∷ᵉ es) = slotted-seq (still-expr slots e) (still-exprs slots es)

  still-object : (slots : List Name) (e : Expr) → Still (length slots) (emit_object slots e)
  still-object slots (lit l) = still-nothing
  still-object slots (var x) = still-nothing
  still-object slots (unary op e) = still-nothing
  still-object slots (binary op l r) = still-nothing
  still-object slots (logical op l r) = still-nothing
  still-object slots (call f es) = still-nothing
  still-object slots (attr o x) = still-expr slots o
  still-object slots (display k es) = still-nothing
  still-object slots (index o i) = still-nothing
  still-object slots (lambda ps b) = still-nothing

-- ---- targets

still-copy : {n : ℕ} (i : ℕ) → Still n (copy i)
unfolding copy is_slot all_instruction
still-copy zero = still-nothing
still-copy (suc i) = still Instruction.Dup refl

still-tuple : {n : ℕ} (b : Bool) {e : Emit} → Still n e → Still n (elim b as (λ z. Emit) [ true ↦ e | false ↦ emits [] ])
still-tuple true E = E
still-tuple false E = still-nothing

still-two : {n : ℕ} (i : ℕ) → Still n (emits (Instruction.ConstI64 i ∷ Instruction.LoadIndex ∷ []))
unfolding emits beyond is_beyond is_slot all_instruction
still-two i = record { code = λ p t. refl; own = λ p t. no_every }

mutual
  unfolding emit_target unpack

  still-target : (slots : List Name) (e : Expr) → Still (length slots) (emit_target slots e)
  still-target slots (lit l) = still-nothing
  still-target slots (var x) = still-store slots x
  still-target slots (unary op e) = still-nothing
  still-target slots (binary op l r) = still-nothing
  still-target slots (logical op l r) = still-nothing
  still-target slots (call f es) = still-nothing
  still-target slots (attr o x) = still-nothing
  still-target slots (display k es) = still-tuple (is_tuple k) (still-unpack slots es 0)
  still-target slots (index o i) = still-nothing
  still-target slots (lambda ps b) = still-nothing

  still-unpack : (slots : List Name) (es : Exprs) (i : ℕ) → Still (length slots) (unpack slots es i)
  still-unpack slots []ᵉ i = still-nothing
  still-unpack slots (e ∷ᵉ es) i = slotted-seq (still-unpack slots es (suc i)) (slotted-seq (still-copy i) (slotted-seq (still-two i) (still-target slots e)))

still-assign : (v : View) (slots : List Name) {e : Emit} → Still (length slots) e → Still (length slots) (assign_by v slots e)
unfolding assign_by is_slot all_instruction
still-assign (as_var x) slots E = slotted-then E (still-store slots x)
still-assign (as_attr o x) slots E = slotted-seq (still-expr slots o) (slotted-then E (slotted-symbol x (λ k. still (Instruction.StoreAttr k) refl)))
still-assign (as_index o i) slots E = slotted-seq (still-expr slots o) (slotted-seq (still-expr slots i) (slotted-then E (still Instruction.StoreIndex refl)))
still-assign (as_tuple es) slots E = slotted-then E (still-unpack slots es 0)
still-assign as_other slots E = still-nothing

-- ---- loops

-- what so many loops do with slots, by where they keep their iterators
abbrev Loops : Keeping → ℕ → List Instr
Loops in_globals m = []
Loops (in_slots k) m = iterator_code k m

-- those slots are from n on
abbrev From : ℕ → Keeping → Type 0
From n in_globals = Unit {0}
From n (in_slots k) = n ≤ k

from_past : (n m : ℕ) (keep : Keeping) → From n keep → From n (past m keep)
unfolding past
from_past n m in_globals h = tt
from_past n m (in_slots k) h = omega arith

loops-sum : (keep : Keeping) (a b : ℕ) → Loops keep (a + b) ≡ Loops keep a ++ Loops (past a keep) b
unfolding past
loops-sum in_globals a b = refl
loops-sum (in_slots k) a b = iterator-sum k a b

loops-none : (keep : Keeping) → Loops keep 0 ≡ []
unfolding iterator_code
loops-none in_globals = refl
loops-none (in_slots k) = refl

-- a part without loops
slotted-none : {n : ℕ} {e : Emit} (keep : Keeping) → Still n e → Slotted n e (Loops keep 0)
slotted-none keep E = slotted-same (sym (loops-none keep)) E

-- a keeper's store and load
abbrev StoreOf : Keeper → List Instr
StoreOf (global k) = []
StoreOf (local j) = StoreLocal j ∷ []

abbrev LoadOf : Keeper → List Instr
LoadOf (global k) = []
LoadOf (local j) = LoadLocal j ∷ []

abbrev KeptFrom : ℕ → Keeper → Type 0
KeptFrom n (global k) = Unit {0}
KeptFrom n (local j) = n ≤ j

slotted-store : {n : ℕ} (g : Keeper) → KeptFrom n g → Slotted n (one (store_iter g)) (StoreOf g)
unfolding store_iter emits beyond is_beyond is_slot all_instruction
slotted-store (global k) h = still (Instruction.StoreGlobal k) refl
slotted-store {n} (local j) h = record { code = λ p t. beyond-at n (StoreLocal j) [] (is_true (leb n j) (le→leb n j h)); own = λ p t. no_every }

slotted-load : {n : ℕ} (g : Keeper) → KeptFrom n g → Slotted n (one (load_iter g)) (LoadOf g)
unfolding load_iter emits beyond is_beyond is_slot all_instruction
slotted-load (global k) h = still (Instruction.LoadGlobal k) refl
slotted-load {n} (local j) h = record { code = λ p t. beyond-at n (LoadLocal j) [] (is_true (leb n j) (le→leb n j h)); own = λ p t. no_every }

still-make_iter : {n : ℕ} → Still n make_iter
unfolding make_iter is_slot all_instruction
still-make_iter = slotted-symbol _ (λ k. still (Instruction.CallMethod k 0) refl)

slotted-ask_iter : {n : ℕ} (g : Keeper) → KeptFrom n g → Slotted n (ask_iter g) (LoadOf g)
unfolding ask_iter is_slot all_instruction
slotted-ask_iter g h = slotted-then (slotted-load g h) (slotted-symbol _ (λ k. still (Instruction.CallMethod k 0) refl))

slotted-take_iter : (slots : List Name) (x : Name) (g : Keeper) → KeptFrom (length slots) g → Slotted (length slots) (take_iter slots x g) (LoadOf g)
unfolding take_iter is_slot all_instruction
slotted-take_iter slots x g h = slotted-then (slotted-load g h) (slotted-then (slotted-symbol _ (λ k. still (Instruction.CallMethod k 0) refl)) (still-store slots x))

slotted-iter : {n : ℕ} {f : ℕ → Emit} {is : List Instr} → ((g : ℕ) → Slotted n (f g) is) → Slotted n (named_iter f) is
unfolding named_iter here
slotted-iter F = record { code = λ p t. (slotted-symbol (iter_name p) F).code p t; own = λ p t. (slotted-symbol (iter_name p) F).own p t }

first-loop : (j m : ℕ) → iterator_code j (1 + m) ≡ StoreLocal j ∷ LoadLocal j ∷ LoadLocal j ∷ iterator_code (j + 1) m
unfolding iterator_code
first-loop j m = iterator-sum j 1 m

-- a loop with its keeper, and the loops inside it
slotted_kept : {n : ℕ} {f : Keeper → Emit} (keep : Keeping) (m : ℕ) → From n keep
    → ((g : Keeper) → KeptFrom n g → Slotted n (f g) (StoreOf g ++ (LoadOf g ++ (LoadOf g ++ Loops (past 1 keep) m)))) → Slotted n (kept_iter keep f) (Loops keep (1 + m))
unfolding kept_iter past
slotted_kept in_globals m h F = slotted-iter (λ k. F (global k) tt)
slotted_kept (in_slots j) m h F = slotted-same (sym (first-loop j m)) (F (local j) h)

still-end_class : {n : ℕ} (x : Name) (c : ℕ) (ms : List Method) → Still n (end_class x c ms)
unfolding end_class class_object beyond is_beyond is_slot all_instruction
still-end_class {n} x c ms = record { code = λ p t. go.code p _; own = λ p t. go.own p _ }
  where
    go : Still n (intern x (class_object c))
    go = slotted-symbol x (λ k. record { code = λ q u. refl; own = λ q u. no_every })

-- ---- statements

record SlottedBranches (n : ℕ) (slots : List Name) (keep : Keeping) (r : Branches) (is : List Instr) : Type 0 where
  code : (p : ℕ) (t : Tables) → beyond n (emit_branches slots keep r p t).out.code ≡ is
  own : (p : ℕ) (t : Tables) → Every Own (emit_branches slots keep r p t).out.sources

record SlottedMethods (m : Methods) : Type 0 where
  own : (ms : List Method) (t : Tables) → Every Own (emit_methods m ms t).sources

when-code : (n j k : ℕ) (is js ks us vs : List Instr) → beyond n is ≡ [] → beyond n js ≡ us → beyond n ks ≡ vs → beyond n (is ++ (JumpIfFalse j ∷ js ++ Jump k ∷ ks)) ≡ us ++ vs
unfolding beyond is_beyond is_slot all_instruction
when-code n j k is js ks us vs e f g = beyond-append n is _ ∙ rw e (beyond-append n js (Jump k ∷ ks) ∙ rw (f, g))

slotted-when : (slots : List Name) (keep : Keeping) (c : Expr) (b : Block) (r : Branches) {us vs : List Instr} → Slotted (length slots) (emit_block slots keep b) us → SlottedBranches (length slots) slots (past (loops_block b) keep) r vs
    → SlottedBranches (length slots) slots keep (when c b r) (us ++ vs)
unfolding emit_branches
slotted-when slots keep c b r {us} {vs} B R = record {
  code = λ p t. when-code (length slots) _ _ (emit_expr slots c p t).code _ _ us vs ((still-expr slots c).code p t) (B.code _ _) (R.code _ _);
  own = λ p t. every_append ((still-expr slots c).own p t) (every_append (B.own _ _) (R.own _ _));
}

-- the body of a def or method
abbrev SlottedBody : List Name → Block → Type 0
SlottedBody ps b =
    let f = with_loops ps b in
    Slotted (length f.names) (emit_block f.names f.keep b) (iterator_code (length f.names) (loops_block b))

still-def : {n : ℕ} (x : Name) (ps : List Name) (b : Block) → SlottedBody ps b
    → Still n (function x (length ps) (with_loops ps b) (block_body b (Return ∷ [])) (emit_block (with_loops ps b).names (with_loops ps b).keep b ⨟ one Return))
unfolding emit_body loops_body is_slot all_instruction
still-def x ps b B = still-function x (length ps) (with_loops ps b) (block_body b (Return ∷ [])) refl refl (slotted-then B (still Return refl))

still-end : {n : ℕ} (x : Name) → (same x init ≡ true → 1 ≤ n) → Still n (emits (method_end x))
unfolding method_end emits beyond is_beyond is_slot all_instruction
still-end {n} x h = go (same x init) h
  where
    go : (c : Bool) → (c ≡ true → 1 ≤ n) → Still n (emits (elim c as (λ z. List Instr) [ true ↦ LoadLocal 0 ∷ Return ∷ [] | false ↦ Return ∷ [] ]))
    go true h = record { code = λ p t. beyond-past n (LoadLocal 0) (Return ∷ []) (is_false (leb n 0) (lt→nleb n 0 (h refl))); own = λ p t. no_every }
    go false h = still Return refl

still-method : (x : Name) (ps : List Name) (b : Block) → ask_method 12 x ps ≡ true → SlottedBody ps b
    → Still 0 (function x (length ps) (with_loops ps b) (block_body b (method_end x)) (emit_block (with_loops ps b).names (with_loops ps b).keep b ⨟ emits (method_end x)))
unfolding emit_body loops_body
still-method x ps b a B = still-function x (length ps) (with_loops ps b) (block_body b (method_end x)) refl refl (slotted-then B (still-end x (init-slot x ps b a)))

slotted-method : (x : Name) (ps : List Name) (b : Block) (m : Methods) → ask_method 12 x ps ≡ true → SlottedBody ps b → SlottedMethods m → SlottedMethods (method x ps b m)
unfolding emit_methods
slotted-method x ps b m a B M = record { own = λ ms t. every_append ((still-method x ps b a B).own 0 t) (M.own _ _) }

still-class : {n : ℕ} (slots : List Name) (keep : Keeping) (x : Name) (m : Methods) (vs : List Attribute) → SlottedMethods m → Still n (emit_stmt slots keep (class x m vs))
unfolding emit_stmt class_out
still-class slots keep x m vs M = record { code = λ p t. (still-end_class x _ _).code p _; own = λ p t. every_append (M.own [] (begin_class x t)) ((still-end_class {n = 0} x _ _).own p _) }

mutual
  unfolding emit_stmt emit_block emit_branches emit_methods loops_stmt loops_block loops_branches ask_stmt ask_block ask_branches ask_methods if_asked is_slot all_instruction

  slotted-stmt : (l : Bool) (slots : List Name) (keep : Keeping) (a : Stmt) → From (length slots) keep → ask_stmt 12 l a ≡ true → Slotted (length slots) (emit_stmt slots keep a) (Loops keep (loops_stmt a))
  slotted-stmt l slots keep break f q = slotted-none keep (still _ refl)
  slotted-stmt l slots keep continue f q = slotted-none keep (still _ refl)
  slotted-stmt l slots keep pass f q = slotted-none keep still-nothing
  slotted-stmt l slots keep (expr e) f q = slotted-none keep (slotted-then (still-expr slots e) (still _ refl))
  slotted-stmt l slots keep (return e) f q = slotted-none keep (slotted-then (still-expr slots e) (still _ refl))
  slotted-stmt l slots keep (assign t v) f q = slotted-none keep (still-assign (view t) slots (still-expr slots v))
  slotted-stmt l slots keep (if bs) f q = let R = slotted-branches l slots keep bs f q in record { code = R.code; own = R.own }
  slotted-stmt l slots keep (while c b) f q = slotted-loop (still-expr slots c) (slotted-block true slots keep b f (right (ask_expr 12 c) (ask_block 12 true b) q))
  slotted-stmt l slots keep (for x e b) f q =
      slotted-seq (still-expr slots e)
      (slotted-seq still-make_iter
      (slotted_kept keep (loops_block b) f (λ g h.
      slotted-seq (slotted-store g h)
      (slotted-loop (slotted-ask_iter g h)
      (slotted-seq (slotted-take_iter slots x g h) (slotted-block true slots (past 1 keep) b (from_past (length slots) 1 keep f) (right (ask_name 12 x && ask_expr 12 e) (ask_block 12 true b) q)))))))
  slotted-stmt l slots keep (def x ps b) f q =
      let g = with_loops ps b in
      slotted-none keep (still-def x ps b (slotted-block false g.names g.keep b (omega arith) (right (ask_name 12 x && ask_params 12 ps) (ask_block 12 false b) q)))
  slotted-stmt l slots keep (class x ms vs) f q =
      slotted-none keep (still-class slots keep x ms vs (slotted-methods ms (right (ask_name 12 x) (ask_methods 12 ms) (left (ask_name 12 x && ask_methods 12 ms) (all (ask_attribute 12) vs) q))))

  slotted-block : (l : Bool) (slots : List Name) (keep : Keeping) (b : Block) → From (length slots) keep → ask_block 12 l b ≡ true → Slotted (length slots) (emit_block slots keep b) (Loops keep (loops_block b))
  slotted-block l slots keep []ᵇ f q = slotted-none keep still-nothing
  slotted-block l slots keep (a ∷ᵇ b) f q =
      slotted-same (sym (loops-sum keep (loops_stmt a) (loops_block b)))
      (slotted-seq (slotted-stmt l slots keep a f (left (ask_stmt 12 l a) (ask_block 12 l b) q))
      (slotted-block l slots (past (loops_stmt a) keep) b (from_past (length slots) (loops_stmt a) keep f) (right (ask_stmt 12 l a) (ask_block 12 l b) q)))

  slotted-branches : (l : Bool) (slots : List Name) (keep : Keeping) (r : Branches) → From (length slots) keep → ask_branches 12 l r ≡ true → SlottedBranches (length slots) slots keep r (Loops keep (loops_branches r))
  slotted-branches l slots keep done f q = let N = slotted-none keep still-nothing in record { code = N.code; own = N.own }
  slotted-branches l slots keep (else b) f q = let B = slotted-block l slots keep b f q in record { code = B.code; own = B.own }
  slotted-branches l slots keep (when c b r) f q =
      let W = slotted-when slots keep c b r (slotted-block l slots keep b f (right (ask_expr 12 c) (ask_block 12 l b) (left (ask_expr 12 c && ask_block 12 l b) (ask_branches 12 l r) q)))
      (slotted-branches l slots (past (loops_block b) keep) r (from_past (length slots) (loops_block b) keep f) (right (ask_expr 12 c && ask_block 12 l b) (ask_branches 12 l r) q)) in
      record { code = λ p t. W.code p t ∙ sym (loops-sum keep (loops_block b) (loops_branches r)); own = W.own }

  slotted-methods : (m : Methods) → ask_methods 12 m ≡ true → SlottedMethods m
  slotted-methods []ᵐ q = record { own = λ ms t. no_every }
  slotted-methods (method x ps b m) q =
      let g = with_loops ps b in
      let u = left (ask_method 12 x ps && ask_block 12 false b) (ask_methods 12 m) q in
      slotted-method x ps b m (left (ask_method 12 x ps) (ask_block 12 false b) u) (slotted-block false g.names g.keep b (omega arith) (right (ask_method 12 x ps) (ask_block 12 false b) u))
      (slotted-methods m (right (ask_method 12 x ps && ask_block 12 false b) (ask_methods 12 m) q))

-- ---- the whole tree

own_at : {gs : List Source} → Every Own gs → (k : ℕ) (g : Source) → get_elem? gs k ≡ some g → Own g
own_at no_every k g e = let z : ◌≡◌ {A = ℕ} 0 1 = cc in absurd (omega arith)
own_at (every {a = h} o os) zero g e = let q : h ≡ g = cc in subst Own q o
own_at (every o os) (suc k) g e = own_at os k g e

-- main's source, and those of the rest
unfoldable started : Tables
started = begin 0 0 (names_only []) (add_symbol Lower.main Lower.no_tables)

unfoldable main_source : Block → Source
main_source b = record { frame = names_only []; body = block_body b (Return ∷ []); start = started }

compile-sources : (b : Block) → (compile b).sources ≡ main_source b ∷ ((emit_block [] in_globals b ⨟ one Return) 0 started).sources
unfolding compile Lower.no_tables function intern enclose position main_source started
compile-sources b = refl

slotted-main : (b : Block) → ask_block 12 false b ≡ true → Still 0 (emit_block [] in_globals b ⨟ one Return)
unfolding is_slot all_instruction
slotted-main b q = slotted-then (slotted-block false [] in_globals b tt q) (still Return refl)

main-own : (b : Block) → ask_block 12 false b ≡ true → (f : Function) → ComesFrom f (main_source b) → OwnSlots f 0 0
unfolding main_source emit_body iterator_code
main-own b q f C = record { locals = C.locals; code = ap (beyond 0) C.code ∙ (slotted-main b q).code 0 started }

-- a function of its source, main's or another's
own-slots : (b : Block) → ask_block 12 false b ≡ true → (k : ℕ) (f : Function) (s : Source) → get_elem? (main_source b ∷ ((emit_block [] in_globals b ⨟ one Return) 0 started).sources) k ≡ some s
    → ComesFrom f s → OwnSlots f (length s.frame.names) (loops_of k s.body)
unfolding loops_of main_source
own-slots b q zero f s e C = let z : main_source b ≡ s = cc in subst (λ (g : Source). OwnSlots f (length g.frame.names) 0) z (main-of z)
  where
    main-of : main_source b ≡ s → OwnSlots f (length (main_source b).frame.names) 0
    main-of z = main-own b q f (subst (ComesFrom f) (sym z) C)
own-slots b q (suc k) f s e C =
    let O = own_at ((slotted-main b q).own 0 started) k s e in
    record { locals = C.locals ∙ O.locals; code = ap (beyond (length s.frame.names)) C.code ∙ O.code }

pub loop_slots : LoopSlots
loop_slots l u b t e k f h =
    let S = sources l u b t e k f h in
    (S.0, S.1, S.2, own-slots b (accepted-gives l u b t e).inits k f S.0 (rw (← compile-sources b) S.1) S.3)
