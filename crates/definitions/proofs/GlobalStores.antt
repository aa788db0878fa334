-- What lowered defs and methods store in globals: their own classes, nothing else.
use mathlib.Core.Path.{◌≡◌, refl, sym, ap, ◌∙◌, subst}
use mathlib.Core.Bool.{Bool, true, false}
use mathlib.Core.Option.{Option, none, some}
use mathlib.Core.List.{List, [], ◌∷◌, ◌++◌, append-nil, append_assoc}
use mathlib.Core.Logic.{◌⊎◌, inl, inr}
use Prim.Native.Nat.{ℕ, zero, suc, ◌+◌, ◌-◌}
use native.Mathlib.Omega.{arith}
use lib.ListN.{length, get_elem?}
use lib.Dec.{eqb}
use Rattle.definitions.specs.Bytes.{Name, Text, position, same, member}
use Rattle.definitions.specs.Tree.{Literal, none_l, bool_l, int_l, float_l, string_l, Display, list_d, tuple_d, dict_d, set_d, tree_set_d, binary_number}
use Rattle.definitions.specs.Tree.{UnaryOp, not_op, negate_op, pos_op, BinaryOp, add_op, subtract_op, multiply_op, divide_op, floor_divide_op, modulo_op, equal_op, not_equal_op, less_op, less_equal_op, greater_op, greater_equal_op}
use Rattle.definitions.specs.Tree.{Expr, lit, var, unary, binary, logical, call, attr, display, index, lambda, Exprs, []ᵉ, ◌∷ᵉ◌, count}
use Rattle.definitions.specs.Tree.{View, as_var, as_attr, as_index, as_tuple, as_other, view_display, view, Attribute}
use Rattle.definitions.specs.Tree.{Stmt, break, continue, pass, expr, return, assign, if, while, for, def, class}
use Rattle.definitions.specs.Tree.{Block, []ᵇ, ◌∷ᵇ◌, Branches, done, else, when, Methods, []ᵐ, method}
use Rattle.definitions.specs.Wellformed.{init, is_tuple}
use Rattle.definitions.specs.Slots.{locals_block, captures, Keeping, in_globals, in_slots, past, Frame, names_only, with_loops, loops_stmt, loops_block}
use Rattle.definitions.specs.Instruction
use Rattle.definitions.specs.Instruction.{Instr, Return, LoadLocal, StoreGlobal, unary_code, operator_code, binary_code, build_code}
use Rattle.definitions.specs.Tables.{Method, Tables, block_body, expr_body, Source, Out, Emit, add_symbol, add_string, emits, one, ◌⨟◌, here, intern, get_or_add_string, begin, function, enclose}
use Rattle.definitions.specs.Lower
use Rattle.definitions.specs.Lower.{Callee, builtin_callee, function_callee, value_callee, resolve, load, store, literal, decides, jump_on, shortcut, call_named, call_by, loads, closure, emit_expr, emit_exprs, emit_object}
use Rattle.definitions.specs.Lower.{copy, emit_target, unpack, assign_by, patched, patch, loop, Keeper, global, local, iter_name, make_iter, named_iter, kept_iter, store_iter, load_iter, ask_iter, take_iter}
use Rattle.definitions.specs.Lower.{method_end, insert_method, begin_class, class_object, end_class, class_out}
use Rattle.definitions.specs.Lower.{emit_stmt, emit_block, emit_branches, emit_methods, emit_body, compile}
use Rattle.definitions.specs.Statements.{assigned, assigned_all, bound_stmt, bound_block, bound_branches, OwnStmt, itself, of_if, of_while, of_for, OwnBlock, at_first, at_later, OwnBranches, of_else, of_then, of_rest}
use Rattle.definitions.specs.Statements.{Global, of_class, GlobalStores}
use Rattle.definitions.proofs.Every.{Every, no_every, every, every_append, every_map}
use Rattle.definitions.proofs.Captured.{or-true, same_refl, member-cons, member-append}
use Rattle.definitions.proofs.Named.{named}
use Rattle.definitions.proofs.Accepted.{accepted-gives}
use Rattle.definitions.proofs.Demand3.{sources}
use Rattle.definitions.proofs.NamePlaces.{stays_at, last_at, position_at}
use Rattle.definitions.proofs.LoopGlobals.{no-store-jump}

-- ---- code in which each StoreGlobal has a symbol that is ok

data Okay (ok : Name → Type 0) (xs : List Name) : List Instr → Type 0 where
  no_code : Okay ok xs []
  other : {i : Instr} {is : List Instr} → eqb i.op 12 ≡ false → Okay ok xs is → Okay ok xs (i ∷ is)
  stores : {k : ℕ} {is : List Instr} (x : Name) → get_elem? xs k ≡ some x → ok x → Okay ok xs is → Okay ok xs (StoreGlobal k ∷ is)

-- a loop's mending makes no store
patched_other : (h n i : ℕ) (x : Instr) → eqb x.op 12 ≡ false → eqb (patched h n i x).op 12 ≡ false
unfolding patched
patched_other h n i x e = go (eqb x.op 46) (eqb x.op 47)
  where
    go : (a b : Bool) → eqb (elim a as (λ z. Instr) [ true ↦ Instruction.Jump (n - i) | false ↦ elim b as (λ z. Instr) [ true ↦ Instruction.Jump (Instruction.minus (h + suc i)) | false ↦ x ] ]).op 12 ≡ false
    go true b = refl
    go false true = refl
    go false false = e

bool-code : (b : Bool) → eqb (Instruction.ConstBool b).op 12 ≡ false
bool-code true = refl
bool-code false = refl

module _ {ok : Name → Type 0} {xs : List Name} where
  okay-append : {is js : List Instr} → Okay ok xs is → Okay ok xs js → Okay ok xs (is ++ js)
  okay-append no_code b = b
  okay-append (other e a) b = other e (okay-append a b)
  okay-append (stores x e o a) b = stores x e o (okay-append a b)

  okay-more : {is : List Instr} (new : List Name) → Okay ok xs is → Okay ok (xs ++ new) is
  okay-more new no_code = no_code
  okay-more new (other e a) = other e (okay-more new a)
  okay-more new (stores {k} x e o a) = stores x (stays_at xs new k x e) o (okay-more new a)

  okay-patch : {is : List Instr} (h n i : ℕ) → Okay ok xs is → Okay ok xs (patch h n i is)
  unfolding patch patched
  okay-patch h n i no_code = no_code
  okay-patch h n i (other {i = x} e a) = other (patched_other h n i x e) (okay-patch h n (suc i) a)
  okay-patch h n i (stores x e o a) = stores x e o (okay-patch h n (suc i) a)

  -- at a place
  okay-at : {is : List Instr} → Okay ok xs is → (i j : ℕ) → get_elem? is i ≡ some (StoreGlobal j) → (x : Name) → get_elem? xs j ≡ some x → ok x
  okay-at no_code i j e x f = let z : ◌≡◌ {A = ℕ} 0 1 = cc in absurd (omega arith)
  okay-at (other {i = y} h a) zero j e x f = let q : y ≡ StoreGlobal j = cc in let r = ap (λ (w : Instr). eqb w.op 12) (sym q) ∙ h in let z : ◌≡◌ {A = ℕ} 0 1 = cc in absurd (omega arith)
  okay-at (other h a) (suc i) j e x f = okay-at a i j e x f
  okay-at (stores {k} y h o a) zero j e x f = let q : StoreGlobal k ≡ StoreGlobal j = cc in let r : k ≡ j = ap (λ (w : Instr). w.a) q in let s = sym h ∙ ap (get_elem? xs) r ∙ f in let z : y ≡ x = cc in subst ok z o
  okay-at (stores y h o a) (suc i) j e x f = okay-at a i j e x f

-- ---- sources whose functions store so

okay-of : {ys : List Name} {is : List Instr} (b c : Block) → b ≡ c → Okay (Global b) ys is → Okay (Global c) ys is
okay-of {ys} {is} b c z o = subst (λ (w : Block). Okay (Global w) ys is) z o

record SoundSource (xs : List Name) (s : Source) : Type 0 where
  at : (b : Block) (end : List Instr) → s.body ≡ block_body b end → Okay (Global b) xs (emit_body s.frame s.body 0 s.start).code

sound_more : {xs : List Name} (new : List Name) (s : Source) → SoundSource xs s → SoundSource (xs ++ new) s
sound_more new s S = record { at = λ b end q. okay-more new (S.at b end q) }

-- with more symbols
code-later : {ok : Name → Type 0} {xs ys : List Name} {is : List Instr} (new : List Name) → ys ≡ xs ++ new → Okay ok xs is → Okay ok ys is
code-later {ok} {is = is} new e a = subst (λ (z : List Name). Okay ok z is) (sym e) (okay-more new a)

sound-later : {xs ys : List Name} {gs : List Source} (new : List Name) → ys ≡ xs ++ new → Every (SoundSource xs) gs → Every (SoundSource ys) gs
sound-later {gs = gs} new e a = subst (λ (z : List Name). Every (SoundSource z) gs) (sym e) (every_map (sound_more new) a)

symbols-later : (xs new more : List Name) {ys zs : List Name} → ys ≡ xs ++ new → zs ≡ ys ++ more → zs ≡ xs ++ (new ++ more)
symbols-later xs new more e f = f ∙ ap (λ (z : List Name). z ++ more) e ∙ append_assoc xs new more

-- symbols that grow, code and sources
record Stored (ok : Name → Type 0) (xs : List Name) (o : Out) : Type 0 where
  new : List Name
  symbols : o.tables.symbols ≡ xs ++ new
  code : Okay ok o.tables.symbols o.code
  sound : Every (SoundSource o.tables.symbols) o.sources

record Stores (ok : Name → Type 0) (e : Emit) : Type 0 where
  at : (p : ℕ) (t : Tables) → Stored ok t.symbols (e p t)

-- ---- parts put together

module _ {ok : Name → Type 0} where
  st-emits : (is : List Instr) → ((xs : List Name) → Okay ok xs is) → Stores ok (emits is)
  unfolding emits
  st-emits is a = record { at = λ p t. record { new = []; symbols = sym (append-nil t.symbols); code = a t.symbols; sound = no_every } }

  st-none : Stores ok (emits [])
  st-none = st-emits [] (λ xs. no_code)

  st-one : (i : Instr) → eqb i.op 12 ≡ false → Stores ok (one i)
  st-one i e = st-emits (i ∷ []) (λ xs. other e no_code)

  stored-seq : (xs : List Name) (e f : Emit) (p : ℕ) (t : Tables) → Stored ok xs (e p t) → Stored ok (e p t).tables.symbols (f (p + length (e p t).code) (e p t).tables) → Stored ok xs ((e ⨟ f) p t)
  unfolding ◌⨟◌
  stored-seq xs e f p t A B =
      let o = e p t in
      let r = f (p + length o.code) o.tables in
      record {
        new = A.new ++ B.new;
        symbols = symbols-later xs A.new B.new A.symbols B.symbols;
        code = okay-append (code-later B.new B.symbols A.code) B.code;
        sound = every_append (sound-later B.new B.symbols A.sound) B.sound;
      }

  st-seq : {e f : Emit} → Stores ok e → Stores ok f → Stores ok (e ⨟ f)
  st-seq {e} {f} A B = record { at = λ p t. stored-seq t.symbols e f p t (A.at p t) (B.at (p + length (e p t).code) (e p t).tables) }

  st-by : {g : Tables → Emit} → ((t : Tables) → Stores ok (g t)) → Stores ok (λ p t. g t p t)
  st-by G = record { at = λ p t. (G t).at p t }

  -- a symbol is made, and is the name's from then on
  stored-symbol : (x : Name) (f : ℕ → Emit) (p : ℕ) (t : Tables) → ((k : ℕ) (u : Tables) → get_elem? u.symbols k ≡ some x → Stored ok u.symbols (f k p u)) → Stored ok t.symbols (intern x f p t)
  unfolding intern
  stored-symbol x f p t F = go (position (same x) t.symbols) refl
    where
      go : (o : Option ℕ) → position (same x) t.symbols ≡ o
          → Stored ok t.symbols (elim o as (λ z. Out) [ some k ↦ f k p t | none ↦ f (length t.symbols) p (add_symbol x t) ])
      go (some k) e = F k t (position_at x t.symbols k e)
      go none e =
          let S = F (length t.symbols) (add_symbol x t) (last_at t.symbols x) in
          record { new = x ∷ S.new; symbols = S.symbols ∙ append_assoc t.symbols (x ∷ []) S.new; code = S.code; sound = S.sound }

  st-symbol : {f : ℕ → Emit} (x : Name) → ((k : ℕ) → Stores ok (f k)) → Stores ok (intern x f)
  st-symbol {f} x F = record { at = λ p t. stored-symbol x f p t (λ k u e. (F k).at p u) }

  st-string : {f : ℕ → Emit} (x : Text) → ((k : ℕ) → Stores ok (f k)) → Stores ok (get_or_add_string x f)
  unfolding get_or_add_string
  st-string {f} x F = record { at = λ p t. go p t (position (same x) t.strings) }
    where
      go : (p : ℕ) (t : Tables) (o : Option ℕ) → Stored ok t.symbols (elim o as (λ z. Out) [ some k ↦ f k p t | none ↦ f (length t.strings) p (add_string x t) ])
      go p t (some k) = (F k).at p t
      go p t none = (F (length t.strings)).at p (add_string x t)

  st-shortcut : {e : Emit} (b : Bool) → Stores ok e → Stores ok (shortcut b e)
  unfolding shortcut jump_on
  st-shortcut {e} b E = record { at = λ p t. let S = E.at (suc p) t in record { new = S.new; symbols = S.symbols; code = other (no-store-jump b _) (okay-append S.code (other refl (other (bool-code b) no_code))); sound = S.sound } }

  st-loop : {e f : Emit} → Stores ok e → Stores ok f → Stores ok (loop e f)
  unfolding loop
  st-loop {e} {f} A B = record {
    at = λ p t.
        let a = e p t in
        let S = A.at p t in
        let R = B.at (suc (p + length a.code)) a.tables in
        record {
          new = S.new ++ R.new;
          symbols = symbols-later t.symbols S.new R.new S.symbols R.symbols;
          code = okay-append (code-later R.new R.symbols S.code) (other refl (okay-append (okay-patch _ _ 0 R.code) (other refl no_code)));
          sound = every_append (sound-later R.new R.symbols S.sound) R.sound;
        };
  }

  -- a function of a block: its own code goes into its source
  st-block-function : (x : Name) (arity : ℕ) (f : Frame) (b : Block) (end : List Instr) → Stores (Global b) (emit_block f.names f.keep b ⨟ emits end)
      → Stores ok (function x arity f (block_body b end) (emit_block f.names f.keep b ⨟ emits end))
  unfolding function enclose begin emit_body
  st-block-function x arity f b end E = st-symbol x (λ k. record {
    at = λ p t.
        let S = E.at 0 (begin k arity f t) in
        record {
          new = S.new;
          symbols = S.symbols;
          code = no_code;
          sound = every (record { at = λ c fin q. let z : b ≡ c = cc in okay-of b c z S.code }) S.sound;
        };
  })

  -- of a lambda
  st-function : {o : Name → Type 0} {e : Emit} (x : Name) (arity : ℕ) (f : Frame) (b : Expr) → Stores o e → Stores ok (function x arity f (expr_body b) e)
  unfolding function enclose begin
  st-function x arity f b E = st-symbol x (λ k. record {
    at = λ p t.
        let S = E.at 0 (begin k arity f t) in
        record {
          new = S.new;
          symbols = S.symbols;
          code = no_code;
          sound = every (record { at = λ c fin q. let z : ◌≡◌ {A = ℕ} 0 1 = cc in absurd (omega arith) }) S.sound;
        };
  })

  -- ---- expressions

  st-load : (slots : List Name) (x : Name) → Stores ok (load slots x)
  unfolding load
  st-load slots x = go (position (same x) slots)
    where
      go : (o : Option ℕ) → Stores ok (elim o as (λ z. Emit) [ some i ↦ one (LoadLocal i) | none ↦ intern x (λ k. one (Instruction.LoadGlobal k)) ])
      go (some i) = st-one _ refl
      go none = st-symbol x (λ k. st-one _ refl)

  st-loads : (slots xs : List Name) → Stores ok (loads slots xs)
  unfolding loads
  st-loads slots [] = st-none
  st-loads slots (x ∷ xs) = st-seq (st-load slots x) (st-loads slots xs)

  st-literal : (l : Literal) → Stores ok (literal l)
  unfolding literal
  st-literal none_l = st-one _ refl
  st-literal (bool_l b) = st-one _ (bool-code b)
  st-literal (int_l n) = st-one _ refl
  st-literal (float_l n) = st-one _ refl
  st-literal (string_l s) = st-string s (λ k. st-one _ refl)

  st-closure : {e : Emit} (slots : List Name) (n : ℕ) (inner cs : List Name) (b : Expr) → Stores ok e → Stores ok (closure slots n inner cs (expr_body b) e)
  unfolding closure
  st-closure {e} slots n inner cs b E =
      st-by {g = λ t. function (Lower.lambda_name (length t.functions)) n (names_only inner) (expr_body b) (e ⨟ one Return) ⨟ loads slots cs ⨟ one (Instruction.MakeClosure (length t.functions) (length cs))}
      (λ t. st-seq (st-function _ n (names_only inner) b (st-seq E (st-one Return refl))) (st-seq (st-loads slots cs) (st-one _ refl)))

  st-named : {e : Emit} (c : Callee) (slots : List Name) (x : Name) (n : ℕ) → Stores ok e → Stores ok (call_named c slots x e n)
  unfolding call_named
  st-named (builtin_callee i) slots x n A = st-seq A (st-one _ refl)
  st-named (function_callee i) slots x n A = st-seq A (st-one _ refl)
  st-named value_callee slots x n A = st-seq (st-load slots x) (st-seq A (st-one _ refl))

  st-call : (v : View) (slots : List Name) (n : ℕ) {e o a : Emit} → Stores ok e → Stores ok o → Stores ok a → Stores ok (call_by v slots e o a n)
  unfolding call_by
  st-call (as_var x) slots n E O A = record { at = λ p t. (st-named (resolve x t) slots x n A).at p t }
  st-call (as_attr o x) slots n E O A = let P = st-seq O (st-seq A (st-symbol x (λ k. st-one _ refl))) in record { at = P.at }
  st-call (as_index o i) slots n E O A = let P = st-seq E (st-seq A (st-one _ refl)) in record { at = P.at }
  st-call (as_tuple es) slots n E O A = let P = st-seq E (st-seq A (st-one _ refl)) in record { at = P.at }
  st-call as_other slots n E O A = let P = st-seq E (st-seq A (st-one _ refl)) in record { at = P.at }

unary-code : (op : UnaryOp) → eqb (unary_code op) 12 ≡ false
unfolding unary_code
unary-code not_op = refl
unary-code negate_op = refl
unary-code pos_op = refl

binary-code : (op : BinaryOp) → eqb (binary_code op) 12 ≡ false
unfolding binary_code operator_code binary_number
binary-code add_op = refl
binary-code subtract_op = refl
binary-code multiply_op = refl
binary-code divide_op = refl
binary-code floor_divide_op = refl
binary-code modulo_op = refl
binary-code equal_op = refl
binary-code not_equal_op = refl
binary-code less_op = refl
binary-code less_equal_op = refl
binary-code greater_op = refl
binary-code greater_equal_op = refl

build-code : (k : Display) → eqb (build_code k) 12 ≡ false
unfolding build_code
build-code list_d = refl
build-code tuple_d = refl
build-code dict_d = refl
build-code set_d = refl
build-code tree_set_d = refl

mutual
  unfolding emit_expr emit_exprs emit_object

  st-expr : (ok : Name → Type 0) (slots : List Name) (e : Expr) → Stores ok (emit_expr slots e)
  st-expr ok slots (lit l) = st-literal l
  st-expr ok slots (var x) = st-load slots x
  st-expr ok slots (unary op e) = st-seq (st-expr ok slots e) (st-one _ (unary-code op))
  st-expr ok slots (binary op l r) = st-seq (st-expr ok slots l) (st-seq (st-expr ok slots r) (st-one _ (binary-code op)))
  st-expr ok slots (logical op l r) = st-seq (st-expr ok slots l) (st-shortcut (decides op) (st-expr ok slots r))
  st-expr ok slots (call f es) = st-call (view f) slots (count es) (st-expr ok slots f) (st-object ok slots f) (st-exprs ok slots es)
  st-expr ok slots (attr o x) = st-seq (st-expr ok slots o) (st-symbol x (λ k. st-one _ refl))
  st-expr ok slots (display k es) = st-seq (st-exprs ok slots es) (st-one _ (build-code k))
  st-expr ok slots (index o i) = st-seq (st-expr ok slots o) (st-seq (st-expr ok slots i) (st-one _ refl))
  st-expr ok slots (lambda ps b) = let cs = captures slots ps b in st-closure slots (length ps) (ps ++ cs) cs b (st-expr ok (ps ++ cs) b)

  st-exprs : (ok : Name → Type 0) (slots : List Name) (es : Exprs) → Stores ok (emit_exprs slots es)
  st-exprs ok slots []ᵉ = st-none
  st-exprs ok slots (e ∷ᵉ es) = st-seq (st-expr ok slots e) (st-exprs ok slots es)

  st-object : (ok : Name → Type 0) (slots : List Name) (e : Expr) → Stores ok (emit_object slots e)
  st-object ok slots (lit l) = st-none
  st-object ok slots (var x) = st-none
  st-object ok slots (unary op e) = st-none
  st-object ok slots (binary op l r) = st-none
  st-object ok slots (logical op l r) = st-none
  st-object ok slots (call f es) = st-none
  st-object ok slots (attr o x) = st-expr ok slots o
  st-object ok slots (display k es) = st-none
  st-object ok slots (index o i) = st-none
  st-object ok slots (lambda ps b) = st-none

-- ---- names that may be stored: they have a slot, or are ok

record Allowed (ok : Name → Type 0) (slots names : List Name) : Type 0 where
  at : (x : Name) → member x names ≡ true → (member x slots ≡ true) ⊎ ok x

stored-global : {ok : Name → Type 0} (x : Name) (k p : ℕ) (t : Tables) → get_elem? t.symbols k ≡ some x → ok x → Stored ok t.symbols (one (StoreGlobal k) p t)
unfolding emits
stored-global x k p t e o = record { new = []; symbols = sym (append-nil t.symbols); code = stores x e o no_code; sound = no_every }

module _ {ok : Name → Type 0} {slots : List Name} where
  allowed-left : (xs ys : List Name) → Allowed ok slots (xs ++ ys) → Allowed ok slots xs
  allowed-left xs ys A = record { at = λ x h. A.at x (member-append x xs ys ∙ rw h) }

  allowed-right : (xs ys : List Name) → Allowed ok slots (xs ++ ys) → Allowed ok slots ys
  allowed-right xs ys A = record { at = λ x h. A.at x (member-append x xs ys ∙ rw h (or-true (member x xs))) }

  allowed-first : (x : Name) (ys : List Name) → Allowed ok slots (x ∷ ys) → (member x slots ≡ true) ⊎ ok x
  allowed-first x ys A = A.at x (member-cons x x ys ∙ rw (same_refl x))

-- ---- targets

module _ {ok : Name → Type 0} where
  st-store : (slots : List Name) (x : Name) → (member x slots ≡ true) ⊎ ok x → Stores ok (store slots x)
  unfolding store member
  st-store slots x h = go (position (same x) slots) h
    where
      go : (o : Option ℕ) → (◌≡◌ {A = Bool} (elim o as (λ z. Bool) [ none ↦ false | some i ↦ true ]) true) ⊎ ok x
          → Stores ok (elim o as (λ z. Emit) [ some i ↦ one (Instruction.StoreLocal i) | none ↦ intern x (λ k. one (StoreGlobal k)) ])
      go (some i) f = st-one _ refl
      go none (inl e) = let z : ◌≡◌ {A = ℕ} 0 1 = cc in absurd (omega arith)
      go none (inr g) = record { at = λ p t. stored-symbol x (λ k. one (StoreGlobal k)) p t (λ k u e. stored-global x k p u e g) }

  st-copy : (i : ℕ) → Stores ok (copy i)
  unfolding copy
  st-copy zero = st-none
  st-copy (suc i) = st-one _ refl

  st-tuple : {slots : List Name} (b : Bool) {e : Emit} (names : List Name) → Allowed ok slots (elim b as (λ z. List Name) [ true ↦ names | false ↦ [] ])
      → (Allowed ok slots names → Stores ok e) → Stores ok (elim b as (λ z. Emit) [ true ↦ e | false ↦ emits [] ])
  st-tuple true names A E = E A
  st-tuple false names A E = st-none

mutual
  unfolding emit_target unpack assigned assigned_all

  st-target : (ok : Name → Type 0) (slots : List Name) (e : Expr) → Allowed ok slots (assigned e) → Stores ok (emit_target slots e)
  st-target ok slots (lit l) A = st-none
  st-target ok slots (var x) A = st-store slots x (allowed-first x [] A)
  st-target ok slots (unary op e) A = st-none
  st-target ok slots (binary op l r) A = st-none
  st-target ok slots (logical op l r) A = st-none
  st-target ok slots (call f es) A = st-none
  st-target ok slots (attr o x) A = st-none
  st-target ok slots (display k es) A = st-tuple (is_tuple k) (assigned_all es) A (λ B. st-unpack ok slots es 0 B)
  st-target ok slots (index o i) A = st-none
  st-target ok slots (lambda ps b) A = st-none

  st-unpack : (ok : Name → Type 0) (slots : List Name) (es : Exprs) (i : ℕ) → Allowed ok slots (assigned_all es) → Stores ok (unpack slots es i)
  st-unpack ok slots []ᵉ i A = st-none
  st-unpack ok slots (e ∷ᵉ es) i A =
      st-seq (st-unpack ok slots es (suc i) (allowed-right (assigned e) (assigned_all es) A))
      (st-seq (st-copy i) (st-seq (st-emits _ (λ xs. other refl (other refl no_code))) (st-target ok slots e (allowed-left (assigned e) (assigned_all es) A))))

-- the names of a target, by its form
abbrev assigned_form : View → List Name
assigned_form w = elim w [ as_var x ↦ x ∷ [] | as_attr o x ↦ [] | as_index o i ↦ [] | as_tuple es ↦ assigned_all es | as_other ↦ [] ]

assigned-form : (e : Expr) → assigned e ≡ assigned_form (view e)
unfolding assigned view view_display is_tuple
assigned-form (lit l) = refl
assigned-form (var x) = refl
assigned-form (unary op e) = refl
assigned-form (binary op l r) = refl
assigned-form (logical op l r) = refl
assigned-form (call f es) = refl
assigned-form (attr o x) = refl
assigned-form (display k es) = go k
  where
    go : (k : Display) → ◌≡◌ {A = List Name} (elim (is_tuple k) as (λ z. List Name) [ true ↦ assigned_all es | false ↦ [] ]) (assigned_form (view_display k es))
    go list_d = refl
    go tuple_d = refl
    go dict_d = refl
    go set_d = refl
    go tree_set_d = refl
assigned-form (index o i) = refl
assigned-form (lambda ps b) = refl

st-assign : (ok : Name → Type 0) (v : View) (slots : List Name) {e : Emit} → Allowed ok slots (assigned_form v) → Stores ok e → Stores ok (assign_by v slots e)
unfolding assign_by
st-assign ok (as_var x) slots A E = st-seq E (st-store slots x (allowed-first x [] A))
st-assign ok (as_attr o x) slots A E = st-seq (st-expr ok slots o) (st-seq E (st-symbol x (λ k. st-one _ refl)))
st-assign ok (as_index o i) slots A E = st-seq (st-expr ok slots o) (st-seq (st-expr ok slots i) (st-seq E (st-one _ refl)))
st-assign ok (as_tuple es) slots A E = st-seq E (st-unpack ok slots es 0 A)
st-assign ok as_other slots A E = st-none

-- ---- statements

-- what loops store their iterators in: globals, of which every name is ok, or slots
data Iterates (ok : Name → Type 0) : Keeping → Type 0 where
  by_name : ((n : ℕ) → ok (iter_name n)) → Iterates ok in_globals
  by_slot : {n : ℕ} → Iterates ok (in_slots n)

iterates-past : {ok : Name → Type 0} {keep : Keeping} (n : ℕ) → Iterates ok keep → Iterates ok (past n keep)
unfolding past
iterates-past n (by_name I) = by_name I
iterates-past n by_slot = by_slot

module _ {ok : Name → Type 0} where
  st-make_iter : Stores ok make_iter
  unfolding make_iter
  st-make_iter = st-symbol _ (λ k. st-one _ refl)

  st-load_iter : (g : Keeper) → Stores ok (one (load_iter g))
  unfolding load_iter
  st-load_iter (global k) = st-one _ refl
  st-load_iter (local n) = st-one _ refl

  st-ask_iter : (g : Keeper) → Stores ok (ask_iter g)
  unfolding ask_iter
  st-ask_iter g = st-seq (st-load_iter g) (st-symbol _ (λ k. st-one _ refl))

  st-take_iter : (slots : List Name) (x : Name) (g : Keeper) → (member x slots ≡ true) ⊎ ok x → Stores ok (take_iter slots x g)
  unfolding take_iter
  st-take_iter slots x g h = st-seq (st-load_iter g) (st-seq (st-symbol _ (λ k. st-one _ refl)) (st-store slots x h))

  -- the iterator is stored, and what follows
  st-iter : {f : Keeper → Emit} (keep : Keeping) → Iterates ok keep → ((g : Keeper) → Stores ok (f g)) → Stores ok (kept_iter keep (λ g. one (store_iter g) ⨟ f g))
  unfolding kept_iter named_iter here store_iter
  st-iter {f} keep (by_name I) F = record {
    at = λ p t. stored-symbol (iter_name p) (λ k. one (StoreGlobal k) ⨟ f (global k)) p t (λ k u e.
        stored-seq u.symbols (one (StoreGlobal k)) (f (global k)) p u (stored-global (iter_name p) k p u e (I p)) ((F (global k)).at _ _));
  }
  st-iter keep by_slot F = st-seq (st-one _ refl) (F (local _))

  stored-class : (x : Name) (c : ℕ) (ms : List Method) (p : ℕ) (t : Tables) → ok x → Stored ok t.symbols (end_class x c ms p t)
  unfolding end_class class_object
  stored-class x c ms p t o = stored-symbol x (class_object c) p _ (λ k u e. record { new = []; symbols = sym (append-nil u.symbols); code = other refl (stores x e o no_code); sound = no_every })

record StoresBranches (ok : Name → Type 0) (slots : List Name) (keep : Keeping) (r : Branches) : Type 0 where
  at : (p : ℕ) (t : Tables) → Stored ok t.symbols (emit_branches slots keep r p t).out

-- methods have no code of their own
record StoredMethods (xs : List Name) (m : Lower.Members) : Type 0 where
  new : List Name
  symbols : m.tables.symbols ≡ xs ++ new
  sound : Every (SoundSource m.tables.symbols) m.sources

record StoresMethods (m : Methods) : Type 0 where
  at : (ms : List Method) (t : Tables) → StoredMethods t.symbols (emit_methods m ms t)

st-when : (ok : Name → Type 0) (slots : List Name) (keep : Keeping) (c : Expr) (b : Block) (r : Branches) → Stores ok (emit_block slots keep b) → StoresBranches ok slots (past (loops_block b) keep) r
    → StoresBranches ok slots keep (when c b r)
unfolding emit_branches
st-when ok slots keep c b r B R = record {
  at = λ p t.
      let a = emit_expr slots c p t in
      let q = suc (p + length a.code) in
      let o = emit_block slots keep b q a.tables in
      let k = emit_branches slots (past (loops_block b) keep) r (q + suc (length o.code)) o.tables in
      let S = (st-expr ok slots c).at p t in
      let T = B.at q a.tables in
      let U = R.at (q + suc (length o.code)) o.tables in
      let both = symbols-later a.tables.symbols T.new U.new T.symbols U.symbols in
      record {
        new = S.new ++ (T.new ++ U.new);
        symbols = symbols-later t.symbols S.new (T.new ++ U.new) S.symbols both;
        code = okay-append (code-later (T.new ++ U.new) both S.code) (other refl (okay-append (code-later U.new U.symbols T.code) (other refl U.code)));
        sound = every_append (sound-later (T.new ++ U.new) both S.sound) (every_append (sound-later U.new U.symbols T.sound) U.sound);
      };
}

st-class : (ok : Name → Type 0) (slots : List Name) (keep : Keeping) (x : Name) (m : Methods) (vs : List Attribute) → ok x → StoresMethods m → Stores ok (emit_stmt slots keep (class x m vs))
unfolding emit_stmt class_out begin_class
st-class ok slots keep x m vs o M = record {
  at = λ p t.
      let A = M.at [] (begin_class x t) in
      let n = emit_methods m [] (begin_class x t) in
      let B = stored-class x (length t.classes) n.methods p n.tables o in
      record {
        new = A.new ++ B.new;
        symbols = symbols-later t.symbols A.new B.new A.symbols B.symbols;
        code = B.code;
        sound = every_append (sound-later B.new B.symbols A.sound) B.sound;
      };
}

method-end : {ok : Name → Type 0} (x : Name) (xs : List Name) → Okay ok xs (method_end x)
unfolding method_end
method-end {ok} x xs = go (same x init)
  where
    go : (b : Bool) → Okay ok xs (elim b as (λ z. List Instr) [ true ↦ LoadLocal 0 ∷ Return ∷ [] | false ↦ Return ∷ [] ])
    go true = other refl (other refl no_code)
    go false = other refl no_code

st-method : (x : Name) (ps : List Name) (b : Block) (m : Methods) → Stores (Global b) (emit_block (with_loops ps b).names (with_loops ps b).keep b) → StoresMethods m → StoresMethods (method x ps b m)
unfolding emit_methods
st-method x ps b m B M = record {
  at = λ ms t.
      let inner = with_loops ps b in
      let whole = function x (length ps) inner (block_body b (method_end x)) (emit_block inner.names inner.keep b ⨟ emits (method_end x)) in
      let o = whole 0 t in
      let F : Stores (Global b) whole = st-block-function x (length ps) inner b (method_end x) (st-seq B (st-emits (method_end x) (method-end x))) in
      let S = F.at 0 t in
      let ms' = insert_method x (length t.functions) ms in
      let R = M.at ms' o.tables in
      record {
        new = S.new ++ R.new;
        symbols = symbols-later t.symbols S.new R.new S.symbols R.symbols;
        sound = every_append (sound-later R.new R.symbols S.sound) R.sound;
      };
}

-- a def's or method's names have slots, but for what is global
own-allowed : (ps : List Name) (b : Block) → Allowed (Global b) (locals_block b ps) (bound_block b)
own-allowed ps b = record { at = λ x h. inl (named ps b x ∙ rw h (or-true (member x ps))) }

Classes : (Name → Type 0) → (Stmt → Type 0) → Type 0
Classes ok own = (x : Name) (ms : Methods) (vs : List Attribute) → own (class x ms vs) → ok x

mutual
  unfolding emit_stmt emit_block emit_branches emit_methods bound_stmt bound_block bound_branches Classes

  st-stmt : (ok : Name → Type 0) (slots : List Name) (keep : Keeping) → Iterates ok keep → (a : Stmt) → Allowed ok slots (bound_stmt a) → Classes ok (λ c. OwnStmt c a) → Stores ok (emit_stmt slots keep a)
  st-stmt ok slots keep I break A C = st-one _ refl
  st-stmt ok slots keep I continue A C = st-one _ refl
  st-stmt ok slots keep I pass A C = st-none
  st-stmt ok slots keep I (expr e) A C = st-seq (st-expr ok slots e) (st-one _ refl)
  st-stmt ok slots keep I (return e) A C = st-seq (st-expr ok slots e) (st-one _ refl)
  st-stmt ok slots keep I (assign t v) A C = st-assign ok (view t) slots (subst (Allowed ok slots) (assigned-form t) A) (st-expr ok slots v)
  st-stmt ok slots keep I (if r) A C = let R = st-branches ok slots keep I r A (λ x ms vs o. C x ms vs (of_if o)) in record { at = R.at }
  st-stmt ok slots keep I (while c b) A C = st-loop (st-expr ok slots c) (st-block ok slots keep I b A (λ x ms vs o. C x ms vs (of_while o)))
  st-stmt ok slots keep I (for x e b) A C =
      let inside = st-block ok slots (past 1 keep) (iterates-past 1 I) b (allowed-right (x ∷ []) (bound_block b) A) (λ y ms vs o. C y ms vs (of_for o)) in
      st-seq (st-expr ok slots e) (st-seq st-make_iter (st-iter keep I (λ g. st-loop (st-ask_iter g) (st-seq (st-take_iter slots x g (allowed-first x (bound_block b) A)) inside))))
  st-stmt ok slots keep I (def x ps b) A C =
      st-block-function x (length ps) (with_loops ps b) b (Return ∷ []) (st-seq (st-block (Global b) (locals_block b ps) (with_loops ps b).keep by_slot b (own-allowed ps b) (λ y ms ws o. of_class o)) (st-one Return refl))
  st-stmt ok slots keep I (class x m vs) A C = st-class ok slots keep x m vs (C x m vs itself) (st-methods ok m)

  st-block : (ok : Name → Type 0) (slots : List Name) (keep : Keeping) → Iterates ok keep → (b : Block) → Allowed ok slots (bound_block b) → Classes ok (λ c. OwnBlock c b) → Stores ok (emit_block slots keep b)
  st-block ok slots keep I []ᵇ A C = st-none
  st-block ok slots keep I (a ∷ᵇ b) A C =
      st-seq (st-stmt ok slots keep I a (allowed-left (bound_stmt a) (bound_block b) A) (λ x ms vs o. C x ms vs (at_first o)))
      (st-block ok slots (past (loops_stmt a) keep) (iterates-past (loops_stmt a) I) b (allowed-right (bound_stmt a) (bound_block b) A) (λ x ms vs o. C x ms vs (at_later o)))

  st-branches : (ok : Name → Type 0) (slots : List Name) (keep : Keeping) → Iterates ok keep → (r : Branches) → Allowed ok slots (bound_branches r) → Classes ok (λ c. OwnBranches c r) → StoresBranches ok slots keep r
  st-branches ok slots keep I done A C = record { at = λ p t. st-none.at p t }
  st-branches ok slots keep I (else b) A C = record { at = λ p t. (st-block ok slots keep I b A (λ x ms vs o. C x ms vs (of_else o))).at p t }
  st-branches ok slots keep I (when c b r) A C =
      st-when ok slots keep c b r (st-block ok slots keep I b (allowed-left (bound_block b) (bound_branches r) A) (λ x ms vs o. C x ms vs (of_then o)))
      (st-branches ok slots (past (loops_block b) keep) (iterates-past (loops_block b) I) r (allowed-right (bound_block b) (bound_branches r) A) (λ x ms vs o. C x ms vs (of_rest o)))

  -- whatever is ok outside: the functions of a block are of one universe
  st-methods : (ok : Name → Type 0) (m : Methods) → StoresMethods m
  st-methods ok []ᵐ = record { at = λ ms t. record { new = []; symbols = sym (append-nil t.symbols); sound = no_every } }
  st-methods ok (method x ps b m) =
      st-method x ps b m (st-block (Global b) (locals_block b ps) (with_loops ps b).keep by_slot b (own-allowed ps b) (λ y ms ws o. of_class o)) (st-methods ok m)

-- ---- the whole tree

-- a source other than main's
sound-at : {xs : List Name} (gs : List Source) (k : ℕ) (g : Source) → Every (SoundSource xs) gs → get_elem? gs k ≡ some g → SoundSource xs g
sound-at [] k g a e = let z : ◌≡◌ {A = ℕ} 0 1 = cc in absurd (omega arith)
sound-at {xs} (h ∷ gs) zero g (every s a) e = let q : h ≡ g = cc in subst (SoundSource xs) q s
sound-at (h ∷ gs) (suc k) g (every s a) e = sound-at gs k g a e

-- main may store any name
main-stores : (b : Block) → Stores (λ x. Unit {0}) (emit_block [] in_globals b ⨟ one Return)
unfolding Classes
main-stores b = st-seq (st-block (λ x. Unit {0}) [] in_globals (by_name (λ n. tt)) b (record { at = λ x h. inr tt }) (λ x ms vs o. tt)) (st-one Return refl)

-- the functions that begin in main, with the symbols of the whole tree
compile-sound : (b : Block) (k : ℕ) (g : Source) → get_elem? (compile b).sources (suc k) ≡ some g → SoundSource (compile b).tables.symbols g
unfolding compile function intern enclose position Lower.no_tables
compile-sound b k g e = sound-at _ k g ((main-stores b).at 0 (begin 0 0 (names_only []) (add_symbol Lower.main Lower.no_tables))).sound e

pub global_stores : GlobalStores
global_stores l u b t e k f h d end q i j c x s =
    let A = accepted-gives l u b t e in
    let S = sources l u b t e (suc k) f h in
    let g = S.0 in
    let body : g.body ≡ block_body d end = cc in
    let G = (compile-sound b k g S.1).at d end body in
    okay-at G i j (ap (λ (z : List Instr). get_elem? z i) (sym S.3.code) ∙ c) x (ap (λ (z : Tables). get_elem? z.symbols j) (sym A.tables) ∙ s)
