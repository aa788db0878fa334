-- A statement's code starts and ends at height 0; and so does every body of a whole tree.
use mathlib.Core.Path.{◌≡◌, refl, sym, ◌∙◌}
use mathlib.Core.Bool.{Bool, true, false, not, ◌&&◌, ◌||◌}
use mathlib.Core.List.{List, [], ◌∷◌}
use Prim.Native.Nat.{ℕ, zero, suc, ◌+◌}
use native.Mathlib.Omega.{arith}
use lib.ListN.{length}
use lib.Dec.{T, ltb}
use Rattle.definitions.specs.Bytes.{Name, same}
use Rattle.definitions.specs.Tree.{Display, list_d, tuple_d, dict_d, set_d, tree_set_d, Expr, lit, var, unary, binary, logical, call, attr, display, index, lambda, Exprs, ◌∷ᵉ◌, count, []ᵉ, []ᵇ}
use Rattle.definitions.specs.Tree.{view, view_display, Attribute}
use Rattle.definitions.specs.Tree.{Stmt, class}
use Rattle.definitions.specs.Tree.{Block, ◌∷ᵇ◌, Branches, done, else, when, Methods, method}
use Rattle.definitions.specs.Wellformed.{init, is_tuple, is_element, are_elements, is_target, is_full, are_full}
use Rattle.definitions.specs.Slots.{Keeping, in_globals, in_slots, past, Frame, names_only, with_loops, loops_stmt, loops_block}
use Rattle.definitions.specs.Instruction
use Rattle.definitions.specs.Instruction.{Instr, Return, Break, Continue, LoadLocal}
use Rattle.definitions.specs.Tables.{Method, Tables, Body, block_body, Emit, emits, one, ◌⨟◌, intern}
use Rattle.definitions.specs.Lower
use Rattle.definitions.specs.Lower.{copy, emit_expr, emit_target, unpack, assign_by, Keeper, global, local, make_iter, named_iter, kept_iter, store_iter, load_iter, iter_name, ask_iter, take_iter}
use Rattle.definitions.specs.Lower.{method_end, begin_class, class_object, end_class, class_out, emit_stmt, emit_block, emit_branches, emit_methods, emit_body, compile}
use Rattle.definitions.specs.Open.{heights}
use Rattle.definitions.proofs.Truth.{left, right}
use Rattle.definitions.proofs.Shape.{plain, ret, brk, cont, seq, size, hop, none, more}
use Rattle.definitions.proofs.Level.{stay, move}
use Rattle.definitions.proofs.Every.{Every, no_every, every_append}
use Rattle.definitions.proofs.Fine.{FullS, FullB, FullR, FullM, Closes, closes_return, closes_init, Fine, fine_block, fine_expr, FineSource}
use Rattle.definitions.proofs.Part.{num}
use Rattle.definitions.proofs.PartStmt.{OkS, OkB, OkR, OkM}
use Rattle.definitions.proofs.Fit.{FitE, FitS, FitB, FitR, FitM}
use Rattle.definitions.proofs.Fit.{lit_f, var_f, unary_f, binary_f, logical_f, call_f, attr_f, display_f, index_f, lambda_f}
use Rattle.definitions.proofs.Fit.{break_f, continue_f, pass_f, expr_f, return_f, assign_f, if_f, while_f, for_f, def_f, class_f, nil_b, cons_b, done_f, else_f, when_f, nil_m, method_f}
use Rattle.definitions.proofs.Rise.{Rises, rises-plain, rises-seq, rises-choose, rises-length, Rise, rise-emits, rise-none, rise_one, rise-seq, rise-loop, rise-here, rise-symbol, rise-function, rise-return}
use Rattle.definitions.proofs.RiseExpr.{rise-store, rise-expr}

-- ---- targets

-- the height after the element at place i: the value itself is left but for the last one taken
abbrev rest : ℕ → ℕ → ℕ
rest zero h = h
rest (suc i) h = suc h

rise-copy : {l : Bool} (i h : ℕ) → Rise l (copy i) (suc h) (suc (rest i h))
unfolding copy heights
rise-copy zero h = rise-none
rise-copy (suc i) h = rise_one (num refl refl refl) (omega arith) (omega arith)

rise-element : {l : Bool} (i h : ℕ) → Rise l (emits (Instruction.ConstI64 i ∷ Instruction.LoadIndex ∷ [])) (suc h) (suc h)
unfolding heights
rise-element i h =
    rise-emits (more (num refl refl refl) (more (num refl refl refl) none))
    (move {i = Instruction.ConstI64 i} {h = suc h} {m = suc (suc h)} (omega arith) (omega arith) (move {i = Instruction.LoadIndex} {h = suc (suc h)} {m = suc h} (omega arith) (omega arith) stay))

-- something is taken, or the value stays
abbrev Some : Exprs → ℕ → Type 0
Some []ᵉ zero = ⊥
Some []ᵉ (suc i) = Unit {0}
Some (e ∷ᵉ es) i = Unit {0}

some_first : (es : Exprs) → ltb 0 (count es) ≡ true → Some es 0
unfolding count
some_first []ᵉ e = let z : ◌≡◌ {A = ℕ} 0 1 = cc in absurd (omega arith)
some_first (x ∷ᵉ es) e = tt

some-later : (es : Exprs) (i : ℕ) → Some es (suc i)
some-later []ᵉ i = tt
some-later (e ∷ᵉ es) i = tt

not_so : {A : Type 0} → ◌≡◌ {A = Bool} false true → A
not_so e = let z : ◌≡◌ {A = ℕ} 0 1 = cc in absurd (omega arith)

rise-tuple : {l : Bool} (b : Bool) (es : Exprs) {e : Emit} {h k : ℕ} → (b && are_elements es) ≡ true → (not b || ltb 0 (count es) && are_full es) ≡ true
    → (are_elements es ≡ true → are_full es ≡ true → Some es 0 → Rise l e h k) → Rise l (elim b as (λ z. Emit) [ true ↦ e | false ↦ emits [] ]) h k
rise-tuple true es x y f = f x (right (ltb 0 (count es)) (are_full es) y) (some_first es (left (ltb 0 (count es)) (are_full es) y))
rise-tuple false es x y f = not_so x

mutual
  unfolding emit_target unpack is_element are_elements is_full are_full

  rise-target : (l : Bool) (slots : List Name) (e : Expr) → is_element e ≡ true → is_full e ≡ true → (h : ℕ) → Rise l (emit_target slots e) (suc h) h
  rise-target l slots (lit v) x y h = not_so x
  rise-target l slots (var v) x y h = rise-store slots v h
  rise-target l slots (unary op e) x y h = not_so x
  rise-target l slots (binary op e f) x y h = not_so x
  rise-target l slots (logical op e f) x y h = not_so x
  rise-target l slots (call f es) x y h = not_so x
  rise-target l slots (attr o v) x y h = not_so x
  rise-target l slots (display k es) x y h = rise-tuple (is_tuple k) es x y (λ u v s. rise-unpack l slots es u v 0 s h)
  rise-target l slots (index o i) x y h = not_so x
  rise-target l slots (lambda ps b) x y h = not_so x

  rise-unpack : (l : Bool) (slots : List Name) (es : Exprs) → are_elements es ≡ true → are_full es ≡ true → (i : ℕ) → Some es i → (h : ℕ) → Rise l (unpack slots es i) (suc h) (rest i h)
  rise-unpack l slots []ᵉ x y zero s h = absurd s
  rise-unpack l slots []ᵉ x y (suc i) s h = rise-none
  rise-unpack l slots (e ∷ᵉ es) x y i s h =
      rise-seq (rise-unpack l slots es (right (is_element e) (are_elements es) x) (right (is_full e) (are_full es) y) (suc i) (some-later es i) h)
      (rise-seq (rise-copy i h) (rise-seq (rise-element i (rest i h)) (rise-target l slots e (left (is_element e) (are_elements es) x) (left (is_full e) (are_full es) y) (rest i h))))

rise-display : {l : Bool} (k : Display) (slots : List Name) (es : Exprs) {v : Emit} → is_target (display k es) ≡ true → is_full (display k es) ≡ true → Rise l v 0 1 → Rise l (assign_by (view_display k es) slots v) 0 0
unfolding is_target is_full view view_display is_tuple assign_by
rise-display list_d slots es x y E₀ = not_so x
rise-display {l} tuple_d slots es x y E₀ = rise-seq E₀ (rise-unpack l slots es x (right (ltb 0 (count es)) (are_full es) y) 0 (some_first es (left (ltb 0 (count es)) (are_full es) y)) 0)
rise-display dict_d slots es x y E₀ = not_so x
rise-display set_d slots es x y E₀ = not_so x
rise-display tree_set_d slots es x y E₀ = not_so x

rise-assign : {l : Bool} {e : Expr} {n : ℕ} {v : Emit} (slots : List Name) → FitE e n → is_target e ≡ true → is_full e ≡ true → ((h : ℕ) → Rise l v h (suc h)) → Rise l (assign_by (view e) slots v) 0 0
unfolding is_target view assign_by heights
rise-assign slots (lit_f v) x y E₀ = not_so x
rise-assign slots (var_f {x = z} k) x y E₀ = rise-seq (E₀ 0) (rise-store slots z 0)
rise-assign slots (unary_f A k) x y E₀ = not_so x
rise-assign slots (binary_f A B k) x y E₀ = not_so x
rise-assign slots (logical_f A B k) x y E₀ = not_so x
rise-assign slots (call_f A m B k) x y E₀ = not_so x
rise-assign slots (attr_f {x = z} A m k) x y E₀ = rise-seq (rise-expr slots A 0) (rise-seq (E₀ 1) (rise-symbol z (λ j. rise_one (num refl refl refl) (omega arith) (omega arith))))
rise-assign slots (display_f {k} {es} s w A z) x y E₀ = rise-display k slots es x y (E₀ 0)
rise-assign slots (index_f A B k) x y E₀ = rise-seq (rise-expr slots A 0) (rise-seq (rise-expr slots B 1) (rise-seq (E₀ 2) (rise_one (num refl refl refl) (omega arith) (omega arith))))
rise-assign slots (lambda_f m A k) x y E₀ = not_so x

-- ---- iterators and classes

pub rise-make_iter : {l : Bool} → Rise l make_iter 1 1
unfolding make_iter heights
rise-make_iter = rise-symbol _ (λ k. rise_one (num refl refl refl) (omega arith) (omega arith))

rise-load_iter : {l : Bool} (g : Keeper) → Rise l (one (load_iter g)) 0 1
unfolding load_iter heights
rise-load_iter (global k) = rise_one (num refl refl refl) (omega arith) (omega arith)
rise-load_iter (local n) = rise_one (num refl refl refl) (omega arith) (omega arith)

pub rise-store_iter : {l : Bool} (g : Keeper) → Rise l (one (store_iter g)) 1 0
unfolding store_iter heights
rise-store_iter (global k) = rise_one (num refl refl refl) (omega arith) (omega arith)
rise-store_iter (local n) = rise_one (num refl refl refl) (omega arith) (omega arith)

pub rise-ask_iter : {l : Bool} (g : Keeper) → Rise l (ask_iter g) 0 1
unfolding ask_iter heights
rise-ask_iter g = rise-seq (rise-load_iter g) (rise-symbol _ (λ k. rise_one (num refl refl refl) (omega arith) (omega arith)))

pub rise-take_iter : {l : Bool} (slots : List Name) (x : Name) (g : Keeper) → Rise l (take_iter slots x g) 0 0
unfolding take_iter heights
rise-take_iter slots x g = rise-seq (rise-load_iter g) (rise-seq (rise-symbol _ (λ k. rise_one {k = 1} (num refl refl refl) (omega arith) (omega arith))) (rise-store slots x 0))

rise-iter : {l : Bool} {f : Keeper → Emit} {h k : ℕ} (keep : Keeping) → ((g : Keeper) → Rise l (f g) h k) → Rise l (kept_iter keep f) h k
unfolding kept_iter named_iter
rise-iter in_globals F = rise-here (λ q. rise-symbol (iter_name q) (λ j. F (global j)))
rise-iter (in_slots n) F = F (local n)

rise-end_class : {l : Bool} (x : Name) (c : ℕ) (ms : List Method) → Rise l (end_class x c ms) 0 0
unfolding end_class class_object heights
rise-end_class {l} x c ms = record { at = λ p t. go.at p _; sources = λ p t. go.sources p _ }
  where
    go : Rise l (intern x (class_object c)) 0 0
    go = rise-symbol x (λ k. record {
      at = λ q u. rises-plain (more (num refl refl refl) (more (num refl refl refl) none))
          (move {i = Instruction.LoadConst (length u.constants)} {h = 0} {m = 1} (omega arith) (omega arith) (move {i = Instruction.StoreGlobal k} {h = 1} {m = 0} (omega arith) (omega arith) stay));
      sources = λ q u. no_every;
    })

rise-init : Rise false (emits (LoadLocal 0 ∷ Return ∷ [])) 0 0
unfolding emits heights
rise-init = record {
  at = λ p t. record {
    code = seq (plain (LoadLocal 0 ∷ [])) ret;
    ok = (more (num refl refl refl) none, tt);
    emitted = refl;
    level = (1, move {i = LoadLocal 0} {h = 0} {m = 1} (omega arith) (omega arith) stay, refl);
  };
  sources = λ p t. no_every;
}

closes-end : (x : Name) → Closes (method_end x)
unfolding method_end
closes-end x = go (same x init)
  where
    go : (b : Bool) → Closes (elim b as (λ z. List Instr) [ true ↦ LoadLocal 0 ∷ Return ∷ [] | false ↦ Return ∷ [] ])
    go true = closes_init
    go false = closes_return

rise-end : (x : Name) → Rise false (emits (method_end x)) 0 0
unfolding method_end
rise-end x = go (same x init)
  where
    go : (b : Bool) → Rise false (emits (elim b as (λ z. List Instr) [ true ↦ LoadLocal 0 ∷ Return ∷ [] | false ↦ Return ∷ [] ])) 0 0
    go true = rise-init
    go false = rise-return

-- ---- statements

rise-break : {l : Bool} → T l → Rise l (one Break) 0 0
unfolding emits
rise-break k = record { at = λ p t. record { code = brk; ok = k; emitted = refl; level = (refl, refl) }; sources = λ p t. no_every }

rise-continue : {l : Bool} → T l → Rise l (one Continue) 0 0
unfolding emits
rise-continue k = record { at = λ p t. record { code = cont; ok = k; emitted = refl; level = (refl, refl) }; sources = λ p t. no_every }

-- a block, past whose end an end jump before it goes
pub record RiseBlock (l : Bool) (slots : List Name) (keep : Keeping) (b : Block) : Type 0 where
  pub at : (p : ℕ) (t : Tables) → (C : Rises l (emit_block slots keep b p t).code 0 0) × (hop C.code ≡ size C.code)
  pub sources : (p : ℕ) (t : Tables) → Every FineSource (emit_block slots keep b p t).sources

-- the branches of an if, with the hop of the end jump before them
record RiseBranches (l : Bool) (slots : List Name) (keep : Keeping) (r : Branches) : Type 0 where
  at : (p : ℕ) (t : Tables) → (C : Rises l (emit_branches slots keep r p t).out.code 0 0) × ((emit_branches slots keep r p t).hop ≡ hop C.code)
  sources : (p : ℕ) (t : Tables) → Every FineSource (emit_branches slots keep r p t).out.sources

record FineMethods (m : Methods) : Type 0 where
  sources : (ms : List Method) (t : Tables) → Every FineSource (emit_methods m ms t).sources

pub whole : {l : Bool} {slots : List Name} {keep : Keeping} {b : Block} → RiseBlock l slots keep b → Rise l (emit_block slots keep b) 0 0
whole B = record { at = λ p t. (B.at p t).0; sources = B.sources }

block-nil : {l : Bool} (slots : List Name) (keep : Keeping) → RiseBlock l slots keep []ᵇ
unfolding emit_block emits rises-plain
block-nil slots keep = record { at = λ p t. (rises-plain none stay, refl); sources = λ p t. no_every }

block-cons : {l : Bool} {slots : List Name} (keep : Keeping) (a : Stmt) (b : Block) → Rise l (emit_stmt slots keep a) 0 0 → RiseBlock l slots (past (loops_stmt a) keep) b → RiseBlock l slots keep (a ∷ᵇ b)
unfolding emit_block ◌⨟◌ rises-seq
block-cons {l} {slots} keep a b A B = record {
  at = λ p t. (rises-seq (A.at p t) (B.at (p + length (emit_stmt slots keep a p t).code) (emit_stmt slots keep a p t).tables).0, refl);
  sources = λ p t. every_append (A.sources p t) (B.sources _ _);
}

branch-done : {l : Bool} (slots : List Name) (keep : Keeping) → RiseBranches l slots keep done
unfolding emit_branches emits rises-plain
branch-done slots keep = record { at = λ p t. (rises-plain none stay, refl); sources = λ p t. no_every }

branch-else : {l : Bool} {slots : List Name} {keep : Keeping} (b : Block) → RiseBlock l slots keep b → RiseBranches l slots keep (else b)
unfolding emit_branches
branch-else b B = record { at = λ p t. let C = B.at p t in (C.0, rises-length C.0 ∙ sym C.1); sources = B.sources }

branch-when : {l : Bool} {slots : List Name} (keep : Keeping) (c : Expr) (b : Block) (r : Branches) → Rise l (emit_expr slots c) 0 1 → RiseBlock l slots keep b
    → RiseBranches l slots (past (loops_block b) keep) r → RiseBranches l slots keep (when c b r)
unfolding emit_branches rises-choose
branch-when {l} {slots} keep c b r A B R = record {
  at = λ p t.
      let a = emit_expr slots c p t in
      let q = suc (p + length a.code) in
      let o = emit_block slots keep b q a.tables in
      let C = R.at (q + suc (length o.code)) o.tables in
      let M = A.at p t in
      let N = (B.at q a.tables).0 in
      let ea : length a.code ≡ size M.code = rises-length M in
      let eb : length o.code ≡ size N.code = rises-length N in
      (rises-choose false (emit_branches slots (past (loops_block b) keep) r (q + suc (length o.code)) o.tables).hop M N C.0 C.1 (omega arith), omega arith);
  sources = λ p t. every_append (A.sources p t) (every_append (B.sources _ _) (R.sources _ _));
}

method-more : (x : Name) (ps : List Name) (b : Block) (m : Methods) → Fine (block_body b (method_end x)) → RiseBlock false (with_loops ps b).names (with_loops ps b).keep b → FineMethods m → FineMethods (method x ps b m)
unfolding emit_methods
method-more x ps b m F B M = record {
  sources = λ ms t. every_append ((rise-function {l = false} {h = 0} x (length ps) (with_loops ps b) (block_body b (method_end x)) F (rise-seq (whole B) (rise-end x))).sources 0 t) (M.sources _ _);
}

rise-class : {l : Bool} (slots : List Name) (keep : Keeping) (x : Name) (m : Methods) (vs : List Attribute) → FineMethods m → Rise l (emit_stmt slots keep (class x m vs)) 0 0
unfolding emit_stmt begin_class class_out
rise-class slots keep x m vs M = record {
  at = λ p t. (rise-end_class x _ _).at p _;
  sources = λ p t. every_append (M.sources [] (begin_class x t)) ((rise-end_class {l = false} x _ _).sources p _);
}

mutual
  unfolding emit_stmt emit_methods heights

  pub rise-stmt : (l : Bool) {a : Stmt} {n : ℕ} (slots : List Name) (keep : Keeping) → FitS a n → OkS l a → FullS a → Rise l (emit_stmt slots keep a) 0 0
  rise-stmt l slots keep break_f k g = rise-break k
  rise-stmt l slots keep continue_f k g = rise-continue k
  rise-stmt l slots keep pass_f k g = rise-none
  rise-stmt l slots keep (expr_f E m) k g = rise-seq (rise-expr slots E 0) (rise_one (num refl refl refl) (omega arith) (omega arith))
  rise-stmt l slots keep (return_f E m) k g = rise-seq (rise-expr slots E 0) rise-return
  rise-stmt l slots keep (assign_f A B m) k g = rise-assign slots A g.0 g.1 (λ h. rise-expr slots B h)
  rise-stmt l slots keep (if_f R m) k g =
      let C = rise-branches l slots keep R k g in
      record { at = λ p t. (C.at p t).0; sources = λ p t. C.sources p t }
  rise-stmt l slots keep (while_f E B m) k g = rise-loop (rise-expr slots E 0) (whole (rise-block true slots keep B k g))
  rise-stmt l slots keep (for_f {x} z E B m) k g =
      rise-seq (rise-expr slots E 0)
      (rise-seq rise-make_iter
      (rise-iter keep (λ j.
      rise-seq (rise-store_iter j)
      (rise-loop (rise-ask_iter j) (rise-seq (rise-take_iter slots x j) (whole (rise-block true slots (past 1 keep) B k g)))))))
  rise-stmt l slots keep (def_f {x} {ps} {b} z w B m) k g =
      rise-function x (length ps) (with_loops ps b) (block_body b (Return ∷ [])) (fine_block B k g closes_return) (rise-seq (whole (rise-block false (with_loops ps b).names (with_loops ps b).keep B k g)) rise-return)
  rise-stmt l slots keep (class_f {x} {ms} {vs} z M m) k g = rise-class slots keep x ms vs (fine-methods M k g)

  pub rise-block : (l : Bool) {b : Block} {n : ℕ} (slots : List Name) (keep : Keeping) → FitB b n → OkB l b → FullB b → RiseBlock l slots keep b
  rise-block l slots keep nil_b k g = block-nil slots keep
  rise-block l slots keep (cons_b {s} {b} S B m) k g = block-cons keep s b (rise-stmt l slots keep S k.0 g.0) (rise-block l slots (past (loops_stmt s) keep) B k.1 g.1)

  rise-branches : (l : Bool) {r : Branches} {n : ℕ} (slots : List Name) (keep : Keeping) → FitR r n → OkR l r → FullR r → RiseBranches l slots keep r
  rise-branches l slots keep done_f k g = branch-done slots keep
  rise-branches l slots keep (else_f {b} B m) k g = branch-else b (rise-block l slots keep B k g)
  rise-branches l slots keep (when_f {c} {b} {r} C B R m) k g = branch-when keep c b r (rise-expr slots C 0) (rise-block l slots keep B k.0 g.0) (rise-branches l slots (past (loops_block b) keep) R k.1 g.1)

  fine-methods : {m : Methods} {n : ℕ} → FitM m n → OkM m → FullM m → FineMethods m
  fine-methods nil_m k g = record { sources = λ ms t. no_every }
  fine-methods (method_f {x} {ps} {b} {ms} y z w B M v) k g = method-more x ps b ms (fine_block B k.0 g.0 (closes-end x)) (rise-block false (with_loops ps b).names (with_loops ps b).keep B k.0 g.0) (fine-methods M k.1 g.1)

-- every body of a whole tree is fine
pub all-fine : {b : Block} {n : ℕ} → FitB b n → OkB false b → FullB b → Every FineSource (compile b).sources
unfolding compile
all-fine {b} F k g =
    (rise-function {l = false} {h = 0} Lower.main 0 (names_only []) (block_body b (Return ∷ [])) (fine_block F k g closes_return) (rise-seq (whole (rise-block false [] in_globals F k g)) rise-return)).sources 0 Lower.no_tables

rise-closes : {end : List Instr} → Closes end → Rise false (emits end) 0 0
rise-closes closes_return = rise-return
rise-closes closes_init = rise-init

-- a fine body is structured code from height 0
pub rise-body : {body : Body} (f : Frame) → Fine body → Rise false (emit_body f body) 0 0
unfolding emit_body
rise-body f (fine_block F k g c) = rise-seq (whole (rise-block false f.names f.keep F k g)) (rise-closes c)
rise-body f (fine_expr F) = rise-seq (rise-expr f.names F 0) rise-return
