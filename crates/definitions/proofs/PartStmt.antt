-- Targets and statements as parts, and every function of a whole tree.
use mathlib.Core.Path.{◌≡◌, refl, sym, ◌∙◌}
use mathlib.Core.Bool.{Bool, true, false}
use mathlib.Core.List.{List, [], ◌∷◌}
use Prim.Native.Nat.{ℕ, zero, suc, ◌+◌}
use native.Mathlib.Omega.{arith}
use lib.ListN.{length}
use lib.Dec.{T}
use Rattle.definitions.specs.Bytes.{Name}
use Rattle.definitions.specs.Tree.{Expr, lit, var, unary, binary, logical, call, attr, display, index, lambda, Exprs, []ᵉ, ◌∷ᵉ◌}
use Rattle.definitions.specs.Tree.{View, as_var, as_attr, as_index, as_tuple, as_other, view, Attribute}
use Rattle.definitions.specs.Tree.{Stmt, break, continue, pass, expr, return, assign, if, while, for, def, class}
use Rattle.definitions.specs.Tree.{Block, []ᵇ, ◌∷ᵇ◌, Branches, done, else, when, Methods, []ᵐ, method}
use Rattle.definitions.specs.Wellformed.{is_tuple}
use Rattle.definitions.specs.Slots.{Keeping, in_globals, in_slots, past, Frame, names_only, with_loops, loops_stmt, loops_block}
use Rattle.definitions.specs.Instruction.{Return, Break, Continue}
use Rattle.definitions.specs.Tables.{Method, Tables, block_body, Emit, emits, one, ◌⨟◌, intern}
use Rattle.definitions.specs.Lower
use Rattle.definitions.specs.Lower.{copy, emit_expr, emit_target, unpack, assign_by, Keeper, global, local, make_iter, named_iter, kept_iter, store_iter, load_iter, iter_name, ask_iter, take_iter}
use Rattle.definitions.specs.Lower.{method_end, begin_class, class_object, end_class, class_out, emit_stmt, emit_block, emit_branches, emit_methods, emit_body, compile}
use Rattle.definitions.specs.Walk.{walked, broke, continued, Walk, follow, adds, walk_expr, walk_assign, walk_stmt, walk_block, walk_branches, walk_body}
use Rattle.definitions.specs.Open.{flows}
use Rattle.definitions.proofs.Shape.{Plain, brk, cont, size, hop, none, more}
use Rattle.definitions.proofs.Lands.{stop-return}
use Rattle.definitions.proofs.Meaning.{Meaning, meaning-seq, meaning-choose, meaning-plain, meaning-length}
use Rattle.definitions.proofs.Grows.{Grows, Grown, Pairs, grow-none, grow-more}
use Rattle.definitions.proofs.Part.{Part, Leaf, part-adds, part-silent, part-follow, part-loop, part-here, part-symbol, leaf-emits, leaf-one, leaf-seq, leaf-symbol, num}
use Rattle.definitions.proofs.PartExpr.{Whole, whole, leaf-store, part-leave, part_end, stop-end, leaf-function, function-silent, part-expr}

-- ---- targets

leaf-copy : (i : ℕ) → Leaf (copy i)
unfolding copy flows
leaf-copy zero = leaf-emits none
leaf-copy (suc i) = leaf-one (num refl refl refl)

leaf-nothing : Leaf (emits [])
leaf-nothing = leaf-emits none

leaf-tuple : (b : Bool) {e : Emit} → Leaf e → Leaf (elim b as (λ z. Emit) [ true ↦ e | false ↦ emits [] ])
leaf-tuple true E = E
leaf-tuple false E = leaf-nothing

mutual
  unfolding emit_target unpack flows

  leaf-target : (slots : List Name) (e : Expr) → Leaf (emit_target slots e)
  leaf-target slots (lit l) = leaf-nothing
  leaf-target slots (var x) = leaf-store slots x
  leaf-target slots (unary op e) = leaf-nothing
  leaf-target slots (binary op l r) = leaf-nothing
  leaf-target slots (logical op l r) = leaf-nothing
  leaf-target slots (call f es) = leaf-nothing
  leaf-target slots (attr o x) = leaf-nothing
  leaf-target slots (display k es) = leaf-tuple (is_tuple k) (leaf-unpack slots es 0)
  leaf-target slots (index o i) = leaf-nothing
  leaf-target slots (lambda ps b) = leaf-nothing

  leaf-unpack : (slots : List Name) (es : Exprs) (i : ℕ) → Leaf (unpack slots es i)
  leaf-unpack slots []ᵉ i = leaf-nothing
  leaf-unpack slots (e ∷ᵉ es) i = leaf-seq (leaf-unpack slots es (suc i)) (leaf-seq (leaf-copy i) (leaf-seq (leaf-emits (more (num refl refl refl) (more (num refl refl refl) none))) (leaf-target slots e)))

part-assign : (l : Bool) (slots : List Name) (v : View) {e : Emit} {w : Walk} → Part l e w → Part l (assign_by v slots e) (walk_assign v slots e w)
unfolding assign_by walk_assign flows
part-assign l slots (as_var x) A = part-follow A (part-adds (leaf-store slots x))
part-assign l slots (as_attr o x) A = part-follow (part-expr l slots o) (part-follow A (part-adds (leaf-symbol x (λ n. leaf-one (num refl refl refl)))))
part-assign l slots (as_index o i) A = part-follow (part-expr l slots o) (part-follow (part-expr l slots i) (part-follow A (part-adds (leaf-one (num refl refl refl)))))
part-assign l slots (as_tuple es) A = part-follow A (part-adds (leaf-unpack slots es 0))
part-assign l slots as_other A = part-adds leaf-nothing

-- ---- iterators and classes

leaf-make_iter : Leaf make_iter
unfolding make_iter flows
leaf-make_iter = leaf-symbol _ (λ k. leaf-one (num refl refl refl))

plain-store : (g : Keeper) → Plain (store_iter g)
unfolding store_iter flows
plain-store (global k) = num refl refl refl
plain-store (local n) = num refl refl refl

plain-load : (g : Keeper) → Plain (load_iter g)
unfolding load_iter flows
plain-load (global k) = num refl refl refl
plain-load (local n) = num refl refl refl

leaf-ask_iter : (g : Keeper) → Leaf (ask_iter g)
unfolding ask_iter flows
leaf-ask_iter g = leaf-seq (leaf-one (plain-load g)) (leaf-symbol _ (λ k. leaf-one (num refl refl refl)))

pub leaf-take_iter : (slots : List Name) (x : Name) (g : Keeper) → Leaf (take_iter slots x g)
unfolding take_iter flows
leaf-take_iter slots x g = leaf-seq (leaf-one (plain-load g)) (leaf-seq (leaf-symbol _ (λ k. leaf-one (num refl refl refl))) (leaf-store slots x))

part-iter : {l : Bool} {f : ℕ → Emit} {v : ℕ → Walk} → ((g : ℕ) → Part l (f g) (v g)) → Part l (named_iter f) (named_iter v)
unfolding named_iter
part-iter F = part-here (λ q. part-symbol (iter_name q) F)

part-kept : {l : Bool} {f : Keeper → Emit} {v : Keeper → Walk} (keep : Keeping) → ((g : Keeper) → Part l (f g) (v g)) → Part l (kept_iter keep f) (kept_iter keep v)
unfolding kept_iter
part-kept in_globals F = part-iter (λ k. F (global k))
part-kept (in_slots n) F = F (local n)

leaf-end_class : (x : Name) (c : ℕ) (ms : List Method) → Leaf (end_class x c ms)
unfolding end_class class_object flows
leaf-end_class x c ms = record { at = λ p t. go.at p _; grows = λ p t. go.grows p _ }
  where
    go : Leaf (intern x (class_object c))
    go = leaf-symbol x (λ k. record { at = λ q u. more (num refl refl refl) (more (num refl refl refl) none); grows = λ q u. grow-none })

-- ---- statements

-- each break and continue stands in a loop of its own function
abbrev mutual
  pub OkS : Bool → Stmt → Type 0
  OkS l break = T l
  OkS l continue = T l
  OkS l pass = Unit {0}
  OkS l (expr e) = Unit {0}
  OkS l (return e) = Unit {0}
  OkS l (assign t v) = Unit {0}
  OkS l (if bs) = OkR l bs
  OkS l (while c b) = OkB true b
  OkS l (for x e b) = OkB true b
  OkS l (def x ps b) = OkB false b
  OkS l (class x ms vs) = OkM ms

  pub OkB : Bool → Block → Type 0
  OkB l []ᵇ = Unit {0}
  OkB l (s ∷ᵇ b) = OkS l s × OkB l b

  pub OkR : Bool → Branches → Type 0
  OkR l done = Unit {0}
  OkR l (else b) = OkB l b
  OkR l (when c b r) = OkB l b × OkR l r

  pub OkM : Methods → Type 0
  OkM []ᵐ = Unit {0}
  OkM (method x ps b ms) = OkB false b × OkM ms

part-break : {l : Bool} → T l → Part l (one Break) (λ p t xs. walked broke xs [])
unfolding emits
part-break k = record { at = λ p t. record { code = brk; ok = k; emitted = refl; walks = refl }; grows = λ p t. grow-none }

part-continue : {l : Bool} → T l → Part l (one Continue) (λ p t xs. walked continued xs [])
unfolding emits
part-continue k = record { at = λ p t. record { code = cont; ok = k; emitted = refl; walks = refl }; grows = λ p t. grow-none }

-- a block, past whose end an end jump before it goes
pub record BlockPart (l : Bool) (slots : List Name) (keep : Keeping) (b : Block) : Type 0 where
  at : (p : ℕ) (t : Tables) → (C : Meaning l (emit_block slots keep b p t).code (walk_block slots keep b p t)) × (hop C.code ≡ size C.code)
  grows : (p : ℕ) (t : Tables) → Grown (emit_block slots keep b) p t

-- the branches of an if, with the hop of the end jump before them
record BranchPart (l : Bool) (slots : List Name) (keep : Keeping) (r : Branches) : Type 0 where
  at : (p : ℕ) (t : Tables) → (C : Meaning l (emit_branches slots keep r p t).out.code (walk_branches slots keep r p t)) × ((emit_branches slots keep r p t).hop ≡ hop C.code)
  grows : (p : ℕ) (t : Tables) → Grows t.functions (emit_branches slots keep r p t).out.tables.functions (emit_branches slots keep r p t).out.sources

-- the methods of a class
record MethodPart (m : Methods) : Type 0 where
  grows : (ms : List Method) (t : Tables) → Grows t.functions (emit_methods m ms t).tables.functions (emit_methods m ms t).sources

pub part-block : {l : Bool} {slots : List Name} {keep : Keeping} {b : Block} → BlockPart l slots keep b → Part l (emit_block slots keep b) (walk_block slots keep b)
part-block B = record { at = λ p t. (B.at p t).0; grows = B.grows }

block-nil : {l : Bool} (slots : List Name) (keep : Keeping) → BlockPart l slots keep []ᵇ
unfolding emit_block walk_block emits adds meaning-plain
block-nil slots keep = record { at = λ p t. (meaning-plain [] none, refl); grows = λ p t. grow-none }

block-cons : {l : Bool} {slots : List Name} (keep : Keeping) (a : Stmt) (b : Block) → Part l (emit_stmt slots keep a) (walk_stmt slots keep a) → BlockPart l slots (past (loops_stmt a) keep) b → BlockPart l slots keep (a ∷ᵇ b)
unfolding emit_block walk_block ◌⨟◌ follow meaning-seq
block-cons {l} {slots} keep a b A B = record {
  at = λ p t. (meaning-seq (A.at p t) (B.at (p + length (emit_stmt slots keep a p t).code) (emit_stmt slots keep a p t).tables).0, refl);
  grows = λ p t. grow-more (A.grows p t) (B.grows (p + length (emit_stmt slots keep a p t).code) (emit_stmt slots keep a p t).tables);
}

branch-done : {l : Bool} (slots : List Name) (keep : Keeping) → BranchPart l slots keep done
unfolding emit_branches walk_branches emits adds meaning-plain
branch-done slots keep = record { at = λ p t. (meaning-plain [] none, refl); grows = λ p t. grow-none }

branch-else : {l : Bool} {slots : List Name} {keep : Keeping} (b : Block) → BlockPart l slots keep b → BranchPart l slots keep (else b)
unfolding emit_branches walk_branches
branch-else b B = record { at = λ p t. let C = B.at p t in (C.0, meaning-length C.0 ∙ sym C.1); grows = B.grows }

branch-when : {l : Bool} {slots : List Name} (keep : Keeping) (c : Expr) (b : Block) (r : Branches) → Part l (emit_expr slots c) (walk_expr slots c) → BlockPart l slots keep b
    → BranchPart l slots (past (loops_block b) keep) r → BranchPart l slots keep (when c b r)
unfolding emit_branches walk_branches follow meaning-choose
branch-when {l} {slots} keep c b r A B R = record {
  at = λ p t.
      let a = emit_expr slots c p t in
      let q = suc (p + length a.code) in
      let o = emit_block slots keep b q a.tables in
      let C = R.at (q + suc (length o.code)) o.tables in
      let M = A.at p t in
      let N = (B.at q a.tables).0 in
      let ea : length a.code ≡ size M.code = meaning-length M in
      let eb : length o.code ≡ size N.code = meaning-length N in
      (meaning-choose false (emit_branches slots (past (loops_block b) keep) r (q + suc (length o.code)) o.tables).hop M N C.0 C.1, omega arith);
  grows = λ p t. grow-more (A.grows p t) (grow-more (B.grows _ _) (R.grows _ _));
}

whole-block : (frame : Frame) (b : Block) → Part false (emit_block frame.names frame.keep b) (walk_block frame.names frame.keep b)
    → Whole (emit_block frame.names frame.keep b ⨟ one Return) frame (block_body b (Return ∷ []))
unfolding walk_body emit_body
whole-block frame b A = whole frame (block_body b (Return ∷ [])) (Return ∷ []) refl refl A part-leave stop-return

whole-method : (x : Name) (frame : Frame) (b : Block) → Part false (emit_block frame.names frame.keep b) (walk_block frame.names frame.keep b)
    → Whole (emit_block frame.names frame.keep b ⨟ emits (method_end x)) frame (block_body b (method_end x))
unfolding walk_body emit_body
whole-method x frame b A = whole frame (block_body b (method_end x)) (method_end x) refl refl A (part_end x) (stop-end x)

-- the body of a def or method
abbrev BodyPart : List Name → Block → Type 0
BodyPart ps b = BlockPart false (with_loops ps b).names (with_loops ps b).keep b

method-more : (x : Name) (ps : List Name) (b : Block) (m : Methods) → BodyPart ps b → MethodPart m → MethodPart (method x ps b m)
unfolding emit_methods
method-more x ps b m B M = record { grows = λ ms t. grow-more ((leaf-function x (length ps) (with_loops ps b) (block_body b (method_end x)) (whole-method x (with_loops ps b) b (part-block B))).grows 0 t) (M.grows _ _) }

leaf-class : (slots : List Name) (keep : Keeping) (x : Name) (m : Methods) (vs : List Attribute) → MethodPart m → Leaf (emit_stmt slots keep (class x m vs))
unfolding emit_stmt begin_class class_out
leaf-class slots keep x m vs M = record { at = λ p t. (leaf-end_class x _ _).at p _; grows = λ p t. grow-more (M.grows [] (begin_class x t)) ((leaf-end_class x _ _).grows p _) }

mutual
  unfolding emit_stmt walk_stmt emit_methods flows

  pub part-stmt : (l : Bool) (slots : List Name) (keep : Keeping) (a : Stmt) → OkS l a → Part l (emit_stmt slots keep a) (walk_stmt slots keep a)
  part-stmt l slots keep break k = part-break k
  part-stmt l slots keep continue k = part-continue k
  part-stmt l slots keep pass k = part-adds (leaf-emits none)
  part-stmt l slots keep (expr e) k = part-follow (part-expr l slots e) (part-adds (leaf-one (num refl refl refl)))
  part-stmt l slots keep (return e) k = part-follow (part-expr l slots e) part-leave
  part-stmt l slots keep (assign t v) k = part-assign l slots (view t) (part-expr l slots v)
  part-stmt l slots keep (if bs) k =
      let R = part-branches l slots keep bs k in
      record { at = λ p t. (R.at p t).0; grows = λ p t. R.grows p t }
  part-stmt l slots keep (while c b) k = part-loop (part-expr l slots c) (part-block (part-blocks true slots keep b k))
  part-stmt l slots keep (for x e b) k =
      part-follow (part-expr l slots e)
      (part-follow (part-adds leaf-make_iter)
      (part-kept keep (λ g.
      part-follow (part-adds (leaf-one (plain-store g)))
      (part-loop (part-adds (leaf-ask_iter g)) (part-follow (part-adds (leaf-take_iter slots x g)) (part-block (part-blocks true slots (past 1 keep) b k)))))))
  part-stmt l slots keep (def x ps b) k =
      part-silent
      (leaf-function x (length ps) (with_loops ps b) (block_body b (Return ∷ [])) (whole-block (with_loops ps b) b (part-block (part-blocks false (with_loops ps b).names (with_loops ps b).keep b k))))
      (function-silent x (length ps) (with_loops ps b) (block_body b (Return ∷ [])) _)
  part-stmt l slots keep (class x ms vs) k = part-adds (leaf-class slots keep x ms vs (part-methods ms k))

  pub part-blocks : (l : Bool) (slots : List Name) (keep : Keeping) (b : Block) → OkB l b → BlockPart l slots keep b
  part-blocks l slots keep []ᵇ k = block-nil slots keep
  part-blocks l slots keep (a ∷ᵇ b) k = block-cons keep a b (part-stmt l slots keep a k.0) (part-blocks l slots (past (loops_stmt a) keep) b k.1)

  part-branches : (l : Bool) (slots : List Name) (keep : Keeping) (r : Branches) → OkR l r → BranchPart l slots keep r
  part-branches l slots keep done k = branch-done slots keep
  part-branches l slots keep (else b) k = branch-else b (part-blocks l slots keep b k)
  part-branches l slots keep (when c b r) k = branch-when keep c b r (part-expr l slots c) (part-blocks l slots keep b k.0) (part-branches l slots (past (loops_block b) keep) r k.1)

  part-methods : (m : Methods) → OkM m → MethodPart m
  part-methods []ᵐ k = record { grows = λ ms t. grow-none }
  part-methods (method x ps b m) k = method-more x ps b m (part-blocks false (with_loops ps b).names (with_loops ps b).keep b k.0) (part-methods m k.1)

-- every function of a whole tree
pub all-good : (b : Block) → OkB false b → Pairs (compile b).tables.functions (compile b).sources
unfolding compile Lower.no_tables
all-good b k =
    let G = (leaf-function Lower.main 0 (names_only []) (block_body b (Return ∷ [])) (whole-block (names_only []) b (part-block (part-blocks false [] in_globals b k)))).grows 0 Lower.no_tables in
    rw G.functions G.good
