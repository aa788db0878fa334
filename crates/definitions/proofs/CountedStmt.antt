-- A statement has as many instructions as its measure says.
use mathlib.Core.Path.{◌≡◌, refl, sym, ap, ◌∙◌}
use mathlib.Core.Bool.{Bool, true, false, ◌&&◌}
use mathlib.Core.List.{List, [], ◌∷◌, ◌++◌}
use Prim.Native.Nat.{ℕ, zero, suc, ◌+◌}
use native.Mathlib.Omega.{arith}
use lib.Seq.{append_snoc}
use lib.ListN.{length, length-append, set}
use Rattle.definitions.specs.Bytes.{Name, all}
use Rattle.definitions.specs.Tree.{Display, Expr, lit, var, unary, binary, logical, call, attr, display, index, lambda, Exprs, []ᵉ, ◌∷ᵉ◌}
use Rattle.definitions.specs.Tree.{list_d, tuple_d, dict_d, set_d, tree_set_d, View, as_var, as_attr, as_index, as_tuple, as_other, view, view_display, Attribute}
use Rattle.definitions.specs.Tree.{Stmt, break, continue, pass, expr, return, assign, if, while, for, def, class}
use Rattle.definitions.specs.Tree.{Block, []ᵇ, ◌∷ᵇ◌, Branches, done, else, when, Methods, []ᵐ, method}
use Rattle.definitions.specs.Wellformed.{is_tuple, if_asked, ask_name, ask_params, ask_method, ask_attribute, ask_expr, ask_target, ask_stmt, ask_block, ask_branches, ask_methods}
use Rattle.definitions.specs.Slots.{Keeping, in_globals, in_slots, past, with_loops, loops_stmt, loops_block}
use Rattle.definitions.specs.Instruction
use Rattle.definitions.specs.Instruction.{Instr, Return}
use Rattle.definitions.specs.Tables.{Method, Class, Tables, block_body, Emit, with_classes, add_constant, emits, one, ◌⨟◌, function}
use Rattle.definitions.specs.Lower
use Rattle.definitions.specs.Lower.{copy, emit_expr, emit_target, unpack, assign_by, make_iter, Keeper, global, local, named_iter, kept_iter, store_iter, iter_name, ask_iter, take_iter, method_end}
use Rattle.definitions.specs.Lower.{begin_class, class_object, end_class, class_out, emit_stmt, emit_block, emit_branches, emit_methods, Members, patch}
use Rattle.definitions.specs.Measured.{SoFar, add_function, add_class, after_stmt, after_block, after_branches, after_methods, measure_expr, measure_copy, measure_target, measure_unpack, measure_assign, measure_loop}
use Rattle.definitions.specs.Measured.{measure_for, measure_stmt, measure_block, measure_branches, measure_hop}
use Rattle.definitions.proofs.Truth.{left, right}
use Rattle.definitions.proofs.Shape.{length-patch}
use Rattle.definitions.proofs.SoFarNames.{class_names, names-snoc, names-middle, names-length, Knows, knows-like, knows-class}
use Rattle.definitions.proofs.Counted.{More, more-none, more-then, Gives, Counted, CountedSame, counted-emits, counted-one, counted-seq, counted-symbol, counted-here, counted-function}
use Rattle.definitions.proofs.CountedExpr.{counted-store, counted-expr}

-- ---- targets

counted-copy : (i : ℕ) → CountedSame (λ k. measure_copy i) (copy i)
unfolding copy measure_copy
counted-copy zero = counted-emits []
counted-copy (suc i) = counted-one _

counted-tuple : (b : Bool) {n : ℕ} {e : Emit} → CountedSame (λ k. n) e → CountedSame (λ k. elim b as (λ z. ℕ) [ true ↦ n | false ↦ 0 ]) (elim b as (λ z. Emit) [ true ↦ e | false ↦ emits [] ])
counted-tuple true E = E
counted-tuple false E = counted-emits []

mutual
  unfolding emit_target unpack measure_target measure_unpack

  pub counted-target : (slots : List Name) (e : Expr) → CountedSame (λ k. measure_target e) (emit_target slots e)
  counted-target slots (lit l) = counted-emits []
  counted-target slots (var x) = counted-store slots x
  counted-target slots (unary op e) = counted-emits []
  counted-target slots (binary op l r) = counted-emits []
  counted-target slots (logical op l r) = counted-emits []
  counted-target slots (call f es) = counted-emits []
  counted-target slots (attr o x) = counted-emits []
  counted-target slots (display d es) = counted-tuple (is_tuple d) (counted-unpack slots es 0)
  counted-target slots (index o i) = counted-emits []
  counted-target slots (lambda ps b) = counted-emits []

  pub counted-unpack : (slots : List Name) (es : Exprs) (i : ℕ) → CountedSame (λ k. measure_unpack es i) (unpack slots es i)
  counted-unpack slots []ᵉ i = counted-emits []
  counted-unpack slots (e ∷ᵉ es) i = counted-seq (counted-unpack slots es (suc i)) (counted-seq (counted-copy i) (counted-seq (counted-emits (Instruction.ConstI64 i ∷ Instruction.LoadIndex ∷ [])) (counted-target slots e)))

-- the expressions in a target's form have names
abbrev pub AskedView : View → Type 0
AskedView (as_var x) = Unit {0}
AskedView (as_attr o x) = ask_expr 7 o ≡ true
AskedView (as_index o i) = (ask_expr 7 o ≡ true) × (ask_expr 7 i ≡ true)
AskedView (as_tuple es) = Unit {0}
AskedView as_other = Unit {0}

asked-display : (d : Display) (es : Exprs) → AskedView (view_display d es)
unfolding view_display
asked-display list_d es = tt
asked-display tuple_d es = tt
asked-display dict_d es = tt
asked-display set_d es = tt
asked-display tree_set_d es = tt

-- what is asked of a target is asked of its expression
pub target-asked : (t : Expr) → ask_target 7 t ≡ true → ask_expr 7 t ≡ true
unfolding ask_target if_asked
target-asked t h = h

pub asked-view : (e : Expr) → ask_expr 7 e ≡ true → AskedView (view e)
unfolding view ask_expr
asked-view (lit l) h = tt
asked-view (var x) h = tt
asked-view (unary op e) h = tt
asked-view (binary op l r) h = tt
asked-view (logical op l r) h = tt
asked-view (call f es) h = tt
asked-view (attr o x) h = left (ask_expr 7 o) (ask_name 7 x) h
asked-view (display d es) h = asked-display d es
asked-view (index o i) h = (left (ask_expr 7 o) (ask_expr 7 i) h, right (ask_expr 7 o) (ask_expr 7 i) h)
asked-view (lambda ps b) h = tt

counted-assign : {n : SoFar → ℕ} (v : View) (slots : List Name) {e : Emit} → AskedView v → CountedSame n e → CountedSame (λ k. measure_assign v slots k (n k)) (assign_by v slots e)
unfolding assign_by measure_assign
counted-assign (as_var x) slots h E = counted-seq E (counted-store slots x)
counted-assign (as_attr o x) slots h E = counted-seq (counted-expr slots o h) (counted-seq E (counted-symbol x (λ j. counted-one _)))
counted-assign (as_index o i) slots h E = counted-seq (counted-expr slots o h.0) (counted-seq (counted-expr slots i h.1) (counted-seq E (counted-one _)))
counted-assign (as_tuple es) slots h E = counted-seq E (counted-unpack slots es 0)
counted-assign as_other slots h E = counted-emits []

-- ---- loops

counted-loop : {m n : SoFar → ℕ} {g : SoFar → SoFar} {e d : Emit} → CountedSame m e → Counted n g d → Counted (λ k. measure_loop (m k) (n k)) g (Lower.loop e d)
unfolding Lower.loop measure_loop
counted-loop {e} {d} E D = record {
  at = λ k p t K.
      let a = E.at k p t K in
      let q = suc (p + length (e p t).code) in
      let o = d q (e p t).tables in
      let b = D.at k q (e p t).tables a.knows in
      let h = suc (length (e p t).code) in
      let n = length o.code in
      let close = Instruction.Jump (Instruction.minus (suc (h + n))) ∷ [] in
      record {
        count = omega (arith, length-append (e p t).code (Instruction.JumpIfFalse (suc n) ∷ patch h n 0 o.code ++ close), length-append (patch h n 0 o.code) close, length-patch h n 0 o.code, a.count, b.count);
        knows = b.knows;
        more = more-then a.more b.more;
      };
}

pub counted-make_iter : CountedSame (λ k. 1) make_iter
unfolding make_iter
counted-make_iter = counted-symbol _ (λ j. counted-one _)

pub counted-ask_iter : (g : Keeper) → CountedSame (λ k. 2) (ask_iter g)
unfolding ask_iter
counted-ask_iter g = counted-seq (counted-one _) (counted-symbol _ (λ j. counted-one _))

pub counted-take_iter : (slots : List Name) (x : Name) (g : Keeper) → CountedSame (λ k. 3) (take_iter slots x g)
unfolding take_iter
counted-take_iter slots x g = counted-seq (counted-one _) (counted-seq (counted-symbol _ (λ j. counted-one _)) (counted-store slots x))

counted-iter : {n : SoFar → ℕ} {g : SoFar → SoFar} {f : ℕ → Emit} → ((j : ℕ) → Counted n g (f j)) → Counted n g (named_iter f)
unfolding named_iter
counted-iter F = counted-here (λ q. counted-symbol (iter_name q) F)

counted-kept : {n : SoFar → ℕ} {g : SoFar → SoFar} {f : Keeper → Emit} (keep : Keeping) → ((j : Keeper) → Counted n g (f j)) → Counted n g (kept_iter keep f)
unfolding kept_iter
counted-kept in_globals F = counted-iter (λ j. F (global j))
counted-kept (in_slots n) F = F (local n)

-- a for: the code of its iterable, and that of its block
counted-for : {m n : SoFar → ℕ} {g : SoFar → SoFar} (slots : List Name) (keep : Keeping) (x : Name) {e d : Emit} → CountedSame m e → Counted n g d
    → Counted (λ k. measure_for (m k) (n k)) g (e ⨟ make_iter ⨟ kept_iter keep (λ j. one (store_iter j) ⨟ Lower.loop (ask_iter j) (take_iter slots x j ⨟ d)))
unfolding measure_for
counted-for slots keep x E D =
    counted-seq E (counted-seq counted-make_iter
    (counted-kept keep (λ j. counted-seq (counted-one _) (counted-loop (counted-ask_iter j) (counted-seq (counted-take_iter slots x j) D)))))

-- ---- classes

counted-object : (c j : ℕ) → CountedSame (λ k. 2) (class_object c j)
unfolding class_object
counted-object c j = record { at = λ k p t K. record { count = refl; knows = knows-like k t (add_constant c t) refl refl refl K; more = more-none } }

-- the methods of a class
pub record CountedMethods (after : SoFar → SoFar) (m : Methods) : Type 0 where
  pub knows : (k : SoFar) (ms : List Method) (t : Tables) → Knows k t → Knows (after k) (emit_methods m ms t).tables
  pub more : (k : SoFar) (ms : List Method) (t : Tables) → Knows k t → More (class_names t.classes) (class_names (emit_methods m ms t).tables.classes)

-- a class that has begun: its name stands after those before it
class-names : (t : Tables) (x : Name) (cs : List Class) → More (class_names (begin_class x t).classes) (class_names cs) → (ys : List Name) × (class_names cs ≡ class_names t.classes ++ (x ∷ ys))
unfolding begin_class
class-names t x cs M = (M.new, M.all ∙ ap (λ (xs : List Name). xs ++ M.new) (names-snoc t.classes (record { name = x; methods = [] })) ∙ append_snoc (class_names t.classes) x M.new)

counted-class : {g : SoFar → SoFar} (slots : List Name) (keep : Keeping) (x : Name) (m : Methods) (vs : List Attribute) → CountedMethods g m → Counted (λ k. 2) (λ k. g (add_class x k)) (emit_stmt slots keep (class x m vs))
unfolding emit_stmt class_out end_class
counted-class {g} slots keep x m vs M = record { at = λ k p t K. go k p t (emit_methods m [] (begin_class x t)) (M.knows (add_class x k) [] (begin_class x t) (begun k t K)) (M.more (add_class x k) [] (begin_class x t) (begun k t K)) }
  where
    begun : (k : SoFar) (t : Tables) → Knows k t → Knows (add_class x k) (begin_class x t)
    begun k t K = unfold begin_class in knows-class k (record { name = x; methods = [] }) t K

    go : (k : SoFar) (p : ℕ) (t : Tables) (o : Members) → Knows (g (add_class x k)) o.tables → More (class_names (begin_class x t).classes) (class_names o.tables.classes)
        → Gives 2 (g (add_class x k)) t (class_out x (length t.classes) o p)
    go k p t o K M =
        let c = length t.classes in
        let N = class-names t x o.tables.classes M in
        let e = names-middle o.tables.classes x o.methods (class_names t.classes) N.0 c (sym (names-length t.classes)) N.1 in
        let u = with_classes (set o.tables.classes c (record { name = x; methods = o.methods })) o.tables in
        let r = (counted-symbol x (λ j. counted-object c j)).at (g (add_class x k)) p u (knows-like (g (add_class x k)) o.tables u refl refl e K) in
        record { count = r.count; knows = r.knows; more = more-then (record { new = x ∷ N.0; all = e ∙ N.1 }) r.more }

-- ---- branches

-- what the branches of an if give, and how far the end jump before them goes
pub record CountedBranches (slots : List Name) (keep : Keeping) (r : Branches) : Type 0 where
  pub at : (k : SoFar) (p : ℕ) (t : Tables) → Knows k t → Gives (measure_branches slots k r) (after_branches r k) t (emit_branches slots keep r p t).out
  pub hops : (k : SoFar) (p : ℕ) (t : Tables) → Knows k t → (emit_branches slots keep r p t).hop ≡ measure_hop slots k r

abbrev pub CountedBlock : List Name → Keeping → Block → Type 0
CountedBlock slots keep b = Counted (λ k. measure_block slots k b) (after_block b) (emit_block slots keep b)

branches-done : (slots : List Name) (keep : Keeping) → CountedBranches slots keep done
unfolding emit_branches measure_branches after_branches measure_hop emits
branches-done slots keep = record { at = λ k p t K. record { count = refl; knows = K; more = more-none }; hops = λ k p t K. refl }

branches-else : (slots : List Name) (keep : Keeping) (b : Block) → CountedBlock slots keep b → CountedBranches slots keep (else b)
unfolding emit_branches measure_branches after_branches measure_hop
branches-else slots keep b B = record { at = B.at; hops = λ k p t K. (B.at k p t K).count }

branches-when : (slots : List Name) (keep : Keeping) (c : Expr) (b : Block) (r : Branches) → CountedSame (λ k. measure_expr slots k c) (emit_expr slots c) → CountedBlock slots keep b
    → CountedBranches slots (past (loops_block b) keep) r → CountedBranches slots keep (when c b r)
unfolding emit_branches measure_branches after_branches measure_hop
branches-when slots keep c b r C B R = record {
  at = λ k p t K.
      let a = emit_expr slots c p t in
      let q = suc (p + length a.code) in
      let o = emit_block slots keep b q a.tables in
      let z = emit_branches slots (past (loops_block b) keep) r (q + suc (length o.code)) o.tables in
      let A = C.at k p t K in
      let O = B.at k q a.tables A.knows in
      let Z = R.at (after_block b k) (q + suc (length o.code)) o.tables O.knows in
      let rest = Instruction.Jump z.hop ∷ z.out.code in
      record {
        count = omega (arith, length-append a.code (Instruction.JumpIfFalse (suc (length o.code)) ∷ o.code ++ rest), length-append o.code rest, A.count, O.count, Z.count);
        knows = Z.knows;
        more = more-then A.more (more-then O.more Z.more);
      };
  hops = λ k p t K.
      let a = emit_expr slots c p t in
      let A = C.at k p t K in
      let O = B.at k (suc (p + length a.code)) a.tables A.knows in
      omega (arith, A.count, O.count);
}

-- ---- methods

counted-body : {n : SoFar → ℕ} {g : SoFar → SoFar} {e : Emit} (end : List Instr) → Counted n g e → Counted (λ k. n k + length end) g (e ⨟ emits end)
counted-body end E = counted-seq E (counted-emits end)

methods-more : {g : SoFar → SoFar} (x : Name) (ps : List Name) (b : Block) (m : Methods) → CountedBlock (with_loops ps b).names (with_loops ps b).keep b → CountedMethods g m
    → CountedMethods (λ k. g (after_block b (add_function x k))) (method x ps b m)
unfolding emit_methods
methods-more {g} x ps b m B M = record {
  knows = λ k ms t K. M.knows (after_block b (add_function x k)) _ _ (one-more k t K).knows;
  more = λ k ms t K. more-then (one-more k t K).more (M.more (after_block b (add_function x k)) _ _ (one-more k t K).knows);
}
  where
    one-more : (k : SoFar) (t : Tables) → Knows k t
        → Gives 0 (after_block b (add_function x k)) t (function x (length ps) (with_loops ps b) (block_body b (method_end x)) (emit_block (with_loops ps b).names (with_loops ps b).keep b ⨟ emits (method_end x)) 0 t)
    one-more k t K = (counted-function x (length ps) (with_loops ps b) (block_body b (method_end x)) (counted-body (method_end x) B)).at k 0 t K

-- ---- statements

mutual
  unfolding emit_stmt emit_block emit_methods measure_stmt measure_block after_stmt after_block after_methods ask_stmt ask_block ask_branches ask_methods ask_target

  pub counted-stmt : (l : Bool) (slots : List Name) (keep : Keeping) (a : Stmt) → ask_stmt 7 l a ≡ true → Counted (λ k. measure_stmt slots k a) (after_stmt a) (emit_stmt slots keep a)
  counted-stmt l slots keep break h = counted-one _
  counted-stmt l slots keep continue h = counted-one _
  counted-stmt l slots keep pass h = counted-emits []
  counted-stmt l slots keep (expr e) h = counted-seq (counted-expr slots e h) (counted-one _)
  counted-stmt l slots keep (return e) h = counted-seq (counted-expr slots e h) (counted-one _)
  counted-stmt l slots keep (assign t v) h =
      counted-assign (view t) slots (asked-view t (target-asked t (left (ask_target 7 t) (ask_expr 7 v) h))) (counted-expr slots v (right (ask_target 7 t) (ask_expr 7 v) h))
  counted-stmt l slots keep (if bs) h = record { at = λ k p t K. (counted-branches l slots keep bs h).at k p t K }
  counted-stmt l slots keep (while c b) h = counted-loop (counted-expr slots c (left (ask_expr 7 c) (ask_block 7 true b) h)) (counted-block true slots keep b (right (ask_expr 7 c) (ask_block 7 true b) h))
  counted-stmt l slots keep (for x e b) h =
      counted-for slots keep x (counted-expr slots e (right (ask_name 7 x) (ask_expr 7 e) (left (ask_name 7 x && ask_expr 7 e) (ask_block 7 true b) h)))
      (counted-block true slots (past 1 keep) b (right (ask_name 7 x && ask_expr 7 e) (ask_block 7 true b) h))
  counted-stmt l slots keep (def x ps b) h =
      counted-function x (length ps) (with_loops ps b) (block_body b (Return ∷ []))
      (counted-body (Return ∷ []) (counted-block false (with_loops ps b).names (with_loops ps b).keep b (right (ask_name 7 x && ask_params 7 ps) (ask_block 7 false b) h)))
  counted-stmt l slots keep (class x ms vs) h = counted-class slots keep x ms vs (counted-methods ms (right (ask_name 7 x) (ask_methods 7 ms) (left (ask_name 7 x && ask_methods 7 ms) (all (ask_attribute 7) vs) h)))

  pub counted-block : (l : Bool) (slots : List Name) (keep : Keeping) (b : Block) → ask_block 7 l b ≡ true → CountedBlock slots keep b
  counted-block l slots keep []ᵇ h = counted-emits []
  counted-block l slots keep (a ∷ᵇ b) h = counted-seq (counted-stmt l slots keep a (left (ask_stmt 7 l a) (ask_block 7 l b) h)) (counted-block l slots (past (loops_stmt a) keep) b (right (ask_stmt 7 l a) (ask_block 7 l b) h))

  pub counted-branches : (l : Bool) (slots : List Name) (keep : Keeping) (r : Branches) → ask_branches 7 l r ≡ true → CountedBranches slots keep r
  counted-branches l slots keep done h = branches-done slots keep
  counted-branches l slots keep (else b) h = branches-else slots keep b (counted-block l slots keep b h)
  counted-branches l slots keep (when c b r) h =
      let s = left (ask_expr 7 c && ask_block 7 l b) (ask_branches 7 l r) h in
      branches-when slots keep c b r (counted-expr slots c (left (ask_expr 7 c) (ask_block 7 l b) s)) (counted-block l slots keep b (right (ask_expr 7 c) (ask_block 7 l b) s))
      (counted-branches l slots (past (loops_block b) keep) r (right (ask_expr 7 c && ask_block 7 l b) (ask_branches 7 l r) h))

  pub counted-methods : (m : Methods) → ask_methods 7 m ≡ true → CountedMethods (after_methods m) m
  counted-methods []ᵐ h = record { knows = λ k ms t K. K; more = λ k ms t K. more-none }
  counted-methods (method x ps b m) h =
      let s = left (ask_method 7 x ps && ask_block 7 false b) (ask_methods 7 m) h in
      methods-more x ps b m (counted-block false (with_loops ps b).names (with_loops ps b).keep b (right (ask_method 7 x ps) (ask_block 7 false b) s))
      (counted-methods m (right (ask_method 7 x ps && ask_block 7 false b) (ask_methods 7 m) h))
