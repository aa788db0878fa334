-- The bytes of the rest of each part of a tree, by its position: kinds of statement, statements of a block, branches, methods.
use Prim.Native.Nat.{ℕ, zero, suc, ◌+◌, ◌-◌, ◌<◌, ◌≤◌}
use mathlib.Core.Path.{◌≡◌, refl, sym, ap, ◌∙◌, subst}
use mathlib.Core.Bool.{false}
use mathlib.Core.List.{List, [], ◌∷◌, ◌++◌, append_assoc}
use native.Mathlib.Omega.{arith}
use lib.ListN.{length, get_or}
use Rattle.definitions.specs.Bytes.{be, counted, list_bytes}
use Rattle.definitions.specs.Parse.{parse_stmt}
use Rattle.definitions.specs.Module.{name_bytes}
use Rattle.definitions.specs.Tree.{Stmt, break, continue, pass, expr, return, assign, if, while, for, def, class, Block, []ᵇ, ◌∷ᵇ◌, Branches, done, else, when, Methods, []ᵐ, method}
use Rattle.definitions.specs.TreeBytes.{size, elifs, method_count, expr_bytes, attribute_bytes, stmt_bytes, block_bytes, stmts_bytes, if_bytes, branches_bytes, methods_bytes}
use Rattle.definitions.specs.Rests.{is_pass, joined, rest_stmt, rest, rest_branches, rest_methods}
use Rattle.definitions.proofs.Truth.{true-false}
use Rattle.definitions.proofs.TreeStmts.{block-is, size-rest}
use Rattle.tree_view.specs.Places as Places
use Rattle.tree_view.specs.Places.{Node, node, count_at, name_end}
use Rattle.tree_view.proofs.Laws.{steady-counted}
use Rattle.tree_view.proofs.Nodes.{node-within}
use Rattle.tree_view.specs.ExprAt.{expr_at, second_at}
use Rattle.tree_view.specs.StmtAt.{stmt_at, block_at, stmts_at, branches_at, methods_at, StmtReads, BlockReads, StmtsRead, BranchesRead, MethodsRead}
use Rattle.tree_view.specs.StmtAt.{expr_stmt_at, return_at, assign_at, body_at, elifs_at, if_at, while_at, for_at, when_at, else_at, def_block_at, def_at, method_at, class_methods_at, class_at, cons_at}
use Rattle.tree_view.proofs.StmtLaws.{steady-S}
use Rattle.tree_view.proofs.StmtViews.{stmt-known, view-break, view-continue, view-pass, view-expr, view-return, view-assign, view-if, view-while, view-for, view-def, view-class}
use Rattle.tree_view.proofs.StmtViews.{stmts-size, view-block, view-stmts-none, view-stmts-more, view-branches-more, else-known, view-done, view-else, view-methods-none, view-methods-more}
use Rattle.instep.specs.Stepping.{rest_stmt_at, rest_stmts_at, rest_block_at, rest_branch_at, rest_branches_at, rest_if_at, rest_for_at, rest_def_at, rest_methods_at}

-- each of the eleven kinds
by_kind : (P : ℕ → Type 0) → P 0 → P 1 → P 2 → P 3 → P 4 → P 5 → P 6 → P 7 → P 8 → P 9 → P 10 → (k : ℕ) → k < 11 → P k
by_kind P a b c d e f g h i j l zero r = a
by_kind P a b c d e f g h i j l (suc zero) r = b
by_kind P a b c d e f g h i j l (suc (suc zero)) r = c
by_kind P a b c d e f g h i j l (suc (suc (suc zero))) r = d
by_kind P a b c d e f g h i j l (suc (suc (suc (suc zero)))) r = e
by_kind P a b c d e f g h i j l (suc (suc (suc (suc (suc zero))))) r = f
by_kind P a b c d e f g h i j l (suc (suc (suc (suc (suc (suc zero)))))) r = g
by_kind P a b c d e f g h i j l (suc (suc (suc (suc (suc (suc (suc zero))))))) r = h
by_kind P a b c d e f g h i j l (suc (suc (suc (suc (suc (suc (suc (suc zero)))))))) r = i
by_kind P a b c d e f g h i j l (suc (suc (suc (suc (suc (suc (suc (suc (suc zero))))))))) r = j
by_kind P a b c d e f g h i j l (suc (suc (suc (suc (suc (suc (suc (suc (suc (suc zero)))))))))) r = l
by_kind P a b c d e f g h i j l (suc (suc (suc (suc (suc (suc (suc (suc (suc (suc (suc k))))))))))) r = absurd (omega arith)

-- ---- counts

rest-elifs : (r : Branches) → elifs (rest_branches r) ≡ elifs r
unfolding elifs rest_branches
rest-elifs done = refl
rest-elifs (else b) = refl
rest-elifs (when c b r) = ap suc (rest-elifs r)

rest-methods : (ms : Methods) → method_count (rest_methods ms) ≡ method_count ms
unfolding method_count rest_methods
rest-methods []ᵐ = refl
rest-methods (method x ps b ms) = ap suc (rest-methods ms)

no-elifs : (d : ℕ) (t : List ℕ) (p k : ℕ) → BranchesRead d 0 t p → get_or t p 0 ≡ k → k < 2 → elifs (branches_at d 0 t p).value ≡ 0
unfolding elifs else_at
no-elifs d t p zero r e h = ap (λ (z : Node Branches). elifs z.value) (view-done d t p 0 (omega arith) r e)
no-elifs d t p (suc zero) r e h = ap (λ (z : Node Branches). elifs z.value) (view-else d t p 0 (omega arith) r e).is
no-elifs d t p (suc (suc k)) r e h = absurd (omega arith)

elifs-are : (d n : ℕ) (t : List ℕ) (p : ℕ) → BranchesRead d n t p → elifs (branches_at d n t p).value ≡ n
unfolding elifs when_at
elifs-are d zero t p r = no-elifs d t p (get_or t p 0) r refl (else-known d t p 0 (omega arith) r)
elifs-are d (suc n) t p r =
    let v = view-branches-more d t p (suc n) (omega arith) r in
    let m = (body_at d t p).end in
    let z : suc n - 1 ≡ n = omega arith in
    ap (λ (x : Node Branches). elifs x.value) v.is ∙ ap (λ (k : ℕ). suc (elifs (branches_at d k t m).value)) z
    ∙ ap suc (elifs-are d n t m (subst (λ (k : ℕ). BranchesRead d k t m) z v.parts.rest))

methods-are : (d n : ℕ) (t : List ℕ) (p : ℕ) → MethodsRead d n t p → method_count (methods_at d n t p).value ≡ n
unfolding method_count method_at
methods-are d zero t p r = ap (λ (x : Node Methods). method_count x.value) (view-methods-none d t p 0 (omega arith) r.start)
methods-are d (suc n) t p r =
    let v = view-methods-more d t p (suc n) (omega arith) r in
    let z : suc n - 1 ≡ n = omega arith in
    let m = (def_block_at d t p).end in
    ap (λ (x : Node Methods). method_count x.value) v.is ∙ ap (λ (k : ℕ). suc (method_count (methods_at d k t m).value)) z
    ∙ ap suc (methods-are d n t m (subst (λ (k : ℕ). MethodsRead d k t m) z v.parts.rest))

-- ---- the kinds of statement

-- the bytes of a part's rest are these, and it ends there
pub record Is (xs : List ℕ) (e : ℕ) (ys : List ℕ) (f : ℕ) : Type 0 where
  pub bytes : xs ≡ ys
  pub end : e ≡ f

module _ (d : ℕ) (t : List ℕ) (p : ℕ) (r : StmtReads d t p) where
  made_of : (y : Node Stmt) → stmt_at d t p ≡ y → Is (rest_stmt_at d t p) (stmt_at d t p).end (stmt_bytes (rest_stmt y.value)) y.end
  made_of y e = record { bytes = ap (λ (z : Node Stmt). stmt_bytes (rest_stmt z.value)) e; end = ap (λ (z : Node Stmt). z.end) e }

  simple-kind : (k : ℕ) → get_or t p 0 ≡ k → k < 3 → Is (rest_stmt_at d t p) (stmt_at d t p).end (k ∷ []) (p + 1)
  unfolding rest_stmt stmt_bytes
  simple-kind zero e h = made_of _ (view-break d t p r e)
  simple-kind (suc zero) e h = made_of _ (view-continue d t p r e)
  simple-kind (suc (suc zero)) e h = made_of _ (view-pass d t p r e)
  simple-kind (suc (suc (suc k))) e h = absurd (omega arith)

  pub simple-is : get_or t p 0 < 3 → Is (rest_stmt_at d t p) (stmt_at d t p).end (get_or t p 0 ∷ []) (p + 1)
  simple-is h = simple-kind (get_or t p 0) refl h

  pub expr-is : get_or t p 0 ≡ 3 → Is (rest_stmt_at d t p) (stmt_at d t p).end (3 ∷ expr_bytes (expr_at (d - 1) t (p + 1)).value) (expr_at (d - 1) t (p + 1)).end
  unfolding rest_stmt stmt_bytes expr_stmt_at
  expr-is e = made_of _ (view-expr d t p r e).is

  pub return-is : get_or t p 0 ≡ 4 → Is (rest_stmt_at d t p) (stmt_at d t p).end (4 ∷ expr_bytes (expr_at (d - 1) t (p + 1)).value) (expr_at (d - 1) t (p + 1)).end
  unfolding rest_stmt stmt_bytes return_at
  return-is e = made_of _ (view-return d t p r e).is

  pub assign-is : get_or t p 0 ≡ 5 → Is (rest_stmt_at d t p) (stmt_at d t p).end (5 ∷ (expr_bytes (expr_at (d - 1) t (p + 1)).value ++ expr_bytes (second_at (d - 1) t (p + 1)).value)) (second_at (d - 1) t (p + 1)).end
  unfolding rest_stmt stmt_bytes assign_at
  assign-is e = made_of _ (view-assign d t p r e).is

  pub if-is : get_or t p 0 ≡ 6 → Is (rest_stmt_at d t p) (stmt_at d t p).end (6 ∷ rest_if_at (d - 1) t (p + 1)) (elifs_at (d - 1) t (p + 1)).end
  unfolding rest_stmt rest_branches stmt_bytes if_bytes if_at
  if-is e =
      let v = view-if d t p r e in
      let M = made_of _ v.is in
      let m = (body_at (d - 1) t (p + 1)).end in
      let n = count_at t m in
      let k : elifs (rest_branches (elifs_at (d - 1) t (p + 1)).value) ≡ n = rest-elifs _ ∙ elifs-are (d - 1) n t (m + 2) v.parts.rest in
      record {
        bytes = M.bytes
            ∙ ap (λ (j : ℕ). 6 ∷ (expr_bytes (expr_at (d - 1) t (p + 1)).value ++ (block_bytes (rest (body_at (d - 1) t (p + 1)).value) ++ (be 2 j ++ rest_branches_at (d - 1) n t (m + 2))))) k
            ∙ ap (λ (xs : List ℕ). 6 ∷ xs) (sym (append_assoc (expr_bytes (expr_at (d - 1) t (p + 1)).value) (rest_block_at (d - 1) t (expr_at (d - 1) t (p + 1)).end) (be 2 n ++ rest_branches_at (d - 1) n t (m + 2))));
        end = M.end;
      }

  pub while-is : get_or t p 0 ≡ 7 → Is (rest_stmt_at d t p) (stmt_at d t p).end (7 ∷ rest_branch_at (d - 1) t (p + 1)) (body_at (d - 1) t (p + 1)).end
  unfolding rest_stmt stmt_bytes while_at
  while-is e = made_of _ (view-while d t p r e).is

  pub for-is : get_or t p 0 ≡ 8 → Is (rest_stmt_at d t p) (stmt_at d t p).end (8 ∷ rest_for_at (d - 1) t (p + 1)) (body_at (d - 1) t (name_end t (p + 1))).end
  unfolding rest_stmt stmt_bytes for_at
  for-is e = made_of _ (view-for d t p r e).is

  pub def_is : get_or t p 0 ≡ 9 → Is (rest_stmt_at d t p) (stmt_at d t p).end (9 ∷ rest_def_at (d - 1) t (p + 1)) (def_block_at (d - 1) t (p + 1)).end
  unfolding rest_stmt stmt_bytes def_at
  def_is e = made_of _ (view-def d t p r e).is

  -- what follows the name of a class
  abbrev class_tail : List ℕ
  class_tail = let n = count_at t (name_end t (p + 1)) in be 2 n ++ (rest_methods_at (d - 1) n t (name_end t (p + 1) + 2) ++ list_bytes 2 attribute_bytes [])

  pub class-is : get_or t p 0 ≡ 10 → rest_stmt_at d t p ≡ 10 ∷ (name_bytes (Places.name_from t (p + 1)) ++ class_tail)
  unfolding rest_stmt stmt_bytes class_at
  class-is e =
      let v = view-class d t p r e in
      let a = name_end t (p + 1) in
      let n = count_at t a in
      let k : method_count (rest_methods (class_methods_at (d - 1) t (p + 1)).value) ≡ n = rest-methods _ ∙ methods-are (d - 1) n t (a + 2) v.parts.methods in
      (made_of _ v.is).bytes
      ∙ ap (λ (j : ℕ). 10 ∷ (name_bytes (Places.name_from t (p + 1)) ++ (be 2 j ++ (rest_methods_at (d - 1) n t (a + 2) ++ list_bytes 2 attribute_bytes [])))) k

-- a part's bytes begin with its kind
pub record Begins (xs : List ℕ) (k : ℕ) : Type 0 where
  pub tail : List ℕ
  pub is : xs ≡ k ∷ tail

pub stmt-begins : (d : ℕ) (t : List ℕ) (p : ℕ) → StmtReads d t p → Begins (rest_stmt_at d t p) (get_or t p 0)
stmt-begins d t p r = by_kind (λ k. get_or t p 0 ≡ k → Begins (rest_stmt_at d t p) k)
    (λ e. simple 0 e (omega arith)) (λ e. simple 1 e (omega arith)) (λ e. simple 2 e (omega arith))
    (λ e. record { tail = _; is = (expr-is d t p r e).bytes })
    (λ e. record { tail = _; is = (return-is d t p r e).bytes })
    (λ e. record { tail = _; is = (assign-is d t p r e).bytes })
    (λ e. record { tail = _; is = (if-is d t p r e).bytes })
    (λ e. record { tail = _; is = (while-is d t p r e).bytes })
    (λ e. record { tail = _; is = (for-is d t p r e).bytes })
    (λ e. record { tail = _; is = (def_is d t p r e).bytes })
    (λ e. record { tail = _; is = class-is d t p r e })
    (get_or t p 0) (stmt-known d t p r) refl
  where
    simple : (k : ℕ) → get_or t p 0 ≡ k → k < 3 → Begins (rest_stmt_at d t p) k
    simple k e h = record { tail = []; is = (simple-is d t p r (rw e h)).bytes ∙ ap (λ (z : ℕ). z ∷ []) e }

-- ---- statements of a block

keep-rest : (s : Stmt) (b : Block) → is_pass s ≡ false → joined (rest_stmt s) b ≡ rest_stmt s ∷ᵇ b
unfolding joined is_pass rest_stmt
keep-rest break b e = refl
keep-rest continue b e = refl
keep-rest pass b e = true-false refl e
keep-rest (expr x) b e = refl
keep-rest (return x) b e = refl
keep-rest (assign t v) b e = refl
keep-rest (if bs) b e = refl
keep-rest (while c d) b e = refl
keep-rest (for x c d) b e = refl
keep-rest (def x ps d) b e = refl
keep-rest (class x ms vs) b e = refl

no-pass : (d : ℕ) (t : List ℕ) (p : ℕ) → StmtReads d t p → (get_or t p 0 ≡ 2 → ⊥) → is_pass (stmt_at d t p).value ≡ false
unfolding is_pass expr_stmt_at return_at assign_at if_at while_at for_at def_at class_at
no-pass d t p r n = by_kind (λ k. get_or t p 0 ≡ k → is_pass (stmt_at d t p).value ≡ false)
    (λ e. ap (λ (z : Node Stmt). is_pass z.value) (view-break d t p r e))
    (λ e. ap (λ (z : Node Stmt). is_pass z.value) (view-continue d t p r e))
    (λ e. absurd (n e))
    (λ e. ap (λ (z : Node Stmt). is_pass z.value) (view-expr d t p r e).is)
    (λ e. ap (λ (z : Node Stmt). is_pass z.value) (view-return d t p r e).is)
    (λ e. ap (λ (z : Node Stmt). is_pass z.value) (view-assign d t p r e).is)
    (λ e. ap (λ (z : Node Stmt). is_pass z.value) (view-if d t p r e).is)
    (λ e. ap (λ (z : Node Stmt). is_pass z.value) (view-while d t p r e).is)
    (λ e. ap (λ (z : Node Stmt). is_pass z.value) (view-for d t p r e).is)
    (λ e. ap (λ (z : Node Stmt). is_pass z.value) (view-def d t p r e).is)
    (λ e. ap (λ (z : Node Stmt). is_pass z.value) (view-class d t p r e).is)
    (get_or t p 0) (stmt-known d t p r) refl

module _ (d n : ℕ) (t : List ℕ) (p : ℕ) (h : 0 < n) (r : StmtsRead d n t p) where
  abbrev s : Stmt
  s = (stmt_at d t p).value

  abbrev more : Block
  more = (stmts_at d (n - 1) t (stmt_at d t p).end).value

  pub stmts-head : StmtReads d t p
  stmts-head = (view-stmts-more d n t p h r).parts.head

  rest-is : rest (stmts_at d n t p).value ≡ joined (rest_stmt s) (rest more)
  unfolding cons_at rest
  rest-is = ap (λ (z : Node Block). rest z.value) (view-stmts-more d n t p h r).is

  pub stmts-end : (stmts_at d n t p).end ≡ (stmts_at d (n - 1) t (stmt_at d t p).end).end
  unfolding cons_at
  stmts-end = ap (λ (z : Node Block). z.end) (view-stmts-more d n t p h r).is

  pub stmts-rest : StmtsRead d (n - 1) t (stmt_at d t p).end
  stmts-rest = (view-stmts-more d n t p h r).parts.rest

  -- a Pass is left out
  module _ (e : get_or t p 0 ≡ 2) where
    pass-end : (stmt_at d t p).end ≡ p + 1
    pass-end = ap (λ (z : Node Stmt). z.end) (view-pass d t p stmts-head e)

    pass-value : s ≡ pass
    pass-value = ap (λ (z : Node Stmt). z.value) (view-pass d t p stmts-head e)

    pub pass-reads : StmtsRead d (n - 1) t (p + 1)
    pass-reads = subst (λ (m : ℕ). StmtsRead d (n - 1) t m) pass-end stmts-rest

    pub pass-ends : (stmts_at d n t p).end ≡ (stmts_at d (n - 1) t (p + 1)).end
    pass-ends = stmts-end ∙ ap (λ (m : ℕ). (stmts_at d (n - 1) t m).end) pass-end

    pub pass-rest : rest (stmts_at d n t p).value ≡ rest (stmts_at d (n - 1) t (p + 1)).value
    unfolding joined is_pass rest_stmt
    pass-rest = rest-is ∙ ap (λ (z : Stmt). joined (rest_stmt z) (rest more)) pass-value ∙ ap (λ (m : ℕ). rest (stmts_at d (n - 1) t m).value) pass-end

  -- any other statement is kept
  module _ (e : get_or t p 0 ≡ 2 → ⊥) where
    kept-rest : rest (stmts_at d n t p).value ≡ rest_stmt s ∷ᵇ rest more
    kept-rest = rest-is ∙ keep-rest s (rest more) (no-pass d t p stmts-head e)

    pub kept-size : size (rest (stmts_at d n t p).value) ≡ suc (size (rest (stmts_at d (n - 1) t (stmt_at d t p).end).value))
    unfolding size
    kept-size = ap size kept-rest

    pub kept-bytes : rest_stmts_at d n t p ≡ rest_stmt_at d t p ++ rest_stmts_at d (n - 1) t (stmt_at d t p).end
    unfolding stmts_bytes
    kept-bytes = ap stmts_bytes kept-rest

pub stmts-within : (d n : ℕ) (t : List ℕ) (p : ℕ) → StmtsRead d n t p → (stmts_at d n t p).end ≤ length t
stmts-within d n t p r = node-within []ᵇ (counted []ᵇ ◌∷ᵇ◌ (parse_stmt d) n) t p (steady-counted []ᵇ ◌∷ᵇ◌ (steady-S d) n) r

-- no more are kept than there are
pub kept-few : (d n : ℕ) (t : List ℕ) (p : ℕ) → StmtsRead d n t p → size (rest (stmts_at d n t p).value) ≤ n
kept-few d n t p r = omega (arith, size-rest (stmts_at d n t p).value, stmts-size d n t p r)

-- no statements
pub none_is : (d n : ℕ) (t : List ℕ) (p : ℕ) → n ≤ 0 → StmtsRead d n t p → stmts_at d n t p ≡ node []ᵇ p
none_is d n t p h r = view-stmts-none d n t p h r.start

pub none-size : (d n : ℕ) (t : List ℕ) (p : ℕ) → n ≤ 0 → StmtsRead d n t p → size (rest (stmts_at d n t p).value) ≡ 0
unfolding rest size
none-size d n t p h r = ap (λ (z : Node Block). size (rest z.value)) (none_is d n t p h r)

-- where nothing is kept, all are Pass statements, of a byte each
pub record Bare (d n : ℕ) (t : List ℕ) (p : ℕ) : Type 0 where
  pub bytes : rest_stmts_at d n t p ≡ []
  pub end : (stmts_at d n t p).end ≡ p + n

one_less : (n : ℕ) → suc n - 1 ≡ n
one_less n = omega arith

pub all-passes : (d n : ℕ) (t : List ℕ) (p : ℕ) → StmtsRead d n t p → size (rest (stmts_at d n t p).value) ≡ 0 → Bare d n t p
unfolding rest stmts_bytes
all-passes d zero t p r h = record {
  bytes = ap (λ (z : Node Block). stmts_bytes (rest z.value)) (none_is d 0 t p (omega arith) r);
  end = ap (λ (z : Node Block). z.end) (none_is d 0 t p (omega arith) r) ∙ (let z : p ≡ p + 0 = omega arith in z);
}
all-passes d (suc n) t p r h = go (get_or t p 0) refl (all-passes d n t (p + 1))
  where
    one : 0 < suc n
    one = omega arith

    onward : get_or t p 0 ≡ 2 → (StmtsRead d n t (p + 1) → size (rest (stmts_at d n t (p + 1)).value) ≡ 0 → Bare d n t (p + 1)) → Bare d (suc n) t p
    onward e f =
        let z = one_less n in
        let x = pass-rest d (suc n) t p one r e ∙ ap (λ (k : ℕ). rest (stmts_at d k t (p + 1)).value) z in
        let B = f (subst (λ (k : ℕ). StmtsRead d k t (p + 1)) z (pass-reads d (suc n) t p one r e)) (sym (ap size x) ∙ h) in
        record {
          bytes = ap stmts_bytes x ∙ B.bytes;
          end = pass-ends d (suc n) t p one r e ∙ ap (λ (k : ℕ). (stmts_at d k t (p + 1)).end) z ∙ B.end ∙ (let z : p + 1 + n ≡ p + suc n = omega arith in z);
        }

    kept : (get_or t p 0 ≡ 2 → ⊥) → Bare d (suc n) t p
    kept e = let z = kept-size d (suc n) t p one r e in absurd (omega arith)

    go : (k : ℕ) → get_or t p 0 ≡ k → (StmtsRead d n t (p + 1) → size (rest (stmts_at d n t (p + 1)).value) ≡ 0 → Bare d n t (p + 1)) → Bare d (suc n) t p
    go zero e f = kept (λ z. absurd (omega arith))
    go (suc zero) e f = kept (λ z. absurd (omega arith))
    go (suc (suc zero)) e f = onward e f
    go (suc (suc (suc k))) e f = kept (λ z. absurd (omega arith))

-- ---- blocks

module _ (d : ℕ) (t : List ℕ) (a n : ℕ) (r : BlockReads d t a) (e : n ≡ count_at t a) where
  pub block_reads : StmtsRead d n t (a + 2)
  block_reads = subst (λ (m : ℕ). StmtsRead d m t (a + 2)) (sym e) (view-block d t a r).parts.statements

  node-is : block_at d t a ≡ stmts_at d n t (a + 2)
  node-is = (view-block d t a r).is ∙ ap (λ (m : ℕ). stmts_at d m t (a + 2)) (sym e)

  pub block-end : (block_at d t a).end ≡ (stmts_at d n t (a + 2)).end
  block-end = ap (λ (z : Node Block). z.end) node-is

  pub block-bytes : rest_block_at d t a ≡ be 2 (size (rest (stmts_at d n t (a + 2)).value)) ++ rest_stmts_at d n t (a + 2)
  block-bytes = ap (λ (z : Node Block). block_bytes (rest z.value)) node-is ∙ block-is (rest (stmts_at d n t (a + 2)).value)

-- ---- branches and methods

module _ (d n : ℕ) (t : List ℕ) (p : ℕ) (h : 0 < n) (r : BranchesRead d n t p) where
  pub branches-bytes : rest_branches_at d n t p ≡ rest_branch_at d t p ++ rest_branches_at d (n - 1) t (body_at d t p).end
  unfolding when_at rest_branches branches_bytes
  branches-bytes =
      ap (λ (z : Node Branches). branches_bytes (rest_branches z.value)) (view-branches-more d t p n h r).is
      ∙ sym (append_assoc (expr_bytes (expr_at d t p).value) (rest_block_at d t (expr_at d t p).end) (rest_branches_at d (n - 1) t (body_at d t p).end))

  pub branches-end : (branches_at d n t p).end ≡ (branches_at d (n - 1) t (body_at d t p).end).end
  unfolding when_at
  branches-end = ap (λ (z : Node Branches). z.end) (view-branches-more d t p n h r).is

module _ (d : ℕ) (t : List ℕ) (p : ℕ) (r : BranchesRead d 0 t p) where
  pub done-is : get_or t p 0 ≡ 0 → Is (rest_branches_at d 0 t p) (branches_at d 0 t p).end (0 ∷ []) (p + 1)
  unfolding rest_branches branches_bytes
  done-is e = let v = view-done d t p 0 (omega arith) r e in record { bytes = ap (λ (z : Node Branches). branches_bytes (rest_branches z.value)) v; end = ap (λ (z : Node Branches). z.end) v }

  pub else_is : get_or t p 0 ≡ 1 → Is (rest_branches_at d 0 t p) (branches_at d 0 t p).end (1 ∷ rest_block_at d t (p + 1)) (block_at d t (p + 1)).end
  unfolding rest_branches branches_bytes else_at
  else_is e = let v = (view-else d t p 0 (omega arith) r e).is in record { bytes = ap (λ (z : Node Branches). branches_bytes (rest_branches z.value)) v; end = ap (λ (z : Node Branches). z.end) v }

  else-kind : (k : ℕ) → get_or t p 0 ≡ k → k < 2 → Begins (rest_branches_at d 0 t p) k
  else-kind zero e h = record { tail = []; is = (done-is e).bytes }
  else-kind (suc zero) e h = record { tail = _; is = (else_is e).bytes }
  else-kind (suc (suc k)) e h = absurd (omega arith)

  pub else-begins : Begins (rest_branches_at d 0 t p) (get_or t p 0)
  else-begins = else-kind (get_or t p 0) refl (else-known d t p 0 (omega arith) r)

module _ (d n : ℕ) (t : List ℕ) (p : ℕ) (h : 0 < n) (r : MethodsRead d n t p) where
  pub methods-bytes : rest_methods_at d n t p ≡ rest_def_at d t p ++ rest_methods_at d (n - 1) t (def_block_at d t p).end
  unfolding method_at rest_methods methods_bytes
  methods-bytes =
      ap (λ (z : Node Methods). methods_bytes (rest_methods z.value)) (view-methods-more d t p n h r).is ∙ simp append_assoc

  pub methods-end : (methods_at d n t p).end ≡ (methods_at d (n - 1) t (def_block_at d t p).end).end
  unfolding method_at
  methods-end = ap (λ (z : Node Methods). z.end) (view-methods-more d t p n h r).is

pub no-methods : (d n : ℕ) (t : List ℕ) (p : ℕ) → n ≤ 0 → MethodsRead d n t p → Is (rest_methods_at d n t p) (methods_at d n t p).end [] p
unfolding rest_methods methods_bytes
no-methods d n t p h r = let v = view-methods-none d t p n h r.start in record {
  bytes = ap (λ (z : Node Methods). methods_bytes (rest_methods z.value)) v;
  end = ap (λ (z : Node Methods). z.end) v;
}
