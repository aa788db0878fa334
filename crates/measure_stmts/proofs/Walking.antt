-- What each way out of a measure of statements shows.
use Prim.Native.Nat.{ℕ, ◌+◌, ◌-◌, ◌≤◌}
use mathlib.Core.Path.{◌≡◌, refl, sym, ap, ◌∙◌, subst}
use mathlib.Core.List.{List}
use mathlib.Core.Logic.{◌⊎◌, inl, inr}
use native.Mathlib.Omega.{arith}
use lib.ListN.{length, get_or}
use Rattle.std.specs.Prelude.{Option, Some, None}
use Rattle.definitions.specs.Bytes.{Name}
use Rattle.definitions.specs.Tree.{view, Stmt, []ᵇ, Branches}
use Rattle.definitions.specs.Parse.{parse_stmt, block_of}
use Rattle.definitions.specs.Measured.{SoFar, add_function, add_class, measure_expr, measure_assign, measure_loop, measure_for, measure_stmt, measure_block, measure_branches}
use Rattle.definitions.specs.Measured.{after_stmt, after_block, after_branches, after_methods}
use Rattle.numerals.specs.Kinds.{stmt_byte}
use Rattle.numerals.specs.declared.kinds.StmtKind.{StmtKind}
use Rattle.numerals.specs.declared.kinds.StmtKind.TheVariants.{Break, Continue, Pass, Expr, Return, Assign, If, While, For, Def, Class}
use Rattle.tree_view.specs.Places.{Node, count_at, name_end}
use Rattle.tree_view.proofs.Nodes.{Seen, node-within}
use Rattle.tree_view.proofs.StmtLaws.{steady-B}
use Rattle.tree_view.specs.ExprAt.{expr_at, ExprReads, second_at, TwoAt}
use Rattle.tree_view.specs.StmtAt.{stmt_at, block_at, branches_at, StmtReads, BlockReads, BranchesRead, BranchAt, body_at, IfAt, elifs_at, ForAt}
use Rattle.tree_view.specs.StmtAt.{DefAt, def_block_at, ClassAt, class_methods_at}
use Rattle.tree_view.specs.StmtAt.{expr_stmt_at, return_at, assign_at, if_at, while_at, for_at, def_at, class_at}
use Rattle.tree_view.proofs.StmtViews.{view-break, view-continue, view-pass, view-expr, view-return, view-assign, view-if, view-while, view-for, view-def, view-class, branches-within}
use Rattle.state.specs.Words.{name_at}
use Rattle.state.specs.State.{slot_names}
use Rattle.slots.proofs.Adding.{name-bytes}
use Rattle.measure.specs.declared.measurer.Measurer.{Measurer}
use Rattle.measure.specs.declared.Measure.{Measure}
use Rattle.measure.specs.Known.{names_in}
use Rattle.measure.specs.Sized.{Sized}
use Rattle.measure_stmts.specs.declared.begun.Begun.{Begun}
use Rattle.measure_stmts.specs.Heads.{heads_stmt, heads_block, heads_branches, heads_methods}
use Rattle.measure_stmts.specs.Walked.{seen, PartMeasured}
use Rattle.measure_stmts.proofs.Steps.{none-some, some-is, walks-still, walks-as, walks-stopped}

-- ---- the kinds of statement

module _ (m : Measurer) (a : Begun) (d p : ℕ) (reads : StmtReads d m.scope.tree.now p) where
  abbrev t : List ℕ
  t = m.scope.tree.now

  abbrev names : List Name
  names = slot_names m.scope.tree.now m.scope.slots.now

  abbrev so : SoFar
  so = seen m a

  abbrev Whole : Option Measure → Begun → Type 0
  Whole r c = PartMeasured r m p (stmt_at d t p).end (measure_stmt names so (stmt_at d t p).value) (heads_stmt (stmt_at d t p).value) (after_stmt (stmt_at d t p).value) a c

  by-node : {r : Option Measure} {c : Begun} (y : Node Stmt) {q n heads : ℕ} {after : SoFar → SoFar} → stmt_at d t p ≡ y → PartMeasured r m q y.end n heads after a c
      → n ≡ measure_stmt names so y.value → heads ≡ heads_stmt y.value → after so ≡ after_stmt y.value so → p ≤ q → Whole r c
  by-node y e W f g h l = walks-as W (sym (ap (λ (z : Node Stmt). z.end) e)) (f ∙ sym (ap (λ (z : Node Stmt). measure_stmt names so z.value) e))
      (g ∙ sym (ap (λ (z : Node Stmt). heads_stmt z.value) e)) (h ∙ sym (ap (λ (z : Node Stmt). after_stmt z.value so) e)) l

  one-byte : {s : Measure} (n : ℕ) → s.size ≡ n → s.next ≡ p + 1 → n ≤ 1 → Sized s p (p + 1) 0 n
  one-byte n f g h = record { next_is = g; size_is = f; most = omega arith }

  -- a byte more makes up for one instruction more
  earlier : {s : Measure} {end n : ℕ} → Sized s (p + 1) end 1 n → Sized s p end 0 n
  earlier S = record { next_is = S.next_is; size_is = S.size_is; most = omega (arith, S.most) }

  module _ {k : StmtKind} (byte : stmt_byte k ≡ get_or t p 0) where
    kind-is : {j : StmtKind} → k ≡ j → get_or t p 0 ≡ stmt_byte j
    kind-is e = sym byte ∙ ap stmt_byte e

    pub stmt-jump : {s : Measure} → (k ≡ Break) ⊎ (k ≡ Continue) → s.size ≡ 1 → s.next ≡ p + 1 → Whole (Some s) a
    unfolding stmt_byte measure_stmt heads_stmt after_stmt
    stmt-jump (inl e) f g = by-node _ (view-break d t p reads (kind-is e)) (walks-still (one-byte 1 f g (omega arith))) refl refl refl (omega arith)
    stmt-jump (inr e) f g = by-node _ (view-continue d t p reads (kind-is e)) (walks-still (one-byte 1 f g (omega arith))) refl refl refl (omega arith)

    pub stmt-pass : {s : Measure} → k ≡ Pass → s.size ≡ 0 → s.next ≡ p + 1 → Whole (Some s) a
    unfolding stmt_byte measure_stmt heads_stmt after_stmt
    stmt-pass e f g = by-node _ (view-pass d t p reads (kind-is e)) (walks-still (one-byte 0 f g (omega arith))) refl refl refl (omega arith)

    pub value-reads : (k ≡ Expr) ⊎ (k ≡ Return) → ExprReads (d - 1) t (p + 1)
    unfolding stmt_byte
    value-reads (inl e) = (view-expr d t p reads (kind-is e)).parts
    value-reads (inr e) = (view-return d t p reads (kind-is e)).parts

    pub stmt-value : {s : Measure} → (k ≡ Expr) ⊎ (k ≡ Return) → Sized s (p + 1) (expr_at (d - 1) t (p + 1)).end 1 (measure_expr names so (expr_at (d - 1) t (p + 1)).value + 1) → Whole (Some s) a
    unfolding stmt_byte expr_stmt_at return_at measure_stmt heads_stmt after_stmt
    stmt-value (inl e) S = by-node _ (view-expr d t p reads (kind-is e)).is (walks-still (earlier S)) refl refl refl (omega arith)
    stmt-value (inr e) S = by-node _ (view-return d t p reads (kind-is e)).is (walks-still (earlier S)) refl refl refl (omega arith)

    pub assign-seen : k ≡ Assign → Seen (TwoAt (d - 1) t (p + 1)) (stmt_at d t p) (assign_at (d - 1) t (p + 1))
    unfolding stmt_byte
    assign-seen e = view-assign d t p reads (kind-is e)

    pub stmt-assign : {s : Measure} → k ≡ Assign
        → Sized s (p + 1) (second_at (d - 1) t (p + 1)).end 1 (measure_assign (view (expr_at (d - 1) t (p + 1)).value) names so (measure_expr names so (second_at (d - 1) t (p + 1)).value)) → Whole (Some s) a
    unfolding assign_at measure_stmt heads_stmt after_stmt
    stmt-assign e S = by-node _ (assign-seen e).is (walks-still (earlier S)) refl refl refl (omega arith)

    pub if-seen : k ≡ If → Seen (IfAt (d - 1) t (p + 1)) (stmt_at d t p) (if_at (d - 1) t (p + 1))
    unfolding stmt_byte
    if-seen e = view-if d t p reads (kind-is e)

    pub while-seen : k ≡ While → Seen (BranchAt (d - 1) t (p + 1)) (stmt_at d t p) (while_at (d - 1) t (p + 1))
    unfolding stmt_byte
    while-seen e = view-while d t p reads (kind-is e)

    pub for-seen : k ≡ For → Seen (ForAt (d - 1) t (p + 1)) (stmt_at d t p) (for_at (d - 1) t (p + 1))
    unfolding stmt_byte
    for-seen e = view-for d t p reads (kind-is e)

    pub def-seen : k ≡ Def → Seen (DefAt (d - 1) t (p + 1)) (stmt_at d t p) (def_at (d - 1) t (p + 1))
    unfolding stmt_byte
    def-seen e = view-def d t p reads (kind-is e)

    pub class-seen : k ≡ Class → Seen (ClassAt (d - 1) t (p + 1)) (stmt_at d t p) (class_at (d - 1) t (p + 1))
    unfolding stmt_byte
    class-seen e = view-class d t p reads (kind-is e)

    module _ {r : Option Measure} {b : Begun} where
      pub stmt-if : k ≡ If
          → PartMeasured r m (p + 1) (elifs_at (d - 1) t (p + 1)).end
          (measure_expr names so (expr_at (d - 1) t (p + 1)).value + (measure_block names so (body_at (d - 1) t (p + 1)).value + 2)
          + measure_branches names (after_block (body_at (d - 1) t (p + 1)).value so) (elifs_at (d - 1) t (p + 1)).value)
          (heads_block (body_at (d - 1) t (p + 1)).value + heads_branches (elifs_at (d - 1) t (p + 1)).value)
          (λ s. after_branches (elifs_at (d - 1) t (p + 1)).value (after_block (body_at (d - 1) t (p + 1)).value s)) a b → Whole r b
      unfolding if_at measure_stmt measure_branches heads_stmt heads_branches after_stmt after_branches
      stmt-if e W = by-node _ (if-seen e).is W (omega arith) refl refl (omega arith)

      pub stmt-while : k ≡ While
          → PartMeasured r m (p + 1) (body_at (d - 1) t (p + 1)).end (measure_expr names so (expr_at (d - 1) t (p + 1)).value + (measure_block names so (body_at (d - 1) t (p + 1)).value + 2))
          (heads_block (body_at (d - 1) t (p + 1)).value) (after_block (body_at (d - 1) t (p + 1)).value) a b → Whole r b
      unfolding while_at measure_stmt measure_loop heads_stmt after_stmt
      stmt-while e W = by-node _ (while-seen e).is W (omega arith) refl refl (omega arith)

      pub stmt-for : k ≡ For
          → PartMeasured r m (p + 1) (body_at (d - 1) t (name_end t (p + 1))).end
          (measure_for (measure_expr names so (expr_at (d - 1) t (name_end t (p + 1))).value) (measure_block names so (body_at (d - 1) t (name_end t (p + 1))).value))
          (heads_block (body_at (d - 1) t (name_end t (p + 1))).value) (after_block (body_at (d - 1) t (name_end t (p + 1))).value) a b → Whole r b
      unfolding for_at measure_stmt heads_stmt after_stmt
      stmt-for e W = by-node _ (for-seen e).is W refl refl refl (omega arith)

      pub stmt-def : k ≡ Def
          → PartMeasured r m (p + 1) (def_block_at (d - 1) t (p + 1)).end 0 (1 + heads_block (def_block_at (d - 1) t (p + 1)).value)
          (λ s. after_block (def_block_at (d - 1) t (p + 1)).value (add_function (name_at t (p + 1)) s)) a b → Whole r b
      unfolding def_at measure_stmt heads_stmt after_stmt
      stmt-def e W = by-node _ (def-seen e).is W refl refl (ap (λ (x : Name). after_block (def_block_at (d - 1) t (p + 1)).value (add_function x so)) (name-bytes t (p + 1))) (omega arith)

      pub stmt-class : k ≡ Class
          → PartMeasured r m (p + 1) (class_at (d - 1) t (p + 1)).end 2 (1 + heads_methods (class_methods_at (d - 1) t (p + 1)).value)
          (λ s. after_methods (class_methods_at (d - 1) t (p + 1)).value (add_class (name_at t (p + 1)) s)) a b → Whole r b
      unfolding class_at measure_stmt heads_stmt after_stmt
      stmt-class e W =
          by-node _ (class-seen e).is W refl refl (ap (λ (x : Name). after_methods (class_methods_at (d - 1) t (p + 1)).value (add_class x so)) (name-bytes t (p + 1))) (omega arith)

-- ---- parts end within the tree

pub block-within : (d : ℕ) (t : List ℕ) (p : ℕ) → BlockReads d t p → (block_at d t p).end ≤ length t
block-within d t p R = node-within []ᵇ (block_of (parse_stmt d)) t p (steady-B d) R

-- ---- a condition and a block

module _ (m : Measurer) (a : Begun) (d p : ℕ) (c : Measure) (S : Sized c p (expr_at d m.scope.tree.now p).end 0 (measure_expr (names_in m) (seen m a) (expr_at d m.scope.tree.now p).value)) where
  abbrev tree : List ℕ
  tree = m.scope.tree.now

  pub block-reads : BranchAt d tree p → BlockReads d tree c.next
  block-reads R = subst (λ (q : ℕ). BlockReads d tree q) (sym S.next_is) R.block

  module _ {r : Option Measure} {b : Begun} (W : PartMeasured r m (c.next + 2) (block_at d tree c.next).end (measure_block (names_in m) (seen m a) (block_at d tree c.next).value) (heads_block (block_at d tree c.next).value)
      (after_block (block_at d tree c.next).value) a b) where
    abbrev Branch : Option Measure → Type 0
    Branch o = PartMeasured o m p (body_at d tree p).end (measure_expr (names_in m) (seen m a) (expr_at d tree p).value + (measure_block (names_in m) (seen m a) (body_at d tree p).value + 2))
        (heads_block (body_at d tree p).value) (after_block (body_at d tree p).value) a b

    moved : PartMeasured r m ((expr_at d tree p).end + 2) (body_at d tree p).end (measure_block (names_in m) (seen m a) (body_at d tree p).value) (heads_block (body_at d tree p).value) (after_block (body_at d tree p).value) a b
    moved = subst (λ (q : ℕ). PartMeasured r m (q + 2) (block_at d tree q).end (measure_block (names_in m) (seen m a) (block_at d tree q).value) (heads_block (block_at d tree q).value) (after_block (block_at d tree q).value) a b)
        S.next_is W

    pub branch-stopped : {o : Option Measure} → r ≡ None → o ≡ None → Branch o
    branch-stopped e f = walks-stopped f (moved.over e)

    pub branch-done : {s u : Measure} → r ≡ Some s → u.size ≡ c.size + (s.size + 2) → u.next ≡ s.next → Branch (Some u)
    branch-done {s} {u} e f g =
        let B = moved.sized s e in
        let n = measure_expr (names_in m) (seen m a) (expr_at d tree p).value + (measure_block (names_in m) (seen m a) (body_at d tree p).value + 2) in
        let all : Sized u p (body_at d tree p).end 0 n = record { next_is = g ∙ B.next_is; size_is = omega (arith, f, S.size_is, B.size_is); most = omega (arith, f, S.most, B.most) } in
        record {
          sized = λ z q. subst (λ (v : Measure). Sized v p (body_at d tree p).end 0 n) (some-is refl q) all;
          knows = λ z q. moved.knows s e;
          count = λ z q. moved.count s e;
          over = λ q. none-some q refl;
        }

    -- the sizes are small
    pub branch-few : {s : Measure} → r ≡ Some s → length tree ≤ 32768 → BranchAt d tree p → c.size + (s.size + 2) ≤ 16777216
    branch-few {s} e short R = omega (arith, S.most, (moved.sized s e).most, block-within d tree _ R.block)

-- ---- a for: its branch, after its name

module _ (m : Measurer) (a : Begun) (d p q : ℕ) (e : q ≡ name_end m.scope.tree.now p) where
  abbrev area : List ℕ
  area = m.scope.tree.now

  pub for-reads : ForAt d area p → BranchAt d area q
  for-reads R = subst (λ (z : ℕ). BranchAt d area z) (sym e) R.loop

  abbrev For_is : Option Measure → Begun → Type 0
  For_is o b = PartMeasured o m p (body_at d area (name_end area p)).end
      (measure_for (measure_expr (names_in m) (seen m a) (expr_at d area (name_end area p)).value) (measure_block (names_in m) (seen m a) (body_at d area (name_end area p)).value))
      (heads_block (body_at d area (name_end area p)).value) (after_block (body_at d area (name_end area p)).value) a b

  module _ {r : Option Measure} {b : Begun} (W : PartMeasured r m q (body_at d area q).end (measure_expr (names_in m) (seen m a) (expr_at d area q).value + (measure_block (names_in m) (seen m a) (body_at d area q).value + 2))
      (heads_block (body_at d area q).value) (after_block (body_at d area q).value) a b) where
    at-name : PartMeasured r m (name_end area p) (body_at d area (name_end area p)).end
        (measure_expr (names_in m) (seen m a) (expr_at d area (name_end area p)).value + (measure_block (names_in m) (seen m a) (body_at d area (name_end area p)).value + 2))
        (heads_block (body_at d area (name_end area p)).value) (after_block (body_at d area (name_end area p)).value) a b
    at-name = subst (λ (z : ℕ). PartMeasured r m z (body_at d area z).end (measure_expr (names_in m) (seen m a) (expr_at d area z).value + (measure_block (names_in m) (seen m a) (body_at d area z).value + 2))
        (heads_block (body_at d area z).value) (after_block (body_at d area z).value) a b) e W

    pub for-stopped : {o : Option Measure} → r ≡ None → o ≡ None → For_is o b
    for-stopped f g = walks-stopped g (at-name.over f)

    pub for-done : {s u : Measure} → r ≡ Some s → u.size ≡ s.size + 7 → u.next ≡ s.next → For_is (Some u) b
    unfolding measure_for measure_loop name_end
    for-done {s} {u} f g h =
        let B = at-name.sized s f in
        let end = (body_at d area (name_end area p)).end in
        let n = measure_for (measure_expr (names_in m) (seen m a) (expr_at d area (name_end area p)).value) (measure_block (names_in m) (seen m a) (body_at d area (name_end area p)).value) in
        let all : Sized u p end 0 n = record { next_is = h ∙ B.next_is; size_is = omega (arith, g, B.size_is); most = omega (arith, g, B.most) } in
        record {
          sized = λ z q. subst (λ (v : Measure). Sized v p end 0 n) (some-is refl q) all;
          knows = λ z q. at-name.knows s f;
          count = λ z q. at-name.count s f;
          over = λ q. none-some q refl;
        }

    pub for-few : {s : Measure} → r ≡ Some s → length area ≤ 32768 → ForAt d area p → s.size + 7 ≤ 16777216
    for-few {s} f short R = omega (arith, (at-name.sized s f).most, block-within d area _ R.loop.block)

-- ---- an if: its first branch, then its elifs

module _ (m : Measurer) (a b : Begun) (d p : ℕ) {r : Option Measure} (W : PartMeasured r m p (body_at d m.scope.tree.now p).end
    (measure_expr (names_in m) (seen m a) (expr_at d m.scope.tree.now p).value + (measure_block (names_in m) (seen m a) (body_at d m.scope.tree.now p).value + 2))
    (heads_block (body_at d m.scope.tree.now p).value) (after_block (body_at d m.scope.tree.now p).value) a b) where
  abbrev place : List ℕ
  place = m.scope.tree.now

  abbrev If_is : Option Measure → Begun → Type 0
  If_is o c = PartMeasured o m p (elifs_at d place p).end
      (measure_expr (names_in m) (seen m a) (expr_at d place p).value + (measure_block (names_in m) (seen m a) (body_at d place p).value + 2)
      + measure_branches (names_in m) (after_block (body_at d place p).value (seen m a)) (elifs_at d place p).value)
      (heads_block (body_at d place p).value + heads_branches (elifs_at d place p).value)
      (λ s. after_branches (elifs_at d place p).value (after_block (body_at d place p).value s)) a c

  pub if-stopped : {o : Option Measure} → r ≡ None → o ≡ None → If_is o b
  if-stopped e f = walks-stopped f (let h = W.over e in omega arith)

  module _ {s : Measure} (e : r ≡ Some s) where
    ends : s.next ≡ (body_at d place p).end
    ends = (W.sized s e).next_is

    pub if-counted : IfAt d place p → s.next + 2 ≤ length place
    if-counted R = omega (arith, R.count.bytes, ends)

    module _ {n : ℕ} (c : n ≡ count_at place s.next) where
      elifs-are : branches_at d n place (s.next + 2) ≡ elifs_at d place p
      elifs-are = ap (λ (k : ℕ). branches_at d k place (s.next + 2)) c ∙ ap (λ (q : ℕ). branches_at d (count_at place q) place (q + 2)) ends

      pub if-reads : IfAt d place p → BranchesRead d n place (s.next + 2)
      if-reads R = subst (λ (k : ℕ). BranchesRead d k place (s.next + 2)) (sym c) (subst (λ (q : ℕ). BranchesRead d (count_at place q) place (q + 2)) (sym ends) R.rest)

      module _ {q : Option Measure} {f : Begun} (V : PartMeasured q m (s.next + 2) (branches_at d n place (s.next + 2)).end (measure_branches (names_in m) (seen m b) (branches_at d n place (s.next + 2)).value)
          (heads_branches (branches_at d n place (s.next + 2)).value) (after_branches (branches_at d n place (s.next + 2)).value) b f) where
        rest : PartMeasured q m (s.next + 2) (elifs_at d place p).end (measure_branches (names_in m) (seen m b) (elifs_at d place p).value) (heads_branches (elifs_at d place p).value)
            (after_branches (elifs_at d place p).value) b f
        rest = subst (λ (x : Node Branches). PartMeasured q m (s.next + 2) x.end (measure_branches (names_in m) (seen m b) x.value) (heads_branches x.value) (after_branches x.value) b f) elifs-are V

        pub if-over : {o : Option Measure} → q ≡ None → o ≡ None → If_is o f
        if-over i j = walks-stopped j (omega (arith, rest.over i, W.count s e))

        pub if-done : {u v : Measure} → q ≡ Some u → v.size ≡ s.size + u.size → v.next ≡ u.next → If_is (Some v) f
        if-done {u} {v} i g h =
            let S = W.sized s e in
            let U = rest.sized u i in
            let k : measure_branches (names_in m) (seen m b) (elifs_at d place p).value ≡ measure_branches (names_in m) (after_block (body_at d place p).value (seen m a)) (elifs_at d place p).value =
            ap (λ (x : SoFar). measure_branches (names_in m) x (elifs_at d place p).value) (W.knows s e) in
            let end = (elifs_at d place p).end in
            let n = measure_expr (names_in m) (seen m a) (expr_at d place p).value + (measure_block (names_in m) (seen m a) (body_at d place p).value + 2)
            + measure_branches (names_in m) (after_block (body_at d place p).value (seen m a)) (elifs_at d place p).value in
            let all : Sized v p end 0 n = record { next_is = h ∙ U.next_is; size_is = omega (arith, g, S.size_is, U.size_is, k); most = omega (arith, g, S.most, U.most, ends) } in
            record {
              sized = λ z w. subst (λ (x : Measure). Sized x p end 0 n) (some-is refl w) all;
              knows = λ z w. rest.knows u i ∙ ap (after_branches (elifs_at d place p).value) (W.knows s e);
              count = λ z w. omega (arith, W.count s e, rest.count u i);
              over = λ w. none-some w refl;
            }

        pub if-few : {u : Measure} → q ≡ Some u → length place ≤ 32768 → IfAt d place p → s.size + u.size ≤ 16777216
        if-few {u} i short R = omega (arith, (W.sized s e).most, (rest.sized u i).most, ends, branches-within d (count_at place (body_at d place p).end) place _ R.rest)
