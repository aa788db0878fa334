-- Statements, branches and methods, one at a time; what begins with a name.
use Prim.Native.Nat.{ℕ, ◌+◌, ◌-◌, ◌<◌, ◌≤◌}
use mathlib.Core.Path.{◌≡◌, refl, sym, ap, ◌∙◌, subst}
use mathlib.Core.List.{List, []}
use native.Mathlib.Omega.{arith}
use lib.ListN.{length, get_or}
use Rattle.std.specs.Prelude.{Option, Some, None}
use Rattle.definitions.specs.Bytes.{Name, list_of}
use Rattle.definitions.specs.Parse.{parse_expr, attribute}
use Rattle.definitions.specs.Tree.{Block, Branches, Methods}
use Rattle.definitions.specs.Measured.{SoFar, add_function, add_class, measure_expr, measure_stmt, measure_block, measure_branches}
use Rattle.definitions.specs.Measured.{after_stmt, after_block, after_branches, after_methods}
use Rattle.tree_view.specs.Places.{Node, count_at, name_end, params_at}
use Rattle.tree_view.proofs.Laws.{steady-list_of}
use Rattle.tree_view.specs.ExprAt.{expr_at}
use Rattle.tree_view.proofs.ExprLaws.{steady-E}
use Rattle.tree_view.specs.StmtAt.{stmt_at, block_at, stmts_at, branches_at, methods_at, StmtReads, BlockReads, StmtsRead, BranchesRead, MethodsRead, BranchAt, body_at}
use Rattle.tree_view.specs.StmtAt.{DefAt, def_block_at, ClassAt, class_methods_at, class_at, when_at, else_at, cons_at, method_at}
use Rattle.tree_view.proofs.StmtLaws.{steady-attribute}
use Rattle.tree_view.proofs.StmtViews.{view-block, view-stmts-none, view-stmts-more, view-branches-more, else-known, view-done, view-else, view-methods-none, view-methods-more, branches-within}
use Rattle.state.specs.Words.{name_at}
use Rattle.slots.proofs.Adding.{name-bytes}
use Rattle.measure.specs.declared.measurer.Measurer.{Measurer}
use Rattle.measure.specs.declared.Measure.{Measure}
use Rattle.measure.specs.Known.{names_in}
use Rattle.measure.specs.Sized.{Sized}
use Rattle.measure.proofs.Ahead.{node-after}
use Rattle.tree_view.proofs.LeafNodes.{params-after, name-after}
use Rattle.measure_stmts.specs.declared.begun.Begun.{Begun}
use Rattle.measure_stmts.specs.Heads.{heads_stmt, heads_block, heads_branches, heads_methods}
use Rattle.measure_stmts.specs.Walked.{seen, Notes, PartMeasured}
use Rattle.measure_stmts.proofs.Steps.{none-some, some-is, walks-still, walks-as, walks-stopped, Splits, Left, left-start, left-stopped, left-next, left-done, left-last, left-over}

-- ---- statements

module _ (m : Measurer) (d : ℕ) where
  abbrev t : List ℕ
  t = m.scope.tree.now

  -- n statements from p on are left of a block
  abbrev pub StmtsLeft : Node Block → ℕ → ℕ → ℕ → ℕ → Begun → Begun → Type 0
  StmtsLeft whole n p₀ p done a b = StmtsRead d n t p × Left (measure_block (names_in m)) heads_block after_block m whole (stmts_at d n t p) p₀ p done a b

  pub stmts-start : (a : Begun) (p n j : ℕ) → BlockReads d t p → n ≡ count_at t p → n ≡ j → StmtsLeft (block_at d t p) j (p + 2) (p + 2) 0 a a
  stmts-start a p n j R e i =
      let v = view-block d t p R in
      subst (λ (k : ℕ). StmtsLeft (block_at d t p) k (p + 2) (p + 2) 0 a a) (sym e ∙ i) (v.parts.statements, left-start a v.is (omega arith))

  module _ {whole : Node Block} {n p₀ p done : ℕ} {a b : Begun} (L : StmtsLeft whole n p₀ p done a b) where
    pub stmts-done : {s : Measure} → n ≤ 0 → s.size ≡ done → s.next ≡ p
        → PartMeasured (Some s) m p₀ whole.end (measure_block (names_in m) (seen m a) whole.value) (heads_block whole.value) (after_block whole.value) a b
    unfolding measure_block heads_block after_block
    stmts-done h f g =
        let v = view-stmts-none d n t p h L.0.start in
        left-done L.1 (sym (ap (λ (z : Node Block). z.end) v)) (sym (ap (λ (z : Node Block). measure_block (names_in m) (seen m b) z.value) v)) (sym (ap (λ (z : Node Block). heads_block z.value) v))
        (sym (ap (λ (z : Node Block). after_block z.value (seen m b)) v)) f g

    module _ (h : 0 < n) where
      pub stmts-head : StmtReads d t p
      stmts-head = (view-stmts-more d n t p h L.0).parts.head

      abbrev rest : Node Block
      rest = stmts_at d (n - 1) t (stmt_at d t p).end

      splits : Splits (measure_block (names_in m)) heads_block after_block (stmts_at d n t p) rest (λ k. measure_stmt (names_in m) k (stmt_at d t p).value) (heads_stmt (stmt_at d t p).value)
          (after_stmt (stmt_at d t p).value)
      unfolding cons_at measure_block heads_block after_block
      splits =
          subst (λ (x : Node Block). Splits (measure_block (names_in m)) heads_block after_block x rest (λ k. measure_stmt (names_in m) k (stmt_at d t p).value) (heads_stmt (stmt_at d t p).value)
          (after_stmt (stmt_at d t p).value)) (sym (view-stmts-more d n t p h L.0).is) (record { end = refl; sum = λ k. refl; names = refl; then = λ k. refl })

      module _ {r : Option Measure} {c : Begun} (W : PartMeasured r m p (stmt_at d t p).end (measure_stmt (names_in m) (seen m b) (stmt_at d t p).value) (heads_stmt (stmt_at d t p).value)
          (after_stmt (stmt_at d t p).value) b c) where
        pub stmts-stopped : {o : Option Measure} {q e k : ℕ} → r ≡ None → o ≡ None → PartMeasured o m q e k (heads_block whole.value) (after_block whole.value) a c
        stmts-stopped i j = left-stopped L.1 splits W i j

        pub stmts-next : {s : Measure} {u j : ℕ} → r ≡ Some s → u ≡ done + s.size → n - 1 ≡ j → StmtsLeft whole j p₀ s.next u a c
        stmts-next {s} {u} i e f =
            let q : (stmt_at d t p).end ≡ s.next = sym (W.sized s i).next_is in
            subst (λ (k : ℕ). StmtsLeft whole k p₀ s.next u a c) f (
              subst (λ (z : ℕ). StmtsRead d (n - 1) t z) q (view-stmts-more d n t p h L.0).parts.rest,
              subst (λ (z : ℕ). Left (measure_block (names_in m)) heads_block after_block m whole (stmts_at d (n - 1) t z) p₀ s.next u a c) q (left-next L.1 splits W i e),
            )

-- ---- branches

module _ (m : Measurer) (d : ℕ) where
  abbrev tree : List ℕ
  tree = m.scope.tree.now

  -- n elifs from p on, and an else block or none, are left of an if
  abbrev pub BranchesLeft : Node Branches → ℕ → ℕ → ℕ → ℕ → Begun → Begun → Type 0
  BranchesLeft whole n p₀ p done a b = BranchesRead d n tree p × Left (measure_branches (names_in m)) heads_branches after_branches m whole (branches_at d n tree p) p₀ p done a b

  pub branches-start : (a : Begun) (p n j : ℕ) → BranchesRead d n tree p → n ≡ j → BranchesLeft (branches_at d n tree p) j p p 0 a a
  branches-start a p n j R i = subst (λ (k : ℕ). BranchesLeft (branches_at d n tree p) k p p 0 a a) i (R, left-start a refl (omega arith))

  module _ {whole : Node Branches} {n p₀ p done : ℕ} {a b : Begun} (L : BranchesLeft whole n p₀ p done a b) where
    module _ (h : n ≤ 0) where
      none : n ≡ 0
      none = omega arith

      pub branches-last : BranchesRead d 0 tree p
      branches-last = subst (λ (k : ℕ). BranchesRead d k tree p) none L.0

      module _ {r : Option Measure} {c : Begun} (W : PartMeasured r m p (branches_at d 0 tree p).end (measure_branches (names_in m) (seen m b) (branches_at d 0 tree p).value) (heads_branches (branches_at d 0 tree p).value)
          (after_branches (branches_at d 0 tree p).value) b c) where
        last : PartMeasured r m p (branches_at d n tree p).end (measure_branches (names_in m) (seen m b) (branches_at d n tree p).value) (heads_branches (branches_at d n tree p).value)
            (after_branches (branches_at d n tree p).value) b c
        last = subst (λ (k : ℕ). PartMeasured r m p (branches_at d k tree p).end (measure_branches (names_in m) (seen m b) (branches_at d k tree p).value) (heads_branches (branches_at d k tree p).value)
            (after_branches (branches_at d k tree p).value) b c) (sym none) W

        pub branches-over : {o : Option Measure} {q e k : ℕ} → r ≡ None → o ≡ None → PartMeasured o m q e k (heads_branches whole.value) (after_branches whole.value) a c
        branches-over i j = left-over L.1 last i j

        pub branches-done : {u v : Measure} → r ≡ Some u → v.size ≡ done + u.size → v.next ≡ u.next
            → PartMeasured (Some v) m p₀ whole.end (measure_branches (names_in m) (seen m a) whole.value) (heads_branches whole.value) (after_branches whole.value) a c
        branches-done i j k = left-last L.1 last i refl j k

        pub branches-few : {u : Measure} → r ≡ Some u → length tree ≤ 32768 → done + u.size ≤ 16777216
        branches-few {u} i short = omega (arith, L.1.most, (W.sized u i).most, branches-within d 0 tree p branches-last)

    module _ (h : 0 < n) where
      pub branches-head : BranchAt d tree p
      branches-head = (view-branches-more d tree p n h L.0).parts.first

      abbrev others : Node Branches
      others = branches_at d (n - 1) tree (body_at d tree p).end

      abbrev size : SoFar → ℕ
      size k = measure_expr (names_in m) k (expr_at d tree p).value + (measure_block (names_in m) k (body_at d tree p).value + 2)

      branch-splits : Splits (measure_branches (names_in m)) heads_branches after_branches (branches_at d n tree p) others size (heads_block (body_at d tree p).value) (after_block (body_at d tree p).value)
      unfolding when_at measure_branches heads_branches after_branches
      branch-splits =
          subst (λ (x : Node Branches). Splits (measure_branches (names_in m)) heads_branches after_branches x others size (heads_block (body_at d tree p).value) (after_block (body_at d tree p).value))
          (sym (view-branches-more d tree p n h L.0).is) (record { end = refl; sum = λ k. omega arith; names = refl; then = λ k. refl })

      module _ {r : Option Measure} {c : Begun} (W : PartMeasured r m p (body_at d tree p).end (size (seen m b)) (heads_block (body_at d tree p).value) (after_block (body_at d tree p).value) b c) where
        pub branches-stopped : {o : Option Measure} {q e k : ℕ} → r ≡ None → o ≡ None → PartMeasured o m q e k (heads_branches whole.value) (after_branches whole.value) a c
        branches-stopped i j = left-stopped L.1 branch-splits W i j

        pub branches-next : {s : Measure} {u j : ℕ} → r ≡ Some s → u ≡ done + s.size → n - 1 ≡ j → BranchesLeft whole j p₀ s.next u a c
        branches-next {s} {u} i e f =
            let q : (body_at d tree p).end ≡ s.next = sym (W.sized s i).next_is in
            subst (λ (k : ℕ). BranchesLeft whole k p₀ s.next u a c) f (
              subst (λ (z : ℕ). BranchesRead d (n - 1) tree z) q (view-branches-more d tree p n h L.0).parts.rest,
              subst (λ (z : ℕ). Left (measure_branches (names_in m)) heads_branches after_branches m whole (branches_at d (n - 1) tree z) p₀ s.next u a c) q (left-next L.1 branch-splits W i e),
            )

  -- ---- the byte 0; or 1, and an else block

  module _ {p : ℕ} (R : BranchesRead d 0 tree p) where
    abbrev Else : Option Measure → Begun → Begun → Type 0
    Else o a b = PartMeasured o m p (branches_at d 0 tree p).end (measure_branches (names_in m) (seen m a) (branches_at d 0 tree p).value) (heads_branches (branches_at d 0 tree p).value)
        (after_branches (branches_at d 0 tree p).value) a b

    pub else-none : {s : Measure} (a : Begun) → get_or tree p 0 ≡ 0 → s.size ≡ 0 → s.next ≡ p + 1 → Else (Some s) a a
    unfolding measure_branches heads_branches after_branches
    else-none {s} a e f g =
        let v = view-done d tree p 0 (omega arith) R e in
        let S : Sized s p (p + 1) 0 0 = record { next_is = g; size_is = f; most = omega arith } in
        walks-as (walks-still S) (sym (ap (λ (z : Node Branches). z.end) v)) (sym (ap (λ (z : Node Branches). measure_branches (names_in m) (seen m a) z.value) v))
        (sym (ap (λ (z : Node Branches). heads_branches z.value) v)) (sym (ap (λ (z : Node Branches). after_branches z.value (seen m a)) v)) (omega arith)

    module _ (e : get_or tree p 0 ≡ 0 → ⊥) where
      one : get_or tree p 0 ≡ 1
      one = let h = else-known d tree p 0 (omega arith) R in omega arith

      pub else-reads : BlockReads d tree (p + 1)
      else-reads = (view-else d tree p 0 (omega arith) R one).parts

      pub else-some : {r : Option Measure} {a b : Begun}
          → PartMeasured r m (p + 1 + 2) (block_at d tree (p + 1)).end (measure_block (names_in m) (seen m a) (block_at d tree (p + 1)).value) (heads_block (block_at d tree (p + 1)).value)
          (after_block (block_at d tree (p + 1)).value) a b → Else r a b
      unfolding else_at measure_branches heads_branches after_branches
      else-some {a = a} W =
          let v = (view-else d tree p 0 (omega arith) R one).is in
          walks-as W (sym (ap (λ (z : Node Branches). z.end) v)) (sym (ap (λ (z : Node Branches). measure_branches (names_in m) (seen m a) z.value) v))
          (sym (ap (λ (z : Node Branches). heads_branches z.value) v)) (sym (ap (λ (z : Node Branches). after_branches z.value (seen m a)) v)) (omega arith)

-- ---- a def or method: its name is noted, then its block is walked

module _ (m : Measurer) (d p : ℕ) {A : Type 0} {r : Option A} {a b : Begun} (N : Notes r (λ t s. add_function (name_at t p) s) a b) where
  abbrev area : List ℕ
  area = m.scope.tree.now

  abbrev Def : Option Measure → Begun → Type 0
  Def o c = PartMeasured o m p (def_block_at d area p).end 0 (1 + heads_block (def_block_at d area p).value) (λ s. after_block (def_block_at d area p).value (add_function (name_at area p) s)) a c

  pub def-full : {o : Option Measure} → r ≡ None → o ≡ None → Def o b
  def-full e f = walks-stopped f (let h = N.full e in omega arith)

  module _ {q : ℕ} (e : q ≡ (params_at area (name_end area p)).end) where
    pub def-reads : DefAt d area p → BlockReads d area q
    def-reads R = subst (λ (z : ℕ). BlockReads d area z) (sym e) R.block

    module _ {x : A} (f : r ≡ Some x) {o : Option Measure} {c : Begun} (W : PartMeasured o m (q + 2) (block_at d area q).end (measure_block (names_in m) (seen m b) (block_at d area q).value)
        (heads_block (block_at d area q).value) (after_block (block_at d area q).value) b c) where
      body : PartMeasured o m (q + 2) (def_block_at d area p).end (measure_block (names_in m) (seen m b) (def_block_at d area p).value) (heads_block (def_block_at d area p).value)
          (after_block (def_block_at d area p).value) b c
      body = subst (λ (z : ℕ). PartMeasured o m (q + 2) (block_at d area z).end (measure_block (names_in m) (seen m b) (block_at d area z).value) (heads_block (block_at d area z).value)
          (after_block (block_at d area z).value) b c) e W

      pub def-over : {u : Option Measure} → o ≡ None → u ≡ None → Def u c
      def-over i j = walks-stopped j (omega (arith, body.over i, N.count x f))

      pub def-done : {s u : Measure} → o ≡ Some s → u.size ≡ 0 → u.next ≡ s.next → Def (Some u) c
      def-done {s} {u} i g h =
          let B = body.sized s i in
          let end = (def_block_at d area p).end in
          let all : Sized u p end 0 0 = record { next_is = h ∙ B.next_is; size_is = g; most = omega (arith, g, B.most, e, params-after area (name_end area p), name-after area p) } in
          record {
            sized = λ z w. subst (λ (v : Measure). Sized v p end 0 0) (some-is refl w) all;
            knows = λ z w. body.knows s i ∙ ap (after_block (def_block_at d area p).value) (N.knows x f m);
            count = λ z w. omega (arith, body.count s i, N.count x f);
            over = λ w. none-some w refl;
          }

-- ---- methods

module _ (m : Measurer) (d : ℕ) where
  abbrev whole_tree : List ℕ
  whole_tree = m.scope.tree.now

  -- methods have no instructions in the code around them
  abbrev no_size : SoFar → Methods → ℕ
  no_size k ms = 0

  -- n methods from p on are left of a class
  abbrev pub MethodsLeft : Node Methods → ℕ → ℕ → ℕ → Begun → Begun → Type 0
  MethodsLeft whole n p₀ p a b = MethodsRead d n whole_tree p × Left no_size heads_methods after_methods m whole (methods_at d n whole_tree p) p₀ p 0 a b

  pub methods-start : (a : Begun) (p n j : ℕ) → MethodsRead d n whole_tree p → n ≡ j → MethodsLeft (methods_at d n whole_tree p) j p p a a
  methods-start a p n j R i = subst (λ (k : ℕ). MethodsLeft (methods_at d n whole_tree p) k p p a a) i (R, left-start a refl (omega arith))

  module _ {whole : Node Methods} {n p₀ p : ℕ} {a b : Begun} (L : MethodsLeft whole n p₀ p a b) where
    pub methods-done : {s : Measure} → n ≤ 0 → s.size ≡ 0 → s.next ≡ p → PartMeasured (Some s) m p₀ whole.end 0 (heads_methods whole.value) (after_methods whole.value) a b
    unfolding heads_methods after_methods
    methods-done h f g =
        let v = view-methods-none d whole_tree p n h L.0.start in
        left-done L.1 (sym (ap (λ (z : Node Methods). z.end) v)) refl (sym (ap (λ (z : Node Methods). heads_methods z.value) v)) (sym (ap (λ (z : Node Methods). after_methods z.value (seen m b)) v)) f g

    module _ (h : 0 < n) where
      pub methods-head : DefAt d whole_tree p
      methods-head = (view-methods-more d whole_tree p n h L.0).parts.first

      abbrev more : Node Methods
      more = methods_at d (n - 1) whole_tree (def_block_at d whole_tree p).end

      abbrev after : SoFar → SoFar
      after s = after_block (def_block_at d whole_tree p).value (add_function (name_at whole_tree p) s)

      method-splits : Splits no_size heads_methods after_methods (methods_at d n whole_tree p) more (λ k. 0) (1 + heads_block (def_block_at d whole_tree p).value) after
      unfolding method_at heads_methods after_methods
      method-splits =
          subst (λ (x : Node Methods). Splits no_size heads_methods after_methods x more (λ k. 0) (1 + heads_block (def_block_at d whole_tree p).value) after)
          (sym (view-methods-more d whole_tree p n h L.0).is)
          (record {
            end = refl;
            sum = λ k. omega arith;
            names = refl;
            then = λ k. ap (λ (x : Name). after_methods more.value (after_block (def_block_at d whole_tree p).value (add_function x k))) (sym (name-bytes whole_tree p));
          })

      module _ {r : Option Measure} {c : Begun} (W : PartMeasured r m p (def_block_at d whole_tree p).end 0 (1 + heads_block (def_block_at d whole_tree p).value) after b c) where
        pub methods-stopped : {o : Option Measure} {q e k : ℕ} → r ≡ None → o ≡ None → PartMeasured o m q e k (heads_methods whole.value) (after_methods whole.value) a c
        methods-stopped i j = left-stopped L.1 method-splits W i j

        pub methods-next : {s : Measure} {j : ℕ} → r ≡ Some s → n - 1 ≡ j → MethodsLeft whole j p₀ s.next a c
        methods-next {s} i f =
            let q : (def_block_at d whole_tree p).end ≡ s.next = sym (W.sized s i).next_is in
            subst (λ (k : ℕ). MethodsLeft whole k p₀ s.next a c) f (
              subst (λ (z : ℕ). MethodsRead d (n - 1) whole_tree z) q (view-methods-more d whole_tree p n h L.0).parts.rest,
              subst (λ (z : ℕ). Left no_size heads_methods after_methods m whole (methods_at d (n - 1) whole_tree z) p₀ s.next 0 a c) q
                  (left-next L.1 method-splits W i (omega (arith, (W.sized s i).size_is))),
            )

-- ---- a class: its name is noted, then its methods are walked

module _ (m : Measurer) (d p : ℕ) {A : Type 0} {r : Option A} {a b : Begun} (N : Notes r (λ t s. add_class (name_at t p) s) a b) where
  abbrev bytes : List ℕ
  bytes = m.scope.tree.now

  abbrev Class : Option Measure → Begun → Type 0
  Class o c = PartMeasured o m p (class_at d bytes p).end 2 (1 + heads_methods (class_methods_at d bytes p).value) (λ s. after_methods (class_methods_at d bytes p).value (add_class (name_at bytes p) s)) a c

  pub class-full : {o : Option Measure} → r ≡ None → o ≡ None → Class o b
  class-full e f = walks-stopped f (let h = N.full e in omega arith)

  module _ {q n : ℕ} (e : q ≡ name_end bytes p) (f : n ≡ count_at bytes q) where
    count : n ≡ count_at bytes (name_end bytes p)
    count = f ∙ ap (count_at bytes) e

    methods-are : methods_at d n bytes (q + 2) ≡ class_methods_at d bytes p
    methods-are = λ i. methods_at d (count i) bytes (e i + 2)

    pub class-counted : ClassAt d bytes p → q + 2 ≤ length bytes
    class-counted R = omega (arith, R.count.bytes, e)

    pub class-reads : ClassAt d bytes p → MethodsRead d n bytes (q + 2)
    class-reads R = subst (λ (k : ℕ). MethodsRead d k bytes (q + 2)) (sym count) (subst (λ (z : ℕ). MethodsRead d (count_at bytes (name_end bytes p)) bytes (z + 2)) (sym e) R.methods)

    module _ {x : A} (g : r ≡ Some x) {o : Option Measure} {c : Begun} (W : PartMeasured o m (q + 2) (methods_at d n bytes (q + 2)).end 0 (heads_methods (methods_at d n bytes (q + 2)).value)
        (after_methods (methods_at d n bytes (q + 2)).value) b c) where
      all-methods : PartMeasured o m (q + 2) (class_methods_at d bytes p).end 0 (heads_methods (class_methods_at d bytes p).value) (after_methods (class_methods_at d bytes p).value) b c
      all-methods = subst (λ (z : Node Methods). PartMeasured o m (q + 2) z.end 0 (heads_methods z.value) (after_methods z.value) b c) methods-are W

      pub class-over : {u : Option Measure} → o ≡ None → u ≡ None → Class u c
      class-over i j = walks-stopped j (omega (arith, all-methods.over i, N.count x g))

      pub class-done : {s u : Measure} → o ≡ Some s → ClassAt d bytes p → u.size ≡ 2 → u.next ≡ (class_at d bytes p).end → Class (Some u) c
      unfolding class_at name_end
      class-done {s} {u} i R h k =
          let M = all-methods.sized s i in
          let ends = node-after [] (list_of 2 (attribute (parse_expr d))) bytes (class_methods_at d bytes p).end (steady-list_of 2 (steady-attribute (steady-E d))) R.attributes in
          let end = (class_at d bytes p).end in
          let all : Sized u p end 0 2 = record { next_is = k; size_is = h; most = omega (arith, h, M.most, M.next_is, ends, e) } in
          record {
            sized = λ z w. subst (λ (v : Measure). Sized v p end 0 2) (some-is refl w) all;
            knows = λ z w. all-methods.knows s i ∙ ap (after_methods (class_methods_at d bytes p).value) (N.knows x g m);
            count = λ z w. omega (arith, all-methods.count s i, N.count x g);
            over = λ w. none-some w refl;
          }
