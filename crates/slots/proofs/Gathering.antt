-- Statements gathered, by their kinds and their parts. Assumes nothing.
use Prim.Native.Nat.{ℕ, ◌+◌, ◌-◌, ◌<◌, ◌≤◌}
use mathlib.Core.Path.{◌≡◌, refl, sym, ap, ◌∙◌, subst}
use mathlib.Core.List.{List}
use mathlib.Core.Logic.{◌⊎◌, inl, inr}
use native.Mathlib.Omega.{arith}
use lib.ListN.{length, get_or}
use Rattle.definitions.specs.Bytes.{Name}
use Rattle.definitions.specs.Tree.{Stmt, break, continue, pass, expr, return, Block, Branches}
use Rattle.definitions.specs.Slots.{add, add_target, locals_stmt, locals_block, locals_branches, loops_stmt, loops_block, loops_branches}
use Rattle.definitions.proofs.Named.{block-grows, branches-grow}
use Rattle.numerals.specs.Kinds.{stmt_byte}
use Rattle.numerals.specs.declared.kinds.StmtKind.{StmtKind}
use Rattle.numerals.specs.declared.kinds.StmtKind.TheVariants.{Break, Continue, Pass, Expr, Return, Assign, If, While, For, Def, Class}
use Rattle.tree_view.specs.Places.{Node, node, count_at, CountThere, name_from, name_end, There}
use Rattle.tree_view.proofs.Nodes.{Seen}
use Rattle.tree_view.specs.ExprAt.{expr_at, ExprReads, TwoAt}
use Rattle.tree_view.specs.StmtAt.{stmt_at, block_at, stmts_at, branches_at, StmtReads, BlockReads, StmtsRead, BranchesRead, BranchAt, body_at, IfAt, elifs_at, ForAt}
use Rattle.tree_view.specs.StmtAt.{expr_stmt_at, return_at, assign_at, if_at, while_at, for_at, when_at, else_at, cons_at, def_at, class_at}
use Rattle.tree_view.proofs.StmtViews.{view-block, view-stmts-none, view-stmts-more, view-branches-more, else-known, view-done, view-else}
use Rattle.tree_view.proofs.StmtViews.{view-break, view-continue, view-pass, view-expr, view-return, view-assign, view-if, view-while, view-for, view-def, view-class}
use Rattle.std.specs.Prelude.{Option, Some, None}
use Rattle.slots.specs.Gathered.{names_gathered, Adds, Gathers, no_loops}
use Rattle.slots.specs.declared.walk.Gathering.{Gathering}
use Rattle.slots.proofs.Steps.{adds-on, adds-as, adds-then, gathers-as, gathers-to, gathers-stopped, gathers-none, Splits, parts-done, parts-stopped, Left, left-start, left-next, left-stopped}

here : {y : Node Stmt} {e : ℕ} (x : Stmt) (a : Gathering) → y ≡ node x e → names_gathered a ≡ locals_stmt x (names_gathered a) → 0 ≡ loops_stmt x → {q : ℕ} → q ≡ e → Gathers (Some q) y locals_stmt loops_stmt a a
here x a f g h i = gathers-as (λ (z : Node Stmt). z) (sym f) (gathers-none a i g h)

-- ---- statements by their kind bytes

module _ (d : ℕ) (t : List ℕ) (p : ℕ) (r : StmtReads d t p) {k : StmtKind} (byte : stmt_byte k ≡ get_or t p 0) where
  kind-is : {j : StmtKind} → k ≡ j → get_or t p 0 ≡ stmt_byte j
  kind-is e = sym byte ∙ ap stmt_byte e

  pub assign-seen : k ≡ Assign → Seen (TwoAt (d - 1) t (p + 1)) (stmt_at d t p) (assign_at (d - 1) t (p + 1))
  unfolding stmt_byte
  assign-seen e = view-assign d t p r (kind-is e)

  pub if-seen : k ≡ If → Seen (IfAt (d - 1) t (p + 1)) (stmt_at d t p) (if_at (d - 1) t (p + 1))
  unfolding stmt_byte
  if-seen e = view-if d t p r (kind-is e)

  pub while-seen : k ≡ While → Seen (BranchAt (d - 1) t (p + 1)) (stmt_at d t p) (while_at (d - 1) t (p + 1))
  unfolding stmt_byte
  while-seen e = view-while d t p r (kind-is e)

  pub for-seen : k ≡ For → Seen (ForAt (d - 1) t (p + 1)) (stmt_at d t p) (for_at (d - 1) t (p + 1))
  unfolding stmt_byte
  for-seen e = view-for d t p r (kind-is e)

  -- ---- those that hold no block of the function

  pub plain-gathered : (k ≡ Break) ⊎ ((k ≡ Continue) ⊎ (k ≡ Pass)) → (a : Gathering) → Gathers (Some (p + 1)) (stmt_at d t p) locals_stmt loops_stmt a a
  unfolding stmt_byte locals_stmt loops_stmt
  plain-gathered (inl e) a = here break a (view-break d t p r (kind-is e)) refl refl refl
  plain-gathered (inr (inl e)) a = here continue a (view-continue d t p r (kind-is e)) refl refl refl
  plain-gathered (inr (inr e)) a = here pass a (view-pass d t p r (kind-is e)) refl refl refl

  pub value-reads : (k ≡ Expr) ⊎ (k ≡ Return) → ExprReads (d - 1) t (p + 1)
  unfolding stmt_byte
  value-reads (inl e) = (view-expr d t p r (kind-is e)).parts
  value-reads (inr e) = (view-return d t p r (kind-is e)).parts

  pub value-gathered : (k ≡ Expr) ⊎ (k ≡ Return) → (a : Gathering) {q : ℕ} → q ≡ (expr_at (d - 1) t (p + 1)).end → Gathers (Some q) (stmt_at d t p) locals_stmt loops_stmt a a
  unfolding stmt_byte expr_stmt_at return_at locals_stmt loops_stmt
  value-gathered (inl e) a h = here (expr (expr_at (d - 1) t (p + 1)).value) a (view-expr d t p r (kind-is e)).is refl refl h
  value-gathered (inr e) a h = here (return (expr_at (d - 1) t (p + 1)).value) a (view-return d t p r (kind-is e)).is refl refl h

  -- ---- a def or class: its name

  pub named-there : (k ≡ Def) ⊎ (k ≡ Class) → There t (p + 1)
  unfolding stmt_byte
  named-there (inl e) = (view-def d t p r (kind-is e)).parts.name
  named-there (inr e) = (view-class d t p r (kind-is e)).parts.name

  named-names : (k ≡ Def) ⊎ (k ≡ Class) → (xs : List Name) → add (name_from t (p + 1)) xs ≡ locals_stmt (stmt_at d t p).value xs
  unfolding stmt_byte def_at class_at locals_stmt
  named-names (inl e) xs = ap (λ (x : Node Stmt). locals_stmt x.value xs) (sym (view-def d t p r (kind-is e)).is)
  named-names (inr e) xs = ap (λ (x : Node Stmt). locals_stmt x.value xs) (sym (view-class d t p r (kind-is e)).is)

  named-loops : (k ≡ Def) ⊎ (k ≡ Class) → 0 ≡ loops_stmt (stmt_at d t p).value
  unfolding stmt_byte def_at class_at loops_stmt
  named-loops (inl e) = ap (λ (x : Node Stmt). loops_stmt x.value) (sym (view-def d t p r (kind-is e)).is)
  named-loops (inr e) = ap (λ (x : Node Stmt). loops_stmt x.value) (sym (view-class d t p r (kind-is e)).is)

  module _ {o : Option (Unit {0})} {a b : Gathering} (e : (k ≡ Def) ⊎ (k ≡ Class)) (s : Adds o (add (name_from t (p + 1)) (names_gathered a)) 0 a b) where
    pub named-stopped : {q : Option ℕ} → o ≡ None → q ≡ None → Gathers q (stmt_at d t p) locals_stmt loops_stmt a b
    named-stopped f g = gathers-stopped f g (omega (arith, ap length (named-names e (names_gathered a)))) s

    pub named-gathered : {x : Unit {0}} {q : ℕ} → o ≡ Some x → q ≡ (stmt_at d t p).end → Gathers (Some q) (stmt_at d t p) locals_stmt loops_stmt a b
    named-gathered f g = gathers-to g (named-names e (names_gathered a)) (named-loops e) (adds-on f s)

-- ---- what parts of the statements leave

module _ (d : ℕ) (t : List ℕ) (p : ℕ) {o : Option ℕ} {a b : Gathering} where
  pub while-done : Gathers o (body_at d t p) locals_block loops_block a b → Gathers o (while_at d t p) locals_stmt loops_stmt a b
  unfolding while_at locals_stmt loops_stmt
  while-done g = record { next = g.next; adds = g.adds }

  else-done : Gathers o (block_at d t p) locals_block loops_block a b → Gathers o (else_at d t p) locals_branches loops_branches a b
  unfolding else_at locals_branches loops_branches
  else-done g = record { next = g.next; adds = g.adds }

-- a target, after which the value stands
module _ (d : ℕ) (p : ℕ) {r : Option ℕ} {a b : Gathering} (g : Gathers r (expr_at d a.tree.now p) add_target no_loops a b) where
  pub assign-stopped : {o : Option ℕ} → r ≡ None → o ≡ None → Gathers o (assign_at d a.tree.now p) locals_stmt loops_stmt a b
  unfolding assign_at locals_stmt
  assign-stopped e i = gathers-stopped e i (omega arith) g.adds

  module _ {q : ℕ} (f : r ≡ Some q) where
    pub second-reads : TwoAt d a.tree.now p → ExprReads d b.tree.now q
    second-reads i = subst (λ (s : List ℕ). ExprReads d s q) (sym g.adds.same_tree) (subst (λ (m : ℕ). ExprReads d a.tree.now m) (sym (g.next q f)) i.second)

    pub assign-done : {e : ℕ} → e ≡ (expr_at d b.tree.now q).end → Gathers (Some e) (assign_at d a.tree.now p) locals_stmt loops_stmt a b
    unfolding assign_at locals_stmt loops_stmt
    assign-done h = gathers-to (h ∙ ap (λ (s : List ℕ). (expr_at d s q).end) g.adds.same_tree ∙ ap (λ (m : ℕ). (expr_at d a.tree.now m).end) (g.next q f)) refl refl (adds-on f g.adds)

module _ (d : ℕ) (t : List ℕ) (p : ℕ) where
  pub if-splits : Splits (if_at d t p) locals_stmt loops_stmt (body_at d t p) locals_block loops_block (elifs_at d t p) locals_branches loops_branches
  unfolding if_at locals_stmt locals_branches loops_stmt loops_branches
  if-splits = record { end = refl; names = λ xs. refl; loops = refl; grows = λ xs. branches-grow (elifs_at d t p).value xs }

  module _ (r : BranchesRead d 0 t p) where
    pub else-none : get_or t p 0 ≡ 0 → (a : Gathering) → Gathers (Some (p + 1)) (branches_at d 0 t p) locals_branches loops_branches a a
    unfolding locals_branches loops_branches
    else-none e a = gathers-as (λ (x : Node Branches). x) (sym (view-done d t p 0 (omega arith) r e)) (gathers-none a refl refl refl)

    else-seen : (get_or t p 0 ≡ 0 → ⊥) → Seen (BlockReads d t (p + 1)) (branches_at d 0 t p) (else_at d t (p + 1))
    else-seen h = view-else d t p 0 (omega arith) r (let k = else-known d t p 0 (omega arith) r in omega arith)

    pub else-reads : (get_or t p 0 ≡ 0 → ⊥) → BlockReads d t (p + 1)
    else-reads h = (else-seen h).parts

    pub else-some : {o : Option ℕ} {a b : Gathering} → (get_or t p 0 ≡ 0 → ⊥) → Gathers o (block_at d t (p + 1)) locals_block loops_block a b → Gathers o (branches_at d 0 t p) locals_branches loops_branches a b
    else-some h g = gathers-as (λ (x : Node Branches). x) (sym (else-seen h).is) (else-done d t (p + 1) g)

-- ---- a block, a condition and a block

pub block-reads : (d : ℕ) (t : List ℕ) (p q : ℕ) → q ≡ (expr_at d t p).end → BranchAt d t p → BlockReads d t q
block-reads d t p q e i = subst (λ (m : ℕ). BlockReads d t m) (sym e) i.block

module _ (d p : ℕ) (a : Gathering) (reads : BlockReads d a.tree.now p) {n : ℕ} (e : n ≡ count_at a.tree.now p) where
  pub stmts-start : (j : ℕ) → n ≡ j → StmtsRead d j a.tree.now (p + 2) × Left (block_at d a.tree.now p) (stmts_at d j a.tree.now (p + 2)) locals_block loops_block a a
  stmts-start j i =
      let v = view-block d a.tree.now p reads in
      subst (λ (m : ℕ). StmtsRead d m a.tree.now (p + 2) × Left (block_at d a.tree.now p) (stmts_at d m a.tree.now (p + 2)) locals_block loops_block a a) (sym e ∙ i) (v.parts.statements, left-start a (sym v.is))

-- ---- an If's elifs

module _ (d : ℕ) (t : List ℕ) (a : ℕ) (p n : ℕ) (e : p ≡ (body_at d t a).end) where
  pub elifs-counted : IfAt d t a → p + 2 ≤ length t
  elifs-counted i = let h = i.count.bytes in omega arith

  module _ (f : n ≡ count_at t p) where
    same_count : n ≡ count_at t (body_at d t a).end
    same_count = f ∙ ap (count_at t) e

    pub elifs-read : IfAt d t a → BranchesRead d n t (p + 2)
    elifs-read i = subst (λ (m : ℕ). BranchesRead d m t (p + 2)) (sym same_count) (subst (λ (m : ℕ). BranchesRead d (count_at t (body_at d t a).end) t (m + 2)) (sym e) i.rest)

    pub elifs-are : branches_at d n t (p + 2) ≡ elifs_at d t a
    elifs-are = ap (λ (m : ℕ). branches_at d m t (p + 2)) same_count ∙ ap (λ (m : ℕ). branches_at d (count_at t (body_at d t a).end) t (m + 2)) e

-- ---- an If, after its first block

module _ (d p : ℕ) {r : Option ℕ} {a b : Gathering} (g : Gathers r (body_at d a.tree.now p) locals_block loops_block a b) where
  pub if-stopped : {o : Option ℕ} → r ≡ None → o ≡ None → Gathers o (if_at d a.tree.now p) locals_stmt loops_stmt a b
  if-stopped e i = parts-stopped (if-splits d a.tree.now p) g e i

  module _ {q : ℕ} (f : r ≡ Some q) where
    pub if-counted : IfAt d a.tree.now p → CountThere b.tree.now q
    if-counted i = subst (λ (s : List ℕ). CountThere s q) (sym g.adds.same_tree) (subst (λ (m : ℕ). CountThere a.tree.now m) (sym (g.next q f)) i.count)

    module _ {n : ℕ} (h : n ≡ count_at b.tree.now q) where
      count : n ≡ count_at a.tree.now q
      count = h ∙ ap (λ (s : List ℕ). count_at s q) g.adds.same_tree

      pub if-elifs : IfAt d a.tree.now p → BranchesRead d n b.tree.now (q + 2)
      if-elifs i = subst (λ (s : List ℕ). BranchesRead d n s (q + 2)) (sym g.adds.same_tree) (elifs-read d a.tree.now p q n (g.next q f) count i)

      pub if-done : {o : Option ℕ} {c : Gathering} → Gathers o (branches_at d n b.tree.now (q + 2)) locals_branches loops_branches b c → Gathers o (if_at d a.tree.now p) locals_stmt loops_stmt a c
      if-done k =
          parts-done (if-splits d a.tree.now p) g f
          (gathers-as (λ (x : Node Branches). x) (elifs-are d a.tree.now p q n (g.next q f) count) (gathers-as (λ (s : List ℕ). branches_at d n s (q + 2)) g.adds.same_tree k))

-- ---- a For, after its name

module _ (d p : ℕ) {r : Option (Unit {0})} {a b : Gathering} (s : Adds r (add (name_from a.tree.now p) (names_gathered a)) 1 a b) where
  pub for-stopped : {o : Option ℕ} → r ≡ None → o ≡ None → Gathers o (for_at d a.tree.now p) locals_stmt loops_stmt a b
  unfolding for_at locals_stmt
  for-stopped e i = gathers-stopped e i (block-grows (body_at d a.tree.now (name_end a.tree.now p)).value (add (name_from a.tree.now p) (names_gathered a))) s

  module _ {q : ℕ} (h : q ≡ name_end b.tree.now p) where
    place : q ≡ name_end a.tree.now p
    place = h ∙ ap (λ (t : List ℕ). name_end t p) s.same_tree

    pub for-done : {x : Unit {0}} → r ≡ Some x → {o : Option ℕ} {c : Gathering} → Gathers o (body_at d b.tree.now q) locals_block loops_block b c → Gathers o (for_at d a.tree.now p) locals_stmt loops_stmt a c
    unfolding for_at locals_stmt loops_stmt
    for-done {x} e {o} {c} g =
        let k : Gathers o (body_at d a.tree.now (name_end a.tree.now p)) locals_block loops_block b c = gathers-as (body_at d a.tree.now) place (gathers-as (λ (t : List ℕ). body_at d t q) s.same_tree g) in
        record {
          next = k.next;
          adds = adds-as (ap (locals_block (body_at d a.tree.now (name_end a.tree.now p)).value) (s.names x e)) refl (adds-then e s k.adds);
        }

-- ---- statements, one at a time

module _ (d n p : ℕ) {whole : Node Block} {a b : Gathering} (reads : StmtsRead d n a.tree.now p) (left : Left whole (stmts_at d n a.tree.now p) locals_block loops_block a b) where
  abbrev t : List ℕ
  t = a.tree.now

  pub stmts-done : n ≤ 0 → Gathers (Some p) whole locals_block loops_block a b
  unfolding locals_block loops_block
  stmts-done h = left.rest _ b (gathers-as (λ (x : Node Block). x) (sym (view-stmts-none d n t p h reads.start)) (gathers-none b refl refl refl))

  module _ (h : 0 < n) where
    pub stmts-head : StmtReads d b.tree.now p
    stmts-head = subst (λ (s : List ℕ). StmtReads d s p) (sym left.same_tree) (view-stmts-more d n t p h reads).parts.head

    stmts-split : Splits (stmts_at d n t p) locals_block loops_block (stmt_at d t p) locals_stmt loops_stmt (stmts_at d (n - 1) t (stmt_at d t p).end) locals_block loops_block
    unfolding cons_at locals_block loops_block
    stmts-split =
        subst (λ (x : Node Block). Splits x locals_block loops_block (stmt_at d t p) locals_stmt loops_stmt (stmts_at d (n - 1) t (stmt_at d t p).end) locals_block loops_block) (sym (view-stmts-more d n t p h reads).is)
        (record { end = refl; names = λ xs. refl; loops = refl; grows = λ xs. block-grows (stmts_at d (n - 1) t (stmt_at d t p).end).value xs })

    module _ {r : Option ℕ} {c : Gathering} (g : Gathers r (stmt_at d b.tree.now p) locals_stmt loops_stmt b c) where
      first-stmt : Gathers r (stmt_at d t p) locals_stmt loops_stmt b c
      first-stmt = gathers-as (λ (s : List ℕ). stmt_at d s p) left.same_tree g

      pub stmts-stopped : {o : Option ℕ} → r ≡ None → o ≡ None → Gathers o whole locals_block loops_block a c
      stmts-stopped e i = left-stopped left stmts-split first-stmt e i

      pub stmts-next : {e : ℕ} → r ≡ Some e → (j : ℕ) → n - 1 ≡ j → StmtsRead d j t e × Left whole (stmts_at d j t e) locals_block loops_block a c
      stmts-next {e} f j i =
          let q = first-stmt.next e f in
          subst (λ (m : ℕ). StmtsRead d m t e × Left whole (stmts_at d m t e) locals_block loops_block a c) i
          (subst (λ (m : ℕ). StmtsRead d (n - 1) t m × Left whole (stmts_at d (n - 1) t m) locals_block loops_block a c) (sym q) ((view-stmts-more d n t p h reads).parts.rest, left-next left stmts-split first-stmt f))

-- ---- elifs, one at a time

module _ (d n p : ℕ) {whole : Node Branches} {a b : Gathering} (reads : BranchesRead d n a.tree.now p) (left : Left whole (branches_at d n a.tree.now p) locals_branches loops_branches a b) where
  abbrev u : List ℕ
  u = a.tree.now

  module _ (h : n ≤ 0) where
    none : n ≡ 0
    none = omega arith

    pub branches-last : BranchesRead d 0 b.tree.now p
    branches-last = subst (λ (s : List ℕ). BranchesRead d 0 s p) (sym left.same_tree) (subst (λ (m : ℕ). BranchesRead d m u p) none reads)

    pub branches-done : {o : Option ℕ} {c : Gathering} → Gathers o (branches_at d 0 b.tree.now p) locals_branches loops_branches b c → Gathers o whole locals_branches loops_branches a c
    branches-done {o} {c} g = left.rest o c (gathers-as (λ (m : ℕ). branches_at d m u p) (sym none) (gathers-as (λ (s : List ℕ). branches_at d 0 s p) left.same_tree g))

  module _ (h : 0 < n) where
    pub branches-head : BranchAt d b.tree.now p
    branches-head = subst (λ (s : List ℕ). BranchAt d s p) (sym left.same_tree) (view-branches-more d u p n h reads).parts.first

    branches-split : Splits (branches_at d n u p) locals_branches loops_branches (body_at d u p) locals_block loops_block (branches_at d (n - 1) u (body_at d u p).end) locals_branches loops_branches
    unfolding when_at locals_branches loops_branches
    branches-split =
        subst (λ (x : Node Branches). Splits x locals_branches loops_branches (body_at d u p) locals_block loops_block (branches_at d (n - 1) u (body_at d u p).end) locals_branches loops_branches)
        (sym (view-branches-more d u p n h reads).is)
        (record { end = refl; names = λ xs. refl; loops = refl; grows = λ xs. branches-grow (branches_at d (n - 1) u (body_at d u p).end).value xs })

    module _ {r : Option ℕ} {c : Gathering} (g : Gathers r (body_at d b.tree.now p) locals_block loops_block b c) where
      first-branch : Gathers r (body_at d u p) locals_block loops_block b c
      first-branch = gathers-as (λ (s : List ℕ). body_at d s p) left.same_tree g

      pub branches-stopped : {o : Option ℕ} → r ≡ None → o ≡ None → Gathers o whole locals_branches loops_branches a c
      branches-stopped e i = left-stopped left branches-split first-branch e i

      pub branches-next : {e : ℕ} → r ≡ Some e → (j : ℕ) → n - 1 ≡ j → BranchesRead d j u e × Left whole (branches_at d j u e) locals_branches loops_branches a c
      branches-next {e} f j i =
          let q = first-branch.next e f in
          subst (λ (m : ℕ). BranchesRead d m u e × Left whole (branches_at d m u e) locals_branches loops_branches a c) i
          (subst (λ (m : ℕ). BranchesRead d (n - 1) u m × Left whole (branches_at d (n - 1) u m) locals_branches loops_branches a c) (sym q) ((view-branches-more d u p n h reads).parts.rest, left-next left branches-split first-branch f))
