-- What is taken out of each kind of statement, of blocks, branches and methods.
use Prim.Native.Nat.{ℕ, zero, suc, ◌+◌, ◌-◌, ◌<◌, ◌≤◌}
use mathlib.Core.Path.{◌≡◌, refl, sym, ap, ap₂, ◌∙◌, subst}
use mathlib.Core.Bool.{true, false}
use mathlib.Core.Option.{Option, none, some}
use mathlib.Core.List.{List, []}
use mathlib.Core.Logic.{◌⊎◌, ⊎_elim}
use native.Mathlib.Omega.{arith}
use lib.ListN.{length, get_or}
use lib.Pow.{are_bytes}
use Rattle.definitions.specs.Bytes.{Answer, refused, accepted, when_accepted, concat}
use Rattle.definitions.specs.Tree.{Attribute, Stmt, Block, Branches, Methods}
use Rattle.definitions.specs.Parse.{parse_stmt, block_of, read_tree}
use Rattle.definitions.specs.Wellformed.{ask_block, block_questions, first_no, refused_by, well_formed, check_tree}
use Rattle.definitions.specs.TreeBytes.{attribute_bytes, tree_bytes}
use Rattle.definitions.specs.Rests.{rest, taken_stmt, taken, taken_branches, taken_methods}
use Rattle.definitions.proofs.BytesWritten.{length-list}
use Rattle.definitions.proofs.Taken.{tree_taken}
use Rattle.definitions.proofs.TreeExprs.{both-expr}
use Rattle.definitions.proofs.TreeStmts.{writes-stmt, both-attributes}
use Rattle.definitions.proofs.TreeWritten.{tree_written}
use Rattle.numerals.specs.Kinds.{stmt_byte}
use Rattle.numerals.specs.declared.kinds.StmtKind.{StmtKind}
use Rattle.numerals.specs.declared.kinds.StmtKind.TheVariants.{Break, Continue, Expr, Return, Assign}
use Rattle.tree_view.specs.Places.{Node, count_at, name_end, ParamsAt, params_at}
use Rattle.tree_view.proofs.Nodes.{node-within}
use Rattle.tree_view.proofs.LeafNodes.{name-after, params-after}
use Rattle.tree_view.specs.ExprAt.{expr_at, ExprReads}
use Rattle.tree_view.proofs.ExprLaws.{steady-E}
use Rattle.tree_view.specs.StmtAt.{stmt_at, block_at, stmts_at, branches_at, methods_at, attributes_at, StmtReads, BlockReads, StmtsRead, BranchesRead, MethodsRead}
use Rattle.tree_view.specs.StmtAt.{expr_stmt_at, return_at, assign_at, BranchAt, body_at, IfAt, elifs_at, if_at, while_at, ForAt, for_at, when_at}
use Rattle.tree_view.specs.StmtAt.{else_at, DefAt, def_block_at, def_at, method_at, ClassAt, class_methods_at, class_at, cons_at, TreeAt}
use Rattle.tree_view.proofs.StmtLaws.{steady-attribute, steady-S, steady-B}
use Rattle.tree_view.proofs.Laws.{steady-list_of}
use Rattle.tree_view.proofs.StmtViews.{view-break, view-continue, view-pass, view-expr, view-return, view-assign, view-if, view-while, view-for, view-def, view-class}
use Rattle.tree_view.proofs.StmtViews.{view-block, view-stmts-none, view-stmts-more, view-branches-more, else-known, view-done, view-else, view-methods-none, view-methods-more}
use Rattle.rests.specs.Taking.{Takes}
use Rattle.rests.specs.declared.Taken.{Taken}
use Rattle.rests.proofs.Spans.{node-after, node-fact, node-length}
use Rattle.rests.proofs.Taking.{takes-as, takes-from, Left, Step, left-start}

-- ---- positions

pub stmt-within : (d : ℕ) (t : List ℕ) (p : ℕ) → StmtReads d t p → (stmt_at d t p).end ≤ length t
stmt-within d t p r = node-within _ (parse_stmt d) t p (steady-S d) r

pub expr-after : (d : ℕ) (t : List ℕ) (p : ℕ) → are_bytes t ≡ true → ExprReads d t p → p ≤ (expr_at d t p).end
expr-after d t p o r = node-after _ (both-expr d) (steady-E d) t p o r

pub stmt-after : (d : ℕ) (t : List ℕ) (p : ℕ) → are_bytes t ≡ true → StmtReads d t p → p ≤ (stmt_at d t p).end
stmt-after d t p o r = node-after _ (writes-stmt d) (steady-S d) t p o r

pub body-within : (d : ℕ) (t : List ℕ) (p : ℕ) → BranchAt d t p → (body_at d t p).end ≤ length t
body-within d t p h = node-within _ (block_of (parse_stmt d)) t (expr_at d t p).end (steady-B d) h.block

pub def-within : (d : ℕ) (t : List ℕ) (p : ℕ) → DefAt d t p → (def_block_at d t p).end ≤ length t
def-within d t p h = node-within _ (block_of (parse_stmt d)) t (params_at t (name_end t p)).end (steady-B d) h.block

-- ---- the kinds of statement

-- a kind that holds no block, no class and no Pass
pub record Plain (k : StmtKind) : Type 0 where
  pub low : stmt_byte k < 6
  pub other : stmt_byte k ≡ 2 → ⊥

plain-at : (k l : StmtKind) → Plain l → k ≡ l → Plain k
plain-at k l h e = subst Plain (sym e) h

pub plain-kind : {k : StmtKind} → (k ≡ Break) ⊎ ((k ≡ Continue) ⊎ ((k ≡ Expr) ⊎ ((k ≡ Return) ⊎ (k ≡ Assign)))) → Plain k
unfolding stmt_byte
plain-kind {k} h =
    ⊎_elim (plain-at k Break (record { low = omega arith; other = λ z. omega arith }))
    (λ h. ⊎_elim (plain-at k Continue (record { low = omega arith; other = λ z. omega arith }))
    (λ h. ⊎_elim (plain-at k Expr (record { low = omega arith; other = λ z. omega arith }))
    (λ h. ⊎_elim (plain-at k Return (record { low = omega arith; other = λ z. omega arith })) (plain-at k Assign (record { low = omega arith; other = λ z. omega arith })) h) h) h) h

module _ (d : ℕ) (t : List ℕ) (p : ℕ) (o : are_bytes t ≡ true) (r : StmtReads d t p) where
  none-kind : (k : ℕ) → get_or t p 0 ≡ k → k < 6 → (k ≡ 2 → ⊥) → taken_stmt (stmt_at d t p).value ≡ 0
  unfolding taken_stmt expr_stmt_at return_at assign_at
  none-kind zero e h n = ap (λ (x : Node Stmt). taken_stmt x.value) (view-break d t p r e)
  none-kind (suc zero) e h n = ap (λ (x : Node Stmt). taken_stmt x.value) (view-continue d t p r e)
  none-kind (suc (suc zero)) e h n = absurd (n refl)
  none-kind (suc (suc (suc zero))) e h n = ap (λ (x : Node Stmt). taken_stmt x.value) (view-expr d t p r e).is
  none-kind (suc (suc (suc (suc zero)))) e h n = ap (λ (x : Node Stmt). taken_stmt x.value) (view-return d t p r e).is
  none-kind (suc (suc (suc (suc (suc zero))))) e h n = ap (λ (x : Node Stmt). taken_stmt x.value) (view-assign d t p r e).is
  none-kind (suc (suc (suc (suc (suc (suc k)))))) e h n = absurd (omega arith)

  -- a statement that holds no block, no class and no Pass
  pub simple-taken : {k : StmtKind} {n : ℕ} → n ≡ (stmt_at d t p).end → stmt_byte k ≡ get_or t p 0 → Plain k → Takes (record { next = n; bytes = 0 }) p (stmt_at d t p).end (taken_stmt (stmt_at d t p).value)
  simple-taken {k} e f h = record {
    next = e;
    bytes = sym (none-kind (get_or t p 0) refl (omega (arith, f, h.low)) (λ z. h.other (f ∙ z)));
    small = omega (arith, stmt-after d t p o r);
  }

  made_of : {u : Taken} (y : Node Stmt) → stmt_at d t p ≡ y → Takes u (p + 1) y.end (taken_stmt y.value) → Takes u p (stmt_at d t p).end (taken_stmt (stmt_at d t p).value)
  made_of y e T = takes-from (takes-as T (sym (ap (λ (z : Node Stmt). z.end) e)) (sym (ap (λ (z : Node Stmt). taken_stmt z.value) e))) (omega arith)

  pub pass-taken : get_or t p 0 ≡ 2 → Takes (record { next = p + 1; bytes = 1 }) p (stmt_at d t p).end (taken_stmt (stmt_at d t p).value)
  unfolding taken_stmt
  pass-taken e = let v = view-pass d t p r e in record {
    next = sym (ap (λ (z : Node Stmt). z.end) v);
    bytes = sym (ap (λ (z : Node Stmt). taken_stmt z.value) v);
    small = omega arith;
  }

  pub if-taken : {u : Taken} → get_or t p 0 ≡ 6 → Takes u (p + 1) (elifs_at (d - 1) t (p + 1)).end (taken (body_at (d - 1) t (p + 1)).value + taken_branches (elifs_at (d - 1) t (p + 1)).value)
      → Takes u p (stmt_at d t p).end (taken_stmt (stmt_at d t p).value)
  unfolding taken_stmt taken_branches if_at
  if-taken e T = made_of _ (view-if d t p r e).is T

  pub while-taken : {u : Taken} → get_or t p 0 ≡ 7 → Takes u (p + 1) (body_at (d - 1) t (p + 1)).end (taken (body_at (d - 1) t (p + 1)).value) → Takes u p (stmt_at d t p).end (taken_stmt (stmt_at d t p).value)
  unfolding taken_stmt while_at
  while-taken e T = made_of _ (view-while d t p r e).is T

  pub for-taken : {u : Taken} → get_or t p 0 ≡ 8 → Takes u (p + 1) (body_at (d - 1) t (name_end t (p + 1))).end (taken (body_at (d - 1) t (name_end t (p + 1))).value)
      → Takes u p (stmt_at d t p).end (taken_stmt (stmt_at d t p).value)
  unfolding taken_stmt for_at
  for-taken e T = made_of _ (view-for d t p r e).is T

  pub def-taken : {u : Taken} → get_or t p 0 ≡ 9 → Takes u (p + 1) (def_block_at (d - 1) t (p + 1)).end (taken (def_block_at (d - 1) t (p + 1)).value) → Takes u p (stmt_at d t p).end (taken_stmt (stmt_at d t p).value)
  unfolding taken_stmt def_at
  def-taken e T = made_of _ (view-def d t p r e).is T

  -- a class: its name ends at a, its n methods at m
  module _ (e : get_or t p 0 ≡ 10) (a n : ℕ) (f : a ≡ name_end t (p + 1)) (g : n ≡ count_at t a) where
    seen : ClassAt (d - 1) t (p + 1)
    seen = (view-class d t p r e).parts

    count-is : n ≡ count_at t (name_end t (p + 1))
    count-is = g ∙ ap (count_at t) f

    methods-are : methods_at (d - 1) n t (a + 2) ≡ class_methods_at (d - 1) t (p + 1)
    methods-are = ap₂ (λ (m k : ℕ). methods_at (d - 1) m t (k + 2)) count-is f

    pub class-methods : MethodsRead (d - 1) n t (a + 2)
    class-methods = subst (λ (m : ℕ). MethodsRead (d - 1) m t (a + 2)) (sym count-is) (subst (λ (m : ℕ). MethodsRead (d - 1) (count_at t (name_end t (p + 1))) t (m + 2)) (sym f) seen.methods)

    module _ {u : Taken} (T : Takes u (a + 2) (methods_at (d - 1) n t (a + 2)).end (taken_methods (methods_at (d - 1) n t (a + 2)).value)) where
      abbrev q : ℕ
      q = (class_methods_at (d - 1) t (p + 1)).end

      q-is : u.next ≡ q
      q-is = T.next ∙ ap (λ (x : Node Methods). x.end) methods-are

      vs : List Attribute
      vs = (attributes_at (d - 1) t q).value

      end_is : (stmt_at d t p).end ≡ (attributes_at (d - 1) t q).end
      unfolding class_at
      end_is = ap (λ (x : Node Stmt). x.end) (view-class d t p r e).is

      taken_is : taken_stmt (stmt_at d t p).value ≡ taken_methods (class_methods_at (d - 1) t (p + 1)).value + length (concat attribute_bytes vs)
      unfolding taken_stmt class_at vs
      taken_is = ap (λ (x : Node Stmt). taken_stmt x.value) (view-class d t p r e).is

      -- the attributes are the bytes from q on
      spanned : q + (2 + length (concat attribute_bytes vs)) ≡ (stmt_at d t p).end
      unfolding vs
      spanned =
          let W = both-attributes (d - 1) in
          let s = steady-list_of 2 (steady-attribute (steady-E (d - 1))) in
          let x = (node-fact [] W s t q o seen.attributes).bytes in
          let y = node-length [] W s t q o seen.attributes in
          let z = length-list 2 attribute_bytes (attributes_at (d - 1) t q).value in
          omega (arith, ap length x, y, z, end_is)

      pub attributes-there : u.next + 2 ≤ (stmt_at d t p).end
      attributes-there = let h = spanned in omega (arith, q-is)

      pub class-taken : (m : ℕ) → m ≡ (stmt_at d t p).end → Takes (record { next = m; bytes = u.bytes + (m - u.next - 2) }) p (stmt_at d t p).end (taken_stmt (stmt_at d t p).value)
      class-taken m h = record {
        next = h;
        bytes = let k = spanned in let b : u.bytes ≡ taken_methods (class_methods_at (d - 1) t (p + 1)).value = T.bytes ∙ ap (λ (x : Node Methods). taken_methods x.value) methods-are in omega (arith, b, q-is, taken_is, h);
        small = let k = spanned in let b = T.small in let c = name-after t (p + 1) in omega (arith, b, f, q-is, h);
      }

-- ---- one part after another

module _ (d : ℕ) (t : List ℕ) (p q : ℕ) (e : q ≡ (expr_at d t p).end) where
  pub body_reads : BranchAt d t p → BlockReads d t q
  body_reads h = subst (λ (m : ℕ). BlockReads d t m) (sym e) h.block

  pub body-taken : {u : Taken} → are_bytes t ≡ true → BranchAt d t p → Takes u q (block_at d t q).end (taken (block_at d t q).value) → Takes u p (body_at d t p).end (taken (body_at d t p).value)
  body-taken o h T = takes-from (takes-as T (ap (λ (m : ℕ). (block_at d t m).end) e) (ap (λ (m : ℕ). taken (block_at d t m).value) e)) (omega (arith, expr-after d t p o h.condition, e))

-- a branch that begins where a name ends
module _ (d : ℕ) (t : List ℕ) (p q : ℕ) (e : q ≡ name_end t p) where
  pub for-branch : ForAt d t p → BranchAt d t q
  for-branch h = subst (λ (m : ℕ). BranchAt d t m) (sym e) h.loop

  pub for-body : {u : Taken} → Takes u q (body_at d t q).end (taken (body_at d t q).value) → Takes u p (body_at d t (name_end t p)).end (taken (body_at d t (name_end t p)).value)
  for-body T = takes-from (takes-as T (ap (λ (m : ℕ). (body_at d t m).end) e) (ap (λ (m : ℕ). taken (body_at d t m).value) e)) (omega (arith, name-after t p, e))

-- a def's block, after its name and its parameters
module _ (d : ℕ) (t : List ℕ) (a p q : ℕ) (e : p ≡ name_end t a) (f : q ≡ (params_at t p).end) where
  def-start : q ≡ (params_at t (name_end t a)).end
  def-start = f ∙ ap (λ (m : ℕ). (params_at t m).end) e

  pub def-reads : DefAt d t a → BlockReads d t q
  def-reads h = subst (λ (m : ℕ). BlockReads d t m) (sym def-start) h.block

  pub def-block : {u : Taken} → Takes u q (block_at d t q).end (taken (block_at d t q).value) → Takes u a (def_block_at d t a).end (taken (def_block_at d t a).value)
  def-block T =
      takes-from (takes-as T (ap (λ (m : ℕ). (block_at d t m).end) def-start) (ap (λ (m : ℕ). taken (block_at d t m).value) def-start)) (omega (arith, name-after t a, params-after t p, e, f))

pub def-params : (d : ℕ) (t : List ℕ) (a p : ℕ) → p ≡ name_end t a → DefAt d t a → ParamsAt t p
def-params d t a p e h = subst (λ (m : ℕ). ParamsAt t m) (sym e) h.params

-- ---- blocks, one statement at a time

abbrev pub StmtsLeft : ℕ → List ℕ → ℕ → ℕ → ℕ → ℕ → ℕ → Type 0
StmtsLeft d t = Left (λ n p. StmtsRead d n t p) (λ n p. (stmts_at d n t p).end) (λ n p. taken (stmts_at d n t p).value)

module _ (d : ℕ) (t : List ℕ) (n p : ℕ) (r : StmtsRead d n t p) where
  pub stmts-head : 0 < n → StmtReads d t p
  stmts-head h = (view-stmts-more d n t p h r).parts.head

  pub stmts-step : 0 < n → Step (λ n p. StmtsRead d n t p) (λ n p. (stmts_at d n t p).end) (λ n p. taken (stmts_at d n t p).value) n p (stmt_at d t p).end (taken_stmt (stmt_at d t p).value)
  unfolding cons_at taken
  stmts-step h = let v = view-stmts-more d n t p h r in record { rest = v.parts.rest; end = ap (λ (z : Node Block). z.end) v.is; bytes = ap (λ (z : Node Block). taken z.value) v.is }

  pub stmts-end : n ≤ 0 → (stmts_at d n t p).end ≡ p
  stmts-end h = ap (λ (z : Node Block). z.end) (view-stmts-none d n t p h r.start)

  pub stmts-none : n ≤ 0 → taken (stmts_at d n t p).value ≡ 0
  unfolding taken
  stmts-none h = ap (λ (z : Node Block). taken z.value) (view-stmts-none d n t p h r.start)

module _ (d : ℕ) (t : List ℕ) (a n : ℕ) (r : BlockReads d t a) (e : n ≡ count_at t a) where
  pub stmts-start : {k : ℕ} → n ≡ k → StmtsLeft d t n (a + 2) k (a + 2) 0
  stmts-start f = left-start f (subst (λ (m : ℕ). StmtsRead d m t (a + 2)) (sym e) (view-block d t a r).parts.statements)

  block-is : stmts_at d n t (a + 2) ≡ block_at d t a
  block-is = ap (λ (m : ℕ). stmts_at d m t (a + 2)) e ∙ sym (view-block d t a r).is

  pub block-taken : {u : Taken} → Takes u (a + 2) (stmts_at d n t (a + 2)).end (taken (stmts_at d n t (a + 2)).value) → Takes u a (block_at d t a).end (taken (block_at d t a).value)
  block-taken T = takes-from (takes-as T (ap (λ (z : Node Block). z.end) block-is) (ap (λ (z : Node Block). taken z.value) block-is)) (omega arith)

-- ---- branches, one at a time

abbrev pub BranchesLeft : ℕ → List ℕ → ℕ → ℕ → ℕ → ℕ → ℕ → Type 0
BranchesLeft d t = Left (λ n p. BranchesRead d n t p) (λ n p. (branches_at d n t p).end) (λ n p. taken_branches (branches_at d n t p).value)

module _ (d : ℕ) (t : List ℕ) (n p : ℕ) (r : BranchesRead d n t p) where
  pub branches-head : 0 < n → BranchAt d t p
  branches-head h = (view-branches-more d t p n h r).parts.first

  pub branches-step : 0 < n → Step (λ n p. BranchesRead d n t p) (λ n p. (branches_at d n t p).end) (λ n p. taken_branches (branches_at d n t p).value) n p (body_at d t p).end (taken (body_at d t p).value)
  unfolding when_at taken_branches
  branches-step h = let v = view-branches-more d t p n h r in record { rest = v.parts.rest; end = ap (λ (z : Node Branches). z.end) v.is; bytes = ap (λ (z : Node Branches). taken_branches z.value) v.is }

  pub branches-last : n ≤ 0 → BranchesRead d 0 t p
  branches-last h = subst (λ (m : ℕ). BranchesRead d m t p) (let e : n ≡ 0 = omega arith in e) r

  pub branches-done : {u : Taken} → n ≤ 0 → Takes u p (branches_at d 0 t p).end (taken_branches (branches_at d 0 t p).value) → Takes u p (branches_at d n t p).end (taken_branches (branches_at d n t p).value)
  branches-done h T = let e : 0 ≡ n = omega arith in takes-as T (ap (λ (m : ℕ). (branches_at d m t p).end) e) (ap (λ (m : ℕ). taken_branches (branches_at d m t p).value) e)

module _ (d : ℕ) (t : List ℕ) (p : ℕ) (r : BranchesRead d 0 t p) where
  pub else-none : get_or t p 0 ≡ 0 → Takes (record { next = p + 1; bytes = 0 }) p (branches_at d 0 t p).end (taken_branches (branches_at d 0 t p).value)
  unfolding taken_branches
  else-none e = let v = view-done d t p 0 (omega arith) r e in record {
    next = sym (ap (λ (z : Node Branches). z.end) v);
    bytes = sym (ap (λ (z : Node Branches). taken_branches z.value) v);
    small = omega arith;
  }

  module _ (h : get_or t p 0 ≡ 0 → ⊥) where
    is_one : get_or t p 0 ≡ 1
    is_one = let k = else-known d t p 0 (omega arith) r in omega arith

    pub else-reads : BlockReads d t (p + 1)
    else-reads = (view-else d t p 0 (omega arith) r is_one).parts

    pub else-taken : {u : Taken} → Takes u (p + 1) (block_at d t (p + 1)).end (taken (block_at d t (p + 1)).value) → Takes u p (branches_at d 0 t p).end (taken_branches (branches_at d 0 t p).value)
    unfolding else_at taken_branches
    else-taken T =
        let v = (view-else d t p 0 (omega arith) r is_one).is in
        takes-from (takes-as T (sym (ap (λ (z : Node Branches). z.end) v)) (sym (ap (λ (z : Node Branches). taken_branches z.value) v))) (omega arith)

-- the elifs of an If whose first branch ends at p
module _ (d : ℕ) (t : List ℕ) (a p : ℕ) (e : p ≡ (body_at d t a).end) (i : IfAt d t a) where
  pub elifs-counted : p + 2 ≤ length t
  elifs-counted = omega (arith, i.count.bytes, e)

  module _ (n : ℕ) (f : n ≡ count_at t p) where
    elif-count : n ≡ count_at t (body_at d t a).end
    elif-count = f ∙ ap (count_at t) e

    elifs-there : branches_at d n t (p + 2) ≡ elifs_at d t a
    elifs-there = ap₂ (λ (m k : ℕ). branches_at d m t (k + 2)) elif-count e

    pub elifs-read : BranchesRead d n t (p + 2)
    elifs-read = subst (λ (m : ℕ). BranchesRead d m t (p + 2)) (sym elif-count) (subst (λ (m : ℕ). BranchesRead d (count_at t (body_at d t a).end) t (m + 2)) (sym e) i.rest)

    pub elifs-taken : {u : Taken} → Takes u (p + 2) (branches_at d n t (p + 2)).end (taken_branches (branches_at d n t (p + 2)).value) → Takes u (p + 2) (elifs_at d t a).end (taken_branches (elifs_at d t a).value)
    elifs-taken T = takes-as T (ap (λ (z : Node Branches). z.end) elifs-there) (ap (λ (z : Node Branches). taken_branches z.value) elifs-there)

-- ---- methods, one at a time

abbrev pub MethodsLeft : ℕ → List ℕ → ℕ → ℕ → ℕ → ℕ → ℕ → Type 0
MethodsLeft d t = Left (λ n p. MethodsRead d n t p) (λ n p. (methods_at d n t p).end) (λ n p. taken_methods (methods_at d n t p).value)

module _ (d : ℕ) (t : List ℕ) (n p : ℕ) (r : MethodsRead d n t p) where
  pub methods-head : 0 < n → DefAt d t p
  methods-head h = (view-methods-more d t p n h r).parts.first

  pub methods-step : 0 < n → Step (λ n p. MethodsRead d n t p) (λ n p. (methods_at d n t p).end) (λ n p. taken_methods (methods_at d n t p).value) n p (def_block_at d t p).end (taken (def_block_at d t p).value)
  unfolding method_at taken_methods
  methods-step h = let v = view-methods-more d t p n h r in record { rest = v.parts.rest; end = ap (λ (z : Node Methods). z.end) v.is; bytes = ap (λ (z : Node Methods). taken_methods z.value) v.is }

  pub methods-end : n ≤ 0 → (methods_at d n t p).end ≡ p
  methods-end h = ap (λ (z : Node Methods). z.end) (view-methods-none d t p n h r.start)

  pub methods-none : n ≤ 0 → taken_methods (methods_at d n t p).value ≡ 0
  unfolding taken_methods
  methods-none h = ap (λ (z : Node Methods). taken_methods z.value) (view-methods-none d t p n h r.start)

-- ---- the whole tree

-- the tree is read as its block
tree-read : (t : List ℕ) (b : Block) → check_tree t ≡ accepted b → read_tree t ≡ accepted b
unfolding check_tree when_accepted well_formed refused_by
tree-read t b e = go (read_tree t) e
  where
    formed : (c : Block) (q : Option ℕ) → refused_by q c ≡ accepted b → accepted c ≡ accepted b
    formed c none e = e
    formed c (some q) e = let z : ◌≡◌ {A = ℕ} 0 1 = cc in absurd (omega arith)

    go : (r : Answer Block) → when_accepted r well_formed ≡ accepted b → r ≡ accepted b
    go (refused q) e = let z : ◌≡◌ {A = ℕ} 0 1 = cc in absurd (omega arith)
    go (accepted c) e = formed c (first_no (λ q. ask_block q false c) block_questions) e

module _ (t : List ℕ) (T : TreeAt t) (o : are_bytes t ≡ true) {u : Taken} (K : Takes u 5 (block_at 32 t 5).end (taken (block_at 32 t 5).value)) where
  -- the rest has as many bytes fewer
  left_over : length (tree_bytes (rest (block_at 32 t 5).value)) + u.bytes ≡ length t
  left_over =
      let b = (block_at 32 t 5).value in
      let x = tree_taken b in
      let y : length t ≡ length (tree_bytes b) = ap length (tree_written t b o (tree-read t b T.answer)) in
      omega (arith, K.bytes)

  pub size_fits : u.bytes ≤ length t
  size_fits = let h = left_over in omega arith

  pub size_is : length t - u.bytes ≡ length (tree_bytes (rest (block_at 32 t 5).value))
  size_is = let h = left_over in omega arith
