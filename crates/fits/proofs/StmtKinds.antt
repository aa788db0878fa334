-- Question 14 of each kind of statement, of blocks, branches and methods. Assumes nothing.
use Prim.Native.Nat.{ℕ, zero, suc, ◌+◌, ◌-◌, ◌<◌, ◌≤◌}
use mathlib.Core.Path.{◌≡◌, refl, sym, ap, ◌∙◌, subst, ap₂}
use mathlib.Core.Bool.{Bool, true, ◌&&◌}
use mathlib.Core.List.{List, []}
use native.Mathlib.Omega.{arith}
use lib.ListN.{length, take, drop, get_or}
use Rattle.definitions.specs.Bytes.{Name}
use Rattle.definitions.specs.Tree.{Stmt, Block, Branches, Methods}
use Rattle.definitions.specs.Slots.{with_loops}
use Rattle.state.specs.State.{slots_from, slot_names}
use Rattle.definitions.specs.Fits.{fits_expr, fits_target, fits_stmt, fits_block, fits_branches, fits_methods}
use Rattle.tree_view.specs.Places.{Node, count_at, name_end, params_at}
use Rattle.tree_view.specs.ExprAt.{expr_at, second_at}
use Rattle.tree_view.specs.StmtAt.{stmt_at, block_at, stmts_at, branches_at, methods_at, StmtReads, BlockReads, StmtsRead, BranchesRead}
use Rattle.tree_view.specs.StmtAt.{MethodsRead, expr_stmt_at, return_at, assign_at, BranchAt, body_at, elifs_at, if_at, while_at, for_at, when_at}
use Rattle.tree_view.specs.StmtAt.{else_at, DefAt, def_block_at, def_at, method_at, ClassAt, class_methods_at, class_at, cons_at}
use Rattle.tree_view.proofs.StmtViews.{view-break, view-continue, view-pass, view-expr, view-return, view-assign, view-if, view-while}
use Rattle.tree_view.proofs.StmtViews.{view-for, view-def, view-class, view-block, view-stmts-none, view-stmts-more, view-branches-more}
use Rattle.tree_view.proofs.StmtViews.{else-known, view-done, view-else, view-methods-none, view-methods-more}
use Rattle.slots.specs.Slotted.{Frames}
use Rattle.slots.specs.declared.collect.Framed.{Framed}
use Rattle.slots.proofs.Adding.{none-names}
use Rattle.fits.specs.Walk.{WalkAnswers, def_fits}
use Rattle.std.specs.Prelude.{Option, Some, None, is_some}
use Rattle.fits.proofs.Walking.{walks-as, walks_next, walks-over, next-walks, over-walks, Left, Step, left-start, def-inside}

module _ (d : ℕ) (t : List ℕ) (p : ℕ) (r : StmtReads d t p) (slots : List Name) where
  abbrev x : Node Stmt
  x = stmt_at d t p

  module _ (o : Option ℕ) where
    abbrev Whole : Type 0
    Whole = WalkAnswers o (stmt_at d t p).end (fits_stmt slots (stmt_at d t p).value)

    made_of : (y : Node Stmt) → x ≡ y → WalkAnswers o y.end (fits_stmt slots y.value) → Whole
    made_of y e g = walks-as o _ _ _ _ g (sym (ap (λ (z : Node Stmt). z.end) e)) (sym (ap (λ (z : Node Stmt). fits_stmt slots z.value) e))

    pub fits-value : get_or t p 0 ≡ 3 → WalkAnswers o (expr_at (d - 1) t (p + 1)).end (fits_expr slots (expr_at (d - 1) t (p + 1)).value) → Whole
    unfolding fits_stmt expr_stmt_at
    fits-value e g = made_of _ (view-expr d t p r e).is g

    pub fits-return : get_or t p 0 ≡ 4 → WalkAnswers o (expr_at (d - 1) t (p + 1)).end (fits_expr slots (expr_at (d - 1) t (p + 1)).value) → Whole
    unfolding fits_stmt return_at
    fits-return e g = made_of _ (view-return d t p r e).is g

    pub fits-assign : get_or t p 0 ≡ 5 → WalkAnswers o (second_at (d - 1) t (p + 1)).end (fits_target slots (expr_at (d - 1) t (p + 1)).value && fits_expr slots (second_at (d - 1) t (p + 1)).value) → Whole
    unfolding fits_stmt assign_at
    fits-assign e g = made_of _ (view-assign d t p r e).is g

    pub fits-if : get_or t p 0 ≡ 6 →
        WalkAnswers o (elifs_at (d - 1) t (p + 1)).end (fits_expr slots (expr_at (d - 1) t (p + 1)).value && fits_block slots (body_at (d - 1) t (p + 1)).value && fits_branches slots (elifs_at (d - 1) t (p + 1)).value) → Whole
    unfolding fits_stmt fits_branches if_at
    fits-if e g = made_of _ (view-if d t p r e).is g

    pub fits-while : get_or t p 0 ≡ 7 → WalkAnswers o (body_at (d - 1) t (p + 1)).end (fits_expr slots (expr_at (d - 1) t (p + 1)).value && fits_block slots (body_at (d - 1) t (p + 1)).value) → Whole
    unfolding fits_stmt while_at
    fits-while e g = made_of _ (view-while d t p r e).is g

    pub fits-for : get_or t p 0 ≡ 8 →
        WalkAnswers o (body_at (d - 1) t (name_end t (p + 1))).end (fits_expr slots (expr_at (d - 1) t (name_end t (p + 1))).value && fits_block slots (body_at (d - 1) t (name_end t (p + 1))).value) → Whole
    unfolding fits_stmt for_at
    fits-for e g = made_of _ (view-for d t p r e).is g

    pub fits-def : get_or t p 0 ≡ 9 → WalkAnswers o (def_block_at (d - 1) t (p + 1)).end (def_fits (with_loops (params_at t (name_end t (p + 1))).value (def_block_at (d - 1) t (p + 1)).value) (def_block_at (d - 1) t (p + 1)).value) → Whole
    unfolding fits_stmt def_at def_fits
    fits-def e g = made_of _ (view-def d t p r e).is g

    pub fits-class : get_or t p 0 ≡ 10 → WalkAnswers o (stmt_at d t p).end (fits_methods (class_methods_at (d - 1) t (p + 1)).value) → Whole
    unfolding fits_stmt class_at
    fits-class e g = walks-as o _ _ _ _ g refl (sym (ap (λ (z : Node Stmt). fits_stmt slots z.value) (view-class d t p r e).is))

  pass-kind : (k : ℕ) → get_or t p 0 ≡ k → k < 3 → WalkAnswers (Some (p + 1)) (stmt_at d t p).end (fits_stmt slots (stmt_at d t p).value)
  unfolding fits_stmt
  pass-kind zero e h = made_of (Some (p + 1)) _ (view-break d t p r e) (next-walks _ _ _ refl refl)
  pass-kind (suc zero) e h = made_of (Some (p + 1)) _ (view-continue d t p r e) (next-walks _ _ _ refl refl)
  pass-kind (suc (suc zero)) e h = made_of (Some (p + 1)) _ (view-pass d t p r e) (next-walks _ _ _ refl refl)
  pass-kind (suc (suc (suc k))) e h = absurd (omega arith)

pub fits-pass : (d : ℕ) (t : List ℕ) (p : ℕ) (r : StmtReads d t p) (slots : List Name) → get_or t p 0 < 3 → WalkAnswers (Some (p + 1)) (stmt_at d t p).end (fits_stmt slots (stmt_at d t p).value)
fits-pass d t p r slots h = pass-kind d t p r slots (get_or t p 0) refl h

-- ---- one part after another

module _ (d : ℕ) (t : List ℕ) (p q : ℕ) (e : q ≡ (expr_at d t p).end) where
  pub block-there : BranchAt d t p → BlockReads d t q
  block-there h = subst (λ (m : ℕ). BlockReads d t m) (sym e) h.block

  pub block-moved : (slots : List Name) (o : Option ℕ) → WalkAnswers o (block_at d t q).end (fits_block slots (block_at d t q).value) → WalkAnswers o (body_at d t p).end (fits_block slots (body_at d t p).value)
  block-moved slots o w = walks-as o _ _ _ _ w (ap (λ (m : ℕ). (block_at d t m).end) e) (ap (λ (m : ℕ). fits_block slots (block_at d t m).value) e)

pub fits-node : (slots : List Name) (x y : Node Branches) (o : Option ℕ) → x ≡ y → WalkAnswers o x.end (fits_branches slots x.value) → WalkAnswers o y.end (fits_branches slots y.value)
fits-node slots x y o e w = walks-as o _ _ _ _ w (ap (λ (z : Node Branches). z.end) e) (ap (λ (z : Node Branches). fits_branches slots z.value) e)

-- ---- statements of a block, one at a time

abbrev pub StmtsLeft : ℕ → List ℕ → List Name → ℕ → ℕ → ℕ → ℕ → Type 0
StmtsLeft d t slots = Left (λ n p. StmtsRead d n t p) (λ n p. (stmts_at d n t p).end) (λ n p. fits_block slots (stmts_at d n t p).value)

module _ (d : ℕ) (t : List ℕ) (slots : List Name) (n p : ℕ) (r : StmtsRead d n t p) where
  pub stmts-step : 0 < n → Step (λ n p. StmtsRead d n t p) (λ n p. (stmts_at d n t p).end) (λ n p. fits_block slots (stmts_at d n t p).value) n p (stmt_at d t p).end (fits_stmt slots (stmt_at d t p).value)
  unfolding cons_at fits_block
  stmts-step h = let v = view-stmts-more d n t p h r in record { rest = v.parts.rest; end = ap (λ (z : Node Block). z.end) v.is; ok = ap (λ (z : Node Block). fits_block slots z.value) v.is }

  pub stmts-end : n ≤ 0 → (stmts_at d n t p).end ≡ p
  stmts-end h = ap (λ (z : Node Block). z.end) (view-stmts-none d n t p h r.start)

  pub stmts-ok : n ≤ 0 → fits_block slots (stmts_at d n t p).value ≡ true
  unfolding fits_block
  stmts-ok h = ap (λ (z : Node Block). fits_block slots z.value) (view-stmts-none d n t p h r.start)

module _ (d : ℕ) (t : List ℕ) (a n : ℕ) (r : BlockReads d t a) (e : n ≡ count_at t a) where
  pub stmts-start : (slots : List Name) (k : ℕ) → n ≡ k → StmtsLeft d t slots n (a + 2) k (a + 2)
  stmts-start slots k f = left-start _ _ _ n (a + 2) k f (subst (λ (m : ℕ). StmtsRead d m t (a + 2)) (sym e) (view-block d t a r).parts.statements)

  block-is : stmts_at d n t (a + 2) ≡ block_at d t a
  block-is = ap (λ (m : ℕ). stmts_at d m t (a + 2)) e ∙ sym (view-block d t a r).is

  pub fits-block : (slots : List Name) (o : Option ℕ) → WalkAnswers o (stmts_at d n t (a + 2)).end (fits_block slots (stmts_at d n t (a + 2)).value) → WalkAnswers o (block_at d t a).end (fits_block slots (block_at d t a).value)
  fits-block slots o w = walks-as o _ _ _ _ w (ap (λ (z : Node Block). z.end) block-is) (ap (λ (z : Node Block). fits_block slots z.value) block-is)

-- ---- branches, one at a time

abbrev pub BranchesLeft : ℕ → List ℕ → List Name → ℕ → ℕ → ℕ → ℕ → Type 0
BranchesLeft d t slots = Left (λ n p. BranchesRead d n t p) (λ n p. (branches_at d n t p).end) (λ n p. fits_branches slots (branches_at d n t p).value)

module _ (d : ℕ) (t : List ℕ) (slots : List Name) (n p : ℕ) (r : BranchesRead d n t p) where
  pub branches-step : 0 < n → Step (λ n p. BranchesRead d n t p) (λ n p. (branches_at d n t p).end) (λ n p. fits_branches slots (branches_at d n t p).value) n p (body_at d t p).end
      (fits_expr slots (expr_at d t p).value && fits_block slots (body_at d t p).value)
  unfolding when_at fits_branches
  branches-step h = let v = view-branches-more d t p n h r in record { rest = v.parts.rest; end = ap (λ (z : Node Branches). z.end) v.is; ok = ap (λ (z : Node Branches). fits_branches slots z.value) v.is }

  pub branches-last : n ≤ 0 → BranchesRead d 0 t p
  branches-last h = subst (λ (m : ℕ). BranchesRead d m t p) (let e : n ≡ 0 = omega arith in e) r

module _ (d : ℕ) (t : List ℕ) (p : ℕ) (r : BranchesRead d 0 t p) (slots : List Name) where
  pub else-none : get_or t p 0 ≡ 0 → WalkAnswers (Some (p + 1)) (branches_at d 0 t p).end (fits_branches slots (branches_at d 0 t p).value)
  unfolding fits_branches
  else-none e = let v = view-done d t p 0 (omega arith) r e in next-walks _ _ _ (sym (ap (λ (z : Node Branches). z.end) v)) (ap (λ (z : Node Branches). fits_branches slots z.value) v)

  module _ (h : get_or t p 0 ≡ 0 → ⊥) where
    is_one : get_or t p 0 ≡ 1
    is_one = let k = else-known d t p 0 (omega arith) r in omega arith

    pub else-some : (o : Option ℕ) → WalkAnswers o (block_at d t (p + 1)).end (fits_block slots (block_at d t (p + 1)).value) → WalkAnswers o (branches_at d 0 t p).end (fits_branches slots (branches_at d 0 t p).value)
    unfolding else_at fits_branches
    else-some o w = let v = (view-else d t p 0 (omega arith) r is_one).is in walks-as o _ _ _ _ w (sym (ap (λ (z : Node Branches). z.end) v)) (sym (ap (λ (z : Node Branches). fits_branches slots z.value) v))

-- ---- defs and methods

abbrev pub MethodsLeft : ℕ → List ℕ → ℕ → ℕ → ℕ → ℕ → Type 0
MethodsLeft d t = Left (λ n p. MethodsRead d n t p) (λ n p. (methods_at d n t p).end) (λ n p. fits_methods (methods_at d n t p).value)

abbrev pub method_fits : ℕ → List ℕ → ℕ → Bool
method_fits d t p = def_fits (with_loops (params_at t (name_end t p)).value (def_block_at d t p).value) (def_block_at d t p).value

module _ (d : ℕ) (t : List ℕ) (n p : ℕ) (r : MethodsRead d n t p) where
  pub methods-step : 0 < n → Step (λ n p. MethodsRead d n t p) (λ n p. (methods_at d n t p).end) (λ n p. fits_methods (methods_at d n t p).value) n p (def_block_at d t p).end (method_fits d t p)
  unfolding method_at fits_methods def_fits
  methods-step h = let v = view-methods-more d t p n h r in record { rest = v.parts.rest; end = ap (λ (z : Node Methods). z.end) v.is; ok = ap (λ (z : Node Methods). fits_methods z.value) v.is }

  pub methods-end : n ≤ 0 → (methods_at d n t p).end ≡ p
  methods-end h = ap (λ (z : Node Methods). z.end) (view-methods-none d t p n h r.start)

  pub methods-ok : n ≤ 0 → fits_methods (methods_at d n t p).value ≡ true
  unfolding fits_methods
  methods-ok h = ap (λ (z : Node Methods). fits_methods z.value) (view-methods-none d t p n h r.start)

module _ (d : ℕ) (t : List ℕ) (p a q : ℕ) (e : a ≡ name_end t p) (f : q ≡ (params_at t a).end) (h : DefAt d t p) where
  block-at : q ≡ (params_at t (name_end t p)).end
  block-at = f ∙ ap (λ (m : ℕ). (params_at t m).end) e

  pub def-framed : {r : Option Framed} {ps : List ℕ} → Frames r t ps (with_loops (params_at t a).value (block_at d t q).value) → Frames r t ps (with_loops (params_at t (name_end t p)).value (def_block_at d t p).value)
  def-framed {r} {ps} c = subst (Frames r t ps) (ap₂ (λ (m k : ℕ). with_loops (params_at t k).value (block_at d t m).value) block-at e) c

  pub def_body : {r : Option Framed} {ps : List ℕ} {g₀ : Framed} (o : Option ℕ) → Frames r t ps (with_loops (params_at t a).value (block_at d t q).value) → r ≡ Some g₀ → slots_from + 255 ≤ length ps →
      WalkAnswers o (block_at d t q).end (fits_block (slot_names t (take (slots_from + g₀.named - 0) (drop 0 ps))) (block_at d t q).value) → WalkAnswers o (def_block_at d t p).end (method_fits d t p)
  def_body o c k g w = def-inside (def-framed c) k g o (ap (λ (m : ℕ). (block_at d t m).end) block-at) (ap (λ (m : ℕ). (block_at d t m).value) block-at) w

-- ---- classes

module _ (d : ℕ) (t : List ℕ) (p a n : ℕ) (h : ClassAt d t p) (e : a ≡ name_end t p) where
  pub class-count : a + 2 ≤ length t
  class-count = let k = h.count.bytes in omega arith

  module _ (f : n ≡ count_at t a) where
    same_count : n ≡ count_at t (name_end t p)
    same_count = f ∙ ap (count_at t) e

    pub class-methods : MethodsRead d n t (a + 2)
    class-methods = subst (λ (m : ℕ). MethodsRead d m t (a + 2)) (sym same_count) (subst (λ (m : ℕ). MethodsRead d (count_at t (name_end t p)) t (m + 2)) (sym e) h.methods)

    methods-are : methods_at d n t (a + 2) ≡ class_methods_at d t p
    methods-are = ap₂ (λ (m k : ℕ). methods_at d m t (k + 2)) same_count e

    pub class-over : (r : Option ℕ) (end : ℕ) → WalkAnswers r (methods_at d n t (a + 2)).end (fits_methods (methods_at d n t (a + 2)).value) → r ≡ None → WalkAnswers None end (fits_methods (class_methods_at d t p).value)
    class-over r end w g = over-walks end _ (sym (ap (λ (z : Node Methods). fits_methods z.value) methods-are) ∙ walks-over r _ _ w g)

    pub class-done : (r : Option ℕ) (m q end : ℕ) → WalkAnswers r (methods_at d n t (a + 2)).end (fits_methods (methods_at d n t (a + 2)).value) → r ≡ Some m → q ≡ end → WalkAnswers (Some q) end (fits_methods (class_methods_at d t p).value)
    class-done r m q end w g i = next-walks q end _ i (sym (ap (λ (z : Node Methods). fits_methods z.value) methods-are) ∙ (walks_next r _ _ m w g).1)

-- ---- a whole tree, and a top statement: main has no slots

module _ (fits : List Name → Bool) (r : Option ℕ) (t ps : List ℕ) (e : ℕ) (f : length ps ≡ slots_from) (w : WalkAnswers r e (fits (slot_names t ps))) where
  no-slots : fits (slot_names t ps) ≡ fits []
  no-slots = ap fits (none-names t ps f)

  pub top-told : (b : Bool) → b ≡ is_some r → b ≡ fits []
  top-told b h = h ∙ go r refl
    where
      go : (o : Option ℕ) → r ≡ o → is_some o ≡ fits []
      go (Some p) e = sym (sym no-slots ∙ (walks_next r _ _ p w e).1)
      go None e = sym (sym no-slots ∙ walks-over r _ _ w e)
