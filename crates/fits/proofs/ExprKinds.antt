-- Question 14 of each kind of expression. Assumes nothing.
use Prim.Native.Nat.{ℕ, ◌+◌, ◌-◌, ◌<◌, ◌≤◌}
use mathlib.Core.Path.{◌≡◌, refl, sym, ap, ◌∙◌, subst}
use mathlib.Core.Bool.{Bool, true, false, ◌&&◌}
use mathlib.Core.List.{List, ◌++◌}
use mathlib.Core.Logic.{◌⊎◌, inl, inr, ⊎_elim}
use native.Mathlib.Omega.{arith}
use lib.Dec.{eqb}
use lib.ListN.{length, take, drop, get_or}
use borrow.Author.Tests.{eqb-true, eqb-false}
use Rattle.definitions.specs.Bytes.{Name}
use Rattle.definitions.specs.Tree.{Expr, Exprs, View, as_var, as_attr, as_index, as_tuple, as_other, view}
use Rattle.definitions.specs.Slots.{captures}
use Rattle.numerals.specs.Kinds.{expr_byte}
use Rattle.numerals.specs.declared.kinds.ExprKind.{ExprKind}
use Rattle.numerals.specs.declared.kinds.ExprKind.TheVariants.{Unary, Binary, Call, Attribute, List as ListKind, Dict, Tuple, Set, TreeSet, Index, Lambda}
use Rattle.state.specs.State.{slots_from, slot_names}
use Rattle.definitions.specs.Fits.{fits_expr, fits_exprs, fits_target}
use Rattle.tree_view.specs.Places.{Node, name_end, There, params_at}
use Rattle.tree_view.specs.ExprAt.{expr_at, exprs_at, ExprReads, ExprsRead, var_at, unary_at, TwoAt, second_at, binary_at, ListAt, list_at}
use Rattle.tree_view.specs.ExprAt.{CallAt, call_at, AttributeAt, attribute_at, display_at, pairs_at, dict_at, index_at, lambda_at, cons_exprs_at}
use Rattle.tree_view.proofs.ExprViews.{view-var, view-unary, view-binary, view-call, view-attribute, view-dict, view-index, view-lambda, view-exprs-none, view-exprs-more}
use Rattle.slots.specs.Slotted.{Collected}
use Rattle.slots.proofs.Skipping.{plain_done}
use Rattle.slots.proofs.Kinded.{seen-literal, seen-display, form-var, form-attribute, form-tuple, form-index}
use Rattle.fits.specs.Walk.{WalkAnswers, lambda_fits}
use Rattle.std.specs.Prelude.{Option, Some}
use Rattle.fits.proofs.Walking.{walks-as, next-walks, Left, Step, lambda-inside}
use Rattle.definitions.proofs.Begins.{le-or-gt}
use Rattle.tree_view.proofs.Operators.{unary-each, binary-each}
use Rattle.tree_view.proofs.OtherForms.{other-form}

module _ (d : ℕ) (t : List ℕ) (p : ℕ) (r : ExprReads d t p) (slots : List Name) where
  abbrev x : Node Expr
  x = expr_at d t p

  view_of : View → Bool
  view_of v = elim v [ as_var y ↦ true | as_attr q y ↦ fits_expr slots q | as_index q i ↦ fits_expr slots q && fits_expr slots i | as_tuple es ↦ true | as_other ↦ true ]

  target_is : (v : View) → view (expr_at d t p).value ≡ v → fits_target slots (expr_at d t p).value ≡ view_of v
  unfolding fits_target view_of
  target_is v e = ap view_of e

  module _ (o : Option ℕ) where
    abbrev Whole : Type 0
    Whole = WalkAnswers o (expr_at d t p).end (fits_expr slots (expr_at d t p).value)

    made_of : (y : Node Expr) → x ≡ y → WalkAnswers o y.end (fits_expr slots y.value) → Whole
    made_of y e g = walks-as o _ _ _ _ g (sym (ap (λ (z : Node Expr). z.end) e)) (sym (ap (λ (z : Node Expr). fits_expr slots z.value) e))

    pub fits-unary : get_or t p 0 ≡ 7 → WalkAnswers o (expr_at (d - 1) t (p + 1 + 1)).end (fits_expr slots (expr_at (d - 1) t (p + 1 + 1)).value) → Whole
    unfolding fits_expr unary_at
    fits-unary e g = let v = view-unary d t p r e in made_of _ v.is (subst (λ (b : Bool). WalkAnswers o (expr_at (d - 1) t (p + 1 + 1)).end b)
        (sym (unary-each (λ (f : Expr → Expr). fits_expr slots (f (expr_at (d - 1) t (p + 1 + 1)).value) ≡ fits_expr slots (expr_at (d - 1) t (p + 1 + 1)).value) (λ op. refl) _ v.parts.operator)) g)

    pub fits-binary : get_or t p 0 ≡ 8 →
        WalkAnswers o (second_at (d - 1) t (p + 1 + 1)).end (fits_expr slots (expr_at (d - 1) t (p + 1 + 1)).value && fits_expr slots (second_at (d - 1) t (p + 1 + 1)).value) → Whole
    unfolding fits_expr binary_at
    fits-binary e g = let v = view-binary d t p r e in made_of _ v.is (subst (λ (b : Bool). WalkAnswers o (second_at (d - 1) t (p + 1 + 1)).end b)
        (sym (binary-each (λ (f : Expr → Expr → Expr). fits_expr slots (f (expr_at (d - 1) t (p + 1 + 1)).value (second_at (d - 1) t (p + 1 + 1)).value)
        ≡ (fits_expr slots (expr_at (d - 1) t (p + 1 + 1)).value && fits_expr slots (second_at (d - 1) t (p + 1 + 1)).value)) (λ op. refl) (λ op. refl) _ v.parts.operator)) g)

    pub fits-call : get_or t p 0 ≡ 9 →
        WalkAnswers o (list_at (d - 1) t (expr_at (d - 1) t (p + 1)).end).end (fits_expr slots (expr_at (d - 1) t (p + 1)).value && fits_exprs slots (list_at (d - 1) t (expr_at (d - 1) t (p + 1)).end).value) → Whole
    unfolding fits_expr call_at
    fits-call e g = made_of _ (view-call d t p r e).is g

    pub fits-attribute : get_or t p 0 ≡ 10 → WalkAnswers o (name_end t (expr_at (d - 1) t (p + 1)).end) (fits_expr slots (expr_at (d - 1) t (p + 1)).value) → Whole
    unfolding fits_expr attribute_at
    fits-attribute e g = made_of _ (view-attribute d t p r e).is g

    pub fits-dict : get_or t p 0 ≡ 12 → WalkAnswers o (pairs_at (d - 1) t (p + 1)).end (fits_exprs slots (pairs_at (d - 1) t (p + 1)).value) → Whole
    unfolding fits_expr dict_at
    fits-dict e g = made_of _ (view-dict d t p r e).is g

    pub fits-display : (get_or t p 0 ≡ 11) ⊎ ((get_or t p 0 ≡ 13) ⊎ ((get_or t p 0 ≡ 14) ⊎ (get_or t p 0 ≡ 15))) → WalkAnswers o (list_at (d - 1) t (p + 1)).end (fits_exprs slots (list_at (d - 1) t (p + 1)).value) → Whole
    unfolding fits_expr display_at
    fits-display e g = let v = seen-display d t p r e in made_of _ v.1.is g

    pub fits-index : get_or t p 0 ≡ 16 → WalkAnswers o (second_at (d - 1) t (p + 1)).end (fits_expr slots (expr_at (d - 1) t (p + 1)).value && fits_expr slots (second_at (d - 1) t (p + 1)).value) → Whole
    unfolding fits_expr index_at
    fits-index e g = made_of _ (view-index d t p r e).is g

    pub fits-lambda : get_or t p 0 ≡ 17 → WalkAnswers o (expr_at (d - 1) t (params_at t (p + 1)).end).end
        (lambda_fits ((params_at t (p + 1)).value ++ captures slots (params_at t (p + 1)).value (expr_at (d - 1) t (params_at t (p + 1)).end).value) (expr_at (d - 1) t (params_at t (p + 1)).end).value) → Whole
    unfolding fits_expr lambda_at lambda_fits
    fits-lambda e g = made_of _ (view-lambda d t p r e).is g

    -- ---- targets

    pub target-attribute : get_or t p 0 ≡ 10 → Whole → WalkAnswers o (expr_at d t p).end (fits_target slots (expr_at d t p).value)
    unfolding fits_expr attribute_at view_of
    target-attribute e w = walks-as o _ _ _ _ w refl (ap (λ (z : Node Expr). fits_expr slots z.value) (view-attribute d t p r e).is ∙ sym (target_is _ (form-attribute d t p r e)))

    pub target-index : get_or t p 0 ≡ 16 → Whole → WalkAnswers o (expr_at d t p).end (fits_target slots (expr_at d t p).value)
    unfolding fits_expr index_at view_of
    target-index e w = walks-as o _ _ _ _ w refl (ap (λ (z : Node Expr). fits_expr slots z.value) (view-index d t p r e).is ∙ sym (target_is _ (form-index d t p r e)))

  -- ---- literals and variables

  lit-fits : get_or t p 0 < 6 → fits_expr slots (expr_at d t p).value ≡ true
  unfolding fits_expr
  lit-fits h = let l = seen-literal d t p r h in ap (fits_expr slots) l.1

  var-fits : get_or t p 0 ≡ 6 → fits_expr slots (expr_at d t p).value ≡ true
  unfolding fits_expr var_at
  var-fits e = ap (λ (z : Node Expr). fits_expr slots z.value) (view-var d t p r e).is

  pub fits-simple : (q : ℕ) → get_or t p 0 < 7 → q ≡ (expr_at d t p).end → WalkAnswers (Some q) (expr_at d t p).end (fits_expr slots (expr_at d t p).value)
  fits-simple q h e = next-walks q _ _ e (⊎_elim (λ (k : 6 ≤ get_or t p 0). var-fits (omega arith)) (λ (k : get_or t p 0 < 6). lit-fits k) (le-or-gt 6 (get_or t p 0)))

  -- None, False and True
  pub fits-plain : get_or t p 0 < 3 → WalkAnswers (Some (p + 1)) (expr_at d t p).end (fits_expr slots (expr_at d t p).value)
  fits-plain h = fits-simple (p + 1) (omega arith) (plain_done d t p r h)

  -- a target that is a variable, a tuple or another form holds nothing that is lowered
  target-simple : (get_or t p 0 ≡ 10 → ⊥) → (get_or t p 0 ≡ 16 → ⊥) → fits_target slots (expr_at d t p).value ≡ true
  unfolding view_of
  target-simple f g = by (eqb (get_or t p 0) 6) (eqb (get_or t p 0) 13) refl refl
    where
      by : (a b : Bool) → eqb (get_or t p 0) 6 ≡ a → eqb (get_or t p 0) 13 ≡ b → fits_target slots (expr_at d t p).value ≡ true
      by true b h i = target_is _ (form-var d t p r (eqb-true _ _ h))
      by false true h i = target_is _ (form-tuple d t p r (eqb-true _ _ i))
      by false false h i = target_is _ (other-form d t p r (eqb-false _ _ h) f (eqb-false _ _ i) g)

  pub target-other : (q : ℕ) → (get_or t p 0 ≡ 10 → ⊥) → (get_or t p 0 ≡ 16 → ⊥) → q ≡ (expr_at d t p).end → WalkAnswers (Some q) (expr_at d t p).end (fits_target slots (expr_at d t p).value)
  target-other q f g e = next-walks q _ _ e (target-simple f g)

-- a display's kind, and the kinds of literals and variables
pub display-kind : (k : ExprKind) (b : ℕ) → expr_byte k ≡ b → (k ≡ ListKind) ⊎ ((k ≡ Tuple) ⊎ ((k ≡ Set) ⊎ (k ≡ TreeSet))) → (b ≡ 11) ⊎ ((b ≡ 13) ⊎ ((b ≡ 14) ⊎ (b ≡ 15)))
unfolding expr_byte
display-kind k b e h = ⊎_elim
    (λ z. inl (sym e ∙ ap expr_byte z))
    (λ h. inr (⊎_elim (λ z. inl (sym e ∙ ap expr_byte z)) (λ h. inr (⊎_elim (λ z. inl (sym e ∙ ap expr_byte z)) (λ z. inr (sym e ∙ ap expr_byte z)) h)) h))
    h

pub simple-kind : (k : ExprKind) (b : ℕ) → expr_byte k ≡ b → (k ≡ Unary → ⊥) → (k ≡ Binary → ⊥) → (k ≡ Call → ⊥) → (k ≡ Attribute → ⊥) → (k ≡ ListKind → ⊥) → (k ≡ Tuple → ⊥) → (k ≡ Set → ⊥) →
    (k ≡ TreeSet → ⊥) → (k ≡ Dict → ⊥) → (k ≡ Index → ⊥) → (k ≡ Lambda → ⊥) → b < 7
unfolding expr_byte
simple-kind k b e = grind arith

-- kinds that are not those of the targets whose expressions are lowered
pub no-attribute : (k : ExprKind) (b : ℕ) → expr_byte k ≡ b → (k ≡ Attribute → ⊥) → b ≡ 10 → ⊥
unfolding expr_byte
no-attribute k b e = grind arith

pub no-index : (k : ExprKind) (b : ℕ) → expr_byte k ≡ b → (k ≡ Index → ⊥) → b ≡ 16 → ⊥
unfolding expr_byte
no-index k b e = grind arith

-- ---- one part after another

module _ (d : ℕ) (t : List ℕ) (p q : ℕ) (e : q ≡ (expr_at d t p).end) where
  pub second-there : TwoAt d t p → ExprReads d t q
  second-there h = subst (λ (m : ℕ). ExprReads d t m) (sym e) h.second

  pub list-there : CallAt d t p → ListAt d t q
  list-there h = subst (λ (m : ℕ). ListAt d t m) (sym e) h.args

  pub name-there : AttributeAt d t p → There t q
  name-there h = subst (λ (m : ℕ). There t m) (sym e) h.name

  pub second-moved : (slots : List Name) (o : Option ℕ) → WalkAnswers o (expr_at d t q).end (fits_expr slots (expr_at d t q).value) → WalkAnswers o (second_at d t p).end (fits_expr slots (second_at d t p).value)
  second-moved slots o w = walks-as o _ _ _ _ w (ap (λ (m : ℕ). (expr_at d t m).end) e) (ap (λ (m : ℕ). fits_expr slots (expr_at d t m).value) e)

  pub list-moved : (slots : List Name) (o : Option ℕ) → WalkAnswers o (list_at d t q).end (fits_exprs slots (list_at d t q).value)
      → WalkAnswers o (list_at d t (expr_at d t p).end).end (fits_exprs slots (list_at d t (expr_at d t p).end).value)
  list-moved slots o w = walks-as o _ _ _ _ w (ap (λ (m : ℕ). (list_at d t m).end) e) (ap (λ (m : ℕ). fits_exprs slots (list_at d t m).value) e)

-- ---- expressions, one at a time

abbrev pub ExprsLeft : ℕ → List ℕ → List Name → ℕ → ℕ → ℕ → ℕ → Type 0
ExprsLeft d t slots = Left (λ n p. ExprsRead d n t p) (λ n p. (exprs_at d n t p).end) (λ n p. fits_exprs slots (exprs_at d n t p).value)

module _ (d : ℕ) (t : List ℕ) (slots : List Name) (n p : ℕ) (r : ExprsRead d n t p) where
  pub exprs-step : 0 < n → Step (λ n p. ExprsRead d n t p) (λ n p. (exprs_at d n t p).end) (λ n p. fits_exprs slots (exprs_at d n t p).value) n p (expr_at d t p).end (fits_expr slots (expr_at d t p).value)
  unfolding cons_exprs_at fits_exprs
  exprs-step h = let v = view-exprs-more d n t p h r in
      record { rest = v.parts.rest; end = ap (λ (z : Node Exprs). z.end) v.is; ok = ap (λ (z : Node Exprs). fits_exprs slots z.value) v.is }

  pub exprs-end : n ≤ 0 → (exprs_at d n t p).end ≡ p
  exprs-end h = ap (λ (z : Node Exprs). z.end) (view-exprs-none d n t p h r.start)

  pub exprs-ok : n ≤ 0 → fits_exprs slots (exprs_at d n t p).value ≡ true
  unfolding fits_exprs
  exprs-ok h = ap (λ (z : Node Exprs). fits_exprs slots z.value) (view-exprs-none d n t p h r.start)

-- ---- a lambda, whose body stands where its parameters end

pub collected-at : (r : Option ℕ) (t ps : List ℕ) (a : ℕ) (parent : List ℕ) (d p q : ℕ) → p ≡ q →
    Collected r t ps ((params_at t a).value ++ captures (slot_names t parent) (params_at t a).value (expr_at d t p).value) →
    Collected r t ps ((params_at t a).value ++ captures (slot_names t parent) (params_at t a).value (expr_at d t q).value)
collected-at r t ps a parent d p q e c = subst (λ (m : ℕ). Collected r t ps ((params_at t a).value ++ captures (slot_names t parent) (params_at t a).value (expr_at d t m).value)) e c

pub lambda-body : (r : Option ℕ) (t ps : List ℕ) (inner : List Name) (d p q n : ℕ) (o : Option ℕ) → p ≡ q → Collected r t ps inner → r ≡ Some n → slots_from + 255 ≤ length ps →
    WalkAnswers o (expr_at d t p).end (fits_expr (slot_names t (take (slots_from + n - 0) (drop 0 ps))) (expr_at d t p).value) → WalkAnswers o (expr_at d t q).end (lambda_fits inner (expr_at d t q).value)
lambda-body r t ps inner d p q n o e c h g w = lambda-inside r t ps inner c n h g o _ _ _ _ (ap (λ (m : ℕ). (expr_at d t m).end) e) (ap (λ (m : ℕ). (expr_at d t m).value) e) w

pub long-enough : (ps : List ℕ) → length ps ≡ 2304 → slots_from + 255 ≤ length ps
long-enough ps e = omega arith
