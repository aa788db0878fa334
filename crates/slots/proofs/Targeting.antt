-- Targets gathered, by their kinds and their parts. Assumes nothing.
use Prim.Native.Nat.{ℕ, ◌+◌, ◌-◌, ◌<◌, ◌≤◌}
use mathlib.Core.Path.{◌≡◌, refl, sym, ap, ◌∙◌, subst}
use mathlib.Core.Bool.{Bool, true, false}
use mathlib.Core.List.{List}
use native.Mathlib.Omega.{arith}
use lib.ListN.{length, get_or}
use lib.Dec.{eqb}
use borrow.Author.Tests.{eqb-true, eqb-false}
use Rattle.definitions.specs.Bytes.{Name}
use Rattle.definitions.specs.Tree.{Expr, Exprs, View, view}
use Rattle.definitions.specs.Slots.{add, add_target, add_targets}
use Rattle.definitions.proofs.Named.{add_form, target-form, targets-grow}
use Rattle.numerals.specs.Kinds.{expr_byte}
use Rattle.numerals.specs.declared.kinds.ExprKind.{ExprKind}
use Rattle.numerals.specs.declared.kinds.ExprKind.TheVariants.{Variable, Tuple}
use Rattle.tree_view.specs.Places.{Node, count_at, name_from, name_end, There}
use Rattle.tree_view.specs.ExprAt.{expr_at, exprs_at, ExprReads, ExprsRead, ListAt, list_at, var_at, display_at, cons_exprs_at}
use Rattle.tree_view.proofs.ExprViews.{view-var, view-tuple, view-exprs-none, view-exprs-more}
use Rattle.std.specs.Prelude.{Option, Some, None}
use Rattle.slots.specs.Gathered.{names_gathered, Adds, Gathers, no_loops}
use Rattle.slots.specs.declared.walk.Gathering.{Gathering}
use Rattle.slots.proofs.KindBytes.{is-variable, is-tuple}
use Rattle.slots.proofs.Kinded.{form-var, form-attribute, form-tuple, form-index}
use Rattle.slots.proofs.Steps.{adds-on, gathers-as, gathers-to, gathers-stopped, gathers-none, Splits, Left, left-next, left-stopped}
use Rattle.tree_view.proofs.OtherForms.{other-form}

module _ (d : ℕ) (t : List ℕ) (p : ℕ) (r : ExprReads d t p) where
  -- ---- what a target adds, by its kind

  module _ (xs : List Name) where
    by_form : (w : View) → view (expr_at d t p).value ≡ w → add_target (expr_at d t p).value xs ≡ add_form w xs
    by_form w e = target-form (expr_at d t p).value xs ∙ ap (λ (v : View). add_form v xs) e

    target-var : get_or t p 0 ≡ 6 → add (name_from t (p + 1)) xs ≡ add_target (expr_at d t p).value xs
    target-var f = sym (by_form _ (form-var d t p r f))

    target-tuple : get_or t p 0 ≡ 13 → add_targets (list_at (d - 1) t (p + 1)).value xs ≡ add_target (expr_at d t p).value xs
    target-tuple f = sym (by_form _ (form-tuple d t p r f))

    target-other : (get_or t p 0 ≡ 6 → ⊥) → (get_or t p 0 ≡ 13 → ⊥) → xs ≡ add_target (expr_at d t p).value xs
    target-other f g = sym (by (eqb (get_or t p 0) 10) (eqb (get_or t p 0) 16) refl refl)
      where
        by : (a b : Bool) → eqb (get_or t p 0) 10 ≡ a → eqb (get_or t p 0) 16 ≡ b → add_target (expr_at d t p).value xs ≡ xs
        by true b h i = by_form _ (form-attribute d t p r (eqb-true _ _ h))
        by false true h i = by_form _ (form-index d t p r (eqb-true _ _ i))
        by false false h i = by_form _ (other-form d t p r f (eqb-false _ _ h) g (eqb-false _ _ i))

  -- ---- a target gathered, of kind k

  module _ {k : ExprKind} (byte : expr_byte k ≡ get_or t p 0) where
    var-byte : k ≡ Variable → get_or t p 0 ≡ 6
    unfolding expr_byte
    var-byte e = sym byte ∙ ap expr_byte e

    tuple-byte : k ≡ Tuple → get_or t p 0 ≡ 13
    unfolding expr_byte
    tuple-byte e = sym byte ∙ ap expr_byte e

    pub var-there : k ≡ Variable → There t (p + 1)
    var-there e = (view-var d t p r (var-byte e)).parts

    pub var-ends : k ≡ Variable → {q : ℕ} → q ≡ name_end t (p + 1) → q ≡ (expr_at d t p).end
    unfolding var_at
    var-ends e h = h ∙ sym (ap (λ (x : Node Expr). x.end) (view-var d t p r (var-byte e)).is)

    module _ {o : Option (Unit {0})} {a b : Gathering} (e : k ≡ Variable) (s : Adds o (add (name_from t (p + 1)) (names_gathered a)) 0 a b) where
      pub var-gathered : {x : Unit {0}} {q : ℕ} → o ≡ Some x → q ≡ name_end t (p + 1) → Gathers (Some q) (expr_at d t p) add_target no_loops a b
      var-gathered f h = gathers-to (var-ends e h) (target-var (names_gathered a) (var-byte e)) refl (adds-on f s)

      pub var-stopped : {q : Option ℕ} → o ≡ None → q ≡ None → Gathers q (expr_at d t p) add_target no_loops a b
      var-stopped f h = gathers-stopped f h (omega (arith, ap length (target-var (names_gathered a) (var-byte e)))) s

    pub tuple-list : k ≡ Tuple → ListAt (d - 1) t (p + 1)
    tuple-list e = (view-tuple d t p r (tuple-byte e)).parts

    pub tuple-reads : k ≡ Tuple → {n : ℕ} → n ≡ count_at t (p + 1) → ExprsRead (d - 1) n t (p + 1 + 2)
    tuple-reads e f = subst (λ (m : ℕ). ExprsRead (d - 1) m t (p + 1 + 2)) (sym f) (tuple-list e).elements

    pub tuple-gathered : k ≡ Tuple → {o : Option ℕ} {a b : Gathering} {n : ℕ} → n ≡ count_at t (p + 1) → Gathers o (exprs_at (d - 1) n t (p + 1 + 2)) add_targets no_loops a b → Gathers o (expr_at d t p) add_target no_loops a b
    unfolding display_at
    tuple-gathered e {o} {a} {b} {n} f g =
        let h : Gathers o (list_at (d - 1) t (p + 1)) add_targets no_loops a b = gathers-as (λ (m : ℕ). exprs_at (d - 1) m t (p + 1 + 2)) f g in
        record {
          next = λ m i. h.next m i ∙ sym (ap (λ (x : Node Expr). x.end) (view-tuple d t p r (tuple-byte e)).is);
          adds = subst (λ (w : List Name). Adds o w 0 a b) (target-tuple (names_gathered a) (tuple-byte e)) h.adds;
        }

    pub other-gathered : (k ≡ Variable → ⊥) → (k ≡ Tuple → ⊥) → {q : ℕ} (a : Gathering) → q ≡ (expr_at d t p).end → Gathers (Some q) (expr_at d t p) add_target no_loops a a
    other-gathered f g a h = gathers-none a h (target-other (names_gathered a) (λ e. f (is-variable k (byte ∙ e))) (λ e. g (is-tuple k (byte ∙ e)))) refl

-- ---- targets, one at a time

module _ (d n p : ℕ) {whole : Node Exprs} {a b : Gathering} (reads : ExprsRead d n a.tree.now p) (left : Left whole (exprs_at d n a.tree.now p) add_targets no_loops a b) where
  abbrev t : List ℕ
  t = a.tree.now

  pub targets-done : n ≤ 0 → Gathers (Some p) whole add_targets no_loops a b
  unfolding add_targets
  targets-done h = left.rest _ b (gathers-as (λ (x : Node Exprs). x) (sym (view-exprs-none d n t p h reads.start)) (gathers-none b refl refl refl))

  module _ (h : 0 < n) where
    pub targets-head : ExprReads d b.tree.now p
    targets-head = subst (λ (s : List ℕ). ExprReads d s p) (sym left.same_tree) (view-exprs-more d n t p h reads).parts.head

    split : Splits (exprs_at d n t p) add_targets no_loops (expr_at d t p) add_target no_loops (exprs_at d (n - 1) t (expr_at d t p).end) add_targets no_loops
    unfolding cons_exprs_at add_targets
    split =
        subst (λ (x : Node Exprs). Splits x add_targets no_loops (expr_at d t p) add_target no_loops (exprs_at d (n - 1) t (expr_at d t p).end) add_targets no_loops) (sym (view-exprs-more d n t p h reads).is)
        (record { end = refl; names = λ xs. refl; loops = refl; grows = λ xs. targets-grow (exprs_at d (n - 1) t (expr_at d t p).end).value xs })

    module _ {r : Option ℕ} {c : Gathering} (g : Gathers r (expr_at d b.tree.now p) add_target no_loops b c) where
      first : Gathers r (expr_at d t p) add_target no_loops b c
      first = gathers-as (λ (s : List ℕ). expr_at d s p) left.same_tree g

      pub targets-stopped : {o : Option ℕ} → r ≡ None → o ≡ None → Gathers o whole add_targets no_loops a c
      targets-stopped e i = left-stopped left split first e i

      pub targets_next : {e : ℕ} → r ≡ Some e → (j : ℕ) → n - 1 ≡ j → ExprsRead d j t e × Left whole (exprs_at d j t e) add_targets no_loops a c
      targets_next {e} f j i =
          let q = first.next e f in
          subst (λ (m : ℕ). ExprsRead d m t e × Left whole (exprs_at d m t e) add_targets no_loops a c) i
          (subst (λ (m : ℕ). ExprsRead d (n - 1) t m × Left whole (exprs_at d (n - 1) t m) add_targets no_loops a c) (sym q) ((view-exprs-more d n t p h reads).parts.rest, left-next left split first f))
