-- Elements of tuple targets: halves of them, one of them, and the forms of an element.
use Prim.Native.Nat.{ℕ, zero, suc, ◌+◌, ◌-◌, ◌≤◌, ◌<◌}
use mathlib.Core.Path.{◌≡◌, refl, sym, ap, ◌∙◌, subst}
use mathlib.Core.Bool.{Bool, true, false}
use mathlib.Core.List.{List}
use native.Mathlib.Omega.{arith}
use native.Mathlib.Nat.{le_refl}
use lib.Dec.{eqb}
use lib.ListN.{length, get_or}
use borrow.Author.Tests.{eqb-true, eqb-false}
use Rattle.definitions.specs.Bytes.{Name}
use Rattle.definitions.specs.Tree.{Expr, Exprs, []ᵉ, ◌∷ᵉ◌, View, as_other, view, view_display}
use Rattle.definitions.specs.Instruction.{ConstI64, LoadIndex, Dup}
use Rattle.definitions.specs.Tables.{one, ◌⨟◌}
use Rattle.definitions.specs.Wellformed.{is_tuple}
use Rattle.definitions.specs.Lower.{store, copy, emit_target, unpack}
use Rattle.tree_view.specs.Places.{Node, count_at, name_from, There}
use Rattle.tree_view.specs.ExprAt.{expr_at, exprs_at, ExprReads, ExprsRead, var_at, attribute_at, display_at, index_at, ListAt, cons_exprs_at}
use Rattle.tree_view.proofs.ExprViews.{expr-deep, view-var, view-attribute, view-tuple, view-index, view-exprs-none, view-exprs-more}
use Rattle.state.specs.Words.{name_at}
use Rattle.state.specs.State.{State, emit_at}
use Rattle.state.specs.Steps.{is_stored}
use Rattle.state.proofs.Emission.{base_kept, at-three}
use Rattle.state.proofs.StmtEmission.{at-copy-first, at_copy, at-target-other, at-unpack-none, at-unpack-more}
use Rattle.lower_emit.specs.Ops.{special, Plain}
use Rattle.lower_forms.specs.Elements.{ElementsRead, elements_at, elements_end}
use Rattle.tree_view.proofs.OtherForms.{other-form}

-- ---- expressions one after the other

module _ (d : ℕ) (t : List ℕ) where
  pub elements-more : (n p : ℕ) → 0 < n → ElementsRead d t n p → ExprReads d t p × ElementsRead d t (n - 1) (expr_at d t p).end
  unfolding ElementsRead
  elements-more zero p h r = absurd (omega arith)
  elements-more (suc n) p h r = let z : n ≡ suc n - 1 = omega arith in (r.0, subst (λ (m : ℕ). ElementsRead d t m (expr_at d t p).end) z r.1)

  pub end_more : (n p : ℕ) → 0 < n → elements_end d t n p ≡ elements_end d t (n - 1) (expr_at d t p).end
  unfolding elements_end
  end_more zero p h = absurd (omega arith)
  end_more (suc n) p h = let z : n ≡ suc n - 1 = omega arith in ap (λ (m : ℕ). elements_end d t m (expr_at d t p).end) z

  pub end_none : (n p : ℕ) → n ≤ 0 → p ≡ elements_end d t n p
  unfolding elements_end
  end_none zero p h = refl
  end_none (suc n) p h = absurd (omega arith)

  pub step-again : (n p q w : ℕ) → 0 < n → q ≡ (expr_at d t p).end → ElementsRead d t n p → elements_end d t n p ≡ w → ElementsRead d t (n - 1) q × (elements_end d t (n - 1) q ≡ w)
  step-again n p q w h e r f = (
    subst (ElementsRead d t (n - 1)) (sym e) (elements-more n p h r).1,
    ap (elements_end d t (n - 1)) e ∙ sym (end_more n p h) ∙ f,
  )

  -- those of a list
  pub list_read : (n p : ℕ) → ExprsRead d n t p → ElementsRead d t n p
  unfolding ElementsRead
  list_read zero p r = tt
  list_read (suc n) p r =
      let v = view-exprs-more d (suc n) t p (omega arith) r in
      let z : suc n - 1 ≡ n = omega arith in
      (v.parts.head, list_read n (expr_at d t p).end (subst (λ (m : ℕ). ExprsRead d m t (expr_at d t p).end) z v.parts.rest))

  pub list-is : (n p : ℕ) → ExprsRead d n t p → (exprs_at d n t p).value ≡ elements_at d t n p
  unfolding elements_at cons_exprs_at
  list-is zero p r = ap (λ (x : Node Exprs). x.value) (view-exprs-none d 0 t p (le_refl 0) r.start)
  list-is (suc n) p r =
      let v = view-exprs-more d (suc n) t p (omega arith) r in
      let q = (expr_at d t p).end in
      let z : suc n - 1 ≡ n = omega arith in
      ap (λ (x : Node Exprs). x.value) v.is
      ∙ ap (λ (es : Exprs). (expr_at d t p).value ∷ᵉ es) (ap (λ (m : ℕ). (exprs_at d m t q).value) z ∙ list-is n q (subst (λ (m : ℕ). ExprsRead d m t q) z v.parts.rest))

  -- so many of them, and the rest
  pub halves-read : (n a p : ℕ) → a ≤ n → ElementsRead d t n p → ElementsRead d t a p × ElementsRead d t (n - a) (elements_end d t a p)
  unfolding ElementsRead elements_end
  halves-read n zero p h r = let z : n ≡ n - 0 = omega arith in (tt, subst (λ (m : ℕ). ElementsRead d t m p) z r)
  halves-read zero (suc a) p h r = absurd (omega arith)
  halves-read (suc n) (suc a) p h r =
      let q = (expr_at d t p).end in
      let i = halves-read n a q (omega arith) r.1 in
      let z : n - a ≡ suc n - suc a = omega arith in
      ((r.0, i.0), subst (λ (m : ℕ). ElementsRead d t m (elements_end d t a q)) z i.1)

  pub later-read : (n a p q : ℕ) → a ≤ n → q ≡ elements_end d t a p → ElementsRead d t n p → ElementsRead d t (n - a) q
  later-read n a p q h e r = subst (ElementsRead d t (n - a)) (sym e) (halves-read n a p h r).1

  -- those of a tuple at p
  pub tuple-read : (n p : ℕ) → n ≡ count_at t (p + 1) → ListAt d t (p + 1) → ElementsRead d t n (p + 3)
  tuple-read n p e r =
      let z : p + 1 + 2 ≡ p + 3 = omega arith in
      subst (λ (m : ℕ). ElementsRead d t m (p + 3)) (sym e) (subst (ElementsRead d t (count_at t (p + 1))) z (list_read (count_at t (p + 1)) (p + 1 + 2) r.elements))

  module _ (names : List Name) (base : ℕ) (s : State) (low : base ≤ length s.stack) where
    pub later_first : (n a p i : ℕ) → a ≤ n → emit_at base (unpack names (elements_at d t n p) i) s
        ≡ emit_at base (unpack names (elements_at d t a p) i) (emit_at base (unpack names (elements_at d t (n - a) (elements_end d t a p)) (i + a)) s)
    unfolding elements_at elements_end
    later_first n zero p i h =
        let z : i ≡ i + 0 = omega arith in
        let y : n ≡ n - 0 = omega arith in
        (λ j. emit_at base (unpack names (elements_at d t (y j) p) (z j)) s) ∙ sym (at-unpack-none base names i _)
    later_first zero (suc a) p i h = absurd (omega arith)
    later_first (suc n) (suc a) p i h =
        let q = (expr_at d t p).end in
        let e = (expr_at d t p).value in
        let z : suc i + a ≡ i + suc a = omega arith in
        let y : n - a ≡ suc n - suc a = omega arith in
        let u : State = emit_at base (unpack names (elements_at d t (suc n - suc a) (elements_end d t a q)) (i + suc a)) s in
        at-unpack-more base names e (elements_at d t n q) i s low
        ∙ ap (λ (v : State). emit_at base (emit_target names e) (emit_at base (one LoadIndex) (emit_at base (one (ConstI64 i)) (emit_at base (copy i) v))))
        (later_first n a q (suc i) (omega arith)
        ∙ (λ j. emit_at base (unpack names (elements_at d t a q) (suc i)) (emit_at base (unpack names (elements_at d t (y j) (elements_end d t a q)) (z j)) s)))
        ∙ sym (at-unpack-more base names e (elements_at d t a q) i u (base_kept base (unpack names (elements_at d t (suc n - suc a) (elements_end d t a q)) (i + suc a)) s low))

  pub none-unpacked : (names : List Name) (n p i base : ℕ) (s : State) → n ≡ 0 → emit_at base (unpack names (elements_at d t n p) i) s ≡ s
  unfolding elements_at
  none-unpacked names n p i base s e = ap (λ (m : ℕ). emit_at base (unpack names (elements_at d t m p) i) s) e ∙ at-unpack-none base names i s

  pub one-unpacked : (names : List Name) (n p i : ℕ) → n ≡ 1 → unpack names ((expr_at d t p).value ∷ᵉ []ᵉ) i ≡ unpack names (elements_at d t n p) i
  unfolding elements_at
  one-unpacked names n p i e = ap (λ (m : ℕ). unpack names (elements_at d t m p) i) (sym e)

-- ---- one element

-- the element is taken, then stored
pub element-is : (names : List Name) (e : Expr) (i base : ℕ) (s : State) → base ≤ length s.stack
    → emit_at base (emit_target names e) (emit_at base (copy i ⨟ one (ConstI64 i) ⨟ one LoadIndex) s) ≡ emit_at base (unpack names (e ∷ᵉ []ᵉ) i) s
element-is names e i base s h =
    ap (emit_at base (emit_target names e))
    (at-three base (copy i) (one (ConstI64 i)) (one LoadIndex) s h
    ∙ ap (λ (u : State). emit_at base (one LoadIndex) (emit_at base (one (ConstI64 i)) (emit_at base (copy i) u))) (sym (at-unpack-none base names (suc i) s)))
    ∙ sym (at-unpack-more base names e []ᵉ i s h)

pub copy-none : (i base : ℕ) (s : State) → i ≡ 0 → emit_at base (copy i) s ≡ s
copy-none i base s e = ap (λ (k : ℕ). emit_at base (copy k) s) e ∙ at-copy-first base s

pub copy-one : (i base : ℕ) (s : State) → (i ≡ 0 → ⊥) → emit_at base (one Dup) s ≡ emit_at base (copy i) s
copy-one zero base s h = absurd (h refl)
copy-one (suc i) base s h = sym (at_copy base i s)

-- ---- the forms of an element

module _ (d : ℕ) (t : List ℕ) (names : List Name) (p : ℕ) (r : ExprReads d t p) where
  pub target-deep : 0 < d
  target-deep = let h = expr-deep d t p r in omega arith

  pub target-variable : get_or t p 0 ≡ 6 → There t (p + 1) × (store names (name_at t (p + 1)) ≡ emit_target names (expr_at d t p).value)
  unfolding var_at emit_target name_from name_at
  target-variable e = let v = view-var d t p r e in (v.parts, sym (ap (λ (x : Node Expr). emit_target names x.value) v.is))

  pub target-tuple : get_or t p 0 ≡ 13 → ListAt (d - 1) t (p + 1) × (unpack names (elements_at (d - 1) t (count_at t (p + 1)) (p + 3)) 0 ≡ emit_target names (expr_at d t p).value)
  unfolding display_at emit_target is_tuple view_display
  target-tuple e =
      let v = view-tuple d t p r e in
      let z : p + 1 + 2 ≡ p + 3 = omega arith in (
        v.parts,
        ap (λ (q : ℕ). unpack names (elements_at (d - 1) t (count_at t (p + 1)) q) 0) (sym z)
            ∙ ap (λ (es : Exprs). unpack names es 0) (sym (list-is (d - 1) t (count_at t (p + 1)) (p + 1 + 2) v.parts.elements))
            ∙ sym (ap (λ (x : Node Expr). emit_target names x.value) v.is),
      )

  pub target-tuple-is : (n : ℕ) → get_or t p 0 ≡ 13 → n ≡ count_at t (p + 1) → unpack names (elements_at (d - 1) t n (p + 3)) 0 ≡ emit_target names (expr_at d t p).value
  target-tuple-is n k e = ap (λ (m : ℕ). unpack names (elements_at (d - 1) t m (p + 3)) 0) e ∙ (target-tuple k).1

  unstored : (e : View) → view (expr_at d t p).value ≡ e → is_stored e ≡ false → is_stored (view (expr_at d t p).value) ≡ false
  unstored e w h = ap is_stored w ∙ h

  not-stored : (a b : Bool) → eqb (get_or t p 0) 10 ≡ a → eqb (get_or t p 0) 16 ≡ b → (get_or t p 0 ≡ 6 → ⊥) → (get_or t p 0 ≡ 13 → ⊥) → is_stored (view (expr_at d t p).value) ≡ false
  unfolding is_stored view view_display attribute_at index_at
  not-stored true b x y f g = let v = view-attribute d t p r (eqb-true _ 10 x) in ap (λ (n : Node Expr). is_stored (view n.value)) v.is
  not-stored false true x y f g = let v = view-index d t p r (eqb-true _ 16 y) in ap (λ (n : Node Expr). is_stored (view n.value)) v.is
  not-stored false false x y f g = unstored as_other (other-form d t p r f (eqb-false _ 10 x) g (eqb-false _ 16 y)) refl

  pub target-nothing : (base : ℕ) (s : State) → (get_or t p 0 ≡ 6 → ⊥) → (get_or t p 0 ≡ 13 → ⊥) → emit_at base (emit_target names (expr_at d t p).value) s ≡ s
  target-nothing base s f g = at-target-other base names (expr_at d t p).value s (not-stored (eqb (get_or t p 0) 10) (eqb (get_or t p 0) 16) refl refl f g)

-- ---- answers

pub plain_of : (op : ℕ) → op < 256 → special op ≡ false → Plain op 0 0
plain_of op h e = record { op-byte = h; op-plain = e; first_short = omega arith; second-byte = omega arith }
