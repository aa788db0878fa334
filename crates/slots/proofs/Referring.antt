-- Names that expressions reference, kept by a walk, one way out at a time. Assumes nothing.
use Prim.Native.Nat.{ℕ, ◌+◌, ◌-◌, ◌<◌, ◌≤◌, ◌^◌}
use mathlib.Core.Path.{◌≡◌, refl, sym, ap, ◌∙◌, subst, ap₂}
use mathlib.Core.Bool.{Bool, true, false}
use mathlib.Core.List.{List}
use native.Mathlib.Omega.{arith}
use lib.ListN.{length, get_or}
use Rattle.definitions.specs.Bytes.{Name}
use Rattle.definitions.specs.Tree.{Expr, Exprs, Display}
use Rattle.definitions.specs.Slots.{add}
use Rattle.state.specs.State.{slots_from, slot_names}
use Rattle.state.specs.declared.Scope.{Scope}
use Rattle.tree_view.specs.Places.{Node, name_from, name_end, There, params_at}
use Rattle.tree_view.specs.ExprAt.{expr_at, exprs_at, var_at, unary_at, second_at, binary_at, list_at, call_at, attribute_at, display_at, pairs_at, dict_at, index_at, lambda_at, cons_exprs_at}
use Rattle.tree_view.specs.ExprAt.{ExprReads, ExprsRead, TwoAt, ListAt, CallAt, AttributeAt, LambdaAt}
use Rattle.tree_view.proofs.ExprViews.{view-exprs-none, view-exprs-more}
use Rattle.slots.specs.Slotted.{first_names, Added}
use Rattle.slots.specs.Held.{mark_all, is_free, add_held, held_expr, held_exprs, Held, WalkKeeps}
use Rattle.std.specs.Borrow.{MutBor}
use Rattle.slots.specs.Captured.{names_around, names_kept, MarksSlots, Keeps, Refers}
use Rattle.slots.specs.declared.captures.Captures.{Captures}
use Rattle.names.proofs.Indexing.{slots-count}
use Rattle.slots.proofs.Adding.{first-length}
use Rattle.slots.proofs.Holding.{held-few, held-add, held_in, held_out}
use Rattle.slots.proofs.Kinded.{seen-literal}
use Rattle.tree_view.proofs.Operators.{unary-each, binary-each}

abbrev tree_of : Captures → List ℕ
tree_of c = c.around.tree.now

-- ---- what is kept to

pub keeping-few : (t parent ps : List ℕ) (n : ℕ) → WalkKeeps t parent ps n → n ≤ 255
keeping-few t parent ps n k =
    let h = held-few (first_names t n ps) (slot_names t parent) k.held in
    let s = slots-count t parent k.slots in
    omega (arith, first-length t n ps k.most, s.0, s.1)

pub keeping-name : (t parent ps : List ℕ) (n p : ℕ) → WalkKeeps t parent ps n → There t p → (slots_from + n < length ps) × (n ≤ 255) × (p < 2 ^ 32)
keeping-name t parent ps n p k h = let a = keeping-few t parent ps n k in let c = k.room in let d = k.short in let e = h.byte in (omega arith, omega arith, omega arith)

-- ---- a name

module _ (t parent : List ℕ) (ms : List Bool) (p : ℕ) (b : Bool) (e : b ≡ is_free (slot_names t parent) ms (name_from t p)) (ps : List ℕ) (n : ℕ) where
  pub name-left : b ≡ false → first_names t n ps ≡ add_held (slot_names t parent) ms (name_from t p) (first_names t n ps)
  name-left h = sym (held_out (slot_names t parent) ms (name_from t p) (first_names t n ps) (sym e ∙ h))

  module _ (h : b ≡ true) (m : ℕ) (ps' : List ℕ) (g : Added m t ps' n (add (name_from t p) (first_names t n ps))) where
    pub name-kept : first_names t m ps' ≡ add_held (slot_names t parent) ms (name_from t p) (first_names t n ps)
    name-kept = g.names ∙ sym (held_in (slot_names t parent) ms (name_from t p) (first_names t n ps) (sym e ∙ h))

    pub keeping-kept : WalkKeeps t parent ps n → length ps' ≡ length ps → WalkKeeps t parent ps' m
    keeping-kept k l = record {
      short = k.short;
      slots = k.slots;
      room = let a = k.room in omega arith;
      most = let a = keeping-few t parent ps n k in let j = k.room in let q = g.most in omega arith;
      held = subst (Held (slot_names t parent)) (sym name-kept) (held-add (slot_names t parent) ms (name_from t p) (first_names t n ps) k.held);
      indexed = g.indexed;
    }

-- ---- the kinds of expression

module _ (a b : Captures) (o : ℕ) where
  pub refers-as : {A : Type 0} {held : List Name → List Bool → A → List Name → List Name} (x y : Node A) → x ≡ y → Refers o y held a b → Refers o x held a b
  refers-as {held = held} x y e r = subst (λ (z : Node _). Refers o z held a b) (sym e) r

  pub refers-var : (t : List ℕ) (p : ℕ) → o ≡ name_end t p → Keeps (add_held (names_around a.around) a.marked (name_from t p) (names_kept a)) a b → Refers o (var_at t p) held_expr a b
  unfolding held_expr var_at
  refers-var t p e k = record { next-is = e; keeps = k }

  module _ (d : ℕ) (t : List ℕ) (p : ℕ) where
    pub refers-unary : get_or t p 0 < 3 → Refers o (expr_at d t (p + 1)) held_expr a b → Refers o (unary_at d t p) held_expr a b
    unfolding held_expr unary_at
    refers-unary h r = record {
      next-is = r.next-is;
      keeps = subst (λ (w : List Name). Keeps w a b)
          (sym (unary-each (λ (f : Expr → Expr). held_expr (names_around a.around) a.marked (f (expr_at d t (p + 1)).value) (names_kept a)
          ≡ held_expr (names_around a.around) a.marked (expr_at d t (p + 1)).value (names_kept a)) (λ op. refl) _ h)) r.keeps;
    }

    pub refers-binary : get_or t p 0 < 14 → Refers o (index_at d t (p + 1)) held_expr a b → Refers o (binary_at d t p) held_expr a b
    unfolding held_expr binary_at index_at
    refers-binary h r = record {
      next-is = r.next-is;
      keeps = subst (λ (w : List Name). Keeps w a b)
          (sym (binary-each (λ (f : Expr → Expr → Expr). held_expr (names_around a.around) a.marked (f (expr_at d t (p + 1)).value (second_at d t (p + 1)).value) (names_kept a)
          ≡ held_expr (names_around a.around) a.marked (second_at d t (p + 1)).value (held_expr (names_around a.around) a.marked (expr_at d t (p + 1)).value (names_kept a)))
          (λ op. refl) (λ op. refl) _ h)) r.keeps;
    }

    pub refers-display : (k : Display) → Refers o (list_at d t p) held_exprs a b → Refers o (display_at k d t p) held_expr a b
    unfolding held_expr display_at
    refers-display k r = record { next-is = r.next-is; keeps = r.keeps }

    pub refers-dict : Refers o (pairs_at d t p) held_exprs a b → Refers o (dict_at d t p) held_expr a b
    unfolding held_expr dict_at
    refers-dict r = record { next-is = r.next-is; keeps = r.keeps }

pub refers-literal : (a : Captures) (o d : ℕ) (t : List ℕ) (p : ℕ) (r : ExprReads d t p) → get_or t p 0 < 6 → o ≡ (expr_at d t p).end → Refers o (expr_at d t p) held_expr a a
unfolding held_expr
refers-literal a o d t p r h e = let l = seen-literal d t p r h in record {
  next-is = e;
  keeps = record { names = sym (ap (λ (x : Expr). held_expr (names_around a.around) a.marked x (names_kept a)) l.1); same_around = refl; same_marks = refl; same_kept = refl };
}

-- ---- one part after another

-- what a step keeps, by the marks before the steps before it
step-names : {A : Type 0} (held : List Name → List Bool → A → List Name → List Name) (F : List ℕ → Node A) (a b c : Captures) (ys : List Name) → b.around ≡ a.around → b.marked ≡ a.marked →
    Keeps (held (names_around b.around) b.marked (F (tree_of b)).value ys) b c → names_kept c ≡ held (names_around a.around) a.marked (F (tree_of a)).value ys
step-names held F a b c ys e f k = k.names ∙ ap₂ (λ (s : Scope) (ms : List Bool). held (names_around s) ms (F s.tree.now).value ys) e f

module _ {A : Type 0} (held : List Name → List Bool → A → List Name → List Name) (F : List ℕ → ℕ → Node A) (a b c : Captures) (p q o : ℕ) (ys : List Name) (k : Keeps ys a b) (e : p ≡ q) (g : Refers o (F (tree_of b) p) held b c) where
  then-end : o ≡ (F (tree_of a) q).end
  then-end = g.next-is ∙ ap₂ (λ (s : Scope) (x : ℕ). (F s.tree.now x).end) k.same_around e

  then-keeps : Keeps (held (names_around a.around) a.marked (F (tree_of a) q).value ys) a c
  then-keeps = record {
    names = step-names held (λ (t : List ℕ). F t p) a b c (names_kept b) k.same_around k.same_marks g.keeps
        ∙ ap₂ (λ (x : ℕ) (zs : List Name). held (names_around a.around) a.marked (F (tree_of a) x).value zs) e k.names;
    same_around = g.keeps.same_around ∙ k.same_around;
    same_marks = g.keeps.same_marks ∙ k.same_marks;
    same_kept = g.keeps.same_kept ∙ k.same_kept;
  }

module _ (d : ℕ) (a b : Captures) (p q : ℕ) (f : Refers q (expr_at d (tree_of a) p) held_expr a b) where
  -- where the first part ended
  there : (P : List ℕ → ℕ → Type 0) → P (tree_of a) (expr_at d (tree_of a) p).end → P (tree_of b) q
  there P h = subst (λ (s : Scope). P s.tree.now q) (sym f.keeps.same_around) (subst (P (tree_of a)) (sym f.next-is) h)

  pub second-there : TwoAt d (tree_of a) p → ExprReads d (tree_of b) q
  second-there h = there (ExprReads d) h.second

  pub list-there : CallAt d (tree_of a) p → ListAt d (tree_of b) q
  list-there h = there (ListAt d) h.args

  pub name-there : AttributeAt d (tree_of a) p → There (tree_of b) q
  name-there h = there There h.name

  pub refers-two : (c : Captures) (o : ℕ) → Refers o (expr_at d (tree_of b) q) held_expr b c → Refers o (index_at d (tree_of a) p) held_expr a c
  unfolding held_expr index_at
  refers-two c o g = record {
    next-is = then-end held_expr (expr_at d) a b c q _ o _ f.keeps f.next-is g;
    keeps = then-keeps held_expr (expr_at d) a b c q _ o _ f.keeps f.next-is g;
  }

  pub refers-call : (c : Captures) (o : ℕ) → Refers o (list_at d (tree_of b) q) held_exprs b c → Refers o (call_at d (tree_of a) p) held_expr a c
  unfolding held_expr call_at
  refers-call c o g = record {
    next-is = then-end held_exprs (list_at d) a b c q _ o _ f.keeps f.next-is g;
    keeps = then-keeps held_exprs (list_at d) a b c q _ o _ f.keeps f.next-is g;
  }

  pub refers-attribute : (o : ℕ) → o ≡ name_end (tree_of b) q → Refers o (attribute_at d (tree_of a) p) held_expr a b
  unfolding held_expr attribute_at
  refers-attribute o e = record { next-is = e ∙ ap₂ (λ (s : Scope) (x : ℕ). name_end s.tree.now x) f.keeps.same_around f.next-is; keeps = f.keeps }

-- ---- a lambda: its parameters are marked from a to a', its body begins at q, where they end, and is walked from a' to b

pub body-there : (d : ℕ) (t : List ℕ) (p q : ℕ) → q ≡ (params_at t p).end → LambdaAt d t p → ExprReads d t q
body-there d t p q e h = subst (λ (m : ℕ). ExprReads d t m) (sym e) h.body

module _ (a a' b : Captures) (ms : List Bool) (m : MarksSlots ms a a') (d q o : ℕ) (r : Refers o (expr_at d (tree_of a') q) held_expr a' b) where
  -- what is kept from a on stands where a was lent it
  pub body-lent : a.kept.ghost_name ≡ b.kept.ghost_name
  body-lent = sym (r.keeps.same_kept ∙ ap (λ (x : MutBor (List ℕ)). x.ghost_name) m.same_kept)

  -- and is ps after the loan
  module _ (ps : List ℕ) (e : ps ≡ b.kept.now) where
    pub body-most : slots_from + b.n ≤ length ps
    body-most = let k = b.keeping.most in omega (arith, ap length e)

    pub body-keeping : WalkKeeps (tree_of a) a.around.slots.now ps b.n
    body-keeping = subst (λ (s : Scope). WalkKeeps s.tree.now s.slots.now ps b.n) (r.keeps.same_around ∙ m.same_around)
        (subst (λ (x : List ℕ). WalkKeeps (tree_of b) b.around.slots.now x b.n) (sym e) b.keeping)

    pub body-names : first_names (tree_of a) b.n ps ≡ held_expr (names_around a.around) a'.marked (expr_at d (tree_of a) q).value (names_kept a)
    body-names =
        ap₂ (λ (s : Scope) (x : List ℕ). first_names s.tree.now b.n x) (sym (r.keeps.same_around ∙ m.same_around)) e
        ∙ r.keeps.names
        ∙ ap (λ (s : Scope). held_expr (names_around s) a'.marked (expr_at d s.tree.now q).value (first_names s.tree.now a'.n a'.kept.now)) m.same_around
        ∙ ap₂ (λ (i : ℕ) (x : MutBor (List ℕ)). held_expr (names_around a.around) a'.marked (expr_at d (tree_of a) q).value (first_names (tree_of a) i x.now)) m.same_n m.same_kept

module _ (d : ℕ) (a a' b : Captures) (p q o : ℕ) (m : MarksSlots (mark_all (names_around a.around) (params_at (tree_of a) p).value a.marked) a a') (e : q ≡ (params_at (tree_of a') p).end) where
  params-end : q ≡ (params_at (tree_of a) p).end
  params-end = e ∙ ap (λ (s : Scope). (params_at s.tree.now p).end) m.same_around

  pub lambda-body : LambdaAt d (tree_of a) p → ExprReads d (tree_of a') q
  lambda-body h = subst (λ (s : Scope). ExprReads d s.tree.now q) (sym m.same_around) (body-there d (tree_of a) p q params-end h)

  module _ (r : Refers o (expr_at d (tree_of a') q) held_expr a' b) where
    lambda-end : o ≡ (lambda_at d (tree_of a) p).end
    unfolding lambda_at
    lambda-end = r.next-is ∙ ap₂ (λ (s : Scope) (x : ℕ). (expr_at d s.tree.now x).end) m.same_around params-end

    lambda-names : (ps : List ℕ) → ps ≡ b.kept.now → first_names (tree_of a) b.n ps ≡ held_expr (names_around a.around) a.marked (lambda_at d (tree_of a) p).value (names_kept a)
    unfolding held_expr lambda_at
    lambda-names ps f =
        body-names a a' b _ m d q o r ps f
        ∙ ap₂ (λ (x : ℕ) (ms : List Bool). held_expr (names_around a.around) ms (expr_at d (tree_of a) x).value (names_kept a)) params-end m.marked

    -- a goes on where s stands, with a copy of its marks; c is s after it, with the names that b kept
    pub refers-lambda : (s c : Captures) → a.around ≡ s.around → a.marked ≡ s.marked → names_kept a ≡ names_kept s
        → c.around ≡ s.around → c.marked ≡ s.marked → c.n ≡ b.n → c.kept.now ≡ b.kept.now → c.kept.ghost_name ≡ s.kept.ghost_name → Refers o (lambda_at d (tree_of s) p) held_expr s c
    refers-lambda s c f g h around marked n kept same = record {
      next-is = lambda-end ∙ ap (λ (x : Scope). (lambda_at d x.tree.now p).end) f;
      keeps = record {
        names = ap₂ (λ (x : Scope) (i : ℕ). first_names x.tree.now i c.kept.now) (around ∙ sym f) n
            ∙ lambda-names c.kept.now kept
            ∙ ap₂ (λ (x : Scope) (ms : List Bool). held_expr (names_around x) ms (lambda_at d x.tree.now p).value (names_kept a)) f g
            ∙ ap (held_expr (names_around s.around) s.marked (lambda_at d (tree_of s) p).value) h;
        same_around = around;
        same_marks = marked;
        same_kept = same;
      };
    }

-- ---- expressions, one at a time

pub record ExprsLeft (d n₀ p₀ : ℕ) (a : Captures) (n p : ℕ) (b : Captures) : Type 0 where
  pub reads : ExprsRead d n (tree_of a) p
  pub end : (exprs_at d n₀ (tree_of a) p₀).end ≡ (exprs_at d n (tree_of a) p).end
  pub names : held_exprs (names_around a.around) a.marked (exprs_at d n₀ (tree_of a) p₀).value (names_kept a) ≡ held_exprs (names_around a.around) a.marked (exprs_at d n (tree_of a) p).value (names_kept b)
  pub same_around : b.around ≡ a.around
  pub same_marks : b.marked ≡ a.marked
  pub same_kept : b.kept.ghost_name ≡ a.kept.ghost_name

pub exprs-start : (d : ℕ) (a : Captures) (n p j : ℕ) → n ≡ j → ExprsRead d n (tree_of a) p → ExprsLeft d n p a j p a
exprs-start d a n p j i r = subst (λ (x : ℕ). ExprsLeft d n p a x p a) i (record { reads = r; end = refl; names = refl; same_around = refl; same_marks = refl; same_kept = refl })

module _ (d n₀ p₀ : ℕ) (a : Captures) (n p : ℕ) (b : Captures) (l : ExprsLeft d n₀ p₀ a n p b) where
  module _ (h : 0 < n) where
    pub exprs-head : ExprReads d (tree_of b) p
    exprs-head = subst (λ (s : Scope). ExprReads d s.tree.now p) (sym l.same_around) (view-exprs-more d n (tree_of a) p h l.reads).parts.head

    pub exprs-next : (q : ℕ) (c : Captures) → Refers q (expr_at d (tree_of b) p) held_expr b c → (j : ℕ) → n - 1 ≡ j → ExprsLeft d n₀ p₀ a j q c
    unfolding held_exprs cons_exprs_at
    exprs-next q c r j i =
        let v = view-exprs-more d n (tree_of a) p h l.reads in
        let e : q ≡ (expr_at d (tree_of a) p).end = r.next-is ∙ ap (λ (s : Scope). (expr_at d s.tree.now p).end) l.same_around in
        let k : names_kept c ≡ held_expr (names_around a.around) a.marked (expr_at d (tree_of a) p).value (names_kept b) = step-names held_expr (λ (t : List ℕ). expr_at d t p) a b c (names_kept b) l.same_around l.same_marks r.keeps in
        subst (λ (x : ℕ). ExprsLeft d n₀ p₀ a x q c) i (record {
          reads = subst (λ (m : ℕ). ExprsRead d (n - 1) (tree_of a) m) (sym e) v.parts.rest;
          end = l.end ∙ ap (λ (z : Node Exprs). z.end) v.is ∙ ap (λ (m : ℕ). (exprs_at d (n - 1) (tree_of a) m).end) (sym e);
          names = l.names ∙ ap (λ (z : Node Exprs). held_exprs (names_around a.around) a.marked z.value (names_kept b)) v.is
              ∙ sym (ap₂ (λ (m : ℕ) (zs : List Name). held_exprs (names_around a.around) a.marked (exprs_at d (n - 1) (tree_of a) m).value zs) e k);
          same_around = r.keeps.same_around ∙ l.same_around;
          same_marks = r.keeps.same_marks ∙ l.same_marks;
          same_kept = r.keeps.same_kept ∙ l.same_kept;
        })

  pub exprs-done : n ≤ 0 → Refers p (exprs_at d n₀ (tree_of a) p₀) held_exprs a b
  unfolding held_exprs
  exprs-done h = let v = view-exprs-none d n (tree_of a) p h l.reads.start in record {
    next-is = sym (l.end ∙ ap (λ (z : Node Exprs). z.end) v);
    keeps = record { names = sym (l.names ∙ ap (λ (z : Node Exprs). held_exprs (names_around a.around) a.marked z.value (names_kept b)) v); same_around = l.same_around; same_marks = l.same_marks; same_kept = l.same_kept };
  }
