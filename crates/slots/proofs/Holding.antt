-- Names that have slots: gathering among these alone gives the same captures, and they are no more than the slots. Assumes nothing.
use Prim.Native.Nat.{ℕ, ◌<◌, ◌≤◌}
use mathlib.Core.Path.{◌≡◌, refl, sym, ap, ◌∙◌, subst}
use mathlib.Core.Bool.{Bool, true, false, ◌||◌, not}
use mathlib.Core.Option.{Option, none, some}
use mathlib.Core.List.{List, [], ◌∷◌, ◌++◌, append-nil}
use mathlib.Core.Logic.{◌⊎◌, inl, inr, ⊎_elim}
use native.Mathlib.Omega.{arith}
use lib.ListN.{length, get_or}
use Rattle.definitions.specs.Bytes.{Name, same, position, member}
use Rattle.definitions.specs.Tree.{Expr, lit, var, unary, binary, logical, call, attr, display, index, lambda, Exprs, []ᵉ, ◌∷ᵉ◌}
use Rattle.definitions.specs.Slots.{add, within}
use Rattle.definitions.proofs.MethodOrder.{same-eq}
use Rattle.definitions.proofs.Captured.{member-cons, member-nil}
use Rattle.slots.specs.Held.{mark_all, is_free, add_held, held_expr, held_exprs, Held, no_held, one_held}
use Rattle.slots.proofs.Adding.{add-there, add-new}
use Rattle.definitions.proofs.Truth.{true-false}

-- ---- equal names, and names in a list

pub bool-or : (b : Bool) → (b ≡ true) ⊎ (b ≡ false)
bool-or true = inl refl
bool-or false = inr refl

-- two names that differ differ the other way round
differ : (x y : Name) → same x y ≡ false → same y x ≡ false
differ x y h =
    ⊎_elim
    (λ (e : same y x ≡ true). true-false (subst (λ (z : Name). same y z ≡ true) (sym (same-eq y x e)) e) (subst (λ (z : Name). same z y ≡ false) (sym (same-eq y x e)) h))
    (λ (e : same y x ≡ false). e)
    (bool-or (same y x))

pub member-next : (x y : Name) (ys : List Name) → same x y ≡ false → member x (y ∷ ys) ≡ member x ys
member-next x y ys h = member-cons x y ys ∙ ap (λ (b : Bool). b || member x ys) h

member-here : (x y : Name) (ys : List Name) → same x y ≡ true → member x (y ∷ ys) ≡ true
member-here x y ys h = member-cons x y ys ∙ ap (λ (b : Bool). b || member x ys) h

-- what is not in a list is not its first
pub not_first : (x y : Name) (ys : List Name) → member x (y ∷ ys) ≡ false → same x y ≡ false
not_first x y ys h = ⊎_elim (λ (e : same x y ≡ true). true-false (member-here x y ys e) h) (λ (e : same x y ≡ false). e) (bool-or (same x y))

pub not-rest : (x y : Name) (ys : List Name) → member x (y ∷ ys) ≡ false → member x ys ≡ false
not-rest x y ys h = sym (member-next x y ys (not_first x y ys h)) ∙ h

-- equal names are in the same lists
member-same : (x y : Name) (zs : List Name) → same x y ≡ true → member x zs ≡ member y zs
member-same x y zs e = ap (λ (z : Name). member z zs) (same-eq x y e)

member-one : (x y : Name) → member x (y ∷ []) ≡ same x y
member-one x y = go (same x y) refl
  where
    go : (b : Bool) → same x y ≡ b → member x (y ∷ []) ≡ same x y
    go true e = member-here x y [] e ∙ sym e
    go false e = member-next x y [] e ∙ member-nil x ∙ sym e

member-snoc : (x z : Name) (ys : List Name) → same x z ≡ false → member x (ys ++ z ∷ []) ≡ member x ys
member-snoc x z [] h = member-one x z ∙ h ∙ sym (member-nil x)
member-snoc x z (y ∷ ys) h = member-cons x y (ys ++ z ∷ []) ∙ ap (λ (b : Bool). same x y || b) (member-snoc x z ys h) ∙ sym (member-cons x y ys)

-- ---- within, name by name

module _ (ps : List Name) (x : Name) (xs : List Name) where
  within_in : member x ps ≡ true → within ps (x ∷ xs) ≡ x ∷ within ps xs
  unfolding within
  within_in e = rw (e, within)

  within-out : member x ps ≡ false → within ps (x ∷ xs) ≡ within ps xs
  unfolding within
  within-out e = rw (e, within)

pub within_none : (ps : List Name) → within ps [] ≡ []
unfolding within
within_none ps = refl

module _ (slots : List Name) where
  member-within : (x : Name) (xs : List Name) → member x slots ≡ true → member x (within slots xs) ≡ member x xs
  member-within x [] h = ap (member x) (within_none slots)
  member-within x (y ∷ ys) h = ⊎_elim
      (λ (e : member y slots ≡ true).
      ap (member x) (within_in slots y ys e) ∙ member-cons x y (within slots ys) ∙ ap (λ (b : Bool). same x y || b) (member-within x ys h) ∙ sym (member-cons x y ys))
      (λ (e : member y slots ≡ false).
      ap (member x) (within-out slots y ys e) ∙ member-within x ys h ∙ sym (member-next x y ys (other e)))
      (bool-or (member y slots))
    where
      other : member y slots ≡ false → same x y ≡ false
      other e = ⊎_elim (λ (f : same x y ≡ true). true-false (sym (member-same x y slots f) ∙ h) e) (λ (f : same x y ≡ false). f) (bool-or (same x y))

  within-snoc : (x : Name) (xs : List Name) → within slots (xs ++ x ∷ []) ≡ within slots xs ++ within slots (x ∷ [])
  within-snoc x [] = ap (λ (l : List Name). l ++ within slots (x ∷ [])) (sym (within_none slots))
  within-snoc x (y ∷ ys) = ⊎_elim
      (λ (e : member y slots ≡ true).
      within_in slots y (ys ++ x ∷ []) e ∙ ap (λ (l : List Name). y ∷ l) (within-snoc x ys) ∙ ap (λ (l : List Name). l ++ within slots (x ∷ [])) (sym (within_in slots y ys e)))
      (λ (e : member y slots ≡ false).
      within-out slots y (ys ++ x ∷ []) e ∙ within-snoc x ys ∙ ap (λ (l : List Name). l ++ within slots (x ∷ [])) (sym (within-out slots y ys e)))
      (bool-or (member y slots))

  pub within-add : (x : Name) (xs : List Name) → member x slots ≡ true → within slots (add x xs) ≡ add x (within slots xs)
  within-add x xs e = ⊎_elim
      (λ (f : member x xs ≡ true). ap (within slots) (add-there x xs f) ∙ sym (add-there x (within slots xs) (member-within x xs e ∙ f)))
      (λ (f : member x xs ≡ false).
      ap (within slots) (add-new x xs f) ∙ within-snoc x xs ∙ ap (λ (l : List Name). within slots xs ++ l) (within_in slots x [] e ∙ ap (λ (l : List Name). x ∷ l) (within_none slots))
      ∙ sym (add-new x (within slots xs) (member-within x xs e ∙ f)))
      (bool-or (member x xs))

  -- a name without a slot
  pub within-other : (x : Name) (xs : List Name) → member x slots ≡ false → within slots (add x xs) ≡ within slots xs
  within-other x xs e = ⊎_elim
      (λ (f : member x xs ≡ true). ap (within slots) (add-there x xs f))
      (λ (f : member x xs ≡ false).
      ap (within slots) (add-new x xs f) ∙ within-snoc x xs ∙ ap (λ (l : List Name). within slots xs ++ l) (within-out slots x [] e ∙ within_none slots) ∙ append-nil (within slots xs))
      (bool-or (member x xs))

  module _ (ms : List Bool) (x : Name) (ys : List Name) where
    pub held_in : is_free slots ms x ≡ true → add_held slots ms x ys ≡ add x ys
    unfolding add_held
    held_in e = rw (e, add_held)

    pub held_out : is_free slots ms x ≡ false → add_held slots ms x ys ≡ ys
    unfolding add_held
    held_out e = rw (e, add_held)

  -- ---- the names stay held

  held-snoc : (x : Name) (ys : List Name) → member x slots ≡ true → member x ys ≡ false → Held slots ys → Held slots (ys ++ x ∷ [])
  held-snoc x [] h k a = one_held h k no_held
  held-snoc x (y ∷ ys) h k (one_held p q a) = one_held p (member-snoc y x ys (differ x y (not_first x y ys k)) ∙ q) (held-snoc x ys h (not-rest x y ys k) a)

  free-slot : (ms : List Bool) (x : Name) → is_free slots ms x ≡ true → member x slots ≡ true
  unfolding is_free member
  free-slot ms x h = go (position (same x) slots) h
    where
      go : (o : Option ℕ) → elim o as (λ _. Bool) [ none ↦ false | some i ↦ not (get_or ms i false) ] ≡ true → elim o as (λ _. Bool) [ none ↦ false | some i ↦ true ] ≡ true
      go none e = e
      go (some i) e = refl

  pub held-add : (ms : List Bool) (x : Name) (ys : List Name) → Held slots ys → Held slots (add_held slots ms x ys)
  held-add ms x ys a = ⊎_elim
      (λ (e : is_free slots ms x ≡ true). ⊎_elim
      (λ (f : member x ys ≡ true). subst (Held slots) (sym (held_in ms x ys e ∙ add-there x ys f)) a)
      (λ (f : member x ys ≡ false). subst (Held slots) (sym (held_in ms x ys e ∙ add-new x ys f)) (held-snoc x ys (free-slot ms x e) f a))
      (bool-or (member x ys)))
      (λ (e : is_free slots ms x ≡ false). subst (Held slots) (sym (held_out ms x ys e)) a)
      (bool-or (is_free slots ms x))

  mutual
    unfolding held_expr held_exprs

    pub held-expr : (ms : List Bool) (e : Expr) (ys : List Name) → Held slots ys → Held slots (held_expr slots ms e ys)
    held-expr ms (lit l) ys a = a
    held-expr ms (var x) ys a = held-add ms x ys a
    held-expr ms (unary op e) ys a = held-expr ms e ys a
    held-expr ms (binary op l r) ys a = held-expr ms r (held_expr slots ms l ys) (held-expr ms l ys a)
    held-expr ms (logical op l r) ys a = held-expr ms r (held_expr slots ms l ys) (held-expr ms l ys a)
    held-expr ms (call f es) ys a = held-exprs ms es (held_expr slots ms f ys) (held-expr ms f ys a)
    held-expr ms (attr o x) ys a = held-expr ms o ys a
    held-expr ms (display k es) ys a = held-exprs ms es ys a
    held-expr ms (index o i) ys a = held-expr ms i (held_expr slots ms o ys) (held-expr ms o ys a)
    held-expr ms (lambda ps b) ys a = held-expr (mark_all slots ps ms) b ys a

    pub held-exprs : (ms : List Bool) (es : Exprs) (ys : List Name) → Held slots ys → Held slots (held_exprs slots ms es ys)
    held-exprs ms []ᵉ ys a = a
    held-exprs ms (e ∷ᵉ es) ys a = held-exprs ms es (held_expr slots ms e ys) (held-expr ms e ys a)

-- ---- held names are no more than the slots

-- the names but for x
others : Name → List Name → List Name
others x [] = []
others x (z ∷ zs) = elim (same z x) [ true ↦ others x zs | false ↦ z ∷ others x zs ]

module _ (x z : Name) (zs : List Name) where
  others_same : same z x ≡ true → others x (z ∷ zs) ≡ others x zs
  unfolding others
  others_same e = rw (e, others)

  others-more : same z x ≡ false → others x (z ∷ zs) ≡ z ∷ others x zs
  unfolding others
  others-more e = rw (e, others)

others-length : (x : Name) (zs : List Name) → length (others x zs) ≤ length zs
unfolding others
others-length x [] = omega arith
others-length x (z ∷ zs) = let h = others-length x zs in ⊎_elim
    (λ (e : same z x ≡ true). omega (arith, ap length (others_same x z zs e)))
    (λ (e : same z x ≡ false). omega (arith, ap length (others-more x z zs e)))
    (bool-or (same z x))

others-shorter : (x : Name) (zs : List Name) → member x zs ≡ true → length (others x zs) < length zs
others-shorter x [] h = true-false h (member-nil x)
others-shorter x (z ∷ zs) h = ⊎_elim
    (λ (e : same z x ≡ true). omega (arith, ap length (others_same x z zs e), others-length x zs))
    (λ (e : same z x ≡ false). let k = others-shorter x zs (sym (member-next x z zs (differ z x e)) ∙ h) in omega (arith, ap length (others-more x z zs e)))
    (bool-or (same z x))

member-other : (x y : Name) (zs : List Name) → same y x ≡ false → member y zs ≡ true → member y (others x zs) ≡ true
member-other x y [] h k = true-false k (member-nil y)
member-other x y (z ∷ zs) h k = ⊎_elim
    (λ (e : same z x ≡ true).
    let f : same y z ≡ false = ap (λ (w : Name). same y w) (same-eq z x e) ∙ h in
    ap (member y) (others_same x z zs e) ∙ member-other x y zs h (sym (member-next y z zs f) ∙ k))
    (λ (e : same z x ≡ false). ap (member y) (others-more x z zs e) ∙ ⊎_elim
    (λ (f : same y z ≡ true). member-here y z (others x zs) f)
    (λ (f : same y z ≡ false). member-next y z (others x zs) f ∙ member-other x y zs h (sym (member-next y z zs f) ∙ k))
    (bool-or (same y z)))
    (bool-or (same z x))

held-other : (slots : List Name) (x : Name) (ys : List Name) → member x ys ≡ false → Held slots ys → Held (others x slots) ys
held-other slots x [] h a = no_held
held-other slots x (y ∷ ys) h (one_held p q a) = one_held (member-other x y slots (differ x y (not_first x y ys h)) p) q (held-other slots x ys (not-rest x y ys h) a)

pub held-few : (ys slots : List Name) → Held slots ys → length ys ≤ length slots
held-few [] slots a = omega arith
held-few (x ∷ ys) slots (one_held p q a) = let h = held-few ys (others x slots) (held-other slots x ys q a) in let k = others-shorter x slots p in omega arith
