-- What a lambda captures, name by name.
use mathlib.Core.Path.{◌≡◌, refl, sym, ap, ◌∙◌, subst}
use mathlib.Core.Bool.{Bool, true, false, not, ◌&&◌, ◌||◌}
use mathlib.Core.Option.{Option, none, some}
use mathlib.Core.List.{List, [], ◌∷◌, ◌++◌}
use mathlib.Core.Logic.{◌⊎◌, inl, inr, ⊎_elim}
use Prim.Native.Nat.{ℕ, suc}
use native.Mathlib.Omega.{arith}
use lib.Dec.{eqb, eqb_refl}
use Rattle.definitions.specs.Bytes.{Name, same, below, position, member, all}
use Rattle.definitions.specs.Tree.{Expr, lit, var, unary, binary, logical, call, attr, display, index, lambda, Exprs, []ᵉ, ◌∷ᵉ◌}
use Rattle.definitions.specs.Slots.{add, within, referenced_expr, referenced_exprs, insert, sort, captures}
use Rattle.definitions.specs.Statements.{Among, first, later, PartOf, operand, left_of, right_of, left_logical, right_logical, callee, argument, object_of, element, indexed, index_of, Occurs, here, in_part, in_lambda, Captures, Captured}
use Rattle.definitions.proofs.Truth.{left, right, is_true}
use Rattle.definitions.proofs.MethodOrder.{same-eq}
use Rattle.std.proofs.Math.Bool.{or_assoc, or-false, and-false}

-- ---- Booleans

pub or_swap : (a b c : Bool) → (a || (b || c)) ≡ (b || (a || c))
or_swap true true c = refl
or_swap true false c = refl
or_swap false b c = refl

-- ---- names in lists

pub member-cons : (x y : Name) (ys : List Name) → member x (y ∷ ys) ≡ (same x y || member x ys)
unfolding member position
member-cons x y ys = go (same x y) (position (same x) ys)
  where
    go : (b : Bool) (o : Option ℕ)
        → (elim (elim b as (λ z. Option ℕ) [ true ↦ some 0 | false ↦ elim o as (λ z. Option ℕ) [ none ↦ none | some i ↦ some (suc i) ] ]) as (λ z. Bool) [ none ↦ false | some i ↦ true ])
        ≡ (b || (elim o as (λ z. Bool) [ none ↦ false | some i ↦ true ]))
    go true o = refl
    go false none = refl
    go false (some i) = refl

pub member-nil : (x : Name) → member x [] ≡ false
unfolding member position
member-nil x = refl

pub member-append : (x : Name) (xs ys : List Name) → member x (xs ++ ys) ≡ (member x xs || member x ys)
member-append x [] ys = rw (member-nil x)
member-append x (z ∷ xs) ys = member-cons x z (xs ++ ys) ∙ rw (member-append x xs ys, member-cons x z xs) (sym (or_assoc (same x z) (member x xs) (member x ys)))

-- a name that was there
there : (x y : Name) (xs : List Name) → member y xs ≡ true → member x xs ≡ (member x xs || same x y)
there x y xs e = go (same x y) refl
  where
    or-true : (a : Bool) → a ≡ true → a ≡ (a || true)
    or-true true h = refl
    or-true false h = h

    go : (b : Bool) → same x y ≡ b → member x xs ≡ (member x xs || b)
    go true q = or-true (member x xs) (ap (λ (z : Name). member z xs) (same-eq x y q) ∙ e)
    go false q = sym (or-false (member x xs))

pub member-add : (x y : Name) (xs : List Name) → member x (add y xs) ≡ (member x xs || same x y)
unfolding add
member-add x y xs = go (member y xs) refl
  where
    go : (b : Bool) → member y xs ≡ b → member x (elim b as (λ z. List Name) [ true ↦ xs | false ↦ xs ++ y ∷ [] ]) ≡ (member x xs || same x y)
    go true e = there x y xs e
    go false e = member-append x xs (y ∷ []) ∙ ap (λ (z : Bool). member x xs || z) (member-cons x y [] ∙ rw (member-nil x) (or-false (same x y)))

member-within : (x : Name) (slots xs : List Name) → member x (within slots xs) ≡ (member x xs && member x slots)
unfolding within
member-within x slots [] = rw (member-nil x)
member-within x slots (y ∷ xs) = go (member y slots) refl (member-within x slots xs)
  where
    last : (b : Bool) → same x y ≡ b → member y slots ≡ true → (b || (member x xs && member x slots)) ≡ ((b || member x xs) && member x slots)
    last true q e = sym (ap (λ (z : Name). member z slots) (same-eq x y q) ∙ e)
    last false q e = refl

    none_of : (b : Bool) → same x y ≡ b → member y slots ≡ false → (member x xs && member x slots) ≡ ((b || member x xs) && member x slots)
    none_of true q e = let z : member x slots ≡ false = ap (λ (z : Name). member z slots) (same-eq x y q) ∙ e in rw z (and-false (member x xs))
    none_of false q e = refl

    go : (b : Bool) → member y slots ≡ b → member x (within slots xs) ≡ (member x xs && member x slots)
        → member x (elim b as (λ z. List Name) [ true ↦ y ∷ within slots xs | false ↦ within slots xs ]) ≡ (member x (y ∷ xs) && member x slots)
    go true e h = member-cons x y (within slots xs) ∙ rw (h, member-cons x y xs) (last (same x y) refl e)
    go false e h = rw (h, member-cons x y xs) (none_of (same x y) refl e)

member-insert : (x y : Name) (ys : List Name) → member x (insert y ys) ≡ (same x y || member x ys)
unfolding insert
member-insert x y [] = member-cons x y []
member-insert x y (z ∷ zs) = go (below y z) (member-insert x y zs)
  where
    go : (b : Bool) → member x (insert y zs) ≡ (same x y || member x zs)
        → member x (elim b as (λ z. List Name) [ true ↦ y ∷ z ∷ zs | false ↦ z ∷ insert y zs ]) ≡ (same x y || member x (z ∷ zs))
    go true h = member-cons x y (z ∷ zs)
    go false h = member-cons x z (insert y zs) ∙ rw (h, member-cons x z zs) (or_swap (same x z) (same x y) (member x zs))

member-sort : (x : Name) (xs : List Name) → member x (sort xs) ≡ member x xs
unfolding sort
member-sort x [] = refl
member-sort x (y ∷ ys) = member-insert x y (sort ys) ∙ rw (member-sort x ys) (sym (member-cons x y ys))

-- ---- a name that is kept occurs

-- x occurs in e where nothing around it binds it; bound are the parameters of the lambdas around e
record Free (x : Name) (bound : List Name) (e : Expr) : Type 0 where
  pub around : List (List Name)
  pub occurs : Occurs x around e
  pub unbound : all (λ (qs : List Name). not (member x qs)) around ≡ true
  pub foreign : member x bound ≡ false

-- so in one of several
record FreeAny (x : Name) (bound : List Name) (es : Exprs) : Type 0 where
  pub one : Expr
  pub among : Among one es
  pub free : Free x bound one

free-var : (x y : Name) (bound xs : List Name) (b : Bool) → member y bound ≡ b → member x (elim b as (λ z. List Name) [ true ↦ xs | false ↦ add y xs ]) ≡ true
    → (member x xs ≡ true) ⊎ Free x bound (var y)
unfolding all
free-var x y bound xs true e h = inl h
free-var x y bound xs false e h = go (member x xs) (same x y) refl refl (sym (member-add x y xs) ∙ h)
  where
    go : (a b : Bool) → member x xs ≡ a → same x y ≡ b → (a || b) ≡ true → (member x xs ≡ true) ⊎ Free x bound (var y)
    go true b p q r = inl p
    go false true p q r =
        let z = same-eq x y q in
        inr (record { around = []; occurs = subst (λ (w : Name). Occurs x [] (var w)) z here; unbound = refl; foreign = ap (λ (w : Name). member w bound) z ∙ e })
    go false false p q r = inl (p ∙ r)

-- the body of a lambda has its parameters around it too
free-lambda : (x : Name) (ps bound : List Name) (b : Expr) → Free x (ps ++ bound) b → Free x bound (lambda ps b)
unfolding all
free-lambda x ps bound b f = go (member x ps) (member x bound) refl refl (sym (member-append x ps bound) ∙ f.foreign)
  where
    go : (m n : Bool) → member x ps ≡ m → member x bound ≡ n → (m || n) ≡ false → Free x bound (lambda ps b)
    go false n p q r = record { around = ps ∷ f.around; occurs = in_lambda f.occurs; unbound = rw p f.unbound; foreign = q ∙ r }
    go true n p q r = let z : ◌≡◌ {A = ℕ} 0 1 = cc in absurd (omega arith)

module _ {x : Name} {bound : List Name} where
  in-part : {A : Type 0} {e d : Expr} → PartOf e d → A ⊎ Free x bound e → A ⊎ Free x bound d
  in-part p (inl h) = inl h
  in-part p (inr f) = inr (record { around = f.around; occurs = in_part p f.occurs; unbound = f.unbound; foreign = f.foreign })

  in-any : {A : Type 0} {es : Exprs} {d : Expr} → ((e : Expr) → Among e es → PartOf e d) → A ⊎ FreeAny x bound es → A ⊎ Free x bound d
  in-any p (inl h) = inl h
  in-any p (inr f) = in-part (p f.one f.among) (inr f.free)

  at-first : {A : Type 0} {e : Expr} {es : Exprs} → A ⊎ Free x bound e → A ⊎ FreeAny x bound (e ∷ᵉ es)
  at-first (inl h) = inl h
  at-first (inr f) = inr (record { one = _; among = first; free = f })

  at-later : {A : Type 0} {e : Expr} {es : Exprs} → A ⊎ FreeAny x bound es → A ⊎ FreeAny x bound (e ∷ᵉ es)
  at-later (inl h) = inl h
  at-later (inr f) = inr (record { one = f.one; among = later f.among; free = f.free })

-- what the second part did not bring, the first did
before : {A B F : Type 0} → (B → A ⊎ F) → B ⊎ F → A ⊎ F
before f (inl h) = f h
before f (inr a) = inr a

mutual
  unfolding referenced_expr referenced_exprs

  found : (x : Name) (bound : List Name) (e : Expr) (xs : List Name) → member x (referenced_expr bound e xs) ≡ true → (member x xs ≡ true) ⊎ Free x bound e
  found x bound (lit l) xs h = inl h
  found x bound (var y) xs h = free-var x y bound xs (member y bound) refl h
  found x bound (unary op e) xs h = in-part operand (found x bound e xs h)
  found x bound (binary op l r) xs h = before (λ k. in-part left_of (found x bound l xs k)) (in-part right_of (found x bound r (referenced_expr bound l xs) h))
  found x bound (logical op l r) xs h = before (λ k. in-part left_logical (found x bound l xs k)) (in-part right_logical (found x bound r (referenced_expr bound l xs) h))
  found x bound (call f es) xs h = before (λ k. in-part callee (found x bound f xs k)) (in-any (λ e a. argument a) (found-any x bound es (referenced_expr bound f xs) h))
  found x bound (attr o y) xs h = in-part object_of (found x bound o xs h)
  found x bound (display k es) xs h = in-any (λ e a. element a) (found-any x bound es xs h)
  found x bound (index o i) xs h = before (λ k. in-part indexed (found x bound o xs k)) (in-part index_of (found x bound i (referenced_expr bound o xs) h))
  found x bound (lambda ps b) xs h = ⊎_elim (λ (k : member x xs ≡ true). inl k) (λ (f : Free x (ps ++ bound) b). inr (free-lambda x ps bound b f)) (found x (ps ++ bound) b xs h)

  found-any : (x : Name) (bound : List Name) (es : Exprs) (xs : List Name) → member x (referenced_exprs bound es xs) ≡ true → (member x xs ≡ true) ⊎ FreeAny x bound es
  found-any x bound []ᵉ xs h = inl h
  found-any x bound (e ∷ᵉ es) xs h = before (λ k. at-first (found x bound e xs k)) (at-later (found-any x bound es (referenced_expr bound e xs) h))

-- ---- a name that occurs is kept

pub same_refl : (x : Name) → same x x ≡ true
unfolding same
same_refl [] = refl
same_refl (c ∷ x) = rw (is_true (eqb c c) (eqb_refl c), same_refl x)

pub or-true : (a : Bool) → (a || true) ≡ true
or-true true = refl
or-true false = refl

kept-var : (x y : Name) (xs : List Name) (b : Bool) → member x xs ≡ true → member x (elim b as (λ z. List Name) [ true ↦ xs | false ↦ add y xs ]) ≡ true
kept-var x y xs true h = h
kept-var x y xs false h = member-add x y xs ∙ rw h

mutual
  unfolding referenced_expr referenced_exprs

  kept : (x : Name) (bound : List Name) (e : Expr) (xs : List Name) → member x xs ≡ true → member x (referenced_expr bound e xs) ≡ true
  kept x bound (lit l) xs h = h
  kept x bound (var y) xs h = kept-var x y xs (member y bound) h
  kept x bound (unary op e) xs h = kept x bound e xs h
  kept x bound (binary op l r) xs h = kept x bound r (referenced_expr bound l xs) (kept x bound l xs h)
  kept x bound (logical op l r) xs h = kept x bound r (referenced_expr bound l xs) (kept x bound l xs h)
  kept x bound (call f es) xs h = kept-all x bound es (referenced_expr bound f xs) (kept x bound f xs h)
  kept x bound (attr o y) xs h = kept x bound o xs h
  kept x bound (display k es) xs h = kept-all x bound es xs h
  kept x bound (index o i) xs h = kept x bound i (referenced_expr bound o xs) (kept x bound o xs h)
  kept x bound (lambda ps b) xs h = kept x (ps ++ bound) b xs h

  kept-all : (x : Name) (bound : List Name) (es : Exprs) (xs : List Name) → member x xs ≡ true → member x (referenced_exprs bound es xs) ≡ true
  kept-all x bound []ᵉ xs h = h
  kept-all x bound (e ∷ᵉ es) xs h = kept-all x bound es (referenced_expr bound e xs) (kept x bound e xs h)

-- x is kept of whatever was kept before
abbrev Kept : Name → List Name → Expr → Type 0
Kept x bound e = (xs : List Name) → member x (referenced_expr bound e xs) ≡ true

kept-among : (x : Name) (bound : List Name) (e : Expr) (es : Exprs) → Among e es → Kept x bound e → (xs : List Name) → member x (referenced_exprs bound es xs) ≡ true
unfolding referenced_exprs
kept-among x bound e _ (first {es = es}) g xs = kept-all x bound es (referenced_expr bound e xs) (g xs)
kept-among x bound e _ (later {d = d} {es = es} a) g xs = kept-among x bound e es a g (referenced_expr bound d xs)

kept-part : (x : Name) (bound : List Name) (e d : Expr) → PartOf e d → Kept x bound e → Kept x bound d
unfolding referenced_expr
kept-part x bound e _ operand g xs = g xs
kept-part x bound e _ (left_of {r = r}) g xs = kept x bound r (referenced_expr bound e xs) (g xs)
kept-part x bound e _ (right_of {l = l}) g xs = g (referenced_expr bound l xs)
kept-part x bound e _ (left_logical {r = r}) g xs = kept x bound r (referenced_expr bound e xs) (g xs)
kept-part x bound e _ (right_logical {l = l}) g xs = g (referenced_expr bound l xs)
kept-part x bound e _ (callee {es = es}) g xs = kept-all x bound es (referenced_expr bound e xs) (g xs)
kept-part x bound e _ (argument {f = f} {es = es} a) g xs = kept-among x bound e es a g (referenced_expr bound f xs)
kept-part x bound e _ object_of g xs = g xs
kept-part x bound e _ (element {es = es} a) g xs = kept-among x bound e es a g xs
kept-part x bound e _ (indexed {i = i}) g xs = kept x bound i (referenced_expr bound e xs) (g xs)
kept-part x bound e _ (index_of {o = o}) g xs = g (referenced_expr bound o xs)

kept_here : (x : Name) (bound : List Name) → member x bound ≡ false → Kept x bound (var x)
unfolding referenced_expr
kept_here x bound f xs = go (member x bound) f
  where
    go : (b : Bool) → b ≡ false → member x (elim b as (λ z. List Name) [ true ↦ xs | false ↦ add x xs ]) ≡ true
    go true h = let z : ◌≡◌ {A = ℕ} 0 1 = cc in absurd (omega arith)
    go false h = member-add x x xs ∙ rw (same_refl x) (or-true (member x xs))

unbound-too : (x : Name) (ps bound : List Name) → not (member x ps) ≡ true → member x bound ≡ false → member x (ps ++ bound) ≡ false
unbound-too x ps bound h f = member-append x ps bound ∙ rw f (go (member x ps) h)
  where
    go : (b : Bool) → not b ≡ true → (b || false) ≡ false
    go true h = sym h
    go false h = refl

occurs-kept : (x : Name) (around : List (List Name)) (e : Expr) → Occurs x around e → (bound : List Name) → all (λ (qs : List Name). not (member x qs)) around ≡ true → member x bound ≡ false → Kept x bound e
unfolding all referenced_expr
occurs-kept x _ _ here bound u f xs = kept_here x bound f xs
occurs-kept x around _ (in_part {e = e} {d = d} p o) bound u f xs = kept-part x bound e d p (occurs-kept x around e o bound u f) xs
occurs-kept x _ _ (in_lambda {around = around} {ps = ps} {b = b} o) bound u f xs =
    let l = left (not (member x ps)) (all (λ (qs : List Name). not (member x qs)) around) u in
    occurs-kept x around b o (ps ++ bound) (right (not (member x ps)) (all (λ (qs : List Name). not (member x qs)) around) u) (unbound-too x ps bound l f) xs

-- ---- what is captured

member-captures : (slots ps : List Name) (b : Expr) (x : Name) → member x (captures slots ps b) ≡ (member x (referenced_expr ps b []) && member x slots)
unfolding captures
member-captures slots ps b x = member-sort x (within slots (referenced_expr ps b [])) ∙ member-within x slots (referenced_expr ps b [])

pub captured : Captured
captured slots ps b x = (there-so, so-there)
  where
    there-so : member x (captures slots ps b) ≡ true → Captures slots ps b x
    there-so h =
        let k = sym (member-captures slots ps b x) ∙ h in
        ⊎_elim
        (λ (n : member x [] ≡ true). let q = sym (member-nil x) ∙ n in let z : ◌≡◌ {A = ℕ} 0 1 = cc in absurd (omega arith))
        (λ (f : Free x ps b). record { around = f.around; occurs = f.occurs; unbound = f.unbound; foreign = f.foreign; slotted = right (member x (referenced_expr ps b [])) (member x slots) k })
        (found x ps b [] (left (member x (referenced_expr ps b [])) (member x slots) k))

    so-there : Captures slots ps b x → member x (captures slots ps b) ≡ true
    so-there c = member-captures slots ps b x ∙ rw (occurs-kept x c.around b c.occurs ps c.unbound c.foreign [], c.slotted)
