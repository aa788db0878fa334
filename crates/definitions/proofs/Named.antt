-- The names with a slot in a def or method: in what order, which, and each once; and that they only grow.
use mathlib.Core.Path.{◌≡◌, refl, sym, ap, ◌∙◌}
use mathlib.Core.Bool.{Bool, true, false, not, ◌&&◌, ◌||◌}
use mathlib.Core.List.{List, [], ◌∷◌, ◌++◌}
use Prim.Native.Nat.{◌≤◌}
use native.Mathlib.Omega.{arith}
use lib.ListN.{length}
use Rattle.definitions.specs.Bytes.{Name, same, member}
use Rattle.definitions.specs.Tree.{View, as_var, as_attr, as_index, as_tuple, as_other, view, view_display, Display, list_d, tuple_d, dict_d, set_d, tree_set_d}
use Rattle.definitions.specs.Tree.{Expr, lit, var, unary, binary, logical, call, attr, display, index, lambda, Exprs, []ᵉ, ◌∷ᵉ◌}
use Rattle.definitions.specs.Tree.{Stmt, break, continue, pass, expr, return, assign, if, while, for, def, class}
use Rattle.definitions.specs.Tree.{Block, []ᵇ, ◌∷ᵇ◌, Branches, done, else, when}
use Rattle.definitions.specs.Wellformed.{is_tuple, distinct}
use Rattle.definitions.specs.Slots.{add, add_target, add_targets, locals_stmt, locals_block, locals_branches}
use Rattle.definitions.specs.Statements.{assigned, assigned_all, bound_stmt, bound_block, bound_branches, add_all, FirstAppearance, Named, NamedOnce}
use Rattle.definitions.proofs.Truth.{left, right}
use Rattle.definitions.proofs.Every.{length-snoc}
use Rattle.definitions.proofs.Captured.{member-nil, member-cons, member-append, member-add}
use Rattle.definitions.proofs.MethodOrder.{same-eq}
use Rattle.std.proofs.Math.Bool.{or_assoc, or-false}

-- ---- a target by its form

-- the names with those that a target of this form assigns
abbrev pub add_form : View → List Name → List Name
add_form w xs = elim w [ as_var x ↦ add x xs | as_attr o x ↦ xs | as_index o i ↦ xs | as_tuple es ↦ add_targets es xs | as_other ↦ xs ]

pub target-form : (e : Expr) (xs : List Name) → add_target e xs ≡ add_form (view e) xs
unfolding add_target view view_display is_tuple
target-form (lit l) xs = refl
target-form (var x) xs = refl
target-form (unary op e) xs = refl
target-form (binary op l r) xs = refl
target-form (logical op l r) xs = refl
target-form (call f es) xs = refl
target-form (attr o x) xs = refl
target-form (display k es) xs = go k
  where
    go : (k : Display) → ◌≡◌ {A = List Name} (elim (is_tuple k) as (λ z. List Name) [ true ↦ add_targets es xs | false ↦ xs ]) (add_form (view_display k es) xs)
    go list_d = refl
    go tuple_d = refl
    go dict_d = refl
    go set_d = refl
    go tree_set_d = refl
target-form (index o i) xs = refl
target-form (lambda ps b) xs = refl

-- ---- by first appearance

all_append : (ys zs xs : List Name) → add_all (ys ++ zs) xs ≡ add_all zs (add_all ys xs)
unfolding add_all
all_append [] zs xs = refl
all_append (y ∷ ys) zs xs = all_append ys zs (add y xs)

-- two parts, one after the other
then-all : (ys zs xs us vs : List Name) → us ≡ add_all ys xs → vs ≡ add_all zs us → vs ≡ add_all (ys ++ zs) xs
then-all ys zs xs us vs e f = f ∙ ap (add_all zs) e ∙ sym (all_append ys zs xs)

tuple-all : (b : Bool) (xs us ys : List Name) → us ≡ add_all ys xs
    → elim b as (λ z. List Name) [ true ↦ us | false ↦ xs ] ≡ add_all (elim b as (λ z. List Name) [ true ↦ ys | false ↦ [] ]) xs
unfolding add_all
tuple-all true xs us ys e = e
tuple-all false xs us ys e = refl

mutual
  unfolding add_target add_targets assigned assigned_all add_all

  target-all : (e : Expr) (xs : List Name) → add_target e xs ≡ add_all (assigned e) xs
  target-all (lit l) xs = refl
  target-all (var y) xs = refl
  target-all (unary op e) xs = refl
  target-all (binary op l r) xs = refl
  target-all (logical op l r) xs = refl
  target-all (call f es) xs = refl
  target-all (attr o y) xs = refl
  target-all (display k es) xs = tuple-all (is_tuple k) xs (add_targets es xs) (assigned_all es) (targets-all es xs)
  target-all (index o i) xs = refl
  target-all (lambda ps b) xs = refl

  targets-all : (es : Exprs) (xs : List Name) → add_targets es xs ≡ add_all (assigned_all es) xs
  targets-all []ᵉ xs = refl
  targets-all (e ∷ᵉ es) xs = then-all (assigned e) (assigned_all es) xs _ _ (target-all e xs) (targets-all es (add_target e xs))

mutual
  unfolding locals_stmt locals_block locals_branches bound_stmt bound_block bound_branches add_all

  stmt-all : (a : Stmt) (xs : List Name) → locals_stmt a xs ≡ add_all (bound_stmt a) xs
  stmt-all break xs = refl
  stmt-all continue xs = refl
  stmt-all pass xs = refl
  stmt-all (expr e) xs = refl
  stmt-all (return e) xs = refl
  stmt-all (assign t v) xs = target-all t xs
  stmt-all (if bs) xs = branches-all bs xs
  stmt-all (while c b) xs = block-all b xs
  stmt-all (for y e b) xs = block-all b (add y xs)
  stmt-all (def y ps b) xs = refl
  stmt-all (class y ms vs) xs = refl

  block-all : (b : Block) (xs : List Name) → locals_block b xs ≡ add_all (bound_block b) xs
  block-all []ᵇ xs = refl
  block-all (a ∷ᵇ b) xs = then-all (bound_stmt a) (bound_block b) xs _ _ (stmt-all a xs) (block-all b (locals_stmt a xs))

  branches-all : (r : Branches) (xs : List Name) → locals_branches r xs ≡ add_all (bound_branches r) xs
  branches-all done xs = refl
  branches-all (else b) xs = block-all b xs
  branches-all (when c b r) xs = then-all (bound_block b) (bound_branches r) xs _ _ (block-all b xs) (branches-all r (locals_block b xs))

pub first_appearance : FirstAppearance
first_appearance ps b = block-all b ps

-- ---- they only grow

pub add-grows : (x : Name) (xs : List Name) → length xs ≤ length (add x xs)
unfolding add
add-grows x xs = go (member x xs)
  where
    go : (b : Bool) → length xs ≤ length {A = Name} (elim b as (λ z. List Name) [ true ↦ xs | false ↦ xs ++ x ∷ [] ])
    go true = omega arith
    go false = omega (arith, length-snoc xs x)

all-grows : (ys xs : List Name) → length xs ≤ length (add_all ys xs)
unfolding add_all
all-grows [] xs = omega arith
all-grows (y ∷ ys) xs = omega (arith, add-grows y xs, all-grows ys (add y xs))

pub targets-grow : (es : Exprs) (xs : List Name) → length xs ≤ length (add_targets es xs)
targets-grow es xs = omega (arith, all-grows (assigned_all es) xs, ap length (targets-all es xs))

pub stmt-grows : (a : Stmt) (xs : List Name) → length xs ≤ length (locals_stmt a xs)
stmt-grows a xs = omega (arith, all-grows (bound_stmt a) xs, ap length (stmt-all a xs))

pub block-grows : (b : Block) (xs : List Name) → length xs ≤ length (locals_block b xs)
block-grows b xs = omega (arith, all-grows (bound_block b) xs, ap length (block-all b xs))

pub branches-grow : (r : Branches) (xs : List Name) → length xs ≤ length (locals_branches r xs)
branches-grow r xs = omega (arith, all-grows (bound_branches r) xs, ap length (branches-all r xs))

-- ---- which names

member-all : (x : Name) (ys xs : List Name) → member x (add_all ys xs) ≡ (member x xs || member x ys)
unfolding add_all
member-all x [] xs = sym (ap (λ (z : Bool). member x xs || z) (member-nil x) ∙ or-false (member x xs))
member-all x (y ∷ ys) xs =
    member-all x ys (add y xs) ∙ ap (λ (z : Bool). z || member x ys) (member-add x y xs) ∙ or_assoc (member x xs) (same x y) (member x ys)
    ∙ ap (λ (z : Bool). member x xs || z) (sym (member-cons x y ys))

pub named : Named
named ps b x = ap (member x) (block-all b ps) ∙ member-all x (bound_block b) ps

-- ---- each once

distinct_snoc : (xs : List Name) (x : Name) → distinct xs ≡ true → member x xs ≡ false → distinct (xs ++ x ∷ []) ≡ true
unfolding distinct
distinct_snoc [] x d e = rw (member-nil x)
distinct_snoc (y ∷ xs) x d e =
    let u = left (not (member y xs)) (distinct xs) d in
    let c : (same x y || member x xs) ≡ false = sym (member-cons x y xs) ∙ e in
    rw (member-append y xs (x ∷ []), member-cons y x [], member-nil y) (both_of (member y xs) (same y x) u (apart c) (distinct_snoc xs x (right (not (member y xs)) (distinct xs) d) (or_right (same x y) (member x xs) c)))
  where
    or_right : (a b : Bool) → (a || b) ≡ false → b ≡ false
    or_right true b e = let z : b ≡ false = cc in z
    or_right false b e = e

    apart : (same x y || member x xs) ≡ false → same y x ≡ false
    apart c = go (same y x) refl
      where
        go : (b : Bool) → same y x ≡ b → b ≡ false
        go true q =
            let p = same-eq y x q in
            let k : same x y ≡ true = ap (λ (z : Name). same z y) (sym p) ∙ ap (same y) p ∙ q in
            rw k at c
        go false q = refl

    both_of : (a b : Bool) → not a ≡ true → b ≡ false → distinct (xs ++ x ∷ []) ≡ true → (not (a || (b || false)) && distinct (xs ++ x ∷ [])) ≡ true
    both_of true b u v w = u
    both_of false true u v w = sym v
    both_of false false u v w = w

distinct-add : (x : Name) (xs : List Name) → distinct xs ≡ true → distinct (add x xs) ≡ true
unfolding add
distinct-add x xs d = go (member x xs) refl
  where
    go : (b : Bool) → member x xs ≡ b → distinct (elim b as (λ z. List Name) [ true ↦ xs | false ↦ xs ++ x ∷ [] ]) ≡ true
    go true e = d
    go false e = distinct_snoc xs x d e

distinct-all : (ys xs : List Name) → distinct xs ≡ true → distinct (add_all ys xs) ≡ true
unfolding add_all
distinct-all [] xs d = d
distinct-all (y ∷ ys) xs d = distinct-all ys (add y xs) (distinct-add y xs d)

pub named_once : NamedOnce
named_once ps b d = ap distinct (block-all b ps) ∙ distinct-all (bound_block b) ps d
