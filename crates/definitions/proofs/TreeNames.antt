-- Questions 7 and 33 are asked of the names that stand in a tree, of each and of nothing else.
use mathlib.Core.Path.{◌≡◌, refl, sym, ap, ◌∙◌}
use mathlib.Core.Bool.{Bool, true, false, not, ◌&&◌, ◌||◌}
use mathlib.Core.List.{List, [], ◌∷◌, ◌++◌}
use Prim.Native.Nat.{ℕ}
use native.Mathlib.Omega.{arith}
use lib.ListN.{length}
use lib.Dec.{eqb, leb, ltb}
use borrow.Author.Tests.{ne_eqb}
use Rattle.definitions.specs.Bytes.{Name, all, same}
use Rattle.definitions.specs.Utf8.{is_utf8}
use Rattle.definitions.specs.Tree.{Literal, none_l, bool_l, int_l, float_l, string_l, count}
use Rattle.definitions.specs.Tree.{Expr, lit, var, unary, binary, logical, call, attr, display, index, lambda, Exprs, []ᵉ, ◌∷ᵉ◌, Attribute}
use Rattle.definitions.specs.Tree.{Stmt, break, continue, pass, expr, return, assign, if, while, for, def, class}
use Rattle.definitions.specs.Tree.{Block, []ᵇ, ◌∷ᵇ◌, Branches, done, else, when, Methods, []ᵐ, method}
use Rattle.definitions.specs.Wellformed.{is_iterator, distinct, init, is_target, is_full, if_asked, ask_name, ask_literal, ask_params, ask_method, ask_args, ask_expr, ask_exprs}
use Rattle.definitions.specs.Wellformed.{ask_target, ask_attribute, ask_stmt, ask_block, ask_branches, ask_methods}
use Rattle.definitions.specs.TreeNames.{names_expr, names_exprs, names_attributes, names_stmt, names_block, names_branches, names_methods}
use Rattle.definitions.specs.Statements.{TreeNames}
use Rattle.std.proofs.Math.Bool.{and_assoc}

and_yes : (a b : Bool) → b ≡ true → (a && b) ≡ a
and_yes true b e = e
and_yes false b e = refl

all_append : (f : Name → Bool) (xs ys : List Name) → all f (xs ++ ys) ≡ (all f xs && all f ys)
unfolding all
all_append f [] ys = refl
all_append f (x ∷ xs) ys = rw (all_append f xs ys) (sym (and_assoc (f x) (all f xs) (all f ys)))

-- the questions that are not of names
abbrev others : ℕ → Bool
others k = leb 8 k && leb k 13 || eqb k 36

-- a question of names: none of the others
module _ (q : ℕ) (other : (k : ℕ) (test : Bool) → others k ≡ true → if_asked k q test ≡ true) where
  asks : List Name → Bool
  asks xs = all (ask_name q) xs

  both : {a b : Bool} (xs ys : List Name) → a ≡ asks xs → b ≡ asks ys → (a && b) ≡ asks (xs ++ ys)
  unfolding asks
  both xs ys e f = rw (e, f) (sym (all_append (ask_name q) xs ys))

  -- a name before the rest
  then : {b : Bool} (x : Name) (xs : List Name) → b ≡ asks xs → (ask_name q x && b) ≡ asks (x ∷ xs)
  unfolding asks all
  then x xs e = rw e

  one : (x : Name) → ask_name q x ≡ asks (x ∷ [])
  unfolding asks all
  one x = sym (and_yes (ask_name q x) true refl)

  literal : (l : Literal) → ask_literal q l ≡ true
  unfolding ask_literal
  literal none_l = refl
  literal (bool_l b) = refl
  literal (int_l n) = refl
  literal (float_l n) = refl
  literal (string_l s) = other 8 (is_utf8 s) refl

  params : (ps : List Name) → ask_params q ps ≡ asks ps
  unfolding ask_params asks
  params ps =
      and_yes (all (ask_name q) ps && if_asked 11 q (distinct ps)) (if_asked 13 q (leb (length ps) 255)) (other 13 _ refl)
      ∙ and_yes (all (ask_name q) ps) (if_asked 11 q (distinct ps)) (other 11 _ refl)

  mutual
    unfolding ask_expr ask_exprs ask_args names_expr names_exprs asks all

    of-expr : (e : Expr) → ask_expr q e ≡ asks (names_expr e)
    of-expr (lit l) = literal l
    of-expr (var x) = one x
    of-expr (unary op e) = of-expr e
    of-expr (binary op l r) = both (names_expr l) (names_expr r) (of-expr l) (of-expr r)
    of-expr (logical op l r) = both (names_expr l) (names_expr r) (of-expr l) (of-expr r)
    of-expr (call f es) =
        both (names_expr f) (names_exprs es) (and_yes (ask_expr q f) (if_asked 13 q (leb (count es) 255)) (other 13 _ refl) ∙ of-expr f) (of-exprs es)
    of-expr (attr o x) = both (names_expr o) (x ∷ []) (of-expr o) (one x)
    of-expr (display k es) = of-exprs es
    of-expr (index o i) = both (names_expr o) (names_expr i) (of-expr o) (of-expr i)
    of-expr (lambda ps b) = both ps (names_expr b) (params ps) (of-expr b)

    of-exprs : (es : Exprs) → ask_exprs q es ≡ asks (names_exprs es)
    of-exprs []ᵉ = refl
    of-exprs (e ∷ᵉ es) = both (names_expr e) (names_exprs es) (of-expr e) (of-exprs es)

  target : (t : Expr) → ask_target q t ≡ asks (names_expr t)
  unfolding ask_target
  target t = rw (other 36 (is_full t) refl, other 10 (is_target t) refl) (of-expr t)

  attributes : (vs : List Attribute) → all (ask_attribute q) vs ≡ asks (names_attributes vs)
  unfolding ask_attribute names_attributes all asks
  attributes [] = refl
  attributes (v ∷ vs) =
      and_assoc (ask_name q v.name) (ask_expr q v.value) (all (ask_attribute q) vs)
      ∙ then v.name (names_expr v.value ++ names_attributes vs) (both (names_expr v.value) (names_attributes vs) (of-expr v.value) (attributes vs))

  head : (x : Name) (ps : List Name) → ask_method q x ps ≡ (ask_name q x && ask_params q ps)
  unfolding ask_method
  head x ps = and_yes (ask_name q x && ask_params q ps) (if_asked 12 q (not (same x init) || ltb 0 (length ps))) (other 12 _ refl)

  -- a name, and two parts
  three : {a b : Bool} (x : Name) (xs ys : List Name) → a ≡ asks xs → b ≡ asks ys → (ask_name q x && a && b) ≡ asks (x ∷ (xs ++ ys))
  three {a} {b} x xs ys e f = and_assoc (ask_name q x) a b ∙ then x (xs ++ ys) (both xs ys e f)

  mutual
    unfolding ask_stmt ask_block ask_branches ask_methods names_stmt names_block names_branches names_methods asks all

    of-stmt : (loop : Bool) (s : Stmt) → ask_stmt q loop s ≡ asks (names_stmt s)
    of-stmt loop break = other 9 loop refl
    of-stmt loop continue = other 9 loop refl
    of-stmt loop pass = refl
    of-stmt loop (expr e) = of-expr e
    of-stmt loop (return e) = of-expr e
    of-stmt loop (assign t v) = both (names_expr t) (names_expr v) (target t) (of-expr v)
    of-stmt loop (if bs) = of-branches loop bs
    of-stmt loop (while c b) = both (names_expr c) (names_block b) (of-expr c) (of-block true b)
    of-stmt loop (for x e b) = three x (names_expr e) (names_block b) (of-expr e) (of-block true b)
    of-stmt loop (def x ps b) = three x ps (names_block b) (params ps) (of-block false b)
    of-stmt loop (class x ms vs) = three x (names_methods ms) (names_attributes vs) (of-methods ms) (attributes vs)

    of-block : (loop : Bool) (b : Block) → ask_block q loop b ≡ asks (names_block b)
    of-block loop []ᵇ = refl
    of-block loop (s ∷ᵇ b) = both (names_stmt s) (names_block b) (of-stmt loop s) (of-block loop b)

    of-branches : (loop : Bool) (r : Branches) → ask_branches q loop r ≡ asks (names_branches r)
    of-branches loop done = refl
    of-branches loop (else b) = of-block loop b
    of-branches loop (when c b r) =
        and_assoc (ask_expr q c) (ask_block q loop b) (ask_branches q loop r)
        ∙ both (names_expr c) (names_block b ++ names_branches r) (of-expr c) (both (names_block b) (names_branches r) (of-block loop b) (of-branches loop r))

    of-methods : (ms : Methods) → ask_methods q ms ≡ asks (names_methods ms)
    of-methods []ᵐ = refl
    of-methods (method x ps b ms) =
        rw (head x ps)
        (and_assoc (ask_name q x && ask_params q ps) (ask_block q false b) (ask_methods q ms)
        ∙ three x ps (names_block b ++ names_methods ms) (params ps) (both (names_block b) (names_methods ms) (of-block false b) (of-methods ms)))

all_same : (f g : Name → Bool) → ((x : Name) → f x ≡ g x) → (xs : List Name) → all f xs ≡ all g xs
unfolding all
all_same f g h [] = refl
all_same f g h (x ∷ xs) = rw (h x, all_same f g h xs)

-- 7 and 33 are none of them
off : (q : ℕ) → others q ≡ false → (k : ℕ) (test : Bool) → others k ≡ true → if_asked k q test ≡ true
unfolding if_asked
off q h k test e = rw (ne_eqb q k (λ z. let y : ◌≡◌ {A = Bool} false true = sym h ∙ ap others z ∙ e in let x : ◌≡◌ {A = ℕ} 0 1 = cc in omega arith))

pub tree_names : TreeNames
unfolding ask_name if_asked asks
tree_names b = record {
  formed = of-block 7 (off 7 refl) false b;
  apart = of-block 33 (off 33 refl) false b
      ∙ all_same (ask_name 33) (λ x. not (is_iterator x)) (λ x. and_yes (not (is_iterator x)) true refl) (names_block b);
}
