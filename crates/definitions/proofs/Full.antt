-- What questions 10 and 36 give: each target is one, and no tuple target is empty.
use mathlib.Core.Path.{◌≡◌}
use mathlib.Core.Bool.{Bool, true, false, ◌&&◌}
use Rattle.definitions.specs.Bytes.{all}
use Rattle.definitions.specs.Tree.{Stmt, break, continue, pass, expr, return, assign, if, while, for, def, class, []ᵇ, []ᵐ}
use Rattle.definitions.specs.Tree.{Block, ◌∷ᵇ◌, Branches, done, else, when, Methods, method}
use Rattle.definitions.specs.Wellformed.{is_target, is_full, if_asked, ask_name, ask_params, ask_method, ask_attribute, ask_expr, ask_target, ask_stmt, ask_block, ask_branches, ask_methods}
use Rattle.definitions.proofs.Truth.{left, right}
use Rattle.definitions.proofs.Fine.{FullS, FullB, FullR, FullM}

mutual
  unfolding ask_stmt ask_block ask_branches ask_methods ask_target if_asked

  full-S : (l : Bool) (a : Stmt) → ask_stmt 10 l a ≡ true → ask_stmt 36 l a ≡ true → FullS a
  full-S l break e f = tt
  full-S l continue e f = tt
  full-S l pass e f = tt
  full-S l (expr v) e f = tt
  full-S l (return v) e f = tt
  full-S l (assign t v) e f =
      (left (is_target t) (ask_expr 10 t) (left (is_target t && ask_expr 10 t) (ask_expr 10 v) e), left (is_full t) true (left (is_full t && true) (ask_expr 36 t) (left (is_full t && true && ask_expr 36 t) (ask_expr 36 v) f)))
  full-S l (if bs) e f = full-R l bs e f
  full-S l (while c b) e f = full-B true b (right (ask_expr 10 c) (ask_block 10 true b) e) (right (ask_expr 36 c) (ask_block 36 true b) f)
  full-S l (for x v b) e f = full-B true b (right (ask_name 10 x && ask_expr 10 v) (ask_block 10 true b) e) (right (ask_name 36 x && ask_expr 36 v) (ask_block 36 true b) f)
  full-S l (def x ps b) e f = full-B false b (right (ask_name 10 x && ask_params 10 ps) (ask_block 10 false b) e) (right (ask_name 36 x && ask_params 36 ps) (ask_block 36 false b) f)
  full-S l (class x ms vs) e f =
      full-M ms (right (ask_name 10 x) (ask_methods 10 ms) (left (ask_name 10 x && ask_methods 10 ms) (all (ask_attribute 10) vs) e))
      (right (ask_name 36 x) (ask_methods 36 ms) (left (ask_name 36 x && ask_methods 36 ms) (all (ask_attribute 36) vs) f))

  pub full-B : (l : Bool) (b : Block) → ask_block 10 l b ≡ true → ask_block 36 l b ≡ true → FullB b
  full-B l []ᵇ e f = tt
  full-B l (a ∷ᵇ b) e f =
      (full-S l a (left (ask_stmt 10 l a) (ask_block 10 l b) e) (left (ask_stmt 36 l a) (ask_block 36 l b) f), full-B l b (right (ask_stmt 10 l a) (ask_block 10 l b) e) (right (ask_stmt 36 l a) (ask_block 36 l b) f))

  full-R : (l : Bool) (r : Branches) → ask_branches 10 l r ≡ true → ask_branches 36 l r ≡ true → FullR r
  full-R l done e f = tt
  full-R l (else b) e f = full-B l b e f
  full-R l (when c b r) e f = (
    full-B l b (right (ask_expr 10 c) (ask_block 10 l b) (left (ask_expr 10 c && ask_block 10 l b) (ask_branches 10 l r) e)) (right (ask_expr 36 c) (ask_block 36 l b) (left (ask_expr 36 c && ask_block 36 l b) (ask_branches 36 l r) f)),
    full-R l r (right (ask_expr 10 c && ask_block 10 l b) (ask_branches 10 l r) e) (right (ask_expr 36 c && ask_block 36 l b) (ask_branches 36 l r) f),
  )

  full-M : (m : Methods) → ask_methods 10 m ≡ true → ask_methods 36 m ≡ true → FullM m
  full-M []ᵐ e f = tt
  full-M (method x ps b m) e f = (
    full-B false b (right (ask_method 10 x ps) (ask_block 10 false b) (left (ask_method 10 x ps && ask_block 10 false b) (ask_methods 10 m) e))
        (right (ask_method 36 x ps) (ask_block 36 false b) (left (ask_method 36 x ps && ask_block 36 false b) (ask_methods 36 m) f)),
    full-M m (right (ask_method 10 x ps && ask_block 10 false b) (ask_methods 10 m) e) (right (ask_method 36 x ps && ask_block 36 false b) (ask_methods 36 m) f),
  )
