-- Two trees in step: what a step over a part of each says of the bytes of their rests.
use Rattle.std.specs.Prelude.{ℕ, ◌+◌, ◌<◌, ◌≡◌, true, List, [], ◌∷◌, ◌++◌, Result, Ok, Err}
use Rattle.std.specs.declared.cmp.Ordering.{Ordering}
use Rattle.std.specs.declared.cmp.Ordering.TheVariants.{Less, Greater}
use Rattle.std.proofs.Math.Pow.{are_bytes}
use Rattle.definitions.specs.Bytes.{be}
use Rattle.definitions.specs.Module.{name_bytes}
use Rattle.definitions.specs.TreeBytes.{expr_bytes, params_bytes, stmt_bytes, stmts_bytes, block_bytes, branches_bytes, methods_bytes}
use Rattle.definitions.specs.Rests.{rest_stmt, rest, rest_branches, rest_methods}
use Rattle.tree_view.specs.Places as Places
use Rattle.tree_view.specs.Places.{count_at, name_end, params_at}
use Rattle.tree_view.specs.ExprAt.{expr_at}
use Rattle.tree_view.specs.StmtAt.{stmt_at, block_at, stmts_at, branches_at, methods_at, body_at, def_block_at}
use Rattle.instep.specs.declared.Spot.{Spot}

-- both trees are bytes
pub record Bytes (a b : List ℕ) : Type 0 where
  pub first : are_bytes a ≡ true
  pub second : are_bytes b ≡ true

-- ---- the answer

-- after the same bytes, the first has a lower one
pub record Differs (xs ys : List ℕ) : Type 0 where
  pub front : List ℕ
  pub x : ℕ
  pub y : ℕ
  pub us : List ℕ
  pub vs : List ℕ
  pub first : xs ≡ front ++ (x ∷ us)
  pub second : ys ≡ front ++ (y ∷ vs)
  pub below : x < y

-- in the first, or in the second
pub data Lower : Ordering → List ℕ → List ℕ → Type 0 where
  lower : {xs ys : List ℕ} → Differs xs ys → Lower Less xs ys
  higher : {xs ys : List ℕ} → Differs ys xs → Lower Greater xs ys

abbrev pub both_at : ℕ → ℕ → Spot
both_at x y = record { first = x; second = y }

-- the same bytes, and the ends of both parts; or bytes that differ
pub data SideBySide : Result Spot Ordering → List ℕ → List ℕ → ℕ → ℕ → Type 0 where
  same : {at : Spot} {e f : ℕ} {xs ys : List ℕ} → xs ≡ ys → at.first ≡ e → at.second ≡ f → SideBySide (Ok at) xs ys e f
  apart : {o : Ordering} {e f : ℕ} {xs ys : List ℕ} → Lower o xs ys → SideBySide (Err o) xs ys e f

-- equal numbers; or which is lower
pub data Ranked : Result (Unit {0}) Ordering → ℕ → ℕ → Type 0 where
  equal_numbers : {u : Unit {0}} {m n : ℕ} → m ≡ n → Ranked (Ok u) m n
  lower_number : {m n : ℕ} → m < n → Ranked (Err Less) m n
  higher_number : {m n : ℕ} → n < m → Ranked (Err Greater) m n

-- neither is a proper beginning of the other
pub record Clear (xs ys : List ℕ) : Type 0 where
  pub first : (zs : List ℕ) → ys ≡ xs ++ zs → zs ≡ []
  pub second : (zs : List ℕ) → xs ≡ ys ++ zs → zs ≡ []

-- ---- the bytes of the rest of a part, by its position

abbrev pub rest_stmt_at : ℕ → List ℕ → ℕ → List ℕ
rest_stmt_at d t p = stmt_bytes (rest_stmt (stmt_at d t p).value)

abbrev pub rest_stmts_at : ℕ → ℕ → List ℕ → ℕ → List ℕ
rest_stmts_at d n t p = stmts_bytes (rest (stmts_at d n t p).value)

abbrev pub rest_block_at : ℕ → List ℕ → ℕ → List ℕ
rest_block_at d t p = block_bytes (rest (block_at d t p).value)

-- a condition and a block
abbrev pub rest_branch_at : ℕ → List ℕ → ℕ → List ℕ
rest_branch_at d t p = expr_bytes (expr_at d t p).value ++ rest_block_at d t (expr_at d t p).end

abbrev pub rest_branches_at : ℕ → ℕ → List ℕ → ℕ → List ℕ
rest_branches_at d n t p = branches_bytes (rest_branches (branches_at d n t p).value)

-- a first branch, a count of elifs, these and the else block
abbrev pub rest_if_at : ℕ → List ℕ → ℕ → List ℕ
rest_if_at d t p = let m = (body_at d t p).end in rest_branch_at d t p ++ (be 2 (count_at t m) ++ rest_branches_at d (count_at t m) t (m + 2))

-- a loop variable and what follows it
abbrev pub rest_for_at : ℕ → List ℕ → ℕ → List ℕ
rest_for_at d t p = name_bytes (Places.name_from t p) ++ rest_branch_at d t (name_end t p)

-- a name, parameters and a block
abbrev pub rest_def_at : ℕ → List ℕ → ℕ → List ℕ
rest_def_at d t p = name_bytes (Places.name_from t p) ++ (params_bytes (params_at t (name_end t p)).value ++ block_bytes (rest (def_block_at d t p).value))

abbrev pub rest_methods_at : ℕ → ℕ → List ℕ → ℕ → List ℕ
rest_methods_at d n t p = methods_bytes (rest_methods (methods_at d n t p).value)
