-- Top statements by where they stand in a tree.
use Rattle.std.specs.Prelude.{ℕ, ◌+◌, ◌-◌, ◌≤◌, ◌≡◌, Bool, true, false, not, List, [], eqb}
use Rattle.std.proofs.Math.Option.{Option, none, some}
use Rattle.definitions.specs.Tree.{Stmt, Block}
use Rattle.definitions.specs.Wellformed.{ask_stmt, block_questions, first_no}
use Rattle.definitions.specs.Fits.{fits_stmt}
use Rattle.definitions.specs.Cut.{skip, stretch_of}
use Rattle.tree_view.specs.Places.{count_at}
use Rattle.tree_view.specs.StmtAt.{stmts_at, StmtsRead}
use Rattle.compile.specs.Compiled.{tree_block}
use Rattle.compile.specs.declared.Stretch.{Stretch}

-- the i-th top statement of a tree's block b, and those after it, stand from p on
pub record TopAt (t : List ℕ) (b : Block) (i p : ℕ) : Type 0 where
  pub few : i ≤ count_at t 5
  pub reads : StmtsRead 32 (count_at t 5 - i) t p
  pub value : (stmts_at 32 (count_at t 5 - i) t p).value ≡ skip i b

-- b cut down to a stretch
pub record CutAt (t : List ℕ) (cut : Block) (s : Stretch) : Type 0 where
  pub start : ℕ
  pub top : TopAt t (tree_block t) start s.at
  pub within : start + s.count ≤ count_at t 5
  pub is : cut ≡ stretch_of start s.count (tree_block t)

-- question q is the one that is answered no
unfoldable pub is_no : ℕ → Option ℕ → Bool
is_no q none = false
is_no q (some k) = eqb k q

-- a top statement by itself is not refused by q first
unfoldable pub alone : ℕ → Stmt → Bool
alone q s = elim (eqb q 14) [ true ↦ fits_stmt [] s | false ↦ not (is_no q (first_no (λ k. ask_stmt k false s) block_questions)) ]
