-- The search for the shortest stretch that is over the limits.
use Rattle.std.specs.Prelude.{ℕ, ◌+◌, ◌<◌, ◌≤◌, ◌≡◌, true, false, List}
use Rattle.definitions.specs.Bytes.{refused}
use Rattle.definitions.specs.Tree.{[]ᵇ}
use Rattle.definitions.specs.Lower.{compile}
use Rattle.definitions.specs.Module.{Limits, tables_fit, lower_block}
use Rattle.definitions.specs.Cut.{cut_block, over_stretch}
use Rattle.tree_view.specs.Places.{count_at}
use Rattle.tree_view.specs.StmtAt.{TreeAt}
use Rattle.compile.specs.Compiled.{tree_block}
use Rattle.compile.specs.declared.Stretch.{Stretch}
use Rattle.cut.specs.Tops.{TopAt, CutAt}

-- a tree that is refused by 15; an empty tree is not
pub record Large (l : Limits) (t : List ℕ) : Type 0 where
  pub tree : TreeAt t
  pub refused : lower_block l (tree_block t) ≡ refused 15
  pub room : tables_fit l (compile []ᵇ).tables ≡ true

-- the shortest so far: from the starts before i none is shorter; and none of its length begins before it
pub record Best (l : Limits) (t : List ℕ) (i : ℕ) (s : Stretch) : Type 0 where
  pub start : ℕ
  pub top : TopAt t (tree_block t) start s.at
  pub hit : over_stretch l (tree_block t) start s.count ≡ true
  pub first : (j : ℕ) → j < start → over_stretch l (tree_block t) j s.count ≡ false
  pub shorter : (j m : ℕ) → j < i → m < s.count → over_stretch l (tree_block t) j m ≡ false

-- the i-th statement stands at p, and none shorter begins before it
pub record SeeksFrom (l : Limits) (t : List ℕ) (i p : ℕ) (s : Stretch) : Type 0 where
  pub top : TopAt t (tree_block t) i p
  pub best : Best l t i s

-- a stretch of top statements
pub record Tops (t : List ℕ) (s : Stretch) : Type 0 where
  pub start : ℕ
  pub top : TopAt t (tree_block t) start s.at
  pub within : start + s.count ≤ count_at t 5

-- the one that is cut out
abbrev pub Least : Limits → List ℕ → Stretch → Type 0
Least l t s = CutAt t (cut_block l 15 (tree_block t)) s
