-- What is read doesn't end before its start.
use Prim.Native.Nat.{ℕ, ◌≤◌}
use mathlib.Core.Path.{◌≡◌}
use mathlib.Core.Bool.{true}
use mathlib.Core.List.{List}
use native.Mathlib.Omega.{arith}
use lib.ListN.{drop, length-drop}
use Rattle.definitions.specs.Bytes.{Parsed, Parser}
use Rattle.tree_view.specs.Places.{is_got, node_of, node_at, Reads}
use Rattle.tree_view.proofs.Laws.{Went, went, lost, Steady}
use Rattle.tree_view.proofs.Nodes.{not-got}

module _ {A : Type 0} (z : A) (P : Parser A) (t : List ℕ) (p : ℕ) (s : Steady P) (r : Reads P t p) where
  goes : (g : Parsed A) → Went (drop p t) g → is_got g ≡ true → p ≤ (node_of z t g).end
  unfolding node_of is_got
  goes _ (went a n h) e = omega (arith, r.start, length-drop p t, length-drop n (drop p t))
  goes _ (lost q) e = not-got e

  pub node-after : p ≤ (node_at z P t p).end
  unfolding node_at
  node-after = goes (P (drop p t)) (s.on (drop p t)) r.read
