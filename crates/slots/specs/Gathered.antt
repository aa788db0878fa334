-- What a step of a walk over statements leaves: the names gathered, and how many loops there were.
use Rattle.std.specs.Prelude.{ℕ, ◌+◌, ◌<◌, ◌≡◌, List, length, Option, Some, None}
use Rattle.definitions.specs.Bytes.{Name}
use Rattle.tree_view.specs.Places.{Node}
use Rattle.slots.specs.Slotted.{first_names, up_to256}
use Rattle.slots.specs.declared.walk.Gathering.{Gathering}

-- the names gathered so far
abbrev pub names_gathered : Gathering → List Name
names_gathered g = first_names g.tree.now g.n g.slots.now

-- b is left by a step from a: with the wanted names, and so many loops more; or these are more than 255 names
pub record Adds {A : Type 0} (r : Option A) (want : List Name) (loops : ℕ) (a b : Gathering) : Type 0 where
  pub names : (x : A) → r ≡ Some x → names_gathered b ≡ want
  pub counted : (x : A) → r ≡ Some x → b.loops ≡ up_to256 (a.loops + loops)
  pub over : r ≡ None → 255 < length want
  pub same_tree : b.tree.now ≡ a.tree.now
  pub same_slots : b.slots.ghost_name ≡ a.slots.ghost_name

-- so it is with the names and loops of a part of the tree, after which the next position is answered
pub record Gathers {A : Type 0} (r : Option ℕ) (part : Node A) (names : A → List Name → List Name) (loops : A → ℕ) (a b : Gathering) : Type 0 where
  pub next : (p : ℕ) → r ≡ Some p → p ≡ part.end
  pub adds : Adds r (names part.value (names_gathered a)) (loops part.value) a b

-- a part without loops
abbrev pub no_loops : {A : Type 0} → A → ℕ
no_loops x = 0
