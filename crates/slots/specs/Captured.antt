-- What a step of a walk over a lambda's body leaves: the names kept.
use Rattle.std.specs.Prelude.{ℕ, ◌≡◌, Bool, List}
use Rattle.definitions.specs.Bytes.{Name}
use Rattle.tree_view.specs.Places.{Node}
use Rattle.state.specs.State.{slot_names}
use Rattle.slots.specs.Slotted.{first_names}
use Rattle.state.specs.declared.Scope.{Scope}
use Rattle.slots.specs.declared.captures.Captures.{Captures}

-- the names of the slots around
abbrev pub names_around : Scope → List Name
names_around s = slot_names s.tree.now s.slots.now

-- the names kept so far
abbrev pub names_kept : Captures → List Name
names_kept c = first_names c.around.tree.now c.n c.kept.now

-- b is left by a step from a that marks slots
pub record MarksSlots (want : List Bool) (a b : Captures) : Type 0 where
  pub marked : b.marked ≡ want
  pub same_around : b.around ≡ a.around
  pub same_n : b.n ≡ a.n
  pub same_kept : b.kept ≡ a.kept

-- b is left by a step from a, with the wanted names kept; the marks stay
pub record Keeps (want : List Name) (a b : Captures) : Type 0 where
  pub names : names_kept b ≡ want
  pub same_around : b.around ≡ a.around
  pub same_marks : b.marked ≡ a.marked
  pub same_kept : b.kept.ghost_name ≡ a.kept.ghost_name

-- so it is with the names that a part of the tree references, after which the next position is answered
pub record Refers {A : Type 0} (next : ℕ) (part : Node A) (held : List Name → List Bool → A → List Name → List Name) (a b : Captures) : Type 0 where
  pub next-is : next ≡ part.end
  pub keeps : Keeps (held (names_around a.around) a.marked part.value (names_kept a)) a b
