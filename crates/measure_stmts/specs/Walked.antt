-- What a measure of statements says: how many instructions they have, and which functions and classes are so far after them.
use Rattle.std.specs.Prelude.{ℕ, ◌+◌, ◌<◌, ◌≡◌, Option, Some, None, List, take}
use Rattle.definitions.specs.Measured.{SoFar}
use Rattle.measure.specs.declared.measurer.Measurer.{Measurer}
use Rattle.measure.specs.declared.Measure.{Measure}
use Rattle.measure.specs.Known.{known_with}
use Rattle.measure.specs.Sized.{Sized}
use Rattle.measure_stmts.specs.declared.begun.Begun.{Begun}

-- what is known with the names noted
abbrev pub seen : Measurer → Begun → SoFar
seen m b = known_with m (take b.function_count b.functions) (take b.class_count b.classes)

-- how many names are noted
abbrev pub names_noted : Begun → ℕ
names_noted b = b.function_count + b.class_count

-- one name more is noted, for any measurer of the tree; or there is no room
pub record Notes {A : Type 0} (r : Option A) (after : List ℕ → SoFar → SoFar) (a b : Begun) : Type 0 where
  pub knows : (x : A) → r ≡ Some x → (m : Measurer) → seen m b ≡ after m.scope.tree.now (seen m a)
  pub count : (x : A) → r ≡ Some x → names_noted b ≡ names_noted a + 1
  pub full : r ≡ None → 320 < names_noted a + 1

-- The part from p to `end` has n instructions, and so many names begin in it; then these functions and classes are so far. Or there is no room for so many
-- names
pub record PartMeasured (r : Option Measure) (m : Measurer) (p end n heads : ℕ) (after : SoFar → SoFar) (a b : Begun) : Type 0 where
  pub sized : (s : Measure) → r ≡ Some s → Sized s p end 0 n
  pub knows : (s : Measure) → r ≡ Some s → seen m b ≡ after (seen m a)
  pub count : (s : Measure) → r ≡ Some s → names_noted b ≡ names_noted a + heads
  pub over : r ≡ None → 320 < names_noted a + heads
