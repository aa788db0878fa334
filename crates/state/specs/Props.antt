-- That slots are indexed is a fact: it has one proof at most.
use Rattle.std.specs.Prelude.{ℕ, List}
use mathlib.Core.Path.{◌≡◌, refl}
use native.Mathlib.Bridge.{le_prop}
use Rattle.definitions.specs.Bytes.{Name}
use Rattle.state.specs.Index.{Covered, none_covered, covered}
use Rattle.state.specs.State.{Slots}

pub covered-prop : {size : ℕ} {buckets : List ℕ} {j : ℕ} {xs : List Name} → (c d : Covered size buckets j xs) → c ≡ d
covered-prop none_covered none_covered = refl
covered-prop (covered a b c) (covered d e f) = λ i. covered (le_prop a d i) (le_prop b e i) (covered-prop c f i)

pub slots-prop : (tree slots : List ℕ) → IsProp (Slots tree slots)
slots-prop tree slots a b = λ i. record { room = le_prop a.room b.room i; few = le_prop a.few b.few i; indexed = covered-prop a.indexed b.indexed i }
