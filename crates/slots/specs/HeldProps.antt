-- What is asked of the names kept is a fact: it has one proof at most.
use Rattle.std.specs.Prelude.{ℕ, List}
use mathlib.Core.Path.{◌≡◌, refl}
use Rattle.std.proofs.Math.Bool.{Bool-set}
use native.Mathlib.Bridge.{le_prop}
use Rattle.definitions.specs.Bytes.{Name}
use Rattle.state.specs.Props.{slots-prop}
use Rattle.slots.specs.Held.{Held, no_held, one_held, WalkKeeps}
use Rattle.slots.specs.Props.{indexed-prop}

held-prop : {slots ys : List Name} → (h k : Held slots ys) → h ≡ k
held-prop no_held no_held = refl
held-prop (one_held a b c) (one_held d e f) = λ i. one_held (Bool-set _ _ a d i) (Bool-set _ _ b e i) (held-prop c f i)

pub keeping-prop : (t parent ps : List ℕ) (n : ℕ) → IsProp (WalkKeeps t parent ps n)
keeping-prop t parent ps n a b = λ i. record {
  short = le_prop a.short b.short i;
  slots = slots-prop t parent a.slots b.slots i;
  room = le_prop a.room b.room i;
  most = le_prop a.most b.most i;
  held = held-prop a.held b.held i;
  indexed = indexed-prop t n ps a.indexed b.indexed i;
}
