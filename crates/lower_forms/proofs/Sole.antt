-- What is asked of the tree and the emitter, after a step.
use mathlib.Core.List.{List}
use Prim.Native.Nat.{ℕ}
use Rattle.lower_emit.specs.declared.emitter.Emitter.{Emitter}
use Rattle.lower_emit.specs.Emitting.{SoundIn}
use Rattle.lower_forms.specs.Lowerable.{SoleIn}

pub sole-at : {t : List ℕ} {a b : Emitter} → SoleIn t a → SoundIn t b → SoleIn t b
sole-at R S = record { tree-short = R.tree-short; sound = S }
