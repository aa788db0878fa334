use mathlib.Core.Path.{◌≡◌}
use Prim.Native.Nat.{◌≤◌}
use lib.ListN.{length}
use Rattle.lower_emit.specs.Patch.{patch_words}
use Rattle.lower_emit.proofs.Setting.{mixed}
use Rattle.lower_emit.proofs.jumps.patch_words.Given as goal

abbrev pub invariant-loop-i : goal.invariant-loop-i
invariant-loop-i l = (l.i ≤ l.n) × (l.inside ≡ mixed l.i (patch_words l.h (length l.initial.inside) 0 l.initial.inside) l.initial.inside) × (length l.inside ≡ length l.initial.inside) × (l.n ≡ length l.initial.inside)
