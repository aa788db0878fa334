use mathlib.Core.Path.{ap, ◌∙◌}
use mathlib.Core.List.{List}
use Prim.Native.Nat.{ℕ, ◌+◌}
use lib.ListN.{take, set}
use Rattle.methods.proofs.Sorting.{room-made}
use Rattle.methods.proofs.insert_at.Goals as goal

pub returns : goal.returns
returns c = let a = c.args in ap (λ (l : List ℕ). take (a.n + 1) (set l a.i a.w)) c.copy_within.ensures.after ∙ room-made a.i a.n a.w a.list.now c.requires.1 c.requires.0
