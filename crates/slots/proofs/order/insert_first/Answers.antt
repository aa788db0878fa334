use mathlib.Core.Path.{ap, ◌∙◌}
use mathlib.Core.List.{List, ◌++◌}
use Prim.Native.Nat.{ℕ, ◌+◌}
use lib.ListN.{drop}
use Rattle.state.specs.State.{names_at}
use Rattle.slots.proofs.Ordering.{insert-first}
use Rattle.slots.proofs.order.insert_first.Goals as goal

pub returns : goal.returns
returns c =
    let a = c.args in let r = c.find_spot-spot.result in
    ap (λ (l : List ℕ). names_at a.tree.now (l ++ drop (r + 1) a.places.now)) c.rotate_left.ensures.after ∙ insert-first a.tree.now a.places.now r c.find_spot-spot.ensures
