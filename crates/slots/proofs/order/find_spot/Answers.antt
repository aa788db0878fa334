use Rattle.std.proofs.Common.{rules, tests}
use Rattle.std.proofs.lemmas.List.Sorted.{IsPartitionPoint-from_clause}
use Prim.Native.Nat.{ℕ}
use mathlib.Core.Bool.{not}
use Rattle.definitions.specs.Bytes.{below}
use Rattle.state.specs.Words.{name_at}
use Rattle.slots.proofs.Spotting.{parted, spotted}
use Rattle.slots.proofs.order.find_spot.Goals as goal

pub returns : goal.returns
returns c =
    let a = c.args in let x = c.name_part-name.result.now in
    spotted a.tree.now x a.places.now _ _ c.name_part-name.ensures.result_value c.requires.0 c.partition_point.ensures.bound
    (IsPartitionPoint-from_clause (λ (w : ℕ). not (below x (name_at a.tree.now w))) _ _ c.partition_point.ensures.partitioned (parted a.tree.now x a.places.now c.requires.1) (λ v r f q. search (rules, tests)))
