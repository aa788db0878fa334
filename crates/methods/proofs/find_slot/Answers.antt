-- The place of a name, by the point where the names stop being below it.
use Rattle.std.proofs.Common.{rules, tests}
use Rattle.std.proofs.lemmas.List.Sorted.{IsPartitionPoint-from_clause}
use mathlib.Core.Path.{sym, ap, ◌∙◌}
use Rattle.definitions.specs.Bytes.{same}
use Rattle.methods.proofs.Sorting.{is_below, parted, slot-here, slot-before, slot-last}
use Rattle.methods.proofs.find_slot.Goals as goal
use Rattle.methods.proofs.find_slot.Goals.{else-place-list-via-then-place-list+else-same_bytes, else-place-list-via-else-place-list}

pub returns-then-same_bytes : goal.returns-then-same_bytes
returns-then-same_bytes c =
    let t = c.args.tree.now in let x = c.args.name.now in let place = c.partition_point-place in
    slot-here t x c.args.list.now place.result place.ensures.bound
    (IsPartitionPoint-from_clause (is_below t x) _ _ place.ensures.partitioned (parted t x c.args.list.now c.requires) (λ v r f q. search (rules, tests)))
    c.if-place-list.true (sym (c.same_bytes.ensures ∙ ap (same x) c.method_name.ensures.result_value) ∙ c.if-same_bytes.true)

pub returns : goal.returns
returns c =
    let t = c.args.tree.now in let x = c.args.name.now in let place = c.partition_point-place in
    let point = IsPartitionPoint-from_clause (is_below t x) _ _ place.ensures.partitioned (parted t x c.args.list.now c.requires) (λ v r f q. search (rules, tests)) in
    elim c.else-place-list.branch [
      | else-place-list-via-then-place-list+else-same_bytes w ↦
          slot-before t x c.args.list.now place.result place.ensures.bound point
          w.if-place-list.true (sym (w.same_bytes.ensures ∙ ap (same x) w.method_name.ensures.result_value) ∙ w.if-same_bytes.false)
      | else-place-list-via-else-place-list w ↦ slot-last t x c.args.list.now place.result place.ensures.bound point w.if-place-list.false
    ]
