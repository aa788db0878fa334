use mathlib.Core.Path.{◌∙◌}
use native.Mathlib.Omega.{arith}
use Rattle.slots.proofs.Reindexing.{appended}
use Rattle.slots.proofs.index.append_slots.Goals as goal

pub returns : goal.returns
returns c =
    let s = c.split_at_mut-index in
    appended c.args.tree.now c.args.slots.now c.index_places.new.index s.result.1.now c.args.more.now _ c.args.from s.ensures.back (omega (arith, s.ensures.back_len, c.requires.0, c.requires.1))
    (c.index_places.auto.index ∙ s.ensures.front_len) _ c.copy_from_slice.ensures.after c.index_places.ensures
