use mathlib.Core.Path.{◌∙◌}
use native.Mathlib.Omega.{arith}
use lib.Seq.{length-take-le}
use Rattle.slots.proofs.Params.{params-over, params-put}
use Rattle.slots.proofs.collect.put_params.Goals as goal

pub returns-then-count-gt-SLOTS_MOST : goal.returns-then-count-gt-SLOTS_MOST
returns-then-count-gt-SLOTS_MOST c = params-over _ _ _ _ c.u16_at-count.ensures.0 c.if-count-gt-SLOTS_MOST.true

pub returns : goal.returns
returns c =
    let s = c.split_at_mut-index in
    let few = c.if-count-gt-SLOTS_MOST.false in
    params-put c.args.tree.now c.index_places.new.index c.place_names.new.places _ c.u16_at-count.result _ c.args.at few (c.index_places.auto.index ∙ s.ensures.front_len)
    (length-take-le c.u16_at-count.result s.result.1.now (omega (arith, few, s.ensures.back_len, c.requires.1))) c.place_names.auto.places c.index_places.ensures c.place_names.ensures c.u16_at-count.ensures.0
