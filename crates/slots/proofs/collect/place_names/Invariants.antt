use Rattle.slots.proofs.Params.{ParamsLeft}
use Rattle.slots.proofs.collect.place_names.Given as goal

abbrev pub invariant-loop-place : goal.invariant-loop-place
invariant-loop-place l = ParamsLeft l.tree l.place-index-end l.at l.places l.p l.place-index
