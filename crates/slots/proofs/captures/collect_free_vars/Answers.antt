-- A lambda's captures: its parameters are marked, its body is walked, what is kept is put in order.
use Prim.Native.Nat.{ℕ}
use mathlib.Core.Path.{ap, sym, ◌∙◌}
use mathlib.Core.List.{List}
use Rattle.std.specs.Borrow.{MutBor}
use Rattle.slots.proofs.Referring.{body-most, body-names}
use Rattle.slots.proofs.Capturing.{keeping_start, captured}
use Rattle.slots.proofs.captures.collect_free_vars.Goals as goal

pub invariant_of-all : goal.invariant_of-all
invariant_of-all c = record { keeping = keeping_start _ _ _ c.requires.room.0 c.args.around.slotted c.requires.room.1 }

pub returns : goal.returns
returns c = let e = c.places-1.given.1.1 (sym (c.expr-end.ensures.keeps.same_kept ∙ ap (λ (k : MutBor (List ℕ)). k.ghost_name) c.mark_params.ensures.same_kept)) in
    captured _ _ c.args.places.now _ _ _ _ _ c.args.around.slotted c.mark_params.ensures.marked
    (body-most _ _ _ _ c.mark_params.ensures _ _ _ c.expr-end.ensures _ e) (body-names _ _ _ _ c.mark_params.ensures _ _ _ c.expr-end.ensures _ e)
    _ c.sort_names.auto.places c.sort_names.ensures
