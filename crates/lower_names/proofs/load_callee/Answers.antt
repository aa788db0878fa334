use mathlib.Core.Path.{refl, ap}
use mathlib.Core.Logic.{inl, inr}
use Rattle.state.specs.Words.{name_at}
use Rattle.state.specs.State.{slot_names}
use Rattle.lower_forms.specs.Lowerable.{load_callee}
use Rattle.lower_emit.proofs.Steps.{lowers-by, lowers-nothing}
use Rattle.lower_names.specs.declared.Callee.{Callee}
use Rattle.lower_names.specs.Naming.{callee_of}
use Rattle.lower_names.proofs.load_callee.Goals as goal

pub returns-in-Value : goal.returns-in-Value
unfolding load_callee callee_of
returns-in-Value c = let a = c.args in
    record {
      lowers = lowers-by c.emit_load.ensures.lowers (ap (λ (k : Callee). load_callee (callee_of k) (slot_names a.s.tree.now a.s.slots.now) (name_at a.s.tree.now a.at)) c.in-Value.is);
      made = c.emit_load.ensures.made;
    }

pub returns-in-Builtin : goal.returns-in-Builtin
unfolding load_callee callee_of
returns-in-Builtin c = let a = c.args in
    let by = λ (k : Callee). load_callee (callee_of k) (slot_names a.s.tree.now a.s.slots.now) (name_at a.s.tree.now a.at) in
    elim c.in-Builtin.is [
      | inl h ↦ record { lowers = lowers-by (lowers-nothing c.requires.0) (ap by h.1); made = refl }
      | inr h ↦ record { lowers = lowers-by (lowers-nothing c.requires.0) (ap by h.1); made = refl }
    ]
