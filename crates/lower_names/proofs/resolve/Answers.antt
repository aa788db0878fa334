use Prim.Native.Nat.{ℕ, ◌+◌, ◌-◌}
use native.Mathlib.Omega.{arith}
use mathlib.Core.Path.{◌≡◌, sym, ap, ◌∙◌}
use mathlib.Core.Option.{none, some}
use Rattle.definitions.specs.Bytes.{Name}
use Rattle.definitions.specs.Builtins.{builtin}
use Rattle.definitions.specs.Lower.{resolve_function}
use Rattle.state.specs.Words.{name_at}
use Rattle.state.specs.State.{class_names_from, names_at, state_of}
use Rattle.names.proofs.Finding.{sought}
use Rattle.names.proofs.Calling.{builtin-below, calls-builtin, calls-class, calls-other}
use Rattle.lower_names.specs.Naming.{callee_of}
use Rattle.lower_names.proofs.Callees.{place-found, place-missed}
use Rattle.lower_names.proofs.resolve.Goals as goal

pub overflow_cast-result : goal.overflow_cast-result
overflow_cast-result c = omega (arith, builtin-below _ _ (sym c.in-Some.ensures))

pub returns-in-Some : goal.returns-in-Some
unfolding callee_of
returns-in-Some c = let a = c.args in
    let i = sym (c.in-Some.ensures ∙ ap builtin c.name_part-name.ensures.result_value) in
    record { callee = λ code k l u f q S. calls-builtin a.tree.now a.made.now code a.entries.now k l S (name_at a.tree.now a.at) c.in-Some.id i }

-- the classes' names are as many as the classes of the tables
places : (classes : ℕ) → class_names_from + classes - class_names_from ≡ classes
places classes = omega arith

pub returns-then-is_some : goal.returns-then-is_some
unfolding names_at callee_of
returns-then-is_some c = let a = c.args in
    let y = c.name_part-name.ensures.result_value in
    let p = place-found c.find_place.result c.find_place.ensures (sym c.is_some.ensures ∙ c.if-is_some.true) in
    record {
      callee = λ code k l u f q S.
          calls-class a.tree.now a.made.now code a.entries.now k l S (name_at a.tree.now a.at) p.0 (sym (c.in_default.ensures ∙ ap builtin y))
          (sym (sought (name_at a.tree.now) a.entries.now class_names_from _ _ _ _ (some p.0) (places a.classes ∙ sym q) y p.1));
    }

pub returns : goal.returns
unfolding names_at
returns c = let a = c.args in
    let y = c.name_part-name.ensures.result_value in
    let p = place-missed c.find_place.result c.find_place.ensures (sym c.is_some.ensures ∙ c.if-is_some.false) in
    record {
      callee = λ code k l u f q S.
          c.resolve_function_id.ensures.callee code k l u f S
          ∙ ap (λ (z : Name). resolve_function z (state_of a.tree.now a.made.now code a.entries.now k).tables) y
          ∙ calls-other a.tree.now a.made.now code a.entries.now k l S (name_at a.tree.now a.at) (sym (c.in_default.ensures ∙ ap builtin y))
          (sym (sought (name_at a.tree.now) a.entries.now class_names_from _ _ _ _ none (places a.classes ∙ sym q) y p));
    }
