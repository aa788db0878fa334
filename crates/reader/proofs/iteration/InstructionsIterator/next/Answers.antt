use mathlib.Core.Path.{refl, sym, ap, subst}
use native.Mathlib.Omega.{arith}
use lib.ListN.{length}
use Rattle.std.proofs.Common.{rules}
use Rattle.std.specs.Prelude.{Option}
use Rattle.reader.specs.View.{Walks}
use Rattle.reader.specs.declared.Placed.{Placed}
use Rattle.reader.proofs.Iterated.{walk-at, walk-end, walk-on}
use Rattle.reader.proofs.iteration.InstructionsIterator.next.Goals as goal

pub returns-in_err-instruction-clause-steps : goal.returns-in_err-instruction-clause-steps
returns-in_err-instruction-clause-steps c =
    let k = walk-end _ _ (sym c.in_err-instruction.ensures) in
    subst (λ (x : Option Placed). Walks c.args.self.now x c.args.self.now) (sym c.from_residual.ensures) ((k, k), refl)

pub overflow_add-self : goal.overflow_add-self
overflow_add-self c =
    let h = walk-on _ _ _ (sym c.in_ok-instruction.ensures) in let f = c.args.self.now.few in omega arith

pub invariant_of-self : goal.invariant_of-self
invariant_of-self c =
    let h = walk-on _ _ _ (sym c.in_ok-instruction.ensures) in let f = c.args.self.now.few in
    record { few = omega arith }

pub returns-clause-steps : goal.returns-clause-steps
returns-clause-steps c =
    let e = sym c.in_ok-instruction.ensures in ((walk-at _ _ _ e).0, (refl, refl, e, refl, refl, refl))

pub returns-clause-goes : goal.returns-clause-goes
returns-clause-goes c =
    let shorter = ap length (walk-at _ _ _ (sym c.in_ok-instruction.ensures)).0 in
    search rules
