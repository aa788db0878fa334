use Rattle.std.specs.Prelude.{Result, Err}
use mathlib.Core.Path.{◌≡◌, sym, subst}
use Prim.Native.Nat.{ℕ}
use Rattle.std.proofs.Common.{rules}
use Rattle.questions.specs.declared.Question.{Question}
use Rattle.tally.specs.Listed.{Printed}
use Rattle.tally.proofs.Calling.{closed, opened}
use Rattle.definitions.specs.Calls.{list_call}
use Rattle.listing.proofs.Answering.{list-closed}
use Rattle.listing.proofs.list.Goals as goal

pub returns-in_err-sections : goal.returns-in_err-sections
returns-in_err-sections c =
    let e : c.from_residual.result ≡ Err c.in_err-sections.field-0.0 = search rules in
    subst (λ (x : Result ℕ Question). Printed x (list_call c.args.bytes.now c.args.out.now) c.args.out.now) (sym e) (list-closed _ _ _ (closed _ _ c.in_err-sections.ensures.sections))

pub list_functions-requires : goal.list_functions-requires
list_functions-requires c = opened _ _ c.in_ok-sections.ensures.sections
