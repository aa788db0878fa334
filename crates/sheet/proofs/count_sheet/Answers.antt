use Rattle.std.specs.Prelude.{Result, Err}
use mathlib.Core.Path.{◌≡◌, sym, subst}
use Prim.Native.Nat.{ℕ}
use Rattle.std.proofs.Common.{rules}
use Rattle.questions.specs.declared.Question.{Question}
use Rattle.tally.specs.Listed.{Printed}
use Rattle.tally.proofs.Calling.{closed, opened}
use Rattle.definitions.specs.Calls.{sheet_call}
use Rattle.sheet.proofs.Answering.{sheet-closed}
use Rattle.sheet.proofs.count_sheet.Goals as goal

pub returns-in_err-sections : goal.returns-in_err-sections
returns-in_err-sections c =
    let e : c.from_residual.result ≡ Err c.in_err-sections.field-0.0 = search rules in
    subst (λ (x : Result ℕ Question). Printed x (sheet_call c.args.bytes.now c.args.out.now) c.args.out.now)
    (sym e) (sheet-closed _ _ _ (closed _ _ c.in_err-sections.ensures.sections))

pub sheet_functions-requires : goal.sheet_functions-requires
sheet_functions-requires c = opened _ _ c.in_ok-sections.ensures.sections
