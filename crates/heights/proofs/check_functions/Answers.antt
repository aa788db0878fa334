use mathlib.Core.Path.{◌≡◌, refl, sym, subst}
use native.Mathlib.Omega.{arith}
use lib.ListN.{length}
use Rattle.std.specs.Prelude.{Result, Err}
use Rattle.std.proofs.Common.{rules}
use Rattle.questions.specs.declared.Question.{Question}
use Rattle.definitions.specs.Heights.{heights_answer}
use Rattle.reader.specs.View.{said}
use Rattle.tally.proofs.Calling.{closed, opened, functions-begin}
use Rattle.heights.proofs.Checking.{stood, says-yes, says-37, says-closed}
use Rattle.heights.proofs.check_functions.Goals as goal

pub returns-in_err-sections : goal.returns-in_err-sections
returns-in_err-sections c =
    let e : c.from_residual.result ≡ Err c.in_err-sections.field-0.0 = search rules in
    subst (λ (x : Result (Unit {0}) Question). said x ≡ heights_answer (length c.args.area.now) c.args.bytes.now) (sym e)
    (says-closed _ _ _ c.requires (closed _ _ c.in_err-sections.ensures.sections))

pub overflow_add-functions : goal.overflow_add-functions
overflow_add-functions c = let k = (functions-begin _ _ (opened _ _ c.in_ok-sections.ensures.sections)).0 in omega arith

pub functions_hold-requires : goal.functions_hold-requires
functions_hold-requires c = (stood (opened _ _ c.in_ok-sections.ensures.sections), c.requires)

pub returns-then-functions_hold : goal.returns-then-functions_hold
returns-then-functions_hold c = says-yes (opened _ _ c.in_ok-sections.ensures.sections) c.requires c.if-functions_hold.ensures refl

pub returns-else-functions_hold : goal.returns-else-functions_hold
returns-else-functions_hold c = says-37 (opened _ _ c.in_ok-sections.ensures.sections) c.requires c.if-functions_hold.ensures refl
