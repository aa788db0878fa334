use mathlib.Core.Path.{◌≡◌, sym, ◌∙◌, subst}
use Rattle.std.proofs.Common.{Result, Err, rules}
use Rattle.definitions.specs.Calls.{run_call}
use Rattle.questions.specs.declared.Question.{Question}
use Rattle.reader.proofs.Deciding.{located-inside, located-code, located-not, part-code}
use Rattle.run.specs.declared.Ran.{Ran}
use Rattle.run.specs.Pass.{Called}
use Rattle.run.proofs.Calling.{part_count, part-coded, call-refused, call-answers, call-runs}
use Rattle.run.proofs.run.Goals as goal

pub part_of-code-requires : goal.part_of-code-requires
part_of-code-requires c = located-inside _ _ _ c.locate-place.ensures

pub returns-in_err-part : goal.returns-in_err-part
returns-in_err-part c =
    let a = c.args in
    let e : c.from_residual.result ≡ Err c.in_err-part.field-0.0 = search rules in
    subst (λ (o : Result Ran Question). Called o (run_call a.bytes.now a.f a.answers.now a.budget a.events.now) a.events.now) (sym e)
    (call-refused _ _ _ _ _ _ (located-not _ _ _ _ c.locate-place.ensures c.in_err-part.was))

pub returns-then-not-are_answers : goal.returns-then-not-are_answers
returns-then-not-are_answers c =
    call-answers c.args.bytes.now _ _ _ _ _ _ _ (located-code _ _ _ _ c.locate-place.ensures c.in_ok-part.was) (sym c.are_answers.ensures ∙ c.if-not-are_answers.true)

pub invariant_of-function : goal.invariant_of-function
invariant_of-function c =
    let t = c.args.bytes.now in let k = located-code t _ _ _ c.locate-place.ensures c.in_ok-part.was in
    let e = c.part_of-code.ensures.result_value ∙ sym (part-code _ t _ c.in_ok-part.was) in
    record { coded = part-coded t _ _ _ _ k _ e (λ i. (c.type_inv.bytes i).fits); counted = part_count t _ _ _ _ k _ e }

pub returns-then-function-le-SMALL : goal.returns-then-function-le-SMALL
returns-then-function-le-SMALL c =
    let t = c.args.bytes.now in let k = located-code t _ _ _ c.locate-place.ensures c.in_ok-part.was in
    let e = c.part_of-code.ensures.result_value ∙ sym (part-code _ t _ c.in_ok-part.was) in
    call-runs t _ _ _ _ _ _ _ k _ e (sym c.are_answers.ensures ∙ c.if-not-are_answers.false) _ _ c.run_sized.ensures

pub invariant_of-function-else-function-le-SMALL : goal.invariant_of-function-else-function-le-SMALL
invariant_of-function-else-function-le-SMALL c =
    let t = c.args.bytes.now in let k = located-code t _ _ _ c.locate-place.ensures c.in_ok-part.was in
    let e = c.part_of-code.ensures.result_value ∙ sym (part-code _ t _ c.in_ok-part.was) in
    record { coded = part-coded t _ _ _ _ k _ e (λ i. (c.type_inv.bytes i).fits); counted = part_count t _ _ _ _ k _ e }

pub returns-else-function-le-SMALL : goal.returns-else-function-le-SMALL
returns-else-function-le-SMALL c =
    let t = c.args.bytes.now in let k = located-code t _ _ _ c.locate-place.ensures c.in_ok-part.was in
    let e = c.part_of-code.ensures.result_value ∙ sym (part-code _ t _ c.in_ok-part.was) in
    call-runs t _ _ _ _ _ _ _ k _ e (sym c.are_answers.ensures ∙ c.if-not-are_answers.false) _ _ c.run_sized-else-function-le-SMALL.ensures
