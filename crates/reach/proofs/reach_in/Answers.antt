use mathlib.Core.Path.{◌≡◌, sym, ◌∙◌, subst}
use lib.ListN.{length}
use Prim.Native.Nat.{ℕ}
use Rattle.std.proofs.Common.{Option, Result, Err, rules}
use Rattle.definitions.specs.Reach.{sought}
use Rattle.questions.specs.declared.Question.{Question}
use Rattle.reader.proofs.Deciding.{located-inside, located-code, located-not, part-code}
use Rattle.reach.specs.Reaching.{Says}
use Rattle.reach.proofs.Asking.{says-refused, says-34, says-35, says, code-values, questions-are, seekable}
use Rattle.reach.proofs.reach_in.Goals as goal

pub part_of-code-requires : goal.part_of-code-requires
part_of-code-requires c = located-inside _ _ _ c.locate-found.ensures

pub returns-in_err-part : goal.returns-in_err-part
returns-in_err-part c =
    let a = c.args in
    let e : c.from_residual.result ≡ Err c.in_err-part.field-0.0 = search rules in
    subst (λ (o : Result (Option ℕ) Question). Says o (sought (length a.area.now) a.bytes.now a.function a.place (length a.out.now)) a.place a.out.now a.out.now) (sym e)
    (says-refused _ _ _ _ a.out.now c.requires (located-not _ _ _ _ c.locate-found.ensures c.in_err-part.was))

pub returns-then-part-place : goal.returns-then-part-place
returns-then-part-place c = says-34 _ _ _ _ c.args.out.now c.requires (located-code _ _ _ _ c.locate-found.ensures c.in_ok-part.was) c.if-part-place.true

pub count_code-counted-requires : goal.count_code-counted-requires
count_code-counted-requires c = code-values (located-code _ _ _ _ c.locate-found.ensures c.in_ok-part.was)

pub returns-then-out-counted : goal.returns-then-out-counted
returns-then-out-counted c =
    let L = located-code _ _ _ _ c.locate-found.ensures c.in_ok-part.was in
    says-35 _ _ _ _ c.args.out.now c.requires L (questions-are L c.count_code-counted.ensures) c.if-part-place.false c.if-out-counted.true

pub reach_code-requires : goal.reach_code-requires
reach_code-requires c =
    let L = located-code _ _ _ _ c.locate-found.ensures c.in_ok-part.was in let e = c.part_of-code.ensures.result_value ∙ sym (part-code _ _ _ c.in_ok-part.was) in
    seekable L e (λ i. (c.type_inv.bytes i).fits) c.if-part-place.false c.requires (questions-are L c.count_code-counted.ensures) c.if-out-counted.false

pub returns : goal.returns
returns c =
    let L = located-code _ _ _ _ c.locate-found.ensures c.in_ok-part.was in let e = c.part_of-code.ensures.result_value ∙ sym (part-code _ _ _ c.in_ok-part.was) in
    says _ _ _ _ c.args.out.now c.requires L (questions-are L c.count_code-counted.ensures) c.if-part-place.false c.if-out-counted.false e c.reach_code.ensures
