-- The library's number, where no plus stands in front; none for what is no text.
use Rattle.std.proofs.Common.{◌≡◌, arith, sym, ap, get_or, ◌∙◌}
use Rattle.std.proofs.lemmas.Bool.Decides.{nat_tests}
use Rattle.digits.specs.Text.{decimal_spelled}
use Rattle.digits.proofs.Laws.{not_utf8-none, plus-none, parsed, no_text, some_text}
use Rattle.digits.proofs.decimal_of.Goals as goal

pub returns-in_err-number : goal.returns-in_err-number
returns-in_err-number c =
    let n = no_text _ _ c.from_utf8.result (sym c.ok.ensures.value ∙ c.in_err-number.was) c.from_utf8.ensures.cases in
    c.from_residual.ensures ∙ not_utf8-none c.args.text.now n.1.0

pub returns-then-starts_with : goal.returns-then-starts_with
returns-then-starts_with c =
    let n = some_text _ _ c.from_utf8.result _ (sym c.ok.ensures.value ∙ c.in_ok-number.was) c.from_utf8.ensures.cases in
    let b = c.if-starts_with.ensures.byte (omega arith) (omega arith) (λ w o h. h) in
    let e : get_or c.in_ok-number.number.now 0 0 ≡ 43 = grind (arith, nat_tests, b) in
    plus-none c.args.text.now (rw (← n.0) e)

pub returns : goal.returns
returns c =
    let n = some_text _ _ c.from_utf8.result _ (sym c.ok.ensures.value ∙ c.in_ok-number.was) c.from_utf8.ensures.cases in
    let b = c.if-starts_with.ensures.byte (omega arith) (omega arith) (λ w o h. h) in
    let e : get_or c.in_ok-number.number.now 0 0 ≡ 43 → ⊥ = λ z. grind (arith, nat_tests, b) in
    c.ok-2.ensures.value ∙ parsed c.in_ok-number.number.now _ c.from_str_radix.ensures.value e ∙ ap decimal_spelled n.0
