use mathlib.Core.Path.{◌≡◌, sym, ap, ◌∙◌, subst}
use native.Mathlib.Omega.{arith}
use Rattle.std.specs.Prelude.{Option, Result, Err}
use Rattle.std.proofs.Common.{rules}
use Rattle.questions.specs.declared.Question.{Question}
use Prim.Native.Nat.{ℕ}
use Rattle.definitions.specs.Bytes.{checked}
use Rattle.definitions.specs.Reader.{function_record}
use Rattle.reader.specs.declared.Part.{Part}
use Rattle.reader.specs.declared.Asked.TheVariants.{Layout}
use Rattle.reader.specs.Asks.{ask_function}
use Rattle.reader.specs.View.{skip_at, FoundAt, Locates}
use Rattle.reader.proofs.Answered.{refused-none, passed-some, none-so, some-so}
use Rattle.reader.proofs.Deciding.{found-none}
use Rattle.reader.proofs.Finding.{functions-listed, no-function, record-in, record-reads, count-in, code_inside, code-located}
use Rattle.reader.proofs.Cursoring.{begins-to, begins-cut}
use Rattle.reader.proofs.places.locate_in.Goals as goal

pub find_function-requires : goal.find_function-requires
find_function-requires c = functions-listed _ _ c.requires c.args.f

pub returns-in_err-head : goal.returns-in_err-head
returns-in_err-head c =
    let e : c.from_residual.result ≡ Err c.in_err-head.field-0.0 = search rules in let k = refused-none c.find_function.result _ _ c.in_err-head.ensures.value in
    subst (λ (x : Result Part Question). Locates x c.args.bytes.now c.args.f) (sym (e ∙ ap Err k.1))
    (no-function _ _ c.requires _ (found-none _ _ _ (subst (λ (x : Option ℕ). FoundAt x c.args.bytes.now c.args.sections.functions.start c.args.f) k.0 c.find_function.ensures)))

pub new-c-requires : goal.new-c-requires
new-c-requires c =
    let p = subst (λ (x : Option ℕ). FoundAt x c.args.bytes.now c.args.sections.functions.start c.args.f) (passed-some c.find_function.result _ _ c.in_ok-head.ensures.value) c.find_function.ensures in
    record-in _ _ c.requires _ _ p

pub returns-in_err-ok_or : goal.returns-in_err-ok_or
returns-in_err-ok_or c =
    let p = subst (λ (x : Option ℕ). FoundAt x c.args.bytes.now c.args.sections.functions.start c.args.f) (passed-some c.find_function.result _ _ c.in_ok-head.ensures.value) c.find_function.ensures in
    let k = refused-none c.function.result _ _ c.in_err-ok_or.ensures.value in
    absurd (record-reads _ _ c.requires _ _ p (begins-cut c.args.bytes.now c.in_ok-head.head (skip_at (checked (ask_function Layout) function_record)) c.new-c.result c.new-c.ensures (none-so c.function.result _ _ c.function.ensures k.0)))

pub overflow_sub-result : goal.overflow_sub-result
overflow_sub-result c =
    let p = subst (λ (x : Option ℕ). FoundAt x c.args.bytes.now c.args.sections.functions.start c.args.f) (passed-some c.find_function.result _ _ c.in_ok-head.ensures.value) c.find_function.ensures in
    let e = (begins-to c.args.bytes.now c.in_ok-head.head (skip_at (checked (ask_function Layout) function_record)) c.new-c.result c.function.new.self c.new-c.ensures
    (some-so c.function.result _ _ _ c.function.ensures (passed-some c.function.result _ _ c.in_ok-ok_or.ensures.value))).1 in
    code_inside _ _ c.requires _ _ p _ e

pub number_at-requires : goal.number_at-requires
number_at-requires c =
    let p = subst (λ (x : Option ℕ). FoundAt x c.args.bytes.now c.args.sections.functions.start c.args.f) (passed-some c.find_function.result _ _ c.in_ok-head.ensures.value) c.find_function.ensures in
    (count-in _ _ c.requires _ _ p, omega arith)

pub returns : goal.returns
returns c =
    let p = subst (λ (x : Option ℕ). FoundAt x c.args.bytes.now c.args.sections.functions.start c.args.f) (passed-some c.find_function.result _ _ c.in_ok-head.ensures.value) c.find_function.ensures in
    let e = (begins-to c.args.bytes.now c.in_ok-head.head (skip_at (checked (ask_function Layout) function_record)) c.new-c.result c.function.new.self c.new-c.ensures
    (some-so c.function.result _ _ _ c.function.ensures (passed-some c.function.result _ _ c.in_ok-ok_or.ensures.value))).1 in
    let b = c.number_at.ensures.1 in code-located _ _ c.requires _ _ p _ _ e c.number_at.ensures.0 (omega arith)
