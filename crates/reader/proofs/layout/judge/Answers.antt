use mathlib.Core.Path.{◌≡◌, ap, ◌∙◌}
use Rattle.std.specs.Prelude.{Err}
use Rattle.std.proofs.Common.{rules}
use Rattle.reader.specs.View.{skip_at, said}
use Rattle.reader.specs.declared.Asked.TheVariants.{Jumps}
use Rattle.reader.proofs.Answered.{refused-none, passed-some, none-so, some-so}
use Rattle.reader.proofs.Question19.{functions_read}
use Rattle.reader.proofs.Questions.{numbers-lack, code-falls, code-stands}
use Rattle.reader.proofs.Cursoring.{begins-to, begins-cut}
use Rattle.reader.proofs.layout.judge.Goals as goal

pub returns-in_err-ok_or : goal.returns-in_err-ok_or
returns-in_err-ok_or c =
    let e : c.from_residual.result ≡ Err c.in_err-ok_or.field-0.0 = search rules in let k = refused-none c.ask_numbers.result _ _ c.in_err-ok_or.ensures.value in
    ap said (e ∙ ap Err k.1) ∙ numbers-lack _ _ _ _ _ c.requires.laid (none-so c.ask_numbers.result _ _ c.ask_numbers.ensures k.0)

pub returns-in_err-ok_or-2 : goal.returns-in_err-ok_or-2
returns-in_err-ok_or-2 c =
    let e : c.from_residual-in_err-ok_or-2.result ≡ Err c.in_err-ok_or-2.field-0.0 = search rules in
    let k = refused-none c.functions.result _ _ c.in_err-ok_or-2.ensures.value in let s = passed-some c.ask_numbers.result _ _ c.in_ok-ok_or.ensures.value in
    ap said (e ∙ ap Err k.1) ∙ code-falls _ _ _ _ _ c.requires.laid (some-so c.ask_numbers.result _ _ _ c.ask_numbers.ensures s)
    (begins-cut c.args.bytes.now c.args.sections.functions.start (skip_at (functions_read Jumps)) c.new-c.result c.new-c.ensures (none-so c.functions.result _ _ c.functions.ensures k.0))

pub returns : goal.returns
returns c =
    let k = passed-some c.functions.result _ _ c.in_ok-ok_or-2.ensures.value in let s = passed-some c.ask_numbers.result _ _ c.in_ok-ok_or.ensures.value in
    code-stands _ _ _ _ _ c.requires.laid (some-so c.ask_numbers.result _ _ _ c.ask_numbers.ensures s) _
    (begins-to c.args.bytes.now c.args.sections.functions.start (skip_at (functions_read Jumps)) c.new-c.result c.functions.new.self c.new-c.ensures (some-so c.functions.result _ _ _ c.functions.ensures k)).1
