use mathlib.Core.Path.{◌≡◌, sym, subst}
use Rattle.std.specs.Prelude.{Result, Err}
use Rattle.std.proofs.Common.{rules}
use Rattle.questions.specs.declared.Question.{Question}
use Rattle.reader.specs.declared.Part.{Part}
use Rattle.reader.specs.View.{Locates}
use Rattle.reader.proofs.Deciding.{opened-ready, opened-closed}
use Rattle.reader.proofs.locate.Goals as goal

pub returns-in_err-sections : goal.returns-in_err-sections
returns-in_err-sections c =
    let e : c.from_residual.result ≡ Err c.in_err-sections.field-0.0 = search rules in
    subst (λ (x : Result Part Question). Locates x c.args.bytes.now c.args.f) (sym e) (opened-closed _ _ _ c.in_err-sections.ensures.sections)

pub locate_in-requires : goal.locate_in-requires
locate_in-requires c = opened-ready _ _ c.in_ok-sections.ensures.sections
