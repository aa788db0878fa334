use mathlib.Core.Path.{◌≡◌, ap, ◌∙◌}
use Rattle.std.specs.Prelude.{Err}
use Rattle.std.proofs.Common.{rules}
use Rattle.reader.specs.View.{said}
use Rattle.reader.proofs.Deciding.{code-accepted, code-refused}
use Rattle.reader.proofs.check_code.Goals as goal

pub returns-in_err-locate : goal.returns-in_err-locate
returns-in_err-locate c = let e : c.from_residual.result ≡ Err c.in_err-locate.field-0.0 = search rules in ap said e ∙ code-refused (Unit {0}) _ _ _ c.in_err-locate.ensures

pub returns : goal.returns
returns c = code-accepted _ _ _ c.in_ok-locate.ensures
