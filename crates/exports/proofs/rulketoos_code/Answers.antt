use mathlib.Core.Path.{◌∙◌}
use Rattle.exports.proofs.Telling.{code-known, code-short, code-yes, code-no}
use Rattle.exports.proofs.rulketoos_code.Goals as goal

pub tell_part-requires : goal.tell_part-requires
tell_part-requires c = code-short _ _ _ _ _ (code-known _ _ _ _ c.locate.ensures c.in-Ok.is)

pub returns-in-Ok : goal.returns-in-Ok
returns-in-Ok c = c.tell_part.ensures ∙ code-yes _ _ _ _ c.locate.ensures c.in-Ok.is

pub returns-in-Err : goal.returns-in-Err
returns-in-Err c = c.number.ensures ∙ code-no _ _ _ _ c.locate.ensures c.in-Err.is
