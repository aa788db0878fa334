use mathlib.Core.Path.{◌∙◌}
use Rattle.utf8.proofs.Agree.{read_passes}
use Rattle.utf8.proofs.is_utf8.Goals as goal

pub returns : goal.returns
returns c = c.is_ok.ensures.value ∙ read_passes _ _ c.args.bytes.now (λ a m. m.1) (λ e m. m.0) _ c.from_utf8.ensures.cases
