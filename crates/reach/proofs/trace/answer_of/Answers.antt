use native.Mathlib.Omega.{arith}
use Rattle.reach.specs.Tracing.{tag_of}
use Rattle.reach.proofs.Tracks.{answer_none, answer_some}
use Rattle.reach.proofs.trace.answer_of.Goals as goal

pub returns-in-0 : goal.returns-in-0
unfolding tag_of
returns-in-0 c = answer_none _ c.in-0.is

pub returns-in_default : goal.returns-in_default
unfolding tag_of
returns-in_default c = answer_some _ (λ e. grind arith)
