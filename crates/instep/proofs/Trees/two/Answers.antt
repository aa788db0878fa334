use Rattle.std.proofs.Common.{rules}
use Rattle.instep.proofs.Stepping.{stopped, first-apart}
use Rattle.instep.proofs.Ways.{two_steps}
use Rattle.instep.proofs.Trees.two.Goals as goal

pub expr-requires : goal.expr-requires
expr-requires c = (c.requires.0, c.requires.1.first, c.requires.2.first)

pub returns-in_err-next : goal.returns-in_err-next
returns-in_err-next c = stopped (search rules) (first-apart _ _ c.expr.ensures c.in_err-next.was)

pub returns : goal.returns
returns c = two_steps _ _ _ _ _ c.expr.ensures c.in_ok-next.was c.expr-2.ensures
