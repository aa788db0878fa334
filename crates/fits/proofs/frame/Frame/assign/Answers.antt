use Rattle.fits.proofs.ExprKinds.{second-there, second-moved}
use Rattle.fits.proofs.Walking.{stopped, walks_next, first-over, second_walks}
use Rattle.fits.proofs.frame.Frame.assign.Goals as goal

pub returns-in_err-p : goal.returns-in_err-p
returns-in_err-p c = stopped _ _ _ c.from_residual.ensures (first-over _ _ _ _ _ c.target.ensures c.in_err-p.was)

pub expr-requires : goal.expr-requires
expr-requires c = second-there _ _ _ _ (walks_next _ _ _ _ c.target.ensures c.in_ok-p.was).0 c.requires

pub returns : goal.returns
returns c = second_walks _ _ _ _ _ _ _ c.target.ensures c.in_ok-p.was (second-moved _ _ _ _ (walks_next _ _ _ _ c.target.ensures c.in_ok-p.was).0 _ _ c.expr.ensures)
