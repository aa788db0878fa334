use Rattle.lower_classes.proofs.Nested.{starts-none, starts-named}
use Rattle.lower_classes.proofs.start_named.Goals as goal

pub returns-in_err-n : goal.returns-in_err-n
returns-in_err-n c = starts-none c.begin_named.ensures c.in_err-n.was c.from_residual.ensures

pub returns : goal.returns
returns c = starts-named c.begin_named.ensures c.in_ok-n.was
