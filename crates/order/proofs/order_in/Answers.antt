use Rattle.std.proofs.Common.{rules}
use Rattle.order.proofs.Answering.{first-refused, second-refused, both-accepted}
use Rattle.order.proofs.order_in.Goals as goal

pub returns-in_err-accept : goal.returns-in_err-accept
returns-in_err-accept c = first-refused _ _ _ _ _ c.requires.0 c.requires.1 (search rules) c.accept.ensures c.in_err-accept.was

pub returns-in_err-accept-2 : goal.returns-in_err-accept-2
returns-in_err-accept-2 c = second-refused _ _ _ _ _ c.requires.0 c.requires.1 c.accept.ensures c.in_ok-accept.was (search rules) c.accept-2.ensures c.in_err-accept-2.was

pub compare-requires : goal.compare-requires
compare-requires c = (c.accept.ensures.stands _ c.in_ok-accept.was, c.accept-2.ensures.stands _ c.in_ok-accept-2.was)

pub returns : goal.returns
returns c = both-accepted _ _ _ _ _ c.requires.0 c.requires.1 c.accept.ensures c.in_ok-accept.was _ c.accept-2.ensures c.in_ok-accept-2.was c.compare.ensures
