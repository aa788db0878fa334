use Rattle.exports.proofs.Telling.{orders-told}
use Rattle.exports.proofs.rulketoos_order.Goals as goal

pub returns : goal.returns
returns c = orders-told _ _ _ c.limits_by.ensures _ _ _ _ _ _ c.order.ensures _ c.tell_order.ensures
