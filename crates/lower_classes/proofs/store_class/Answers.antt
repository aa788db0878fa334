use Rattle.lower_classes.proofs.Ending.{object-full, object-done}
use Rattle.lower_classes.proofs.store_class.Goals as goal

pub returns-in_err-put_op : goal.returns-in_err-put_op
returns-in_err-put_op c = record {
  finishes = λ t S more. object-full c.args.symbol S c.requires.0 more c.add_constant-constant.ensures c.put_op.ensures c.in_err-put_op.was c.from_residual.ensures;
  made = c.add_constant-constant.ensures.made;
}

pub returns : goal.returns
returns c = record {
  finishes = λ t S more. object-done c.args.symbol S c.requires.0 more c.add_constant-constant.ensures c.put_op.ensures c.in_ok-put_op.was c.requires.1 c.put_op-2.ensures;
  made = c.add_constant-constant.ensures.made;
}
