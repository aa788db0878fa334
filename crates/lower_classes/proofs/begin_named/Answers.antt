use Rattle.lower_classes.proofs.Nested.{begins-none, begins-named}
use Rattle.lower_classes.proofs.begin_named.Goals as goal

pub returns-in_err-symbol : goal.returns-in_err-symbol
returns-in_err-symbol c = begins-none c.requires.1 c.args.arity c.args.locals c.intern.ensures c.in_err-symbol.was c.from_residual.ensures

pub returns : goal.returns
returns c = begins-named c.requires.1 c.args.arity c.args.locals c.intern.ensures c.in_ok-symbol.was c.requires.2 c.requires.3 c.begin_function.ensures
