use Rattle.names.proofs.Pasting.{main-short}
use Rattle.lower_names.proofs.Symbols.{naming-sound}
use Rattle.compile.proofs.Beginning.{fresh-sound, begins-none, begins-main}
use Rattle.compile.proofs.begin_main.Goals as goal

pub intern_made-requires : goal.intern_made-requires
intern_made-requires c = (naming-sound (fresh-sound c.requires), main-short)

pub returns-in_err-symbol : goal.returns-in_err-symbol
returns-in_err-symbol c = begins-none c.requires c.intern_made.ensures c.in_err-symbol.was c.from_residual.ensures

pub returns : goal.returns
returns c = begins-main c.requires c.intern_made.ensures c.in_ok-symbol.was c.begin_function.ensures
