use Rattle.definitions.specs.Bytes.{name}
use Rattle.reader.proofs.Cursoring.{passed}
use Rattle.reader.proofs.cursor.Cursor.symbol.Goals as goal

pub returns : goal.returns
returns c = passed name _ _ _ c.in_ok-name.ensures
