use Rattle.std.proofs.Common.{rules}
use Rattle.definitions.specs.Bytes.{name}
use Rattle.definitions.proofs.Begins.{takes-name}
use Rattle.reader.specs.View.{skip_at}
use Rattle.reader.proofs.Cursoring.{plain-steps}
use Rattle.reader.proofs.cursor.Cursor.symbols.Goals as goal

pub returns : goal.returns
returns c = plain-steps name takes-name c.list.result c.args.self.now c.list.new.self (c.list.ensures (skip_at name) (λ s r d e. search rules))
