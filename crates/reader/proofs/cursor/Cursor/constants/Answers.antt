use Rattle.std.proofs.Common.{rules}
use Rattle.definitions.specs.Bytes.{field, checked}
use Rattle.definitions.proofs.Begins.{takes_field}
use Rattle.reader.specs.Asks.{ask_constant}
use Rattle.reader.specs.View.{skip_at}
use Rattle.reader.proofs.Cursoring.{tested-steps}
use Rattle.reader.proofs.cursor.Cursor.constants.Goals as goal

pub returns : goal.returns
returns c = tested-steps (ask_constant c.args.asked) (field 2) (takes_field 2) c.list.result c.args.self.now c.list.new.self (c.list.ensures (skip_at (checked (ask_constant c.args.asked) (field 2))) (λ s r d e. search rules))
