use Rattle.std.proofs.Common.{rules}
use Rattle.definitions.specs.Bytes.{checked}
use Rattle.definitions.specs.Reader.{function_record}
use Rattle.definitions.proofs.Begins.{takes-function}
use Rattle.reader.specs.Asks.{ask_function}
use Rattle.reader.specs.View.{skip_at}
use Rattle.reader.proofs.Cursoring.{tested-steps}
use Rattle.reader.proofs.cursor.Cursor.functions.Goals as goal

pub returns : goal.returns
returns c = tested-steps (ask_function c.args.asked) function_record takes-function c.list.result c.args.self.now c.list.new.self (c.list.ensures (skip_at (checked (ask_function c.args.asked) function_record)) (λ s r d e. search rules))
