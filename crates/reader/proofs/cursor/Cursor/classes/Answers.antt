use Rattle.std.proofs.Common.{rules}
use Rattle.definitions.specs.Bytes.{checked}
use Rattle.definitions.specs.Reader.{class_record}
use Rattle.definitions.proofs.Begins.{takes-class}
use Rattle.reader.specs.Asks.{ask_class}
use Rattle.reader.specs.View.{skip_at}
use Rattle.reader.proofs.Cursoring.{tested-steps}
use Rattle.reader.proofs.cursor.Cursor.classes.Goals as goal

pub returns : goal.returns
returns c = tested-steps (ask_class c.args.asked) class_record takes-class c.list.result c.args.self.now c.list.new.self (c.list.ensures (skip_at (checked (ask_class c.args.asked) class_record)) (λ s r d e. search rules))
