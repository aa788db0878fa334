use mathlib.Core.List.{[]}
use Rattle.definitions.specs.Bytes.{checked, list_of}
use Rattle.definitions.specs.Reader.{method_record, class_record}
use Rattle.reader.specs.View.{skip_at}
use Rattle.reader.specs.Asks.{ask_methods, ask_class}
use Rattle.reader.proofs.Cursoring.{none-steps, goes-on}
use Rattle.reader.proofs.ClassLaws.{class-cut, class-next}
use Rattle.reader.proofs.cursor.Cursor.class.Goals as goal

pub returns-in_err-proper : goal.returns-in_err-proper
returns-in_err-proper c =
    let s = c.args.self.now in
    none-steps (skip_at (checked (ask_class c.args.asked) class_record)) c.from_residual.result s c.proper.new.self c.from_residual.ensures (class-cut c.args.asked s.bytes.now s.at c.in_err-proper.ensures)

pub returns : goal.returns
returns c =
    let s = c.args.self.now in let d = c.proper.new.self in let r = c.in_ok-proper.ensures in
    goes-on (skip_at (checked (ask_class c.args.asked) class_record)) (skip_at (checked (ask_methods c.args.asked []) (list_of 2 method_record))) c.methods.result s d c.methods.new.self
    r.bytes (class-next c.args.asked s.bytes.now s.at _ d.at r.got) c.methods.ensures
