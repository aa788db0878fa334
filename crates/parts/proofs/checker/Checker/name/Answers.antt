use Rattle.std.proofs.Common.{rules}
use Rattle.parts.proofs.Steps.{name-stop, name-cut, name-step}
use Rattle.parts.proofs.checker.Checker.name.Goals as goal

pub returns-in_err-n : goal.returns-in_err-n
returns-in_err-n c = name-stop (search rules) c.in_err-n.ensures

pub returns-in_err-name : goal.returns-in_err-name
returns-in_err-name c = name-cut (search rules) c.in_ok-n.ensures c.in_err-name.ensures

pub returns : goal.returns
returns c = name-step c.in_ok-n.ensures c.in_ok-name.ensures.0 c.in_ok-name.ensures.1 c.is_iterator.ensures c.note.ensures c.is_name.ensures c.note-2.ensures
