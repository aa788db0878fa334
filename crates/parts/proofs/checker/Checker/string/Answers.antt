use Rattle.std.proofs.Common.{rules}
use Rattle.parts.proofs.Steps.{string-stop, string-cut, string-step}
use Rattle.parts.proofs.checker.Checker.string.Goals as goal

pub returns-in_err-n : goal.returns-in_err-n
returns-in_err-n c = string-stop (search rules) c.in_err-n.ensures

pub returns-in_err-text : goal.returns-in_err-text
returns-in_err-text c = string-cut (search rules) c.in_ok-n.ensures c.in_err-text.ensures

pub returns : goal.returns
returns c = string-step c.in_ok-n.ensures c.in_ok-text.ensures.0 c.in_ok-text.ensures.1 c.is_utf8.ensures c.note.ensures
