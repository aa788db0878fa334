use Rattle.std.proofs.Common.{rules}
use Rattle.parts.proofs.Steps.{params-stop, params-cut, params-step, names-there-at}
use Rattle.parts.proofs.checker.Checker.params.Goals as goal

pub returns-in_err-n : goal.returns-in_err-n
returns-in_err-n c = params-stop (search rules) c.in_err-n.ensures

pub returns-in_err-names : goal.returns-in_err-names
returns-in_err-names c = params-cut (search rules) c.in_ok-n.ensures c.in_err-names.ensures

pub distinct_names-distinct-requires : goal.distinct_names-distinct-requires
distinct_names-distinct-requires c = names-there-at _ c.in_ok-names.ensures

pub returns : goal.returns
returns c = params-step c.in_ok-n.ensures c.in_ok-names.ensures c.distinct_names-distinct.ensures c.note.ensures c.note-2.ensures
