use Rattle.std.proofs.Common.{rules, ◌∙◌}
use Rattle.parts.proofs.Steps.{head-stop, head-cut, head-there, head-counted, head-step}
use Rattle.parts.proofs.checker.Checker.head.Goals as goal

pub returns-in_err-name : goal.returns-in_err-name
returns-in_err-name c = head-stop (search rules) c.in_err-name.ensures

pub returns-in_err-params : goal.returns-in_err-params
returns-in_err-params c = head-cut (search rules) c.in_ok-name.ensures c.in_err-params.ensures

pub name_part-requires : goal.name_part-requires
name_part-requires c = head-there _ (c.in_ok-params.ensures.tree ∙ c.in_ok-name.ensures.tree) c.in_ok-name.ensures

pub u16_at-requires : goal.u16_at-requires
u16_at-requires c = head-counted _ c.in_ok-params.ensures.tree c.in_ok-params.ensures

pub returns : goal.returns
returns c = head-step c.in_ok-name.ensures c.in_ok-params.ensures c.name_part.ensures.result_value c.u16_at.ensures.0 c.may_have-ok.ensures c.note.ensures
