use Rattle.parts.proofs.Steps.{rules-yes, rules-no}
use Rattle.parts.proofs.checker.Checker.verdict.Goals as goal

pub returns-in-None : goal.returns-in-None
returns-in-None c = rules-yes _ _ c.in-None.is

pub returns-in-Some : goal.returns-in-Some
returns-in-Some c = rules-no _ c.in-Some.question _ c.in-Some.is c.question.ensures
