use mathlib.Core.Logic.{inl, inr}
use native.Mathlib.Omega.{arith}
use Rattle.run.proofs.Flows.{on_turn, on-return, on_straight}
use Rattle.run.proofs.tables.goes_on.Goals as goal

pub returns-in_default : goal.returns-in_default
returns-in_default c = on_straight _ (inl (omega arith)) (λ e. omega arith)

pub returns-in_default-2 : goal.returns-in_default-2
returns-in_default-2 c = on_straight _ (inr (omega arith)) (λ e. grind arith)

pub returns-in-28 : goal.returns-in-28
returns-in-28 c = on-return _ c.in-28.is

pub returns-in-28-2 : goal.returns-in-28-2
returns-in-28-2 c = on_turn _ (omega arith) (omega arith)
