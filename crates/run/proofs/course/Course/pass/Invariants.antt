use Prim.Native.Nat.{◌-◌}
use Rattle.run.proofs.Passing.{Going}
use Rattle.run.proofs.course.Course.pass.Given as goal

abbrev pub invariant-loop-near : goal.invariant-loop-near
invariant-loop-near l = Going l.self.code.now l.self.answers.now l.self.budget l.self.room l.s l.initial.events l.events

abbrev pub decreases-loop-near : goal.decreases-loop-near
decreases-loop-near l = l.self.budget - l.s.steps
