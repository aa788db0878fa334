use native.Mathlib.Omega.{arith}
use mathlib.Core.Path.{sym}
use Rattle.measure.proofs.Measuring.{more-low, more-high}
use Rattle.measure.proofs.values.binary_more.Goals as goal

pub returns-then-operator-lt-AND : goal.returns-then-operator-lt-AND
returns-then-operator-lt-AND c = (sym (more-low _ c.if-operator-lt-AND.true), omega arith)

pub returns : goal.returns
returns c = (sym (more-high _ c.if-operator-lt-AND.false), omega arith)
