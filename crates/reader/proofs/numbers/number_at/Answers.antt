use native.Mathlib.Omega.{arith}
use Rattle.reader.proofs.NumberLaws.{number-none, number-one, number-two, within}
use Prim.Native.Nat.{◌+◌}
use Rattle.reader.proofs.numbers.number_at.Goals as goal

pub returns-in-0 : goal.returns-in-0
returns-in-0 c = let a = c.args in (number-none a.bytes.now a.at a.width c.in-0.is, within 0 0 a.width c.in-0.is (omega arith))

pub returns-in-1 : goal.returns-in-1
returns-in-1 c = let a = c.args in (number-one a.bytes.now a.at a.width c.in-1.is, within _ 1 a.width c.in-1.is (omega (arith, c.type_inv.bytes a.at)))

pub returns-in-2 : goal.returns-in-2
returns-in-2 c = let a = c.args in (number-two a.bytes.now a.at a.width c.in-2.is, within _ 2 a.width c.in-2.is (omega (arith, c.type_inv.bytes a.at, c.type_inv.bytes (a.at + 1))))
