-- The sums give for each of the twelve operators the instruction that 000 emits.
use mathlib.Core.Path.{refl}
use Rattle.definitions.specs.Open.{everything}
use Rattle.definitions.specs.Statements.{emitted_for, Operators}

pub operators : Operators
unfolding everything emitted_for
operators = record { bytes = refl; numbers = refl; sums = refl }
