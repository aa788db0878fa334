use mathlib.Core.Path.{sym, ap, ◌∙◌}
use mir.Syntax.{w64}
use mir.ValLaws.{to_z-of_z}
use Rattle.std.proofs.Common.{of_z, rules}
use Rattle.exprs.specs.Literals.{bits_of, PlainLiteral}
use Rattle.exprs.proofs.LiteralLaws.{no-bits}
use Rattle.exprs.proofs.literals.literal_bits.Goals as goal

pub float_to_bits-result : goal.float_to_bits-result
unfolding PlainLiteral
float_to_bits-result c = rw c.in-Float.is at c.requires

pub returns-in-None : goal.returns-in-None
returns-in-None c = no-bits _ c.in-None.is

pub returns-in-Int : goal.returns-in-Int
unfolding bits_of
returns-in-Int c = c.cast_unsigned.ensures ∙ ap (of_z w64) (to_z-of_z w64 c.in-Int.z (record { sfits = search rules })) ∙ sym (ap bits_of c.in-Int.is)

pub returns-in-Float : goal.returns-in-Float
unfolding bits_of
returns-in-Float c = sym (ap bits_of c.in-Float.is)

pub returns-in-Nan : goal.returns-in-Nan
unfolding bits_of
returns-in-Nan c = sym (ap bits_of c.in-Nan.is)
