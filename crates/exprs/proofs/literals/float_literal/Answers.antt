use mathlib.Core.Path.{refl, ap}
use lib.Ieee.{binary64}
use lib.Ieee.Bits.{to_bits-of_bits, nan_bits_is}
use Rattle.definitions.specs.Tree.{float_l}
use Rattle.exprs.specs.Literals.{literal_of, PlainLiteral}
use Rattle.exprs.proofs.LiteralLaws.{no_nan}
use Rattle.exprs.proofs.literals.float_literal.Goals as goal

pub float_from_bits-result : goal.float_from_bits-result
unfolding literal_of PlainLiteral
float_from_bits-result c = rw nan_bits_is (no_nan _ c.if-bits-gt-INFINITY.false)

pub returns-then-bits-gt-INFINITY : goal.returns-then-bits-gt-INFINITY
unfolding literal_of PlainLiteral
returns-then-bits-gt-INFINITY c = λ t. record { is = refl; plain = c.if-bits-gt-INFINITY.true }

pub returns-else-bits-gt-INFINITY : goal.returns-else-bits-gt-INFINITY
unfolding literal_of PlainLiteral
returns-else-bits-gt-INFINITY c = λ t. record { is = ap float_l (to_bits-of_bits binary64 _ c.ranges.bits.fits (no_nan _ c.if-bits-gt-INFINITY.false)); plain = no_nan _ c.if-bits-gt-INFINITY.false }
