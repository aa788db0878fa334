-- Kinds told by their bytes. Assumes nothing.
use mathlib.Core.Path.{◌≡◌, refl}
use native.Mathlib.Omega.{arith}
use Rattle.numerals.specs.Kinds.{expr_byte}
use Rattle.numerals.specs.declared.kinds.ExprKind.{ExprKind}
use Rattle.numerals.specs.declared.kinds.ExprKind.TheVariants.{NoneLiteral, False, True, Int, Float, Text, Variable, Unary, Binary, Call, Attribute, List, Dict, Tuple, Set, TreeSet, Index, Lambda}

pub is-variable : (k : ExprKind) → expr_byte k ≡ 6 → k ≡ Variable
unfolding expr_byte
is-variable NoneLiteral e = absurd (omega arith)
is-variable False e = absurd (omega arith)
is-variable True e = absurd (omega arith)
is-variable Int e = absurd (omega arith)
is-variable Float e = absurd (omega arith)
is-variable Text e = absurd (omega arith)
is-variable Variable e = refl
is-variable Unary e = absurd (omega arith)
is-variable Binary e = absurd (omega arith)
is-variable Call e = absurd (omega arith)
is-variable Attribute e = absurd (omega arith)
is-variable List e = absurd (omega arith)
is-variable Dict e = absurd (omega arith)
is-variable Tuple e = absurd (omega arith)
is-variable Set e = absurd (omega arith)
is-variable TreeSet e = absurd (omega arith)
is-variable Index e = absurd (omega arith)
is-variable Lambda e = absurd (omega arith)

pub is-tuple : (k : ExprKind) → expr_byte k ≡ 13 → k ≡ Tuple
unfolding expr_byte
is-tuple NoneLiteral e = absurd (omega arith)
is-tuple False e = absurd (omega arith)
is-tuple True e = absurd (omega arith)
is-tuple Int e = absurd (omega arith)
is-tuple Float e = absurd (omega arith)
is-tuple Text e = absurd (omega arith)
is-tuple Variable e = absurd (omega arith)
is-tuple Unary e = absurd (omega arith)
is-tuple Binary e = absurd (omega arith)
is-tuple Call e = absurd (omega arith)
is-tuple Attribute e = absurd (omega arith)
is-tuple List e = absurd (omega arith)
is-tuple Dict e = absurd (omega arith)
is-tuple Tuple e = refl
is-tuple Set e = absurd (omega arith)
is-tuple TreeSet e = absurd (omega arith)
is-tuple Index e = absurd (omega arith)
is-tuple Lambda e = absurd (omega arith)
