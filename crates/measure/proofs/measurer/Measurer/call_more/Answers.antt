use Prim.Native.Nat.{ℕ}
use mathlib.Core.Path.{sym, ap}
use mathlib.Core.Bool.{Bool, true, false}
use Rattle.numerals.specs.Kinds.{expr_byte}
use Rattle.numerals.specs.declared.kinds.ExprKind.TheVariants.{Variable, Attribute}
use Rattle.opcodes.proofs.KindBytes.{byte-is, other-kind}
use Rattle.tree_view.proofs.ExprViews.{expr-inside, expr-known}
use Rattle.measure.proofs.Measuring.{more-method, more-name, more-other}
use Rattle.measure.proofs.measurer.Measurer.call_more.Goals as goal

pub bounds-self-at : goal.bounds-self-at
bounds-self-at c = expr-inside _ _ _ c.requires

pub of-requires : goal.of-requires
of-requires c = expr-known _ _ _ c.requires

-- what a call by name adds
by-name : Bool → ℕ
by-name b = elim b as (λ z. ℕ) [ true ↦ 0 | false ↦ 1 ]

pub returns-then-is_direct : goal.returns-then-is_direct
unfolding expr_byte by-name
returns-then-is_direct c =
    more-name _ _ _ _ c.requires 0 _ (byte-is Variable c.of.ensures c.in-Variable.is) c.is_direct.ensures (ap by-name (sym c.if-is_direct.true))

pub returns-else-is_direct : goal.returns-else-is_direct
unfolding expr_byte by-name
returns-else-is_direct c =
    more-name _ _ _ _ c.requires 1 _ (byte-is Variable c.of.ensures c.in-Variable.is) c.is_direct.ensures (ap by-name (sym c.if-is_direct.false))

pub returns-in-Attribute : goal.returns-in-Attribute
unfolding expr_byte
returns-in-Attribute c = more-method _ _ _ _ c.requires (byte-is Attribute c.of.ensures c.in-Attribute.is)

pub returns-in_default : goal.returns-in_default
unfolding expr_byte
returns-in_default c = more-other _ _ _ _ c.requires (other-kind Variable c.of.ensures c.in_default.not-Variable) (other-kind Attribute c.of.ensures c.in_default.not-Attribute)
