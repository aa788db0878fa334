use mathlib.Core.Path.{sym, ◌∙◌}
use native.Mathlib.Omega.{arith}
use Rattle.numerals.specs.Kinds.{expr_byte}
use Rattle.exprs.proofs.LiteralLaws.{literal-inside, eight-of-int, eight-of-float, text-kind, text-counted, is-constant, is-int, is-float, is-text}
use Rattle.exprs.proofs.literals.literal_at.Goals as goal

pub bounds-tree-at : goal.bounds-tree-at
bounds-tree-at c = literal-inside _ _ c.requires

pub eight_at-requires : goal.eight_at-requires
unfolding expr_byte
eight_at-requires c = eight-of-int _ _ c.requires (sym c.in-Int.ensures)

pub eight_at-requires-in-Float : goal.eight_at-requires-in-Float
unfolding expr_byte
eight_at-requires-in-Float c = eight-of-float _ _ c.requires (sym c.in-Float.ensures)

pub u16_at-requires : goal.u16_at-requires
u16_at-requires c = let d = c.in_default-kind in text-counted _ _ c.requires (text-kind _ _ c.requires _ c.of-kind.ensures c.in_default.ensures d.not-Int d.not-Float)

pub returns-in-Some : goal.returns-in-Some
returns-in-Some c = let k = c.in-Some.ensures in is-constant _ _ c.requires _ (k.1 ∙ c.of-kind.ensures) (omega (arith, k.0, c.of-kind.ensures))

pub returns-in-Int : goal.returns-in-Int
unfolding expr_byte
returns-in-Int c = is-int _ _ c.requires _ _ (sym c.in-Int.ensures) c.eight_at.ensures c.int_literal.ensures

pub returns-in-Float : goal.returns-in-Float
unfolding expr_byte
returns-in-Float c = is-float _ _ c.requires _ _ (sym c.in-Float.ensures) c.eight_at-in-Float.ensures c.float_literal.ensures

pub returns-in_default-kind : goal.returns-in_default-kind
returns-in_default-kind c = let d = c.in_default-kind in is-text _ _ c.requires (text-kind _ _ c.requires _ c.of-kind.ensures c.in_default.ensures d.not-Int d.not-Float) _ c.u16_at.ensures.0
