use mathlib.Core.Path.{◌∙◌, ap}
use mir.Syntax.{w64}
use mir.ValLaws.{of_z-to_z}
use Rattle.std.proofs.Common.{ℕ, ◌≡◌, of_z, to_z}
use Rattle.definitions.specs.Tree.{int_l}
use Rattle.exprs.specs.Literals.{literal_of, PlainLiteral}
use Rattle.exprs.proofs.literals.int_literal.Goals as goal

pub returns : goal.returns
unfolding literal_of PlainLiteral
returns c = λ t.
    let back : of_z w64 (to_z w64 c.args.bits) ≡ c.args.bits = of_z-to_z w64 _ c.ranges.bits in
    record { is = ap (λ (n : ℕ). int_l (of_z w64 (to_z w64 n))) (ap (of_z w64) c.cast_signed.ensures ∙ back) ∙ ap int_l back; plain = tt }
