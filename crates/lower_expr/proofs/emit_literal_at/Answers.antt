use mathlib.Core.Path.{refl}
use Rattle.lower_forms.proofs.ExprArms.{lit-code}
use Rattle.lower_emit.proofs.Parts.{emits-by}
use Rattle.lower_expr.proofs.emit_literal_at.Goals as goal

pub emit_literal-requires : goal.emit_literal-requires
emit_literal-requires c = (
  record { size = c.requires.0.sound.sound.strings; string-index = c.requires.0.sound.sound.string-index },
  c.requires.0.tree-short,
  c.requires.1,
  c.literal_at-x.ensures.0,
  c.literal_at-x.ensures.1,
  c.literal_at-x.ensures.2,
)

pub returns : goal.returns
returns c =
    let q = c.emit_literal.ensures in
    λ names. emits-by (record { place = q.place; lowers = q.quotes.lowers c.args.e.now.tables c.requires.0.sound }) (lit-code names _ _ c.literal_at-x.ensures.0) refl
