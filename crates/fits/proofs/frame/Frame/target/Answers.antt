use mathlib.Core.Logic.{⊎_elim}
use mathlib.Core.Path.{sym, ap, ◌∙◌}
use Rattle.numerals.specs.Kinds.{expr_byte}
use Rattle.tree_view.proofs.ExprViews.{expr-inside, expr-known}
use Rattle.fits.proofs.ExprKinds.{target-attribute, target-index, target-other, no-attribute, no-index}
use Rattle.fits.proofs.frame.Frame.target.Goals as goal

pub bounds-self-at : goal.bounds-self-at
bounds-self-at c = expr-inside _ _ _ c.requires

pub of-requires : goal.of-requires
of-requires c = expr-known _ _ _ c.requires

pub returns-in-Attribute : goal.returns-in-Attribute
unfolding expr_byte
returns-in-Attribute c = ⊎_elim
    (λ e. target-attribute _ _ _ c.requires _ _ (sym c.of.ensures ∙ ap expr_byte e) c.expr.ensures)
    (λ e. target-index _ _ _ c.requires _ _ (sym c.of.ensures ∙ ap expr_byte e) c.expr.ensures)
    c.in-Attribute.is

pub returns-in_default : goal.returns-in_default
returns-in_default c = let d = c.in_default in target-other _ _ _ c.requires _ _ (no-attribute _ _ c.of.ensures d.not-Attribute) (no-index _ _ c.of.ensures d.not-Index) c.skip_expr.ensures
