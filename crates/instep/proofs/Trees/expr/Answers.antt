use Rattle.definitions.proofs.TreeExprs.{both-expr}
use Rattle.instep.proofs.Leaves.{expr-got, spans-asked, spans-told}
use Rattle.instep.proofs.Trees.expr.Goals as goal

pub span-requires : goal.span-requires
span-requires c =
    spans-asked (both-expr _) c.requires.0 (expr-got _ _ _ c.requires.1) (expr-got _ _ _ c.requires.2) c.skip_expr-first.ensures c.skip_expr-second.ensures

pub returns : goal.returns
returns c =
    spans-told (both-expr _) c.requires.0 (expr-got _ _ _ c.requires.1) (expr-got _ _ _ c.requires.2) c.skip_expr-first.ensures c.skip_expr-second.ensures c.span.ensures
