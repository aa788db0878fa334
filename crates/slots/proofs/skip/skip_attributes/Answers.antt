use native.Mathlib.Omega.{arith}
use Rattle.tree_view.proofs.StmtViews.{view-attributes}
use Rattle.slots.proofs.SkippingStmts.{values-name, values-value, values-done}
use Rattle.slots.proofs.skip.skip_attributes.Goals as goal

pub u16_at-count-requires : goal.u16_at-count-requires
u16_at-count-requires c = let h = (view-attributes _ _ _ c.requires).parts.count.bytes in omega arith

pub skip_each-requires : goal.skip_each-requires
skip_each-requires c = λ m q i w. (values-name _ _ _ _ c.requires c.u16_at-count.ensures.0 (λ q o s. s) m q i w, values-value _ _ _ _ c.requires c.u16_at-count.ensures.0 (λ q o s. s) m q i w)

pub returns : goal.returns
returns c = values-done _ _ _ _ c.requires c.u16_at-count.ensures.0 (λ q o s. s) _ c.skip_each.ensures
