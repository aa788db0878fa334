use borrow.Author.Rules.{rules}
use Rattle.slots.proofs.Skipping.{names-head, names-done}
use Rattle.slots.proofs.skip.skip_params.Goals as goal

pub skip_each-requires : goal.skip_each-requires
skip_each-requires c = λ m q i w. let h = names-head _ _ _ c.requires c.u16_at-count.ensures.0 (λ q o s. search rules) m q i w in search rules

pub returns : goal.returns
returns c = names-done _ _ _ c.requires c.u16_at-count.ensures.0 (λ q o s. search rules) _ c.skip_each.ensures
