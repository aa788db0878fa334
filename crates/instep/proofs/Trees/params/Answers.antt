use Rattle.definitions.proofs.TreeReads.{both-params}
use Rattle.instep.proofs.Leaves.{params-got, spans-asked, spans-told}
use Rattle.instep.proofs.Trees.params.Goals as goal

pub span-requires : goal.span-requires
span-requires c = spans-asked both-params c.requires.0 (params-got c.requires.1) (params-got c.requires.2) c.skip_params-first.ensures c.skip_params-second.ensures

pub returns : goal.returns
returns c = spans-told both-params c.requires.0 (params-got c.requires.1) (params-got c.requires.2) c.skip_params-first.ensures c.skip_params-second.ensures c.span.ensures
