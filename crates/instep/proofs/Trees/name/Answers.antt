use Rattle.definitions.proofs.TreeReads.{both-name}
use Rattle.instep.proofs.Leaves.{name-got, spans-asked, spans-told}
use Rattle.instep.proofs.Trees.name.Goals as goal

pub span-requires : goal.span-requires
span-requires c = spans-asked both-name c.requires.0 (name-got c.requires.1) (name-got c.requires.2) c.name_end-first.ensures c.name_end-second.ensures

pub returns : goal.returns
returns c = spans-told both-name c.requires.0 (name-got c.requires.1) (name-got c.requires.2) c.name_end-first.ensures c.name_end-second.ensures c.span.ensures
