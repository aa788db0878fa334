use mathlib.Core.Path.{ap, ◌∙◌}
use Rattle.definitions.specs.Bytes.{same}
use Rattle.names.proofs.Spelling.{spelled-tree, spelled-made}
use Rattle.names.proofs.find.is_spelled.Goals as goal

pub returns-then-w-lt-MADE_FROM : goal.returns-then-w-lt-MADE_FROM
returns-then-w-lt-MADE_FROM c = let a = c.args in c.same_bytes.ensures ∙ ap (same a.name.now) (c.name_part.ensures.result_value ∙ spelled-tree a.tree.now a.made.now a.w c.if-w-lt-MADE_FROM.true)

pub returns : goal.returns
returns c = let a = c.args in c.same_bytes-2.ensures ∙ ap (same a.name.now) (c.name_part-2.ensures.result_value ∙ spelled-made a.tree.now a.made.now a.w c.if-w-lt-MADE_FROM.false)
