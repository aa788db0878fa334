use mathlib.Core.Path.{◌∙◌}
use Rattle.names.proofs.Spelling.{spelled-tree, spelled-made, spells-tree, spells-made}
use Rattle.names.proofs.spell.spelling.Goals as goal

pub returns-then-w-lt-MADE_FROM : goal.returns-then-w-lt-MADE_FROM
returns-then-w-lt-MADE_FROM c =
    let a = c.args in
    record {
      result_value = c.name_part.ensures.result_value ∙ spelled-tree a.tree.now a.made.now a.w c.if-w-lt-MADE_FROM.true;
      begins = spells-tree _ _ _ _ _ _ c.if-w-lt-MADE_FROM.true c.name_part.ensures.begins;
    }

pub returns : goal.returns
returns c =
    let a = c.args in
    record {
      result_value = c.name_part-2.ensures.result_value ∙ spelled-made a.tree.now a.made.now a.w c.if-w-lt-MADE_FROM.false;
      begins = spells-made _ _ _ _ _ _ c.if-w-lt-MADE_FROM.false c.name_part-2.ensures.begins;
    }
