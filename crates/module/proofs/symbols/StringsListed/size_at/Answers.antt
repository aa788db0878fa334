-- the string and its count
use mathlib.Core.Path.{◌∙◌, sym, ap}
use lib.ListN.{length}
use Rattle.module.proofs.Lengths.{worded, length-counted}
use Rattle.module.proofs.symbols.StringsListed.size_at.Goals as goal

pub returns : goal.returns
returns c = sym (ap length (worded _ _ _ c.text_part.ensures.result_value c.requires) ∙ length-counted 2 _)
