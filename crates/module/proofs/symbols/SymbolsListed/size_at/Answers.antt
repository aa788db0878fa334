-- the name and its count
use mathlib.Core.Path.{◌∙◌, sym, ap}
use lib.ListN.{length}
use Rattle.module.proofs.Lengths.{named, length-counted}
use Rattle.module.proofs.symbols.SymbolsListed.size_at.Goals as goal

pub returns : goal.returns
returns c = sym (ap length (named _ _ _ c.spelling.ensures.result_value c.requires) ∙ length-counted 1 _)
