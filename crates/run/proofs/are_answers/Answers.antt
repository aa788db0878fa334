use mathlib.Core.Path.{◌∙◌}
use Prim.Native.Nat.{ℕ}
use lib.Dec.{leb}
use Rattle.std.proofs.Common.{rules, tests}
use Rattle.std.proofs.lemmas.Iterator.{YieldsList-from_slice}
use Rattle.std.proofs.lemmas.Iterator.Search.{all_from_yields_List}
use Rattle.run.proofs.Calling.{answers_listed}
use Rattle.run.proofs.are_answers.Goals as goal

pub returns : goal.returns
returns c =
    all_from_yields_List (λ (x : ℕ). leb x 1) _ _ _ c.all.ensures.ran (YieldsList-from_slice c.args.answers.now cc) (λ x b q k. search (rules, tests))
    ∙ answers_listed c.args.answers.now
