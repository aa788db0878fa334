use Rattle.std.proofs.Common.{rules, tests}
use Rattle.std.proofs.lemmas.Iterator.{YieldsList-from_slice}
use Rattle.std.proofs.lemmas.Iterator.Search.{all_from_yields_List}
use Rattle.definitions.specs.Wellformed.{digit}
use Rattle.parts.proofs.IteratorLaws.{digits-none, digits-some}
use Rattle.parts.proofs.names.are_digits.Goals as goal

pub returns-then-not-is_empty : goal.returns-then-not-is_empty
unfolding digit
returns-then-not-is_empty c =
    digits-some _ _ (search rules) (all_from_yields_List {all = c.args.bytes.now} digit _ _ _ c.all.ensures.ran (YieldsList-from_slice _ cc) (λ x b q k. search (rules, tests)))

pub returns-else-not-is_empty : goal.returns-else-not-is_empty
returns-else-not-is_empty c = digits-none _ _ (search rules) (search rules)
