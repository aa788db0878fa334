use mathlib.Core.Path.{sym, ◌∙◌}
use Rattle.std.proofs.Common.{rules, tests}
use Rattle.std.proofs.lemmas.Iterator.{YieldsList-from_slice}
use Rattle.std.proofs.lemmas.Iterator.Search.{all_from_yields_List}
use Rattle.byte_tests.proofs.Names.{inner, name_by_rest, name_empty, name_long, name_bad_first}
use Rattle.byte_tests.proofs.is_name.Goals as goal

pub returns-in-len1-up : goal.returns-in-len1-up
returns-in-len1-up c =
    name_by_rest c.args.bytes.now _ c.in-len1-up.len_at_least c.if-inner-lt-MOST_BYTES.true (sym c.is_letter.ensures ∙ c.if-is_letter.true)
    (all_from_yields_List inner _ _ _ c.all.ensures.ran (YieldsList-from_slice _ cc) (λ x b q k. search (rules, tests)))

pub returns-in_default : goal.returns-in_default
returns-in_default c = name_empty _ c.in_default.len_below

pub returns-in_default-2 : goal.returns-in_default-2
returns-in_default-2 c = name_long _ c.in-len1-up.len_at_least c.if-inner-lt-MOST_BYTES.false

pub returns-in_default-3 : goal.returns-in_default-3
returns-in_default-3 c = name_bad_first _ c.in-len1-up.len_at_least (sym c.is_letter.ensures ∙ c.if-is_letter.false)
