use Rattle.parts.proofs.IteratorLaws.{iterator-begins, iterator-ends, iterator-digits}
use Rattle.parts.proofs.names.is_iterator.Goals as goal

pub returns-in_default : goal.returns-in_default
returns-in_default c = iterator-begins _ c.in_default.ensures.cases

pub returns-in_default-strip_suffix : goal.returns-in_default-strip_suffix
returns-in_default-strip_suffix c = iterator-ends _ _ c.in-Some.ensures.cases.1 c.in_default-strip_suffix.ensures.cases

pub returns : goal.returns
returns c = let h = c.in-Some.ensures.cases in let g = c.in-Some-strip_suffix.ensures.cases in iterator-digits _ _ _ _ h.0 h.1 g.0 g.1 g.2 c.are_digits.ensures
