use borrow.Author.Rules.{rules}
use mathlib.Core.Path.{refl}
use Rattle.listing.proofs.Fields.{long-plus, long-minus}
use Rattle.listing.proofs.lines.signed_long.Goals as goal

pub returns-then-a-lt9223372036854775808 : goal.returns-then-a-lt9223372036854775808
returns-then-a-lt9223372036854775808 c = long-plus _ c.if-a-lt9223372036854775808.true

pub returns : goal.returns
returns c = long-minus _ _ c.if-a-lt9223372036854775808.false refl (search rules)
