use Rattle.listing.proofs.Fields.{short-plus, short-minus}
use Rattle.listing.proofs.lines.signed_short.Goals as goal

pub returns-then-a-lt2147483648 : goal.returns-then-a-lt2147483648
returns-then-a-lt2147483648 c = short-plus _ c.if-a-lt2147483648.true

pub returns : goal.returns
returns c = short-minus _ c.if-a-lt2147483648.false
