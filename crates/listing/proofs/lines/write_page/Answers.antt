use borrow.Author.Rules.{rules}
use native.Mathlib.Omega.{arith}
use Rattle.definitions.proofs.Listing.{six-digits}
use Rattle.columns.specs.Fields.{field_text}
use Rattle.listing.proofs.LineLaws.{page-written, page-same}
use Rattle.listing.proofs.lines.write_page.Goals as goal

pub put_field-requires : goal.put_field-requires
unfolding field_text
put_field-requires c = (six-digits _ c.requires.0, search rules)

pub put_field-requires-2 : goal.put_field-requires-2
unfolding field_text
put_field-requires-2 c = (omega arith, search rules)

pub shape_of-out : goal.shape_of-out
unfolding field_text
shape_of-out c = page-same c.requires.0 _ _ _ _ c.requires.1 c.write_bytes.ensures.out c.put_field.ensures c.put_field-2.ensures

pub returns : goal.returns
unfolding field_text
returns c = page-written c.requires.0 _ _ _ _ c.requires.1 c.write_bytes.ensures.out c.put_field.ensures c.put_field-2.ensures
