use borrow.Author.Rules.{rules}
use native.Mathlib.Omega.{arith}
use Rattle.definitions.proofs.Listing.{six-digits}
use Rattle.columns.specs.Fields.{field_text}
use Rattle.sheet.proofs.RowLaws.{counts-written, counts_same}
use Rattle.sheet.proofs.lines.put_counts.Goals as goal

pub put_field-requires : goal.put_field-requires
unfolding field_text
put_field-requires c = let l = six-digits _ c.args.row.few.all in (omega arith, search rules)

pub put_field-requires-2 : goal.put_field-requires-2
unfolding field_text
put_field-requires-2 c = let l = six-digits _ c.args.row.few.questions in (omega arith, search rules)

pub put_field-requires-3 : goal.put_field-requires-3
unfolding field_text
put_field-requires-3 c = let l = six-digits _ c.args.row.few.calls in (omega arith, search rules)

pub put_field-requires-4 : goal.put_field-requires-4
unfolding field_text
put_field-requires-4 c = (omega arith, search rules)

pub shape_of-out : goal.shape_of-out
unfolding field_text
shape_of-out c = counts_same c.args.row.few _ _ _ _ _ c.requires c.put_field.ensures c.put_field-2.ensures c.put_field-3.ensures c.put_field-4.ensures

pub returns : goal.returns
unfolding field_text
returns c = counts-written c.args.row.few _ _ _ _ _ c.requires c.put_field.ensures c.put_field-2.ensures c.put_field-3.ensures c.put_field-4.ensures
