use borrow.Author.Rules.{rules}
use mathlib.Core.Path.{refl}
use Rattle.definitions.proofs.Columns.{length-right}
use Rattle.definitions.proofs.Listing.{five-digits}
use Rattle.columns.specs.Fields.{field_text}
use Rattle.sheet.proofs.RowLaws.{line-written}
use Rattle.sheet.proofs.lines.write_count.Goals as goal

pub put_field-requires : goal.put_field-requires
unfolding field_text
put_field-requires c = (five-digits _ c.requires.0, search rules)

pub returns : goal.returns
unfolding field_text
returns c = line-written _ refl (length-right 5 _ (five-digits _ c.requires.0)) c.args.row.few _ _ _ c.requires.1 c.put_field.ensures c.put_counts.ensures
