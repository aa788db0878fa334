use mathlib.Core.Path.{refl}
use Rattle.definitions.proofs.Sheet.{total-word}
use Rattle.sheet.proofs.RowLaws.{line-written}
use Rattle.sheet.proofs.lines.write_total.Goals as goal

pub returns : goal.returns
returns c = line-written _ total-word refl c.args.row.few _ _ _ c.requires c.write_bytes.ensures.out c.put_counts.ensures
