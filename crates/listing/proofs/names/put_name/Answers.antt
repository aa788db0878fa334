use mathlib.Core.Path.{refl, ap, ◌∙◌}
use mathlib.Core.List.{List}
use Prim.Native.Nat.{ℕ}
use Rattle.definitions.specs.Bytes.{concat}
use Rattle.definitions.specs.Calls.{written}
use Rattle.definitions.specs.Instruction.{instruction_table}
use Rattle.definitions.specs.Columns.{spaces, left_in}
use Rattle.listing.proofs.NameTable.{name_row, names, name-at}
use Rattle.listing.proofs.names.put_name.Goals as goal

pub returns : goal.returns
unfolding names name_row concat instruction_table left_in spaces
returns c = c.write_bytes.ensures.out ∙ ap (λ (l : List ℕ). written l c.args.out.now) (name-at c.args.op _ c.requires.0 refl)
