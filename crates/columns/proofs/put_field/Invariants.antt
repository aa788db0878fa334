use Prim.Native.Nat.{◌≤◌}
use lib.ListN.{length}
use Rattle.definitions.specs.Columns.{right_in}
use Rattle.columns.specs.Fields.{field_text}
use Rattle.columns.proofs.Right.{Ended}
use Rattle.columns.proofs.put_field.Given as goal

abbrev pub invariant-loop-i : goal.invariant-loop-i
invariant-loop-i l = (l.i ≤ l.w) × (length (field_text l.rest) ≤ l.i) × Ended (right_in l.w (field_text l.initial.rest)) l.initial.out l.out (right_in l.i (field_text l.rest))
