use mathlib.Core.Path.{sym}
use Rattle.definitions.specs.Bytes.{name, checked}
use Rattle.definitions.specs.Wellformed.{is_name}
use Rattle.std.specs.Borrow.{Bor}
use mathlib.Core.List.{List}
use Prim.Native.Nat.{ℕ}
use Rattle.reader.proofs.Cursoring.{none-read, tested-cut, tested-read, tested-fails}
use Rattle.reader.proofs.cursor.Cursor.proper.Goals as goal

pub returns-in_err-name : goal.returns-in_err-name
returns-in_err-name c = none-read (checked is_name name) (λ (x : Bor (List ℕ)). x.now) c.from_residual.result c.args.self.now _ c.from_residual.ensures (tested-cut is_name name c.args.self.now c.in_err-name.ensures)

pub returns-then-is_name : goal.returns-then-is_name
returns-then-is_name c = tested-read is_name name _ _ _ c.in_ok-name.ensures (sym c.if-is_name.ensures)

pub returns-else-is_name : goal.returns-else-is_name
returns-else-is_name c = tested-fails is_name name _ _ _ c.in_ok-name.ensures (sym c.if-is_name.ensures)
