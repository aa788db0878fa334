use Prim.Native.Nat.{ℕ, ◌+◌, ◌-◌}
use mathlib.Core.Path.{◌≡◌}
use mathlib.Core.List.{List}
use Rattle.std.specs.Prelude.{Option}
use Rattle.std.specs.Borrow.{MutBor}
use Rattle.reader.specs.View.{steps_by}
use Rattle.reader.specs.Cursors.{CursorSteps}
use Rattle.reader.specs.declared.cursor.Cursor.{Cursor}
use Rattle.reader.proofs.cursor.Cursor.list.Given as goal

abbrev pub invariant-loop : goal.invariant-loop
invariant-loop g l =
    (step : List ℕ → ℕ → Option ℕ) → ((c : MutBor Cursor) (r : Option (Unit {0})) (d : MutBor Cursor) → goal.F-post g l.each c r d → CursorSteps step r c.now d.now)
    → (l.c.bytes.now ≡ l.fn.self.bytes.now)
    × (steps_by (step l.fn.self.bytes.now) l.count (l.fn.self.at + 2) ≡ steps_by (step l.fn.self.bytes.now) (l.count - l.counter) l.c.at)
