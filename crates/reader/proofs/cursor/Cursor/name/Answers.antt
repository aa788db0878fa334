use Rattle.definitions.specs.Bytes.{name}
use Rattle.std.specs.Borrow.{Bor}
use mathlib.Core.List.{List}
use Prim.Native.Nat.{ℕ}
use Rattle.reader.proofs.Cursoring.{none-read, match-map, text-short, text-cut, text-read}
use Rattle.reader.proofs.cursor.Cursor.name.Goals as goal

pub returns-in_err-n : goal.returns-in_err-n
unfolding name
returns-in_err-n c = none-read name (λ (x : Bor (List ℕ)). x.now) c.from_residual.result c.args.self.now _ c.from_residual.ensures (text-short 1 c.args.self.now c.in_err-n.ensures)

pub returns : goal.returns
unfolding name
returns c = let k = c.in_ok-n.ensures in match-map c.take.result (text-cut 1 _ _ c.in_ok-n.n k.0 k.1) (λ x h. text-read 1 _ _ c.in_ok-n.n k.0 k.1 x.now _ h.0 h.1) c.take.ensures
