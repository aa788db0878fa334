use Rattle.definitions.specs.Bytes.{text}
use Rattle.std.specs.Borrow.{Bor}
use mathlib.Core.List.{List}
use Prim.Native.Nat.{ℕ}
use Rattle.reader.proofs.Cursoring.{none-read, match-map, text-short, text-cut, text-read}
use Rattle.reader.proofs.cursor.Cursor.text.Goals as goal

pub returns-in_err-n : goal.returns-in_err-n
unfolding text
returns-in_err-n c = none-read text (λ (x : Bor (List ℕ)). x.now) c.from_residual.result c.args.self.now _ c.from_residual.ensures (text-short 2 c.args.self.now c.in_err-n.ensures)

pub returns : goal.returns
unfolding text
returns c = let k = c.in_ok-n.ensures in match-map c.take.result (text-cut 2 _ _ c.in_ok-n.n k.0 k.1) (λ x h. text-read 2 _ _ c.in_ok-n.n k.0 k.1 x.now _ h.0 h.1) c.take.ensures
