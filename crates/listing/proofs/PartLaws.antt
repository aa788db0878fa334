-- An instruction that the iteration over a function's code gave: its operands fit. Assumes nothing.
use mathlib.Core.Path.{◌≡◌}
use mathlib.Core.List.{List}
use Prim.Native.Nat.{ℕ, ◌≤◌}
use lib.ListN.{length}
use Rattle.std.specs.Prelude.{Some}
use Rattle.reader.specs.View.{Walks}
use Rattle.reader.specs.declared.Placed.{Placed}
use Rattle.reader.specs.declared.iteration.Instructions.{Instructions}
use Rattle.reader.proofs.Encoding.{Small}
use Rattle.reader.proofs.FunctionLaws.{op-small}
use Rattle.reader.proofs.InstructionLaws.{found-is}
use Rattle.reader.proofs.Iterated.{walked-found}
use Rattle.listing.specs.Lines.{Operands}
use Rattle.listing.proofs.Entries.{operands-read}

pub walked-operands : (t : List ℕ) → Small t → (s u : Instructions) (p : Placed) → s.code.now ≡ t → s.at ≤ length t → Walks s (Some p) u → Operands p
walked-operands t small s u p k h w =
    let f = walked-found t s u p k w in let i = p.instruction in
    operands-read t small s.at p i.next h (found-is t s.at i.op i.a i.b i.next h f) (op-small t s.at i.op i.a i.b i.next h f)
