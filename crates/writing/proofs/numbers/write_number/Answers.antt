-- no byte, one, two, more
use Rattle.writing.proofs.Begun.{wrote_none, wrote_one, wrote-two}
use Prim.Native.Nat.{ℕ}
use mathlib.Core.List.{List}
use mathlib.Core.Path.{subst}
use Rattle.writing.specs.Wrote.{Wrote}
use Rattle.writing.proofs.HighFirst.{last-bytes}
use Rattle.writing.proofs.numbers.write_number.Goals as goal

pub returns-in-0 : goal.returns-in-0
returns-in-0 c = let a = c.args in wrote_none a.w a.v a.out.now c.in-0.is

pub returns-in-1 : goal.returns-in-1
returns-in-1 c = let a = c.args in wrote_one a.w a.v a.out.now c.in-1.is c.requires.0

pub returns-in-2 : goal.returns-in-2
returns-in-2 c = let a = c.args in wrote-two a.w a.v a.out.now c.in-2.is c.requires.0

pub returns-in_default : goal.returns-in_default
returns-in_default c =
    let a = c.args in
    subst (λ (bs : List ℕ). Wrote c.write_bytes.result bs a.out.now c.write_bytes.new.out) (last-bytes a.w a.v _ c.requires.1 c.to_be_bytes-bytes.ensures) c.write_bytes.ensures
