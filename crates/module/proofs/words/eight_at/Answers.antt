-- the number of eight bytes is their sum
use native.Mathlib.Omega.{arith}
use native.Mathlib.Nat.{add_assoc}
use Rattle.state.specs.Words.{big_endian_at}
use Rattle.module.proofs.words.eight_at.Goals as goal

pub returns : goal.returns
unfolding big_endian_at
returns c = simp add_assoc (omega (
  arith,
  c.from_be_bytes.ensures,
  c.byte.ensures,
  c.byte-2.ensures,
  c.byte-3.ensures,
  c.byte-4.ensures,
  c.byte-5.ensures,
  c.byte-6.ensures,
  c.byte-7.ensures,
  c.byte-8.ensures,
))
