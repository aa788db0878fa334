-- A dash where there are no bytes; else each byte is written after those before it.
use Rattle.std.proofs.Common.{◌≡◌, length, arith, rules}
use Rattle.std.proofs.Output.{has_written_append, has_written_of_eq}
use Rattle.std.proofs.lemmas.Bool.Decides.{nat_tests}
use Rattle.report.proofs.Bytes.{none-dash, whole-text, one_more}
use Rattle.report.proofs.HexDisplay.fmt.Goals as goal

pub returns-then-is_empty-clause-writes : goal.returns-then-is_empty-clause-writes
returns-then-is_empty-clause-writes g c =
    let n : length c.args.self.now.0.now ≡ 0 = grind (arith, nat_tests) in
    λ p o. has_written_of_eq _ _ _ _ _ (none-dash c.args.self.now.0.now n) (search rules)

pub loop-byte-preserved : goal.loop-byte-preserved
loop-byte-preserved g c = λ p. has_written_of_eq _ _ _ _ _ (one_more c.args.self.now.0.now c.loop-byte.byte-index (omega arith) (omega arith))
    (has_written_append _ _ _ _ _ _ (c.loop-byte.invariant p) (search rules))

pub returns-clause-writes : goal.returns-clause-writes
returns-clause-writes g c =
    let n : length c.args.self.now.0.now ≡ 0 → ⊥ = λ z. grind (arith, nat_tests) in
    λ p o. has_written_of_eq _ _ _ _ _ (whole-text c.args.self.now.0.now c.loop-byte.byte-index n (omega arith)) (c.loop-byte.invariant p)
