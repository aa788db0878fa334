use mathlib.Core.Path.{◌≡◌, refl, ap, ◌∙◌}
use native.Mathlib.Omega.{arith}
use Prim.Native.Nat.{ℕ, ◌+◌, ◌-◌}
use lib.ListN.{take, drop}
use Rattle.reader.proofs.Deciding.{part-code, part_none, begins-code, begins-none, inside-code}
use Rattle.reader.proofs.part_of.Goals as goal

pub overflow_add-result : goal.overflow_add-result
overflow_add-result c = let h = inside-code _ _ _ c.requires c.in-Ok.is in omega arith

pub slice_bounds-result-end : goal.slice_bounds-result-end
slice_bounds-result-end c = let h = inside-code _ _ _ c.requires c.in-Ok.is in omega arith

pub returns-in-Ok-clause-result_value : goal.returns-in-Ok-clause-result_value
returns-in-Ok-clause-result_value c = let p = c.in-Ok.part in ap (λ (n : ℕ). take n (drop p.start c.args.bytes.now)) (let z : p.start + p.size - p.start ≡ p.size = omega arith in z) ∙ part-code _ _ _ c.in-Ok.is

pub returns-in-Ok-clause-begins : goal.returns-in-Ok-clause-begins
returns-in-Ok-clause-begins c = (refl, let b = begins-code _ _ c.in-Ok.is in omega arith)

pub returns-in-Err-clause-result_value : goal.returns-in-Err-clause-result_value
returns-in-Err-clause-result_value c = part_none _ _ _ c.in-Err.is

pub returns-in-Err-clause-begins : goal.returns-in-Err-clause-begins
returns-in-Err-clause-begins c = (refl, let b = begins-none _ _ c.in-Err.is in omega arith)
