use Prim.Native.Nat.{ℕ}
use native.Mathlib.Omega.{arith}
use mathlib.Core.Path.{◌≡◌, sym, ap, ◌∙◌}
use Rattle.state.specs.Index.{seek_from}
use Rattle.state.proofs.Index.{start-over, start-kept, start_none}
use Rattle.names.proofs.index.start.Goals as goal

pub returns-in-Some : goal.returns-in-Some
returns-in-Some c = let k = start-kept c.args.k c.args.n (omega arith) (omega arith) in (omega arith, omega arith)

pub returns-in_default : goal.returns-in_default
returns-in_default c = (sym (start-over c.args.k c.args.n (omega arith)), omega arith)

pub returns-in_default-2 : goal.returns-in_default-2
returns-in_default-2 c = let h = c.in_default.ensures in let e : c.args.k ≡ 0 = omega arith in (sym (ap (λ (k : ℕ). seek_from k c.args.n) e ∙ start_none c.args.n), omega arith)
