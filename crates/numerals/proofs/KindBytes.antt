-- Kinds of statements by their bytes.
use Prim.Native.Nat.{ℕ, ◌<◌}
use mathlib.Core.Path.{◌≡◌, ap}
use mathlib.Core.Logic.{◌⊎◌, ⊎_elim}
use native.Mathlib.Omega.{arith}
use Rattle.numerals.specs.Kinds.{stmt_byte}
use Rattle.numerals.specs.declared.kinds.StmtKind.{StmtKind}
use Rattle.numerals.specs.declared.kinds.StmtKind.TheVariants.{Break, Continue, Pass}

-- of the eleven kinds, those that hold nothing
pub plain-kind : (k : StmtKind) (b : ℕ) → stmt_byte k ≡ b → (k ≡ Break) ⊎ ((k ≡ Continue) ⊎ (k ≡ Pass)) → b < 3
unfolding stmt_byte
plain-kind k b e h = ⊎_elim (λ z. omega (arith, ap stmt_byte z)) (λ h. ⊎_elim (λ z. omega (arith, ap stmt_byte z)) (λ z. omega (arith, ap stmt_byte z)) h) h
