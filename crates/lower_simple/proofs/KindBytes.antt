-- The bytes of kinds of statements.
use Prim.Native.Nat.{ℕ, ◌<◌}
use mathlib.Core.Path.{◌≡◌, refl, sym, ap, ◌∙◌}
use mathlib.Core.Logic.{◌⊎◌, inl, inr}
use native.Mathlib.Omega.{arith}
use Rattle.numerals.specs.Kinds.{stmt_byte}
use Rattle.numerals.specs.declared.kinds.StmtKind.{StmtKind}
use Rattle.numerals.specs.declared.kinds.StmtKind.TheVariants.{Break, Continue, Pass, Expr, Return, Assign, If, While, For, Def, Class}

pub byte-is : (j : StmtKind) {k : StmtKind} {b : ℕ} → stmt_byte k ≡ b → k ≡ j → b ≡ stmt_byte j
byte-is j e h = sym e ∙ ap stmt_byte h

-- of the kinds that hold no block, the last
pub assign-left : (k : StmtKind) {b : ℕ} → stmt_byte k ≡ b → b < 6 → (k ≡ Break → ⊥) → (k ≡ Continue → ⊥) → (k ≡ Pass → ⊥) → (k ≡ Expr → ⊥) → (k ≡ Return → ⊥) → b ≡ 5
unfolding stmt_byte
assign-left Break e h a b c d f = absurd (a refl)
assign-left Continue e h a b c d f = absurd (b refl)
assign-left Pass e h a b c d f = absurd (c refl)
assign-left Expr e h a b c d f = absurd (d refl)
assign-left Return e h a b c d f = absurd (f refl)
assign-left Assign e h a b c d f = sym e
assign-left If e h a b c d f = absurd (omega arith)
assign-left While e h a b c d f = absurd (omega arith)
assign-left For e h a b c d f = absurd (omega arith)
assign-left Def e h a b c d f = absurd (omega arith)
assign-left Class e h a b c d f = absurd (omega arith)

-- the kinds that hold no block
pub simple-kinds : {k : StmtKind} {b : ℕ} → stmt_byte k ≡ b → (k ≡ Break) ⊎ ((k ≡ Continue) ⊎ ((k ≡ Pass) ⊎ ((k ≡ Expr) ⊎ ((k ≡ Return) ⊎ (k ≡ Assign))))) → b < 6
unfolding stmt_byte
simple-kinds e (inl h) = omega (arith, byte-is Break e h)
simple-kinds e (inr (inl h)) = omega (arith, byte-is Continue e h)
simple-kinds e (inr (inr (inl h))) = omega (arith, byte-is Pass e h)
simple-kinds e (inr (inr (inr (inl h)))) = omega (arith, byte-is Expr e h)
simple-kinds e (inr (inr (inr (inr (inl h))))) = omega (arith, byte-is Return e h)
simple-kinds e (inr (inr (inr (inr (inr h))))) = omega (arith, byte-is Assign e h)
