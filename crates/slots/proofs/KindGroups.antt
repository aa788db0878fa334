-- The bytes of kinds that go on alike. Assumes nothing.
use Prim.Native.Nat.{ℕ, ◌<◌}
use mathlib.Core.Path.{◌≡◌, sym, ap, ◌∙◌}
use mathlib.Core.Logic.{◌⊎◌, inl, inr}
use native.Mathlib.Omega.{arith}
use Rattle.numerals.specs.Kinds.{expr_byte, stmt_byte}
use Rattle.numerals.specs.declared.kinds.ExprKind.{ExprKind}
use Rattle.numerals.specs.declared.kinds.ExprKind.TheVariants.{NoneLiteral, False, True, Int, Float, Text, List as list_kind, Tuple, Set, TreeSet}
use Rattle.numerals.specs.declared.kinds.StmtKind.{StmtKind}
use Rattle.numerals.specs.declared.kinds.StmtKind.TheVariants.{Break, Continue, Pass, Expr, Return}

module _ {k : ExprKind} {b : ℕ} (e : expr_byte k ≡ b) where
  byte-of : (j : ExprKind) → k ≡ j → b ≡ expr_byte j
  byte-of j h = sym e ∙ ap expr_byte h

  pub constant-byte : (k ≡ NoneLiteral) ⊎ ((k ≡ False) ⊎ (k ≡ True)) → b < 3
  unfolding expr_byte
  constant-byte (inl h) = let z : b ≡ 0 = byte-of _ h in omega arith
  constant-byte (inr (inl h)) = let z : b ≡ 1 = byte-of _ h in omega arith
  constant-byte (inr (inr h)) = let z : b ≡ 2 = byte-of _ h in omega arith

  pub literal-byte : (k ≡ NoneLiteral) ⊎ ((k ≡ False) ⊎ ((k ≡ True) ⊎ ((k ≡ Int) ⊎ ((k ≡ Float) ⊎ (k ≡ Text))))) → b < 6
  unfolding expr_byte
  literal-byte (inl h) = let z : b ≡ 0 = byte-of _ h in omega arith
  literal-byte (inr (inl h)) = let z : b ≡ 1 = byte-of _ h in omega arith
  literal-byte (inr (inr (inl h))) = let z : b ≡ 2 = byte-of _ h in omega arith
  literal-byte (inr (inr (inr (inl h)))) = let z : b ≡ 3 = byte-of _ h in omega arith
  literal-byte (inr (inr (inr (inr (inl h))))) = let z : b ≡ 4 = byte-of _ h in omega arith
  literal-byte (inr (inr (inr (inr (inr h))))) = let z : b ≡ 5 = byte-of _ h in omega arith

  pub number-byte : (k ≡ Int) ⊎ (k ≡ Float) → (b ≡ 3) ⊎ (b ≡ 4)
  unfolding expr_byte
  number-byte (inl h) = inl (byte-of _ h)
  number-byte (inr h) = inr (byte-of _ h)

  pub display-byte : (k ≡ list_kind) ⊎ ((k ≡ Tuple) ⊎ ((k ≡ Set) ⊎ (k ≡ TreeSet))) → (b ≡ 11) ⊎ ((b ≡ 13) ⊎ ((b ≡ 14) ⊎ (b ≡ 15)))
  unfolding expr_byte
  display-byte (inl h) = inl (byte-of _ h)
  display-byte (inr (inl h)) = inr (inl (byte-of _ h))
  display-byte (inr (inr (inl h))) = inr (inr (inl (byte-of _ h)))
  display-byte (inr (inr (inr h))) = inr (inr (inr (byte-of _ h)))

module _ {k : StmtKind} {b : ℕ} (e : stmt_byte k ≡ b) where
  pub word-byte : (k ≡ Break) ⊎ ((k ≡ Continue) ⊎ (k ≡ Pass)) → b < 3
  unfolding stmt_byte
  word-byte (inl h) = let z : b ≡ 0 = sym e ∙ ap stmt_byte h in omega arith
  word-byte (inr (inl h)) = let z : b ≡ 1 = sym e ∙ ap stmt_byte h in omega arith
  word-byte (inr (inr h)) = let z : b ≡ 2 = sym e ∙ ap stmt_byte h in omega arith

  pub value-byte : (k ≡ Expr) ⊎ (k ≡ Return) → (b ≡ 3) ⊎ (b ≡ 4)
  unfolding stmt_byte
  value-byte (inl h) = inl (sym e ∙ ap stmt_byte h)
  value-byte (inr h) = inr (sym e ∙ ap stmt_byte h)
