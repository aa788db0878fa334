-- A kind is told by its byte.
use Prim.Native.Nat.{ℕ, ◌<◌, ◌≤◌}
use mathlib.Core.Path.{◌≡◌, refl, sym, ap, ◌∙◌}
use mathlib.Core.List.{List, [], ◌∷◌}
use mathlib.Core.Logic.{◌⊎◌, inl, inr}
use native.Mathlib.Omega.{arith}
use lib.ListN.{get_or}
use Rattle.numerals.specs.Kinds.{expr_byte}
use Rattle.numerals.specs.declared.kinds.ExprKind.{ExprKind}
use Rattle.numerals.specs.declared.kinds.ExprKind.TheVariants.{NoneLiteral, False, True, Int, Float, Text, Variable, Unary, Binary, Call, Attribute, List as list_kind, Dict, Tuple, Set, TreeSet, Index, Lambda}

-- the kinds by their bytes
kinds : List ExprKind
kinds = NoneLiteral ∷ False ∷ True ∷ Int ∷ Float ∷ Text ∷ Variable ∷ Unary ∷ Binary ∷ Call ∷ Attribute ∷ list_kind ∷ Dict ∷ Tuple ∷ Set ∷ TreeSet ∷ Index ∷ Lambda ∷ []

back : (k : ExprKind) → get_or kinds (expr_byte k) Lambda ≡ k
unfolding expr_byte kinds
back NoneLiteral = refl
back False = refl
back True = refl
back Int = refl
back Float = refl
back Text = refl
back Variable = refl
back Unary = refl
back Binary = refl
back Call = refl
back Attribute = refl
back list_kind = refl
back Dict = refl
back Tuple = refl
back Set = refl
back TreeSet = refl
back Index = refl
back Lambda = refl

-- of another kind than j: another byte
pub other-kind : (j : ExprKind) {k : ExprKind} {b : ℕ} → expr_byte k ≡ b → (k ≡ j → ⊥) → b ≡ expr_byte j → ⊥
other-kind j {k} e n h = n (sym (back k) ∙ ap (λ (i : ℕ). get_or kinds i Lambda) (e ∙ h) ∙ back j)

-- ---- kinds that are lowered alike

pub byte-is : (j : ExprKind) {k : ExprKind} {b : ℕ} → expr_byte k ≡ b → k ≡ j → b ≡ expr_byte j
byte-is j e h = sym e ∙ ap expr_byte h

-- None, False or True
abbrev pub Constant : ExprKind → Type 0
Constant k = (k ≡ NoneLiteral) ⊎ ((k ≡ False) ⊎ (k ≡ True))

pub constant-kinds : {k : ExprKind} {b : ℕ} → expr_byte k ≡ b → Constant k → b < 3
unfolding expr_byte
constant-kinds e (inl h) = omega (arith, byte-is NoneLiteral e h)
constant-kinds e (inr (inl h)) = omega (arith, byte-is False e h)
constant-kinds e (inr (inr h)) = omega (arith, byte-is True e h)

pub literal-kinds : {k : ExprKind} {b : ℕ} → expr_byte k ≡ b → (k ≡ NoneLiteral) ⊎ ((k ≡ False) ⊎ ((k ≡ True) ⊎ ((k ≡ Int) ⊎ ((k ≡ Float) ⊎ (k ≡ Text))))) → b < 6
unfolding expr_byte
literal-kinds e (inl h) = omega (arith, byte-is NoneLiteral e h)
literal-kinds e (inr (inl h)) = omega (arith, byte-is False e h)
literal-kinds e (inr (inr (inl h))) = omega (arith, byte-is True e h)
literal-kinds e (inr (inr (inr (inl h)))) = omega (arith, byte-is Int e h)
literal-kinds e (inr (inr (inr (inr (inl h))))) = omega (arith, byte-is Float e h)
literal-kinds e (inr (inr (inr (inr (inr h))))) = omega (arith, byte-is Text e h)

pub display-kinds : {k : ExprKind} {b : ℕ} → expr_byte k ≡ b → (k ≡ list_kind) ⊎ ((k ≡ Dict) ⊎ ((k ≡ Tuple) ⊎ ((k ≡ Set) ⊎ (k ≡ TreeSet)))) → (11 ≤ b) × (b ≤ 15)
unfolding expr_byte
display-kinds e (inl h) = (omega (arith, byte-is list_kind e h), omega (arith, byte-is list_kind e h))
display-kinds e (inr (inl h)) = (omega (arith, byte-is Dict e h), omega (arith, byte-is Dict e h))
display-kinds e (inr (inr (inl h))) = (omega (arith, byte-is Tuple e h), omega (arith, byte-is Tuple e h))
display-kinds e (inr (inr (inr (inl h)))) = (omega (arith, byte-is Set e h), omega (arith, byte-is Set e h))
display-kinds e (inr (inr (inr (inr h)))) = (omega (arith, byte-is TreeSet e h), omega (arith, byte-is TreeSet e h))
