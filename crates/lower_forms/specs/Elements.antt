-- Expressions one after the other: that they read, what they are, where they end.
use Rattle.std.specs.Prelude.{ℕ, zero, suc, List}
use Rattle.definitions.specs.Tree.{Exprs, []ᵉ, ◌∷ᵉ◌}
use Rattle.tree_view.specs.ExprAt.{expr_at, ExprReads}

unfoldable pub ElementsRead : ℕ → List ℕ → ℕ → ℕ → Type 0
ElementsRead d t zero p = Unit {0}
ElementsRead d t (suc n) p = ExprReads d t p × ElementsRead d t n (expr_at d t p).end

unfoldable pub elements_at : ℕ → List ℕ → ℕ → ℕ → Exprs
elements_at d t zero p = []ᵉ
elements_at d t (suc n) p = (expr_at d t p).value ∷ᵉ elements_at d t n (expr_at d t p).end

unfoldable pub elements_end : ℕ → List ℕ → ℕ → ℕ → ℕ
elements_end d t zero p = p
elements_end d t (suc n) p = elements_end d t n (expr_at d t p).end
