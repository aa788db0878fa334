-- Question 14 by a walk over the tree's bytes: what it answers.
use Rattle.std.specs.Prelude.{ℕ, ◌≡◌, Bool, true, false, ◌&&◌, List, length, leb, Option, Some, None}
use Rattle.definitions.specs.Bytes.{Name}
use Rattle.definitions.specs.Tree.{Expr, Block}
use Rattle.definitions.specs.Slots.{Frame}
use Rattle.definitions.specs.Fits.{fits_expr, fits_block}

-- the next position where the question is answered yes; else that it is not
unfoldable pub WalkAnswers : Option ℕ → ℕ → Bool → Type 0
WalkAnswers (Some e) end ok = (e ≡ end) × (ok ≡ true)
WalkAnswers None end ok = ok ≡ false

-- a lambda and its body, a def and its block, by the slots of the function
unfoldable pub lambda_fits : List Name → Expr → Bool
lambda_fits inner b = leb (length inner) 255 && fits_expr inner b

unfoldable pub def_fits : Frame → Block → Bool
def_fits inner b = leb inner.locals 255 && fits_block inner.names b
