-- Lists of functions.
use mathlib.Core.Path.{◌≡◌, refl}
use mathlib.Core.List.{List, [], ◌∷◌, ◌++◌}
use lib.ListN.{length}
use Rattle.definitions.specs.Instruction.{Instr}
use Rattle.definitions.specs.Tables.{Function, coded, set_code}

-- the code of the function after fs is set
pub set_code-seam : (fs gs : List Function) (f : Function) (is : List Instr)
    → set_code (fs ++ (f ∷ gs)) (length fs) is ≡ fs ++ (coded f.symbol f.arity f.locals is ∷ gs)
unfolding set_code
set_code-seam [] gs f is = refl
set_code-seam (g ∷ fs) gs f is = rw (set_code-seam fs gs f is)
