-- The cut on a small tree, by computing.
use mathlib.Core.Path.{◌≡◌, refl}
use mathlib.Core.List.{[]}
use Rattle.definitions.specs.Bytes.{Name, ascii}
use Rattle.definitions.specs.Tree.{var, call, []ᵉ, Stmt, expr, def, Block, []ᵇ, ◌∷ᵇ◌}
use Rattle.definitions.specs.Module.{Limits}
use Rattle.definitions.specs.Cut.{stretch_of, cut_block}
use Rattle.definitions.specs.Open.{everything}

abbrev f : Name
f = ascii "f"

-- room for nine instructions: `def f` and four `f()` are over, `def f` and three are not, three `f()` alone are
abbrev nine : Limits
nine = record { functions = 256; symbols = 1024; strings = 512; classes = 64; instructions = 9 }

abbrev fcall : Stmt
fcall = expr (call (var f) []ᵉ)

abbrev calls : Block
calls = def f [] []ᵇ ∷ᵇ (fcall ∷ᵇ (fcall ∷ᵇ (fcall ∷ᵇ (fcall ∷ᵇ []ᵇ))))

pub calls-cut : cut_block nine 15 calls ≡ stretch_of 1 3 calls
unfolding everything
calls-cut = refl
