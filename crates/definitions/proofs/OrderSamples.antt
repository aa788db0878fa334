-- The order on small trees, by computing.
use mathlib.Core.Path.{◌≡◌, refl}
use mathlib.Core.List.{[], ◌∷◌}
use Rattle.definitions.specs.Bytes.{Name, ascii}
use Rattle.definitions.specs.Tree.{var, pass, expr, if, Block, []ᵇ, ◌∷ᵇ◌, done, else, when}
use Rattle.definitions.specs.TreeBytes.{tree_bytes}
use Rattle.definitions.specs.Order.{order, equal, greater}
use Rattle.definitions.specs.Open.{everything}

abbrev a : Name
a = ascii "a"

-- the empty tree
empty-bytes : tree_bytes []ᵇ ≡ 0 ∷ 0 ∷ 0 ∷ 3 ∷ 1 ∷ 0 ∷ 0 ∷ []
unfolding everything
empty-bytes = refl

-- `a`, alone and between two `pass`
abbrev one : Block
one = expr (var a) ∷ᵇ []ᵇ

abbrev padded : Block
padded = pass ∷ᵇ (expr (var a) ∷ᵇ (pass ∷ᵇ []ᵇ))

pub padded-equal : order padded one ≡ equal
unfolding everything
padded-equal = refl

-- `if a: pass` with an else block of `pass`, and without: an empty else block is not the same as none
abbrev chain : Block
chain = if (when (var a) (pass ∷ᵇ []ᵇ) (else (pass ∷ᵇ []ᵇ))) ∷ᵇ []ᵇ

abbrev short : Block
short = if (when (var a) []ᵇ done) ∷ᵇ []ᵇ

pub else-stays : order chain short ≡ greater
unfolding everything
else-stays = refl
