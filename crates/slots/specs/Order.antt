-- Names in byte order, and where a name belongs among them.
use Rattle.std.specs.Prelude.{ℕ, ◌+◌, ◌<◌, ◌≡◌, true, false, List, [], ◌∷◌, length, get_or}
use Rattle.definitions.specs.Bytes.{Name, below}
use Rattle.state.specs.Words.{name_at}

-- none of the names comes before y
pub data NoneBelow (y : Name) : List Name → Type 0 where
  no_names : NoneBelow y []
  one_more : {z : Name} {zs : List Name} → below z y ≡ false → NoneBelow y zs → NoneBelow y (z ∷ zs)

pub data NamesInOrder : List Name → Type 0 where
  no_order : NamesInOrder []
  in_order : {y : Name} {ys : List Name} → NoneBelow y ys → NamesInOrder ys → NamesInOrder (y ∷ ys)

-- the name at x comes before none of the first r names after the first place, and before the next
pub record SpotInOrder (t : List ℕ) (x : ℕ) (ps : List ℕ) (r : ℕ) : Type 0 where
  pub inside : r < length ps
  pub before : (i : ℕ) → i < r → below (name_at t x) (name_at t (get_or ps (i + 1) 0)) ≡ false
  pub after : r + 1 < length ps → below (name_at t x) (name_at t (get_or ps (r + 1) 0)) ≡ true
