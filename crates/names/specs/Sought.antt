-- A name sought by the word in its bucket; and a place that code hands back.
use Rattle.std.specs.Prelude.{ℕ, ◌+◌, List, length, drop, Option, Some, None}
use Rattle.std.proofs.Math.Option as definitions
use Rattle.definitions.specs.Bytes.{Name, same, position}
use Rattle.state.specs.Index.{seek_from}

-- a place that code hands back, an `Option` of Rattle, as one of the definitions
abbrev pub place_in : Option ℕ → definitions.Option ℕ
place_in (Some k) = definitions.some k
place_in None = definitions.none

-- a place among the elements from i on, as a place among all
unfoldable pub shifted : ℕ → definitions.Option ℕ → definitions.Option ℕ
shifted i definitions.none = definitions.none
shifted i (definitions.some k) = definitions.some (i + k)

-- its place among the names; those before the start are passed over
unfoldable pub sought_from : ℕ → Name → List Name → definitions.Option ℕ
sought_from k x xs =
    let s = seek_from k (length xs) in
    shifted s (position (same x) (drop s xs))
