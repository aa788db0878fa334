-- Where a method goes among those of its class.
use Rattle.std.specs.Prelude.{ℕ, ◌+◌, ◌/◌, ◌%◌, ◌^◌, ◌≤◌, ◌<◌, ◌≡◌, List, map, length, take, set, Result, Ok, Err}
use Rattle.std.specs.List.{insert}
use Rattle.definitions.specs.Bytes.{Name}
use Rattle.definitions.specs.Lower.{insert_method}
use Rattle.state.specs.Words.{name_at}
use Rattle.state.specs.State.{method_from}

-- the place of a method of the name x among those of the words: it replaces one, or goes before it
unfoldable pub Slotted : Result ℕ ℕ → List ℕ → Name → List ℕ → Type 0
Slotted (Ok i) tree x ws = (i < length ws) × ((f : ℕ) → insert_method x f (map (method_from tree) ws) ≡ set (map (method_from tree) ws) i (record { name = x; function = f }))
Slotted (Err i) tree x ws = (i ≤ length ws) × ((f : ℕ) → insert_method x f (map (method_from tree) ws) ≡ insert (map (method_from tree) ws) i (record { name = x; function = f }))

-- the methods of r words of a list are those of n words before, with that of the word w
pub record Inserted (r : ℕ) (tree list' list : List ℕ) (n w : ℕ) : Type 0 where
  pub few : r ≤ n + 1
  pub methods : map (method_from tree) (take r list') ≡ insert_method (name_at tree (w / 2 ^ 8)) (w % 2 ^ 8) (map (method_from tree) (take n list))
