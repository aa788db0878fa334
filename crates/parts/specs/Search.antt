-- A search tree over names, in a table of numbers: the names below the one at p hang in the slots p and p + 1, by the turn that they take at its
-- depth. An entry is a name's position, 0 for none. Names of one byte or more share no slot; where two share one, a search is longer, no less right.
use Rattle.std.specs.Prelude.{ℕ, zero, suc, ◌+◌, ◌/◌, ◌%◌, ◌^◌, ◌<◌, ◌≡◌, true, false, List, [], ◌∷◌, ◌++◌, eqb, length, get_or}
use Rattle.definitions.specs.Bytes.{Name, member}
use Rattle.tree_view.specs.Places.{name_from, There}
use Rattle.parts.specs.declared.distinct.Put.{Put}
use Rattle.parts.specs.declared.distinct.Put.TheVariants.{Twice, New, Lost}

-- the turn of a name at depth k: its bit k, 0 past its end
unfoldable pub turn_of : Name → ℕ → ℕ
turn_of x k = get_or x (k / 8) 0 / 2 ^ (k % 8) % 2

-- the position met by the name x at depth k, from the root on; 0 below an empty slot
unfoldable pub position_below : List ℕ → Name → ℕ → ℕ → ℕ
position_below T x k p = elim (eqb p 0) [ true ↦ 0 | false ↦ get_or T (p + turn_of x k) 0 ]

unfoldable pub reach : List ℕ → ℕ → Name → ℕ → ℕ
reach T root x zero = root
reach T root x (suc k) = position_below T x k (reach T root x k)

-- p is the position of one of the names seen
pub record Entry (t : List ℕ) (seen : List Name) (p : ℕ) : Type 0 where
  pub some : 0 < p
  pub low : p < 32768
  pub there : There t p
  pub known : member (name_from t p) seen ≡ true

-- x is met
pub record NameMet (t T : List ℕ) (root : ℕ) (x : Name) : Type 0 where
  pub depth : ℕ
  pub some : 0 < reach T root x depth
  pub is : name_from t (reach T root x depth) ≡ x

-- the table has the names seen, and no others
pub record Searches (t T : List ℕ) (root : ℕ) (seen : List Name) : Type 0 where
  pub size : length T ≡ 32769
  pub first : Entry t seen root
  pub entries : (s : ℕ) → 0 < get_or T s 0 → Entry t seen (get_or T s 0)
  pub met : (x : Name) → member x seen ≡ true → NameMet t T root x

-- what putting the name x into the table gives: it was there; or it was not, and is there now; or the search was given up
unfoldable pub PutsName : Put → List ℕ → List ℕ → ℕ → List Name → Name → Type 0
PutsName Twice t T root seen x = member x seen ≡ true
PutsName New t T root seen x = (member x seen ≡ false) × Searches t T root (seen ++ x ∷ [])
PutsName Lost t T root seen x = Unit {0}
