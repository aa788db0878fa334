-- Where a part that is handed back begins. Assumes nothing: these are definitions.
use Rattle.std.specs.Prelude.{ℕ, ◌+◌, ◌-◌, ◌≤◌, ◌<◌, ◌≡◌, true, false, List, leb, length}

-- where a part from p on begins in bytes: an empty part past the end begins at their start
unfoldable pub begin_at : List ℕ → ℕ → ℕ
begin_at t p = elim (leb p (length t)) [ true ↦ p | false ↦ 0 ]

-- a reference that points n bytes after another: of pointers, each a block and an offset
pub record Points (r s : ℕ × ℕ) (n : ℕ) : Type 0 where
  pub block : r.0 ≡ s.0
  pub offset : r.1 ≡ s.1 + n

-- the part that spells the symbol of a word is one of the slice in which the symbol was first made
pub record Spells (r tree made : ℕ × ℕ) (t m : List ℕ) (w : ℕ) : Type 0 where
  pub first : w < 32768 → Points r tree (begin_at t (w + 1))
  pub later : 32768 ≤ w → Points r made (begin_at m (w - 32768 + 1))
