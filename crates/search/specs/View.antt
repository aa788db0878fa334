-- A search's table in a work area: the queue from its start on, the marks from 65,536 on. Assumes nothing: these are definitions.
use Rattle.std.specs.Prelude.{ℕ, ◌+◌, ◌<◌, ◌≤◌, ◌≡◌, List, length, take, drop, get_or, set, replicate}
use Rattle.definitions.specs.Search.{Table, Marks, Tabled, meet, expand}
use Rattle.reader.specs.View.{instructions_of}
use Rattle.run.specs.Tables.{Coded, PlacesFilled}

-- of n places each
unfoldable pub marks_of : ℕ → List ℕ → List ℕ
marks_of n area = take n (drop 65536 area)

unfoldable pub table_in : ℕ → List ℕ → ℕ → Table
table_in n area tail = record { queue = take n area; marks = marks_of n area; tail = tail }

-- place 0 stands in the queue and has the mark `root`, no other place has a mark
unfoldable pub at_start : ℕ → ℕ → List ℕ → Table
at_start n root area = record { queue = set (take n area) 0 0; marks = set (replicate n 0) 0 root; tail = 1 }

-- the three marks
abbrev pub marks : ℕ → ℕ → ℕ → Marks
marks on no₀ yes₁ = record { on = on; no₀ = no₀; yes₁ = yes₁ }

-- a place may be met
pub record Meetable (area : List ℕ) (tail q : ℕ) : Type 0 where
  pub long : 131072 ≤ length area
  pub to : q < 65536
  pub room : get_or area (65536 + q) 0 ≡ 0 → tail < 65536

-- and is met, whatever number of places the table has
pub record Meets (r : ℕ) (area area' : List ℕ) (tail v q : ℕ) : Type 0 where
  pub in_table : (n : ℕ) → n < 65536 → q < n → (get_or area (65536 + q) 0 ≡ 0 → tail < n) → table_in n area' r ≡ meet v q (table_in n area tail)

-- a search of n places may begin
pub record Beginning (area : List ℕ) (n : ℕ) : Type 0 where
  pub long : 131072 ≤ length area
  pub few : n < 65536
  pub some : 0 < n

-- the places after p may be met: the code stands, and the mark of a no is not 0
pub record Expandable (code places area : List ℕ) (tail p : ℕ) (m : Marks) : Type 0 where
  pub coded : Coded code
  pub starts : PlacesFilled code places
  pub long : 131072 ≤ length area
  pub tabled : Tabled (length (instructions_of code)) (table_in (length (instructions_of code)) area tail)
  pub place : p < length (instructions_of code)
  pub some : m.no₀ ≡ 0 → ⊥

-- and are met
abbrev pub Expands : ℕ → List ℕ → ℕ → Marks → List ℕ → List ℕ → ℕ → Type 0
Expands r code p m area area' tail =
    let is = instructions_of code in
    table_in (length is) area' r ≡ expand is m p (table_in (length is) area tail)

-- a function's code may be searched
pub record Searchable (code places area : List ℕ) (n : ℕ) : Type 0 where
  pub coded : Coded code
  pub starts : PlacesFilled code places
  pub count : n ≡ length (instructions_of code)
  pub long : 131072 ≤ length area
