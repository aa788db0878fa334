-- Names in slots: what the places in a slice stand for, and what a step leaves in them.
use Rattle.std.specs.Prelude.{ℕ, ◌+◌, ◌-◌, ◌≤◌, ◌<◌, ◌≡◌, List, ◌++◌, length, take, drop, Option, Some, None}
use Rattle.definitions.specs.Bytes.{Name}
use Rattle.definitions.specs.Slots.{Frame}
use Rattle.state.specs.Words.{name_at}
use Rattle.state.specs.Index.{bucket_of, Covered}
use Rattle.state.specs.State.{names_at, slots_from}
use Rattle.slots.specs.declared.collect.Framed.{Framed}

-- the names at the first n of some places
unfoldable pub leading : List ℕ → ℕ → List ℕ → List Name
leading t n ps = names_at t (take n ps)

-- the names of the first n slots
unfoldable pub first_names : List ℕ → ℕ → List ℕ → List Name
first_names t n ps = names_at t (take n (drop slots_from ps))

-- these are indexed
pub record Indexed (t : List ℕ) (n : ℕ) (ps : List ℕ) : Type 0 where
  pub at : Covered slots_from ps 0 (first_names t n ps)

-- b is the bucket of the name at p
pub record IsBucket (b : ℕ) (t : List ℕ) (p : ℕ) : Type 0 where
  pub is : b ≡ bucket_of slots_from (name_at t p)
  pub below : b < slots_from

-- r slots, at most one more than n, have the wanted names
pub record Added (r : ℕ) (t ps : List ℕ) (n : ℕ) (want : List Name) : Type 0 where
  pub names : first_names t r ps ≡ want
  pub most : r ≤ n + 1
  pub indexed : Indexed t r ps

-- the first k slots have more after them
pub record Appended (t : List ℕ) (k : ℕ) (more ps ps' : List ℕ) : Type 0 where
  pub names : first_names t (k + length more) ps' ≡ first_names t k ps ++ names_at t more
  pub indexed : Indexed t (k + length more) ps'

-- the slots have the wanted names; or these are more than 255 (parameters, and the slots of a lambda)
unfoldable pub Collected : Option ℕ → List ℕ → List ℕ → List Name → Type 0
Collected (Some n) t ps want = (n ≤ 255) × (first_names t n ps ≡ want) × Indexed t n ps
Collected None t ps want = 255 < length want

-- ---- loops

-- a count up to 256, which is too many
abbrev pub up_to256 : ℕ → ℕ
up_to256 n = n - (n - 256)

-- of the m slots of a frame the first n have its names
pub record Framing (n m : ℕ) (t ps : List ℕ) (f : Frame) : Type 0 where
  pub named : n ≤ m
  pub few : m ≤ 255
  pub names : first_names t n ps ≡ f.names
  pub locals : m ≡ f.locals
  pub indexed : Indexed t n ps

-- so it is; or there are more than 255
pub record Frames (r : Option Framed) (t ps : List ℕ) (f : Frame) : Type 0 where
  pub framing : (g : Framed) → r ≡ Some g → Framing g.named g.locals t ps f
  pub over : r ≡ None → 255 < f.locals
