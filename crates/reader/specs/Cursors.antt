-- How a read of the module's bytes shows in a cursor. Assumes nothing: these are definitions.
use Rattle.std.specs.Prelude.{ℕ, ◌+◌, ◌≤◌, ◌<◌, ◌≡◌, List, length, Option, Some, None, MatchOption}
use Rattle.definitions.specs.Bytes.{Parser}
use Rattle.reader.specs.View.{skip_at, found_at, number_at, Got}
use Rattle.reader.specs.declared.Instruction.{Instruction}
use Rattle.reader.specs.declared.Head.{Head}
use Rattle.reader.specs.declared.cursor.Cursor.{Cursor}

-- cursor c stands at p in t
pub record CursorStands (t : List ℕ) (p : ℕ) (c : Cursor) : Type 0 where
  pub bytes : c.bytes.now ≡ t
  pub at : c.at ≡ p

-- the next n bytes of c are there, and d stands after them; or they are not there
pub record CursorWent (n : ℕ) (c d : Cursor) : Type 0 where
  pub bytes : d.bytes.now ≡ c.bytes.now
  pub room : c.at + n ≤ length c.bytes.now
  pub at : d.at ≡ c.at + n

abbrev pub CursorShort : ℕ → Cursor → Type 0
CursorShort n c = length c.bytes.now < c.at + n

-- p reads a from c on, and d stands after it; or p reads nothing
pub record Read {A : Type 0} (p : Parser A) (a : A) (c d : Cursor) : Type 0 where
  pub bytes : d.bytes.now ≡ c.bytes.now
  pub got : Got p c.bytes.now c.at a d.at

abbrev pub CutOff : {A : Type 0} → Parser A → Cursor → Type 0
CutOff p c = skip_at p c.bytes.now c.at ≡ None

-- a step from a place to the next one, as the cursors take it
pub record Stepped (step : ℕ → Option ℕ) (c d : Cursor) : Type 0 where
  pub bytes : d.bytes.now ≡ c.bytes.now
  pub to : step c.at ≡ Some d.at

abbrev pub CursorSteps : {B : Type 0} → (List ℕ → ℕ → Option ℕ) → Option B → Cursor → Cursor → Type 0
CursorSteps step r c d = MatchOption r (step c.bytes.now c.at ≡ None) (λ b. Stepped (step c.bytes.now) c d)

-- what p reads is passed over
abbrev pub Skips : {A B : Type 0} → Parser A → Option B → Cursor → Cursor → Type 0
Skips p r c d = CursorSteps (skip_at p) r c d

-- the next instruction, and d stands after it
abbrev pub CursorFinds : Option Instruction → Cursor → Cursor → Type 0
CursorFinds r c d = MatchOption r (found_at c.bytes.now c.at ≡ None) (λ i. (found_at c.bytes.now c.at ≡ Some i) × (d.bytes.now ≡ c.bytes.now) × (d.at ≡ i.next))

-- the head of a function's record: its bytes, and where the number of slots and the count of instructions stand in it
abbrev pub head_size : ℕ
head_size = 9

abbrev pub slots_place : ℕ
slots_place = 3

abbrev pub count_place : ℕ
count_place = 7

-- that head where the bytes have it, and d stands after it
abbrev pub HeadRead : Option Head → Cursor → Cursor → Type 0
HeadRead r c d = MatchOption r (CursorShort head_size c)
    (λ h. CursorWent head_size c d × (h.name ≡ number_at 2 c.bytes.now c.at)
    × (h.slots ≡ number_at 2 c.bytes.now (c.at + slots_place)) × (h.count ≡ number_at 2 c.bytes.now (c.at + count_place)))
