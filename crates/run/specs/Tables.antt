-- A function's code and its tables. Assumes nothing: these are definitions.
use Rattle.std.specs.Prelude.{ℕ, ◌+◌, ◌<◌, ◌≤◌, ◌≡◌, Bool, true, false, List, length, drop, get_or}
use Rattle.definitions.specs.Bytes.{got}
use Rattle.definitions.specs.Instruction.{Instr, Return, encodes}
use Rattle.definitions.specs.Reader.{instruction, ends_in_return, jumps_land}
use Rattle.definitions.specs.Instruction.{Flow, straight, flow}
use Rattle.reader.specs.View.{instructions_of, start_of}

-- ---- code and its tables

-- the bytes are the code of a function that stands
pub record Coded (c : List ℕ) : Type 0 where
  pub bytes : c ≡ encodes (instructions_of c)
  pub reads : (k : ℕ) → k < length (instructions_of c) →
      instruction (drop (start_of (instructions_of c) k) c) ≡ got (get_or (instructions_of c) k Return) (drop (start_of (instructions_of c) (k + 1)) c)
  pub ends : ends_in_return (instructions_of c) ≡ true
  pub land : jumps_land (length (instructions_of c)) 0 (instructions_of c) ≡ true
  pub few : length (instructions_of c) < 65536
  pub short : length c ≤ 524288

-- where each instruction begins
pub record PlacesFilled (c table : List ℕ) : Type 0 where
  pub long : length (instructions_of c) ≤ length table
  pub at : (k : ℕ) → k < length (instructions_of c) → get_or table k 0 ≡ start_of (instructions_of c) k

-- how the instruction at place k goes on
unfoldable pub flow_at : List Instr → ℕ → Flow
flow_at is k = flow (get_or is k Return).op

-- s is the first place from k on where the code does not go straight on
pub record Stop (is : List Instr) (k s : ℕ) : Type 0 where
  pub from : k ≤ s
  pub inside : s < length is
  pub goes : (j : ℕ) → k ≤ j → j < s → flow_at is j ≡ straight
  pub stops : flow_at is s ≡ straight → ⊥

pub record Stops (c table : List ℕ) : Type 0 where
  pub long : length (instructions_of c) ≤ length table
  pub at : (k : ℕ) → k < length (instructions_of c) → Stop (instructions_of c) k (get_or table k 0)

unfoldable pub GoesOn : Bool → ℕ → Type 0
GoesOn true op = flow op ≡ straight
GoesOn false op = flow op ≡ straight → ⊥

pub record Nearer (r op k stop : ℕ) : Type 0 where
  pub on : flow op ≡ straight → r ≡ stop
  pub stops : (flow op ≡ straight → ⊥) → r ≡ k
