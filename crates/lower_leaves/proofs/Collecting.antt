-- What lambda_slots answers, once it is matched on.
use Prim.Native.Nat.{ℕ, ◌+◌, ◌≤◌, ◌<◌}
use native.Mathlib.Omega.{arith}
use mathlib.Core.Path.{◌≡◌, ◌∙◌}
use mathlib.Core.List.{List}
use lib.ListN.{length, take}
use Rattle.definitions.specs.Bytes.{Name}
use Rattle.state.specs.State.{slots_from, slot_names, Slots}
use Rattle.std.specs.Prelude.{Option, Some, None}
use Rattle.slots.specs.Slotted.{first_names, Indexed, Collected}
use Rattle.slots.proofs.Adding.{front-names, front-slots}

collected-part : (r : Option ℕ) (n : ℕ) (t ps : List ℕ) (want : List Name) → r ≡ Some n → Collected r t ps want → (n ≤ 255) × (first_names t n ps ≡ want) × Indexed t n ps
unfolding Collected
collected-part r n t ps want e h = rw e at h

pub collected-count : (r : Option ℕ) (n : ℕ) (t ps : List ℕ) (want : List Name) → r ≡ Some n → Collected r t ps want → length ps ≡ slots_from + 256
    → (n ≤ 255) × (slot_names t (take (slots_from + n) ps) ≡ want) × Slots t (take (slots_from + n) ps)
collected-count r n t ps want e h w =
    let z = collected-part r n t ps want e h in
    let f = z.0 in
    let room : slots_from + n ≤ length ps = omega arith in
    (z.0, front-names t ps n room ∙ z.1, front-slots t ps n room z.0 z.2)

pub collected-over : (r : Option ℕ) (t ps : List ℕ) (want : List Name) → r ≡ None → Collected r t ps want → 255 < length want
unfolding Collected
collected-over r t ps want e h = rw e at h
