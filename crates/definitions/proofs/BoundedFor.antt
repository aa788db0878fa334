-- The parts of a For are in bounds.
use mathlib.Core.Path.{refl}
use mathlib.Core.List.{List}
use Prim.Native.Nat.{ℕ, ◌+◌, ◌≤◌, ◌<◌}
use native.Mathlib.Omega.{arith}
use lib.ListN.{length}
use Rattle.definitions.specs.Bytes.{Name}
use Rattle.definitions.specs.Tables.{Tables, Emit, here}
use Rattle.definitions.specs.Lower.{Keeper, global, local, make_iter, named_iter, kept_iter, store_iter, load_iter, ask_iter, take_iter, iter_name}
use Rattle.definitions.specs.Slots.{Keeping, in_globals, in_slots, past}
use Rattle.definitions.specs.Open.{all_instruction}
use Rattle.definitions.proofs.Names.{Short, iter-short}
use Rattle.definitions.proofs.Bounds.{Sound, single, counted}
use Rattle.definitions.proofs.LongerTables.{Longer, longer-none, longer-more}
use Rattle.definitions.proofs.BoundedPart.{Fits, fits_one, fits-seq, fits_wider}
use Rattle.definitions.proofs.BoundedNames.{fits-symbol, step-symbol}
use Rattle.definitions.proofs.BoundedVariables.{fits-store}

pub fits-make_iter : {b : Tables} {s : ℕ} → Fits 0 s b make_iter
unfolding make_iter all_instruction
fits-make_iter = fits-symbol _ (record { short = omega arith }) (λ k t u l. fits_one (counted refl refl l (omega arith)))

-- a keeper that there is, in a function of s slots: a symbol, or a slot
abbrev pub Stands : Tables → ℕ → Keeper → Type 0
Stands t s (global k) = k < length t.symbols
Stands t s (local n) = n < s

pub store-sound : {t : Tables} {s : ℕ} (g : Keeper) → Stands t s g → Sound t s (store_iter g)
unfolding store_iter all_instruction
store-sound (global k) h = single refl h
store-sound (local n) h = single refl h

load-sound : {t : Tables} {s : ℕ} (g : Keeper) → Stands t s g → Sound t s (load_iter g)
unfolding load_iter all_instruction
load-sound (global k) h = single refl h
load-sound (local n) h = single refl h

pub fits-ask_iter : {b : Tables} {s : ℕ} (g : Keeper) → Stands b s g → Fits 0 s b (ask_iter g)
unfolding ask_iter all_instruction
fits-ask_iter g h = fits-seq (fits_one (load-sound g h)) (fits-symbol _ (record { short = omega arith }) (λ k t u l. fits_one (counted refl refl l (omega arith))))

pub fits-take_iter : {b : Tables} {s : ℕ} (slots : List Name) (x : Name) (g : Keeper) → length slots ≤ s → Stands b s g → Short x → Fits 0 s b (take_iter slots x g)
unfolding take_iter all_instruction
fits-take_iter slots x g m l h =
    fits-seq (fits_one (load-sound g l))
    (fits-seq (fits-symbol _ (record { short = omega arith }) (λ k t u e. fits_one (counted refl refl e (omega arith)))) (fits_wider m (fits-store slots x h)))

pub fits-named_iter : {n s : ℕ} {b : Tables} {f : ℕ → Emit} → ((g : ℕ) (t : Tables) → Longer b t → g < length t.symbols → Fits n s t (f g)) → Fits n s b (named_iter f)
unfolding named_iter here
fits-named_iter {f} F = record { at = λ p t u. step-symbol f (iter_name p) p t (λ a c. iter-short p a) (λ g v w l. (F g v (longer-more u w) l).at p v longer-none) }

-- slots for so many more loops
abbrev pub Room : Keeping → ℕ → ℕ → Type 0
Room in_globals n s = Unit {0}
Room (in_slots k) n s = k + n ≤ s

pub room-first : (keep : Keeping) (m n s : ℕ) → Room keep (m + n) s → Room keep m s
room-first in_globals m n s h = tt
room-first (in_slots k) m n s h = omega arith

pub room-rest : (keep : Keeping) (m n s : ℕ) → Room keep (m + n) s → Room (past m keep) n s
unfolding past
room-rest in_globals m n s h = tt
room-rest (in_slots k) m n s h = omega arith

pub fits-kept_iter : {n s : ℕ} {b : Tables} {f : Keeper → Emit} (keep : Keeping) (m : ℕ) → Room keep (1 + m) s → ((g : Keeper) (t : Tables) → Longer b t → Stands t s g → Fits n s t (f g)) → Fits n s b (kept_iter keep f)
unfolding kept_iter
fits-kept_iter in_globals m h F = fits-named_iter (λ k t u l. F (global k) t u l)
fits-kept_iter {b} (in_slots n) m h F = F (local n) b longer-none (omega arith)
