-- The limits of a set are within the tables' room.
use mathlib.Core.Path.{◌≡◌, sym, subst}
use Prim.Native.Nat.{◌≤◌}
use Rattle.definitions.specs.Module.{Limits as DefinedLimits, office}
use Rattle.definitions.proofs.Narrower.{sets_under}
use Rattle.state.specs.State.{limits_of, Limited}
use Rattle.state.specs.declared.Limits.{Limits}
use Rattle.limits.specs.Sets.{set_number, limits_for}
use Rattle.limits.specs.declared.Limits.{Limits as Set}

pub set-limited : (s : Set) {l : Limits} → limits_of l ≡ limits_for s → Limited l
unfolding limits_of office
set-limited s {l} e =
    let u = sets_under (set_number s) in
    let v : DefinedLimits → Type 0 = λ k. (k.functions ≤ 256) × (k.symbols ≤ 1024) × (k.strings ≤ 512) × (k.classes ≤ 64) × (k.instructions ≤ 8192) in
    let w : v (limits_of l) = subst v (sym e) (u.functions, u.symbols, u.strings, u.classes, u.instructions) in
    record { functions = w.0; symbols = w.1; strings = w.2; classes = w.3; instructions = w.4 }
