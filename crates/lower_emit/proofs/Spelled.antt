-- The functions of a sound emitter have symbols as their names.
use mathlib.Core.Path.{◌≡◌}
use mathlib.Core.Bool.{true}
use mathlib.Core.List.{List}
use Prim.Native.Nat.{ℕ}
use Rattle.definitions.specs.Statements.{has_names}
use Rattle.definitions.proofs.Alike.{AllSpelled}
use Rattle.definitions.proofs.Measured.{all-spelled}
use Rattle.state.proofs.Views.{names-stand}
use Rattle.lower_emit.specs.declared.emitter.Emitter.{Emitter}
use Rattle.lower_emit.specs.Emitting.{counts_of, limits_in, state_in, SoundIn}

pub names-in : {t : List ℕ} {e : Emitter} → SoundIn t e → has_names (state_in t e).tables ≡ true
names-in {t} {e} S = names-stand t e.tables.names.made.now e.code.words.now e.tables.entries.words.now (counts_of e) (limits_in e) S.sound

pub spelled-in : {t : List ℕ} {e : Emitter} → SoundIn t e → AllSpelled (state_in t e).tables
spelled-in {t} {e} S = all-spelled (state_in t e).tables (names-in S)
