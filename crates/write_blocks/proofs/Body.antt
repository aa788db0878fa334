-- The block of a function: no loop is around it, so what is written is what the lowering emits.
use Prim.Native.Nat.{ℕ}
use mathlib.Core.Path.{◌≡◌, refl, sym, subst}
use mathlib.Core.Bool.{true, false, Bool}
use mathlib.Core.List.{List}
use Rattle.std.specs.Prelude.{Option}
use Rattle.definitions.specs.Bytes.{Name}
use Rattle.definitions.specs.Wellformed.{ask_block}
use Rattle.definitions.specs.Slots.{Keeping}
use Rattle.definitions.specs.Lower.{emit_block}
use Rattle.definitions.specs.Measured as Measured
use Rattle.definitions.specs.Measured.{write_block}
use Rattle.definitions.proofs.Measured.{writes_parts}
use Rattle.tree_view.specs.StmtAt.{block_at}
use Rattle.lower_forms.specs.Lowerable.{of_names, of_breaks}
use Rattle.lower_forms.specs.Lowering.{BlockLowerable, block_code}
use Rattle.lower_calls.proofs.Calls.{at_same}
use Rattle.lower_emit.specs.declared.emitter.Emitter.{Emitter}
use Rattle.lower_emit.specs.Emitting.{state_in, SoundIn, EmitsTo}
use Rattle.lower_emit.proofs.Spelled.{names-in}
use Rattle.lower_emit.proofs.Parts.{emits-state}

pub body-emits : {r : Option ℕ} {d p next : ℕ} {t : List ℕ} {a b : Emitter} (names : List Name) (keep : Keeping) (v : Measured.Loop) (L : BlockLowerable d t p) → L.loop ≡ false → SoundIn t a
    → EmitsTo r (write_block names keep v (block_at d t p).value) next t a b → EmitsTo r (block_code d t names keep p) next t a b
body-emits {d = d} {p = p} {t = t} {a = a} names keep v L o S h =
    let b = (block_at d t p).value in
    let q7 = subst (λ (x : Bool). ask_block 7 x b ≡ true) o (L.asks 7 of_names) in
    let q9 = subst (λ (x : Bool). ask_block 9 x b ≡ true) o (L.asks 9 of_breaks) in
    emits-state h (sym (at_same a.code.base (write_block names keep v b) (emit_block names keep b) (state_in t a) (writes_parts.block names keep v b q7 q9 _ _ (names-in S)))) refl
