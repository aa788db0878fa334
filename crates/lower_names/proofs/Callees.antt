-- A callee: its load, its word and the instruction of the call.
use Prim.Native.Nat.{ℕ, ◌≤◌}
use mathlib.Core.Path.{◌≡◌, sym}
use mathlib.Core.Bool.{true, false, true≢false}
use mathlib.Core.List.{List}
use mathlib.Core.Option as definitions
use mathlib.Core.Option.{none, some}
use native.Mathlib.Omega.{arith}
use Rattle.std.specs.Prelude.{Option, Some, None}
use Rattle.std.specs.Option.{is_some}
use Rattle.names.specs.Sought.{place_in}
use Rattle.state.specs.Words.{instr_of}
use Rattle.lower_emit.proofs.Packing.{instr-plain, plain-above}
use Rattle.lower_forms.specs.Lowerable.{call_instr, Short}
use Rattle.lower_names.specs.declared.Callee.{Callee}
use Rattle.lower_names.specs.declared.Callee.TheVariants.{Builtin, Function, Value}
use Rattle.lower_names.specs.Naming.{callee_of, call_word}

-- the word is the call
pub call-instr : (c : Callee) (t : List ℕ) (n : ℕ) → n ≤ 255 → Short (callee_of c) → instr_of t (call_word c n) ≡ call_instr (callee_of c) n
unfolding callee_of call_word Short call_instr
call-instr (Builtin i) t n few short = instr-plain t 32 i n (plain-above 32 i n (omega arith) (omega arith) (omega arith) (omega arith))
call-instr (Function f) t n few short = instr-plain t 31 f n (plain-above 31 f n (omega arith) (omega arith) (omega arith) (omega arith))
call-instr Value t n few short = instr-plain t 34 n 0 (plain-above 34 n 0 (omega arith) (omega arith) (omega arith) (omega arith))

-- a place that is found, by the test
pub place-found : (r : Option ℕ) {o : definitions.Option ℕ} → place_in r ≡ o → is_some r ≡ true → (k : ℕ) × (some k ≡ o)
place-found (Some k) e h = (k, e)
place-found None e h = absurd (true≢false (sym h))

pub place-missed : (r : Option ℕ) {o : definitions.Option ℕ} → place_in r ≡ o → is_some r ≡ false → none ≡ o
place-missed (Some k) e h = absurd (true≢false h)
place-missed None e h = e
