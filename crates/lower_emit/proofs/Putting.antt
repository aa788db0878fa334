-- One word more on the stack.
use Prim.Native.Nat.{ℕ, ◌+◌, ◌<◌, ◌≤◌}
use mathlib.Core.Path.{◌≡◌, refl, ap, ◌∙◌}
use mathlib.Core.List.{List, [], ◌∷◌, map, map-append}
use native.Mathlib.Omega.{arith}
use native.Mathlib.Nat.{le_refl}
use native.Mathlib.Numerals.{add-one}
use lib.ListN.{length, take, drop, set, length-set, length-append}
use lib.Seq.{take-suc-set, drop-set-lt}
use Rattle.definitions.specs.Tables.{emits, one}
use Rattle.state.specs.Words.{instr_of, instrs_of}
use Rattle.state.specs.State.{State, state_of, tables_of, emit_at, done_from, Sound, Emits}
use Rattle.state.specs.declared.Counts.{Counts}
use Rattle.state.specs.declared.Limits.{Limits}
use Rattle.state.specs.Answered.{PartEmitted, Done, Full}
use Rattle.definitions.specs.Instruction.{Instr}
use Rattle.lower_emit.specs.Nesting.{with_open}
use Rattle.state.proofs.Views.{stack-length, instruction-count}
use Rattle.state.proofs.Emission.{state-eq}

-- the tables see only the finished words
pub tables-finished : (t made code code' tables : List ℕ) (c : Counts) (n : ℕ) → drop done_from code' ≡ drop done_from code →
    tables_of t made code' tables (with_open n c) ≡ tables_of t made code tables c
unfolding tables_of
tables-finished t made code code' tables c n e = rw e

-- the slices are sound with another stack
pub sound-open : (t made code code' tables : List ℕ) (c : Counts) (l : Limits) (n : ℕ) → Sound t made code tables c l →
    length code' ≡ length code → c.base ≤ n → n + c.done ≤ l.instructions → Sound t made code' tables (with_open n c) l
sound-open t made code code' tables c l n s e b w = record {
  code-room = rw e s.code-room;
  tables-room = s.tables-room;
  made-room = s.made-room;
  limited = s.limited;
  symbols = s.symbols;
  strings = s.strings;
  functions = s.functions;
  classes = s.classes;
  constants = s.constants;
  methods = s.methods;
  words = w;
  base = b;
  made-count = s.made-count;
  names = s.names;
  heads = s.heads;
  codes = s.codes;
  class-methods = s.class-methods;
  finished = s.finished;
  symbol-index = s.symbol-index;
  string-index = s.string-index;
}

module _ (t made code tables : List ℕ) (w : ℕ) (c : Counts) (l : Limits) (s : Sound t made code tables c l) where
  put-state : c.open + c.done < l.instructions →
      state_of t made (set code c.open w) tables (with_open (c.open + 1) c) ≡ emit_at c.base (one (instr_of t w)) (state_of t made code tables c)
  unfolding state_of emit_at emits instrs_of
  put-state h = state-eq _ _
      (ap (map (instr_of t)) (ap (λ (k : ℕ). take k (set code c.open w)) (add-one c.open) ∙ take-suc-set code c.open w (omega (arith, s.limited.instructions, s.code-room)))
      ∙ map-append (instr_of t) (take c.open code) (w ∷ []))
      (tables-finished t made code _ tables c (c.open + 1) (drop-set-lt done_from code c.open w (omega (arith, s.limited.instructions))))

  pub put-more : (next : ℕ) → c.open + c.done < l.instructions →
      Emits (Done next (with_open (c.open + 1) c)) t made (set code c.open w) tables c l next (emit_at c.base (one (instr_of t w)) (state_of t made code tables c))
  unfolding Emits
  put-more next h = (
    refl,
    record {
      state = put-state h;
      base = refl;
      paced = record { methods = le_refl _; constants = le_refl _ };
      sound = sound-open t made code _ tables c l (c.open + 1) s (length-set code c.open w) (omega (arith, s.base)) (omega arith);
    },
  )

  pub put_full : (code' : List ℕ) (next : ℕ) → l.instructions ≤ c.open + c.done →
      Emits Full t made code' tables c l next (emit_at c.base (one (instr_of t w)) (state_of t made code tables c))
  unfolding Emits emit_at emits
  put_full code' next h = λ inside.
      let a = stack-length t made code tables c l s in
      let b = instruction-count t made code tables c l s in
      let d = length-append (state_of t made code tables c).stack (instr_of t w ∷ []) in
      omega (arith, inside.instructions)

-- the same answer, for the instruction of the word
pub emits-instr : (r : PartEmitted) (t made code tables : List ℕ) (c : Counts) (l : Limits) (next : ℕ) (s : State) (w : ℕ) (i : Instr) → instr_of t w ≡ i →
    Emits r t made code tables c l next (emit_at c.base (one (instr_of t w)) s) → Emits r t made code tables c l next (emit_at c.base (one i) s)
emits-instr r t made code tables c l next s w i e h = rw (← e) h
