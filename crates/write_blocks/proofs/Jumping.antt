-- A jump over a part that was measured, and the part.
use Prim.Native.Nat.{ℕ, suc, ◌+◌, ◌-◌, ◌≤◌}
use mathlib.Core.Path.{◌≡◌, refl, sym, ap, subst, ◌∙◌}
use mathlib.Core.List.{List, ◌++◌}
use native.Mathlib.Omega.{arith}
use native.Mathlib.Numerals.{add-one}
use lib.ListN.{length}
use Rattle.std.specs.Prelude.{Option, None}
use Rattle.std.proofs.lemmas.Option.{none-some}
use Rattle.definitions.specs.Instruction.{Instr, Jump, JumpIfFalse}
use Rattle.definitions.specs.Tables.{Tables, Out, Emit, emits, one, ◌⨟◌}
use Rattle.definitions.specs.Measured.{SoFar, so_far}
use Rattle.definitions.proofs.SoFarNames.{Knows, knows-itself}
use Rattle.definitions.proofs.Counted.{Counted}
use Rattle.state.specs.Words.{word}
use Rattle.state.specs.State.{State, emit_at, WithinLimits}
use Rattle.state.proofs.Emission.{stack-after}
use Rattle.definitions.proofs.Growth.{Lengthens}
use Rattle.state.proofs.Views.{stack-length}
use Rattle.lower_emit.specs.declared.emitter.Emitter.{Emitter}
use Rattle.lower_emit.specs.Emitting.{counts_of, limits_in, state_in, SoundIn, LeftIn, LowersIn, Puts}
use Rattle.lower_emit.proofs.Answering.{open_after}
use Rattle.lower_emit.proofs.Packing.{instr-jump}
use Rattle.lower_emit.proofs.Spelled.{spelled-in}
use Rattle.lower_emit.proofs.Steps.{areas-none, put-lifts, lowers-by}
use Rattle.write_blocks.specs.Sizes.{Fits}
use Rattle.write_blocks.proofs.Counting.{Sizes, sizes-over}

-- the first of two parts by other words
pub first_as : (w e d : Emit) (p : ℕ) (t : Tables) → w p t ≡ e p t → (w ⨟ d) p t ≡ (e ⨟ d) p t
unfolding ◌⨟◌
first_as w e d p t h = ap (λ (o : Out). let r = d (p + length o.code) o.tables in record { code = o.code ++ r.code; tables = r.tables; sources = o.sources ++ r.sources }) h

-- ---- after a part that is there

module _ {t : List ℕ} {a b : Emitter} {n : SoFar → ℕ} {f : SoFar → SoFar} {e : Emit} (S : SoundIn t a) (C : Counted n f e) (A : LeftIn t a b (emit_at a.code.base e (state_in t a))) where
  abbrev s : State
  s = state_in t a

  abbrev p : ℕ
  p = length s.stack - a.code.base

  tables-are : (state_in t b).tables ≡ (e p s.tables).tables
  unfolding emit_at
  tables-are = ap (λ (u : State). u.tables) A.left.state

  -- what is so far
  pub known-after : Knows (f (so_far s.tables)) (state_in t b).tables
  known-after = subst (Knows (f (so_far s.tables))) (sym tables-are) (C.at (so_far s.tables) p s.tables (knows-itself s.tables (spelled-in S).spelled)).knows

  -- how many words are open
  pub longer-by : b.code.open ≡ a.code.open + n (so_far s.tables)
  longer-by =
      omega (
        arith,
        open_after t b.tables.names.made.now b.code.words.now b.tables.entries.words.now (counts_of a) (counts_of b) (limits_in a) _ A.left,
        stack-after a.code.base e s,
        (C.at (so_far s.tables) p s.tables (knows-itself s.tables (spelled-in S).spelled)).count,
        stack-length t a.tables.names.made.now a.code.words.now a.tables.entries.words.now (counts_of a) (limits_in a) S.sound,
      )

-- ---- jumps

-- the question that passes n instructions and the jump after them
pub question-put : {A : Type 0} {r : Option A} {t : List ℕ} {a b : Emitter} {n : ℕ} → SoundIn t a → b.tables ≡ a.tables → n ≤ 16384 → Puts r (word 29 (n + 1) 0) a.code b.code
    → LowersIn r (one (JumpIfFalse (suc n))) t a b
question-put {t = t} {n = n} S same few h =
    lowers-by (put-lifts S same (instr-jump t 29 (n + 1) (omega arith) (omega arith) (omega arith)) h) (ap (λ (m : ℕ). one (JumpIfFalse m)) (sym (add-one n)))

-- a jump over n instructions
pub jump-put : {A : Type 0} {r : Option A} {t : List ℕ} {a b : Emitter} {n : ℕ} → SoundIn t a → b.tables ≡ a.tables → n ≤ 16384 → Puts r (word 28 n 0) a.code b.code → LowersIn r (one (Jump n)) t a b
jump-put {t = t} {n = n} S same few h = put-lifts S same (instr-jump t 28 n (omega arith) (omega arith) (omega arith)) h

-- ---- a part that has no size is over the limits

-- w has the instruction i, then the part e
pub size-stops : {A : Type 0} {q : Option A} {r : Option ℕ} {t : List ℕ} {a : Emitter} {n : SoFar → ℕ} {f : SoFar → SoFar} {h heads size limit : ℕ} {e w : Emit} (i : Instr)
    → SoundIn t a → Sizes n f h e → Lengthens e → Fits r heads size limit → limit ≡ a.code.limit → heads ≤ h → size ≤ n (so_far (state_in t a).tables) → r ≡ None → q ≡ None
    → (WithinLimits (limits_in a) (emit_at a.code.base w (state_in t a)) → WithinLimits (limits_in a) (emit_at a.code.base e (emit_at a.code.base (one i) (state_in t a)))) → LowersIn q w t a a
unfolding emit_at emits
size-stops {t = t} {a = a} {heads = heads} {size = size} i S Z E F same less few z y under = record {
  reaches = record {
    done = λ x g. absurd (none-some x (sym y ∙ g));
    full = λ g v. sizes-over (limits_in a) a.code.base (emit_at a.code.base (one i) (state_in t a)) heads size Z E (spelled-in S) S.sound.limited less few (λ k. omega (arith, F.over z k, same)) (under v);
    limits = refl;
    areas = areas-none;
  };
}
