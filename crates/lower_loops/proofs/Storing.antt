-- An iterator stored, in a slot or in a global, and the word that loads it.
use Prim.Native.Nat.{ℕ, ◌+◌, ◌-◌, ◌<◌, ◌≤◌}
use mathlib.Core.Path.{◌≡◌, sym, ap, subst, ◌∙◌}
use mathlib.Core.List.{List}
use native.Mathlib.Omega.{arith}
use lib.ListN.{length}
use Rattle.std.specs.Prelude.{Option, Some, None}
use Rattle.std.proofs.lemmas.Option.{none-some}
use Rattle.definitions.specs.Instruction.{Instr, instr}
use Rattle.definitions.specs.Tables.{one}
use Rattle.definitions.specs.Slots.{Keeping, in_globals}
use Rattle.definitions.specs.Lower.{Keeper, global, local, store_iter, load_iter, iter_name}
use Rattle.state.specs.Words.{word}
use Rattle.state.specs.State.{emit_at, symbol_number}
use Rattle.state.specs.Kept.{keeping_of, after_loops, keeper_at, kept_at}
use Rattle.state.proofs.Views.{stack-length}
use Rattle.state.proofs.Within.{within-one}
use Rattle.state.proofs.Kept.{keeping-slot, keeping-global, after-slot, after-global}
use Rattle.names.specs.Made.{made_name}
use Rattle.names.specs.declared.Made.TheVariants.{Iterator}
use Rattle.lower_emit.specs.declared.emitter.Code.{Code}
use Rattle.lower_emit.specs.declared.emitter.Names.{Names}
use Rattle.lower_emit.specs.declared.emitter.Entries.{Entries}
use Rattle.lower_emit.specs.declared.emitter.Tables.{Tables}
use Rattle.lower_emit.specs.declared.emitter.Emitter.{Emitter}
use Rattle.lower_emit.specs.Emitting.{counts_of, limits_in, state_in, SoundIn, beside, new_names, NumbersIn, Writes}
use Rattle.lower_emit.proofs.Packing.{op-word, first_word, instr-plain, plain-below}
use Rattle.lower_emit.proofs.Steps.{reaches_as, reaches-after, sound-next, lowers-some, lowers-none}
use Rattle.lower_names.specs.Naming.{InternsMade, symbol_named}
use Rattle.lower_loops.specs.Iterators.{load_word, keeper_of, Loads, StoresKept, StoresIterator}

-- ---- the word

pub loads-slot : (n : ℕ) → n < 65536 → Loads (word 9 n 0) (local n)
unfolding keeper_of load_iter
loads-slot n h = record {
  keeper = rw (op-word 9 n 0 (omega arith) h (omega arith), keeper_of) (ap local (first_word 9 n 0 (omega arith) h (omega arith)));
  instr = λ t. instr-plain t 9 n 0 (plain-below 9 n 0 (omega arith) (omega arith) h (omega arith));
}

pub loads-global : (k : ℕ) → k < 65536 → Loads (word 11 k 0) (global k)
unfolding keeper_of load_iter
loads-global k h = record {
  keeper = rw (op-word 11 k 0 (omega arith) h (omega arith), keeper_of) (ap global (first_word 11 k 0 (omega arith) h (omega arith)));
  instr = λ t. instr-plain t 11 k 0 (plain-below 11 k 0 (omega arith) (omega arith) h (omega arith));
}

-- by what it loads
pub loads-self : {w : ℕ} {g : Keeper} → Loads w g → Loads w (keeper_of w)
loads-self {w} L = subst (Loads w) (sym L.keeper) L

-- ---- an instruction is put

module _ {A : Type 0} {r : Option A} {i : Instr} {a b : Code} (h : Writes r (one i) a b) where
  pub kept_full : {q : Option ℕ} (w : ℕ) → r ≡ None → q ≡ None → StoresKept q w i a b
  kept_full w z n = record { is = λ m e. absurd (none-some m (sym n ∙ e)); writes = record { lowers = λ t ts S. lowers-none z n (h.lowers t ts S); kept = h.kept } }

  pub kept-done : {x : A} {v w : ℕ} → r ≡ Some x → v ≡ w → StoresKept (Some v) w i a b
  kept-done {v = v} z e = record { is = λ m q. (let p : m ≡ v = cc in p) ∙ e; writes = record { lowers = λ t ts S. lowers-some z (h.lowers t ts S); kept = h.kept } }

-- ---- in a slot

-- by another word for the keeping
keeping-as : {keep keep' : Keeping} {r : Option ℕ} {t : List ℕ} {a b : Emitter} → keep ≡ keep' → StoresIterator r keep t a b → StoresIterator r keep' t a b
keeping-as {r = r} {t} {a} {b} e h = subst (λ (x : Keeping). StoresIterator r x t a b) e h

pub slot-stored : {r : Option ℕ} (i : ℕ) {t : List ℕ} {a : Emitter} {c : Code} → SoundIn t a → i < 256 → StoresKept r (word 9 i 0) (instr 10 i 0) a.code c
    → StoresIterator r (keeping_of i) t a (beside c a.tables) × (i + 1 ≡ after_loops i 1)
unfolding keeper_at kept_at load_word store_iter
slot-stored i {t} {a} S h s = (
  keeping-as (sym (keeping-slot i h)) (record {
    reaches = record { is = s.is; reaches = (s.writes.lowers t a.tables S).reaches };
    loads = λ w e. subst (λ (v : ℕ). Loads v (local i)) (sym (s.is w e)) (loads-slot i (omega arith));
  }),
  sym (after-slot i 1 h),
)

-- ---- in a global

module _ {t : List ℕ} {a : Emitter} {names : Names} {entries : Entries} {g : Option ℕ} (S : SoundIn t a)
    (h : InternsMade g (made_name (Iterator (a.code.open - a.code.base))) t a.tables.names names a.tables.entries entries) where
  abbrev ts : Tables
  ts = new_names names entries a.tables

  -- the place of the store
  place : a.code.open - a.code.base ≡ length (state_in t a).stack - a.code.base
  place = ap (λ (n : ℕ). n - a.code.base) (sym (stack-length t a.tables.names.made.now a.code.words.now a.tables.entries.words.now (counts_of a) (limits_in a) S.sound))

  numbered : NumbersIn g (symbol_number (iter_name (length (state_in t a).stack - a.code.base)) (state_in t a).tables) t a (beside a.code ts) (symbol_named (iter_name (length (state_in t a).stack - a.code.base)) (state_in t a))
  unfolding made_name
  numbered = subst (λ (n : ℕ). NumbersIn g (symbol_number (iter_name n) (state_in t a).tables) t a (beside a.code ts) (symbol_named (iter_name n) (state_in t a))) place ((h.tables a.tables).numbers a.code S)

  pub global-over : {q : Option ℕ} → g ≡ None → q ≡ None → StoresIterator q in_globals t a (beside a.code ts)
  unfolding kept_at
  global-over z n = record {
    reaches = record {
      is = λ m e. absurd (none-some m (sym n ∙ e));
      reaches = record {
        done = λ m e. absurd (none-some m (sym n ∙ e));
        full = λ e w. numbered.reaches.full z (within-one a.code.base (store_iter (keeper_at a.code.base in_globals (state_in t a))) _ w);
        limits = numbered.reaches.limits;
        areas = numbered.reaches.areas;
      };
    };
    loads = λ m e. absurd (none-some m (sym n ∙ e));
  }

  pub global-stored : {n : ℕ} {r : Option ℕ} {c : Code} → g ≡ Some n → StoresKept r (word 11 n 0) (instr 12 n 0) a.code c → StoresIterator r in_globals t a (beside c ts)
  unfolding keeper_at kept_at load_word store_iter
  global-stored {n} {r} {c} z q =
      let k = (numbered.reaches.done n z).left in
      let m = numbered.is n z in
      let p = q.writes.lowers t ts (sound-next z numbered.reaches) in
      let is : (w : ℕ) → r ≡ Some w → w ≡ word 11 (symbol_number (iter_name (length (state_in t a).stack - a.code.base)) (state_in t a).tables) 0 = λ w e. q.is w e ∙ ap (λ (j : ℕ). word 11 j 0) m in
      record {
        reaches = record { is = is; reaches = reaches_as (λ j. emit_at (k.base j) (one (instr 12 (m j) 0)) (k.state j)) (reaches-after z numbered.reaches p.reaches) };
        loads = λ w e. subst (λ (v : ℕ). Loads v (global (symbol_number (iter_name (length (state_in t a).stack - a.code.base)) (state_in t a).tables))) (sym (is w e))
            (subst (λ (j : ℕ). Loads (word 11 j 0) (global j)) m (loads-global n (omega (arith, h.below n z))));
      }

-- in main
pub global-kept : {r : Option ℕ} {i : ℕ} {t : List ℕ} {a b : Emitter} → 256 ≤ i → StoresIterator r in_globals t a b → StoresIterator r (keeping_of i) t a b × (i ≡ after_loops i 1)
global-kept {i = i} h s = (keeping-as (sym (keeping-global i h)) s, sym (after-global i 1 h))
