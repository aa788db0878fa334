-- `__main__` begins, with nothing emitted yet.
use Prim.Native.Nat.{ℕ, ◌≤◌}
use mathlib.Core.Path.{◌≡◌, refl, sym, ap, ◌∙◌, subst}
use mathlib.Core.List.{List, []}
use native.Mathlib.Omega.{arith}
use lib.ListN.{length}
use Rattle.std.specs.Prelude.{Option, Some, None}
use Rattle.definitions.specs.Slots.{names_only}
use Rattle.definitions.specs.Lower.{main, no_tables}
use Rattle.state.specs.Index.{none_covered}
use Rattle.state.specs.Words.{region, instrs_of}
use Rattle.state.specs.State.{State, tables_of, state_of, functions_of, classes_of, symbol_number, Sound, Limited, total, no_every}
use Rattle.state.specs.declared.Counts.{Counts}
use Rattle.state.specs.declared.Limits.{Limits}
use Rattle.names.specs.Made.{made_name}
use Rattle.names.specs.declared.Made.TheVariants.{Main}
use Rattle.lower_emit.specs.Nesting.{begun_with}
use Rattle.lower_emit.specs.declared.emitter.Names.{Names}
use Rattle.lower_emit.specs.declared.emitter.Entries.{Entries}
use Rattle.lower_emit.specs.declared.emitter.Tables.{Tables}
use Rattle.lower_emit.specs.declared.emitter.Emitter.{Emitter}
use Rattle.lower_emit.specs.Emitting.{limits_in, state_in, SoundIn, beside, new_names, NumbersIn, BeginsIn, Begun}
use Rattle.lower_emit.proofs.Begun.{begun-frame}
use Rattle.lower_emit.proofs.Functions.{begun-lifts}
use Rattle.lower_names.specs.Naming.{InternsMade, symbol_named}
use Rattle.lower_names.proofs.Beginnings.{named-none, named-sound, named-below, named-begins}
use Rattle.compile.specs.Compiled.{Fresh, no_counts, nothing, main_named, main_begun}

sound-nothing : {tree made code tables : List ℕ} {l : Limits} → 16384 ≤ length code → 16384 ≤ length tables → 20500 ≤ length made → Limited l → Sound tree made code tables no_counts l
unfolding region total
sound-nothing c t m l = record {
  code-room = c;
  tables-room = t;
  made-room = m;
  limited = l;
  symbols = omega arith;
  strings = omega arith;
  functions = omega arith;
  classes = omega arith;
  constants = omega arith;
  methods = omega arith;
  words = omega arith;
  base = omega arith;
  made-count = omega arith;
  names = no_every;
  heads = no_every;
  codes = no_every;
  class-methods = no_every;
  finished = refl;
  symbol-index = none_covered;
  string-index = none_covered;
}

pub fresh-sound : {tree : List ℕ} {e : Emitter} → Fresh e → SoundIn tree e
fresh-sound {tree} {e} F =
    let l : Limited (limits_in e) = record {
      functions = e.tables.functions.most;
      symbols = e.tables.names.symbols.most;
      strings = e.tables.strings.most;
      classes = e.tables.classes.most;
      instructions = e.code.code_limit;
    } in
    record {
      sound = subst (λ (c : Counts). Sound tree e.tables.names.made.now e.code.words.now e.tables.entries.words.now c (limits_in e)) (sym F.none)
          (sound-nothing e.code.code_room e.tables.entries.room F.made-room l);
    }

nothing-is : (tree made code tables : List ℕ) → state_of tree made code tables no_counts ≡ nothing
unfolding state_of tables_of instrs_of region functions_of classes_of no_tables
nothing-is tree made code tables = refl

-- the function of `__main__` has begun, whose name has its number in the state s
abbrev begun_main : State → State
begun_main s = begun_with (symbol_number (made_name Main) s.tables) 0 0 (symbol_named (made_name Main) s)

module _ (tree : List ℕ) {a : Emitter} (F : Fresh a) where
  fresh-state : state_in tree a ≡ nothing
  fresh-state = ap (λ (c : Counts). state_of tree a.tables.names.made.now a.code.words.now a.tables.entries.words.now c) F.none ∙ nothing-is tree a.tables.names.made.now a.code.words.now a.tables.entries.words.now

  functions-none : length (state_in tree a).tables.functions ≡ 0
  unfolding no_tables
  functions-none = ap (λ (s : State). length s.tables.functions) fresh-state

  begun-is : begun_main (state_in tree a) ≡ main_begun
  unfolding made_name main_named main_begun
  begun-is = ap begun_main fresh-state ∙ begun-frame (symbol_number main no_tables) 0 0 (names_only []) main_named refl

module _ {tree : List ℕ} {a : Emitter} {names : Names} {entries : Entries} {i : Option ℕ} (F : Fresh a) (h : InternsMade i (made_name Main) tree a.tables.names names a.tables.entries entries) where
  abbrev ts : Tables
  ts = new_names names entries a.tables

  numbers : NumbersIn i (symbol_number (made_name Main) (state_in tree a).tables) tree a (beside a.code ts) (symbol_named (made_name Main) (state_in tree a))
  numbers = (h.tables a.tables).numbers a.code (fresh-sound F)

  pub begins-none : {r : Option ℕ} → i ≡ None → r ≡ None → BeginsIn r 0 tree a (beside a.code ts) main_begun
  begins-none {r} z e = subst (λ (s : State). BeginsIn r 0 tree a (beside a.code ts) s) (begun-is tree F) (named-none (made_name Main) (fresh-sound F) numbers 0 0 0 z e)

  pub begins-main : {j : ℕ} {r : Option ℕ} {c : Emitter} → i ≡ Some j → Begun r j 0 0 (beside a.code ts) c → BeginsIn r 0 tree a c main_begun
  begins-main {j} {r} {c} z g =
      subst (λ (q : Type 0). q) (λ k. BeginsIn r (functions-none tree F k) tree a c (begun-is tree F k))
      (named-begins (made_name Main) (fresh-sound F) numbers z 0 0
      (begun-lifts (named-sound (made_name Main) (fresh-sound F) numbers z) (named-below (made_name Main) (fresh-sound F) numbers z) (omega arith) (omega arith) g))
