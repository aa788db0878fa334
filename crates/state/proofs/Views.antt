-- How long the views of sound slices are: as the counts say. So sound slices hold a state within the limits.
use Prim.Native.Nat.{ℕ}
use mathlib.Core.Path.{◌≡◌, sym, ap, ◌∙◌}
use mathlib.Core.Bool.{true}
use mathlib.Core.List.{List}
use native.Mathlib.Omega.{arith}
use lib.ListN.{length, take, drop, length-drop, length-map}
use lib.Seq.{length-take-le}
use lib.Dec.{ltb}
use Rattle.definitions.specs.Bytes.{all}
use Rattle.definitions.specs.Tables.{Function}
use Rattle.definitions.specs.Module.{instructions, slots_fit}
use Rattle.definitions.specs.Statements.{has_names}
use Rattle.state.specs.Words.{region, text_at, instr_of, instrs_of}
use Rattle.state.specs.State.{strings_from, heads_from, codes_from, class_names_from, class_methods_from, methods_from, constants_from, done_from, spelled, tables_of, state_of, WithinLimits, Sound}
use Rattle.state.specs.declared.Counts.{Counts}
use Rattle.state.specs.declared.Limits.{Limits}
use Rattle.state.proofs.Regions.{region-length, functions-length, functions-slots, functions-named, classes-length, instructions-total}

module _ (tree made code tables : List ℕ) (c : Counts) (l : Limits) (s : Sound tree made code tables c l) where
  pub stack-length : length (state_of tree made code tables c).stack ≡ c.open
  unfolding state_of instrs_of
  stack-length = length-map (take c.open code) (instr_of tree) ∙ length-take-le c.open code (omega (arith, s.limited))

  pub symbols-length : length (state_of tree made code tables c).tables.symbols ≡ c.symbols
  unfolding state_of tables_of
  symbols-length = length-map (region 0 c.symbols tables) (spelled tree made) ∙ region-length 0 c.symbols tables (omega (arith, s.limited))

  pub strings-length : length (state_of tree made code tables c).tables.strings ≡ c.strings
  unfolding state_of tables_of
  strings-length = length-map (region strings_from c.strings tables) (text_at tree) ∙ region-length strings_from c.strings tables (omega (arith, s.limited))

  heads : length (region heads_from c.functions tables) ≡ c.functions
  heads = region-length heads_from c.functions tables (omega (arith, s.limited))

  codes : length (region codes_from c.functions tables) ≡ c.functions
  codes = region-length codes_from c.functions tables (omega (arith, s.limited))

  pub function-count : length (state_of tree made code tables c).tables.functions ≡ c.functions
  unfolding state_of tables_of
  function-count = functions-length tree (drop done_from code) (region heads_from c.functions tables) (region codes_from c.functions tables) (heads ∙ sym codes) ∙ heads

  names : length (region class_names_from c.classes tables) ≡ c.classes
  names = region-length class_names_from c.classes tables (omega (arith, s.limited))

  methods : length (region class_methods_from c.classes tables) ≡ c.classes
  methods = region-length class_methods_from c.classes tables (omega (arith, s.limited))

  pub class-count : length (state_of tree made code tables c).tables.classes ≡ c.classes
  unfolding state_of tables_of
  class-count = classes-length tree (region methods_from 256 tables) (region class_names_from c.classes tables) (region class_methods_from c.classes tables) (names ∙ sym methods) ∙ names

  pub constant-count : length (state_of tree made code tables c).tables.constants ≡ c.constants
  unfolding state_of tables_of
  constant-count = region-length constants_from c.constants tables (omega (arith, s.limited))

  pub instruction-count : instructions (state_of tree made code tables c).tables.functions ≡ c.done
  unfolding state_of tables_of
  instruction-count =
      instructions-total tree (drop done_from code) (region heads_from c.functions tables) (region codes_from c.functions tables) c.done (heads ∙ sym codes) s.codes
      (omega (arith, s.limited, length-drop done_from code)) ∙ sym s.finished

  -- each function has its symbol
  pub names-stand : has_names (state_of tree made code tables c).tables ≡ true
  unfolding has_names state_of tables_of
  names-stand =
      ap (λ (n : ℕ). all (λ (f : Function). ltb f.symbol n) (state_of tree made code tables c).tables.functions) symbols-length
      ∙ functions-named tree (drop done_from code) c.symbols (region codes_from c.functions tables) s.heads

  -- a head keeps a function's slots in 8 bits
  pub few-slots : slots_fit (state_of tree made code tables c).tables ≡ true
  unfolding state_of tables_of slots_fit
  few-slots = functions-slots tree (drop done_from code) (region heads_from c.functions tables) (region codes_from c.functions tables)

  pub within-sound : WithinLimits l (state_of tree made code tables c)
  within-sound = record {
    functions = omega (arith, function-count);
    symbols = omega (arith, symbols-length);
    strings = omega (arith, strings-length);
    classes = omega (arith, class-count);
    instructions = omega (arith, stack-length, instruction-count);
    slots = few-slots;
  }
