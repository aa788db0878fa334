-- What the lowering of an accepted tree asks and leaves.
use Rattle.std.specs.Prelude.{ℕ, ◌≤◌, ◌≡◌, Option, Some, None, List, [], length}
use Rattle.definitions.specs.Tree.{Block}
use Rattle.definitions.specs.Instruction.{Return}
use Rattle.definitions.specs.Slots.{in_globals, names_only}
use Rattle.definitions.specs.Tables.{Tables, Emit, one, ◌⨟◌}
use Rattle.definitions.specs.Lower.{emit_block, main, no_tables}
use Rattle.tree_view.specs.StmtAt.{block_at, stmts_at}
use Rattle.state.specs.State.{State, tables_of, with_tables, symbol_number, with_symbol, WithinLimits}
use Rattle.state.specs.Steps.{begun}
use Rattle.state.specs.declared.Counts.{Counts}
use Rattle.lower_forms.specs.Lowering.{StmtsLowerable}
use Rattle.compile.specs.declared.Stretch.{Stretch}
use Rattle.lower_emit.specs.declared.emitter.Emitter.{Emitter}
use Rattle.lower_emit.specs.Emitting.{counts_of, limits_in, SoundIn, SameAreas}

-- nothing is counted
abbrev pub no_counts : Counts
no_counts = record {
  symbols = 0;
  strings = 0;
  functions = 0;
  classes = 0;
  methods = 0;
  constants = 0;
  made = 0;
  «open» = 0;
  base = 0;
  done = 0;
}

-- nothing is counted yet; the made names have their room
pub record Fresh (e : Emitter) : Type 0 where
  pub none : counts_of e ≡ no_counts
  pub made-room : 20500 ≤ length e.tables.names.made.now

-- the tree's block
abbrev pub tree_block : List ℕ → Block
tree_block tree = (block_at 32 tree 5).value

-- a stretch's statements
abbrev pub stretch_block : List ℕ → Stretch → Block
stretch_block tree s = (stmts_at 32 s.count tree s.at).value

-- they stand in the tree, which is short, and can be lowered
pub record StretchIn (tree : List ℕ) (s : Stretch) : Type 0 where
  pub short : length tree ≤ 32768
  pub stmts : StmtsLowerable 32 s.count tree s.at

-- nothing is emitted
abbrev pub nothing : State
nothing = record { stack = []; tables = no_tables }

-- the symbol of `__main__` is there; the function has begun
unfoldable pub main_named : State
main_named = with_tables (with_symbol main no_tables) nothing

unfoldable pub main_begun : State
main_begun = begun (symbol_number main no_tables) 0 (names_only []) main_named

-- its code: no slots, and iterators in globals
abbrev pub main_code : Block → Emit
main_code b = emit_block [] in_globals b ⨟ one Return

-- the emitter shows the tables; or the tables are over the limits, or have a function of more than 255 slots
pub record CompilesTree {A : Type 0} (r : Option A) (tree : List ℕ) (a b : Emitter) (want : Tables) : Type 0 where
  pub tables : (x : A) → r ≡ Some x → tables_of tree b.tables.names.made.now b.code.words.now b.tables.entries.words.now (counts_of b) ≡ want
  pub sound : (x : A) → r ≡ Some x → SoundIn tree b
  pub full : r ≡ None → WithinLimits (limits_in a) (record { stack = []; tables = want }) → ⊥
  pub limits : limits_in b ≡ limits_in a
  pub areas : SameAreas a b
