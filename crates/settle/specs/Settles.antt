-- What the lowering up to question 15 answers and leaves.
use Rattle.std.specs.Prelude.{ℕ, ◌≡◌, Bool, true, false, List, Result, Ok, Err}
use Rattle.definitions.specs.Bytes.{Answer, refused, accepted}
use Rattle.definitions.specs.Tables.{Tables}
use Rattle.definitions.specs.Module.{lower_tables}
use Rattle.definitions.specs.Order.{accepted_tree}
use Rattle.questions.specs.declared.Question.{Question}
use Rattle.questions.specs.declared.Question.TheVariants.{Slots, Limits as LimitsKept}
use Rattle.questions.specs.Numbers.{number}
use Rattle.tree_view.specs.StmtAt.{TreeAt}
use Rattle.state.specs.State.{tables_of, limits_of}
use Rattle.state.specs.declared.Limits.{Limits}
use Rattle.lower_emit.specs.declared.emitter.Emitter.{Emitter}
use Rattle.lower_emit.specs.Emitting.{counts_of, limits_in, SoundIn, SameAreas}
use Rattle.compile.specs.Compiled.{tree_block}

-- what a tree that is accepted gives; or the number of the first question answered no
unfoldable pub told : {A : Type 0} → Result (Unit {0}) Question → A → Answer A
told (Ok u) x = accepted x
told (Err q) x = refused (number q)

-- whose lowering is full: 15 if each function has at most 255 slots, else 14
unfoldable pub full_by : Bool → Question
full_by true = LimitsKept
full_by false = Slots

-- the tables that an emitter shows
abbrev pub tables_shown : List ℕ → Emitter → Tables
tables_shown tree e = tables_of tree e.tables.names.made.now e.code.words.now e.tables.entries.words.now (counts_of e)

-- the emitter shows the tables of an accepted tree; or the tree is refused
pub record Settles (r : Result (Unit {0}) Question) (tree : List ℕ) (a b : Emitter) : Type 0 where
  pub answer : lower_tables (limits_of (limits_in a)) tree ≡ told r (tables_shown tree b)
  pub stands : (u : Unit {0}) → r ≡ Ok u → TreeAt tree
  pub sound : (u : Unit {0}) → r ≡ Ok u → SoundIn tree b
  pub limits : limits_in b ≡ limits_in a
  pub areas : SameAreas a b

-- the tree is accepted, as its block; or refused
pub record Accepts (r : Result (Unit {0}) Question) (tree : List ℕ) (l : Limits) : Type 0 where
  pub answer : accepted_tree (limits_of l) tree ≡ told r (tree_block tree)
  pub stands : (u : Unit {0}) → r ≡ Ok u → TreeAt tree
