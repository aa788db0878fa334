-- What a literal's instruction leaves.
use Rattle.std.specs.Prelude.{ℕ, Option, List}
use Rattle.definitions.specs.Tables.{Emit}
use Rattle.lower_emit.specs.declared.emitter.Code.{Code}
use Rattle.lower_emit.specs.declared.emitter.Used.{Used}
use Rattle.lower_emit.specs.declared.emitter.Entries.{Entries}
use Rattle.lower_emit.specs.Emitting.{NextIs}
use Rattle.lower_names.specs.Naming.{Quotes}

-- a step of strings and code; the part that it emits ends at `next`
pub record QuotesTo (r : Option ℕ) (x : Emit) (next : ℕ) (tree : List ℕ) (m n : Used 512) (a b : Entries) (c d : Code) : Type 0 where
  pub place : NextIs r next
  pub quotes : Quotes r x tree m n a b c d
