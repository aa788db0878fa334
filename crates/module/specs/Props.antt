-- That the counts and the areas' lengths suit the writer is a fact: it has one proof at most.
use Rattle.std.specs.Prelude.{ℕ, List}
use native.Mathlib.Bridge.{le_prop}
use Rattle.state.specs.declared.Counts.{Counts}
use Rattle.module.specs.Sections.{Roomy}

pub roomy-prop : (code tables : List ℕ) (c : Counts) → IsProp (Roomy code tables c)
roomy-prop code tables c a b = λ i. record {
  code-room = le_prop a.code-room b.code-room i;
  tables-room = le_prop a.tables-room b.tables-room i;
  symbols = le_prop a.symbols b.symbols i;
  strings = le_prop a.strings b.strings i;
  functions = le_prop a.functions b.functions i;
  classes = le_prop a.classes b.classes i;
  constants = le_prop a.constants b.constants i;
}
