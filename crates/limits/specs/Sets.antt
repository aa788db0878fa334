-- The sets of limits by their numbers.
use Rattle.std.specs.Prelude.{ℕ}
use Rattle.definitions.specs.Module.{Limits, limits_by}
use Rattle.limits.specs.declared.Limits.{Limits as Set}
use Rattle.limits.specs.declared.Limits.TheVariants.{Office, Console}

-- the number of each set
unfoldable pub set_number : Set → ℕ
set_number Office = 0
set_number Console = 1

-- the limits of a set
abbrev pub limits_for : Set → Limits
limits_for s = limits_by (set_number s)
