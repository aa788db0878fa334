-- The starred samples hold, by computing.
use mathlib.Core.Path.{refl}
use Rattle.definitions.specs.Open.{everything}
use Rattle.definitions.specs.Statements.{SamplesHold}

pub samples_hold : SamplesHold
unfolding everything
samples_hold = refl
