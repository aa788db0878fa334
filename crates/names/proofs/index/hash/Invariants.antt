-- the rest is hashed from here
use Prim.Native.Nat.{◌<◌}
use mathlib.Core.Path.{◌≡◌}
use lib.ListN.{drop}
use Rattle.state.specs.Index.{hash_from, hash_of}
use Rattle.names.proofs.index.hash.Given as goal

abbrev pub invariant-loop-byte : goal.invariant-loop-byte
invariant-loop-byte l = (hash_of l.name ≡ hash_from l.h (drop l.byte-index l.name)) × (l.h < 65536)
