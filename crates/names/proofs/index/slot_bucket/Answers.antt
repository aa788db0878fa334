use native.Mathlib.Omega.{arith}
use Rattle.names.proofs.Indexing.{bucket-of}
use Rattle.names.proofs.index.slot_bucket.Goals as goal

pub returns : goal.returns
returns c = (bucket-of 2048 _ _ c.hash.ensures.0, omega arith)
