-- the rest is hashed from here
use native.Mathlib.Omega.{arith}
use mathlib.Core.Path.{refl, sym, ◌∙◌}
use Rattle.state.specs.Index.{hash_of}
use Rattle.state.proofs.Index.{hash-next, hash-end}
use Rattle.names.proofs.index.hash.Goals as goal

pub loop-byte-init : goal.loop-byte-init
unfolding hash_of
loop-byte-init c = (refl, omega arith)

pub loop-byte-preserved : goal.loop-byte-preserved
loop-byte-preserved c = (c.loop-byte.invariant.0 ∙ hash-next _ c.args.name.now c.loop-byte.byte-index c.loop-byte-test.true, omega arith)

pub returns : goal.returns
returns c = (sym (c.loop-byte.invariant.0 ∙ hash-end _ c.args.name.now c.loop-byte.byte-index c.loop-byte-test.false), c.loop-byte.invariant.1)
