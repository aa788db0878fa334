use native.Mathlib.Omega.{arith}
use mathlib.Core.Path.{refl}
use Rattle.cut.proofs.Stretches.{stretch-reads}
use Rattle.cut.proofs.Seeking.{tops-later}
use Rattle.cut.proofs.begin.without.Goals as goal

pub stretch_end-requires : goal.stretch_end-requires
stretch_end-requires c = let T = c.requires.0 in stretch-reads T.top _ (omega (arith, T.within, c.requires.1))

pub returns : goal.returns
returns c = (tops-later c.requires.0 _ c.requires.1 c.stretch_end.ensures, refl)
