use mathlib.Core.Path.{refl, ◌∙◌}
use native.Mathlib.Omega.{arith}
use lib.ListN.{length-set}
use Rattle.lower_emit.proofs.Patching.{patch-step, patch-done}
use Rattle.lower_emit.proofs.jumps.patch_words.Goals as goal

pub loop-i-preserved : goal.loop-i-preserved
loop-i-preserved c =
    let l = c.loop-i in
    let a = c.args in
    (omega (arith, l.invariant.2), patch-step a.h l.i _ a.inside.now l.inside (omega (arith, l.invariant.2)) l.invariant.1 c.patched_word.ensures, length-set l.inside l.i _ ∙ l.invariant.2, refl)

pub returns : goal.returns
returns c = let l = c.loop-i in let a = c.args in patch-done a.h l.i a.inside.now l.inside (omega arith) l.invariant.1
