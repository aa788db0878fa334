use mathlib.Core.Path.{refl}
use Rattle.state.specs.State.{state_of}
use Rattle.lower_emit.specs.Emitting.{counts_of, limits_in}
use Rattle.measure.proofs.Held.{known-tables}
use Rattle.lower_expr.proofs.measuring.measurer.Goals as goal

pub returns-clause-known : goal.returns-clause-known
unfolding state_of
returns-clause-known c =
    let e = c.args.e.now in
    known-tables _ e.code.words.now (counts_of e) (limits_in e) c.requires.sound.sound (record { symbols = refl; functions = refl; classes = refl })

pub returns-clause-alone : goal.returns-clause-alone
unfolding state_of
returns-clause-alone c =
    let e = c.args.e.now in
    known-tables _ e.code.words.now (counts_of e) (limits_in e) c.requires.sound.sound (record { symbols = refl; functions = refl; classes = refl })
