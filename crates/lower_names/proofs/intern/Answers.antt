use mathlib.Core.Path.{refl}
use Rattle.lower_names.proofs.Symbols.{interns-old, interns-over, interns-new}
use Rattle.lower_names.proofs.intern.Goals as goal

pub returns-in-Some : goal.returns-in-Some
returns-in-Some c = interns-old c.seek_symbol-sought.ensures c.requires.0 c.in-Some.is

pub returns-then-names-n : goal.returns-then-names-n
returns-then-names-n c = interns-over c.seek_symbol-sought.ensures c.requires.0 c.in_default.is c.if-names-n.true

pub returns : goal.returns
returns c = interns-new c.seek_symbol-sought.ensures c.requires.0 c.args.grow c.in_default.is c.if-names-n.false c.requires.2 c.requires.1 refl refl refl refl
    (λ ts. record { made = refl; entries = refl; counts = λ code. refl; limits = λ code. refl; areas = λ code. record { words = refl; made = refl; entries = refl } })
