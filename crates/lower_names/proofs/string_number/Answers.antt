use mathlib.Core.Path.{refl}
use Rattle.lower_names.proofs.Strings.{adds-old, adds-over, adds-new}
use Rattle.lower_names.proofs.string_number.Goals as goal

pub returns-in-Some : goal.returns-in-Some
returns-in-Some c = adds-old c.seek_text-sought.ensures c.requires.0 c.in-Some.is

pub returns-then-strings-n : goal.returns-then-strings-n
returns-then-strings-n c = adds-over c.seek_text-sought.ensures c.requires.0 c.in_default.is c.if-strings-n.true

pub returns : goal.returns
returns c = adds-new c.seek_text-sought.ensures c.requires.0 c.in_default.is c.if-strings-n.false refl refl
    (λ ts. record { made = refl; entries = refl; counts = λ code. refl; limits = λ code. refl; areas = λ code. record { words = refl; made = refl; entries = refl } })
