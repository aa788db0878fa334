use native.Mathlib.Omega.{arith}
use mathlib.Core.Path.{refl}
use Rattle.lower_names.proofs.Symbols.{naming-made, made-within, interns-made}
use Rattle.lower_names.proofs.intern_made.Goals as goal

pub intern-requires : goal.intern-requires
intern-requires c =
    let e = c.write_made-grow.ensures in (
      naming-made (record { stands = e.1; size = c.write_made-grow.auto.bytes; symbols = refl; len = refl; area = refl }) c.requires.0,
      made-within e.1 refl _ e.0,
      omega (arith, e.0, c.requires.1),
    )

pub returns : goal.returns
returns c = interns-made (record { stands = c.write_made-grow.ensures.1; size = c.write_made-grow.auto.bytes; symbols = refl; len = refl; area = refl }) c.intern.ensures
