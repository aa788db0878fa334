use mathlib.Core.Path.{◌≡◌}
use Rattle.reader.proofs.Finding.{FunctionsFrom}
use Rattle.reader.proofs.places.find_function.Given as goal

abbrev pub invariant-loop : goal.invariant-loop
invariant-loop l = (l.c.bytes.now ≡ l.bytes) × FunctionsFrom l.bytes l.fn.functions.start l.counter l.c.at
