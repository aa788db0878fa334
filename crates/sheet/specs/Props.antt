-- That a line's counts are small is a fact: it has one proof at most.
use Rattle.std.specs.Prelude.{ℕ}
use native.Mathlib.Bridge.{le_prop}
use Rattle.sheet.specs.Rows.{Few}

pub few-prop : (n q c : ℕ) → IsProp (Few n q c)
few-prop n q c a b = λ i. record { all = le_prop a.all b.all i; questions = le_prop a.questions b.questions i; calls = le_prop a.calls b.calls i }
