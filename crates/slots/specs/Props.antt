-- That slots are indexed is a fact: it has one proof at most.
use Rattle.std.specs.Prelude.{ℕ, List}
use Rattle.state.specs.Props.{covered-prop}
use Rattle.slots.specs.Slotted.{Indexed}

pub indexed-prop : (t : List ℕ) (n : ℕ) (ps : List ℕ) → IsProp (Indexed t n ps)
indexed-prop t n ps a b = λ i. record { at = covered-prop a.at b.at i }
