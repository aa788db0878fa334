use mathlib.Core.Path.{ap, ◌∙◌}
use mathlib.Core.Bool.{Bool, ◌&&◌}
use Rattle.std.proofs.Common.{rules}
use Rattle.reader.specs.Asks.{ask_next, has_function}
use Rattle.reader.proofs.Cursoring.{match-map, function-has}
use Rattle.reader.proofs.classes.ask_next.Goals as goal

pub returns-then-below_bytes : goal.returns-then-below_bytes
unfolding ask_next
returns-then-below_bytes c =
    function-has c.args.asked c.numbers.result c.is_none_or.result c.args.function c.numbers.ensures (match-map c.numbers.result (λ x. x) (λ k p. search rules) c.is_none_or.ensures)
    ∙ ap (λ (b : Bool). b && has_function c.args.asked c.args.function) c.if-below_bytes.ensures
