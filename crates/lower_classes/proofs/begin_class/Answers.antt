use mathlib.Core.Path.{refl}
use Rattle.lower_classes.proofs.Nested.{begins-class-over, begins-class}
use Rattle.lower_classes.proofs.begin_class.Goals as goal

pub returns-then-classes-n : goal.returns-then-classes-n
returns-then-classes-n c = begins-class-over c.args.at c.if-classes-n.true

pub returns : goal.returns
returns c = begins-class c.args.at c.if-classes-n.false refl refl (λ ts. record { made = refl; entries = refl; counts = λ code. refl; limits = λ code. refl; areas = λ code. record { words = refl; made = refl; entries = refl } })
