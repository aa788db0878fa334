use mathlib.Core.Path.{refl}
use Rattle.lower_classes.proofs.Nested.{adds_constant}
use Rattle.lower_classes.proofs.add_constant.Goals as goal

pub returns : goal.returns
returns c = adds_constant c.args.i (record { made = refl; entries = refl; counts = λ code. refl; limits = λ code. refl; areas = λ code. record { words = refl; made = refl; entries = refl } })
