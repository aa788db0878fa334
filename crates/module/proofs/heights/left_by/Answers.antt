use mathlib.Core.Path.{refl, ap, ◌∙◌}
use Prim.Native.Nat.{ℕ}
use lib.Dec.{eqb}
use Rattle.definitions.specs.Instruction.{flow}
use Rattle.widths.specs.Turns.{turn}
use Rattle.module.proofs.Rising.{left-word}
use Rattle.module.proofs.heights.left_by.Goals as goal

pub returns : goal.returns
returns c =
    let r = c.height_onward.ensures in record {
      left = (λ t. left-word t _ c.args.h (c.opcode.ensures.0 t) refl refl r.left.0, r.left.1);
      onward = λ t. r.onward ∙ ap (λ (op : ℕ). eqb (turn (flow op)) 0) (c.opcode.ensures.0 t);
    }
