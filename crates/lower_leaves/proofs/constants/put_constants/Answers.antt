use Prim.Native.Nat.{◌+◌, ◌-◌}
use mathlib.Core.Path.{refl}
use native.Mathlib.Omega.{arith}
use Rattle.lower_leaves.proofs.Runs.{run-part}
use Rattle.lower_leaves.proofs.constants.put_constants.Goals as goal

pub returns : goal.returns
returns c =
    let k = c.args.code.now in
    record {
      run = run-part (k.open + c.min-most.result - k.open) (omega (arith, k.code_room, k.code_limit, k.code_size, c.min-most.ensures)) (omega (arith, c.min-most.ensures)) (omega (arith, k.code_size, c.min-most.ensures)) c.run-n.ensures;
      size = refl;
      kept = record { base = refl; done = refl; limit = refl; area = refl };
    }
