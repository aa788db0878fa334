use Prim.Native.Nat.{◌+◌, ◌-◌}
use mathlib.Core.Path.{refl}
use native.Mathlib.Omega.{arith}
use lib.ListN.{length}
use Rattle.std.proofs.lemmas.Slice.{put_mid-paste}
use Rattle.state.specs.State.{methods_from}
use Rattle.lower_classes.proofs.Nested.{ends-class}
use Rattle.lower_classes.proofs.end_class.Goals as goal

pub returns : goal.returns
returns c =
    let a = c.args in
    let from = methods_from + a.before.now in
    let n = length a.methods.now in
    ends-class a.i a.at (put_mid-paste from (from + n - from) a.entries.now.words.now c.copy_from_slice.new.self a.methods.now n c.copy_from_slice.ensures.after (omega arith) refl)
    (λ ts. record { made = refl; entries = refl; counts = λ code. refl; limits = λ code. refl; areas = λ code. record { words = refl; made = refl; entries = refl } })
