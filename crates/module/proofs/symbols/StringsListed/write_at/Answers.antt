-- two bytes count the string's
use native.Mathlib.Omega.{arith}
use mathlib.Core.Path.{◌∙◌, sym, ap, subst}
use mathlib.Core.List.{List}
use Prim.Native.Nat.{ℕ}
use lib.ListN.{length, get_or}
use Rattle.writing.specs.Wrote.{Wrote}
use Rattle.module.proofs.Lengths.{worded, length-counted, text-short}
use Rattle.module.proofs.symbols.StringsListed.write_at.Goals as goal

pub write_counted-requires : goal.write_counted-requires
write_counted-requires c =
    let n = ap length (worded _ _ _ c.text_part.ensures.result_value c.requires.0) ∙ length-counted 2 _ in
    let a = c.args.self.now in
    let s = text-short a.tree.now (get_or a.entries.now c.args.i 0) a.tree_bytes in
    (omega (arith, ap length c.text_part.ensures.result_value, s), omega (arith, n, c.requires.1), omega arith)

pub returns : goal.returns
returns c =
    subst (λ (z : List ℕ). Wrote c.write_counted.result z c.args.out.now c.write_counted.new.out) (sym (worded _ _ _ c.text_part.ensures.result_value c.requires.0)) c.write_counted.ensures
