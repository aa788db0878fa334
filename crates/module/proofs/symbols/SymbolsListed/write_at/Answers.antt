-- a byte counts the name's bytes
use native.Mathlib.Omega.{arith}
use mathlib.Core.Path.{◌∙◌, sym, ap, subst}
use mathlib.Core.List.{List}
use Prim.Native.Nat.{ℕ}
use lib.ListN.{length, get_or}
use Rattle.writing.specs.Wrote.{Wrote}
use Rattle.module.proofs.Lengths.{named, length-counted, spelled-short}
use Rattle.module.proofs.symbols.SymbolsListed.write_at.Goals as goal

pub write_counted-requires : goal.write_counted-requires
write_counted-requires c =
    let n = ap length (named _ _ _ c.spelling.ensures.result_value c.requires.0) ∙ length-counted 1 _ in
    let a = c.args.self.now in
    let s = spelled-short a.tree.now a.made.now (get_or a.entries.now c.args.i 0) a.tree_bytes a.made_bytes in
    (omega (arith, ap length c.spelling.ensures.result_value, s), omega (arith, n, c.requires.1), omega arith)

pub returns : goal.returns
returns c =
    subst (λ (z : List ℕ). Wrote c.write_counted.result z c.args.out.now c.write_counted.new.out) (sym (named _ _ _ c.spelling.ensures.result_value c.requires.0)) c.write_counted.ensures
