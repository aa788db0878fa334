-- the code is short
use native.Mathlib.Omega.{arith}
use mathlib.Core.Path.{ap}
use Prim.Native.Nat.{◌/◌, ◌%◌}
use lib.ListN.{length, get_or}
use Rattle.module.proofs.CodeLengths.{region-short, code-room, functions-fewer, length-function}
use Rattle.module.proofs.functions.FunctionsListed.size_at.Goals as goal

pub code_at-code-requires : goal.code_at-code-requires
code_at-code-requires c = let s = c.args.self.now in omega (arith, functions-fewer s.tree.now s.finished.now s.heads.now s.places.now, c.requires)

pub list_size-requires : goal.list_size-requires
list_size-requires c =
    let t = c.code_at-code.result in
    let k = get_or c.args.self.now.places.now c.args.i 0 in
    omega (arith, code-room t.tree.now t.words.now, ap length c.code_at-code.ensures.words, region-short (k / 65536) (k % 65536) c.args.self.now.finished.now)

pub overflow_add-result : goal.overflow_add-result
overflow_add-result c =
    let t = c.code_at-code.result in
    let k = get_or c.args.self.now.places.now c.args.i 0 in
    omega (arith, c.list_size.ensures, code-room t.tree.now t.words.now, ap length c.code_at-code.ensures.words, region-short (k / 65536) (k % 65536) c.args.self.now.finished.now)

pub returns : goal.returns
returns c =
    let n = length-function _ _ _ _ _ c.code_at-code.ensures.tree c.code_at-code.ensures.words c.requires in
    omega (arith, n, c.list_size.ensures)
