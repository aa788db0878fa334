use Prim.Native.Nat.{◌-◌, ◌+◌}
use mathlib.Core.Path.{ap, ◌∙◌}
use mathlib.Core.List.{List}
use native.Mathlib.Omega.{arith}
use lib.ListN.{set}
use Prim.Native.Nat.{ℕ}
use borrow.Rule.Slice.PartMut.{put_mid}
use Rattle.state.specs.Words.{word}
use Rattle.lower_emit.proofs.Packing.{instr-back}
use Rattle.lower_emit.proofs.Writing.{word-writes}
use Rattle.lower_emit.proofs.Ends.{loop-full, loop-done}
use Rattle.lower_emit.proofs.emitter.Code.end_loop.Goals as goal

pub returns-in_err-put_op : goal.returns-in_err-put_op
returns-in_err-put_op c =
    let s = c.args.self.now in
    loop-full c.args.start c.args.inside c.requires.0 c.requires.1 (word-writes (λ t. instr-back t _ (omega arith) (omega (arith, s.code_size, s.code_limit, c.requires.1))) c.put_op.ensures) c.in_err-put_op.was c.from_residual.ensures

pub returns : goal.returns
returns c =
    let s = c.args.self.now in
    let a = c.args in
    let k = c.set_jump.ensures.kept in
    loop-done {b = c.put_op.new.self} a.start a.inside c.requires.0 c.requires.1 (word-writes (λ t. instr-back t _ (omega arith) (omega (arith, s.code_size, s.code_limit, c.requires.1))) c.put_op.ensures) c.in_ok-put_op.was
    (record { base = k.base; done = k.done; limit = k.limit; area = k.area }) c.set_jump.ensures.size
    (c.set_jump.ensures.words
    ∙ ap (λ (ys : List ℕ). set (put_mid a.inside (s.open - a.inside) c.put_op.new.self.words.now ys) (a.inside - 1) (word 29 (s.open - a.inside + 1) 0)) c.patch_words.ensures)
