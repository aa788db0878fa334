use native.Mathlib.Omega.{arith}
use mathlib.Core.Path.{refl}
use Rattle.definitions.specs.Instruction.{ConstStr}
use Rattle.state.specs.Words.{text_at}
use Rattle.lower_emit.proofs.Packing.{instr-plain, plain-below}
use Rattle.lower_emit.proofs.Steps.{code-none, put-lifts, sound-next}
use Rattle.lower_names.proofs.Naming.{string-put, string-over}
use Rattle.lower_names.proofs.emit_string.Goals as goal

pub returns-in_err-i : goal.returns-in_err-i
returns-in_err-i c = let a = c.args in
    record {
      lowers = λ ts S. string-over (λ n. ConstStr n) (text_at a.tree.now a.at) ((c.string_number.ensures.tables ts).numbers a.code.now S) c.in_err-i.was c.from_residual.ensures;
      kept = code-none;
      limit = c.string_number.ensures.limit;
      entries = c.string_number.ensures.entries;
    }

pub returns : goal.returns
returns c = let a = c.args in
    record {
      lowers = λ ts S.
          let h = (c.string_number.ensures.tables ts).numbers a.code.now S in
          let b = c.string_number.ensures.below _ c.in_ok-i.was in
          string-put (λ n. ConstStr n) (text_at a.tree.now a.at) h c.in_ok-i.was
          (put-lifts (sound-next c.in_ok-i.was h.reaches) refl (instr-plain _ 2 _ 0 (plain-below 2 _ 0 (omega arith) (omega arith) (omega (arith, b)) (omega arith))) c.put_op.ensures);
      kept = c.put_op.ensures.kept;
      limit = c.string_number.ensures.limit;
      entries = c.string_number.ensures.entries;
    }
