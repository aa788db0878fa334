use native.Mathlib.Omega.{arith}
use mathlib.Core.Path.{refl, sym}
use Rattle.definitions.specs.Instruction.{instr}
use Rattle.state.specs.Words.{name_at}
use Rattle.lower_emit.proofs.Packing.{instr-plain}
use Rattle.lower_emit.proofs.Steps.{put-lifts, sound-next}
use Rattle.names.proofs.Spelling.{spelled-tree}
use Rattle.lower_names.proofs.Naming.{plain-with, symbol-put, symbol-over}
use Rattle.lower_names.proofs.Symbols.{interned}
use Rattle.lower_names.proofs.emit_symbol.Goals as goal

pub returns-in_err-i : goal.returns-in_err-i
returns-in_err-i c = let a = c.args in
    record {
      lowers = symbol-over (λ n. instr a.op n a.b) (name_at a.tree.now a.at) (interned c.requires.0 c.intern.ensures (sym (spelled-tree a.tree.now a.e.now.tables.names.made.now a.at c.requires.1))) c.in_err-i.was c.from_residual.ensures;
      made = c.intern.ensures.made;
    }

pub returns : goal.returns
returns c = let a = c.args in
    let h = interned c.requires.0 c.intern.ensures (sym (spelled-tree a.tree.now a.e.now.tables.names.made.now a.at c.requires.1)) in
    record {
      lowers = symbol-put (λ n. instr a.op n a.b) (name_at a.tree.now a.at) h c.in_ok-i.was
          (put-lifts (sound-next c.in_ok-i.was h.reaches) refl (instr-plain _ _ _ _ (plain-with _ _ _ (omega (arith, c.intern.ensures.below _ c.in_ok-i.was)) c.requires.2)) c.put_op.ensures);
      made = c.intern.ensures.made;
    }
