use Prim.Native.Nat.{ℕ, ◌+◌}
use native.Mathlib.Omega.{arith}
use mathlib.Core.Path.{◌≡◌, sym, ap, ◌∙◌}
use Rattle.std.proofs.Common.{rules}
use Rattle.std.proofs.lemmas.Option.{none-some}
use Rattle.definitions.specs.Instruction.{instr}
use Rattle.definitions.specs.Tables.{one}
use Rattle.lower_emit.proofs.Packing.{instr-plain, instr-place, instr-small, plain-below}
use Rattle.lower_emit.proofs.Steps.{lowers-by, lowers-some, lowers-none}
use Rattle.lower_leaves.proofs.Lambdas.{inside-place, small_is}
use Rattle.lower_leaves.proofs.LiteralForms.{constant_kind, constant-is, int_is, double_is, text-is}
use Rattle.lower_leaves.proofs.Quoting.{word-quotes}
use Rattle.lower_leaves.proofs.literals.emit_literal.Goals as goal

pub constant_op-requires : goal.constant_op-requires
constant_op-requires c = constant_kind _ c.in-None.is

pub returns-in-None : goal.returns-in-None
returns-in-None c =
    let k = constant_kind _ c.in-None.is in
    let v = constant-is _ _ _ c.requires.2 c.requires.3 k in
    let o = c.constant_op.ensures in
    word-quotes c.map.ensures.variant (λ n e. (let p : n ≡ c.args.at + 1 = search rules in p) ∙ sym v.1)
    (instr-plain _ _ 0 0 (plain-below _ 0 0 (omega (arith, o, k)) (omega (arith, o)) (omega arith) (omega arith))) c.put_op.ensures (v.0 ∙ ap (λ (op : ℕ). one (instr op 0 0)) (sym o))

pub returns-in-Ok : goal.returns-in-Ok
returns-in-Ok c =
    let v = small_is _ _ _ _ _ c.requires.2 c.requires.3 c.in-Int.is (c.in-Ok.ensures.1 ∙ c.literal_bits.ensures) in
    word-quotes c.map-in-Ok.ensures.variant (λ n e. (let p : n ≡ c.args.at + 9 = search rules in p) ∙ sym v.1) (instr-small _ _ (omega (arith, c.in-Ok.ensures))) c.put_op-in-Ok.ensures v.0

pub returns-in-Err : goal.returns-in-Err
returns-in-Err c =
    let v = int_is _ _ _ c.requires.2 c.requires.3 _ c.in-Int.is in
    word-quotes c.map-in-Err.ensures.variant (λ n e. (let p : n ≡ c.args.at + 9 = search rules in p) ∙ sym v.1) (instr-place _ 0 _ (omega arith) (inside-place c.requires.2 c.requires.1)) c.put_op-in-Err.ensures v.0

pub returns-in-Float : goal.returns-in-Float
returns-in-Float c =
    let v = double_is _ _ _ c.requires.2 c.requires.3 c.in-Float.is in
    word-quotes c.map-in-Float.ensures.variant (λ n e. (let p : n ≡ c.args.at + 9 = search rules in p) ∙ sym v.1) (instr-place _ 1 _ (omega arith) (inside-place c.requires.2 c.requires.1)) c.put_op-in-Float.ensures v.0

pub overflow_sub-start : goal.overflow_sub-start
overflow_sub-start c = let v = text-is _ _ _ c.requires.2 c.requires.3 _ _ c.in-Text.is c.requires.5 in omega (arith, v.0)

pub emit_string-requires : goal.emit_string-requires
emit_string-requires c = let v = text-is _ _ _ c.requires.2 c.requires.3 _ _ c.in-Text.is c.requires.5 in (c.requires.0, omega (arith, v.1, c.requires.1))

pub returns-in_err-emit_string-in-Text : goal.returns-in_err-emit_string-in-Text
returns-in_err-emit_string-in-Text c =
    let v = (text-is _ _ _ c.requires.2 c.requires.3 _ _ c.in-Text.is c.requires.5).2 in
    let e = c.from_residual.ensures in
    record {
      place = λ n q. absurd (none-some n (sym e ∙ q));
      quotes = record {
        lowers = λ ts S. lowers-by (lowers-none c.in_err-emit_string-in-Text.was e (c.emit_string.ensures.lowers ts S)) v.0;
        kept = c.emit_string.ensures.kept;
        limit = c.emit_string.ensures.limit;
        entries = c.emit_string.ensures.entries;
      };
    }

pub overflow_add-result : goal.overflow_add-result
overflow_add-result c = let v = text-is _ _ _ c.requires.2 c.requires.3 _ _ c.in-Text.is c.requires.5 in omega (arith, v.1, c.requires.1)

pub returns-in_ok-emit_string-in-Text : goal.returns-in_ok-emit_string-in-Text
returns-in_ok-emit_string-in-Text c =
    let v = (text-is _ _ _ c.requires.2 c.requires.3 _ _ c.in-Text.is c.requires.5).2 in
    record {
      place = λ n q. (let p : n ≡ c.in-Text.start + c.in-Text.len = cc in p) ∙ sym v.1;
      quotes = record {
        lowers = λ ts S. lowers-by (lowers-some c.in_ok-emit_string-in-Text.was (c.emit_string.ensures.lowers ts S)) v.0;
        kept = c.emit_string.ensures.kept;
        limit = c.emit_string.ensures.limit;
        entries = c.emit_string.ensures.entries;
      };
    }
