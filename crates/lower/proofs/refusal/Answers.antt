-- The three parts of the line stand one after the other; a number of 32 bits has at most ten digits.
use Rattle.std.proofs.Common.{sym, arith}
use Rattle.definitions.proofs.Decimals.{length-decimal}
use Rattle.lower.proofs.Answering.{line-pasted}
use Rattle.lower.proofs.refusal.Goals as goal

pub paste_decimal-end-requires : goal.paste_decimal-end-requires
paste_decimal-end-requires c = let d = length-decimal 9 c.number.result (omega arith) in omega arith

pub paste-n-requires : goal.paste-n-requires
paste-n-requires c = let d = length-decimal 9 c.number.result (omega arith) in omega arith

pub slice_bounds-result-end : goal.slice_bounds-result-end
slice_bounds-result-end c =
    (line-pasted c.number.result _ _ _ c.args.out.now _ _ _ (omega arith) c.requires c.paste-number.ensures c.paste_decimal-end.ensures c.paste-n.ensures).counts.1

pub returns : goal.returns
returns c =
    rw (sym c.number.ensures) (line-pasted c.number.result _ _ _ c.args.out.now _ _ _ (omega arith) c.requires c.paste-number.ensures c.paste_decimal-end.ensures c.paste-n.ensures).bytes
