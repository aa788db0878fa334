use native.Mathlib.Omega.{arith}
use Rattle.reader.proofs.Encoding.{Small}
use Rattle.tally.proofs.Calling.{functions-begin, few-functions}
use Rattle.sheet.proofs.Answering.{few-instructions, sheet-long, sheet-full, sheet-written}
use Rattle.sheet.proofs.sheet_functions.Goals as goal

pub overflow_add-functions : goal.overflow_add-functions
overflow_add-functions c = let small : Small c.args.bytes.now = λ i. (c.type_inv.bytes i).fits in let k = few-functions _ _ c.requires small in omega arith

pub overflow_mul-functions : goal.overflow_mul-functions
overflow_mul-functions c = let small : Small c.args.bytes.now = λ i. (c.type_inv.bytes i).fits in let k = few-functions _ _ c.requires small in omega arith

pub returns-then-out-functions : goal.returns-then-out-functions
returns-then-out-functions c = let small : Small c.args.bytes.now = λ i. (c.type_inv.bytes i).fits in sheet-full c.requires small c.if-out-functions.true

pub overflow_add-functions-2 : goal.overflow_add-functions-2
overflow_add-functions-2 c = let k = (functions-begin _ _ c.requires).0 in omega arith

pub write_sheet-requires : goal.write_sheet-requires
write_sheet-requires c =
    let small : Small c.args.bytes.now = λ i. (c.type_inv.bytes i).fits in
    let l = sheet-long c.requires small in
    let h = c.if-out-functions.false in
    ((functions-begin _ _ c.requires).1, few-functions _ _ c.requires small, few-instructions c.requires small, omega arith)

pub returns : goal.returns
returns c = let small : Small c.args.bytes.now = λ i. (c.type_inv.bytes i).fits in sheet-written c.requires small c.if-out-functions.false c.write_sheet.ensures
