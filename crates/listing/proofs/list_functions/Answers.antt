use native.Mathlib.Omega.{arith}
use Rattle.reader.proofs.Encoding.{Small}
use Rattle.tally.proofs.Calling.{functions-begin, few_bytes, few-functions}
use Rattle.listing.proofs.Answering.{listing-long, list_full, list_written}
use Rattle.listing.proofs.list_functions.Goals as goal

pub overflow_add-first : goal.overflow_add-first
overflow_add-first c = let k = (functions-begin _ _ c.requires).0 in omega arith

pub count_functions-lines-requires : goal.count_functions-lines-requires
count_functions-lines-requires c = (functions-begin _ _ c.requires).1

pub listing_size-requires : goal.listing_size-requires
listing_size-requires c = let b = few_bytes _ _ c.requires in let k = c.count_functions-lines.ensures.1 in omega arith

pub returns-then-out-listing_size : goal.returns-then-out-listing_size
returns-then-out-listing_size c = let small : Small c.args.bytes.now = λ i. (c.type_inv.bytes i).fits in list_full c.requires small c.count_functions-lines.ensures.0 c.listing_size.ensures c.if-out-listing_size.true

pub write_functions-requires : goal.write_functions-requires
write_functions-requires c =
    let small : Small c.args.bytes.now = λ i. (c.type_inv.bytes i).fits in
    let q = c.count_functions-lines.ensures in
    let q₀ = q.0 in
    let q₁ = q.1 in
    let b = few_bytes _ _ c.requires in
    let l = listing-long c.requires small q.0 c.listing_size.ensures in
    let h = c.if-out-listing_size.false in
    ((functions-begin _ _ c.requires).1, few-functions _ _ c.requires small, omega arith, omega arith)

pub returns : goal.returns
returns c =
    let small : Small c.args.bytes.now = λ i. (c.type_inv.bytes i).fits in
    list_written c.requires small c.count_functions-lines.ensures.0 c.listing_size.ensures c.if-out-listing_size.false c.write_functions.ensures
