-- the count is written
use native.Mathlib.Omega.{arith}
use mathlib.Core.Path.{ap}
use mathlib.Core.List.{List, [], ◌∷◌, ◌++◌}
use lib.ListN.{length, length-append}
use Rattle.definitions.specs.Bytes.{be}
use Rattle.definitions.proofs.BytesWritten.{length-be}
use Rattle.writing.proofs.Begun.{Begun, joined-one, begun_first, begun-fits, begun-piece, begun-next, begun-done}
use Rattle.writing.proofs.numbers.write_counted.Goals as goal

pub slice_bounds-write_bytes-count : goal.slice_bounds-write_bytes-count
slice_bounds-write_bytes-count c =
    let counted : let x = c.args.bytes.now in
    Begun (be c.args.w (length x) ++ x) c.args.out.now c.write_number-at.result c.write_number-at.new.out (x ∷ []) =
    let x = c.args.bytes.now in
    let d = be c.args.w (length x) in
    begun_first (ap (λ (z : List _). d ++ z) (joined-one x)) (let k = length-append d x in let j = length-be c.args.w (length x) in omega (arith, c.requires.1)) c.write_number-at.ensures in
    omega (arith, begun-fits counted)

pub slice_bounds-write_bytes-start : goal.slice_bounds-write_bytes-start
slice_bounds-write_bytes-start c =
    let counted : let x = c.args.bytes.now in
    Begun (be c.args.w (length x) ++ x) c.args.out.now c.write_number-at.result c.write_number-at.new.out (x ∷ []) =
    let x = c.args.bytes.now in
    let d = be c.args.w (length x) in
    begun_first (ap (λ (z : List _). d ++ z) (joined-one x)) (let k = length-append d x in let j = length-be c.args.w (length x) in omega (arith, c.requires.1)) c.write_number-at.ensures in
    omega (arith, begun-fits counted)

pub write_bytes-requires : goal.write_bytes-requires
write_bytes-requires c =
    let counted : let x = c.args.bytes.now in
    Begun (be c.args.w (length x) ++ x) c.args.out.now c.write_number-at.result c.write_number-at.new.out (x ∷ []) =
    let x = c.args.bytes.now in
    let d = be c.args.w (length x) in
    begun_first (ap (λ (z : List _). d ++ z) (joined-one x)) (let k = length-append d x in let j = length-be c.args.w (length x) in omega (arith, c.requires.1)) c.write_number-at.ensures in
    begun-piece counted

pub overflow_add-result : goal.overflow_add-result
overflow_add-result c =
    let counted : let x = c.args.bytes.now in
    Begun (be c.args.w (length x) ++ x) c.args.out.now c.write_number-at.result c.write_number-at.new.out (x ∷ []) =
    let x = c.args.bytes.now in
    let d = be c.args.w (length x) in
    begun_first (ap (λ (z : List _). d ++ z) (joined-one x)) (let k = length-append d x in let j = length-be c.args.w (length x) in omega (arith, c.requires.1)) c.write_number-at.ensures in
    omega (arith, begun-fits counted, c.write_bytes.ensures.count)

pub returns : goal.returns
returns c =
    let counted : let x = c.args.bytes.now in
    Begun (be c.args.w (length x) ++ x) c.args.out.now c.write_number-at.result c.write_number-at.new.out (x ∷ []) =
    let x = c.args.bytes.now in
    let d = be c.args.w (length x) in
    begun_first (ap (λ (z : List _). d ++ z) (joined-one x)) (let k = length-append d x in let j = length-be c.args.w (length x) in omega (arith, c.requires.1)) c.write_number-at.ensures in
    begun-done (begun-next counted c.write_bytes.ensures)
