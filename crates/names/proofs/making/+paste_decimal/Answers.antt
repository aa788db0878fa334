use native.Mathlib.Omega.{arith}
use lib.ListN.{length-set}
use Rattle.definitions.proofs.Decimals.{one-digit, more-digits}
use Rattle.names.proofs.Pasting.{paste-digit, paste-digits}
use Rattle.names.proofs.making.+paste_decimal.Goals as goal

pub bounds-bytes-at : goal.bounds-bytes-at
bounds-bytes-at t c = let a = c.args in let h = c.requires in let k = one-digit a.n c.if-n-lt10.true in omega arith

pub overflow_add-result : goal.overflow_add-result
overflow_add-result t c = let a = c.args in let h = c.requires in let k = one-digit a.n c.if-n-lt10.true in omega arith

pub shape_of-bytes-then-n-lt10 : goal.shape_of-bytes-then-n-lt10
shape_of-bytes-then-n-lt10 t c = simp length-set

pub returns-then-n-lt10 : goal.returns-then-n-lt10
returns-then-n-lt10 t c = let a = c.args in let h = c.requires in let k = one-digit a.n c.if-n-lt10.true in (omega arith, paste-digit a.at a.n a.bytes.now c.if-n-lt10.true h)

pub paste_decimal-p-requires : goal.paste_decimal-p-requires
paste_decimal-p-requires t c = let a = c.args in let h = c.requires in let k = more-digits a.n c.if-n-lt10.false in (omega arith, omega arith)

pub bounds-bytes-p : goal.bounds-bytes-p
bounds-bytes-p t c = let a = c.args in let h = c.requires in let g = c.if-n-lt10.false in let k = more-digits a.n g in let e = c.paste_decimal-p.ensures in let q = c.paste_decimal-p.auto.bytes in omega arith

pub overflow_add-result-2 : goal.overflow_add-result-2
overflow_add-result-2 t c = let a = c.args in let h = c.requires in let g = c.if-n-lt10.false in let k = more-digits a.n g in let e = c.paste_decimal-p.ensures in omega arith

pub shape_of-bytes : goal.shape_of-bytes
shape_of-bytes t c = let a = c.args in let h = c.requires in let g = c.if-n-lt10.false in let k = more-digits a.n g in let e = c.paste_decimal-p.ensures in simp length-set c.paste_decimal-p.auto.bytes

pub returns : goal.returns
returns t c =
    let a = c.args in
    let h = c.requires in
    let g = c.if-n-lt10.false in
    let k = more-digits a.n g in
    let e = c.paste_decimal-p.ensures in
    (omega arith, paste-digits a.at a.n c.paste_decimal-p.result a.bytes.now c.paste_decimal-p.new.bytes g h e.0 e.1)
