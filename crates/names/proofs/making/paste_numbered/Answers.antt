use native.Mathlib.Omega.{arith}
use Rattle.definitions.specs.Bytes.{decimal}
use Rattle.names.proofs.Pasting.{three-length, paste-three}
use Rattle.names.proofs.making.paste_numbered.Goals as goal

pub paste-p-requires : goal.paste-p-requires
paste-p-requires c = let a = c.args in let n = three-length a.head.now (decimal a.n) a.tail.now in omega arith

pub paste_decimal-q-requires : goal.paste_decimal-q-requires
paste_decimal-q-requires c = let a = c.args in let n = three-length a.head.now (decimal a.n) a.tail.now in let k = c.paste-p.auto.bytes in let e = c.paste-p.ensures.0 in omega arith

pub paste-requires : goal.paste-requires
paste-requires c =
    let a = c.args in
    let n = three-length a.head.now (decimal a.n) a.tail.now in
    let j = c.paste_decimal-q.auto.bytes in
    let k = c.paste-p.auto.bytes in
    let e = c.paste-p.ensures.0 in
    let f = c.paste_decimal-q.ensures.0 in
    omega arith

pub returns : goal.returns
returns c = let a = c.args in paste-three a.head.now (decimal a.n) a.tail.now a.at _ _ _ a.bytes.now _ _ _ c.requires c.paste-p.ensures c.paste_decimal-q.ensures c.paste.ensures
