use mathlib.Core.Path.{sym, ap, ◌∙◌}
use native.Mathlib.Omega.{arith}
use Prim.Native.Nat.{ℕ}
use mathlib.Core.List.{[], ◌∷◌}
use Rattle.definitions.specs.Bytes.{counted, checked}
use Rattle.definitions.specs.Reader.{instruction, function_record}
use Rattle.reader.specs.View.{skip_at}
use Rattle.reader.specs.Asks.{ask_code, ask_function}
use Rattle.reader.proofs.Cursoring.{none-steps, goes-on}
use Rattle.reader.proofs.FunctionLaws.{short-function, function-head, function-fails}
use Rattle.reader.proofs.cursor.Cursor.function.Goals as goal

pub returns-in_err-head : goal.returns-in_err-head
returns-in_err-head c =
    let s = c.args.self.now in let i = s.inside in let m = c.in_err-head.ensures in
    none-steps (skip_at (checked (ask_function c.args.asked) function_record)) c.from_residual.result s c.head.new.self c.from_residual.ensures (short-function s.bytes.now s.at c.args.asked i (omega arith))

pub returns-then-ask_head : goal.returns-then-ask_head
returns-then-ask_head c =
    let s = c.args.self.now in let t = s.bytes.now in let q = c.args.asked in let d = c.head.new.self in let h = c.in_ok-head.head in let k = c.in_ok-head.ensures in
    let code = checked (ask_code q h.count h.slots 0) (counted [] ◌∷◌ instruction h.count) in
    let room = k.0.room in
    goes-on (skip_at (checked (ask_function q) function_record)) (skip_at code) c.code.result s d c.code.new.self k.0.bytes
    (function-head t s.at q (omega arith) h.name h.slots h.count k.1 k.2 k.3 (sym c.if-ask_head.ensures) ∙ ap (λ (m : ℕ). skip_at code t m) (sym k.0.at)) c.code.ensures

pub returns-else-ask_head : goal.returns-else-ask_head
returns-else-ask_head c =
    let s = c.args.self.now in let h = c.in_ok-head.head in let k = c.in_ok-head.ensures in let room = k.0.room in
    function-fails s.bytes.now s.at c.args.asked (omega arith) h.name h.slots h.count k.1 k.2 k.3 (sym c.if-ask_head.ensures)
