use mathlib.Core.Path.{sym, ◌∙◌}
use Rattle.std.proofs.Common.{rules}
use Rattle.definitions.specs.Bytes.{field, checked}
use Rattle.reader.specs.View.{skip_at}
use Rattle.reader.specs.Asks.{ask_constant}
use Rattle.reader.proofs.Cursoring.{none-steps, match-map, number-short, number-read, tested-cut, tested-read, tested-fails, passed, class-has}
use Rattle.reader.proofs.cursor.Cursor.constant.Goals as goal

pub returns-in_err-class : goal.returns-in_err-class
returns-in_err-class c =
    let s = c.args.self.now in let q = c.args.asked in
    none-steps (skip_at (checked (ask_constant q) (field 2))) c.from_residual.result s c.number.new.self c.from_residual.ensures
    (tested-cut (ask_constant q) (field 2) s (number-short 2 s c.in_err-class.ensures))

pub returns-then-is_none_or : goal.returns-then-is_none_or
returns-then-is_none_or c =
    let k = c.in_ok-class.ensures in let s = c.args.self.now in let d = c.number.new.self in let n = c.in_ok-class.class in
    let h = class-has c.args.asked c.numbers.result c.is_none_or.result n c.numbers.ensures (match-map c.numbers.result (λ x. x) (λ k p. search rules) c.is_none_or.ensures) in
    passed (checked (ask_constant c.args.asked) (field 2)) n s d (tested-read (ask_constant c.args.asked) (field 2) s n d (number-read 2 n s d k.0 k.1) (sym h ∙ c.if-is_none_or.true))

pub returns-else-is_none_or : goal.returns-else-is_none_or
returns-else-is_none_or c =
    let k = c.in_ok-class.ensures in let s = c.args.self.now in let d = c.number.new.self in let n = c.in_ok-class.class in
    let h = class-has c.args.asked c.numbers.result c.is_none_or.result n c.numbers.ensures (match-map c.numbers.result (λ x. x) (λ k p. search rules) c.is_none_or.ensures) in
    tested-fails (ask_constant c.args.asked) (field 2) s n d (number-read 2 n s d k.0 k.1) (sym h ∙ c.if-is_none_or.false)
