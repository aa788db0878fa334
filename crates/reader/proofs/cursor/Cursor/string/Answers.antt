use mathlib.Core.Path.{sym}
use Rattle.definitions.specs.Bytes.{text}
use Rattle.definitions.specs.Utf8.{is_utf8}
use Rattle.reader.specs.View.{skip_at, string}
use Rattle.reader.proofs.Cursoring.{none-steps, tested-cut, tested-read, tested-fails, passed}
use Rattle.reader.proofs.cursor.Cursor.string.Goals as goal

pub returns-in_err-text : goal.returns-in_err-text
returns-in_err-text c = none-steps (skip_at string) c.from_residual.result c.args.self.now c.text.new.self c.from_residual.ensures (tested-cut is_utf8 text c.args.self.now c.in_err-text.ensures)

pub returns-then-is_utf8 : goal.returns-then-is_utf8
returns-then-is_utf8 c = passed string _ _ _ (tested-read is_utf8 text _ _ _ c.in_ok-text.ensures (sym c.if-is_utf8.ensures))

pub returns-else-is_utf8 : goal.returns-else-is_utf8
returns-else-is_utf8 c = tested-fails is_utf8 text _ _ _ c.in_ok-text.ensures (sym c.if-is_utf8.ensures)
