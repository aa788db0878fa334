use Rattle.std.proofs.Common.{rules}
use Rattle.reader.proofs.StringLaws.{takes-string}
use Rattle.reader.specs.View.{skip_at, string}
use Rattle.reader.proofs.Cursoring.{plain-steps}
use Rattle.reader.proofs.cursor.Cursor.strings.Goals as goal

pub returns : goal.returns
returns c = plain-steps string takes-string c.list.result c.args.self.now c.list.new.self (c.list.ensures (skip_at string) (λ s r d e. search rules))
