use Rattle.tree.proofs.TreeLaws.{top-read, top-said}
use Rattle.tree.proofs.check_top.Goals as goal

pub new-c-requires : goal.new-c-requires
new-c-requires c = c.requires.start

pub returns-in_err-check_stmt : goal.returns-in_err-check_stmt
returns-in_err-check_stmt c = top-read c.requires c.new-c.ensures c.in_err-check_stmt.ensures

pub returns : goal.returns
returns c = top-said c.requires c.new-c.ensures _ c.in_ok-check_stmt.ensures c.verdict.ensures
