use Rattle.std.proofs.Common.{rules}
use Rattle.tree.proofs.TreeViews.{answer-accepted}
use Rattle.settle.proofs.Settling.{settles-checked, settles-full, settles-all}
use Rattle.settle.proofs.settle.Goals as goal

pub returns-in_err-check_tree : goal.returns-in_err-check_tree
returns-in_err-check_tree c = settles-checked (search rules) c.in_err-check_tree.ensures

pub compile-requires : goal.compile-requires
compile-requires c = (c.requires, answer-accepted _ _ c.in_ok-check_tree.ensures)

pub returns-in-Some : goal.returns-in-Some
returns-in-Some c = settles-all (answer-accepted _ _ c.in_ok-check_tree.ensures) c.compile.ensures c.in-Some.is

pub full_by-requires : goal.full_by-requires
full_by-requires c = answer-accepted _ _ c.in_ok-check_tree.ensures

pub returns-in-None : goal.returns-in-None
returns-in-None c = settles-full (answer-accepted _ _ c.in_ok-check_tree.ensures) c.compile.ensures c.in-None.is c.full_by.ensures
