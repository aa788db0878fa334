use Rattle.std.proofs.Common.{rules}
use Rattle.tree.proofs.TreeLaws.{head-refuses, head-starts, block-refuses, block-settles}
use Rattle.tree.proofs.check_tree.Goals as goal

pub returns-in_err-check_header : goal.returns-in_err-check_header
returns-in_err-check_header c = head-refuses _ (search rules) c.in_err-check_header.ensures

pub new-c-requires : goal.new-c-requires
new-c-requires c = head-starts _ _ c.in_ok-check_header.ensures

pub returns-in_err-check_block : goal.returns-in_err-check_block
returns-in_err-check_block c = block-refuses _ c.in_ok-check_header.ensures c.new-c.ensures (search rules) c.in_err-check_block.ensures

pub returns : goal.returns
returns c = block-settles _ _ c.in_ok-check_header.ensures c.new-c.ensures c.in_ok-check_block.ensures c.settle.ensures
