use Rattle.compile.specs.Compiled.{tree_block}
use Rattle.compile.proofs.Compiling.{compiles-none, compiles-stopped, compiles-done}
use Rattle.compile.proofs.compile_measured.Goals as goal

pub returns-in_err-f : goal.returns-in_err-f
returns-in_err-f c = compiles-none c.requires.0 c.begin_main.ensures (tree_block c.args.tree.now) c.in_err-f.was c.from_residual.ensures

pub returns-in_err-write_main : goal.returns-in_err-write_main
returns-in_err-write_main c =
    compiles-stopped c.requires.0 c.begin_main.ensures (tree_block c.args.tree.now) c.in_ok-f.was c.write_main.ensures c.in_err-write_main.was c.from_residual-in_err-write_main.ensures

pub returns : goal.returns
returns c = compiles-done c.requires.0 c.begin_main.ensures (tree_block c.args.tree.now) c.in_ok-f.was c.write_main.ensures c.in_ok-write_main.was c.end_function.ensures
