use Rattle.compile.specs.Compiled.{stretch_block}
use Rattle.compile.proofs.Compiling.{compiles-none, compiles-stopped, compiles-done}
use Rattle.compile.proofs.compile_stretch.Goals as goal

pub returns-in_err-f : goal.returns-in_err-f
returns-in_err-f c = compiles-none c.requires.0 c.begin_main.ensures (stretch_block c.args.tree.now c.args.stretch) c.in_err-f.was c.from_residual.ensures

pub returns-in_err-emit_main : goal.returns-in_err-emit_main
returns-in_err-emit_main c =
    compiles-stopped c.requires.0 c.begin_main.ensures (stretch_block c.args.tree.now c.args.stretch) c.in_ok-f.was c.emit_main.ensures c.in_err-emit_main.was c.from_residual-in_err-emit_main.ensures

pub returns : goal.returns
returns c = compiles-done c.requires.0 c.begin_main.ensures (stretch_block c.args.tree.now c.args.stretch) c.in_ok-f.was c.emit_main.ensures c.in_ok-emit_main.was c.end_function.ensures
