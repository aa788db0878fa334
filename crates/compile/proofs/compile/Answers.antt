use Rattle.compile.proofs.Compiling.{top-counted, all-stands, all-compiles}
use Rattle.compile.proofs.compile.Goals as goal

pub u16_at-requires : goal.u16_at-requires
u16_at-requires c = top-counted c.requires.1

pub compile_stretch-requires : goal.compile_stretch-requires
compile_stretch-requires c = (c.requires.0, all-stands c.requires.1 _ c.u16_at.ensures.0)

pub returns-in-Set : goal.returns-in-Set
returns-in-Set c = all-compiles c.requires.1 _ c.u16_at.ensures.0 c.compile_stretch.ensures
