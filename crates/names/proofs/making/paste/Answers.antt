use mathlib.Core.Path.{refl}
use Rattle.names.proofs.Pasting.{pasted-put}
use Rattle.names.proofs.making.paste.Goals as goal

pub returns : goal.returns
returns c = let a = c.args in (refl, pasted-put a.part.now a.at a.bytes.now _ c.copy_from_slice.ensures.after)
