-- how long the lists are
use native.Mathlib.Omega.{arith}
use Rattle.module.proofs.Whole.{texts-fit}
use Rattle.module.proofs.sections.Lowered.texts_size.Goals as goal

pub list_size-requires : goal.list_size-requires
list_size-requires c =
    let s = c.symbols-symbols in let t = c.strings-strings in
    let a = c.args.self.now in
    let h = texts-fit a.tree.now a.made.now a.tables.now a.counts s.ensures.tree s.ensures.made s.ensures.entries t.ensures.tree t.ensures.entries
    s.result.tree_bytes s.result.made_bytes t.result.tree_bytes a.roomy.symbols a.roomy.strings in
    omega (arith, h)

pub list_size-requires-2 : goal.list_size-requires-2
list_size-requires-2 c =
    let s = c.symbols-symbols in let t = c.strings-strings in
    let a = c.args.self.now in
    let h = texts-fit a.tree.now a.made.now a.tables.now a.counts s.ensures.tree s.ensures.made s.ensures.entries t.ensures.tree t.ensures.entries
    s.result.tree_bytes s.result.made_bytes t.result.tree_bytes a.roomy.symbols a.roomy.strings in
    omega (arith, h)

pub overflow_add-result : goal.overflow_add-result
overflow_add-result c =
    let s = c.symbols-symbols in let t = c.strings-strings in
    let a = c.args.self.now in
    let h = texts-fit a.tree.now a.made.now a.tables.now a.counts s.ensures.tree s.ensures.made s.ensures.entries t.ensures.tree t.ensures.entries
    s.result.tree_bytes s.result.made_bytes t.result.tree_bytes a.roomy.symbols a.roomy.strings in
    omega (arith, h, c.list_size.ensures, c.list_size-2.ensures)

pub returns : goal.returns
returns c =
    let s = c.symbols-symbols in let t = c.strings-strings in
    let a = c.args.self.now in
    let h = texts-fit a.tree.now a.made.now a.tables.now a.counts s.ensures.tree s.ensures.made s.ensures.entries t.ensures.tree t.ensures.entries
    s.result.tree_bytes s.result.made_bytes t.result.tree_bytes a.roomy.symbols a.roomy.strings in
    (omega (arith, h, c.list_size.ensures, c.list_size-2.ensures), omega (arith, h, c.list_size.ensures, c.list_size-2.ensures))
