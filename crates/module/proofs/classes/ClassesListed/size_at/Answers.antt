-- the methods are few
use native.Mathlib.Omega.{arith}
use mathlib.Core.Path.{ap}
use Prim.Native.Nat.{◌/◌, ◌%◌}
use lib.ListN.{length, get_or}
use Rattle.module.proofs.CodeLengths.{region-short, methods-room, classes-fewer, length-class}
use Rattle.module.proofs.classes.ClassesListed.size_at.Goals as goal

pub offset_bounds-self-i : goal.offset_bounds-self-i
offset_bounds-self-i c = let s = c.args.self.now in omega (arith, classes-fewer s.tree.now s.methods.now s.names.now s.places.now, c.requires)

pub bounds-self-i : goal.bounds-self-i
bounds-self-i c = let s = c.args.self.now in omega (arith, classes-fewer s.tree.now s.methods.now s.names.now s.places.now, c.requires)

pub methods_at-methods-requires : goal.methods_at-methods-requires
methods_at-methods-requires c = let s = c.args.self.now in omega (arith, classes-fewer s.tree.now s.methods.now s.names.now s.places.now, c.requires)

pub list_size-requires : goal.list_size-requires
list_size-requires c =
    let t = c.methods_at-methods.result in
    let k = get_or c.args.self.now.places.now c.args.i 0 in
    omega (arith, methods-room t.tree.now t.words.now t.tree_bytes, ap length c.methods_at-methods.ensures.words, region-short (k / 65536) (k % 65536) c.args.self.now.methods.now)

pub overflow_add-result-2 : goal.overflow_add-result-2
overflow_add-result-2 c =
    let t = c.methods_at-methods.result in
    let k = get_or c.args.self.now.places.now c.args.i 0 in
    omega (arith, c.list_size.ensures, methods-room t.tree.now t.words.now t.tree_bytes, ap length c.methods_at-methods.ensures.words, region-short (k / 65536) (k % 65536) c.args.self.now.methods.now)

pub returns : goal.returns
returns c =
    let n = length-class _ _ _ _ _ c.name_part-name.ensures.result_value c.methods_at-methods.ensures.tree c.methods_at-methods.ensures.words c.requires in
    omega (arith, n, c.list_size.ensures)
