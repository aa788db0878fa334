-- One name, kept or passed over.
use mathlib.Core.Path.{refl}
use Rattle.slots.proofs.Referring.{keeping-name, keeping-kept, name-kept, name-left}
use Rattle.slots.proofs.captures.Captures.name.Goals as goal

pub add_at-self-requires : goal.add_at-self-requires
add_at-self-requires c =
    let k = keeping-name _ _ _ _ _ c.args.self.now.keeping c.requires in (
      c.args.self.now.keeping.indexed,
      k.0,
      k.1,
      k.2,
      c.bucket_at-b.ensures,
    )

pub invariant_of-self : goal.invariant_of-self
invariant_of-self c = record { keeping = keeping-kept _ _ _ _ _ c.is_free.ensures _ _ c.if-is_free.true _ _ c.add_at-self.ensures c.args.self.now.keeping c.add_at-self.auto.slots }

pub returns-then-is_free : goal.returns-then-is_free
returns-then-is_free c = record {
  names = name-kept c.args.self.now.around.tree.now c.args.self.now.around.slots.now c.args.self.now.marked _ _ c.is_free.ensures _ _ c.if-is_free.true _ _ c.add_at-self.ensures;
  same_around = refl;
  same_marks = refl;
  same_kept = refl;
}

pub returns-else-is_free : goal.returns-else-is_free
returns-else-is_free c = record {
  names = name-left c.args.self.now.around.tree.now c.args.self.now.around.slots.now c.args.self.now.marked _ _ c.is_free.ensures _ _ c.if-is_free.false;
  same_around = refl;
  same_marks = refl;
  same_kept = refl;
}
