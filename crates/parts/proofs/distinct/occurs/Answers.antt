use Rattle.tree_view.proofs.NameLaws.{same-as, occurs-again, there-first, member-found, member-none}
use mathlib.Core.Path.{◌≡◌, sym, ◌∙◌}
use Rattle.std.proofs.Common.{◌+◌, ◌-◌, arith}
use Rattle.parts.proofs.distinct.occurs.Goals as goal

pub name_part-requires-in-loop : goal.name_part-requires-in-loop
name_part-requires-in-loop c = there-first _ _ _ (omega arith) c.loop.invariant.1

pub returns-then-same_bytes : goal.returns-then-same_bytes
returns-then-same_bytes c = sym (c.loop.invariant.0 ∙ member-found _ _ _ _ (omega arith) (same-as _ _ _ _ _ _ c.same_bytes.ensures c.name_part.ensures.result_value c.name_part-in-loop.ensures.result_value c.if-same_bytes.true))

pub name_end-p-requires : goal.name_end-p-requires
name_end-p-requires c = there-first _ _ _ (omega arith) c.loop.invariant.1

pub loop-preserved : goal.loop-preserved
loop-preserved c =
    let z : c.args.n - (c.loop.counter + 1) ≡ c.args.n - c.loop.counter - 1 = omega arith in
    let o = same-as _ _ _ _ _ _ c.same_bytes.ensures c.name_part.ensures.result_value c.name_part-in-loop.ensures.result_value c.if-same_bytes.false in
    let r = occurs-again _ _ _ _ _ c.name_end-p.ensures (omega arith) c.loop.invariant.1 o in
    rw z (c.loop.invariant.0 ∙ r.0, r.1)

pub returns : goal.returns
returns c = sym (c.loop.invariant.0 ∙ member-none _ _ _ _ (omega arith))
