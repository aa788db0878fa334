use mathlib.Core.Path.{sym, subst, ◌∙◌}
use Rattle.state.specs.State.{tables_of}
use Rattle.state.specs.declared.Counts.{Counts}
use Rattle.module.specs.Sections.{Roomy}
use Rattle.lowering.proofs.Answering.{room-refuses, room-writes}
use Rattle.lowering.proofs.write_tables.Goals as goal

pub new-lowered-requires : goal.new-lowered-requires
new-lowered-requires c = subst (λ (k : Counts). Roomy c.args.e.now.code.words.now c.args.e.now.tables.entries.words.now k) (sym c.counts.ensures) c.requires

pub returns-then-out-size : goal.returns-then-out-size
returns-then-out-size c =
    let n = c.new-lowered.ensures in
    room-refuses _ _ (λ i. tables_of (n.tree i) (n.made i) (n.code i) (n.tables i) ((n.counts ∙ c.counts.ensures) i)) c.size-size.ensures.0 c.if-out-size.true

pub returns : goal.returns
returns c =
    let n = c.new-lowered.ensures in
    room-writes _ _ (λ i. tables_of (n.tree i) (n.made i) (n.code i) (n.tables i) ((n.counts ∙ c.counts.ensures) i)) c.size-size.ensures.0 c.if-out-size.false c.write-n.ensures
