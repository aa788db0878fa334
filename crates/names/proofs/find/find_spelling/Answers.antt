use Prim.Native.Nat.{ℕ}
use mathlib.Core.Path.{sym, ◌∙◌}
use Rattle.definitions.specs.Bytes.{same}
use Rattle.state.specs.State.{spelled}
use Rattle.names.proofs.Finding.{seek-start, seek-here, seek-next, seek-end, position-map}
use Rattle.names.proofs.find.find_spelling.Goals as goal

pub loop-i-init : goal.loop-i-init
loop-i-init c = let a = c.args in seek-start (λ (w : ℕ). same a.name.now (spelled a.tree.now a.made.now w)) a.words.now

pub returns-then-is_spelled : goal.returns-then-is_spelled
returns-then-is_spelled c =
    let a = c.args in
    seek-here (λ (w : ℕ). same a.name.now (spelled a.tree.now a.made.now w)) a.words.now c.loop-i.i c.loop-i.invariant c.loop-i-test.true (sym c.is_spelled.ensures ∙ c.if-is_spelled.true)
    ∙ sym (position-map (same a.name.now) (spelled a.tree.now a.made.now) a.words.now)

pub loop-i-preserved : goal.loop-i-preserved
loop-i-preserved c =
    let a = c.args in
    seek-next (λ (w : ℕ). same a.name.now (spelled a.tree.now a.made.now w)) a.words.now c.loop-i.i c.loop-i.invariant c.loop-i-test.true (sym c.is_spelled.ensures ∙ c.if-is_spelled.false)

pub returns : goal.returns
returns c =
    let a = c.args in
    seek-end (λ (w : ℕ). same a.name.now (spelled a.tree.now a.made.now w)) a.words.now c.loop-i.i c.loop-i.invariant c.loop-i-test.false
    ∙ sym (position-map (same a.name.now) (spelled a.tree.now a.made.now) a.words.now)
