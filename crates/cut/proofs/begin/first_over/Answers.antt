use native.Mathlib.Omega.{arith}
use Prim.Native.Nat.{ℕ, ◌+◌, ◌-◌, ◌≤◌, ◌<◌}
use mathlib.Core.Path.{◌≡◌, ◌∙◌}
use mathlib.Core.Logic.{◌⊎◌, inl, inr}
use Rattle.cut.proofs.Stretches.{top-counted, top-start, top-head, stretch-in}
use Rattle.cut.proofs.Seeking.{over-slots, over-is, under-none, under-here, under-next, as-great, best-begins}
use Rattle.cut.proofs.begin.first_over.Goals as goal

pub u16_at-count-requires : goal.u16_at-count-requires
u16_at-count-requires c = top-counted c.requires.3.tree.block

pub loop-i-init : goal.loop-i-init
loop-i-init c = under-none c.requires.3 _

pub over-requires : goal.over-requires
over-requires c =
    let L = c.requires.3 in
    let U = c.loop-i.invariant in (
      omega (arith, c.loop-i.auto.code, c.likely_count-likely.auto.code, c.requires.0),
      omega (arith, c.loop-i.auto.tables, c.likely_count-likely.auto.tables, c.requires.1),
      c.requires.2,
      stretch-in L.tree U.top _ (omega (arith, c.min.ensures, c.u16_at-count.ensures.0, c.loop-i-test.true)),
      over-slots L U.top _ (omega (arith, c.min.ensures, c.u16_at-count.ensures.0, c.loop-i-test.true)),
    )

pub returns-then-over : goal.returns-then-over
returns-then-over c =
    let L = c.requires.3 in
    let U = c.loop-i.invariant in
    under-here L U _ (omega (arith, c.min.ensures)) (over-is L U.top _ (omega (arith, c.min.ensures, c.u16_at-count.ensures.0, c.loop-i-test.true)) c.over.ensures ∙ c.if-over.true)

pub skip_stmt-at-requires : goal.skip_stmt-at-requires
skip_stmt-at-requires c = top-head c.loop-i.invariant.top (omega (arith, c.u16_at-count.ensures.0, c.loop-i-test.true))

reaches : {k i m n c : ℕ} → c ≡ n → i < c → (k ≤ m) ⊎ (c - i ≤ m) → (k ≤ m) ⊎ (n ≤ i + m)
reaches e h (inl a) = inl a
reaches e h (inr a) = inr (omega arith)

pub loop-i-preserved : goal.loop-i-preserved
loop-i-preserved c =
    let L = c.requires.3 in
    let U = c.loop-i.invariant in
    let n = c.u16_at-count.ensures.0 in
    let h = c.loop-i-test.true in
    under-next L U c.min.result (reaches n h (as-great _ _ _ c.min.ensures)) (omega (arith, n, h))
    (over-is L U.top _ (omega (arith, c.min.ensures, n, h)) c.over.ensures ∙ c.if-over.false) c.skip_stmt-at.ensures

pub returns : goal.returns
returns c = record { top = top-start c.requires.3.tree.block; best = best-begins c.requires.3 c.u16_at-count.ensures.0 }
