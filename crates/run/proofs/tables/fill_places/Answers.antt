use mathlib.Core.Path.{ap, ◌∙◌}
use mathlib.Core.List.{List}
use Prim.Native.Nat.{ℕ}
use denote.Ref.{Bor}
use native.Mathlib.Omega.{arith}
use Rattle.reader.specs.declared.iteration.Instructions.{Instructions}
use Rattle.run.proofs.Tabled.{filling-start, fill-in, filling-more, filled}
use Rattle.run.proofs.tables.fill_places.Goals as goal

pub loop-placed-init : goal.loop-placed-init
loop-placed-init c =
    let e = c.into_iter-placed-iterator.ensures.into_iter_gives in let o = c.of-placed-items.ensures in
    filling-start _ _ _ (ap (λ (s : Instructions). s.code.now) e ∙ ap (λ (x : Bor (List ℕ)). x.now) o.0) (ap (λ (s : Instructions). s.place) e ∙ o.1) (ap (λ (s : Instructions). s.at) e ∙ o.2)

pub loop-placed-preserved : goal.loop-placed-preserved
loop-placed-preserved c =
    let f = c.loop-placed.invariant in let w = c.in-Some.ensures.steps in let l = f.long in let r = c.requires.1 in let p = fill-in _ _ _ _ f c.next.new.self c.in-Some.placed w in
    filling-more _ _ _ _ f c.next.new.self c.in-Some.placed w (omega arith)

pub returns : goal.returns
returns c = filled _ _ _ _ c.loop-placed.invariant _ c.requires.1 c.in-None.ensures.steps
