use mathlib.Core.Path.{◌≡◌, refl, sym, ap, ◌∙◌, subst}
use mathlib.Core.List.{List}
use Prim.Native.Nat.{ℕ, ◌+◌}
use lib.ListN.{length, get_or}
use denote.Ref.{Bor}
use Rattle.std.proofs.Common.{Option}
use Rattle.reach.specs.Tracing.{Going, listed}
use Rattle.reach.specs.declared.trace.Steps.{Steps}
use Rattle.reach.proofs.Tracks.{Counting, going_start, counting-start, counted, counting-on, listed-by}
use Rattle.reach.proofs.trace.way_length.Goals as goal

pub loop-answer-init : goal.loop-answer-init
loop-answer-init c =
    let g = c.into_iter-answer-iterator.ensures.into_iter_gives in let o = c.to-answer-items.ensures in let s = c.into_iter-answer-iterator.result in let t = c.args.area.now in
    let a : s.area.now ≡ t = ap (λ (x : Steps). x.area.now) g ∙ ap (λ (x : Bor (List ℕ)). x.now) o.0 in
    let p : s.place ≡ c.args.place = ap (λ (x : Steps). x.place) g ∙ o.1 in
    (a, subst (λ (k : ℕ). Counting t c.args.place k 0) (sym p) (counting-start c.requires))

pub loop-answer-init-derived : goal.loop-answer-init-derived
loop-answer-init-derived c =
    let g = c.into_iter-answer-iterator.ensures.into_iter_gives in let o = c.to-answer-items.ensures in let s = c.into_iter-answer-iterator.result in let t = c.args.area.now in
    let a : s.area.now ≡ t = ap (λ (x : Steps). x.area.now) g ∙ ap (λ (x : Bor (List ℕ)). x.now) o.0 in
    let p : s.place ≡ c.args.place = ap (λ (x : Steps). x.place) g ∙ o.1 in
    (subst (λ (u : List ℕ). Going u s.place) (sym a) (subst (λ (k : ℕ). Going t k) (sym p) (going_start c.requires)), tt)

pub loop-answer-preserved : goal.loop-answer-preserved
loop-answer-preserved c =
    let s = c.loop-answer.answer-iterator in let v = c.loop-answer.invariant in let w = c.in-Some.ensures.steps in
    let e = ap (λ (u : List ℕ). get_or u (65536 + s.place) 0) v.0 in
    let k = c.taken-count.ensures in
    (ap (λ (x : Bor (List ℕ)). x.now) w.2 ∙ v.0, counting-on v.1 e w.0 w.3 refl (k.0 ∙ ap (λ (a : Option ℕ). length (listed a)) w.1 ∙ ap length (listed-by _)) k.1)

pub returns : goal.returns
returns c =
    let s = c.loop-answer.answer-iterator in let v = c.loop-answer.invariant in let w = c.in-None.ensures.steps in
    let e = ap (λ (u : List ℕ). get_or u (65536 + s.place) 0) v.0 in
    counted v.1 e w
