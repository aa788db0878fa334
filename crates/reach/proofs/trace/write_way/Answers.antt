use mathlib.Core.Path.{◌≡◌, refl, sym, ap, ◌∙◌, subst}
use mathlib.Core.List.{List}
use Prim.Native.Nat.{ℕ, ◌+◌}
use lib.ListN.{length, get_or}
use denote.Ref.{Bor}
use native.Mathlib.Omega.{arith}
use Rattle.std.proofs.Common.{Option}
use Rattle.reach.specs.Tracing.{Going, listed, put_by}
use Rattle.reach.specs.declared.trace.Steps.{Steps}
use Rattle.reach.proofs.Tracks.{Written, going_start, written_none, written_all, put-fits, written-more, listed-by, put-by}
use Rattle.reach.proofs.trace.write_way.Goals as goal

pub loop-answer-init : goal.loop-answer-init
loop-answer-init c =
    let g = c.into_iter-answer-iterator.ensures.into_iter_gives in let o = c.to-answer-items.ensures in let s = c.into_iter-answer-iterator.result in let t = c.args.area.now in
    let a : s.area.now ≡ t = ap (λ (x : Steps). x.area.now) g ∙ ap (λ (x : Bor (List ℕ)). x.now) o.0 in
    let p : s.place ≡ c.args.place = ap (λ (x : Steps). x.place) g ∙ o.1 in
    let r = c.requires in
    (a, subst (λ (k : ℕ). Written t c.args.place c.args.end k c.args.end c.args.out.now c.args.out.now) (sym p) (written_none r.0 r.1 r.2))

pub loop-answer-init-derived : goal.loop-answer-init-derived
loop-answer-init-derived c =
    let g = c.into_iter-answer-iterator.ensures.into_iter_gives in let o = c.to-answer-items.ensures in let s = c.into_iter-answer-iterator.result in let t = c.args.area.now in
    let a : s.area.now ≡ t = ap (λ (x : Steps). x.area.now) g ∙ ap (λ (x : Bor (List ℕ)). x.now) o.0 in
    let p : s.place ≡ c.args.place = ap (λ (x : Steps). x.place) g ∙ o.1 in
    (subst (λ (u : List ℕ). Going u s.place) (sym a) (subst (λ (k : ℕ). Going t k) (sym p) (going_start c.requires.0)), tt)

pub put_back-at-requires : goal.put_back-at-requires
put_back-at-requires c =
    let s = c.loop-answer.answer-iterator in let v = c.loop-answer.invariant in let w = c.in-Some.ensures.steps in
    let e = ap (λ (u : List ℕ). get_or u (65536 + s.place) 0) v.0 in
    let f = put-fits v.1 e w.0 refl in let n = ap (λ (a : Option ℕ). length (listed a)) w.1 ∙ ap length (listed-by _) in (omega (arith, f.0), f.1)

pub loop-answer-preserved : goal.loop-answer-preserved
loop-answer-preserved c =
    let s = c.loop-answer.answer-iterator in let v = c.loop-answer.invariant in let w = c.in-Some.ensures.steps in
    let e = ap (λ (u : List ℕ). get_or u (65536 + s.place) 0) v.0 in
    let n = ap (λ (a : Option ℕ). length (listed a)) w.1 ∙ ap length (listed-by _) in let k = c.put_back-at.ensures in let m = k.0 in (
      ap (λ (x : Bor (List ℕ)). x.now) w.2 ∙ v.0,
      written-more v.1 e w.0 refl w.3 (omega arith) (k.1 ∙ ap (λ (a : Option ℕ). put_by a c.loop-answer.at c.loop-answer.out) w.1 ∙ put-by _ _ _) c.put_back-at.auto.out,
    )

pub returns : goal.returns
returns c =
    let s = c.loop-answer.answer-iterator in let v = c.loop-answer.invariant in let w = c.in-None.ensures.steps in
    let e = ap (λ (u : List ℕ). get_or u (65536 + s.place) 0) v.0 in
    written_all v.1 e w
