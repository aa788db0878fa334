-- Back along a way, mark by mark. Assumes nothing.
use Prim.Native.Nat.{ℕ, zero, suc, ◌+◌, ◌-◌, ◌/◌, ◌≤◌, ◌<◌}
use mathlib.Core.Path.{◌≡◌, refl, sym, ap, ap₂, ◌∙◌, subst}
use mathlib.Core.Bool.{Bool, true, false}
use mathlib.Core.List.{List, [], ◌∷◌, ◌++◌, append_assoc, append-nil}
use native.Mathlib.Omega.{arith}
use native.Mathlib.Nat.{zero-add}
use lib.Dec.{leb}
use lib.ListN.{length, get_or, set, take, drop, take-append-drop, length-append, length-take, get_or-eq_default}
use lib.Seq.{length-take-le, take-suc, set-append_seam, append_snoc, get_or-take, get_or-drop}
use borrow.Author.Tests.{eq-eqb, ne_eqb, leb-true, leb-false}
use Rattle.std.proofs.Common.{Some, None}
use Rattle.definitions.specs.Instruction.{Instr, Return}
use Rattle.definitions.specs.Instruction.{Flow, straight, jump, question, returns, flow}
use Rattle.definitions.specs.Calls.{written}
use Rattle.definitions.specs.Search.{Next, straight_on, jumps_to, on_no, on_yes, Step, answers_of, Chain, begins, goes, link_mark, by_link}
use Rattle.search.specs.View.{marks_of}
use Rattle.reach.specs.Tracing.{before_of, tag_of, answer_by, listed, trace, way_to, Traceable, Onward, Going, hops, steps_to, put_by, put_back}

-- ---- marks

tag_small : (f : Flow) (p a k q : ℕ) → Next f p a k q → k ≤ 2
tag_small straight p a k q straight_on = omega arith
tag_small jump p a k q jumps_to = omega arith
tag_small (question b) p a k q on_no = omega arith
tag_small (question b) p a k q on_yes = omega arith
tag_small returns p a k q x = elim x [ ]

-- what a link tells
record Link (p k m : ℕ) : Type 0 where
  before : before_of m ≡ p
  tag : tag_of m ≡ k
  some : 1 ≤ m
  link : m ≡ 4 → ⊥

link-is : (p k m : ℕ) → k ≤ 2 → m ≡ link_mark p k → Link p k m
unfolding link_mark before_of tag_of
link-is p k m h e = record { before = omega arith; tag = omega arith; some = omega arith; link = λ z. omega arith }

link_at : (code : List Instr) {p k q m : ℕ} → Step code p k q → m ≡ link_mark p k → Link p k m
link_at code {p} {k} {q} {m} x e = link-is p k m (tag_small (flow (get_or code p Return).op) p (get_or code p Return).a k q x) e

-- ---- the trace, and how many steps it has

trace-root : (n : ℕ) (marks : List ℕ) (q : ℕ) → get_or marks q 0 ≡ 4 → trace n marks q ≡ []
unfolding trace
trace-root zero marks q e = refl
trace-root (suc n) marks q e =
    ap (λ (b : Bool). elim b as (λ z. List ℕ) [ true ↦ [] | false ↦ trace n marks (before_of (get_or marks q 0)) ++ answers_of (tag_of (get_or marks q 0)) ]) (eq-eqb (get_or marks q 0) 4 e)

trace-on : (n : ℕ) (marks : List ℕ) (q : ℕ) → (get_or marks q 0 ≡ 4 → ⊥) → trace (suc n) marks q ≡ trace n marks (before_of (get_or marks q 0)) ++ answers_of (tag_of (get_or marks q 0))
unfolding trace
trace-on n marks q e =
    ap (λ (b : Bool). elim b as (λ z. List ℕ) [ true ↦ [] | false ↦ trace n marks (before_of (get_or marks q 0)) ++ answers_of (tag_of (get_or marks q 0)) ]) (ne_eqb (get_or marks q 0) 4 e)

hops-root : (n : ℕ) (marks : List ℕ) (q : ℕ) → get_or marks q 0 ≡ 4 → hops n marks q ≡ 0
unfolding hops
hops-root zero marks q e = refl
hops-root (suc n) marks q e = ap (λ (b : Bool). elim b as (λ z. ℕ) [ true ↦ 0 | false ↦ suc (hops n marks (before_of (get_or marks q 0))) ]) (eq-eqb (get_or marks q 0) 4 e)

hops-on : (n : ℕ) (marks : List ℕ) (q : ℕ) → (get_or marks q 0 ≡ 4 → ⊥) → hops (suc n) marks q ≡ suc (hops n marks (before_of (get_or marks q 0)))
unfolding hops
hops-on n marks q e = ap (λ (b : Bool). elim b as (λ z. ℕ) [ true ↦ 0 | false ↦ suc (hops n marks (before_of (get_or marks q 0))) ]) (ne_eqb (get_or marks q 0) 4 e)

-- ---- a chain, seen in a longer list of marks

module _ (code : List Instr) (n : ℕ) (all : List ℕ) where
  -- a place that is marked in the first n is one of them
  marked-in : (q : ℕ) → (get_or (take n all) q 0 ≡ 0 → ⊥) → q < n
  marked-in q h = go (leb n q) refl
    where
      go : (b : Bool) → leb n q ≡ b → q < n
      go true e = absurd (h (get_or-eq_default (take n all) 0 (let l = leb-true n q e in let z = length-take n all in omega arith)))
      go false e = leb-false n q e

  same-mark : (q : ℕ) → (get_or (take n all) q 0 ≡ 0 → ⊥) → get_or all q 0 ≡ get_or (take n all) q 0
  same-mark q h = sym (get_or-take n all q 0 (marked-in q h))

  root-mark : get_or (take n all) 0 0 ≡ 4 → get_or all 0 0 ≡ 4
  root-mark e = same-mark 0 (λ z. omega arith) ∙ e

  link-mark : {p k q : ℕ} → Step code p k q → get_or (take n all) q 0 ≡ link_mark p k → Link p k (get_or all q 0)
  link-mark {p} {k} {q} x e = link_at code x (same-mark q (λ z. let s = (link_at code x e).some in omega arith) ∙ e)

  pub chain-trace : {q k : ℕ} {ys : List ℕ} → Chain by_link code (take n all) q ys k → (fuel : ℕ) → k < fuel → trace fuel all q ≡ ys
  chain-trace (begins e) fuel h = trace-root fuel all 0 (root-mark e)
  chain-trace (goes {p} {q} {k} {n = m} {ys} x e c) zero h = absurd (omega arith)
  chain-trace (goes {p} {q} {k} {n = m} {ys} x e c) (suc fuel) h =
      let l = link-mark x e in
      trace-on fuel all q l.link ∙ ap₂ (λ (r j : ℕ). trace fuel all r ++ answers_of j) l.before l.tag
      ∙ ap (λ (zs : List ℕ). zs ++ answers_of k) (chain-trace c fuel (omega arith))

  chain-hops : {q k : ℕ} {ys : List ℕ} → Chain by_link code (take n all) q ys k → (fuel : ℕ) → k < fuel → hops fuel all q ≡ k
  chain-hops (begins e) fuel h = hops-root fuel all 0 (root-mark e)
  chain-hops (goes {p} {q} {k} {n = m} {ys} x e c) zero h = absurd (omega arith)
  chain-hops (goes {p} {q} {k} {n = m} {ys} x e c) (suc fuel) h =
      let l = link-mark x e in
      hops-on fuel all q l.link ∙ ap (λ (r : ℕ). suc (hops fuel all r)) l.before ∙ ap suc (chain-hops c fuel (omega arith))

  chain-marked : {p k : ℕ} {ys : List ℕ} → Chain by_link code (take n all) p ys k → get_or (take n all) p 0 ≡ 0 → ⊥
  chain-marked (begins e) z = omega arith
  chain-marked (goes {p} {q} {k} {n = m} {ys} x e c) z = let s = (link_at code x e).some in omega arith

  -- not at the start: the place before
  record Back (p : ℕ) : Type 0 where
    some : 1 ≤ get_or all p 0
    on : Onward code n all (before_of (get_or all p 0))
    trace-is : trace 65536 all p ≡ trace 65536 all (before_of (get_or all p 0)) ++ answers_of (tag_of (get_or all p 0))
    hops-is : hops 65536 all p ≡ suc (hops 65536 all (before_of (get_or all p 0)))

  back : {p k : ℕ} {ys : List ℕ} → Chain by_link code (take n all) p ys k → k < 65536 → (get_or all p 0 ≡ 4 → ⊥) → Back p
  back (begins e) h f = absurd (f (root-mark e))
  back (goes {p} {q} {k} {n = m} {ys} x e c) h f =
      let l = link-mark x e in
      let was : trace 65536 all (before_of (get_or all q 0)) ≡ ys = ap (trace 65536 all) l.before ∙ chain-trace c 65536 (omega arith) in
      let far : hops 65536 all (before_of (get_or all q 0)) ≡ m = ap (hops 65536 all) l.before ∙ chain-hops c 65536 (omega arith) in
      record {
        some = l.some;
        on = subst (λ (r : ℕ). Onward code n all r) (sym l.before) (record { answers = ys; steps = m; chain = c; soon = omega arith });
        trace-is = chain-trace (goes x e c) 65536 h ∙ sym (ap₂ (λ (zs : List ℕ) (j : ℕ). zs ++ answers_of j) was l.tag);
        hops-is = chain-hops (goes x e c) 65536 h ∙ ap suc (sym far);
      }

-- ---- in an area

pub going_start : {area : List ℕ} {place : ℕ} → Traceable area place → Going area place
unfolding marks_of
going_start T =
    let w = T.way in
    record {
      code = T.code;
      few = T.few;
      long = T.long;
      on = record { answers = w.answers; steps = w.steps; chain = w.chain; soon = let s = w.soon in let f = T.few in omega arith };
    }

-- the answers of the way that a search found
pub way-is : {area : List ℕ} {place : ℕ} (T : Traceable area place) → way_to area place ≡ T.way.answers
unfolding way_to marks_of
way-is {area} {place} T =
    chain-trace T.code (length T.code) (drop 65536 area) T.way.chain 65536 (let s = T.way.soon in let f = T.few in omega arith)

module _ {area : List ℕ} {p : ℕ} (G : Going area p) where
  pub place_in : p < length G.code
  place_in = marked-in G.code (length G.code) (drop 65536 area) p (chain-marked G.code (length G.code) (drop 65536 area) G.on.chain)

  pub steps-few : steps_to area p < 65536
  unfolding steps_to
  steps-few = let e = chain-hops G.code (length G.code) (drop 65536 area) G.on.chain 65536 G.on.soon in let s = G.on.soon in omega arith

  pub mark-in : 65536 + p < length area
  mark-in = let a = place_in in let b = G.few in let c = G.long in omega arith

  module _ {m : ℕ} (e : m ≡ get_or area (65536 + p) 0) where
    mark-is : m ≡ get_or (drop 65536 area) p 0
    mark-is = e ∙ sym (get_or-drop 65536 area p 0)

    pub at-root : m ≡ 4 → way_to area p ≡ []
    unfolding way_to
    at-root z = trace-root 65536 (drop 65536 area) p (sym mark-is ∙ z)

    module _ (f : m ≡ 4 → ⊥) where
      before : Back G.code (length G.code) (drop 65536 area) p
      before = back G.code (length G.code) (drop 65536 area) G.on.chain G.on.soon (λ z. f (mark-is ∙ z))

      pub some : 1 ≤ m
      some = let s = before.some in let z = mark-is in omega arith

      module _ {q : ℕ} (g : q ≡ before_of m) where
        place-before : before_of (get_or (drop 65536 area) p 0) ≡ q
        place-before = ap before_of (sym mark-is) ∙ sym g

        pub on-back : Going area q
        on-back = record { code = G.code; few = G.few; long = G.long; on = subst (λ (r : ℕ). Onward G.code (length G.code) (drop 65536 area) r) place-before before.on }

        pub one_less : steps_to area p ≡ suc (steps_to area q)
        unfolding steps_to
        one_less = before.hops-is ∙ ap (λ (r : ℕ). suc (hops 65536 (drop 65536 area) r)) place-before

        -- the way: that to the place before, and the answers of the tag
        pub traced : {t : ℕ} → t ≡ tag_of m → way_to area p ≡ way_to area q ++ answers_of t
        unfolding way_to
        traced {t} h = before.trace-is ∙ ap₂ (λ (r j : ℕ). trace 65536 (drop 65536 area) r ++ answers_of j) place-before (ap tag_of (sym mark-is) ∙ sym h)

pub traced-in : {area : List ℕ} {place : ℕ} (T : Traceable area place) → place < length T.code
unfolding going_start
traced-in T = place_in (going_start T)

-- ---- the answers, from last to first

pub answer_none : (t : ℕ) → t ≡ 0 → None ≡ answer_by t
unfolding answer_by
answer_none zero e = refl
answer_none (suc t) e = absurd (omega arith)

pub answer_some : (t : ℕ) → (t ≡ 0 → ⊥) → Some (t - 1) ≡ answer_by t
unfolding answer_by
answer_some zero e = absurd (e refl)
answer_some (suc t) e = ap Some (let z : suc t - 1 ≡ t = omega arith in z)

pub listed-by : (t : ℕ) → listed (answer_by t) ≡ answers_of t
unfolding listed answer_by answers_of
listed-by zero = refl
listed-by (suc t) = refl

pub put-by : (t at : ℕ) (out : List ℕ) → put_by (answer_by t) at out ≡ put_back t at out
unfolding put_by answer_by put_back
put-by zero at out = refl
put-by (suc t) at out = refl

-- what is written so far: the answers from `at` to the end
pub record Written (area : List ℕ) (place end p at : ℕ) (out₀ out : List ℕ) : Type 0 where
  pub going : Going area p
  pub long : length out ≡ length out₀
  pub most : end ≤ length out₀
  pub written-to : List ℕ
  pub parts : way_to area place ≡ way_to area p ++ written-to
  pub at-is : at ≡ length (way_to area p)
  pub whole : end ≡ length (way_to area place)
  pub is : out ≡ take at out₀ ++ (written-to ++ drop end out₀)

pub written_none : {area out : List ℕ} {place end : ℕ} → Traceable area place → end ≡ length (way_to area place) → end ≤ length out → Written area place end place end out out
written_none {area} {out} {place} {end} T e h = record {
  going = going_start T;
  long = refl;
  most = h;
  written-to = [];
  parts = sym (append-nil (way_to area place));
  at-is = e;
  whole = e;
  is = sym (take-append-drop end out);
}

-- one answer more
one-more : (t at : ℕ) (out₀ zs tail : List ℕ) → length (answers_of t) ≤ at → at ≤ length out₀
    → put_back t at (take at out₀ ++ (zs ++ tail)) ≡ take (at - length (answers_of t)) out₀ ++ ((answers_of t ++ zs) ++ tail)
unfolding put_back answers_of
one-more zero at out₀ zs tail h l = ap (λ (k : ℕ). take k out₀ ++ (zs ++ tail)) (let z : at ≡ at - 0 = omega arith in z)
one-more (suc t) at out₀ zs tail h l =
    let k = at - 1 in
    let e : take at out₀ ≡ take k out₀ ++ (get_or out₀ k 0 ∷ []) = ap (λ (j : ℕ). take j out₀) (let z : at ≡ suc (at - 1) = omega arith in z) ∙ take-suc out₀ k 0 (omega arith) in
    let d : length (take k out₀) ≡ k = length-take-le k out₀ (omega arith) in
    ap (λ (l : List ℕ). set (l ++ (zs ++ tail)) k t) e
    ∙ ap (λ (l : List ℕ). set l k t) (append_snoc (take k out₀) (get_or out₀ k 0) (zs ++ tail))
    ∙ ap (λ (j : ℕ). set (take k out₀ ++ (get_or out₀ k 0 ∷ (zs ++ tail))) j t) (sym d)
    ∙ set-append_seam (take k out₀) (get_or out₀ k 0) (zs ++ tail) t

module _ {area out₀ out : List ℕ} {place end p at : ℕ} (W : Written area place end p at out₀ out) {m : ℕ} (e : m ≡ get_or area (65536 + p) 0) where
  pub written_all : m ≡ 4 → out ≡ written (way_to area place) out₀
  unfolding written
  written_all z =
      let r = at-root W.going e z in
      let a : at ≡ 0 = W.at-is ∙ ap length r in
      let b : way_to area place ≡ W.written-to = W.parts ∙ ap (λ (l : List ℕ). l ++ W.written-to) r in
      W.is ∙ ap₂ (λ (k : ℕ) (l : List ℕ). take k out₀ ++ (l ++ drop end out₀)) a (sym b) ∙ ap (λ (k : ℕ). way_to area place ++ drop k out₀) W.whole

  at_low : at ≤ end
  at_low = let a = W.at-is in let b = W.whole in let c = ap length W.parts ∙ length-append (way_to area p) W.written-to in omega arith

  module _ (f : m ≡ 4 → ⊥) {t : ℕ} (h : t ≡ tag_of m) where
    sized : {q : ℕ} → q ≡ before_of m → length (way_to area p) ≡ length (way_to area q) + length (answers_of t)
    sized {q} g = ap length (traced W.going e f g h) ∙ length-append (way_to area q) (answers_of t)

    pub put-fits : (length (answers_of t) ≤ at) × (at ≤ length out)
    put-fits = let a = W.at-is in let s = sized refl in let l = at_low in let k = W.most in let j = W.long in (omega arith, omega arith)

    pub written-more : {q at' : ℕ} {out' : List ℕ} → q ≡ before_of m → at' + length (answers_of t) ≡ at → out' ≡ put_back t at out → length out' ≡ length out → Written area place end q at' out₀ out'
    written-more {q} {at'} {out'} g i j k = record {
      going = on-back W.going e f g;
      long = k ∙ W.long;
      most = W.most;
      written-to = answers_of t ++ W.written-to;
      parts = W.parts ∙ ap (λ (l : List ℕ). l ++ W.written-to) (traced W.going e f g h) ∙ append_assoc (way_to area q) (answers_of t) W.written-to;
      at-is = let a = W.at-is in let s = sized g in omega arith;
      whole = W.whole;
      is = j ∙ ap (put_back t at) W.is ∙ one-more t at out₀ W.written-to (drop end out₀) put-fits.0 (let l = at_low in let z = W.most in omega arith)
          ∙ ap (λ (x : ℕ). take x out₀ ++ ((answers_of t ++ W.written-to) ++ drop end out₀)) (let z : at - length (answers_of t) ≡ at' = omega arith in z);
    }

-- ---- how many answers there are

pub record Counting (area : List ℕ) (place p count : ℕ) : Type 0 where
  pub going : Going area p
  pub sum : count + length (way_to area p) ≡ length (way_to area place)
  pub few : count + steps_to area p < 65536

pub counting-start : {area : List ℕ} {place : ℕ} → Traceable area place → Counting area place place 0
counting-start {area} {place} T =
    let G = going_start T in
    record { going = G; sum = zero-add (length (way_to area place)); few = let s = steps-few G in omega arith }

module _ {area : List ℕ} {place p count : ℕ} (C : Counting area place p count) {m : ℕ} (e : m ≡ get_or area (65536 + p) 0) where
  pub counted : m ≡ 4 → count ≡ length (way_to area place)
  counted z = let r = ap length (at-root C.going e z) in let s = C.sum in omega arith

  pub counting-on : (m ≡ 4 → ⊥) → {q t k : ℕ} → q ≡ before_of m → t ≡ tag_of m → k ≡ length (answers_of t) → k ≤ 1 → Counting area place q (count + k)
  counting-on f {q} {t} {k} g h i j =
      let a = ap length (traced C.going e f g h) ∙ length-append (way_to area q) (answers_of t) in
      let s = C.sum in let w = C.few in let l = one_less C.going e f g in
      record { going = on-back C.going e f g; sum = omega arith; few = omega arith }

-- ---- leaves

pub before-is : (m : ℕ) → (m - 1) / 4 ≡ before_of m
unfolding before_of
before-is m = refl
