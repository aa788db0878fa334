-- What measures of statements leave, one after another.
use Prim.Native.Nat.{ℕ, ◌+◌, ◌*◌, ◌<◌, ◌≤◌}
use mathlib.Core.Path.{◌≡◌, refl, sym, ap, ◌∙◌, subst}
use native.Mathlib.Omega.{arith}
use Rattle.std.specs.Prelude.{Option, Some, None}
use Rattle.definitions.specs.Measured.{SoFar}
use Rattle.tree_view.specs.Places.{Node}
use Rattle.measure.specs.declared.measurer.Measurer.{Measurer}
use Rattle.measure.specs.declared.Measure.{Measure}
use Rattle.measure.specs.Sized.{Sized}
use Rattle.measure_stmts.specs.declared.begun.Begun.{Begun}
use Rattle.measure_stmts.specs.Walked.{seen, names_noted, PartMeasured}

pub none-some : {A : Type 0} {x : A} {r : Option A} → r ≡ None → r ≡ Some x → {C : Type 0} → C
none-some e f = let z : ◌≡◌ {A = ℕ} 0 1 = cc in absurd (omega arith)

pub some-is : {s u : Measure} {r : Option Measure} → r ≡ Some s → r ≡ Some u → s ≡ u
some-is e f = cc

-- nothing begins
pub walks-still : {m : Measurer} {a : Begun} {s : Measure} {p end n : ℕ} → Sized s p end 0 n → PartMeasured (Some s) m p end n 0 (λ k. k) a a
walks-still {s = s} {p} {end} {n} S = record {
  sized = λ u e. subst (λ (z : Measure). Sized z p end 0 n) (some-is refl e) S;
  knows = λ u e. refl;
  count = λ u e. omega arith;
  over = λ e. none-some e refl;
}

-- the same in other words, from an earlier place on
pub walks-as : {r : Option Measure} {m : Measurer} {a b : Begun} {p q end end' n n' heads heads' : ℕ} {after after' : SoFar → SoFar} → PartMeasured r m q end n heads after a b
    → end ≡ end' → n ≡ n' → heads ≡ heads' → after (seen m a) ≡ after' (seen m a) → p ≤ q → PartMeasured r m p end' n' heads' after' a b
walks-as W e f g h l = record {
  sized = λ s z. (let S = W.sized s z in record { next_is = S.next_is ∙ e; size_is = S.size_is ∙ f; most = omega (arith, S.most) });
  knows = λ s z. W.knows s z ∙ h;
  count = λ s z. omega (arith, W.count s z);
  over = λ z. omega (arith, W.over z);
}

-- there is no room
pub walks-stopped : {o : Option Measure} {m : Measurer} {a b : Begun} {p end n heads : ℕ} {after : SoFar → SoFar} → o ≡ None → 320 < names_noted a + heads
    → PartMeasured o m p end n heads after a b
walks-stopped f h = record { sized = λ s z. none-some f z; knows = λ s z. none-some f z; count = λ s z. none-some f z; over = λ z. h }

-- ---- parts one at a time

-- x is a part with n instructions and h names, after which f is so far, and then z
pub record Splits {A : Type 0} (size : SoFar → A → ℕ) (heads : A → ℕ) (after : A → SoFar → SoFar) (x z : Node A) (n : SoFar → ℕ) (h : ℕ) (f : SoFar → SoFar) : Type 0 where
  pub end : x.end ≡ z.end
  pub sum : (k : SoFar) → size k x.value ≡ n k + size (f k) z.value
  pub names : heads x.value ≡ h + heads z.value
  pub then : (k : SoFar) → after x.value k ≡ after z.value (f k)

-- of a whole that begins at p₀, after `done` instructions, x is left, which begins at p
pub record Left {A : Type 0} (size : SoFar → A → ℕ) (heads : A → ℕ) (after : A → SoFar → SoFar) (m : Measurer) (whole x : Node A) (p₀ p done : ℕ) (a b : Begun) : Type 0 where
  pub end : whole.end ≡ x.end
  pub sum : size (seen m a) whole.value ≡ done + size (seen m b) x.value
  pub names : names_noted a + heads whole.value ≡ names_noted b + heads x.value
  pub then : after whole.value (seen m a) ≡ after x.value (seen m b)
  pub most : done + 256 * p₀ ≤ 256 * p

module _ {A : Type 0} {size : SoFar → A → ℕ} {heads : A → ℕ} {after : A → SoFar → SoFar} {m : Measurer} where
  pub left-start : {whole x : Node A} {p₀ p : ℕ} (a : Begun) → whole ≡ x → p₀ ≤ p → Left size heads after m whole x p₀ p 0 a a
  left-start a e l = record {
    end = ap (λ (z : Node A). z.end) e;
    sum = omega (arith, ap (λ (z : Node A). size (seen m a) z.value) e);
    names = ap (λ (z : Node A). names_noted a + heads z.value) e;
    then = ap (λ (z : Node A). after z.value (seen m a)) e;
    most = omega arith;
  }

  module _ {whole x z : Node A} {p₀ p done : ℕ} {a b c : Begun} {n : SoFar → ℕ} {h : ℕ} {f : SoFar → SoFar} {end : ℕ} {r : Option Measure} (L : Left size heads after m whole x p₀ p done a b) (S : Splits size heads after x z n h f)
      (W : PartMeasured r m p end (n (seen m b)) h f b c) where
    pub left-stopped : {o : Option Measure} {q e k : ℕ} → r ≡ None → o ≡ None → PartMeasured o m q e k (heads whole.value) (after whole.value) a c
    left-stopped i j = walks-stopped j (omega (arith, W.over i, L.names, S.names))

    pub left-next : {s : Measure} {j : ℕ} → r ≡ Some s → j ≡ done + s.size → Left size heads after m whole z p₀ s.next j a c
    left-next {s} i e = record {
      end = L.end ∙ S.end;
      sum = omega (arith, L.sum, S.sum (seen m b), (W.sized s i).size_is, ap (λ (k : SoFar). size k z.value) (W.knows s i));
      names = omega (arith, L.names, S.names, W.count s i);
      then = L.then ∙ S.then (seen m b) ∙ sym (ap (after z.value) (W.knows s i));
      most = omega (arith, L.most, (W.sized s i).most, (W.sized s i).next_is);
    }

  -- what is left is nothing
  pub left-done : {whole x : Node A} {p₀ p done : ℕ} {a b : Begun} {s : Measure} → Left size heads after m whole x p₀ p done a b
      → p ≡ x.end → 0 ≡ size (seen m b) x.value → 0 ≡ heads x.value → seen m b ≡ after x.value (seen m b) → s.size ≡ done → s.next ≡ p
      → PartMeasured (Some s) m p₀ whole.end (size (seen m a) whole.value) (heads whole.value) (after whole.value) a b
  left-done {whole} {p₀ = p₀} {a = a} {s = s} L e f g h i j = record {
    sized = λ u z. (
        let all : Sized s p₀ whole.end 0 (size (seen m a) whole.value) = record { next_is = j ∙ e ∙ sym L.end; size_is = omega (arith, i, L.sum, f); most = omega (arith, i, L.most, e, L.end) } in
        subst (λ (v : Measure). Sized v p₀ whole.end 0 (size (seen m a) whole.value)) (some-is refl z) all
        );
    knows = λ u z. h ∙ sym L.then;
    count = λ u z. omega (arith, L.names, g);
    over = λ z. none-some z refl;
  }

  -- what is left is measured as a whole
  pub left-last : {whole x : Node A} {p₀ p done : ℕ} {a b c : Begun} {r o : Option Measure} → Left size heads after m whole x p₀ p done a b
      → PartMeasured r m p x.end (size (seen m b) x.value) (heads x.value) (after x.value) b c → {u v : Measure} → r ≡ Some u → o ≡ Some v → v.size ≡ done + u.size → v.next ≡ u.next
      → PartMeasured o m p₀ whole.end (size (seen m a) whole.value) (heads whole.value) (after whole.value) a c
  left-last {whole} {p₀ = p₀} {a = a} L W {u} {v} i j k l = record {
    sized = λ w z. (
        let U = W.sized u i in
        let all : Sized v p₀ whole.end 0 (size (seen m a) whole.value) = record { next_is = l ∙ U.next_is ∙ sym L.end; size_is = omega (arith, k, L.sum, U.size_is); most = omega (arith, k, L.most, U.most, L.end) } in
        subst (λ (y : Measure). Sized y p₀ whole.end 0 (size (seen m a) whole.value)) (some-is j z) all
        );
    knows = λ w z. W.knows u i ∙ sym L.then;
    count = λ w z. omega (arith, L.names, W.count u i);
    over = λ z. none-some z j;
  }

  pub left-over : {whole x : Node A} {p₀ p done : ℕ} {a b c : Begun} {r o : Option Measure} {q e k : ℕ} → Left size heads after m whole x p₀ p done a b
      → PartMeasured r m p x.end (size (seen m b) x.value) (heads x.value) (after x.value) b c → r ≡ None → o ≡ None
      → PartMeasured o m q e k (heads whole.value) (after whole.value) a c
  left-over {r = r} L W i j = walks-stopped j (omega (arith, W.over i, L.names))
