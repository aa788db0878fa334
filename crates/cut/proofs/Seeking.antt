-- Question 15: the shortest stretch that is over the limits.
use Prim.Native.Nat.{ℕ, suc, ◌+◌, ◌-◌, ◌<◌, ◌≤◌, min}
use mathlib.Core.Path.{◌≡◌, refl, sym, ap, ◌∙◌, subst}
use mathlib.Core.Bool.{Bool, true, false, not}
use mathlib.Core.Logic.{◌⊎◌, inl, inr}
use mathlib.Core.List.{List}
use native.Mathlib.Omega.{arith}
use Rattle.std.specs.Prelude.{Option, Some, None, is_some}
use Rattle.definitions.specs.Tree.{Block}
use Rattle.definitions.specs.Lower.{compile}
use Rattle.definitions.specs.Module.{Limits as DefinedLimits, slots_fit, tables_fit}
use Rattle.definitions.specs.TreeBytes.{size}
use Rattle.definitions.specs.Cut.{over_stretch}
use Rattle.definitions.proofs.Begins.{le-or-gt}
use Rattle.definitions.proofs.CutTables.{stretch-slots}
use Rattle.definitions.proofs.CutLeast.{Sought, later, none-over, begins, within, cut-is}
use Rattle.tree_view.specs.Places.{count_at}
use Rattle.tree_view.specs.StmtAt.{stmt_at, stmts_at}
use Rattle.state.specs.State.{limits_of}
use Rattle.state.specs.declared.Limits.{Limits}
use Rattle.lower_emit.specs.declared.emitter.Emitter.{Emitter}
use Rattle.lower_emit.specs.Emitting.{limits_in}
use Rattle.compile.specs.Compiled.{tree_block, CompilesTree}
use Rattle.compile.specs.declared.Stretch.{Stretch}
use Rattle.settle.proofs.Settling.{compiled-over, compiled-fits}
use Rattle.cut.specs.Tops.{TopAt}
use Rattle.cut.specs.Seeking.{Large, Best, SeeksFrom, Tops, Least}
use Rattle.cut.proofs.Stretches.{top-start, top-next, top-later, size-tree, stretch-value}

-- ---- one lowering

double : (o : Bool) → o ≡ not (not o)
double true = refl
double false = refl

-- a stretch is over the limits exactly where it has no tables
pub over-told : {tree : List ℕ} (c : Block) {A : Type 0} {r : Option A} {a b : Emitter} {l : Limits} {o : Bool} → limits_in a ≡ l → slots_fit (compile c).tables ≡ true
    → CompilesTree r tree a b (compile c).tables → is_some r ≡ not o → o ≡ not (tables_fit (limits_of l) (compile c).tables)
over-told c {r = r} {a = a} {l = l} {o = o} same s h g =
    double o ∙ ap not (sym g ∙ sym (go r refl)) ∙ ap (λ (k : Limits). not (tables_fit (limits_of k) (compile c).tables)) same
  where
    go : (p : Option _) → r ≡ p → tables_fit (limits_of (limits_in a)) (compile c).tables ≡ is_some r
    go None e = compiled-over c h e s ∙ sym (ap is_some e)
    go (Some x) e = compiled-fits c h e ∙ sym (ap is_some e)

-- of two numbers the lesser is as great as one
pub as-great : (k r m : ℕ) → m ≡ min k r → (k ≤ m) ⊎ (r ≤ m)
as-great k r m e = go (le-or-gt k r)
  where
    go : (k ≤ r) ⊎ (r < k) → (k ≤ m) ⊎ (r ≤ m)
    go (inl h) = inl (omega arith)
    go (inr h) = inr (omega arith)

-- from the starts before i none of k statements is over; the i-th statement stands at p
pub record Under (l : DefinedLimits) (t : List ℕ) (k i p : ℕ) : Type 0 where
  pub top : TopAt t (tree_block t) i p
  pub under : (j : ℕ) → j < i → over_stretch l (tree_block t) j k ≡ false

module _ {l : DefinedLimits} {t : List ℕ} (L : Large l t) where
  abbrev n : ℕ
  n = count_at t 5

  abbrev b : Block
  b = tree_block t

  module _ {i p : ℕ} (T : TopAt t b i p) (m : ℕ) (h : i + m ≤ n) where
    pub over-slots : slots_fit (compile (stmts_at 32 m t p).value).tables ≡ true
    over-slots = ap (λ (c : Block). slots_fit (compile c).tables) (stretch-value T m h) ∙ stretch-slots l b L.refused i m

    pub over-is : {o : Bool} → o ≡ not (tables_fit l (compile (stmts_at 32 m t p).value).tables) → over_stretch l b i m ≡ o
    unfolding over_stretch
    over-is e = ap (λ (c : Block). not (tables_fit l (compile c).tables)) (sym (stretch-value T m h)) ∙ sym e

  -- ---- where it begins

  -- all statements
  pub tops-all : {k : ℕ} → k ≡ n → Tops t (record { at = 7; count = k })
  tops-all e = record { start = 0; top = top-start L.tree.block; within = omega arith }

  pub under-none : (k : ℕ) → Under l t k 0 7
  under-none k = record { top = top-start L.tree.block; under = λ j h. absurd (omega arith) }

  module _ {k i p : ℕ} (U : Under l t k i p) where
    -- so is none of fewer
    fewer-under : (m : ℕ) → m ≤ k → (j : ℕ) → j < i → over_stretch l b j m ≡ false
    fewer-under m h j g = none-over l b j k (suc k) (inl (omega arith)) (U.under j g) m (omega arith)

    pub under-here : (m : ℕ) → m ≤ k → over_stretch l b i m ≡ true → SeeksFrom l t i p (record { at = p; count = m })
    under-here m h e = record {
      top = U.top;
      best = record { start = i; top = U.top; hit = e; first = fewer-under m h; shorter = λ j r g f. fewer-under r (omega arith) j g };
    }

    pub under-next : {q : ℕ} (m : ℕ) → (k ≤ m) ⊎ (n ≤ i + m) → i < n → over_stretch l b i m ≡ false → q ≡ (stmt_at 32 t p).end → Under l t k (i + 1) q
    under-next {q} m h g e f = record {
      top = let z : suc i ≡ i + 1 = omega arith in subst (λ (x : ℕ). TopAt t b x q) z (subst (TopAt t b (suc i)) (sym f) (top-next U.top g));
      under = λ j r. go j (le-or-gt i j) r;
    }
      where
        wide : (k ≤ m) ⊎ (n ≤ i + m) → (suc k ≤ suc m) ⊎ (size b - i ≤ m)
        wide (inl a) = inl (omega arith)
        wide (inr a) = inr (omega (arith, size-tree L.tree.block))

        go : (j : ℕ) → (i ≤ j) ⊎ (j < i) → j < i + 1 → over_stretch l b j k ≡ false
        go j (inl a) r = let z : i ≡ j = omega arith in subst (λ (x : ℕ). over_stretch l b x k ≡ false) z (none-over l b i m (suc k) (wide h) e k (omega arith))
        go j (inr a) r = U.under j a

  -- ---- the shortest so far

  pub best-begins : {k : ℕ} → k ≡ n → Best l t 0 (record { at = 7; count = k })
  best-begins {k} e =
      let S = begins l b L.refused L.room in
      record {
        start = 0;
        top = top-start L.tree.block;
        hit = subst (λ (k : ℕ). over_stretch l b 0 k ≡ true) (size-tree L.tree.block ∙ sym e) S.hit;
        first = λ j h. absurd (omega arith);
        shorter = λ j m h k. absurd (omega arith);
      }

  module _ {i : ℕ} {s : Stretch} (B : Best l t i s) where
    sought : Sought (over_stretch l b) i s.count B.start
    sought = record { hit = B.hit; first = B.first; none = B.shorter }

    -- a shorter one
    pub best-shorter : {p m : ℕ} → TopAt t b i p → m < s.count → over_stretch l b i m ≡ true → Best l t i (record { at = p; count = m })
    best-shorter {p} {m} T h e = record { start = i; top = T; hit = e; first = λ j g. B.shorter j m g h; shorter = λ j k g r. B.shorter j k g (omega arith) }

    -- none from the i-th statement on
    next : ((k : ℕ) → k < s.count → over_stretch l b i k ≡ false) → Best l t (suc i) s
    next f = record { start = B.start; top = B.top; hit = B.hit; first = B.first; shorter = (later (over_stretch l b) i s.count B.start sought f).none }

    pub best-kept : (m : ℕ) → (s.count ≤ suc m) ⊎ (n ≤ i + m) → over_stretch l b i m ≡ false → Best l t (suc i) s
    best-kept m h e = next (none-over l b i m s.count (go h) e)
      where
        go : (s.count ≤ suc m) ⊎ (n ≤ i + m) → (s.count ≤ suc m) ⊎ (size b - i ≤ m)
        go (inl g) = inl g
        go (inr g) = inr (omega (arith, size-tree L.tree.block))

    -- no start is left
    pub best-least : n ≤ i → Least l t s
    best-least h =
        let e : (size b ≤ i) ⊎ (s.count ≤ 1) = inl (omega (arith, size-tree L.tree.block)) in
        record {
          start = B.start;
          top = B.top;
          within = omega (arith, within l b L.refused L.room i s.count B.start sought e, size-tree L.tree.block);
          is = cut-is l b L.refused L.room i s.count B.start sought e;
        }

-- ---- the search at a start

-- by other words
pub top-by : {t : List ℕ} {b : Block} {i j p : ℕ} → j ≡ i → TopAt t b i p → TopAt t b j p
top-by {t} {b} {p = p} e T = subst (λ (x : ℕ). TopAt t b x p) (sym e) T

pub best-by : {l : DefinedLimits} {t : List ℕ} {i j : ℕ} {s : Stretch} → j ≡ i → Best l t i s → Best l t j s
best-by {l} {t} {s = s} e B = subst (λ (x : ℕ). Best l t x s) (sym e) B

pub seeks-by : {l : DefinedLimits} {t : List ℕ} {i j k p q : ℕ} {s : Stretch} → k ≡ i → k ≡ j → q ≡ p → TopAt t (tree_block t) i p → Best l t j s → SeeksFrom l t k q s
seeks-by {l} {t} {i = i} {q = q} {s = s} e f g T B = record {
  top = subst (λ (x : ℕ). TopAt t (tree_block t) x q) (sym e) (subst (λ (x : ℕ). TopAt t (tree_block t) i x) (sym g) T);
  best = best-by f B;
}

-- a stretch without its first statements
pub tops-later : {t : List ℕ} {s : Stretch} {q : ℕ} → Tops t s → (m : ℕ) → m ≤ s.count → q ≡ (stmts_at 32 m t s.at).end → Tops t (record { at = q; count = s.count - m })
tops-later {t} {s} {q} T m h e =
    let w = T.within in
    record {
      start = T.start + m;
      top = subst (TopAt t (tree_block t) (T.start + m)) (sym e) (top-later m T.top (omega arith));
      within = omega arith;
    }
