-- What each way out of a step shows.
use Prim.Native.Nat.{ℕ, zero, suc, ◌+◌, ◌-◌, ◌<◌, ◌≤◌}
use mathlib.Core.Path.{◌≡◌, refl, sym, ap, ap₂, ◌∙◌, subst}
use mathlib.Core.List.{List, [], ◌∷◌, ◌++◌, append_assoc}
use native.Mathlib.Omega.{arith}
use lib.ListN.{length, get_or}
use Rattle.definitions.specs.Bytes.{be, list_bytes}
use Rattle.definitions.specs.Module.{name_bytes}
use Rattle.definitions.specs.TreeBytes.{size, expr_bytes, params_bytes, attribute_bytes, stmts_bytes}
use Rattle.definitions.specs.Rests.{rest}
use Rattle.tree_view.specs.Places as Places
use Rattle.tree_view.specs.Places.{count_at, name_end, ParamsAt, params_at}
use Rattle.tree_view.specs.ExprAt.{expr_at, ExprReads, TwoAt, second_at}
use Rattle.tree_view.specs.StmtAt.{stmt_at, block_at, stmts_at, branches_at, methods_at, StmtReads, BlockReads, StmtsRead, BranchesRead, MethodsRead, BranchAt, body_at, IfAt, elifs_at, ForAt, DefAt, def_block_at}
use Rattle.tree_view.proofs.StmtViews.{view-class, view-branches-more, view-methods-more, else-known, view-else}
use Rattle.instep.specs.Stepping.{both_at, SideBySide, same, rest_stmt_at, rest_stmts_at, rest_block_at, rest_branch_at, rest_branches_at, rest_if_at, rest_for_at, rest_def_at, rest_methods_at}
use Rattle.std.specs.Prelude.{Result, Ok, Err}
use Rattle.std.specs.declared.cmp.Ordering.{Ordering}
use Rattle.std.specs.declared.cmp.Ordering.TheVariants.{Less, Greater}
use Rattle.instep.specs.declared.Spot.{Spot}
use Rattle.instep.proofs.Differing.{differs_more, differs-here, number-differs}
use Rattle.instep.proofs.Stepping.{steps-as, steps-same, less-steps, greater-steps, first-apart, steps-after, then-steps, byte-steps}
use Rattle.instep.proofs.Parts.{Is, Begins, simple-is, stmts-rest, stmts-end, pass-reads, pass-ends, pass-rest, kept-size, kept-bytes, kept-few, none-size, stmts-within, Bare, all-passes}
use Rattle.instep.proofs.Parts.{block_reads, block-end, block-bytes, branches-bytes, branches-end, done-is, else_is, else-begins, methods-bytes, methods-end, no-methods, class-is}

-- ---- parts one after another

-- a part, then what stands where it ends
pub seq : (F G : ℕ → List ℕ) (D E : ℕ → ℕ) {r o : Result Spot Ordering} {xs ys : List ℕ} {e f x y : ℕ} → SideBySide r xs ys e f → r ≡ Ok (both_at x y) → SideBySide o (F x) (G y) (D x) (E y) → SideBySide o (xs ++ F e) (ys ++ G f) (D e) (E f)
seq F G D E S h T = let z = steps-same S h in then-steps S h (steps-as T (ap F z.first) (ap G z.second) (ap D z.first) (ap E z.second))

-- counts of two bytes, then more
pub count_less : (m n : ℕ) {e f : ℕ} (us vs : List ℕ) → m < n → n < 65536 → SideBySide (Err Less) (be 2 m ++ us) (be 2 n ++ vs) e f
count_less m n us vs h k = less-steps (differs_more us vs (number-differs 2 m n h k))

pub count-greater : (m n : ℕ) {e f : ℕ} (us vs : List ℕ) → n < m → m < 65536 → SideBySide (Err Greater) (be 2 m ++ us) (be 2 n ++ vs) e f
count-greater m n us vs h k = greater-steps (differs_more vs us (number-differs 2 n m h k))

-- parts that begin with bytes that differ
module _ {xs ys : List ℕ} {k l e f : ℕ} (X : Begins xs k) (Y : Begins ys l) where
  pub begin-less : k < l → SideBySide (Err Less) xs ys e f
  begin-less h = steps-as {e = e} {f = f} (less-steps (differs-here k l X.tail Y.tail h)) (sym X.is) (sym Y.is) refl refl

  pub begin-greater : l < k → SideBySide (Err Greater) xs ys e f
  begin-greater h = steps-as {e = e} {f = f} (greater-steps (differs-here l k Y.tail X.tail h)) (sym X.is) (sym Y.is) refl refl

-- and parts that begin with the same byte
pub kind-steps : {k : ℕ} {xs ys us vs : List ℕ} {e f d g : ℕ} {r : Result Spot Ordering} → Is xs e (k ∷ us) d → Is ys f (k ∷ vs) g → SideBySide r us vs d g → SideBySide r xs ys e f
kind-steps {k} X Y S = steps-as (byte-steps k S) (sym X.bytes) (sym Y.bytes) (sym X.end) (sym Y.end)

-- ---- a statement of one byte

pub simple-steps : (d : ℕ) {a b : List ℕ} {p q : ℕ} → StmtReads d a p → StmtReads d b q → get_or a p 0 ≡ get_or b q 0 → get_or a p 0 < 3
    → SideBySide (Ok (both_at (p + 1) (q + 1))) (rest_stmt_at d a p) (rest_stmt_at d b q) (stmt_at d a p).end (stmt_at d b q).end
simple-steps d {a} {b} {p} {q} r s e k =
    let X = simple-is d a p r k in
    let Y = simple-is d b q s (omega arith) in
    same (X.bytes ∙ ap (λ (z : ℕ). z ∷ []) e ∙ sym Y.bytes) (sym X.end) (sym Y.end)

-- ---- how many of so many statements are kept

-- n are left; of those behind, so many are kept
pub record Counting (d : ℕ) (t : List ℕ) (n₀ p₀ n p sum : ℕ) : Type 0 where
  pub reads : StmtsRead d n t p
  pub few : sum + n ≤ n₀
  pub total : sum + size (rest (stmts_at d n t p).value) ≡ size (rest (stmts_at d n₀ t p₀).value)

pub counting-start : {d : ℕ} {t : List ℕ} {n p k : ℕ} → n ≡ k → StmtsRead d n t p → Counting d t n p k p 0
counting-start {d} {t} {n} {p} f r = subst (λ (k : ℕ). Counting d t n p k p 0) f (record { reads = r; few = omega arith; total = omega arith })

module _ {d : ℕ} {t : List ℕ} {n₀ p₀ n p sum : ℕ} (C : Counting d t n₀ p₀ n p sum) where
  pub counting-done : n ≤ 0 → sum ≡ size (rest (stmts_at d n₀ t p₀).value)
  counting-done h = omega (arith, C.total, none-size d n t p h C.reads)

  module _ (h : 0 < n) {e s j : ℕ} (f : n - 1 ≡ j) where
    onward : (k : ℕ) → k ≤ 1 → k + size (rest (stmts_at d (n - 1) t e).value) ≡ size (rest (stmts_at d n t p).value) → StmtsRead d (n - 1) t e → s ≡ sum + k → Counting d t n₀ p₀ j e s
    onward k l z r i = subst (λ (m : ℕ). Counting d t n₀ p₀ m e s) f (record { reads = r; few = omega (arith, C.few, i); total = omega (arith, C.total, z, i) })

    -- a Pass is not counted, any other statement is
    pub counting-pass : get_or t p 0 ≡ 2 → e ≡ p + 1 → s ≡ sum → Counting d t n₀ p₀ j e s
    counting-pass i g k =
        let y : size (rest (stmts_at d (n - 1) t e).value) ≡ size (rest (stmts_at d (n - 1) t (p + 1)).value) = ap (λ (m : ℕ). size (rest (stmts_at d (n - 1) t m).value)) g in
        onward 0 (omega arith) (omega (arith, y, ap size (pass-rest d n t p h C.reads i))) (subst (λ (m : ℕ). StmtsRead d (n - 1) t m) (sym g) (pass-reads d n t p h C.reads i)) (omega arith)

    pub counting-kept : (get_or t p 0 ≡ 2 → ⊥) → e ≡ (stmt_at d t p).end → s ≡ sum + 1 → Counting d t n₀ p₀ j e s
    counting-kept i g k =
        let y : size (rest (stmts_at d (n - 1) t e).value) ≡ size (rest (stmts_at d (n - 1) t (stmt_at d t p).end).value) = ap (λ (m : ℕ). size (rest (stmts_at d (n - 1) t m).value)) g in
        onward 1 (omega arith) (omega (arith, y, kept-size d n t p h C.reads i)) (subst (λ (m : ℕ). StmtsRead d (n - 1) t m) (sym g) (stmts-rest d n t p h C.reads)) k

-- ---- statements of two blocks, of which as many are kept

pub record Pair (d : ℕ) (a b : List ℕ) (i₀ x₀ j₀ y₀ i x j y : ℕ) : Type 0 where
  pub first : StmtsRead d i a x
  pub second : StmtsRead d j b y
  pub end₁ : (stmts_at d i₀ a x₀).end ≡ (stmts_at d i a x).end
  pub end₂ : (stmts_at d j₀ b y₀).end ≡ (stmts_at d j b y).end
  pub front : List ℕ
  pub bytes₁ : rest_stmts_at d i₀ a x₀ ≡ front ++ rest_stmts_at d i a x
  pub bytes₂ : rest_stmts_at d j₀ b y₀ ≡ front ++ rest_stmts_at d j b y
  pub sizes : size (rest (stmts_at d i a x).value) ≡ size (rest (stmts_at d j b y).value)

pub pair-start : {d : ℕ} {a b : List ℕ} {i x j y : ℕ} → StmtsRead d i a x → StmtsRead d j b y → size (rest (stmts_at d i a x).value) ≡ size (rest (stmts_at d j b y).value) → Pair d a b i x j y i x j y
pair-start r s e = record { first = r; second = s; end₁ = refl; end₂ = refl; front = []; bytes₁ = refl; bytes₂ = refl; sizes = e }

module _ {d : ℕ} {a b : List ℕ} {i₀ x₀ j₀ y₀ i x j y : ℕ} (P : Pair d a b i₀ x₀ j₀ y₀ i x j y) where
  -- a Pass of the first
  pub pair-first : 0 < i → get_or a x 0 ≡ 2 → Pair d a b i₀ x₀ j₀ y₀ (i - 1) (x + 1) j y
  pair-first h e = record {
    first = pass-reads d i a x h P.first e;
    second = P.second;
    end₁ = P.end₁ ∙ pass-ends d i a x h P.first e;
    end₂ = P.end₂;
    front = P.front;
    bytes₁ = P.bytes₁ ∙ ap (λ (z : List ℕ). P.front ++ z) (ap stmts_bytes (pass-rest d i a x h P.first e));
    bytes₂ = P.bytes₂;
    sizes = sym (ap size (pass-rest d i a x h P.first e)) ∙ P.sizes;
  }

  -- a Pass of the second
  pub pair-second : 0 < j → get_or b y 0 ≡ 2 → Pair d a b i₀ x₀ j₀ y₀ i x (j - 1) (y + 1)
  pair-second h e = record {
    first = P.first;
    second = pass-reads d j b y h P.second e;
    end₁ = P.end₁;
    end₂ = P.end₂ ∙ pass-ends d j b y h P.second e;
    front = P.front;
    bytes₁ = P.bytes₁;
    bytes₂ = P.bytes₂ ∙ ap (λ (z : List ℕ). P.front ++ z) (ap stmts_bytes (pass-rest d j b y h P.second e));
    sizes = P.sizes ∙ ap size (pass-rest d j b y h P.second e);
  }

  -- where a statement of the first is kept, the second has one left
  pub pair-there : 0 < i → (get_or a x 0 ≡ 2 → ⊥) → 0 < j
  pair-there h e = go j refl
    where
      go : (n : ℕ) → j ≡ n → 0 < j
      go zero z = let s = kept-size d i a x h P.first e in let t = none-size d j b y (omega arith) P.second in absurd (omega (arith, P.sizes))
      go (suc n) z = omega arith

  module _ (h : 0 < i) (e : get_or a x 0 ≡ 2 → ⊥) (g : 0 < j) (f : get_or b y 0 ≡ 2 → ⊥) {r : Result Spot Ordering}
      (S : SideBySide r (rest_stmt_at d a x) (rest_stmt_at d b y) (stmt_at d a x).end (stmt_at d b y).end) where
    pub pair-next : {v w : ℕ} → r ≡ Ok (both_at v w) → Pair d a b i₀ x₀ j₀ y₀ (i - 1) v (j - 1) w
    pair-next {v} {w} k =
        let z = steps-same S k in
        record {
          first = subst (λ (n : ℕ). StmtsRead d (i - 1) a n) (sym z.first) (stmts-rest d i a x h P.first);
          second = subst (λ (n : ℕ). StmtsRead d (j - 1) b n) (sym z.second) (stmts-rest d j b y g P.second);
          end₁ = P.end₁ ∙ stmts-end d i a x h P.first ∙ ap (λ (n : ℕ). (stmts_at d (i - 1) a n).end) (sym z.first);
          end₂ = P.end₂ ∙ stmts-end d j b y g P.second ∙ ap (λ (n : ℕ). (stmts_at d (j - 1) b n).end) (sym z.second);
          front = P.front ++ rest_stmt_at d a x;
          bytes₁ = P.bytes₁ ∙ ap (λ (xs : List ℕ). P.front ++ xs) (kept-bytes d i a x h P.first e ∙ ap (λ (n : ℕ). rest_stmt_at d a x ++ rest_stmts_at d (i - 1) a n) (sym z.first))
              ∙ sym (append_assoc P.front (rest_stmt_at d a x) (rest_stmts_at d (i - 1) a v));
          bytes₂ = P.bytes₂
              ∙ ap (λ (xs : List ℕ). P.front ++ xs) (kept-bytes d j b y g P.second f ∙ ap₂ (λ (xs : List ℕ) (n : ℕ). xs ++ rest_stmts_at d (j - 1) b n) (sym z.bytes) (sym z.second))
              ∙ sym (append_assoc P.front (rest_stmt_at d a x) (rest_stmts_at d (j - 1) b w));
          sizes =
              let s = kept-size d i a x h P.first e in
              let t = kept-size d j b y g P.second f in
              let u : size (rest (stmts_at d (i - 1) a v).value) ≡ size (rest (stmts_at d (i - 1) a (stmt_at d a x).end).value) = ap (λ (n : ℕ). size (rest (stmts_at d (i - 1) a n).value)) z.first in
              let o : size (rest (stmts_at d (j - 1) b w).value) ≡ size (rest (stmts_at d (j - 1) b (stmt_at d b y).end).value) = ap (λ (n : ℕ). size (rest (stmts_at d (j - 1) b n).value)) z.second in
              omega (arith, P.sizes);
        }

    pub pair-apart : {c : Ordering} {m n : ℕ} → r ≡ Err c → SideBySide r (rest_stmts_at d i₀ a x₀) (rest_stmts_at d j₀ b y₀) m n
    pair-apart {c} {m} {n} k =
        steps-as (steps-after {e = m} {f = n} P.front (first-apart {e' = m} {f' = n} (rest_stmts_at d (i - 1) a (stmt_at d a x).end) (rest_stmts_at d (j - 1) b (stmt_at d b y).end) S k))
        (sym (P.bytes₁ ∙ ap (λ (xs : List ℕ). P.front ++ xs) (kept-bytes d i a x h P.first e))) (sym (P.bytes₂ ∙ ap (λ (xs : List ℕ). P.front ++ xs) (kept-bytes d j b y g P.second f))) refl refl

  -- the first is done: what is left of the second are Pass statements
  module _ (h : i ≤ 0) where
    bare₁ : Bare d i a x
    bare₁ = all-passes d i a x P.first (none-size d i a x h P.first)

    bare₂ : Bare d j b y
    bare₂ = all-passes d j b y P.second (sym P.sizes ∙ none-size d i a x h P.first)

    pub pair_inside : y + j ≤ length b
    pair_inside = let e = bare₂.end in omega (arith, stmts-within d j b y P.second)

    pub pair-done : SideBySide (Ok (both_at x (y + j))) (rest_stmts_at d i₀ a x₀) (rest_stmts_at d j₀ b y₀) (stmts_at d i₀ a x₀).end (stmts_at d j₀ b y₀).end
    pair-done =
        same (P.bytes₁ ∙ ap (λ (xs : List ℕ). P.front ++ xs) (bare₁.bytes ∙ sym bare₂.bytes) ∙ sym P.bytes₂)
        (sym (P.end₁ ∙ bare₁.end ∙ (let z : x + i ≡ x = omega arith in z))) (sym (P.end₂ ∙ bare₂.end))

-- ---- lists of as many elements on both sides

pub record Along (R Q : ℕ → ℕ → Type 0) (D E : ℕ → ℕ → ℕ) (B C : ℕ → ℕ → List ℕ) (n₀ x₀ y₀ n x y : ℕ) : Type 0 where
  pub first : R n x
  pub second : Q n y
  pub end₁ : D n₀ x₀ ≡ D n x
  pub end₂ : E n₀ y₀ ≡ E n y
  pub front : List ℕ
  pub bytes₁ : B n₀ x₀ ≡ front ++ B n x
  pub bytes₂ : C n₀ y₀ ≡ front ++ C n y

-- the first of n elements has the bytes xs and ends at m
pub record Head (R : ℕ → ℕ → Type 0) (D : ℕ → ℕ → ℕ) (B : ℕ → ℕ → List ℕ) (n x : ℕ) (xs : List ℕ) (m : ℕ) : Type 0 where
  pub rest : R (n - 1) m
  pub end : D n x ≡ D (n - 1) m
  pub bytes : B n x ≡ xs ++ B (n - 1) m

pub along-start : {R Q : ℕ → ℕ → Type 0} {D E : ℕ → ℕ → ℕ} {B C : ℕ → ℕ → List ℕ} {n x y j : ℕ} → n ≡ j → R n x → Q n y → Along R Q D E B C n x y j x y
along-start {R} {Q} {D} {E} {B} {C} {n} {x} {y} f r q = subst (λ (i : ℕ). Along R Q D E B C n x y i x y) f (record { first = r; second = q; end₁ = refl; end₂ = refl; front = []; bytes₁ = refl; bytes₂ = refl })

module _ {R Q : ℕ → ℕ → Type 0} {D E : ℕ → ℕ → ℕ} {B C : ℕ → ℕ → List ℕ} {n₀ x₀ y₀ n x y : ℕ} (A : Along R Q D E B C n₀ x₀ y₀ n x y) where
  -- what the rests of both lists say
  pub along-last : {r : Result Spot Ordering} → SideBySide r (B n x) (C n y) (D n x) (E n y) → SideBySide r (B n₀ x₀) (C n₀ y₀) (D n₀ x₀) (E n₀ y₀)
  along-last S = steps-as (steps-after A.front S) (sym A.bytes₁) (sym A.bytes₂) (sym A.end₁) (sym A.end₂)

  module _ {xs ys : List ℕ} {m k : ℕ} (X : Head R D B n x xs m) (Y : Head Q E C n y ys k) {r : Result Spot Ordering} (S : SideBySide r xs ys m k) where
    pub along-next : {v w j : ℕ} → r ≡ Ok (both_at v w) → n - 1 ≡ j → Along R Q D E B C n₀ x₀ y₀ j v w
    along-next {v} {w} h f =
        let z = steps-same S h in
        subst (λ (i : ℕ). Along R Q D E B C n₀ x₀ y₀ i v w) f (record {
          first = subst (R (n - 1)) (sym z.first) X.rest;
          second = subst (Q (n - 1)) (sym z.second) Y.rest;
          end₁ = A.end₁ ∙ X.end ∙ ap (D (n - 1)) (sym z.first);
          end₂ = A.end₂ ∙ Y.end ∙ ap (E (n - 1)) (sym z.second);
          front = A.front ++ xs;
          bytes₁ = A.bytes₁ ∙ ap (λ (us : List ℕ). A.front ++ us) (X.bytes ∙ ap (λ (j : ℕ). xs ++ B (n - 1) j) (sym z.first)) ∙ sym (append_assoc A.front xs (B (n - 1) v));
          bytes₂ = A.bytes₂ ∙ ap (λ (us : List ℕ). A.front ++ us) (Y.bytes ∙ ap₂ (λ (us : List ℕ) (j : ℕ). us ++ C (n - 1) j) (sym z.bytes) (sym z.second)) ∙ sym (append_assoc A.front xs (C (n - 1) w));
        })

    pub along-apart : {c : Ordering} → r ≡ Err c → SideBySide r (B n₀ x₀) (C n₀ y₀) (D n₀ x₀) (E n₀ y₀)
    along-apart h =
        along-last (steps-as (first-apart {e' = D n x} {f' = E n y} (B (n - 1) m) (C (n - 1) k) S h) (sym X.bytes) (sym Y.bytes) refl refl)

-- ---- branches and methods of one tree

abbrev pub BranchesAlong : ℕ → List ℕ → List ℕ → ℕ → ℕ → ℕ → ℕ → ℕ → ℕ → Type 0
BranchesAlong d a b =
    Along (λ n x. BranchesRead d n a x) (λ n x. BranchesRead d n b x) (λ n x. (branches_at d n a x).end) (λ n x. (branches_at d n b x).end) (λ n x. rest_branches_at d n a x) (λ n x. rest_branches_at d n b x)

pub branches-head : (d : ℕ) (t : List ℕ) (n x : ℕ) → 0 < n → BranchesRead d n t x → BranchAt d t x
branches-head d t n x h r = (view-branches-more d t x n h r).parts.first

pub branches-first : (d : ℕ) (t : List ℕ) (n x : ℕ) → 0 < n → BranchesRead d n t x
    → Head (λ n x. BranchesRead d n t x) (λ n x. (branches_at d n t x).end) (λ n x. rest_branches_at d n t x) n x (rest_branch_at d t x) (body_at d t x).end
branches-first d t n x h r = record { rest = (view-branches-more d t x n h r).parts.rest; end = branches-end d n t x h r; bytes = branches-bytes d n t x h r }

pub branches-none : (d : ℕ) (t : List ℕ) (n x : ℕ) → n ≤ 0 → BranchesRead d n t x → BranchesRead d 0 t x
branches-none d t n x h r = subst (λ (m : ℕ). BranchesRead d m t x) (let e : n ≡ 0 = omega arith in e) r

pub branches-zero : (d : ℕ) (a b : List ℕ) (n x y : ℕ) {r : Result Spot Ordering} → n ≤ 0 → SideBySide r (rest_branches_at d 0 a x) (rest_branches_at d 0 b y) (branches_at d 0 a x).end (branches_at d 0 b y).end
    → SideBySide r (rest_branches_at d n a x) (rest_branches_at d n b y) (branches_at d n a x).end (branches_at d n b y).end
branches-zero d a b n x y {r} h S =
    let e : 0 ≡ n = omega arith in
    subst (λ (m : ℕ). SideBySide r (rest_branches_at d m a x) (rest_branches_at d m b y) (branches_at d m a x).end (branches_at d m b y).end) e S

abbrev pub MethodsAlong : ℕ → List ℕ → List ℕ → ℕ → ℕ → ℕ → ℕ → ℕ → ℕ → Type 0
MethodsAlong d a b =
    Along (λ n x. MethodsRead d n a x) (λ n x. MethodsRead d n b x) (λ n x. (methods_at d n a x).end) (λ n x. (methods_at d n b x).end) (λ n x. rest_methods_at d n a x) (λ n x. rest_methods_at d n b x)

pub methods-head : (d : ℕ) (t : List ℕ) (n x : ℕ) → 0 < n → MethodsRead d n t x → DefAt d t x
methods-head d t n x h r = (view-methods-more d t x n h r).parts.first

pub methods-first : (d : ℕ) (t : List ℕ) (n x : ℕ) → 0 < n → MethodsRead d n t x
    → Head (λ n x. MethodsRead d n t x) (λ n x. (methods_at d n t x).end) (λ n x. rest_methods_at d n t x) n x (rest_def_at d t x) (def_block_at d t x).end
methods-first d t n x h r = record { rest = (view-methods-more d t x n h r).parts.rest; end = methods-end d n t x h r; bytes = methods-bytes d n t x h r }

pub methods-done : (d : ℕ) (a b : List ℕ) (n₀ x₀ y₀ n x y : ℕ) → MethodsAlong d a b n₀ x₀ y₀ n x y → n ≤ 0
    → SideBySide (Ok (both_at x y)) (rest_methods_at d n₀ a x₀) (rest_methods_at d n₀ b y₀) (methods_at d n₀ a x₀).end (methods_at d n₀ b y₀).end
methods-done d a b n₀ x₀ y₀ n x y A h =
    let X = no-methods d n a x h A.first in
    let Y = no-methods d n b y h A.second in
    along-last A (same (X.bytes ∙ sym Y.bytes) (sym X.end) (sym Y.end))

-- ---- blocks

module _ (d : ℕ) (a b : List ℕ) (p q m n : ℕ) (r : BlockReads d a p) (s : BlockReads d b q) (f : m ≡ count_at a p) (g : n ≡ count_at b q) (i j : ℕ)
    (h : i ≡ size (rest (stmts_at d m a (p + 2)).value)) (k : j ≡ size (rest (stmts_at d n b (q + 2)).value)) where
  bytes₁ : rest_block_at d a p ≡ be 2 i ++ rest_stmts_at d m a (p + 2)
  bytes₁ = block-bytes d a p m r f ∙ ap (λ (z : ℕ). be 2 z ++ rest_stmts_at d m a (p + 2)) (sym h)

  bytes₂ : rest_block_at d b q ≡ be 2 j ++ rest_stmts_at d n b (q + 2)
  bytes₂ = block-bytes d b q n s g ∙ ap (λ (z : ℕ). be 2 z ++ rest_stmts_at d n b (q + 2)) (sym k)

  pub block-less : {e o : ℕ} → n < 65536 → i < j → SideBySide (Err Less) (rest_block_at d a p) (rest_block_at d b q) e o
  block-less {e} {o} w l = steps-as {e = e} {f = o} (count_less i j _ _ l (let z = kept-few d n b (q + 2) (block_reads d b q n s g) in omega arith)) (sym bytes₁) (sym bytes₂) refl refl

  pub block-greater : {e o : ℕ} → m < 65536 → j < i → SideBySide (Err Greater) (rest_block_at d a p) (rest_block_at d b q) e o
  block-greater {e} {o} w l = steps-as {e = e} {f = o} (count-greater i j _ _ l (let z = kept-few d m a (p + 2) (block_reads d a p m r f) in omega arith)) (sym bytes₁) (sym bytes₂) refl refl

  module _ (l : i ≤ j) (o : j ≤ i) where
    level : i ≡ j
    level = omega arith

    pub block-kept : size (rest (stmts_at d m a (p + 2)).value) ≡ size (rest (stmts_at d n b (q + 2)).value)
    block-kept = sym h ∙ level ∙ k

    pub block-steps : {u : Result Spot Ordering} → SideBySide u (rest_stmts_at d m a (p + 2)) (rest_stmts_at d n b (q + 2)) (stmts_at d m a (p + 2)).end (stmts_at d n b (q + 2)).end
        → SideBySide u (rest_block_at d a p) (rest_block_at d b q) (block_at d a p).end (block_at d b q).end
    block-steps S =
        steps-as (steps-after (be 2 i) S) (sym bytes₁) (sym (bytes₂ ∙ ap (λ (z : ℕ). be 2 z ++ rest_stmts_at d n b (q + 2)) (sym level))) (sym (block-end d a p m r f)) (sym (block-end d b q n s g))

-- ---- a condition and a block

module _ (d : ℕ) (a b : List ℕ) (p q : ℕ) {r : Result Spot Ordering} (S : SideBySide r (expr_bytes (expr_at d a p).value) (expr_bytes (expr_at d b q).value) (expr_at d a p).end (expr_at d b q).end) where
  pub branch-apart : {c : Ordering} → r ≡ Err c → SideBySide r (rest_branch_at d a p) (rest_branch_at d b q) (body_at d a p).end (body_at d b q).end
  branch-apart h = first-apart (rest_block_at d a (expr_at d a p).end) (rest_block_at d b (expr_at d b q).end) S h

  module _ {x y : ℕ} (h : r ≡ Ok (both_at x y)) where
    pub branch-first : BranchAt d a p → BlockReads d a x
    branch-first B = subst (λ (n : ℕ). BlockReads d a n) (sym (steps-same S h).first) B.block

    pub branch-second : BranchAt d b q → BlockReads d b y
    branch-second B = subst (λ (n : ℕ). BlockReads d b n) (sym (steps-same S h).second) B.block

    pub branch-steps : {o : Result Spot Ordering} → SideBySide o (rest_block_at d a x) (rest_block_at d b y) (block_at d a x).end (block_at d b y).end
        → SideBySide o (rest_branch_at d a p) (rest_branch_at d b q) (body_at d a p).end (body_at d b q).end
    branch-steps T = seq (rest_block_at d a) (rest_block_at d b) (λ n. (block_at d a n).end) (λ n. (block_at d b n).end) S h T

    -- two expressions
    pub two-first : TwoAt d a p → ExprReads d a x
    two-first T = subst (λ (n : ℕ). ExprReads d a n) (sym (steps-same S h).first) T.second

    pub two-second : TwoAt d b q → ExprReads d b y
    two-second T = subst (λ (n : ℕ). ExprReads d b n) (sym (steps-same S h).second) T.second

    pub two_steps : {o : Result Spot Ordering} → SideBySide o (expr_bytes (expr_at d a x).value) (expr_bytes (expr_at d b y).value) (expr_at d a x).end (expr_at d b y).end
        → SideBySide o (expr_bytes (expr_at d a p).value ++ expr_bytes (second_at d a p).value) (expr_bytes (expr_at d b q).value ++ expr_bytes (second_at d b q).value) (second_at d a p).end (second_at d b q).end
    two_steps T = seq (λ n. expr_bytes (expr_at d a n).value) (λ n. expr_bytes (expr_at d b n).value) (λ n. (expr_at d a n).end) (λ n. (expr_at d b n).end) S h T

-- ---- a count and what it counts, after a part that ends at x and at y

-- the same number on both sides
pub same_count : {m n k : ℕ} → n ≡ k → m ≤ n → n ≤ m → m ≡ k
same_count e h g = omega (arith, e)

-- a count at n, and what follows it
abbrev Counts : (ℕ → List ℕ → ℕ → List ℕ) → List ℕ → ℕ → List ℕ
Counts F t n = be 2 (count_at t n) ++ F (count_at t n) t (n + 2)

module _ (F : ℕ → List ℕ → ℕ → List ℕ) (a b : List ℕ) (x y m n : ℕ) (f : m ≡ count_at a x) (g : n ≡ count_at b y) where
  counts-less : {e o : ℕ} → n < 65536 → m < n → SideBySide (Err Less) (Counts F a x) (Counts F b y) e o
  counts-less k l = count_less (count_at a x) (count_at b y) _ _ (omega arith) (omega arith)

  counts-greater : {e o : ℕ} → m < 65536 → n < m → SideBySide (Err Greater) (Counts F a x) (Counts F b y) e o
  counts-greater k l = count-greater (count_at a x) (count_at b y) _ _ (omega arith) (omega arith)

  counts-steps : {u : Result Spot Ordering} {e o : ℕ} → m ≤ n → n ≤ m → SideBySide u (F m a (x + 2)) (F m b (y + 2)) e o → SideBySide u (Counts F a x) (Counts F b y) e o
  counts-steps {u} {e} {o} k l S =
      steps-as (steps-after (be 2 m) S) (ap (λ (j : ℕ). be 2 j ++ F j a (x + 2)) f) (ap (λ (j : ℕ). be 2 j ++ F j b (y + 2)) (same_count g k l)) refl refl

-- ---- an If

module _ (d : ℕ) (a b : List ℕ) (p q : ℕ) {r : Result Spot Ordering} (S : SideBySide r (rest_branch_at d a p) (rest_branch_at d b q) (body_at d a p).end (body_at d b q).end) where
  pub if-apart : {c : Ordering} {e f : ℕ} → r ≡ Err c → SideBySide r (rest_if_at d a p) (rest_if_at d b q) e f
  if-apart h = first-apart _ _ S h

  module _ {x y : ℕ} (h : r ≡ Ok (both_at x y)) where
    pub if-first : IfAt d a p → x + 2 ≤ length a
    if-first I = let z = I.count.bytes in omega (arith, (steps-same S h).first)

    pub if-second : IfAt d b q → y + 2 ≤ length b
    if-second I = let z = I.count.bytes in omega (arith, (steps-same S h).second)

    pub if-reads : {m : ℕ} → m ≡ count_at a x → IfAt d a p → BranchesRead d m a (x + 2)
    if-reads {m} f I =
        subst (λ (n : ℕ). BranchesRead d n a (x + 2)) (sym (f ∙ ap (count_at a) (steps-same S h).first))
        (subst (λ (n : ℕ). BranchesRead d (count_at a (body_at d a p).end) a (n + 2)) (sym (steps-same S h).first) I.rest)

    pub if-others : {m : ℕ} → m ≡ count_at b y → IfAt d b q → BranchesRead d m b (y + 2)
    if-others {m} f I =
        subst (λ (n : ℕ). BranchesRead d n b (y + 2)) (sym (f ∙ ap (count_at b) (steps-same S h).second))
        (subst (λ (n : ℕ). BranchesRead d (count_at b (body_at d b q).end) b (n + 2)) (sym (steps-same S h).second) I.rest)

    -- what the count and the elifs say
    if-counts : {o : Result Spot Ordering} {e f : ℕ} → SideBySide o (Counts (rest_branches_at d) a x) (Counts (rest_branches_at d) b y) e f → SideBySide o (rest_if_at d a p) (rest_if_at d b q) e f
    if-counts {o} {e} {f} T = seq (Counts (rest_branches_at d) a) (Counts (rest_branches_at d) b) (λ n. e) (λ n. f) S h T

    if-ends : {m : ℕ} → m ≡ count_at a x → m ≡ count_at b y → {o : Result Spot Ordering}
        → SideBySide o (rest_if_at d a p) (rest_if_at d b q) (branches_at d m a (x + 2)).end (branches_at d m b (y + 2)).end → SideBySide o (rest_if_at d a p) (rest_if_at d b q) (elifs_at d a p).end (elifs_at d b q).end
    if-ends {m} f g T =
        let z = steps-same S h in
        steps-as T refl refl
        (ap₂ (λ (j n : ℕ). (branches_at d j a (n + 2)).end) (f ∙ ap (count_at a) z.first) z.first)
        (ap₂ (λ (j n : ℕ). (branches_at d j b (n + 2)).end) (g ∙ ap (count_at b) z.second) z.second)

    module _ {m n : ℕ} (f : m ≡ count_at a x) (g : n ≡ count_at b y) where
      pub if-less : {e o : ℕ} → n < 65536 → m < n → SideBySide (Err Less) (rest_if_at d a p) (rest_if_at d b q) e o
      if-less k l = if-counts (counts-less (rest_branches_at d) a b x y m n f g k l)

      pub if-greater : {e o : ℕ} → m < 65536 → n < m → SideBySide (Err Greater) (rest_if_at d a p) (rest_if_at d b q) e o
      if-greater k l = if-counts (counts-greater (rest_branches_at d) a b x y m n f g k l)

      pub if-steps : m ≤ n → n ≤ m → {o : Result Spot Ordering} → SideBySide o (rest_branches_at d m a (x + 2)) (rest_branches_at d m b (y + 2)) (branches_at d m a (x + 2)).end (branches_at d m b (y + 2)).end
          → SideBySide o (rest_if_at d a p) (rest_if_at d b q) (elifs_at d a p).end (elifs_at d b q).end
      if-steps k l T = if-ends f (same_count g k l) (if-counts (counts-steps (rest_branches_at d) a b x y m n f g k l T))

-- ---- the else block or none

module _ (d : ℕ) (a b : List ℕ) (p q : ℕ) (r : BranchesRead d 0 a p) (s : BranchesRead d 0 b q) where
  pub else-less : {e f : ℕ} → get_or a p 0 < get_or b q 0 → SideBySide (Err Less) (rest_branches_at d 0 a p) (rest_branches_at d 0 b q) e f
  else-less h = begin-less (else-begins d a p r) (else-begins d b q s) h

  pub else-greater : {e f : ℕ} → get_or b q 0 < get_or a p 0 → SideBySide (Err Greater) (rest_branches_at d 0 a p) (rest_branches_at d 0 b q) e f
  else-greater h = begin-greater (else-begins d a p r) (else-begins d b q s) h

  module _ (h : get_or a p 0 ≤ get_or b q 0) (k : get_or b q 0 ≤ get_or a p 0) where
    pub else-none : get_or a p 0 ≡ 0 → SideBySide (Ok (both_at (p + 1) (q + 1))) (rest_branches_at d 0 a p) (rest_branches_at d 0 b q) (branches_at d 0 a p).end (branches_at d 0 b q).end
    else-none e =
        let X = done-is d a p r e in
        let Y = done-is d b q s (omega arith) in
        same (X.bytes ∙ sym Y.bytes) (sym X.end) (sym Y.end)

    module _ (e : get_or a p 0 ≡ 0 → ⊥) where
      one : get_or a p 0 ≡ 1
      one = let z = else-known d a p 0 (omega arith) r in omega arith

      other : get_or b q 0 ≡ 1
      other = let z = one in omega arith

      pub else-first : BlockReads d a (p + 1)
      else-first = (view-else d a p 0 (omega arith) r one).parts

      pub else-second : BlockReads d b (q + 1)
      else-second = (view-else d b q 0 (omega arith) s other).parts

      pub else-steps : {u : Result Spot Ordering} → SideBySide u (rest_block_at d a (p + 1)) (rest_block_at d b (q + 1)) (block_at d a (p + 1)).end (block_at d b (q + 1)).end
          → SideBySide u (rest_branches_at d 0 a p) (rest_branches_at d 0 b q) (branches_at d 0 a p).end (branches_at d 0 b q).end
      else-steps S = kind-steps (else_is d a p r one) (else_is d b q s other) S

-- ---- after a name

module _ (a b : List ℕ) (p q : ℕ) {r : Result Spot Ordering} (S : SideBySide r (name_bytes (Places.name_from a p)) (name_bytes (Places.name_from b q)) (name_end a p) (name_end b q)) where
  -- a loop over an expression
  pub for-apart : (d : ℕ) {c : Ordering} {e f : ℕ} → r ≡ Err c → SideBySide r (rest_for_at d a p) (rest_for_at d b q) e f
  for-apart d h = first-apart _ _ S h

  -- a def
  pub def-apart : (d : ℕ) {c : Ordering} {e f : ℕ} → r ≡ Err c → SideBySide r (rest_def_at d a p) (rest_def_at d b q) e f
  def-apart d h = first-apart _ _ S h

  module _ {x y : ℕ} (h : r ≡ Ok (both_at x y)) where
    pub for-first : {d : ℕ} → ForAt d a p → BranchAt d a x
    for-first {d} F = subst (λ (n : ℕ). BranchAt d a n) (sym (steps-same S h).first) F.loop

    pub for-second : {d : ℕ} → ForAt d b q → BranchAt d b y
    for-second {d} F = subst (λ (n : ℕ). BranchAt d b n) (sym (steps-same S h).second) F.loop

    pub for-steps : (d : ℕ) {o : Result Spot Ordering} → SideBySide o (rest_branch_at d a x) (rest_branch_at d b y) (body_at d a x).end (body_at d b y).end
        → SideBySide o (rest_for_at d a p) (rest_for_at d b q) (body_at d a (name_end a p)).end (body_at d b (name_end b q)).end
    for-steps d T = seq (rest_branch_at d a) (rest_branch_at d b) (λ n. (body_at d a n).end) (λ n. (body_at d b n).end) S h T

    pub def-first : {d : ℕ} → DefAt d a p → ParamsAt a x
    def-first F = subst (λ (n : ℕ). ParamsAt a n) (sym (steps-same S h).first) F.params

    pub def-second : {d : ℕ} → DefAt d b q → ParamsAt b y
    def-second F = subst (λ (n : ℕ). ParamsAt b n) (sym (steps-same S h).second) F.params

    -- parameters and a block after the name
    After : ℕ → List ℕ → ℕ → List ℕ
    After d t n = params_bytes (params_at t n).value ++ rest_block_at d t (params_at t n).end

    def-after : (d : ℕ) {o : Result Spot Ordering} {e f : ℕ} → SideBySide o (After d a x) (After d b y) e f → SideBySide o (rest_def_at d a p) (rest_def_at d b q) e f
    unfolding After
    def-after d {o} {e} {f} T = seq (After d a) (After d b) (λ n. e) (λ n. f) S h T

    module _ (d : ℕ) {o : Result Spot Ordering} (P : SideBySide o (params_bytes (params_at a x).value) (params_bytes (params_at b y).value) (params_at a x).end (params_at b y).end) where
      pub params-apart : {c : Ordering} {e f : ℕ} → o ≡ Err c → SideBySide o (rest_def_at d a p) (rest_def_at d b q) e f
      unfolding After
      params-apart k = def-after d (first-apart _ _ P k)

      module _ {v w : ℕ} (k : o ≡ Ok (both_at v w)) where
        pub block-first : DefAt d a p → BlockReads d a v
        block-first F = subst (λ (n : ℕ). BlockReads d a n) (sym ((steps-same P k).first ∙ ap (λ (n : ℕ). (params_at a n).end) (steps-same S h).first)) F.block

        pub block-second : DefAt d b q → BlockReads d b w
        block-second F = subst (λ (n : ℕ). BlockReads d b n) (sym ((steps-same P k).second ∙ ap (λ (n : ℕ). (params_at b n).end) (steps-same S h).second)) F.block

        pub def-steps : {u : Result Spot Ordering} → SideBySide u (rest_block_at d a v) (rest_block_at d b w) (block_at d a v).end (block_at d b w).end
            → SideBySide u (rest_def_at d a p) (rest_def_at d b q) (def_block_at d a p).end (def_block_at d b q).end
        unfolding After
        def-steps T =
            let z = steps-same S h in
            steps-as (def-after d (seq (rest_block_at d a) (rest_block_at d b) (λ n. (block_at d a n).end) (λ n. (block_at d b n).end) P k T)) refl refl
            (ap (λ (n : ℕ). (block_at d a (params_at a n).end).end) z.first) (ap (λ (n : ℕ). (block_at d b (params_at b n).end).end) z.second)

-- ---- a class

-- so many methods, and no attributes
abbrev Members : ℕ → ℕ → List ℕ → ℕ → List ℕ
Members d n t p = rest_methods_at d n t p ++ list_bytes 2 attribute_bytes []

module _ (d : ℕ) (a b : List ℕ) (p q : ℕ) (ra : StmtReads d a p) (ea : get_or a p 0 ≡ 10) (rb : StmtReads d b q) (eb : get_or b q 0 ≡ 10) where
  whole : {r : Result Spot Ordering} {e f : ℕ}
      → SideBySide r (name_bytes (Places.name_from a (p + 1)) ++ Counts (Members (d - 1)) a (name_end a (p + 1))) (name_bytes (Places.name_from b (q + 1)) ++ Counts (Members (d - 1)) b (name_end b (q + 1))) e f
      → SideBySide r (rest_stmt_at d a p) (rest_stmt_at d b q) e f
  whole S = steps-as (byte-steps 10 S) (sym (class-is d a p ra ea)) (sym (class-is d b q rb eb)) refl refl

  module _ {r : Result Spot Ordering} (S : SideBySide r (name_bytes (Places.name_from a (p + 1))) (name_bytes (Places.name_from b (q + 1))) (name_end a (p + 1)) (name_end b (q + 1))) where
    pub class-apart : {c : Ordering} {e f : ℕ} → r ≡ Err c → SideBySide r (rest_stmt_at d a p) (rest_stmt_at d b q) e f
    class-apart h = whole (first-apart _ _ S h)

    module _ {x y : ℕ} (h : r ≡ Ok (both_at x y)) where
      pub class-first : x + 2 ≤ length a
      class-first = let z = (view-class d a p ra ea).parts.count.bytes in omega (arith, (steps-same S h).first)

      pub class-second : y + 2 ≤ length b
      class-second = let z = (view-class d b q rb eb).parts.count.bytes in omega (arith, (steps-same S h).second)

      pub class-methods : {m : ℕ} → m ≡ count_at a x → MethodsRead (d - 1) m a (x + 2)
      class-methods {m} f =
          subst (λ (n : ℕ). MethodsRead (d - 1) n a (x + 2)) (sym (f ∙ ap (count_at a) (steps-same S h).first))
          (subst (λ (n : ℕ). MethodsRead (d - 1) (count_at a (name_end a (p + 1))) a (n + 2)) (sym (steps-same S h).first) (view-class d a p ra ea).parts.methods)

      pub class-others : {m : ℕ} → m ≡ count_at b y → MethodsRead (d - 1) m b (y + 2)
      class-others {m} f =
          subst (λ (n : ℕ). MethodsRead (d - 1) n b (y + 2)) (sym (f ∙ ap (count_at b) (steps-same S h).second))
          (subst (λ (n : ℕ). MethodsRead (d - 1) (count_at b (name_end b (q + 1))) b (n + 2)) (sym (steps-same S h).second) (view-class d b q rb eb).parts.methods)

      -- what the count and the methods say
      class-counts : {o : Result Spot Ordering} {e f : ℕ} → SideBySide o (Counts (Members (d - 1)) a x) (Counts (Members (d - 1)) b y) e f → SideBySide o (rest_stmt_at d a p) (rest_stmt_at d b q) e f
      class-counts {o} {e} {f} T = whole (seq (Counts (Members (d - 1)) a) (Counts (Members (d - 1)) b) (λ n. e) (λ n. f) S h T)

      pub class-less : {m n e o : ℕ} → m ≡ count_at a x → n ≡ count_at b y → n < 65536 → m < n → SideBySide (Err Less) (rest_stmt_at d a p) (rest_stmt_at d b q) e o
      class-less {m} {n} f g k l = class-counts (counts-less (Members (d - 1)) a b x y m n f g k l)

      pub class-greater : {m n e o : ℕ} → m ≡ count_at a x → n ≡ count_at b y → m < 65536 → n < m → SideBySide (Err Greater) (rest_stmt_at d a p) (rest_stmt_at d b q) e o
      class-greater {m} {n} f g k l = class-counts (counts-greater (Members (d - 1)) a b x y m n f g k l)

      module _ {m n : ℕ} (f : m ≡ count_at a x) (g : n ≡ count_at b y) (k : m ≤ n) (l : n ≤ m) {o : Result Spot Ordering}
          (M : SideBySide o (rest_methods_at (d - 1) m a (x + 2)) (rest_methods_at (d - 1) m b (y + 2)) (methods_at (d - 1) m a (x + 2)).end (methods_at (d - 1) m b (y + 2)).end) where
        pub methods-apart : {c : Ordering} {e w : ℕ} → o ≡ Err c → SideBySide o (rest_stmt_at d a p) (rest_stmt_at d b q) e w
        methods-apart z = class-counts (counts-steps (Members (d - 1)) a b x y m n f g k l (first-apart _ _ M z))

        pub class-done : {v w s t : ℕ} → o ≡ Ok (both_at v w) → s ≡ (stmt_at d a p).end → t ≡ (stmt_at d b q).end → SideBySide (Ok (both_at s t)) (rest_stmt_at d a p) (rest_stmt_at d b q) (stmt_at d a p).end (stmt_at d b q).end
        class-done z i j =
            class-counts (counts-steps (Members (d - 1)) a b x y m n f g k l (same (ap (λ (us : List ℕ). us ++ list_bytes 2 attribute_bytes []) (steps-same M z).bytes) i j))
