-- Parts that a rest leaves as they are: their bytes are spans of the trees, and none is a proper beginning of another.
use Prim.Native.Nat.{ℕ, zero, suc, ◌+◌, ◌<◌, ◌≤◌}
use mathlib.Core.Path.{◌≡◌, refl, sym, ap, ◌∙◌, subst}
use mathlib.Core.List.{List, [], ◌∷◌}
use native.Mathlib.Omega.{arith}
use lib.ListN.{length, drop}
use Rattle.definitions.specs.Bytes.{Name, Parsed, got, Parser, ◌>>=◌, give, field, counted, list_of, name}
use Rattle.definitions.specs.Parse.{params, parse_expr}
use Rattle.definitions.proofs.Writes.{Writes}
use Rattle.definitions.proofs.TreeReads.{Both}
use Rattle.tree_view.specs.Places as Places
use Rattle.tree_view.specs.Places.{count_at, name_end, There, names_from, names_end, AllThere, ParamsAt, params_at}
use Rattle.tree_view.proofs.Laws.{follow, bind_is}
use Rattle.tree_view.proofs.LeafLaws.{name-there, field-two}
use Rattle.tree_view.proofs.LeafNodes.{name-within, names-within}
use Rattle.tree_view.proofs.Nodes.{node-within, node-got}
use Rattle.tree_view.specs.ExprAt.{expr_at, ExprReads}
use Rattle.tree_view.proofs.ExprLaws.{steady-E}
use Rattle.rests.specs.Taking.{span}
use Rattle.rests.proofs.Spans.{got-after, got-fact}
use Rattle.instep.specs.Stepping.{Bytes, Differs, Clear, SideBySide, same}
use Rattle.std.specs.Prelude.{Result, Ok, Err}
use Rattle.std.specs.declared.cmp.Ordering.{Ordering}
use Rattle.std.specs.declared.cmp.Ordering.TheVariants.{Less, Equal, Greater}
use Rattle.instep.specs.declared.Spot.{Spot}
use Rattle.std.specs.Cmp.Lexicographic.{slice_cmp}
use Rattle.std.specs.Ordering.{MatchOrdering, nat_cmp, ordering_then}
use Rattle.std.proofs.lemmas.Cmp.{ranked}
use Rattle.instep.proofs.Differing.{differs-here, differs-after, reads-clear}
use Rattle.instep.proofs.Stepping.{steps-as, less-steps, greater-steps}

-- ---- what is read from p up to e

pub record Got {A : Type 0} (P : Parser A) (t : List ℕ) (p e : ℕ) (v : A) : Type 0 where
  pub start : p ≤ length t
  pub within : e ≤ length t
  pub is : P (drop p t) ≡ got v (drop e t)

-- two such reads by one reader that is written back: what the comparison of their spans asks and gives
module _ {A : Type 0} {f : A → List ℕ} {P : Parser A} (W : Writes (Both P f) P) {a b : List ℕ} (o : Bytes a b) {p q e m : ℕ} {v w : A} (G : Got P a p e v) (H : Got P b q m w) where
  left-fact : Both P f v (span a p e)
  left-fact = got-fact W a p e v o.first G.start G.within G.is

  right-fact : Both P f w (span b q m)
  right-fact = got-fact W b q m w o.second H.start H.within H.is

  left-after : p ≤ e
  left-after = got-after W a p e v o.first G.start G.within G.is

  right-after : q ≤ m
  right-after = got-after W b q m w o.second H.start H.within H.is

  spans-clear : Clear (span a p e) (span b q m)
  spans-clear =
      subst (λ (xs : List ℕ). Clear xs (span b q m)) (sym left-fact.bytes)
      (subst (λ (ys : List ℕ). Clear (f v) ys) (sym right-fact.bytes) (reads-clear left-fact.back right-fact.back))

  spans_step : {r : Result Spot Ordering} → SideBySide r (span a p e) (span b q m) e m → SideBySide r (f v) (f w) e m
  spans_step S = steps-as S left-fact.bytes right-fact.bytes refl refl

-- the same where the ends are known by other names
got-as : {A : Type 0} {P : Parser A} {t : List ℕ} {p e x : ℕ} {v : A} → Got P t p e v → x ≡ e → Got P t p x v
got-as {P = P} {t = t} {p = p} {v = v} G h = subst (λ (n : ℕ). Got P t p n v) (sym h) G

module _ {A : Type 0} {f : A → List ℕ} {P : Parser A} (W : Writes (Both P f) P) {a b : List ℕ} (o : Bytes a b) {p q e m x y : ℕ} {v w : A} (G : Got P a p e v) (H : Got P b q m w) (i : x ≡ e) (j : y ≡ m) where
  pub spans-asked : (p ≤ x) × (x ≤ length a) × (q ≤ y) × (y ≤ length b) × Clear (span a p x) (span b q y)
  spans-asked =
      let g = got-as G i in
      let h = got-as H j in
      (left-after W o g h, g.within, right-after W o g h, h.within, spans-clear W o g h)

  pub spans-told : {r : Result Spot Ordering} → SideBySide r (span a p x) (span b q y) x y → SideBySide r (f v) (f w) e m
  spans-told S = steps-as (spans_step W o (got-as G i) (got-as H j) S) refl refl i j

pub expr-got : (d : ℕ) (t : List ℕ) (p : ℕ) → ExprReads d t p → Got (parse_expr d) t p (expr_at d t p).end (expr_at d t p).value
expr-got d t p r = record { start = r.start; within = node-within _ (parse_expr d) t p (steady-E d) r; is = node-got _ (parse_expr d) t p (steady-E d) r }

pub name-got : {t : List ℕ} {p : ℕ} → There t p → Got name t p (name_end t p) (Places.name_from t p)
name-got {t} {p} h = record { start = (let b = h.byte in omega arith); within = name-within t p h; is = name-there t p h }

names-got : (t : List ℕ) (n p : ℕ) → AllThere t n p → counted [] ◌∷◌ name n (drop p t) ≡ got (names_from t n p) (drop (names_end t n p) t)
unfolding counted AllThere names_from names_end give
names-got t zero p a = refl
names-got t (suc n) p a =
    bind_is name (λ x. counted [] ◌∷◌ name n >>= (λ xs. give (x ∷ xs))) (drop p t)
    ∙ ap (λ (g : Parsed Name). follow g (λ x. counted [] ◌∷◌ name n >>= (λ xs. give (x ∷ xs)))) (name-there t p a.0)
    ∙ bind_is (counted [] ◌∷◌ name n) (λ xs. give (Places.name_from t p ∷ xs)) (drop (name_end t p) t)
    ∙ ap (λ (g : Parsed (List Name)). follow g (λ xs. give (Places.name_from t p ∷ xs))) (names-got t n (name_end t p) a.1)

pub params-got : {t : List ℕ} {p : ℕ} → ParamsAt t p → Got params t p (params_at t p).end (params_at t p).value
unfolding params list_of params_at count_at
params-got {t} {p} h = record {
  start = (let b = h.count.bytes in omega arith);
  within = names-within t (count_at t p) (p + 2) h.count.bytes h.names;
  is = bind_is (field 2) (λ n. counted [] ◌∷◌ name n) (drop p t)
      ∙ ap (λ (g : Parsed ℕ). follow g (λ n. counted [] ◌∷◌ name n)) (field-two t p (let b = h.count.bytes in omega arith))
      ∙ names-got t (count_at t p) (p + 2) h.names;
}

-- ---- the comparison of two spans

abbrev Told : List ℕ → List ℕ → Ordering → Type 0
Told xs ys o = MatchOrdering o (Differs xs ys) (xs ≡ ys) (Differs ys xs)

told : (xs ys : List ℕ) {o p : Ordering} → o ≡ p → Told xs ys p → Told xs ys o
told xs ys e t = subst (Told xs ys) (sym e) t

-- what `cmp` says of two lists, neither of which is a proper beginning of the other
compared : (xs ys : List ℕ) (o : Ordering) → Clear xs ys → o ≡ slice_cmp nat_cmp xs ys → Told xs ys o
compared [] [] o C e = told [] [] e refl
compared [] (y ∷ ys) o C e = let z : length (y ∷ ys) ≡ 0 = ap length (C.first (y ∷ ys) refl) in absurd (omega arith)
compared (x ∷ xs) [] o C e = let z : length (x ∷ xs) ≡ 0 = ap length (C.second (x ∷ xs) refl) in absurd (omega arith)
compared (x ∷ xs) (y ∷ ys) o C e = go (nat_cmp x y) (ranked x y (nat_cmp x y) refl) (λ h f. compared xs ys o (onward h) f) e
  where
    onward : x ≡ y → Clear xs ys
    onward h = record {
      first = λ zs e. C.first zs (ap (λ (z : ℕ). z ∷ ys) (sym h) ∙ ap (λ (z : List ℕ). x ∷ z) e);
      second = λ zs e. C.second zs (ap (λ (z : ℕ). z ∷ xs) h ∙ ap (λ (z : List ℕ). y ∷ z) e);
    }

    alike : x ≡ y → (p : Ordering) → Told xs ys p → Told (x ∷ xs) (y ∷ ys) p
    alike h Less D = rw h (differs-after (y ∷ []) D)
    alike h Equal D = rw (h, D)
    alike h Greater D = rw h (differs-after (y ∷ []) D)

    go : (p : Ordering) → MatchOrdering p (x < y) (x ≡ y) (y < x) → (x ≡ y → o ≡ slice_cmp nat_cmp xs ys → Told xs ys o)
        → o ≡ ordering_then p (slice_cmp nat_cmp xs ys) → Told (x ∷ xs) (y ∷ ys) o
    go Less h r f = told (x ∷ xs) (y ∷ ys) f (differs-here x y xs ys h)
    go Equal h r f = alike h o (r h f)
    go Greater h r f = told (x ∷ xs) (y ∷ ys) f (differs-here y x ys xs h)

-- so of two spans
module _ {xs ys : List ℕ} {o : Ordering} (C : Clear xs ys) (e : o ≡ slice_cmp nat_cmp xs ys) where
  pub spans-less : {m n : ℕ} → o ≡ Less → SideBySide (Err Less) xs ys m n
  spans-less h = less-steps (told xs ys (sym h) (compared xs ys o C e))

  pub spans-greater : {m n : ℕ} → o ≡ Greater → SideBySide (Err Greater) xs ys m n
  spans-greater h = greater-steps (told xs ys (sym h) (compared xs ys o C e))

  pub spans-same : {at : Spot} {m n : ℕ} → o ≡ Equal → at.first ≡ m → at.second ≡ n → SideBySide (Ok at) xs ys m n
  spans-same h f g = same (told xs ys (sym h) (compared xs ys o C e)) f g
