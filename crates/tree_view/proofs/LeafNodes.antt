-- Counts, names, parameters, texts and numbers that are read. Assumes nothing.
use Prim.Native.Nat.{ℕ, zero, suc, ◌+◌, ◌<◌, ◌≤◌}
use mathlib.Core.Path.{◌≡◌, refl, sym, ap, ◌∙◌}
use mathlib.Core.Bool.{true}
use mathlib.Core.List.{List, [], ◌∷◌}
use mathlib.Core.Logic.{⊎_elim}
use native.Mathlib.Omega.{arith}
use lib.ListN.{length, take, drop, length-drop}
use lib.Seq.{drop-drop}
use Rattle.definitions.specs.Bytes.{Name, Parsed, got, failed, Parser, ◌>>=◌, byte, field, counted, list_of, name, text}
use Rattle.definitions.specs.Parse.{params}
use Rattle.tree_view.specs.Places.{Node, node, node_at, is_got, Reads, count_at, CountThere, eight_at, name_from, name_end, There, names_from, names_end, AllThere, ParamsAt, params_at, TextAt, text_node_at}
use Rattle.tree_view.proofs.Laws.{follow, bind_is}
use Rattle.tree_view.proofs.LeafLaws.{field-short, field-long, field-two, bytes-long, bytes-short, name-there}
use Rattle.tree_view.proofs.NameLaws.{name-or, Listed, listed, unlisted, names-read}
use Rattle.tree_view.proofs.Nodes.{Goes, not-got, got-node, first_reads, goes-got}
use Rattle.definitions.proofs.Begins.{le-or-gt}

-- ---- counts

pub count-there : (t : List ℕ) (p : ℕ) → Reads (field 2) t p → CountThere t p
unfolding is_got
count-there t p r = let le = r.start in ⊎_elim
    (λ (h : p + 2 ≤ length t). record { bytes = h })
    (λ (h : length t < p + 2). not-got (sym (ap is_got (field-short 2 (drop p t) (omega (arith, length-drop p t)))) ∙ r.read))
    (le-or-gt (p + 2) (length t))

count-got : (t : List ℕ) (p : ℕ) → CountThere t p → field 2 (drop p t) ≡ got (count_at t p) (drop (p + 2) t)
unfolding count_at
count-got t p c = field-two t p (let h = c.bytes in omega arith)

-- a count, and what follows it
pub goes-count : {B : Type 0} (z : B) (f : ℕ → Parser B) (t : List ℕ) (p : ℕ) → Reads (field 2 >>= f) t p → CountThere t p × Goes z (field 2 >>= f) t p (f (count_at t p)) (p + 2)
goes-count z f t p r = let c = count-there t p (first_reads z (field 2) f t p r) in
    (c, goes-got z (field 2) f t p r (count_at t p) (p + 2) c.bytes (count-got t p c))

-- ---- a number of eight bytes

pub eight-there : (t : List ℕ) (p : ℕ) → Reads (field 8) t p → p + 8 ≤ length t
unfolding is_got
eight-there t p r = let le = r.start in ⊎_elim
    (λ (h : p + 8 ≤ length t). h)
    (λ (h : length t < p + 8). not-got (sym (ap is_got (field-short 8 (drop p t) (omega (arith, length-drop p t)))) ∙ r.read))
    (le-or-gt (p + 8) (length t))

pub eight-node : (t : List ℕ) (p : ℕ) → p + 8 ≤ length t → node_at 0 (field 8) t p ≡ node (eight_at t p) (p + 8)
unfolding eight_at
eight-node t p h = let f = field-long 8 (drop p t) (omega (arith, length-drop p t)) in
    let e = got-node 0 (field 8) t p f.0 (p + 8) h (f.1 ∙ ap (got f.0) (drop-drop 8 p t)) in e ∙ ap (λ (n : ℕ). node n (p + 8)) (sym (ap (λ (x : Node ℕ). x.value) e))

-- ---- names

pub name-is-there : (t : List ℕ) (p : ℕ) → Reads name t p → There t p
unfolding is_got
name-is-there t p r = ⊎_elim
    (λ (h : There t p). h)
    (λ (h : name (drop p t) ≡ failed 5). not-got (sym (ap is_got h) ∙ r.read))
    (name-or t p)

pub name-within : (t : List ℕ) (p : ℕ) → There t p → name_end t p ≤ length t
unfolding name_end
name-within t p h = h.bytes

pub name-node : (t : List ℕ) (p : ℕ) → There t p → node_at [] name t p ≡ node (name_from t p) (name_end t p)
name-node t p h = got-node [] name t p (name_from t p) (name_end t p) (name-within t p h) (name-there t p h)

pub goes-name : {B : Type 0} (z : B) (f : Name → Parser B) (t : List ℕ) (p : ℕ) → Reads (name >>= f) t p → There t p × Goes z (name >>= f) t p (f (name_from t p)) (name_end t p)
goes-name z f t p r = let h = name-is-there t p (first_reads z name f t p r) in
    (h, goes-got z name f t p r (name_from t p) (name_end t p) (name-within t p h) (name-there t p h))

-- ---- parameters

pub names-within : (t : List ℕ) (n p : ℕ) → p ≤ length t → AllThere t n p → names_end t n p ≤ length t
unfolding AllThere names_end
names-within t zero p le a = le
names-within t (suc n) p le a = names-within t n (name_end t p) (name-within t p a.0) a.1

module _ (t : List ℕ) (n p : ℕ) where
  listed-there : {g : Parsed (List Name)} → Listed t n p g → is_got g ≡ true → AllThere t n p
  unfolding is_got
  listed-there (listed a) e = a
  listed-there unlisted e = not-got e

  listed-got : {g : Parsed (List Name)} → Listed t n p g → is_got g ≡ true → g ≡ got (names_from t n p) (drop (names_end t n p) t)
  unfolding is_got
  listed-got (listed a) e = refl
  listed-got unlisted e = not-got e

module _ (t : List ℕ) (p : ℕ) (r : Reads params t p) where
  params-read : CountThere t p × Goes [] (field 2 >>= λ n. counted [] ◌∷◌ name n) t p (counted [] ◌∷◌ name (count_at t p)) (p + 2)
  unfolding params list_of
  params-read = goes-count [] (λ n. counted [] ◌∷◌ name n) t p r

  pub params-there : ParamsAt t p
  params-there = record { count = params-read.0; names = listed-there t (count_at t p) (p + 2) (names-read t (count_at t p) (p + 2)) params-read.1.reads.read }

  pub params-within : (params_at t p).end ≤ length t
  unfolding params_at
  params-within = names-within t (count_at t p) (p + 2) params-read.0.bytes params-there.names

  pub params-got : params (drop p t) ≡ got (params_at t p).value (drop (params_at t p).end t)
  unfolding params list_of params_at
  params-got =
      bind_is (field 2) (λ n. counted [] ◌∷◌ name n) (drop p t) ∙ ap (λ (g : Parsed ℕ). follow g (λ n. counted [] ◌∷◌ name n)) (count-got t p params-read.0)
      ∙ listed-got t (count_at t p) (p + 2) (names-read t (count_at t p) (p + 2)) params-read.1.reads.read

pub goes-params : {B : Type 0} (z : B) (f : List Name → Parser B) (t : List ℕ) (p : ℕ) → Reads (params >>= f) t p → ParamsAt t p × Goes z (params >>= f) t p (f (params_at t p).value) (params_at t p).end
goes-params z f t p r = let q = first_reads z params f t p r in
    (params-there t p q, goes-got z params f t p r (params_at t p).value (params_at t p).end (params-within t p q) (params-got t p q))

-- ---- texts

module _ (t : List ℕ) (p : ℕ) (r : Reads text t p) where
  text-read : CountThere t p × Goes [] (field 2 >>= λ n. counted [] ◌∷◌ byte n) t p (counted [] ◌∷◌ byte (count_at t p)) (p + 2)
  unfolding text list_of
  text-read = goes-count [] (λ n. counted [] ◌∷◌ byte n) t p r

  pub text-there : TextAt t p
  unfolding is_got
  text-there = let c = text-read.0 in ⊎_elim
      (λ (h : p + 2 + count_at t p ≤ length t). record { count = c; bytes = h })
      (λ (h : length t < p + 2 + count_at t p). not-got (sym (ap is_got (bytes-short (count_at t p) (drop (p + 2) t) (omega (arith, length-drop (p + 2) t)))) ∙ text-read.1.reads.read))
      (le-or-gt (p + 2 + count_at t p) (length t))

  pub text-node : node_at [] text t p ≡ text_node_at t p
  unfolding text list_of text_node_at
  text-node = let h = text-there in text-read.1.is ∙ got-node [] (counted [] ◌∷◌ byte (count_at t p)) t (p + 2) _ (p + 2 + count_at t p) h.bytes
      (bytes-long (count_at t p) (drop (p + 2) t) (let b = h.bytes in omega (arith, length-drop (p + 2) t)) ∙ ap (got (take (count_at t p) (drop (p + 2) t))) (drop-drop (count_at t p) (p + 2) t))

-- ---- positions only rise

names-after : (t : List ℕ) (n p : ℕ) → p ≤ names_end t n p
unfolding names_end name_end
names-after t zero p = omega arith
names-after t (suc n) p = let h = names-after t n (name_end t p) in omega arith

pub name-after : (t : List ℕ) (p : ℕ) → p ≤ name_end t p
unfolding name_end
name-after t p = omega arith

pub params-after : (t : List ℕ) (p : ℕ) → p ≤ (params_at t p).end
unfolding params_at
params-after t p = let h = names-after t (count_at t p) (p + 2) in omega arith
