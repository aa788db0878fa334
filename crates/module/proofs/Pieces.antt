-- Lists as pieces of bytes: their count, then each element's; and how long they are.
use mathlib.Core.Path.{◌≡◌, refl, sym, ap, ap₂, ◌∙◌, subst}
use mathlib.Core.List.{List, [], ◌∷◌, ◌++◌, map}
use Prim.Native.Nat.{ℕ, ◌+◌, ◌*◌, ◌≤◌, ◌<◌}
use native.Mathlib.Omega.{arith}
use native.Mathlib.Numerals.{add-one}
use native.Mathlib.Nat.{mul-suc}
use lib.ListN.{length, get_or, drop, length-append, length-map, drop_of_length-le}
use lib.Seq.{drop-cons}
use Rattle.definitions.specs.Bytes.{be, concat, list_bytes}
use Rattle.definitions.proofs.BytesWritten.{length-be}
use Rattle.module.specs.Sections.{counted_list}
use Rattle.writing.proofs.Begun.{joined}

-- ---- the elements of a list, from the i-th on

module _ (ps : List (List ℕ)) where
  pub counted-pieces : counted_list ps ≡ be 2 (length ps) ++ joined ps
  unfolding counted_list list_bytes concat joined
  counted-pieces = ap (λ (z : List ℕ). be 2 (length ps) ++ z) (go ps)
    where
      go : (qs : List (List ℕ)) → concat (λ (p : List ℕ). p) qs ≡ joined qs
      go [] = refl
      go (q ∷ qs) = ap (λ (z : List ℕ). q ++ z) (go qs)

  pub counted-two : 2 ≤ length (counted_list ps)
  counted-two = let e = ap length counted-pieces ∙ length-append (be 2 (length ps)) (joined ps) in let l = length-be 2 (length ps) in omega arith

  -- with the count that the code has found
  pub counted-first : {n : ℕ} → n ≡ length ps → counted_list ps ≡ be 2 n ++ joined ps
  counted-first e = counted-pieces ∙ ap (λ (n : ℕ). be 2 n ++ joined ps) (sym e)

  module _ (i : ℕ) where
    pub elements_next : i < length ps → drop i ps ≡ get_or ps i [] ∷ drop (i + 1) ps
    elements_next h = drop-cons ps i [] h ∙ ap (λ (n : ℕ). get_or ps i [] ∷ drop n ps) (sym (add-one i))

    pub elements-none : length ps ≤ i → drop i ps ≡ []
    elements-none h = drop_of_length-le ps h

-- a list of what is written by f
pub counted-map : {A : Type 0} (f : A → List ℕ) (xs : List A) → list_bytes 2 f xs ≡ counted_list (map f xs)
unfolding counted_list list_bytes concat
counted-map {A} f xs = ap₂ (λ (n : ℕ) (z : List ℕ). be 2 n ++ z) (sym (length-map xs f)) (go xs)
  where
    go : (ys : List A) → concat f ys ≡ concat (λ (p : List ℕ). p) (map f ys)
    go [] = refl
    go (y ∷ ys) = ap (λ (z : List ℕ). f y ++ z) (go ys)

-- a list of what words stand for
pub counted-words : {A : Type 0} (f : A → List ℕ) (g : ℕ → A) (ws : List ℕ) → list_bytes 2 f (map g ws) ≡ counted_list (map (λ (w : ℕ). f (g w)) ws)
counted-words f g ws = counted-map f (map g ws) ∙ ap counted_list (go ws)
  where
    go : (vs : List ℕ) → map f (map g vs) ≡ map (λ (w : ℕ). f (g w)) vs
    go [] = refl
    go (v ∷ vs) = ap (λ (z : List (List ℕ)). f (g v) ∷ z) (go vs)

-- at most k bytes an element
pub counted-room : (k : ℕ) (h : ℕ → List ℕ) (ws : List ℕ) → ((w : ℕ) → length (h w) ≤ k) → length (counted_list (map h ws)) ≤ 2 + k * length ws
unfolding joined
counted-room k h ws b =
    let e = ap length (counted-pieces (map h ws)) ∙ length-append (be 2 (length (map h ws))) (joined (map h ws)) in
    let l = length-be 2 (length (map h ws)) in
    let r = go ws in
    omega arith
  where
    go : (vs : List ℕ) → length (joined (map h vs)) ≤ k * length vs
    go [] = omega arith
    go (v ∷ vs) = let r = go vs in let l = length-append (h v) (joined (map h vs)) in let m = mul-suc k (length vs) in omega (arith, b v)

-- ---- bytes s of which all but some pieces are measured

pub record Measured (s : List ℕ) (size : ℕ) (ps : List (List ℕ)) : Type 0 where
  pub left : length s ≡ size + length (joined ps)

pub measured-count : (ps : List (List ℕ)) → Measured (counted_list ps) 2 ps
measured-count ps = record { left = ap length (counted-pieces ps) ∙ length-append (be 2 (length ps)) (joined ps) ∙ ap (λ (n : ℕ). n + length (joined ps)) (length-be 2 (length ps)) }

pub measured-as : {s : List ℕ} {size : ℕ} {ps qs : List (List ℕ)} → Measured s size ps → ps ≡ qs → Measured s size qs
measured-as {s} {size} m e = subst (λ (r : List (List ℕ)). Measured s size r) e m

module _ {s : List ℕ} {size : ℕ} {p : List ℕ} {ps : List (List ℕ)} (m : Measured s size (p ∷ ps)) where
  pub measured-fits : size + length p ≤ length s
  unfolding joined
  measured-fits = let h = m.left in let k = length-append p (joined ps) in omega arith

  pub measured-next : (n : ℕ) → n ≡ length p → Measured s (size + n) ps
  unfolding joined
  measured-next n e = let h = m.left in let k = length-append p (joined ps) in record { left = omega arith }

pub measured-done : {s : List ℕ} {size : ℕ} → Measured s size [] → size ≡ length s
unfolding joined
measured-done m = let h = m.left in omega arith
