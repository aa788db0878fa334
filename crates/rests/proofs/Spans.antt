-- What was read at a position are the bytes that the writer writes for it.
use Prim.Native.Nat.{ℕ, zero, suc, ◌+◌, ◌-◌, ◌≤◌}
use mathlib.Core.Path.{◌≡◌, sym, ap, ◌∙◌, subst}
use mathlib.Core.Bool.{true}
use mathlib.Core.List.{List, [], ◌∷◌, ◌++◌}
use native.Mathlib.Omega.{arith}
use lib.Dec.{ltb}
use lib.ListN.{length, length-append, take, drop, length-drop}
use lib.Seq.{take-append_seam}
use lib.Pow.{are_bytes}
use Rattle.definitions.specs.Bytes.{got, Parser}
use Rattle.definitions.proofs.Truth.{right}
use Rattle.definitions.proofs.Writes.{Wrote, Writes}
use Rattle.tree_view.specs.Places.{node_at, Reads}
use Rattle.tree_view.proofs.Laws.{Steady}
use Rattle.tree_view.proofs.Nodes.{node-within, node-got}
use Rattle.rests.specs.Taking.{span}

pub bytes_drop : (k : ℕ) (t : List ℕ) → are_bytes t ≡ true → are_bytes (drop k t) ≡ true
bytes_drop zero t o = o
bytes_drop (suc k) [] o = o
bytes_drop (suc k) (x ∷ t) o = bytes_drop k t (right (ltb x 256) (are_bytes t) o)

-- a read from p up to e
module _ {A : Type 0} {R : A → List ℕ → Type 0} {P : Parser A} (W : Writes R P) (t : List ℕ) (p e : ℕ) (v : A) (o : are_bytes t ≡ true) (s : p ≤ length t) (w : e ≤ length t)
    (g : P (drop p t) ≡ got v (drop e t)) where
  wrote : Wrote R (drop p t) v (drop e t)
  wrote = W.at (drop p t) (bytes_drop p t o) v (drop e t) g

  long : p + length wrote.taken ≡ e
  long = omega (arith, ap length wrote.splits ∙ length-append wrote.taken (drop e t), length-drop p t, length-drop e t, s, w)

  -- it ends no earlier than it begins
  pub got-after : p ≤ e
  got-after = let l = long in omega arith

  span-is : span t p e ≡ wrote.taken
  unfolding span
  span-is =
      let n : e - p ≡ length wrote.taken = (let l = long in omega arith) in
      ap (take (e - p)) wrote.splits ∙ ap (λ (k : ℕ). take k (wrote.taken ++ drop e t)) n ∙ take-append_seam wrote.taken (drop e t)

  pub got-fact : R v (span t p e)
  got-fact = subst (R v) (sym span-is) wrote.fact

  -- as many bytes as there are between its ends
  pub got-length : p + length (span t p e) ≡ e
  got-length = ap (λ (xs : List ℕ). p + length xs) span-is ∙ long

-- a node
module _ {A : Type 0} {R : A → List ℕ → Type 0} (z : A) {P : Parser A} (W : Writes R P) (s : Steady P) (t : List ℕ) (p : ℕ) (o : are_bytes t ≡ true) (r : Reads P t p) where
  pub node-after : p ≤ (node_at z P t p).end
  node-after = got-after W t p (node_at z P t p).end (node_at z P t p).value o r.start (node-within z P t p s r) (node-got z P t p s r)

  pub node-fact : R (node_at z P t p).value (span t p (node_at z P t p).end)
  node-fact = got-fact W t p (node_at z P t p).end (node_at z P t p).value o r.start (node-within z P t p s r) (node-got z P t p s r)

  pub node-length : p + length (span t p (node_at z P t p).end) ≡ (node_at z P t p).end
  node-length = got-length W t p (node_at z P t p).end (node_at z P t p).value o r.start (node-within z P t p s r) (node-got z P t p s r)
