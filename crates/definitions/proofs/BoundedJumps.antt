-- Loops, branches and shortcuts of parts in bounds are in bounds.
use mathlib.Core.Path.{◌≡◌, ◌∙◌}
use mathlib.Core.Bool.{Bool, true, false}
use mathlib.Core.List.{List, ◌∷◌, ◌++◌, []}
use Prim.Native.Nat.{ℕ, suc, ◌+◌, ◌-◌, ◌≤◌, ◌<◌}
use native.Mathlib.Omega.{arith}
use lib.ListN.{length, length-append}
use lib.Dec.{eqb}
use Rattle.definitions.specs.Instruction.{Instr, Jump, JumpIfFalse, ConstBool, minus}
use Rattle.definitions.specs.Tables.{Tables, Out, Emit}
use Rattle.definitions.specs.Lower
use Rattle.definitions.specs.Lower.{jump_on, shortcut, patch, patched}
use Rattle.definitions.proofs.Shape.{length-patch}
use Rattle.definitions.proofs.Every.{Every, no_every, every, every_append}
use Rattle.definitions.proofs.Bounds.{Sound, jump-sound, jump_on-sound, bool-sound}
use Rattle.definitions.proofs.LongerTables.{longer-none, longer-more, code_up, small-down}
use Rattle.definitions.proofs.BoundedPart.{Step, Fits, step-two}

patched-sound : {t : Tables} {s : ℕ} (h m i : ℕ) (x : Instr) → m < 4294967296 → Sound t s x → Sound t s (patched h m i x)
unfolding patched minus
patched-sound {t} {s} h m i x l k = go (eqb x.op 46) (eqb x.op 47)
  where
    go : (a c : Bool) → Sound t s (elim a as (λ z. Instr) [ true ↦ Jump (m - i) | false ↦ elim c as (λ z. Instr) [ true ↦ Jump (minus (h + suc i)) | false ↦ x ] ])
    go true c = jump-sound (omega arith)
    go false true = jump-sound (omega arith)
    go false false = k

patch-sound : {t : Tables} {s : ℕ} (h m i : ℕ) {is : List Instr} → m < 4294967296 → Every (Sound t s) is → Every (Sound t s) (patch h m i is)
unfolding patch
patch-sound h m i l no_every = no_every
patch-sound h m i l (every {a = x} k r) = every (patched-sound h m i x l k) (patch-sound h m (suc i) l r)

-- how long a loop's and a branch's code is
pub length_three : (xs ys zs : List Instr) (i j : Instr) → length (xs ++ (i ∷ (ys ++ (j ∷ zs)))) ≡ length xs + suc (length ys + suc (length zs))
length_three xs ys zs i j = simp length-append

pub fits-loop : {m n s : ℕ} {b : Tables} {e f : Emit} → Fits m s b e → Fits n s b f → Fits (m + n) s b (Lower.loop e f)
unfolding Lower.loop minus jump_on
fits-loop {e} {f} A B = record {
  at = λ p t u.
      let S = A.at p t u in
      let a = e p t in
      let h = suc (length a.code) in
      let q = suc (p + length a.code) in
      let b = f q a.tables in
      let n = length b.code in
      let j = Jump (minus (suc (h + n))) in
      let is = a.code ++ (JumpIfFalse (suc n) ∷ (patch h n 0 b.code ++ (j ∷ []))) in
      let l : length is ≡ length a.code + suc (n + 1) = length_three a.code (patch h n 0 b.code) [] (JumpIfFalse (suc n)) j ∙ rw (length-patch h n 0 b.code) in
      step-two a b q is S (B.at q a.tables (longer-more u S.longer)) (omega arith) (omega arith)
      (λ S x y. every_append x (every (jump_on-sound false _ (omega (arith, S.place))) (every_append (patch-sound h n 0 (omega (arith, S.place)) y) (every (jump-sound (omega arith)) no_every))));
}

-- a branch: a condition, a part, and the parts after it
pub step-branch : {m n k s p : ℕ} {t : Tables} (a o r : Out) (q q' hop : ℕ) → q ≡ suc (p + length a.code) → q' ≡ q + suc (length o.code) → hop ≤ length r.code → Step m s p t a → Step n s q a.tables o → Step k s q' o.tables r
    → Step (m + (n + k)) s p t (record { code = a.code ++ (JumpIfFalse (suc (length o.code)) ∷ (o.code ++ (Jump hop ∷ r.code))); tables = r.tables; sources = a.sources ++ (o.sources ++ r.sources) })
unfolding jump_on
step-branch {p} a o r q q' hop e e' h A B C =
    let is = a.code ++ (JumpIfFalse (suc (length o.code)) ∷ (o.code ++ (Jump hop ∷ r.code))) in
    let l : length is ≡ length a.code + suc (length o.code + suc (length r.code)) = length_three a.code o.code r.code (JumpIfFalse (suc (length o.code))) (Jump hop) in
    record {
      longer = longer-more A.longer (longer-more B.longer C.longer);
      weight = omega arith;
      keeps = λ S T.
          let x = A.keeps (small-down (longer-more B.longer C.longer) (omega arith) S) T in
          let y = B.keeps (small-down C.longer (omega arith) S) x.trim in
          let z = C.keeps (small-down longer-none (omega arith) S) y.trim in
          record {
            trim = z.trim;
            code = every_append (code_up (longer-more B.longer C.longer).sizes x.code) (every (jump_on-sound false _ (omega (arith, S.place)))
                (every_append (code_up C.longer.sizes y.code) (every (jump-sound (omega (arith, S.place))) z.code)));
          };
    }

pub fits-shortcut : {n s : ℕ} {b : Tables} {f : Emit} (c : Bool) → Fits n s b f → Fits n s b (shortcut c f)
unfolding shortcut
fits-shortcut {f} c A = record {
  at = λ p t u.
      let S = A.at (suc p) t u in
      let o = f (suc p) t in
      let l : length (o.code ++ (Jump 1 ∷ ConstBool c ∷ [])) ≡ length o.code + 2 = length-append o.code (Jump 1 ∷ ConstBool c ∷ []) in
      record {
        longer = S.longer;
        weight = S.weight;
        keeps = λ s r.
            let K = S.keeps (small-down longer-none (omega arith) s) r in
            record { trim = K.trim; code = every (jump_on-sound c (suc (length o.code)) (omega (arith, s.place))) (every_append K.code (every (jump-sound {k = 1} (omega arith)) (every (bool-sound c) no_every))) };
      };
}
