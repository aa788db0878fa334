-- Event bytes that are stored. Assumes nothing.
use Prim.Native.Nat.{ℕ, suc, ◌+◌, ◌≤◌, ◌<◌}
use mathlib.Core.Path.{◌≡◌, refl, sym, ap, ap₂, ◌∙◌}
use mathlib.Core.List.{List, [], ◌∷◌, ◌++◌}
use native.Mathlib.Omega.{arith}
use lib.ListN.{length, drop, get_or, set, length-append}
use lib.Seq.{sets, sets-eq, length-sets, drop-cons}
use Rattle.std.proofs.lemmas.List.{drop_all}
use Rattle.definitions.specs.Calls.{written}
use Rattle.run.specs.Pass.{Copied}

sets-append : (xs ys l : List ℕ) (at : ℕ) → sets l at (xs ++ ys) ≡ sets (sets l at xs) (at + length xs) ys
sets-append [] ys l at = ap (λ (k : ℕ). sets l k ys) (let z : at ≡ at + 0 = omega arith in z)
sets-append (x ∷ xs) ys l at = sets-append xs ys (set l at x) (suc at) ∙ ap (λ (k : ℕ). sets (sets (set l at x) (suc at) xs) k ys) (let z : suc at + length xs ≡ at + suc (length xs) = omega arith in z)

pub stored_at : (before left : List ℕ) (at : ℕ) (bs : List ℕ) → left ≡ sets before at bs → Copied before left at bs
stored_at before left at bs e = record { stored = λ h. e; long = ap length e ∙ length-sets before at bs }

pub copied_none : (before : List ℕ) (at : ℕ) → Copied before before at []
copied_none before at = stored_at before before at [] refl

pub copied-then : (before mid left : List ℕ) (at to : ℕ) (xs ys : List ℕ) → Copied before mid at xs → to ≡ at + length xs → Copied mid left to ys → Copied before left at (xs ++ ys)
copied-then before mid left at to xs ys a e b =
    record { stored = λ h. (let l = length-append xs ys in let m = a.long in go (a.stored (omega arith)) (b.stored (omega arith))); long = b.long ∙ a.long }
  where
    go : mid ≡ sets before at xs → left ≡ sets mid to ys → left ≡ sets before at (xs ++ ys)
    go f g = g ∙ ap₂ (λ (l : List ℕ) (k : ℕ). sets l k ys) f e ∙ sym (sets-append xs ys before at)

-- written from the start of a buffer
pub copied-written : (before left bs : List ℕ) → Copied before left 0 bs → length bs ≤ length before → left ≡ written bs before
unfolding written
copied-written before left bs c h = c.stored (omega arith) ∙ sets-eq bs before 0 (omega arith) ∙ ap (λ (k : ℕ). bs ++ drop k before) (let z : 0 + length bs ≡ length bs = omega arith in z)

-- ---- the copy

pub copy-next : (events bs : List ℕ) (at i : ℕ) → i < length bs →
    sets events (at + i) (drop i bs) ≡ sets (set events (at + i) (get_or bs i 0)) (at + (i + 1)) (drop (i + 1) bs)
copy-next events bs at i h =
    ap (λ (xs : List ℕ). sets events (at + i) xs) (drop-cons bs i 0 h ∙ ap (λ (j : ℕ). get_or bs i 0 ∷ drop j bs) (let z : suc i ≡ i + 1 = omega arith in z))
    ∙ ap (λ (k : ℕ). sets (set events (at + i) (get_or bs i 0)) k (drop (i + 1) bs)) (let z : suc (at + i) ≡ at + (i + 1) = omega arith in z)

pub copy_start : (events bs : List ℕ) (at : ℕ) → sets events at bs ≡ sets events (at + 0) (drop 0 bs)
copy_start events bs at = ap (λ (k : ℕ). sets events k bs) (let z : at ≡ at + 0 = omega arith in z)

pub copy-end : (events bs : List ℕ) (at i : ℕ) → length bs ≤ i → sets events (at + i) (drop i bs) ≡ events
copy-end events bs at i h = ap (λ (xs : List ℕ). sets events (at + i) xs) (drop_all i bs h)
