-- What the lowering of a part adds to the tables is in bounds, where the tables and the place after it are small: parts put together.
use mathlib.Core.List.{List, ◌++◌, []}
use Prim.Native.Nat.{ℕ, ◌+◌, ◌≤◌}
use native.Mathlib.Omega.{arith}
use lib.ListN.{length, length-append}
use Rattle.definitions.specs.Instruction.{Instr}
use Rattle.definitions.specs.Tables.{Tables, Out, Emit, emits, one, ◌⨟◌}
use Rattle.definitions.proofs.Every.{Every, no_every, every, every_append}
use Rattle.definitions.proofs.Bounds.{Sound, sound-wider, Small, Trim, burden}
use Rattle.definitions.proofs.LongerTables.{Longer, longer-none, longer-more, code_up, small-down}

-- the tables after a part, and its code, are in bounds
pub record Kept (s : ℕ) (o : Out) : Type 0 where
  pub trim : Trim o.tables
  pub code : Every (Sound o.tables s) o.code

-- A part of measure n at place p of a function of s slots: the tables only grow, their strings and methods by at most n bytes; and where they are
-- small after it, they stay in bounds
pub record Step (n s p : ℕ) (t : Tables) (o : Out) : Type 0 where
  pub longer : Longer t o.tables
  pub weight : burden o.tables ≤ burden t + n
  pub keeps : Small o.tables (p + length o.code) → Trim t → Kept s o

-- a part is such a step from any tables on that b grew into
pub record Fits (n s : ℕ) (b : Tables) (e : Emit) : Type 0 where
  pub at : (p : ℕ) (t : Tables) → Longer b t → Step n s p t (e p t)

pub step-within : {m n s p : ℕ} {t : Tables} {o : Out} → Step m s p t o → m ≤ n → Step n s p t o
step-within S h = record { longer = S.longer; weight = omega arith; keeps = S.keeps }

pub fits-within : {m n s : ℕ} {b : Tables} {e : Emit} → Fits m s b e → m ≤ n → Fits n s b e
fits-within E h = record { at = λ p t u. step-within (E.at p t u) h }

-- in a function of more slots
code-wider : {t : Tables} {s r : ℕ} {is : List Instr} → s ≤ r → Every (Sound t s) is → Every (Sound t r) is
code-wider h no_every = no_every
code-wider h (every x xs) = every (sound-wider h x) (code-wider h xs)

pub fits_wider : {n s r : ℕ} {b : Tables} {e : Emit} → s ≤ r → Fits n s b e → Fits n r b e
fits_wider h E = record {
  at = λ p t u.
      let X = E.at p t u in
      record { longer = X.longer; weight = X.weight; keeps = λ m k. let K = X.keeps m k in record { trim = K.trim; code = code-wider h K.code } };
}

-- from later tables on
pub fits-later : {n s : ℕ} {b c : Tables} {e : Emit} → Longer b c → Fits n s b e → Fits n s c e
fits-later L E = record { at = λ p t u. E.at p t (longer-more L u) }

pub fits-emits : {s : ℕ} {b : Tables} {is : List Instr} → Every (Sound b s) is → Fits 0 s b (emits is)
unfolding emits
fits-emits k = record { at = λ p t u. record { longer = longer-none; weight = omega arith; keeps = λ m r. record { trim = r; code = code_up u.sizes k } } }

pub fits-nothing : {n s : ℕ} {b : Tables} → Fits n s b (emits [])
fits-nothing = fits-within (fits-emits no_every) (omega arith)

pub fits_one : {s : ℕ} {b : Tables} {i : Instr} → Sound b s i → Fits 0 s b (one i)
fits_one k = fits-emits (every k no_every)

-- two parts, whose codes go into one
pub step-two : {m n s p : ℕ} {t : Tables} (o r : Out) (q : ℕ) (is : List Instr) → Step m s p t o → Step n s q o.tables r
    → p + length o.code ≤ p + length is → q + length r.code ≤ p + length is
    → (Small r.tables (p + length is) → Every (Sound r.tables s) o.code → Every (Sound r.tables s) r.code → Every (Sound r.tables s) is)
    → Step (m + n) s p t (record { code = is; tables = r.tables; sources = o.sources ++ r.sources })
step-two o r q is A B h k join = record {
  longer = longer-more A.longer B.longer;
  weight = omega arith;
  keeps = λ S T.
      let a = A.keeps (small-down B.longer h S) T in
      let b = B.keeps (small-down longer-none k S) a.trim in
      record { trim = b.trim; code = join S (code_up B.longer.sizes a.code) b.code };
}

pub step-seq : {m n s : ℕ} (e f : Emit) (p : ℕ) (t : Tables) → Step m s p t (e p t) → Step n s (p + length (e p t).code) (e p t).tables (f (p + length (e p t).code) (e p t).tables) → Step (m + n) s p t ((e ⨟ f) p t)
unfolding ◌⨟◌
step-seq e f p t A B =
    let o = e p t in
    let r = f (p + length o.code) o.tables in
    step-two o r (p + length o.code) (o.code ++ r.code) A B
    (omega (arith, length-append o.code r.code)) (omega (arith, length-append o.code r.code)) (λ S a b. every_append a b)

pub fits-seq : {m n s : ℕ} {b : Tables} {e f : Emit} → Fits m s b e → Fits n s b f → Fits (m + n) s b (e ⨟ f)
fits-seq {e} {f} A B = record {
  at = λ p t u.
      let S = A.at p t u in
      step-seq e f p t S (B.at (p + length (e p t).code) (e p t).tables (longer-more u S.longer));
}

-- a part that looks at the tables
pub fits_by : {n s : ℕ} {b : Tables} (g : Tables → Emit) → ((t : Tables) → Longer b t → Fits n s t (g t)) → Fits n s b (λ p t. g t p t)
fits_by g G = record { at = λ p t u. (G t u).at p t longer-none }
