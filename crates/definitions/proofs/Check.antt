-- The check of heights: what it answers, and that every lowered module passes it.
use mathlib.Core.Path.{◌≡◌, refl, sym, ◌∙◌}
use mathlib.Core.Bool.{Bool, true, false}
use mathlib.Core.Option.{some}
use mathlib.Core.List.{List, [], ◌∷◌}
use Prim.Native.Nat.{ℕ, suc}
use native.Mathlib.Omega.{arith}
use lib.ListN.{get_elem?}
use Rattle.definitions.specs.Bytes.{Answer, refused, accepted, when_accepted, all}
use Rattle.definitions.specs.Tables.{Tables}
use Rattle.definitions.specs.Reader.{code_stands}
use Rattle.definitions.specs.Heights.{function_holds, heights_asked, heights_answer}
use Rattle.definitions.specs.Statements.{EveryHolds, CheckAnswers, LoweredHeightsBytes, LoweredPasses}
use Rattle.definitions.proofs.ModuleRefusals.{read-stands}
use Rattle.definitions.proofs.Lowered.{lowered_reads}
use Rattle.definitions.proofs.HeightsLowered.{all-get, lowered_heights}
use Rattle.definitions.proofs.HeightsDecided.{heights_decided}

-- ---- what the check answers

-- a test of each, by number
all-by : {A : Type 0} (f : A → Bool) (xs : List A) → ((k : ℕ) (a : A) → get_elem? xs k ≡ some a → f a ≡ true) → all f xs ≡ true
unfolding all
all-by f [] h = refl
all-by f (x ∷ xs) h = rw (h 0 x refl, all-by f xs (λ k a e. h (suc k) a e))

module _ (t : Tables) (stand : all code_stands t.functions ≡ true) where
  holds-all : EveryHolds t → all function_holds t.functions ≡ true
  unfolding function_holds
  holds-all H = all-by function_holds t.functions (λ k f e. (heights_decided f.height f (all-get code_stands t.functions stand k f e)).1 (H k f e))

  all-holds : all function_holds t.functions ≡ true → EveryHolds t
  unfolding function_holds
  all-holds h k f e = (heights_decided f.height f (all-get code_stands t.functions stand k f e)).0 (all-get function_holds t.functions h k f e)

pub check_answers : CheckAnswers
unfolding heights_answer heights_asked when_accepted
check_answers n m t w r = rw (w, heights_answer, r) (go (all function_holds t.functions) refl)
  where
    stand : all code_stands t.functions ≡ true
    stand = read-stands m t r

    said : Bool → Answer (Unit {0})
    said c = elim c as (λ z. Answer (Unit {0})) [ true ↦ accepted tt | false ↦ refused 37 ]

    go : (c : Bool) → all function_holds t.functions ≡ c → (EveryHolds t → said c ≡ accepted tt) × ((EveryHolds t → ⊥) → said c ≡ refused 37) × (said c ≡ accepted tt → EveryHolds t)
    go true h = (λ H. refl, λ n. absurd (n (all-holds t stand h)), λ e. all-holds t stand h)
    go false h =
        (λ H. let z : ◌≡◌ {A = ℕ} 0 1 = cc (holds-all t stand H) in absurd (omega arith), λ n. refl, λ e. let z : ◌≡◌ {A = ℕ} 0 1 = cc in absurd (omega arith))

pub lowered_heights_bytes : LoweredHeightsBytes
lowered_heights_bytes l u tree m o e t r k f h =
    let R = lowered_reads l u tree m o e in
    let z : R.tables ≡ t = cc (sym R.reads ∙ r) in
    lowered_heights l u tree t o (rw z at R.lowers) k f h

pub lowered_passes : LoweredPasses
lowered_passes l u tree m o e n w =
    let R = lowered_reads l u tree m o e in
    (check_answers n m R.tables w R.reads).0 (λ k f h. (lowered_heights l u tree R.tables o R.lowers k f h).1)
