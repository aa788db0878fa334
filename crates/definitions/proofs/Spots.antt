-- The spots that a run meets: those that steps lead to, and nothing else.
use mathlib.Core.Path.{◌≡◌, refl, sym, ap, subst}
use mathlib.Core.Bool.{Bool, true, false}
use mathlib.Core.Option.{some}
use mathlib.Core.List.{List, [], ◌∷◌, ◌++◌, map}
use Prim.Native.Nat.{ℕ, zero, suc}
use native.Mathlib.Omega.{arith}
use lib.ListN.{get_or, get_elem?}
use lib.Dec.{eqb}
use Rattle.definitions.specs.Instruction.{Instr, Return, Flow, straight, jump, returns, question, flow}
use Rattle.definitions.specs.Stack.{height_after}
use Rattle.definitions.specs.Reader.{landing}
use Rattle.definitions.specs.Run.{way}
use Rattle.definitions.specs.Reach.{passing, places_met}
use Rattle.definitions.specs.Search.{Next, straight_on, jumps_to, on_no, on_yes, Step, answers_of}
use Rattle.definitions.specs.Heights.{Spot, spot, standing, spots_met, Met, Within, HeightsHold}
use Rattle.definitions.specs.Statements.{SpotsArePlaces}

-- ---- the places of the spots are those that the run counts as steps

pub spots_are_places : SpotsArePlaces
unfolding spots_met places_met standing passing
spots_are_places zero code p h answers = refl
spots_are_places (suc n) code p h answers = go (flow (get_or code p Return).op) answers (λ q k rest. spots_are_places n code q k rest)
  where
    i : Instr
    i = get_or code p Return

    go : (f : Flow) (xs : List ℕ) → ((q k : ℕ) (ys : List ℕ) → map (λ (s : Spot). s.place) (spots_met n code q k ys) ≡ places_met n code q ys)
        → map (λ (s : Spot). s.place) (standing f i p h xs (λ q k rest. spots_met n code q k rest)) ≡ passing f i p xs (λ q rest. places_met n code q rest)
    go straight xs rec = ap (λ (l : List ℕ). p ∷ l) (rec (suc p) (height_after i h) xs)
    go jump xs rec = ap (λ (l : List ℕ). p ∷ l) (rec (landing p i.a) (height_after i h) xs)
    go returns xs rec = refl
    go (question b) [] rec = refl
    go (question b) (x ∷ xs) rec = ap (λ (l : List ℕ). p ∷ l) (rec (way b (eqb x 1) p i.a) (height_after i h) xs)

-- ---- what holds of every spot met

-- A set of spots that holds the first and, with a spot, those after it; in it the heights hold
pub record Settles (R : ℕ → ℕ → Type 0) (number : ℕ) (code : List Instr) : Type 0 where
  pub start : R 0 0
  pub closed : (p h k q : ℕ) → R p h → Step code p k q → R q (height_after (get_or code p Return) h)
  pub single : (p h k : ℕ) → R p h → R p k → h ≡ k
  pub within : (p h : ℕ) → R p h → Within number (get_or code p Return) h

none-there : {A : Type 0} (j : ℕ) (a : A) {B : Type 0} → get_elem? {A = A} [] j ≡ some a → B
none-there j a e = let z : ◌≡◌ {A = ℕ} 0 1 = cc in absurd (omega arith)

module _ (R : ℕ → ℕ → Type 0) (code : List Instr) (closed : (p h k q : ℕ) → R p h → Step code p k q → R q (height_after (get_or code p Return) h)) where
  stays-in : (n p h : ℕ) (xs : List ℕ) → R p h → (j q k : ℕ) → get_elem? (spots_met n code p h xs) j ≡ some (spot q k) → R q k
  unfolding spots_met standing
  stays-in zero p h xs r j q k e = none-there j (spot q k) e
  stays-in (suc n) p h xs r j q k e = go (flow (get_or code p Return).op) xs (λ t q' x. closed p h t q' r x) (λ q' k' ys r' j'. stays-in n q' k' ys r' j' q k) j e
    where
      i : Instr
      i = get_or code p Return

      first : (l : List Spot) → ((j : ℕ) → get_elem? l j ≡ some (spot q k) → R q k) → (j : ℕ) → get_elem? (spot p h ∷ l) j ≡ some (spot q k) → R q k
      first l rest zero e =
          let z : ◌≡◌ {A = Spot} (spot p h) (spot q k) = cc in
          subst (λ (s : Spot). R s.place s.height) z r
      first l rest (suc j) e = rest j e

      go : (f : Flow) (xs : List ℕ) → ((t q' : ℕ) → Next f p i.a t q' → R q' (height_after i h))
          → ((q' k' : ℕ) (ys : List ℕ) → R q' k' → (j : ℕ) → get_elem? (spots_met n code q' k' ys) j ≡ some (spot q k) → R q k)
          → (j : ℕ) → get_elem? (standing f i p h xs (λ q k rest. spots_met n code q k rest)) j ≡ some (spot q k) → R q k
      go straight xs c rec = first (spots_met n code (suc p) (height_after i h) xs) (rec (suc p) (height_after i h) xs (c 0 (suc p) straight_on))
      go jump xs c rec = first (spots_met n code (landing p i.a) (height_after i h) xs) (rec (landing p i.a) (height_after i h) xs (c 0 (landing p i.a) jumps_to))
      go returns xs c rec = first [] (λ j e. none-there j (spot q k) e)
      go (question b) [] c rec = λ j e. none-there j (spot q k) e
      go (question b) (x ∷ xs) c rec = first (spots_met n code (way b (eqb x 1) p i.a) (height_after i h) xs) (rec (way b (eqb x 1) p i.a) (height_after i h) xs (by (eqb x 1)))
        where
          by : (y : Bool) → R (way b y p i.a) (height_after i h)
          by false = c 1 (way b false p i.a) on_no
          by true = c 2 (way b true p i.a) on_yes

-- a run from a spot of the set stays in it
pub settles-met : {R : ℕ → ℕ → Type 0} {number : ℕ} {code : List Instr} → Settles R number code → (s p h : ℕ) → R s 0 → Met code s p h → R p h
settles-met {R} {number} {code} S s p h r m = stays-in R code S.closed m.budget s 0 m.answers r m.step p h m.found

pub settles-hold : {R : ℕ → ℕ → Type 0} {number : ℕ} {code : List Instr} → Settles R number code → HeightsHold number code
settles-hold S = record {
  single = λ p h k a b. S.single p h k (settles-met S 0 p h S.start a) (settles-met S 0 p k S.start b);
  within = λ p h a. S.within p h (settles-met S 0 p h S.start a);
}

-- ---- what steps lead to is met

-- steps from a place and height to another
pub data Trail (code : List Instr) : ℕ → ℕ → ℕ → ℕ → Type 0 where
  here : {p h : ℕ} → Trail code p h p h
  step : {p h k q r l : ℕ} → Step code p k q → Trail code q (height_after (get_or code p Return) h) r l → Trail code p h r l

pub trail-on : {code : List Instr} {p h q k r t : ℕ} → Trail code p h q k → Step code q t r → Trail code p h r (height_after (get_or code q Return) k)
trail-on here x = step x here
trail-on (step y a) x = step y (trail-on a x)

-- a run from a spot that meets another
record Meets (code : List Instr) (p h q k : ℕ) : Type 0 where
  budget : ℕ
  answers : List ℕ
  index : ℕ
  found : get_elem? (spots_met budget code p h answers) index ≡ some (spot q k)

meets-first : (code : List Instr) (p h : ℕ) → Meets code p h p h
unfolding spots_met standing
meets-first code p h = record { budget = 1; answers = 1 ∷ []; index = 0; found = go (flow (get_or code p Return).op) (get_or code p Return) }
  where
    go : (f : Flow) (i : Instr) → get_elem? (standing f i p h (1 ∷ []) (λ q k rest. spots_met 0 code q k rest)) 0 ≡ some (spot p h)
    go straight i = refl
    go jump i = refl
    go returns i = refl
    go (question b) i = refl

on-by : (f : Flow) (i : Instr) (p h a k q : ℕ) (zs : List ℕ) (go : ℕ → ℕ → List ℕ → List Spot) → i.a ≡ a → Next f p a k q → standing f i p h (answers_of k ++ zs) go ≡ spot p h ∷ go q (height_after i h) zs
unfolding standing answers_of
on-by straight i p h a k q zs go e straight_on = refl
on-by jump i p h a k q zs go e jumps_to = ap (λ (b : ℕ). spot p h ∷ go (landing p b) (height_after i h) zs) e
on-by returns i p h a k q zs go e x = elim x [ ]
on-by (question c) i p h a k q zs go e on_no = ap (λ (b : ℕ). spot p h ∷ go (way c false p b) (height_after i h) zs) e
on-by (question c) i p h a k q zs go e on_yes = ap (λ (b : ℕ). spot p h ∷ go (way c true p b) (height_after i h) zs) e

meets-more : (code : List Instr) (p h k q r l : ℕ) → Step code p k q → Meets code q (height_after (get_or code p Return) h) r l → Meets code p h r l
unfolding spots_met
meets-more code p h k q r l x M =
    let i = get_or code p Return in
    record {
      budget = suc M.budget;
      answers = answers_of k ++ M.answers;
      index = suc M.index;
      found = subst (λ (s : List Spot). get_elem? s (suc M.index) ≡ some (spot r l)) (sym (on-by (flow i.op) i p h i.a k q M.answers (spots_met M.budget code) refl x)) M.found;
    }

trail-meets : {code : List Instr} {p h q k : ℕ} → Trail code p h q k → Meets code p h q k
trail-meets {code} {p} {h} here = meets-first code p h
trail-meets {code} {p} {h} {q} {k} (step {k = t} {q = r} x a) = meets-more code p h t r q k x (trail-meets a)

pub trail-met : {code : List Instr} {s p h : ℕ} → Trail code s 0 p h → Met code s p h
trail-met a = let M = trail-meets a in record { budget = M.budget; answers = M.answers; step = M.index; found = M.found }
