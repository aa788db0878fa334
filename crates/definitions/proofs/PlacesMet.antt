-- The places met are the steps that the run counts, and their events the run's.
use mathlib.Core.Path.{◌≡◌, refl, ap}
use mathlib.Core.List.{List, [], ◌∷◌, ◌++◌}
use Prim.Native.Nat.{ℕ, zero, suc}
use native.Mathlib.Omega.{arith}
use lib.ListN.{get_or}
use lib.Dec.{eqb}
use Rattle.definitions.specs.Instruction.{Instr, Return, encode, Flow, straight, jump, returns, question, flow}
use Rattle.definitions.specs.Reader.{landing}
use Rattle.definitions.specs.Run.{Ran, way, obey, ended, run}
use Rattle.definitions.specs.Reach.{passing, places_met}
use Rattle.definitions.specs.Statements.{events_by, events_at, Counted, MetAreSteps}

-- an instruction's place, by its flow
counted-by : (code : List Instr) (f : Flow) (p : ℕ) (xs : List ℕ) (go : ℕ → List ℕ → List ℕ) (ran : ℕ → List ℕ → Ran) → flow (get_or code p Return).op ≡ f
    → ((q : ℕ) (ys : List ℕ) → Counted (go q ys) code ys (ran q ys)) → Counted (passing f (get_or code p Return) p xs go) code xs (obey f (get_or code p Return) p xs ran)
unfolding passing obey ended events_at events_by
counted-by code straight p xs go ran e h =
    let C = h (suc p) xs in
    record { steps = omega (arith, C.steps); events = rw e (ap (λ (l : List ℕ). encode (get_or code p Return) ++ l) C.events) }
counted-by code jump p xs go ran e h =
    let C = h (landing p (get_or code p Return).a) xs in
    record { steps = omega (arith, C.steps); events = rw e C.events }
counted-by code returns p xs go ran e h = record { steps = omega arith; events = rw e refl }
counted-by code (question b) p [] go ran e h = record { steps = refl; events = refl }
counted-by code (question b) p (x ∷ xs) go ran e h =
    let C = h (way b (eqb x 1) p (get_or code p Return).a) xs in
    record { steps = omega (arith, C.steps); events = rw e (ap (λ (l : List ℕ). (get_or code p Return).op ∷ x ∷ l) C.events) }

pub met_are_steps : MetAreSteps
unfolding places_met run ended events_at
met_are_steps zero code p xs = record { steps = refl; events = refl }
met_are_steps (suc n) code p xs = counted-by code (flow (get_or code p Return).op) p xs (places_met n code) (run n code) refl (met_are_steps n code)
