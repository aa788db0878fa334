-- A pass, one stretch and one turn after the other. Assumes nothing.
use Prim.Native.Nat.{ℕ, ◌+◌, ◌-◌, ◌<◌, ◌≤◌}
use mathlib.Core.Path.{◌≡◌, sym, subst}
use mathlib.Core.List.{List}
use native.Mathlib.Omega.{arith}
use lib.ListN.{length}
use Rattle.std.proofs.Common.{Option, Some, None}
use Rattle.definitions.specs.Run.{run}
use Rattle.reader.specs.View.{instructions_of}
use Rattle.run.specs.declared.Ending.{Ending}
use Rattle.run.specs.declared.Ran.{Ran as RanSo}
use Rattle.run.specs.declared.course.Stand.{Stand}
use Rattle.run.specs.declared.course.Turned.{Turned}
use Rattle.run.specs.declared.course.Turned.TheVariants.{On, Over}
use Rattle.run.specs.Tables.{Coded}
use Rattle.run.specs.Pass.{Stands, AtStop, Went, NoFit, Goes, run_onward, RunLeads, Turning, Finishing, Turns, start, RunPasses, run_ending_number}
use Rattle.run.proofs.Coding.{nonempty}
use Rattle.run.proofs.Leading.{leads-on, leads-start, too_many, went-leads, no-fit}

-- so far: from the start to where the run stands
pub record Going (c answers : List ℕ) (budget room : ℕ) (s : Stand) (before events : List ℕ) : Type 0 where
  pub leads : RunLeads (run budget (instructions_of c) 0 answers) (run_onward c answers budget s) start s before events
  pub stands : Stands c budget room s

pub going_start : (c answers : List ℕ) (budget room : ℕ) (before : List ℕ) → Coded c → Going c answers budget room start before before
going_start c answers budget room before h = record { leads = leads-start c answers budget before; stands = record { steps = omega arith; written = omega arith; place = nonempty c h } }

module _ (c answers : List ℕ) (h : Coded c) (budget room : ℕ) (s : Stand) (before events : List ℕ) (g : Going c answers budget room s before events) where
  -- further events do not fit
  overflows : (t : Stand) (left : List ℕ) → RunLeads (run budget (instructions_of c) 0 answers) (run_onward c answers budget t) start t before left → room < t.written + length (run_onward c answers budget t).events → (last : List ℕ)
      → RunPasses None (run budget (instructions_of c) 0 answers) room before last
  unfolding RunPasses
  overflows t left a f last = let z = too_many (run budget (instructions_of c) 0 answers) (run_onward c answers budget t) start t before left room a f in omega arith

  pub stretch-many : (w : Option Stand) (left : List ℕ) → Goes w c budget room s events left → w ≡ None → (o : Option RanSo) → o ≡ None → RunPasses o (run budget (instructions_of c) 0 answers) room before left
  unfolding Goes
  stretch-many w left a e o q =
      let n : NoFit c budget room s = subst (λ (x : Option Stand). Goes x c budget room s events left) e a in
      subst (λ (x : Option RanSo). RunPasses x (run budget (instructions_of c) 0 answers) room before left) (sym q) (overflows s events g.leads (no-fit c h answers budget room s g.stands n) left)

  module _ (w : Option Stand) (mid : List ℕ) (a : Goes w c budget room s events mid) (u : Stand) (e : w ≡ Some u) where
    went : Went c budget room s u events mid
    unfolding Goes
    went = subst (λ (x : Option Stand). Goes x c budget room s events mid) e a

    pub near-stands : Stands c budget room u × AtStop c budget u
    near-stands = (went.stands, went.stop)

    near : RunLeads (run budget (instructions_of c) 0 answers) (run_onward c answers budget u) start u before mid
    near = leads-on _ (run_onward c answers budget s) _ start s u before events mid g.leads (went-leads c h answers budget room s g.stands u events mid went)

    behind : s.steps ≤ u.steps
    behind = let z = went.steps in omega arith

    module _ (r : Option Turned) (left : List ℕ) (b : Turns r c answers budget room u mid left) where
      turning : (v : Stand) → r ≡ Some (On v) → Turning c answers budget room u v mid left
      unfolding Turns
      turning v f = subst (λ (x : Option Turned). Turns x c answers budget room u mid left) f b

      pub turn-less : (v : Stand) → r ≡ Some (On v) → budget - v.steps < budget - s.steps
      turn-less v f = let t = turning v f in let x = t.less in let y = t.stands.steps in let z = behind in omega arith

      pub turn_on : (v : Stand) → r ≡ Some (On v) → Going c answers budget room v before left
      turn_on v f = let t = turning v f in record { leads = leads-on _ (run_onward c answers budget u) _ start u v before mid left near t.leads; stands = t.stands }

      pub turn-over : (k : Ending) (v : Stand) → r ≡ Some (Over k v) → RunPasses (Some (record { ending = k; steps = v.steps; used = v.used; written = v.written })) (run budget (instructions_of c) 0 answers) room before left
      unfolding Turns RunPasses
      turn-over k v f =
          let t : Finishing (run_onward c answers budget u) (run_ending_number k) room u v mid left = subst (λ (x : Option Turned). Turns x c answers budget room u mid left) f b in
          let l = leads-on _ (run_onward c answers budget u) _ start u v before mid left near t.leads in
          record { leads = record { events = l.events; is = l.is; steps = l.steps; used = l.used; written = l.written; copied = l.copied }; fits = t.fits }

      pub turn_many : r ≡ None → (o : Option RanSo) → o ≡ None → RunPasses o (run budget (instructions_of c) 0 answers) room before left
      unfolding Turns
      turn_many f o q =
          subst (λ (x : Option RanSo). RunPasses x (run budget (instructions_of c) 0 answers) room before left) (sym q) (overflows u mid near (subst (λ (x : Option Turned). Turns x c answers budget room u mid left) f b) left)
