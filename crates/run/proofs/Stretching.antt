-- A stretch in the code's terms. Assumes nothing.
use Prim.Native.Nat.{ℕ, ◌+◌, ◌-◌, ◌<◌, ◌≤◌}
use mathlib.Core.Path.{◌≡◌, refl, sym, ap, ◌∙◌, subst}
use mathlib.Core.List.{List}
use mathlib.Core.Logic.{inl, inr, ⊎_elim}
use native.Mathlib.Omega.{arith}
use lib.ListN.{length, take, drop, get_or}
use Rattle.std.proofs.Common.{Some, None}
use Rattle.definitions.specs.Instruction.{straight}
use Rattle.reader.specs.View.{instructions_of, start_of}
use Rattle.run.specs.declared.course.Stand.{Stand}
use Rattle.run.specs.Tables.{Coded, PlacesFilled, flow_at, Stop, Stops}
use Rattle.run.specs.Pass.{ReachesStop, Copied, Stands, between, AtStop, Goes}
use Rattle.run.proofs.Coding.{start-in, start_up, between-length}

module _ (c : List ℕ) (h : Coded c) (budget room : ℕ) (s : Stand) (st : Stands c budget room s) (stops : List ℕ) (sp : Stops c stops) (stop : ℕ) (es : stop ≡ get_or stops s.place 0) where
  stop_is : Stop (instructions_of c) s.place stop
  stop_is = subst (λ (x : ℕ). Stop (instructions_of c) s.place x) (sym es) (sp.at s.place st.place)

  module _ (places : List ℕ) (pl : PlacesFilled c places) (to : ℕ) (r : ReachesStop to stop s.place (budget - s.steps)) where
    to_in : to < length (instructions_of c)
    to_in = let a = stop_is.inside in let b = r.to in omega arith

    module _ (p q : ℕ) (ep : p ≡ get_or places s.place 0) (eq : q ≡ get_or places to 0) where
      p-is : p ≡ start_of (instructions_of c) s.place
      p-is = ep ∙ pl.at s.place st.place

      q-is : q ≡ start_of (instructions_of c) to
      q-is = eq ∙ pl.at to to_in

      pub p-to-q : (p ≤ q) × (q ≤ length c)
      p-to-q = let a = start_up c h s.place to r.from in let b = start-in c h to in let x = p-is in let y = q-is in (omega arith, omega arith)

      size_is : length (between c s.place to) ≡ q - p
      size_is = let a = between-length c h s.place to r.from in let x = p-is in let y = q-is in omega arith

      part-is : take (q - p) (drop p c) ≡ between c s.place to
      unfolding between
      part-is = let e1 = p-is in let e2 = q-is in λ z. take (e2 z - e1 z) (drop (e1 z) c)

      goes : (j : ℕ) → s.place ≤ j → j < to → flow_at (instructions_of c) j ≡ straight
      goes j a b = let d = r.to in stop_is.goes j a (omega arith)

      pub stretch-full : (before left : List ℕ) → room - s.written < q - p → Goes None c budget room s before left
      unfolding Goes
      stretch-full before left f = let w = st.written in let z = size_is in
          record { to = to; from = r.from; inside = to_in; goes = goes; within = r.within; over = omega arith }

      pub stretch-on : (before left : List ℕ) → q - p ≤ room - s.written → Copied before left s.written (take (q - p) (drop p c)) →
          Goes (Some (record { steps = s.steps + (to - s.place); used = s.used; written = s.written + (q - p); place = to })) c budget room s before left
      unfolding Goes AtStop
      stretch-on before left f k =
          let w = st.written in let z = size_is in let x = r.within in let y = st.steps in record {
            from = r.from;
            goes = goes;
            steps = refl;
            used = refl;
            written = omega arith;
            stands = record { steps = omega arith; written = omega arith; place = to_in };
            stop = ⊎_elim (λ (e : to ≡ stop). inr (λ g. stop_is.stops (ap (flow_at (instructions_of c)) (sym e) ∙ g))) (λ (e : to - s.place ≡ budget - s.steps). inl (omega arith)) r.far;
            copied = subst (λ (bs : List ℕ). Copied before left s.written bs) part-is k;
          }
