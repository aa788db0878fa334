-- After a stretch: the budget's end, a Return, a jump or a question. Assumes nothing.
use Prim.Native.Nat.{ℕ, suc, ◌+◌, ◌-◌, ◌<◌, ◌≤◌}
use mathlib.Core.Path.{◌≡◌, refl, sym, ap, ap₂, ◌∙◌, subst}
use mathlib.Core.List.{List, [], ◌∷◌}
use mathlib.Core.Logic.{⊎_elim}
use native.Mathlib.Omega.{arith}
use native.Mathlib.Numerals.{add-one}
use lib.Dec.{eqb}
use lib.ListN.{length, drop, get_or, set, length-append, drop_of_length-le}
use lib.Seq.{drop-cons}
use Rattle.std.proofs.Common.{Option, Some, None}
use Rattle.definitions.specs.Instruction.{Instr, Return}
use Rattle.definitions.specs.Reader.{landing}
use Rattle.definitions.specs.Instruction.{Flow, straight, jump, question, returns, flow}
use Rattle.definitions.specs.Run.{Ran, ended, after, way, obey, run}
use Rattle.reader.specs.View.{number_at, instructions_of, start_of}
use Rattle.run.specs.declared.Ending.{Ending}
use Rattle.run.specs.declared.Ending.TheVariants.{Returned, NoAnswer, BudgetSpent}
use Rattle.run.specs.declared.course.Stand.{Stand}
use Rattle.run.specs.declared.course.Turned.{Turned}
use Rattle.run.specs.declared.course.Turned.TheVariants.{On, Over}
use Rattle.run.specs.Tables.{Coded, flow_at}
use Rattle.run.specs.Pass.{Stands, AtStop, Asked, Starved, Asks, run_onward, Turning, Finishing, Turns, run_ending_number}
use Rattle.definitions.proofs.Flows.{stop-jumps, jump-width, is-jump, flow-jump, flow-returns, flow-question, way-below}
use Rattle.run.proofs.Flows.{return-bytes}
use Rattle.run.proofs.Coding.{op-here, operand-here, not_last, jump-inside}
use Rattle.run.proofs.Storing.{stored_at, copied_none}
use Rattle.definitions.proofs.Follow.{after_none}
use Rattle.std.proofs.Math.Arith.{lt_of_le-ne}

module _ (c answers : List ℕ) (budget room : ℕ) (s : Stand) where
  -- no budget left
  pub spent : s.written ≤ room → s.steps ≡ budget → (before : List ℕ) → Turns (Some (Over BudgetSpent s)) c answers budget room s before before
  unfolding Turns run_onward run run_ending_number
  spent f e before = record {
    leads = record {
      events = [];
      is = ap (λ (b : ℕ). run b (instructions_of c) s.place (drop s.used answers)) (let z : budget - s.steps ≡ 0 = omega arith in z) ∙ after_none (ended 3)
          ∙ ap₂ (λ (x y : ℕ). after x y [] (ended 3)) (let z : 0 ≡ s.steps - s.steps = omega arith in z) (let z : 0 ≡ s.used - s.used = omega arith in z);
      steps = omega arith;
      used = omega arith;
      written = omega arith;
      copied = copied_none before s.written;
    };
    fits = f;
  }

  module _ (h : Coded c) (st : Stands c budget room s) (l : s.steps ≡ budget → ⊥) where
    i : Instr
    i = get_or (instructions_of c) s.place Return

    pub less : s.steps < budget
    less = lt_of_le-ne st.steps l

    go : ℕ → List ℕ → Ran
    go q rest = run (budget - (s.steps + 1)) (instructions_of c) q rest

    obeyed : (w : Flow) → flow i.op ≡ w → run_onward c answers budget s ≡ obey w i s.place (drop s.used answers) go
    unfolding run_onward run i go
    obeyed w e =
        let z = less in
        ap (λ (b : ℕ). run b (instructions_of c) s.place (drop s.used answers)) (let y : budget - s.steps ≡ suc (budget - (s.steps + 1)) = omega arith in y)
        ∙ ap (λ (x : Flow). obey x i s.place (drop s.used answers) go) e

    module _ (op : ℕ) (eo : op ≡ get_or c (start_of (instructions_of c) s.place) 0) where
      op-is : op ≡ i.op
      unfolding i
      op-is = eo ∙ (op-here c h s.place st.place).1

      -- a Return
      module _ (e : op ≡ 33) where
        one_byte : run_onward c answers budget s ≡ after 1 0 (op ∷ []) (ended 1)
        unfolding obey
        one_byte = obeyed returns (flow-returns i.op (sym op-is ∙ e)) ∙ ap (λ (bs : List ℕ). after 1 0 bs (ended 1)) (return-bytes i (sym op-is ∙ e) ∙ ap (λ (k : ℕ). k ∷ []) (sym op-is))

        pub return-full : (before left : List ℕ) → room ≤ s.written → Turns None c answers budget room s before left
        unfolding Turns ended
        return-full before left f =
            let w = st.written in
            let v : length (run_onward c answers budget s).events ≡ 1 = ap (λ (x : Ran). length x.events) one_byte in omega arith

        pub returned : (before left : List ℕ) → s.written < room → left ≡ set before s.written op
            → Turns (Some (Over Returned (record { steps = s.steps + 1; used = s.used; written = s.written + 1; place = s.place }))) c answers budget room s before left
        unfolding Turns run_ending_number
        returned before left f d = record {
          leads = record {
            events = op ∷ [];
            is = one_byte ∙ ap₂ (λ (x y : ℕ). after x y (op ∷ []) (ended 1)) (let z : 1 ≡ s.steps + 1 - s.steps = omega arith in z) (let z : 0 ≡ s.used - s.used = omega arith in z);
            steps = omega arith;
            used = omega arith;
            written = refl;
            copied = stored_at before left s.written (op ∷ []) d;
          };
          fits = let w = st.written in omega arith;
        }

      -- a jump or a question
      module _ (r : op ≡ 33 → ⊥) (stop : AtStop c budget s) where
        not-straight : flow i.op ≡ straight → ⊥
        unfolding AtStop flow_at i
        not-straight e = ⊎_elim (λ (z : s.steps ≡ budget). l z) (λ (f : flow_at (instructions_of c) s.place ≡ straight → ⊥). f e) stop

        ranged : (28 ≤ i.op) × (i.op ≤ 30)
        ranged = stop-jumps i.op not-straight (λ z. r (op-is ∙ z))

        operand : (start_of (instructions_of c) s.place + 1 + 4 ≤ length c) × (number_at 4 c (start_of (instructions_of c) s.place + 1) ≡ i.a)
        unfolding i
        operand = operand-here c h s.place st.place (jump-width i.op ranged.0 ranged.1)

        pub operand_in : start_of (instructions_of c) s.place + 1 + 4 ≤ length c
        operand_in = operand.0

        lands : landing s.place i.a < length (instructions_of c)
        unfolding i
        lands = jump-inside c h s.place st.place (is-jump i.op ranged.0 ranged.1)

        module _ (a : ℕ) (ea : a ≡ number_at 4 c (start_of (instructions_of c) s.place + 1)) where
          a-is : a ≡ i.a
          a-is = ea ∙ operand.1

          pub jumped : (before : List ℕ) → op ≡ 28 → (t : ℕ) → t ≡ landing s.place a
              → Turns (Some (On (record { steps = s.steps + 1; used = s.used; written = s.written; place = t }))) c answers budget room s before before
          unfolding Turns run_onward obey go
          jumped before e t f =
              let z = less in
              let g : landing s.place i.a ≡ t = ap (landing s.place) (sym a-is) ∙ sym f in
              record {
                leads = record {
                  events = [];
                  is = obeyed jump (flow-jump i.op (sym op-is ∙ e))
                      ∙ (let e1 : 1 ≡ s.steps + 1 - s.steps = omega arith in let e2 : 0 ≡ s.used - s.used = omega arith in
                      λ y. after (e1 y) (e2 y) [] (run (budget - (s.steps + 1)) (instructions_of c) (g y) (drop s.used answers)));
                  steps = omega arith;
                  used = omega arith;
                  written = omega arith;
                  copied = copied_none before s.written;
                };
                stands = record { steps = omega arith; written = st.written; place = subst (λ (x : ℕ). x < length (instructions_of c)) g lands };
                less = omega arith;
              }

          module _ (n : op ≡ 28 → ⊥) where
            asks : run_onward c answers budget s ≡ obey (question (eqb op 30)) i s.place (drop s.used answers) go
            asks = obeyed (question (eqb op 30)) (flow-question i.op ranged.0 ranged.1 (λ z. n (op-is ∙ z)) ∙ ap (λ (k : ℕ). question (eqb k 30)) (sym op-is))

            starves : (e : Ending) (u : Stand) (before left : List ℕ) → Starved e answers s u before left → Turns (Some (Over e u)) c answers budget room s before left
            unfolding Turns obey run_ending_number
            starves e u before left t =
                let k : run_onward c answers budget s ≡ ended 2 = asks ∙ ap (λ (xs : List ℕ). obey (question (eqb op 30)) i s.place xs go) (drop_of_length-le answers t.none) in
                let same : Finishing (run_onward c answers budget s) 2 room s s before before = record {
                  leads = record {
                    events = [];
                    is = k ∙ after_none (ended 2) ∙ ap₂ (λ (x y : ℕ). after x y [] (ended 2)) (let z : 0 ≡ s.steps - s.steps = omega arith in z) (let z : 0 ≡ s.used - s.used = omega arith in z);
                    steps = omega arith;
                    used = omega arith;
                    written = omega arith;
                    copied = copied_none before s.written;
                  };
                  fits = st.written;
                } in
                let e1 = sym t.ending in let e2 = sym t.stays in let e3 = sym t.same in
                subst (λ (x : Ending). Finishing (run_onward c answers budget s) (run_ending_number x) room s u before left) e1
                (subst (λ (x : Stand). Finishing (run_onward c answers budget s) 2 room s x before left) e2
                (subst (λ (x : List ℕ). Finishing (run_onward c answers budget s) 2 room s s before x) e3 same))

            answered : s.used < length answers → run_onward c answers budget s
                ≡ after 1 1 (op ∷ get_or answers s.used 0 ∷ []) (run (budget - (s.steps + 1)) (instructions_of c) (way (eqb op 30) (eqb (get_or answers s.used 0) 1) s.place a) (drop (s.used + 1) answers))
            unfolding obey go
            answered u = asks
                ∙ ap (λ (xs : List ℕ). obey (question (eqb op 30)) i s.place xs go) (drop-cons answers s.used 0 u ∙ ap (λ (j : ℕ). get_or answers s.used 0 ∷ drop j answers) (sym (add-one s.used)))
                ∙ ap₂ (λ (x y : ℕ). after 1 1 (x ∷ get_or answers s.used 0 ∷ [])
                (run (budget - (s.steps + 1)) (instructions_of c) (way (eqb op 30) (eqb (get_or answers s.used 0) 1) s.place y) (drop (s.used + 1) answers)))
                (sym op-is) (sym a-is)

            goes : (u : Stand) (before left : List ℕ) → Asked op a answers room s u before left → Turns (Some (On u)) c answers budget room s before left
            unfolding Turns run_onward i
            goes u before left q =
                let z = less in let f = q.fits in
                let to : Stand = record { steps = s.steps + 1; used = s.used + 1; written = s.written + 2; place = way (eqb op 30) (eqb (get_or answers s.used 0) 1) s.place a } in
                subst (λ (x : Stand). Turning c answers budget room s x before left) (sym q.goes)
                (record {
                  leads = record {
                    events = op ∷ get_or answers s.used 0 ∷ [];
                    is = answered q.more
                        ∙ ap₂ (λ (x y : ℕ). after x y (op ∷ get_or answers s.used 0 ∷ []) (run_onward c answers budget to)) (let z : 1 ≡ s.steps + 1 - s.steps = omega arith in z) (let z : 1 ≡ s.used + 1 - s.used = omega arith in z);
                    steps = omega arith;
                    used = omega arith;
                    written = refl;
                    copied = stored_at before left s.written (op ∷ get_or answers s.used 0 ∷ []) q.stored;
                  };
                  stands = record {
                    steps = omega arith;
                    written = f;
                    place = way-below (length (instructions_of c)) s.place a (eqb op 30) (eqb (get_or answers s.used 0) 1)
                        (subst (λ (x : ℕ). landing s.place x < length (instructions_of c)) (sym a-is) lands)
                        (not_last c h s.place st.place (λ x. r (op-is ∙ x)));
                  };
                  less = omega arith;
                })

            no_room : (before left : List ℕ) → (s.used < length answers) × (room < s.written + 2) → Turns None c answers budget room s before left
            unfolding Turns
            no_room before left f =
                let x = f.1 in
                let rest = run (budget - (s.steps + 1)) (instructions_of c) (way (eqb op 30) (eqb (get_or answers s.used 0) 1) s.place a) (drop (s.used + 1) answers) in
                let v : length (run_onward c answers budget s).events ≡ 2 + length rest.events =
                ap (λ (x : Ran). length x.events) (answered f.0) ∙ length-append (op ∷ get_or answers s.used 0 ∷ []) rest.events in omega arith

            pub questioned : (r : Option Turned) (before left : List ℕ) → Asks r op a answers room s before left → Turns r c answers budget room s before left
            unfolding Asks
            questioned (Some (On u)) before left q = goes u before left q
            questioned (Some (Over e u)) before left q = starves e u before left q
            questioned None before left q = no_room before left q

-- ---- what the code asks

module _ (op a : ℕ) (answers : List ℕ) (room : ℕ) (s : Stand) where
  pub ask-starved : (before : List ℕ) → length answers ≤ s.used → Asks (Some (Over NoAnswer s)) op a answers room s before before
  unfolding Asks
  ask-starved before h = record { none = h; ending = refl; stays = refl; same = refl }

  pub ask-full : (before left : List ℕ) → s.used < length answers → s.written ≤ room → room - s.written < 2 → Asks None op a answers room s before left
  unfolding Asks
  ask-full before left h w f = (h, omega arith)

  pub ask-on : (before mid left : List ℕ) (t : ℕ) → s.used < length answers → s.written ≤ room → 2 ≤ room - s.written → mid ≡ set before s.written op → left ≡ set mid (s.written + 1) (get_or answers s.used 0)
      → t ≡ way (eqb op 30) (eqb (get_or answers s.used 0) 1) s.place a
      → Asks (Some (On (record { steps = s.steps + 1; used = s.used + 1; written = s.written + 2; place = t }))) op a answers room s before left
  unfolding Asks
  ask-on before mid left t h w f d e g = record {
    more = h;
    fits = omega arith;
    goes = λ z. record { steps = s.steps + 1; used = s.used + 1; written = s.written + 2; place = g z };
    stored = e ∙ ap₂ (λ (l : List ℕ) (k : ℕ). set l k (get_or answers s.used 0)) d (add-one s.written);
  }
