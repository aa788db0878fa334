-- The run of a lowered function does what the walk of the tree does.
use Prim.Native.Nat.{ℕ, ◌+◌, ◌*◌, ◌-◌, ◌≤◌}
use mathlib.Core.Path.{◌≡◌, sym, ap, ◌∙◌, subst}
use mathlib.Core.Bool.{true}
use mathlib.Core.Option.{Option, none, some}
use mathlib.Core.List.{List}
use native.Mathlib.Omega.{arith}
use lib.ListN.{length, take}
use lib.Pow.{are_bytes}
use Rattle.definitions.specs.Bytes.{Answer, refused, accepted, when_accepted}
use Rattle.definitions.specs.Module.{Limits, office}
use Rattle.definitions.specs.Run.{Ran as RunAnswer}
use Rattle.definitions.specs.Walk.{Walked}
use Rattle.definitions.specs.Calls.{written, output_after, are_answers, lower_call, Counts, ran_counts, ran_call, run_answer, run_call, walk_tree}
use Rattle.definitions.specs.Statements.{Under, Agrees, Follows, instructions_in}
use Rattle.definitions.proofs.Demand3Bytes.{demand3_bytes}
use Rattle.questions.specs.declared.Question.TheVariants.{Function, EventRoom}
use Rattle.questions.specs.Numbers.{number}
use Rattle.questions.proofs.Named.{number-same}
use Rattle.run.specs.Pass.{ran_said, Called}
use Rattle.run.proofs.Calling.{says-refused, says-finished}
use Rattle.run.specs.declared.Ran.{Ran as RanSo}
use Rattle.lowering.specs.Lowered.{Lowers}
use Rattle.std.specs.Prelude.{Result, Ok, Err}
use Rattle.questions.specs.declared.Question.{Question}
use Rattle.follows.specs.Following.{followed_said, follow_call, FollowsAs, SameAsWalk, AsWalked, FollowsSource}
use Rattle.follows.specs.declared.Followed.{Followed}
use Rattle.follows.proofs.Made.{made, part-is, then-accepted, then-refused, left-accepted, left-refused}

-- ---- what a run's answer shows

module _ (a : Answer RunAnswer) (o : Result RanSo Question) (events events' : List ℕ) (says : ran_said o ≡ when_accepted a ran_counts) (leaves : events' ≡ output_after (when_accepted a (λ (r : RunAnswer). accepted r.events)) events) where
  shows-refused : (q : Question) → a ≡ refused (number q) → (o ≡ Err q) × (events' ≡ events)
  unfolding when_accepted output_after
  shows-refused q e =
      let k = says-refused o (number q) (says ∙ ap (λ (x : Answer RunAnswer). when_accepted x ran_counts) e) in
      (k.1 ∙ ap (λ (p : Question). Err p) (number-same k.0 q k.2), leaves ∙ ap (λ (x : Answer RunAnswer). output_after (when_accepted x (λ (r : RunAnswer). accepted r.events)) events) e)

  shows_same : (answers : List ℕ) (w : Walked) (r : RunAnswer) → a ≡ accepted r → Agrees r w answers → SameAsWalk o w answers events events'
  unfolding when_accepted output_after ran_counts
  shows_same answers w r e A =
      let g = A.ending in
      let h = A.events in
      let u = A.used in
      let k = says-finished o (record { ending = r.ending; steps = r.steps; used = r.used; bytes = length r.events }) (says ∙ ap (λ (x : Answer RunAnswer). when_accepted x ran_counts) e) in
      let n = ap (λ (z : Counts). z.used) k.2 in
      record {
        ran = k.0;
        says = k.1;
        ending = ap (λ (z : Counts). z.ending) k.2 ∙ g;
        bytes = ap (λ (z : Counts). z.bytes) k.2 ∙ ap length h;
        ends = (omega (arith, g, A.ends.0), omega (arith, g, A.ends.1));
        uses = omega arith;
        leaves = leaves ∙ ap (λ (x : Answer RunAnswer). output_after (when_accepted x (λ (r : RunAnswer). accepted r.events)) events) e ∙ ap (λ (xs : List ℕ). written xs events) h;
      }

  shows-walk : (answers : List ℕ) (v : Option Walked) → Follows answers (length events) v a → AsWalked o v answers events events'
  unfolding AsWalked number
  shows-walk answers none F = shows-refused Function F
  shows-walk answers (some w) F = (λ fits. let D = F.0 fits in shows_same answers w D.0 D.1 D.2, λ late. shows-refused EventRoom (F.1 late))

-- ---- the call

module _ (r : Result ℕ Question) (l : Limits) (tree area₁ area₂ bytes area₁' area₂' bytes' : List ℕ) (L : Lowers r area₁' area₂' bytes' (lower_call l tree area₁ area₂ bytes))
    (function : ℕ) (answers : List ℕ) (budget : ℕ) (events : List ℕ) where
  module _ (n : ℕ) (e : r ≡ Ok n) (o : Result RanSo Question) (events' : List ℕ) (C : Called o (run_call (take n bytes') function answers budget events) events') where
    run-walks : Under l office → are_bytes tree ≡ true → are_answers answers ≡ true → (length answers + 1) * instructions_in (take n bytes') function ≤ budget →
        AsWalked o (walk_tree tree function answers) answers events events'
    unfolding run_call ran_call
    run-walks u small bits enough =
        let M = made r l tree area₁ area₂ bytes area₁' area₂' bytes' L n e in
        let D = demand3_bytes l u tree M.bytes small M.lowers function answers bits budget (length events) (subst (λ (m : List ℕ). (length answers + 1) * instructions_in m function ≤ budget) M.front enough) in
        shows-walk (run_answer (take n bytes') function answers budget (length events)) o events events' C.says C.leaves answers (walk_tree tree function answers)
        (subst (λ (m : List ℕ). Follows answers (length events) (walk_tree tree function answers) (run_answer m function answers budget (length events))) (sym M.front) D)

    run-equation : FollowsAs (Ok (record { written = n; outcome = o })) area₁' area₂' bytes' events' (follow_call l tree function answers budget area₁ area₂ bytes events)
    unfolding follow_call followed_said
    run-equation = record {
      answer =
          then-accepted (lower_call l tree area₁ area₂ bytes) r bytes' L.answer L.output (λ m. (run_call m function answers budget events).answer) n e (ran_said o)
          C.says;
      first = L.first;
      second = L.second;
      bytes = L.output;
      events = C.leaves ∙ left-accepted (lower_call l tree area₁ area₂ bytes) r bytes' L.answer L.output (λ m. (run_call m function answers budget events).events) events n e;
    }

    ran-follows : Under l office → are_bytes tree ≡ true → FollowsSource (Ok (record { written = n; outcome = o })) area₁' area₂' bytes' events' l tree function answers budget area₁ area₂ bytes events
    ran-follows u small = record {
      equation = run-equation;
      walk = λ y x bits enough.
          let same : record { written = n; outcome = o } ≡ y = cc x in
          subst (λ (z : Followed). AsWalked z.outcome (walk_tree tree function answers) answers events events') same
          (run-walks u small bits (subst (λ (z : Followed). (length answers + 1) * instructions_in (take z.written bytes') function ≤ budget) (sym same) enough));
    }

  pub follow-ran : (n : ℕ) → r ≡ Ok n → (o : Result RanSo Question) (events' : List ℕ) → Called o (run_call (take (n - 0) bytes') function answers budget events) events' → Under l office → are_bytes tree ≡ true →
      FollowsSource (Ok (record { written = n; outcome = o })) area₁' area₂' bytes' events' l tree function answers budget area₁ area₂ bytes events
  follow-ran n e o events' C = ran-follows n e o events' (subst (λ (m : List ℕ). Called o (run_call m function answers budget events) events') (part-is n bytes') C)

  follow-no : (q : Question) → r ≡ Err q → FollowsSource (Err q) area₁' area₂' bytes' events l tree function answers budget area₁ area₂ bytes events
  unfolding follow_call followed_said
  follow-no q e = record {
    equation = record {
      answer = then-refused (lower_call l tree area₁ area₂ bytes) r bytes' L.answer L.output (λ m. (run_call m function answers budget events).answer) q e;
      first = L.first;
      second = L.second;
      bytes = L.output;
      events = left-refused (lower_call l tree area₁ area₂ bytes) r bytes' L.answer L.output (λ m. (run_call m function answers budget events).events) events q e;
    };
    walk = λ p x bits enough. let z : ◌≡◌ {A = ℕ} 0 1 = cc in absurd (omega arith);
  }

  pub follow-refused : (q : Question) → r ≡ Err q → {o : Result Followed Question} → o ≡ Err q →
      FollowsSource o area₁' area₂' bytes' events l tree function answers budget area₁ area₂ bytes events
  follow-refused q e f = rw f (follow-no q e)
