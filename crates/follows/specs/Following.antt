-- What the call that lowers and runs answers and leaves; and demand 3 of it: the run does what the walk of the tree does.
use Rattle.std.specs.Prelude.{ℕ, ◌+◌, ◌*◌, ◌≤◌, ◌<◌, ◌≡◌, true, List, length, take, Result, Ok, Err}
use Rattle.std.proofs.Math.Option.{Option, none, some}
use Rattle.definitions.specs.Bytes.{Answer, refused, accepted}
use Rattle.definitions.specs.Module.{Limits}
use Rattle.definitions.specs.Walk.{Walked, ending_number}
use Rattle.definitions.specs.Calls.{written, are_answers, lower_call, Counts, run_call, walk_tree}
use Rattle.definitions.specs.Statements.{instructions_in}
use Rattle.run.specs.Pass.{ran_said, run_ending_number}
use Rattle.run.specs.declared.Ran.{Ran as RanSo}
use Rattle.follows.specs.Thereafter.{Thereafter, thereafter, left_after}
use Rattle.follows.specs.declared.Followed.{Followed}
use Rattle.questions.specs.declared.Question.{Question}
use Rattle.questions.specs.declared.Question.TheVariants.{Function, EventRoom}
use Rattle.questions.specs.Numbers.{number}

-- ---- the call

-- the paper's answers for each case of the call's: the count of bytes written and the run's answer, or the number of the first question answered no
unfoldable pub followed_said : Result Followed Question → Answer (Thereafter Counts)
followed_said (Ok r) = accepted (record { count = r.written; next = ran_said r.outcome })
followed_said (Err q) = refused (number q)

-- the call: its answer, and the two areas, the module's buffer and the event buffer after it
pub record Following : Type 0 where
  pub answer : Answer (Thereafter Counts)
  pub area₁ : List ℕ
  pub area₂ : List ℕ
  pub bytes : List ℕ
  pub events : List ℕ

unfoldable pub follow_call : Limits → List ℕ → ℕ → List ℕ → ℕ → List ℕ → List ℕ → List ℕ → List ℕ → Following
follow_call l tree function answers budget area₁ area₂ bytes events =
    let w = lower_call l tree area₁ area₂ bytes in
    record {
      answer = thereafter w.answer w.output (λ m. (run_call m function answers budget events).answer);
      area₁ = w.area₁;
      area₂ = w.area₂;
      bytes = w.output;
      events = left_after w.answer w.output (λ m. (run_call m function answers budget events).events) events;
    }

-- an answer and what is left are those of a call
pub record FollowsAs (r : Result Followed Question) (area₁' area₂' bytes' events' : List ℕ) (w : Following) : Type 0 where
  pub answer : followed_said r ≡ w.answer
  pub first : area₁' ≡ w.area₁
  pub second : area₂' ≡ w.area₂
  pub bytes : bytes' ≡ w.bytes
  pub events : events' ≡ w.events

-- ---- the walk

-- The run ended as the walk does, by a return (1) or for want of an answer (2), after as many answers; its events, from the buffer's start, are the walk's
pub record SameAsWalk (o : Result RanSo Question) (w : Walked) (answers events events' : List ℕ) : Type 0 where
  pub ran : RanSo
  pub says : o ≡ Ok ran
  pub ending : run_ending_number ran.ending ≡ ending_number w.ending
  pub bytes : ran.written ≡ length w.events
  pub ends : (1 ≤ ending_number w.ending) × (ending_number w.ending ≤ 2)
  pub uses : ran.used + length w.left ≡ length answers
  pub leaves : events' ≡ written w.events events

-- How the run went, by what the walk gives: no such function, refusal 22; events that fit the buffer, the same as the walk; events that do not, refusal 24
unfoldable pub AsWalked : Result RanSo Question → Option Walked → List ℕ → List ℕ → List ℕ → Type 0
AsWalked o none answers events events' = (o ≡ Err Function) × (events' ≡ events)
AsWalked o (some w) answers events events' =
    (length w.events ≤ length events → SameAsWalk o w answers events events') × (length events < length w.events → (o ≡ Err EventRoom) × (events' ≡ events))

-- The answer and all that is left are those of `follow_call`. And of every accepted tree, on answers that are 0 or 1, with a budget of at least
-- (answers + 1) × the function's instructions, the run goes as the walk of the tree's function does
pub record FollowsSource (r : Result Followed Question) (area₁' area₂' bytes' events' : List ℕ) (l : Limits) (tree : List ℕ) (function : ℕ) (answers : List ℕ) (budget : ℕ) (area₁ area₂ bytes events : List ℕ) : Type 0 where
  pub equation : FollowsAs r area₁' area₂' bytes' events' (follow_call l tree function answers budget area₁ area₂ bytes events)
  pub walk : (x : Followed) → r ≡ Ok x → are_answers answers ≡ true → (length answers + 1) * instructions_in (take x.written bytes') function ≤ budget →
      AsWalked x.outcome (walk_tree tree function answers) answers events events'
