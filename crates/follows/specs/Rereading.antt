-- What the call that lowers and reads answers and leaves; and that the reader accepts what was lowered.
use Rattle.std.specs.Prelude.{ℕ, ◌≡◌, List, Result, Ok, Err, IsOk}
use Rattle.definitions.specs.Bytes.{Answer, refused, accepted}
use Rattle.definitions.specs.Module.{Limits}
use Rattle.definitions.specs.Calls.{lower_call, read_call}
use Rattle.reader.specs.View.{said}
use Rattle.follows.specs.Thereafter.{Thereafter, thereafter}
use Rattle.follows.specs.declared.Reread.{Reread}
use Rattle.questions.specs.declared.Question.{Question}
use Rattle.questions.specs.Numbers.{number}

-- the paper's answers for each case of the call's: the count of bytes written and the reader's answer, or the number of the first question answered no
unfoldable pub reread_said : Result Reread Question → Answer (Thereafter (Unit {0}))
reread_said (Ok r) = accepted (record { count = r.written; next = said r.verdict })
reread_said (Err q) = refused (number q)

-- the call: its answer, and the two areas and the output after it
pub record Rereading : Type 0 where
  pub answer : Answer (Thereafter (Unit {0}))
  pub area₁ : List ℕ
  pub area₂ : List ℕ
  pub output : List ℕ

unfoldable pub reread_call : Limits → List ℕ → List ℕ → List ℕ → List ℕ → Rereading
reread_call l tree area₁ area₂ output =
    let w = lower_call l tree area₁ area₂ output in
    record { answer = thereafter w.answer w.output read_call; area₁ = w.area₁; area₂ = w.area₂; output = w.output }

-- an answer and what is left are those of a call
pub record RereadsAs (r : Result Reread Question) (area₁' area₂' output' : List ℕ) (w : Rereading) : Type 0 where
  pub answer : reread_said r ≡ w.answer
  pub first : area₁' ≡ w.area₁
  pub second : area₂' ≡ w.area₂
  pub output : output' ≡ w.output

-- the answer and all that is left are those of `reread_call`; and whenever the lowering accepts, the reader accepts the bytes written
pub record Rereads (r : Result Reread Question) (area₁' area₂' output' : List ℕ) (l : Limits) (tree area₁ area₂ output : List ℕ) : Type 0 where
  pub equation : RereadsAs r area₁' area₂' output' (reread_call l tree area₁ area₂ output)
  pub reads : (x : Reread) → r ≡ Ok x → IsOk x.verdict
