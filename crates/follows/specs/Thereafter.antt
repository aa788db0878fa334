-- A call over the bytes that a lowering wrote.
use Rattle.std.specs.Prelude.{ℕ, List, take}
use Rattle.definitions.specs.Bytes.{Answer, refused, accepted}

-- the count of bytes written, and the answer of the call over them
pub record Thereafter (A : Type 0) : Type 0 where
  pub count : ℕ
  pub next : Answer A

-- the lowering's refusal; or the count, and the call's answer
unfoldable pub thereafter : {A : Type 0} → Answer ℕ → List ℕ → (List ℕ → Answer A) → Answer (Thereafter A)
thereafter (refused q) output call = refused q
thereafter (accepted n) output call = accepted (record { count = n; next = call (take n output) })

-- a buffer after the call; where the lowering refused, it is as it was
unfoldable pub left_after : Answer ℕ → List ℕ → (List ℕ → List ℕ) → List ℕ → List ℕ
left_after (refused q) output call buffer = buffer
left_after (accepted n) output call buffer = call (take n output)
