-- The lowering's answer, question by question.
use mathlib.Core.Path.{◌≡◌, ap, ◌∙◌}
use mathlib.Core.Bool.{true, false}
use mathlib.Core.List.{List}
use Prim.Native.Nat.{ℕ, ◌≤◌, ◌<◌}
use lib.ListN.{length}
use borrow.Author.Tests.{le-leb, lt-leb}
use Rattle.definitions.specs.Bytes.{Answer, refused, accepted, when_accepted}
use Rattle.definitions.specs.Tables.{Tables}
use Rattle.definitions.specs.Module.{Limits, module_bytes, lower_tables, lower_bytes}
use Rattle.definitions.specs.Calls.{areas_fit, fits_room, lower_answer}

module _ (l : Limits) (m n room : ℕ) (tree : List ℕ) where
  -- 1
  pub answer-areas : areas_fit m n ≡ false → lower_answer l m n room tree ≡ refused 1
  unfolding lower_answer
  answer-areas e = rw (e, lower_answer)

  -- what comes after 1
  answer-bytes : areas_fit m n ≡ true → lower_answer l m n room tree ≡ when_accepted (lower_bytes l tree) (fits_room room)
  unfolding lower_answer
  answer-bytes e = rw (e, lower_answer)

module _ (l : Limits) (tree : List ℕ) where
  bytes-refused : (q : ℕ) → lower_tables l tree ≡ refused q → lower_bytes l tree ≡ refused q
  unfolding lower_bytes when_accepted
  bytes-refused q e = rw (e, lower_bytes)

  bytes-accepted : (t : Tables) → lower_tables l tree ≡ accepted t → lower_bytes l tree ≡ accepted (module_bytes t)
  unfolding lower_bytes when_accepted
  bytes-accepted t e = rw (e, lower_bytes)

-- ---- the answers, question 1 being answered yes

module _ (l : Limits) (m n room : ℕ) (tree : List ℕ) (areas : areas_fit m n ≡ true) where
  -- 2 to 15
  pub answer-refused : (q : ℕ) → lower_tables l tree ≡ refused q → lower_answer l m n room tree ≡ refused q
  unfolding when_accepted
  answer-refused q e = answer-bytes l m n room tree areas ∙ ap (λ (a : Answer (List ℕ)). when_accepted a (fits_room room)) (bytes-refused l tree q e)

  -- 16
  pub answer-fits : (t : Tables) → lower_tables l tree ≡ accepted t → lower_answer l m n room tree ≡ fits_room room (module_bytes t)
  unfolding when_accepted
  answer-fits t e = answer-bytes l m n room tree areas ∙ ap (λ (a : Answer (List ℕ)). when_accepted a (fits_room room)) (bytes-accepted l tree t e)

-- ---- question 16

pub room-over : (room : ℕ) (bs : List ℕ) → room < length bs → fits_room room bs ≡ refused 16
unfolding fits_room
room-over room bs h = rw (lt-leb (length bs) room h, fits_room)

pub room-enough : (room : ℕ) (bs : List ℕ) → length bs ≤ room → fits_room room bs ≡ accepted bs
unfolding fits_room
room-enough room bs h = rw (le-leb (length bs) room h, fits_room)
