-- Four numbers, and the counts of a run.
use Prim.Native.Nat.{ℕ, ◌≤◌, ◌<◌}
use mathlib.Core.Path.{◌≡◌, sym, ap, ◌∙◌}
use mathlib.Core.List.{List}
use lib.ListN.{length, set}
use borrow.Author.Tests.{le-leb, lt-leb}
use Rattle.std.specs.Prelude.{Result, Ok, Err}
use Rattle.questions.specs.declared.Question.{Question}
use Rattle.run.specs.Pass.{run_ending_number}
use Rattle.run.specs.declared.Ran.{Ran}
use Rattle.told.specs.Tells.{four_in, counts_in}

pub four-none : (a b c d : ℕ) (xs : List ℕ) → length xs < 4 → xs ≡ four_in a b c d xs
unfolding four_in
four-none a b c d xs h = rw (lt-leb 4 (length xs) h, four_in)

pub four-all : (a b c d : ℕ) (xs : List ℕ) → 4 ≤ length xs → set (set (set (set xs 0 a) 1 b) 2 c) 3 d ≡ four_in a b c d xs
unfolding four_in
four-all a b c d xs h = rw (le-leb 4 (length xs) h, four_in)

module _ (r : Result Ran Question) (xs xs' : List ℕ) where
  pub counted-run : (n : Ran) → r ≡ Ok n → {k : ℕ} → k ≡ run_ending_number n.ending → xs' ≡ four_in k n.steps n.used n.written xs → xs' ≡ counts_in r xs
  unfolding counts_in
  counted-run n e g h = h ∙ ap (λ (x : ℕ). four_in x n.steps n.used n.written xs) g ∙ ap (λ (x : Result Ran Question). counts_in x xs) (sym e)

  pub counted-no : (q : Question) → r ≡ Err q → xs' ≡ four_in 0 0 0 0 xs → xs' ≡ counts_in r xs
  unfolding counts_in
  counted-no q e h = h ∙ ap (λ (x : Result Ran Question). counts_in x xs) (sym e)
