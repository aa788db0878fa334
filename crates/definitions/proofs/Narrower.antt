-- Narrower limits give the answer of the wider ones, or 15 where these accept or say 16: the questions are the same but for 15.
use mathlib.Core.Path.{◌≡◌, refl, sym, ◌∙◌}
use mathlib.Core.Logic.{◌⊎◌, inl, inr}
use mathlib.Core.Bool.{Bool, true, false, true≢false}
use mathlib.Core.List.{List, [], ◌∷◌, ◌++◌}
use Prim.Native.Nat.{ℕ, zero, suc}
use native.Mathlib.Omega.{arith}
use lib.ListN.{length, take}
use lib.Dec.{leb}
use Rattle.definitions.specs.Bytes.{Answer, refused, accepted}
use Rattle.definitions.specs.Tables.{Tables}
use Rattle.definitions.specs.Lower.{compile}
use Rattle.definitions.specs.Module.{Limits, office, console, limits_by, tables_fit}
use Rattle.definitions.specs.Calls.{lower_answer}
use Rattle.definitions.specs.Statements.{Question, asked, lower_questions, first_refusal, parsed, block_read, module_of, tree_questions, Under, SetsUnder, Narrowed, alike, over, over_first, Narrower, ConsoleTakes, OfficeRefuses}
use Rattle.definitions.proofs.Accepted.{within, within-fits, wider}
use Rattle.definitions.proofs.Refusals.{refusals}

pub sets_under : SetsUnder
unfolding limits_by office console
sets_under zero = omega arith
sets_under (suc n) = omega arith

-- tables that fit narrower limits fit wider ones
fit-wider : (l w : Limits) → Under l w → (t : Tables) → tables_fit l t ≡ true → tables_fit w t ≡ true
fit-wider l w u t e = within-fits w t (wider l w t u (within l t e))

-- ---- the answers

-- questions that are the same but for 15
narrowed_at : {A : Type 0} (qs : List Question) (x : A) (room a b : Bool) → (a ≡ true → b ≡ true)
    → Narrowed (first_refusal (qs ++ asked 15 a ∷ asked 16 room ∷ []) x) (first_refusal (qs ++ asked 15 b ∷ asked 16 room ∷ []) x)
unfolding first_refusal
narrowed_at [] x room true true h = alike refl
narrowed_at [] x room true false h = absurd (true≢false (sym (h refl)))
narrowed_at [] x room false false h = alike refl
narrowed_at [] x true false true h = over x refl refl
narrowed_at [] x false false true h = over_first refl refl
narrowed_at {A} (q ∷ qs) x room a b h = go q.yes (narrowed_at qs x room a b h)
  where
    go : (c : Bool) {n w : Answer A} → Narrowed n w
        → Narrowed {A = A} (elim c as (λ z. Answer A) [ true ↦ n | false ↦ refused q.number ]) (elim c as (λ z. Answer A) [ true ↦ w | false ↦ refused q.number ])
    go true N = N
    go false N = alike refl

pub narrower : Narrower
unfolding lower_questions tree_questions
narrower l w u m n room tree =
    let t = (compile (block_read (parsed tree))).tables in
    rw (refusals l m n room tree, refusals w m n room tree)
    (narrowed_at (take 16 (lower_questions w m n room tree)) (module_of tree) (leb (length (module_of tree)) room) (tables_fit l t) (tables_fit w t) (fit-wider l w u t))

-- ---- office and console

module _ {A : Type 0} {narrow wide : Answer A} where
  takes-too : Narrowed narrow wide → (x : A) → narrow ≡ accepted x → wide ≡ accepted x
  takes-too (alike e) x h = sym e ∙ h
  takes-too (over a e f) x h = let z : ◌≡◌ {A = ℕ} 0 1 = cc in absurd (omega arith)
  takes-too (over_first e f) x h = let z : ◌≡◌ {A = ℕ} 0 1 = cc in absurd (omega arith)

  refuses-too : Narrowed narrow wide → (q : ℕ) → wide ≡ refused q → (narrow ≡ refused q) ⊎ ((q ≡ 16) × (narrow ≡ refused 15))
  refuses-too (alike e) q h = inl (e ∙ h)
  refuses-too (over a e f) q h = let z : ◌≡◌ {A = ℕ} 0 1 = cc in absurd (omega arith)
  refuses-too (over_first e f) q h = inr (cc, e)

at_both : (m n room : ℕ) (tree : List ℕ) → Narrowed (lower_answer console m n room tree) (lower_answer office m n room tree)
unfolding limits_by
at_both = narrower console office (sets_under 1)

pub console_takes : ConsoleTakes
console_takes m n room tree bytes = takes-too (at_both m n room tree) bytes

pub office_refuses : OfficeRefuses
office_refuses m n room tree q = refuses-too (at_both m n room tree) q
