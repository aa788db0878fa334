-- The console's lowering beside the office's.
use Prim.Native.Nat.{ℕ}
use mathlib.Core.Path.{◌≡◌, refl, ap, ◌∙◌}
use mathlib.Core.Bool.{Bool, true, false}
use mathlib.Core.List.{List}
use native.Mathlib.Omega.{arith}
use lib.ListN.{length, replicate, length-replicate}
use Rattle.definitions.specs.Bytes.{Answer, refused, accepted, when_accepted}
use Rattle.definitions.specs.Module.{office, console, limits_by}
use Rattle.definitions.specs.Calls.{output_after, count_answer, zeros, areas_fit, lower_answer, area_after, lower_call}
use Rattle.definitions.specs.Statements.{Narrowed}
use Rattle.definitions.proofs.Narrower.{narrower, sets_under}
use Rattle.limits.specs.Sets.{set_number, limits_for}
use Rattle.limits.specs.declared.Limits.TheVariants.{Office, Console}
use Rattle.lowering.specs.Lowered.{lowering_said, Lowers}
use Rattle.std.specs.Prelude.{Result, Ok, Err}
use Rattle.questions.specs.declared.Question.{Question}
use Rattle.follows.specs.Both.{said_bytes, LowersAtBoth}
use Rattle.follows.proofs.Made.{front-is}

-- what is said and written is the whole answer
bytes-said : (r : Result ℕ Question) (a : Answer (List ℕ)) (output output' : List ℕ) → lowering_said r ≡ count_answer a → output' ≡ output_after a output → said_bytes r output' ≡ a
unfolding lowering_said said_bytes count_answer output_after when_accepted
bytes-said (Ok n) (accepted m) output output' e f = let c : n ≡ length m = cc in ap accepted (front-is n m output output' c f)
bytes-said (Ok n) (refused q) output output' e f = let z : ◌≡◌ {A = ℕ} 0 1 = cc in absurd (omega arith)
bytes-said (Err q) (refused p) output output' e f = cc
bytes-said (Err q) (accepted m) output output' e f = let z : ◌≡◌ {A = ℕ} 0 1 = cc in absurd (omega arith)

-- an area after two calls is as after one
abbrev area_by : Bool → List ℕ → List ℕ
area_by b xs = elim b as (λ z. List ℕ) [ false ↦ xs | true ↦ zeros xs ]

after-twice : (m n : ℕ) (xs : List ℕ) → area_after m n (area_after m n xs) ≡ area_after m n xs
unfolding area_after zeros
after-twice m n xs = go (areas_fit m n)
  where
    go : (b : Bool) → area_by b (area_by b xs) ≡ area_by b xs
    go false = refl
    go true = ap (λ (n : ℕ). replicate {A = ℕ} n 0) (length-replicate {A = ℕ} (length xs) 0)

module _ (r s : Result ℕ Question) (tree area₁ area₂ there here mid₁ mid₂ there' area₁' area₂' here' : List ℕ)
    (L : Lowers r mid₁ mid₂ there' (lower_call (limits_for Console) tree area₁ area₂ there)) (M : Lowers s area₁' area₂' here' (lower_call (limits_for Office) tree mid₁ mid₂ here))
    (first : length mid₁ ≡ length area₁) (second : length mid₂ ≡ length area₂) where
  abbrev at_console : Answer (List ℕ)
  at_console = lower_answer console (length area₁) (length area₂) (length there) tree

  abbrev at_office : Answer (List ℕ)
  at_office = lower_answer office (length area₁) (length area₂) (length here) tree

  same-office : lower_answer office (length mid₁) (length mid₂) (length here) tree ≡ at_office
  same-office = λ i. lower_answer office (first i) (second i) (length here) tree

  area-first : area₁' ≡ area_after (length area₁) (length area₂) area₁
  unfolding lower_call
  area-first = M.first ∙ (λ i. area_after (first i) (second i) (L.first i)) ∙ after-twice (length area₁) (length area₂) area₁

  area-second : area₂' ≡ area_after (length area₁) (length area₂) area₂
  unfolding lower_call
  area-second = M.second ∙ (λ i. area_after (first i) (second i) (L.second i)) ∙ after-twice (length area₁) (length area₂) area₂

  narrowed_bytes : length there ≡ length here → Narrowed (said_bytes r there') (said_bytes s here')
  unfolding lower_call limits_by set_number
  narrowed_bytes e =
      let p : said_bytes r there' ≡ at_console = bytes-said r at_console there there' L.answer L.output in
      let q : said_bytes s here' ≡ at_office = bytes-said s at_office here here' (M.answer ∙ ap count_answer same-office) (M.output ∙ ap (λ (a : Answer (List ℕ)). output_after a here) same-office) in
      rw (p, q, e) (narrower console office (sets_under 1) (length area₁) (length area₂) (length here) tree)

  pub at_both : LowersAtBoth (record { console = r; office = s }) area₁' area₂' there' here' tree area₁ area₂ there here
  unfolding lower_call limits_by set_number
  at_both = record {
    console = record { answer = L.answer; first = area-first; second = area-second; output = L.output };
    office = record {
      answer = M.answer ∙ ap count_answer same-office;
      first = area-first;
      second = area-second;
      output = M.output ∙ ap (λ (a : Answer (List ℕ)). output_after a here) same-office;
    };
    narrowed = narrowed_bytes;
  }
