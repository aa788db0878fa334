-- The reader accepts what was lowered.
use Prim.Native.Nat.{ℕ, ◌-◌}
use mathlib.Core.Path.{◌≡◌, ap, ◌∙◌, subst}
use mathlib.Core.Bool.{true}
use mathlib.Core.List.{List}
use native.Mathlib.Omega.{arith}
use lib.ListN.{take}
use lib.Pow.{are_bytes}
use Rattle.definitions.specs.Bytes.{Answer, accepted, when_accepted}
use Rattle.definitions.specs.Tables.{Tables}
use Rattle.definitions.specs.Module.{Limits, office}
use Rattle.definitions.specs.Reader.{read_module}
use Rattle.definitions.specs.Calls.{lower_call, read_call}
use Rattle.definitions.specs.Statements.{Under}
use Rattle.definitions.proofs.Lowered.{lowered_reads}
use Rattle.reader.specs.View.{said}
use Rattle.reader.proofs.Deciding.{says-ok}
use Rattle.questions.specs.declared.Question.{Question}
use Rattle.reader.specs.declared.Sections.{Sections}
use Rattle.lowering.specs.Lowered.{Lowers}
use Rattle.std.specs.Prelude.{Result, Ok, Err, IsOk}
use Rattle.follows.specs.Rereading.{reread_said, reread_call, Rereads}
use Rattle.follows.specs.declared.Reread.{Reread}
use Rattle.follows.proofs.Made.{Made, made, part-is, then-accepted, then-refused}

-- a module that is read is accepted
read-accepted : (m : List ℕ) (t : Tables) → read_module m ≡ accepted t → read_call m ≡ accepted tt
unfolding read_call when_accepted
read-accepted m t e = let yes_of : Tables → Answer (Unit {0}) = λ t. accepted tt in ap (λ (a : Answer Tables). when_accepted a yes_of) e

made_reads : (l : Limits) → Under l office → (tree output output' : List ℕ) (n : ℕ) → are_bytes tree ≡ true → Made l tree output output' n → read_call (take n output') ≡ accepted tt
made_reads l u tree output output' n o M =
    let R = lowered_reads l u tree M.bytes o M.lowers in
    ap read_call M.front ∙ read-accepted M.bytes R.tables R.reads

module _ (r : Result ℕ Question) (l : Limits) (tree area₁ area₂ output area₁' area₂' output' : List ℕ) (L : Lowers r area₁' area₂' output' (lower_call l tree area₁ area₂ output)) where
  pub reread-wrote : Under l office → are_bytes tree ≡ true → (n : ℕ) → r ≡ Ok n → (v : Result Sections Question) → said v ≡ read_call (take (n - 0) output') →
      Rereads (Ok (record { written = n; verdict = v })) area₁' area₂' output' l tree area₁ area₂ output
  unfolding reread_call reread_said
  reread-wrote u o n e v g = let h : said v ≡ read_call (take n output') = g ∙ ap read_call (part-is n output') in record {
    equation = record {
      answer = then-accepted (lower_call l tree area₁ area₂ output) r output' L.answer L.output read_call n e (said v) h;
      first = L.first;
      second = L.second;
      output = L.output;
    };
    reads = λ y x. subst (λ (z : Reread). IsOk z.verdict) (let same : record { written = n; verdict = v } ≡ y = cc x in same)
        (says-ok v (h ∙ made_reads l u tree output output' n o (made r l tree area₁ area₂ output area₁' area₂' output' L n e)));
  }

  reread-no : (q : Question) → r ≡ Err q → Rereads (Err q) area₁' area₂' output' l tree area₁ area₂ output
  unfolding reread_call reread_said
  reread-no q e = record {
    equation = record {
      answer = then-refused (lower_call l tree area₁ area₂ output) r output' L.answer L.output read_call q e;
      first = L.first;
      second = L.second;
      output = L.output;
    };
    reads = λ k x. let z : ◌≡◌ {A = ℕ} 0 1 = cc in absurd (omega arith);
  }

  pub reread-refused : (q : Question) → r ≡ Err q → {o : Result Reread Question} → o ≡ Err q → Rereads o area₁' area₂' output' l tree area₁ area₂ output
  reread-refused q e f = rw f (reread-no q e)
