-- What is counted of instructions and of functions that stand one after the other.
use mathlib.Core.Path.{◌≡◌, refl, sym, ap, ◌∙◌, subst}
use mathlib.Core.Bool.{Bool, true, false}
use Rattle.std.specs.Int.{from_bool}
use mathlib.Core.List.{List}
use Prim.Native.Nat.{ℕ, ◌+◌, ◌-◌, ◌≤◌, ◌<◌}
use native.Mathlib.Omega.{arith}
use lib.ListN.{length}
use Rattle.definitions.specs.Instruction.{instr}
use Rattle.definitions.specs.Sheet.{is_question, is_call, one_if, tally}
use Rattle.definitions.specs.Module.{instructions}
use Rattle.definitions.specs.Reader.{instruction, function_record}
use Rattle.definitions.proofs.Sheet.{tally-more}
use Rattle.reader.specs.View.{found_at}
use Rattle.reader.proofs.InstructionLaws.{found_as}
use Rattle.tally.specs.Walk.{functions_from, values_end, Values, code_from}
use Rattle.tally.specs.Counts.{Tallies}
use Rattle.tally.specs.declared.Tallied.{Tallied}
use Rattle.tally.proofs.Walking.{stepped, reads_none, Function-here, code-many}

-- ---- an opcode's kind

-- what is added for an instruction of the kind, or not of it
pub one-more : (p : ℕ → Bool) (op : ℕ) (b : Bool) (x : ℕ) → b ≡ p op → x ≡ from_bool b → (x ≡ one_if (p op)) × (x ≤ 1)
unfolding one_if
one-more p op true x e f = (f ∙ ap one_if e, omega arith)
one-more p op false x e f = (f ∙ ap one_if e, omega arith)

-- ---- instructions

-- what was counted so far, and what is left
pub record Counting (n : ℕ) (t : List ℕ) (at left p questions calls : ℕ) : Type 0 where
  pub rest : Values instruction left t p
  pub ends : values_end instruction n t at ≡ values_end instruction left t p
  pub few : questions + left ≤ n
  pub few-calls : calls + left ≤ n
  pub questions-so : tally is_question (code_from n t at) ≡ questions + tally is_question (code_from left t p)
  pub calls-so : tally is_call (code_from n t at) ≡ calls + tally is_call (code_from left t p)

pub counting-start : (n : ℕ) (t : List ℕ) (at : ℕ) → Values instruction n t at → Counting n t at n at 0 0
counting-start n t at r = record { rest = r; ends = refl; few = omega arith; few-calls = omega arith; questions-so = omega arith; calls-so = omega arith }

pub counting-next : (n : ℕ) (t : List ℕ) (at left p qs cs : ℕ) → 0 < left → Counting n t at left p qs cs → (op a b m x y : ℕ) → found_at t p ≡ found_as op a b m → x ≡ one_if (is_question op) → x ≤ 1 → y ≡ one_if (is_call op) → y ≤ 1 →
    Counting n t at (left - 1) m (qs + x) (cs + y)
counting-next n t at left p qs cs h k op a b m x y e ex hx ey hy =
    let s = stepped t left p h k.rest op a b m e in
    let q = ap (tally is_question) s.list ∙ tally-more is_question (instr op a b) (code_from (left - 1) t m) in
    let c = ap (tally is_call) s.list ∙ tally-more is_call (instr op a b) (code_from (left - 1) t m) in
    let fq = k.few in let fc = k.few-calls in let sq = k.questions-so in let sc = k.calls-so in
    record { rest = s.rest; ends = k.ends ∙ s.ends; few = omega arith; few-calls = omega arith; questions-so = omega arith; calls-so = omega arith }

pub counting-done : (n : ℕ) (t : List ℕ) (at left p qs cs : ℕ) → left ≤ 0 → Counting n t at left p qs cs → (r : Tallied) → r.at ≡ p → r.questions ≡ qs → r.calls ≡ cs → Tallies r n t at
unfolding tally
counting-done n t at left p qs cs h k r ea eq ec =
    let e = reads_none instruction t left p h k.rest in
    let q = ap (tally is_question) e.0 in
    let c = ap (tally is_call) e.0 in
    let sq = k.questions-so in let sc = k.calls-so in
    record { ends = ea ∙ sym (k.ends ∙ e.1); questions = omega arith; calls = omega arith }

-- ---- instructions of the functions

-- the instructions so far, and the functions that are left
pub record Summing (count : ℕ) (t : List ℕ) (at left p total : ℕ) : Type 0 where
  pub rest : Values function_record left t p
  pub few : total ≤ p
  pub so : instructions (functions_from count t at) ≡ total + instructions (functions_from left t p)

pub summing_start : (count : ℕ) (t : List ℕ) (at : ℕ) → Values function_record count t at → Summing count t at count at 0
summing_start count t at r = record { rest = r; few = omega arith; so = omega arith }

pub summing-next : (count : ℕ) (t : List ℕ) (at left p total n q : ℕ) → 0 < left → Summing count t at left p total → (f : Function-here t left p n) → q ≡ values_end instruction n t (p + 9) →
    Summing count t at (left - 1) q (total + n)
unfolding instructions
summing-next count t at left p total n q h k f e =
    let s = ap instructions f.list in
    let c = f.count in
    let m = code-many t n (p + 9) f.code in
    let o = k.so in let w = k.few in
    let z : Summing count t at (left - 1) (values_end instruction n t (p + 9)) (total + n) = record { rest = f.rest; few = omega arith; so = omega arith } in
    subst (λ (j : ℕ). Summing count t at (left - 1) j (total + n)) (sym e) z

pub summing-done : (count : ℕ) (t : List ℕ) (at left p total : ℕ) → left ≤ 0 → Summing count t at left p total → (total ≡ instructions (functions_from count t at)) × (total ≤ length t)
unfolding instructions
summing-done count t at left p total h k =
    let e = reads_none function_record t left p h k.rest in
    let i = ap instructions e.0 in
    let o = k.so in let w = k.few in let l = k.rest.here in (omega arith, omega arith)
