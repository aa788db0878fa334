-- The functions of a module one after the other, and the call's answers. Assumes nothing.
use Prim.Native.Nat.{ℕ, ◌+◌, ◌-◌, ◌<◌, ◌≤◌}
use mathlib.Core.Path.{◌≡◌, refl, sym, ap, ap₂, ◌∙◌, subst}
use mathlib.Core.Bool.{Bool, true, false, ◌&&◌}
use mathlib.Core.List.{List, [], ◌∷◌}
use native.Mathlib.Omega.{arith}
use lib.ListN.{length, take, drop, replicate}
use borrow.Author.Tests.{le-leb, lt-leb}
use Rattle.definitions.specs.Bytes.{Answer, refused, accepted, when_accepted, all, counted}
use Rattle.definitions.specs.Instruction.{Instr}
use Rattle.definitions.specs.Tables.{Tables}
use Rattle.definitions.specs.Reader.{instruction, function_record, read_module, ends_in_return, jumps_land, code_stands}
use Rattle.definitions.specs.Calls.{zeros}
use Rattle.definitions.specs.Reach.{wide_area, area_left}
use Rattle.definitions.specs.Heights.{heights_hold, function_holds, heights_asked, heights_answer, heights_call}
use Rattle.definitions.proofs.Truth.{left as left-of, right as right-of}
use Rattle.definitions.proofs.ModuleRefusals.{read-stands}
use Rattle.std.specs.Prelude.{Result, Ok, Err}
use Rattle.questions.specs.declared.Question.{Question}
use Rattle.questions.specs.declared.Question.TheVariants.{WorkAreas, Heights}
use Rattle.questions.specs.Numbers.{number}
use Rattle.reader.specs.View.{Got, number_at, module_tables, instructions_of, part_at, Inside, said}
use Rattle.reader.specs.declared.Part.{Part}
use Rattle.reader.proofs.Encoding.{Small}
use Rattle.run.specs.Tables.{Coded}
use Rattle.run.proofs.Calling.{part-instructions, part-stands}
use Rattle.tally.specs.Walk.{Values, values_end, code_from, functions_from, FunctionsAt}
use Rattle.tally.proofs.Walking.{Function-here, function-here, reads_none}
use Rattle.tally.proofs.Calling.{functions-begin, few_bytes}
use Rattle.tally.proofs.Parts.{code-count}
use Rattle.heights.specs.Holding.{Parted, Stood, ChecksHeights}

-- ---- a part of the module

module _ {t : List ℕ} {p : Part} (P : Parted t p) where
  pub part-in : Inside (Ok p) t
  unfolding Inside
  part-in = let e = P.to in let g = P.code.read.to in omega arith

  read : Got (counted [] ◌∷◌ instruction p.count) t p.start (code_from p.count t p.start) (p.start + p.size)
  read = subst (λ (m : ℕ). Got (counted [] ◌∷◌ instruction p.count) t p.start (code_from p.count t p.start) m) (sym P.to) P.code.read

  module _ {part : List ℕ} (e : part ≡ part_at (Ok p) t) where
    cut : part ≡ take p.size (drop p.start t)
    unfolding part_at
    cut = e

    pub part-coded : Small t → Coded part
    part-coded small =
        part-stands t p.start p.size p.count (code_from p.count t p.start) read part cut (code-count P.code) P.ends
        (subst (λ (k : ℕ). jumps_land k 0 (code_from p.count t p.start) ≡ true) (code-count P.code) P.land) P.few P.short small

    pub part-is : instructions_of part ≡ code_from p.count t p.start
    part-is = part-instructions t p.start p.size p.count (code_from p.count t p.start) read part cut

    pub part-many : p.count ≡ length (instructions_of part)
    part-many = sym (ap length part-is ∙ code-count P.code)

    pub part-held : (most : ℕ) {r : Bool} → r ≡ heights_hold most (instructions_of part) → r ≡ heights_hold most (code_from p.count t p.start)
    part-held most w = w ∙ ap (heights_hold most) part-is

-- ---- the functions

-- `left` functions from p on are still to be held
pub record Holding (t : List ℕ) (count at left p : ℕ) : Type 0 where
  pub rest : Stood t left p
  pub so : all function_holds (functions_from count t at) ≡ all function_holds (functions_from left t p)

module _ {t : List ℕ} {count at left p n most : ℕ} (H : Holding t count at left p) (h : 0 < left) (en : n ≡ number_at 2 t (p + 7)) (eh : most ≡ number_at 2 t (p + 5)) where
  pub first : Function-here t left p n
  first = function-here t left p n h H.rest.functions en

  stands : (code_stands first.function && all code_stands (functions_from (left - 1) t (values_end instruction n t (p + 9)))) ≡ true
  unfolding all
  stands = sym (ap (all code_stands) first.list) ∙ H.rest.stand

  pub parted : {end : ℕ} → end ≡ values_end instruction n t (p + 9) → n < 65536 → Parted t (record { start = p + 9; size = end - (p + 9); count = n })
  unfolding code_stands
  parted {end} e few =
      let f = first.function in
      let s = left-of (code_stands f) _ stands in
      let x = first.code.read.from in
      record {
        code = first.code;
        to = omega arith;
        ends = ap ends_in_return first.code-is ∙ left-of (ends_in_return f.code) _ s;
        land = ap (λ (is : List Instr). jumps_land (length is) 0 is) first.code-is ∙ right-of (ends_in_return f.code) _ s;
        few = few;
        short = H.rest.short;
      }

  one-more : {end : ℕ} {r : Bool} → end ≡ values_end instruction n t (p + 9) → r ≡ heights_hold most (code_from n t (p + 9))
      → all function_holds (functions_from left t p) ≡ (r && all function_holds (functions_from (left - 1) t end))
  unfolding all function_holds
  one-more {end} e w =
      ap (all function_holds) first.list
      ∙ ap₂ (λ (x : Bool) (q : ℕ). x && all function_holds (functions_from (left - 1) t q))
      (sym (w ∙ ap₂ (λ (k : ℕ) (is : List Instr). heights_hold k is) (eh ∙ first.height) first.code-is)) (sym e)

  pub holding-on : {end : ℕ} {r : Bool} → end ≡ values_end instruction n t (p + 9) → r ≡ heights_hold most (code_from n t (p + 9)) → r ≡ true → Holding t count at (left - 1) end
  holding-on {end} e w y = record {
    rest = record {
      functions = subst (λ (q : ℕ). Values function_record (left - 1) t q) (sym e) first.rest;
      stand = ap (λ (q : ℕ). all code_stands (functions_from (left - 1) t q)) e ∙ right-of (code_stands first.function) _ stands;
      short = H.rest.short;
    };
    so = H.so ∙ one-more e w ∙ ap (λ (b : Bool). b && all function_holds (functions_from (left - 1) t end)) y;
  }

  pub holding-falls : {end : ℕ} {r : Bool} → end ≡ values_end instruction n t (p + 9) → r ≡ heights_hold most (code_from n t (p + 9)) → r ≡ false → false ≡ all function_holds (functions_from count t at)
  holding-falls {end} e w y = sym (H.so ∙ one-more e w ∙ ap (λ (b : Bool). b && all function_holds (functions_from (left - 1) t end)) y)

pub holding-start : {t : List ℕ} {count at : ℕ} → Stood t count at → Holding t count at count at
holding-start S = record { rest = S; so = refl }

pub holding-begins : {t : List ℕ} {count at : ℕ} → Stood t count at → Holding t count at (count - 0) at
holding-begins {t} {count} {at} S = subst (λ (k : ℕ). Holding t count at k at) (let z : count ≡ count - 0 = omega arith in z) (holding-start S)

pub holding-goes : {t : List ℕ} {count at end : ℕ} (i : ℕ) → Holding t count at (count - i - 1) end → Holding t count at (count - (i + 1)) end
holding-goes {t} {count} {at} {end} i H = subst (λ (k : ℕ). Holding t count at k end) (let z : count - i - 1 ≡ count - (i + 1) = omega arith in z) H

pub holding-done : {t : List ℕ} {count at left p : ℕ} → Holding t count at left p → left ≤ 0 → true ≡ all function_holds (functions_from count t at)
unfolding all
holding-done {t} {left = left} {p} H h = sym (H.so ∙ ap (all function_holds) (reads_none function_record t left p h H.rest.functions).0)

-- ---- 37

module _ {t : List ℕ} {p : Part} (F : FunctionsAt t p) where
  pub stood : Stood t p.count (p.start + 2)
  stood =
      let f = functions-begin t p F in
      record { functions = f.1; stand = ap (all code_stands) f.2 ∙ read-stands t (module_tables t) F.module-is; short = few_bytes t p F }

  module _ {k : ℕ} (long : 131072 ≤ k) where
    asked : heights_answer k t ≡ heights_asked (module_tables t)
    unfolding heights_answer wide_area when_accepted
    asked =
        ap (λ (b : Bool). elim b as (λ z. Answer (Unit {0})) [ false ↦ refused 1 | true ↦ when_accepted (read_module t) heights_asked ]) (le-leb 131072 k long)
        ∙ ap (λ (x : Answer Tables). when_accepted x heights_asked) F.module-is

    module _ {r : Bool} (w : r ≡ all function_holds (functions_from p.count t (p.start + 2))) where
      holds : {b : Bool} → r ≡ b → heights_answer k t ≡ (elim b as (λ z. Answer (Unit {0})) [ true ↦ accepted tt | false ↦ refused 37 ])
      unfolding heights_asked
      holds y =
          asked
          ∙ ap (λ (b : Bool). elim b as (λ z. Answer (Unit {0})) [ true ↦ accepted tt | false ↦ refused 37 ])
          (ap (all function_holds) (sym (functions-begin t p F).2) ∙ sym w ∙ y)

      pub says-yes : {u : Unit {0}} → r ≡ true → said (Ok u) ≡ heights_answer k t
      unfolding said
      says-yes y = sym (holds y)

      pub says-37 : r ≡ false → said {A = Unit {0}} (Err Heights) ≡ heights_answer k t
      unfolding said number
      says-37 y = sym (holds y)

pub says-closed : (t : List ℕ) (q : Question) (k : ℕ) → 131072 ≤ k → read_module t ≡ refused (number q) → said {A = Unit {0}} (Err q) ≡ heights_answer k t
unfolding heights_answer wide_area when_accepted said
says-closed t q k long e =
    sym (ap (λ (b : Bool). elim b as (λ z. Answer (Unit {0})) [ false ↦ refused 1 | true ↦ when_accepted (read_module t) heights_asked ]) (le-leb 131072 k long)
    ∙ ap (λ (x : Answer Tables). when_accepted x heights_asked) e)

-- ---- the call

module _ (t area : List ℕ) where
  pub call-short : length area < 131072 → ChecksHeights (Err WorkAreas) t area area
  unfolding heights_call heights_answer wide_area area_left said number
  call-short h =
      let w = lt-leb 131072 (length area) h in
      record {
        answer = sym (ap (λ (b : Bool). elim b as (λ z. Answer (Unit {0})) [ false ↦ refused 1 | true ↦ when_accepted (read_module t) heights_asked ]) w);
        leaves = sym (ap (λ (b : Bool). elim b as (λ z. List ℕ) [ false ↦ area | true ↦ zeros area ]) w);
      }

  pub call_long : 131072 ≤ length area → {r : Result (Unit {0}) Question} {area' : List ℕ} (mid : List ℕ) → length mid ≡ length area → area' ≡ zeros mid → said r ≡ heights_answer (length area) t → ChecksHeights r t area area'
  unfolding heights_call wide_area area_left zeros
  call_long h mid l e s = record {
    answer = s;
    leaves = e ∙ ap (λ (n : ℕ). replicate {A = ℕ} n 0) l ∙ sym (ap (λ (b : Bool). elim b as (λ z. List ℕ) [ false ↦ area | true ↦ zeros area ]) (le-leb 131072 (length area) h));
  }
