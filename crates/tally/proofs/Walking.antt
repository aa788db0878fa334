-- Records that are read one after the other: the next one, and the end.
use mathlib.Core.Path.{◌≡◌, sym, ap, ap₂, ◌∙◌, subst}
use mathlib.Core.List.{List, [], ◌∷◌}
use Prim.Native.Nat.{ℕ, zero, suc, ◌+◌, ◌-◌, ◌≤◌, ◌<◌}
use native.Mathlib.Omega.{arith}
use lib.ListN.{length, drop, length-drop}
use Rattle.definitions.specs.Bytes.{Parser, counted, list_of}
use Rattle.definitions.specs.Instruction.{Instr, instr}
use Rattle.definitions.specs.Reader.{instruction, function_record}
use Rattle.definitions.specs.Tables.{Function}
use Rattle.definitions.proofs.Begins.{Takes, takes-instruction, takes-function}
use Rattle.reader.specs.View.{Got, found_at, number_at}
use Rattle.std.specs.Prelude.{Option, None}
use Rattle.reader.specs.declared.Instruction.{Instruction}
use Rattle.reader.proofs.Finding.{counted-view, function-view, give-view}
use Rattle.reader.proofs.Questions.{list-view}
use Rattle.reader.proofs.InstructionLaws.{found_as, found-got}
use Rattle.reader.proofs.Encoding.{instruction-view}
use Rattle.tally.specs.Walk.{read_list, read_end, values_from, values_end, Values, code_from, functions_from}

-- ---- any records

module _ {A : Type 0} (p : Parser A) (t : List ℕ) where
  pub reads-list : (k at : ℕ) (xs : List A) (m : ℕ) → Got (counted [] ◌∷◌ p k) t at xs m → values_from p k t at ≡ xs
  unfolding values_from read_list
  reads-list k at xs m g = ap read_list g.is

  pub reads_end : (k at : ℕ) (xs : List A) (m : ℕ) → Got (counted [] ◌∷◌ p k) t at xs m → values_end p k t at ≡ m
  unfolding values_end read_end
  reads_end k at xs m g = ap (read_end (length t)) g.is ∙ (let h = g.to in let l = length-drop m t in let z : length t - length (drop m t) ≡ m = omega arith in z)

  pub reads-are : (k at : ℕ) (xs : List A) (m : ℕ) → at ≤ length t → Got (counted [] ◌∷◌ p k) t at xs m → Values p k t at
  reads-are k at xs m h g = record {
    here = h;
    read = subst (λ (ys : List A). Got (counted [] ◌∷◌ p k) t at ys (values_end p k t at)) (sym (reads-list k at xs m g))
        (subst (λ (n : ℕ). Got (counted [] ◌∷◌ p k) t at xs n) (sym (reads_end k at xs m g)) g);
  }

  -- the first of them
  pub record First (k at : ℕ) : Type 0 where
    pub value : A
    pub next : ℕ
    pub one : Got p t at value next
    pub rest : Values p (k - 1) t next
    pub list : values_from p k t at ≡ value ∷ values_from p (k - 1) t next
    pub ends : values_end p k t at ≡ values_end p (k - 1) t next

  pub reads_first : Takes p → (k at : ℕ) → 0 < k → Values p k t at → First k at
  reads_first tp k at h r =
      let v = counted-view p tp k t at _ _ h r.here r.read in
      let g = v.5 in
      record {
        value = v.0;
        next = v.2;
        one = v.4;
        rest = reads-are (k - 1) v.2 v.1 _ v.4.to g;
        list = v.3 ∙ ap (λ (ys : List A). v.0 ∷ ys) (sym (reads-list (k - 1) v.2 v.1 _ g));
        ends = sym (reads_end (k - 1) v.2 v.1 _ g);
      }

  -- none of them
  pub reads_none : (k at : ℕ) → k ≤ 0 → Values p k t at → (values_from p k t at ≡ []) × (values_end p k t at ≡ at)
  unfolding counted
  reads_none zero at h r = let e = give-view [] t at _ _ r.here r.read in (e.0, e.1)
  reads_none (suc k) at h r = absurd (omega arith)

-- ---- instructions

found-same : (o : Option Instruction) (op a b m : ℕ) (i : Instr) (q : ℕ) → o ≡ found_as op a b m → o ≡ found_as i.op i.a i.b q → (i ≡ instr op a b) × (q ≡ m)
found-same o op a b m i q e f =
    let r : ◌≡◌ {A = Instruction} (record { op = i.op; a = i.a; b = i.b; next = q }) (record { op = op; a = a; b = b; next = m }) = cc in
    let x : i.op ≡ op = ap (λ (j : Instruction). j.op) r in let y : i.a ≡ a = ap (λ (j : Instruction). j.a) r in
    let z : i.b ≡ b = ap (λ (j : Instruction). j.b) r in let w : q ≡ m = ap (λ (j : Instruction). j.next) r in
    (ap (λ (n : ℕ). instr n i.a i.b) x ∙ ap₂ (λ (n k : ℕ). instr op n k) y z, w)

-- the instruction that was found, and the rest
pub record Stepped (t : List ℕ) (n at op a b m : ℕ) : Type 0 where
  pub one : Got instruction t at (instr op a b) m
  pub rest : Values instruction (n - 1) t m
  pub list : code_from n t at ≡ instr op a b ∷ code_from (n - 1) t m
  pub ends : values_end instruction n t at ≡ values_end instruction (n - 1) t m
  pub further : at < m

module _ (t : List ℕ) (n at : ℕ) (h : 0 < n) (r : Values instruction n t at) where
  pub stepped : (op a b m : ℕ) → found_at t at ≡ found_as op a b m → Stepped t n at op a b m
  stepped op a b m e =
      let f = reads_first instruction t takes-instruction n at h r in
      let s = found-same (found_at t at) op a b m f.value f.next e (found-got t at f.value f.next f.one) in
      let g : Got instruction t at (instr op a b) m = subst (λ (i : Instr). Got instruction t at i m) s.0 (subst (λ (q : ℕ). Got instruction t at f.value q) s.1 f.one) in
      let v = instruction-view t at (instr op a b) m r.here g in
      let v₄ = v.4 in
      record {
        one = g;
        rest = subst (λ (q : ℕ). Values instruction (n - 1) t q) s.1 f.rest;
        list = f.list ∙ ap₂ (λ (i : Instr) (q : ℕ). i ∷ code_from (n - 1) t q) s.0 s.1;
        ends = f.ends ∙ ap (values_end instruction (n - 1) t) s.1;
        further = omega arith;
      }

  pub not-nothing : found_at t at ≡ None → ⊥
  not-nothing e =
      let f = reads_first instruction t takes-instruction n at h r in
      let g = found-got t at f.value f.next f.one in
      let z : ◌≡◌ {A = ℕ} 0 1 = cc in omega arith

-- they have a byte each
pub code-many : (t : List ℕ) (n at : ℕ) → Values instruction n t at → at + n ≤ values_end instruction n t at
code-many t zero at r = let e = (reads_none instruction t zero at (omega arith) r).1 in omega arith
code-many t (suc n) at r =
    let f = reads_first instruction t takes-instruction (suc n) at (omega arith) r in
    let z : suc n - 1 ≡ n = omega arith in
    let k = code-many t n f.next (subst (λ (j : ℕ). Values instruction j t f.next) z f.rest) in
    let e = f.ends ∙ ap (λ (j : ℕ). values_end instruction j t f.next) z in
    let v = (instruction-view t at f.value f.next r.here f.one).4 in
    omega arith

-- ---- functions

-- the first function, of n instructions
pub record Function-here (t : List ℕ) (k at n : ℕ) : Type 0 where
  pub function : Function
  pub head : at + 9 ≤ length t
  pub code : Values instruction n t (at + 9)
  pub code-is : code_from n t (at + 9) ≡ function.code
  pub count : n ≡ length function.code
  pub height : number_at 2 t (at + 5) ≡ function.height
  pub rest : Values function_record (k - 1) t (values_end instruction n t (at + 9))
  pub list : functions_from k t at ≡ function ∷ functions_from (k - 1) t (values_end instruction n t (at + 9))
  pub ends : values_end function_record k t at ≡ values_end function_record (k - 1) t (values_end instruction n t (at + 9))

pub function-head : (t : List ℕ) (k at : ℕ) → 0 < k → Values function_record k t at → at + 9 ≤ length t
function-head t k at h r =
    let f = reads_first function_record t takes-function k at h r in (function-view t at f.value f.next r.here f.one).0

pub function-here : (t : List ℕ) (k at n : ℕ) → 0 < k → Values function_record k t at → n ≡ number_at 2 t (at + 7) → Function-here t k at n
function-here t k at n h r e =
    let f = reads_first function_record t takes-function k at h r in
    let v = function-view t at f.value f.next r.here f.one in
    let g : Got (counted [] ◌∷◌ instruction n) t (at + 9) f.value.code f.next = subst (λ (j : ℕ). Got (counted [] ◌∷◌ instruction j) t (at + 9) f.value.code f.next) (sym e) v.2 in
    let q = reads_end instruction t n (at + 9) _ _ g in
    record {
      function = f.value;
      head = v.0;
      code = reads-are instruction t n (at + 9) _ _ v.0 g;
      code-is = reads-list instruction t n (at + 9) _ _ g;
      count = e ∙ v.1;
      height = v.3;
      rest = subst (λ (j : ℕ). Values function_record (k - 1) t j) (sym q) f.rest;
      list = f.list ∙ ap (λ (j : ℕ). f.value ∷ functions_from (k - 1) t j) (sym q);
      ends = f.ends ∙ ap (values_end function_record (k - 1) t) (sym q);
    }

-- the functions of a module
pub functions-read : (t : List ℕ) (at : ℕ) (fs : List Function) (m n : ℕ) → at ≤ length t → Got (list_of 2 function_record) t at fs m → n ≡ number_at 2 t at →
    (at + 2 ≤ length t) × Values function_record n t (at + 2) × (functions_from n t (at + 2) ≡ fs) × (n ≡ length fs)
functions-read t at fs m n h g e =
    let v = list-view function_record takes-function t at fs m h g in
    let k : Got (counted [] ◌∷◌ function_record n) t (at + 2) fs m = subst (λ (j : ℕ). Got (counted [] ◌∷◌ function_record j) t (at + 2) fs m) (sym (e ∙ v.1)) v.2 in
    (v.0, reads-are function_record t n (at + 2) fs m v.0 k, reads-list function_record t n (at + 2) fs m k, e ∙ v.1)
