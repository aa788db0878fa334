-- The instruction at a place of a function's code: what it pops and leaves, as the code counts. Assumes nothing.
use Prim.Native.Nat.{ℕ, suc, ◌+◌, ◌-◌, ◌*◌, ◌%◌, ◌^◌, ◌<◌, ◌≤◌}
use mathlib.Core.Path.{◌≡◌, refl, sym, ap, ap₂, ◌∙◌, subst}
use mathlib.Core.Bool.{Bool, true, false, ◌||◌}
use mathlib.Core.List.{List}
use native.Mathlib.Omega.{arith}
use native.Mathlib.Nat.{pow-le-pow_right, mod-eq_of_lt}
use lib.Dec.{eqb, leb, lit<}
use lib.ListN.{length, get_or}
use borrow.Author.Tests.{eqb-true, leb-true}
use Rattle.definitions.specs.Bytes.{all}
use Rattle.definitions.specs.Instruction.{Instr, instr, Row, no_row, instruction_table, row_of, first_width, second_width, Return}
use Rattle.definitions.specs.Stack.{pops, pushes, height_after}
use Rattle.definitions.specs.Heights.{mark_after}
use Rattle.definitions.specs.Open.{all_instruction}
use Rattle.definitions.proofs.Every.{all_get_d}
use Rattle.definitions.proofs.Listing.{second_below}
use Rattle.reader.specs.View.{found_at, instructions_of, start_of}
use Rattle.std.specs.Prelude.{Some, None}
use Rattle.reader.specs.declared.Instruction.{Instruction}
use Rattle.reader.proofs.Encoding.{Small}
use Rattle.reader.proofs.FunctionLaws.{op-small}
use Rattle.reader.proofs.InstructionLaws.{found_as, found-got}
use Rattle.run.proofs.Coding.{start-in, reads_here}
use Rattle.tally.proofs.Parts.{operands-fit}
use Rattle.heights.specs.Holding.{Standing}

-- ---- operands that count

-- a first operand that counts has at most two bytes
counting : (op : ℕ) → (eqb (row_of op).pops.per_first 0 || leb (first_width op) 2) ≡ true
unfolding all_instruction all
counting op = all_get_d (λ (r : Row). eqb r.pops.per_first 0 || leb r.first 2) instruction_table refl op no_row refl

first-counts : (op a : ℕ) → a < 256 ^ first_width op → (row_of op).pops.per_first * (a % 65536) ≡ (row_of op).pops.per_first * a
first-counts op a h = go (eqb (row_of op).pops.per_first 0) refl (counting op)
  where
    go : (b : Bool) → eqb (row_of op).pops.per_first 0 ≡ b → (b || leb (first_width op) 2) ≡ true → (row_of op).pops.per_first * (a % 65536) ≡ (row_of op).pops.per_first * a
    go true e f =
        let z = eqb-true (row_of op).pops.per_first 0 e in
        let x : 0 * (a % 65536) ≡ 0 * a = omega arith in
        ap (λ (k : ℕ). k * (a % 65536)) z ∙ x ∙ sym (ap (λ (k : ℕ). k * a) z)
    go false e f =
        let w = leb-true (first_width op) 2 f in
        let p : 256 ^ first_width op ≤ 256 ^ 2 = pow-le-pow_right (lit< tt) w in
        let l : a < 65536 = omega arith in
        ap (λ (k : ℕ). (row_of op).pops.per_first * k) (mod-eq_of_lt l)

module _ (op a b : ℕ) (ha : a < 256 ^ first_width op) (hb : b < 256 ^ second_width op) where
  pops-whole : pops (instr op (a % 65536) (b % 65536)) ≡ pops (instr op a b)
  unfolding pops
  pops-whole = ap₂ (λ (x y : ℕ). (row_of op).pops.own + x + (row_of op).pops.per_second * y) (first-counts op a ha) (mod-eq_of_lt (let h = second_below op b hb in let l : b < 65536 = omega arith in l))

  after-whole : (h : ℕ) → height_after (instr op (a % 65536) (b % 65536)) h ≡ height_after (instr op a b) h
  unfolding height_after pushes
  after-whole h = ap (λ (k : ℕ). h - k + (row_of op).pushes) pops-whole

-- ---- at a place

abbrev pub here : List ℕ → ℕ → Instr
here c p = get_or (instructions_of c) p Return

-- what the code found at place p
pub record Met (c : List ℕ) (p op a b : ℕ) : Type 0 where
  pub is : instr op a b ≡ here c p
  pub few : op < 46
  pub first : a < 256 ^ first_width op
  pub second : b < 256 ^ second_width op

module _ {c places : List ℕ} {p : ℕ} (S : Standing c places p) where
  pub in-places : p < length places
  in-places = let a = S.inside in let b = S.starts.long in omega arith

  pub few-places : p < 65536
  few-places = let a = S.inside in let b = S.coded.few in omega arith

  module _ {at : ℕ} (e : at ≡ get_or places p 0) where
    begins : at ≡ start_of (instructions_of c) p
    begins = e ∙ S.starts.at p S.inside

    reads : found_at c at ≡ found_as (here c p).op (here c p).a (here c p).b (start_of (instructions_of c) (p + 1))
    reads = ap (found_at c) begins ∙ found-got c (start_of (instructions_of c) p) (here c p) _ (reads_here c S.coded p S.inside)

    pub not-nothing : found_at c at ≡ None → ⊥
    not-nothing f = let k = sym f ∙ reads in let z : ◌≡◌ {A = ℕ} 0 1 = cc in omega arith

    pub met : Small c → {o : Instruction} → found_at c at ≡ Some o → Met c p o.op o.a o.b
    met small {o} f =
        let op = o.op in let a = o.a in let b = o.b in let m = o.next in
        let k : ◌≡◌ {A = Instruction} o (record { op = (here c p).op; a = (here c p).a; b = (here c p).b; next = start_of (instructions_of c) (p + 1) }) = (let w = sym f ∙ reads in cc) in
        let x : op ≡ (here c p).op = ap (λ (i : Instruction). i.op) k in let y : a ≡ (here c p).a = ap (λ (i : Instruction). i.a) k in let z : b ≡ (here c p).b = ap (λ (i : Instruction). i.b) k in
        let same : instr op a b ≡ here c p = λ i. record { op = x i; a = y i; b = z i } in
        let inside : at ≤ length c = subst (λ (n : ℕ). n ≤ length c) (sym begins) (start-in c S.coded p) in
        let fits = operands-fit c small (start_of (instructions_of c) p) (here c p) _ (start-in c S.coded p) (reads_here c S.coded p S.inside) in
        record {
          is = same;
          few = op-small c at op a b m inside f;
          first = subst (λ (i : Instr). i.a < 256 ^ first_width i.op) (sym same) fits.0;
          second = subst (λ (i : Instr). i.b < 256 ^ second_width i.op) (sym same) fits.1;
        }

module _ {c : List ℕ} {p op a b : ℕ} (M : Met c p op a b) where
  pub popped-here : {n : ℕ} → n ≡ pops (instr op (a % 65536) (b % 65536)) → n ≡ pops (here c p)
  popped-here e = e ∙ pops-whole op a b M.first M.second ∙ ap pops M.is

  pub left_here : (h : ℕ) {n : ℕ} → n ≡ height_after (instr op (a % 65536) (b % 65536)) h → n ≡ height_after (here c p) h
  left_here h e = e ∙ after-whole op a b M.first M.second h ∙ ap (λ (i : Instr). height_after i h) M.is

  pub marked-here : (m : ℕ) {n : ℕ} → n ≡ height_after (instr op (a % 65536) (b % 65536)) (m - 1) → 1 + n ≡ mark_after (instructions_of c) m p
  unfolding mark_after
  marked-here m e = ap (λ (k : ℕ). 1 + k) (left_here (m - 1) e) ∙ (let z : 1 + height_after (here c p) (m - 1) ≡ suc (height_after (here c p) (m - 1)) = omega arith in z)
