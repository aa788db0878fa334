-- A function's instructions in order: what one call of the iteration says of what is left. Assumes nothing.
use Prim.Native.Nat.{ℕ, zero, suc, ◌+◌, ◌-◌, ◌<◌, ◌≤◌}
use mathlib.Core.Path.{◌≡◌, refl, sym, ap, ◌∙◌, subst}
use mathlib.Core.List.{List, [], ◌∷◌}
use native.Mathlib.Omega.{arith}
use lib.ListN.{length, take, drop, get_or, length-append, length-drop, drop_of_length-le}
use lib.Seq.{drop-drop, take_all}
use Rattle.definitions.specs.Bytes.{Parsed, got, failed, Parser, ◌>>=◌, give, counted, concat}
use Rattle.definitions.specs.Instruction.{Instr, instr, Return, encode, encodes}
use Rattle.definitions.specs.Reader.{instruction}
use Rattle.definitions.proofs.Lengths.{length-encode, spans-instruction}
use denote.Ref.{Bor}
use Rattle.reader.specs.declared.Placed.{Placed}
use Rattle.reader.specs.declared.iteration.Instructions.{Instructions}
use Rattle.reader.specs.View.{Walks, instruction_shown, instruction_parsed, found_at, leading_instructions, instructions_of, start_of}
use Rattle.std.specs.Prelude.{Some, None}
use Rattle.reader.specs.declared.Instruction.{Instruction}
use Rattle.reader.proofs.InstructionLaws.{found_as, found-is}
use Rattle.reader.proofs.Encoding.{Small, encodes-read}
use Rattle.definitions.proofs.Begins.{Rest, takes-instruction}

-- ---- the call

-- an instruction begins before the end
pub found_before : (t : List ℕ) (at op a b m : ℕ) → found_at t at ≡ found_as op a b m → at < length t
unfolding found_at instruction_parsed
found_before t at op a b m e = go (instruction (drop at t)) refl e
  where
    go : (r : Parsed Instr) → instruction (drop at t) ≡ r → instruction_parsed (length t) r ≡ found_as op a b m → at < length t
    go (got i rest) k e = let l = spans-instruction.at (drop at t) i rest k in let x = length-encode i in let y = length-drop at t in omega arith
    go (failed q) k e = let z : ◌≡◌ {A = ℕ} 0 1 = cc in absurd (omega arith)

-- ---- what is left

shorter : (bs : List ℕ) (i : Instr) (rest : List ℕ) → instruction bs ≡ got i rest → length rest < length bs
shorter bs i rest e = let k = spans-instruction.at bs i rest e in let l = length-encode i in omega arith

-- more would not be read
enough : (k m : ℕ) (bs : List ℕ) → length bs ≤ k → length bs ≤ m → leading_instructions k bs ≡ leading_instructions m bs
unfolding leading_instructions
enough zero zero bs h l = refl
enough zero (suc m) bs h l = go (instruction bs) refl
  where
    go : (r : Parsed Instr) → instruction bs ≡ r → ◌≡◌ {A = List Instr} [] (elim r as (λ x. List Instr) [ got i rest ↦ i ∷ leading_instructions m rest | failed q ↦ [] ])
    go (got i rest) e = let z = shorter bs i rest e in absurd (omega arith)
    go (failed q) e = refl
enough (suc k) zero bs h l = go (instruction bs) refl
  where
    go : (r : Parsed Instr) → instruction bs ≡ r → ◌≡◌ {A = List Instr} (elim r as (λ x. List Instr) [ got i rest ↦ i ∷ leading_instructions k rest | failed q ↦ [] ]) []
    go (got i rest) e = let z = shorter bs i rest e in absurd (omega arith)
    go (failed q) e = refl
enough (suc k) (suc m) bs h l = go (instruction bs) refl (λ rest a b. enough k m rest a b)
  where
    go : (r : Parsed Instr) → instruction bs ≡ r → ((rest : List ℕ) → length rest ≤ k → length rest ≤ m → leading_instructions k rest ≡ leading_instructions m rest)
        → ◌≡◌ {A = List Instr} (elim r as (λ x. List Instr) [ got i rest ↦ i ∷ leading_instructions k rest | failed q ↦ [] ]) (elim r as (λ x. List Instr) [ got i rest ↦ i ∷ leading_instructions m rest | failed q ↦ [] ])
    go (got i rest) e f = let z = shorter bs i rest e in ap (λ (is : List Instr). i ∷ is) (f rest (omega arith) (omega arith))
    go (failed q) e f = refl

pub instructions-next : (bs : List ℕ) (i : Instr) (rest : List ℕ) → instruction bs ≡ got i rest → instructions_of bs ≡ i ∷ instructions_of rest
unfolding instructions_of leading_instructions
instructions-next bs i rest e =
    enough (length bs) (suc (length bs)) bs (omega arith) (omega arith) ∙ ap the e
    ∙ ap (λ (is : List Instr). i ∷ is) (enough (length bs) (length rest) rest (let z = shorter bs i rest e in omega arith) (omega arith))
  where
    the : Parsed Instr → List Instr
    the r = elim r [ got i rest ↦ i ∷ leading_instructions (length bs) rest | failed q ↦ [] ]

pub instructions-end : (bs : List ℕ) (q : ℕ) → instruction bs ≡ failed q → instructions_of bs ≡ []
unfolding instructions_of leading_instructions
instructions-end bs q e = enough (length bs) (suc (length bs)) bs (omega arith) (omega arith) ∙ ap the e
  where
    the : Parsed Instr → List Instr
    the r = elim r [ got i rest ↦ i ∷ leading_instructions (length bs) rest | failed q ↦ [] ]

instructions-none : instructions_of [] ≡ []
unfolding instructions_of leading_instructions
instructions-none = refl

-- the iteration: an instruction and what is left after it, or nothing left
pub walk-at : (t : List ℕ) (at : ℕ) (i : Instruction) → found_at t at ≡ Some i →
    (instructions_of (drop at t) ≡ instr i.op i.a i.b ∷ instructions_of (drop i.next t)) × (i.next ≤ length t) × (i.next ≡ at + length (encode (instr i.op i.a i.b)))
walk-at t at i e =
    let h = found_before t at i.op i.a i.b i.next e in
    let g = found-is t at i.op i.a i.b i.next (omega arith) e in
    let s = spans-instruction.at (drop at t) (instr i.op i.a i.b) (drop i.next t) g.is in
    let x = length-drop at t in let y = length-drop i.next t in let m = g.to in
    (instructions-next (drop at t) (instr i.op i.a i.b) (drop i.next t) g.is, m, omega arith)

-- the next one begins after it
pub walk-on : (t : List ℕ) (at : ℕ) (i : Instruction) → found_at t at ≡ Some i → (at < length t) × (at < i.next)
walk-on t at i e =
    let h = found_before t at i.op i.a i.b i.next e in
    let w = walk-at t at i e in let l = length-encode (instr i.op i.a i.b) in let x = w.2 in (h, omega arith)

pub walk-end : (t : List ℕ) (at : ℕ) → found_at t at ≡ None → instructions_of (drop at t) ≡ []
unfolding found_at instruction_parsed
walk-end t at e = go (instruction (drop at t)) refl e
  where
    go : (r : Parsed Instr) → instruction (drop at t) ≡ r → instruction_parsed (length t) r ≡ None → instructions_of (drop at t) ≡ []
    go (got i rest) k e = let z : ◌≡◌ {A = ℕ} 0 1 = cc in absurd (omega arith)
    go (failed q) k e = instructions-end (drop at t) q k

-- a call of the iteration over the code c: an instruction and what is left after it, or nothing left
pub walked : (c : List ℕ) (s t : Instructions) (p : Placed) → s.code.now ≡ c → Walks s (Some p) t →
    (instructions_of (drop s.at c) ≡ instruction_shown p ∷ instructions_of (drop t.at c)) × (t.place ≡ s.place + 1) × (t.at ≤ length c) × (t.at ≡ s.at + length (encode (instruction_shown p))) × (t.code.now ≡ c)
walked c s t p k w =
    let f : found_at c s.at ≡ Some p.instruction = ap (λ (x : List ℕ). found_at x s.at) (sym k) ∙ w.1.2 in
    let m = walk-at c s.at p.instruction f in
    let n = w.1.5 in let l = m.1 in let q = m.2 in
    (m.0 ∙ ap (λ (j : ℕ). instruction_shown p ∷ instructions_of (drop j c)) (sym n), w.1.4, omega arith, n ∙ q, ap (λ (x : Bor (List ℕ)). x.now) w.1.3 ∙ k)

pub walked-out : (c : List ℕ) (s t : Instructions) → s.code.now ≡ c → Walks s None t → instructions_of (drop s.at c) ≡ []
walked-out c s t k w = ap (λ (x : List ℕ). instructions_of (drop s.at x)) (sym k) ∙ w.0.0

-- its operands are what was read
pub walked-found : (c : List ℕ) (s t : Instructions) (p : Placed) → s.code.now ≡ c → Walks s (Some p) t → found_at c s.at ≡ Some p.instruction
walked-found c s t p k w = ap (λ (x : List ℕ). found_at x s.at) (sym k) ∙ w.1.2

-- ---- code that was read

-- the first of a counted list
split : {A : Type 0} (p : Parser A) (n : ℕ) (bs : List ℕ) (xs : List A) (rest : List ℕ) → counted [] ◌∷◌ p (suc n) bs ≡ got xs rest →
    (x : A) × (ys : List A) × (mid : List ℕ) × (p bs ≡ got x mid) × (counted [] ◌∷◌ p n mid ≡ got ys rest) × (xs ≡ x ∷ ys)
unfolding counted ◌>>=◌ give
split {A} p n bs xs rest e = go (p bs) refl e
  where
    more : (x : A) (mid : List ℕ) → p bs ≡ got x mid → (r : Parsed (List A)) → counted [] ◌∷◌ p n mid ≡ r → (elim r as (λ z. Parsed (List A)) [ got ys s ↦ got (x ∷ ys) s | failed q ↦ failed q ]) ≡ got xs rest →
        (x : A) × (ys : List A) × (mid : List ℕ) × (p bs ≡ got x mid) × (counted [] ◌∷◌ p n mid ≡ got ys rest) × (xs ≡ x ∷ ys)
    more x mid i (got ys s) j e = let a : s ≡ rest = cc in let b : xs ≡ x ∷ ys = cc in (x, ys, mid, i, j ∙ ap (λ (z : List ℕ). got ys z) a, b)
    more x mid i (failed q) j e = let z : ◌≡◌ {A = ℕ} 0 1 = cc in absurd (omega arith)

    go : (r : Parsed A) → p bs ≡ r → (elim r as (λ z. Parsed (List A)) [ got x mid ↦ (counted [] ◌∷◌ p n >>= λ ys. give (x ∷ ys)) mid | failed q ↦ failed q ]) ≡ got xs rest →
        (x : A) × (ys : List A) × (mid : List ℕ) × (p bs ≡ got x mid) × (counted [] ◌∷◌ p n mid ≡ got ys rest) × (xs ≡ x ∷ ys)
    go (got x mid) i e = more x mid i (counted [] ◌∷◌ p n mid) refl e
    go (failed q) i e = let z : ◌≡◌ {A = ℕ} 0 1 = cc in absurd (omega arith)

none_left : {A : Type 0} (p : Parser A) (bs : List ℕ) (xs : List A) → counted [] ◌∷◌ p 0 bs ≡ got xs [] → (bs ≡ []) × (xs ≡ [])
unfolding counted give
none_left p bs xs e = ((let z : bs ≡ [] = cc in z), (let z : xs ≡ [] = cc in z))

-- the instructions are those that were read
pub code-is : (n : ℕ) (bs : List ℕ) (is : List Instr) → counted [] ◌∷◌ instruction n bs ≡ got is [] → instructions_of bs ≡ is
code-is zero bs is e = let k = none_left instruction bs is e in ap instructions_of k.0 ∙ instructions-none ∙ sym k.1
code-is (suc n) bs is e =
    let k = split instruction n bs is [] e in
    instructions-next bs k.0 k.2 k.3 ∙ ap (λ (js : List Instr). k.0 ∷ js) (code-is n k.2 k.1 k.4) ∙ sym k.5

rest-is : (bs : List ℕ) (i : Instr) (rest : List ℕ) → instruction bs ≡ got i rest → rest ≡ drop (length (encode i)) bs
rest-is bs i rest e =
    let w = subst (λ (r : Parsed Instr). Rest instruction bs r) e (takes-instruction.rest bs) in
    let k = spans-instruction.at bs i rest e in let l = ap length w.2 in let m = length-drop w.0 bs in let h = w.1 in
    let j : w.0 ≡ length (encode i) = omega arith in
    w.2 ∙ ap (λ (x : ℕ). drop x bs) j

start-zero : (is : List Instr) → start_of is 0 ≡ 0
unfolding start_of encodes concat
start-zero is = refl

start-next : (i : Instr) (is : List Instr) (k : ℕ) → start_of (i ∷ is) (suc k) ≡ length (encode i) + start_of is k
unfolding start_of encodes concat
start-next i is k = length-append (encode i) (concat encode (take k is))

-- each instruction reads where it begins
pub reads-code : (n : ℕ) (bs : List ℕ) (is : List Instr) → counted [] ◌∷◌ instruction n bs ≡ got is [] → (k : ℕ) → k < length is →
    instruction (drop (start_of is k) bs) ≡ got (get_or is k Return) (drop (start_of is (k + 1)) bs)
reads-code zero bs is e k h = let z = ap length (none_left instruction bs is e).1 in absurd (omega arith)
reads-code (suc n) bs is e k h =
    let s = split instruction n bs is [] e in
    subst (λ (js : List Instr). k < length js → instruction (drop (start_of js k) bs) ≡ got (get_or js k Return) (drop (start_of js (k + 1)) bs)) (sym s.5)
    (go s.0 s.1 s.2 s.3 (λ k l. reads-code n s.2 s.1 s.4 k l) k) h
  where
    go : (i : Instr) (js : List Instr) (mid : List ℕ) → instruction bs ≡ got i mid
        → ((k : ℕ) → k < length js → instruction (drop (start_of js k) mid) ≡ got (get_or js k Return) (drop (start_of js (k + 1)) mid)) → (k : ℕ) → k < length (i ∷ js) →
        instruction (drop (start_of (i ∷ js) k) bs) ≡ got (get_or (i ∷ js) k Return) (drop (start_of (i ∷ js) (k + 1)) bs)
    go i js mid p q zero h =
        ap (λ (x : ℕ). instruction (drop x bs)) (start-zero (i ∷ js)) ∙ p
        ∙ ap (λ (x : List ℕ). got i x) (rest-is bs i mid p ∙ ap (λ (x : ℕ). drop x bs) (let a = start-next i js 0 in let b = start-zero js in let z : length (encode i) ≡ start_of (i ∷ js) 1 = omega arith in z))
    go i js mid p q (suc k) h =
        let r = rest-is bs i mid p in
        let d : (x y : ℕ) → x ≡ length (encode i) + y → drop x bs ≡ drop y mid = λ x y f. ap (λ (u : ℕ). drop u bs) f ∙ sym (drop-drop y (length (encode i)) bs) ∙ ap (drop y) (sym r) in
        ap instruction (d (start_of (i ∷ js) (suc k)) (start_of js k) (start-next i js k))
        ∙ q k (omega arith)
        ∙ ap (λ (x : List ℕ). got (get_or js k Return) x)
        (sym (d (start_of (i ∷ js) (suc k + 1)) (start_of js (k + 1)) (ap (start_of (i ∷ js)) (let z : suc k + 1 ≡ suc (k + 1) = omega arith in z) ∙ start-next i js (k + 1))))

-- and is as it is written
pub bytes-are : (n : ℕ) (bs : List ℕ) (is : List Instr) → Small bs → counted [] ◌∷◌ instruction n bs ≡ got is [] → bs ≡ encodes is
bytes-are n bs is small e =
    sym (encodes-read bs small n 0 is (length bs) (omega arith) (record { is = e ∙ ap (λ (x : List ℕ). got is x) (sym (drop_of_length-le bs (let z : length bs ≤ length bs = omega arith in z))); from = omega arith; to = omega arith })
    ∙ ap (λ (k : ℕ). take k bs) (let z : length bs - 0 ≡ length bs = omega arith in z) ∙ take_all (length bs) bs (omega arith))
