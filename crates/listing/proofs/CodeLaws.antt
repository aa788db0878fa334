-- The lines of code and of functions, written one after the other.
use mathlib.Core.Path.{◌≡◌, sym, ap, ap₂, ◌∙◌, subst}
use mathlib.Core.List.{List, [], ◌∷◌, ◌++◌, append_assoc}
use Prim.Native.Nat.{ℕ, suc, ◌+◌, ◌-◌, ◌≤◌, ◌<◌}
use native.Mathlib.Omega.{arith}
use lib.ListN.{length, drop}
use Rattle.definitions.specs.Instruction.{Instr, encode}
use Rattle.definitions.specs.Module.{instructions}
use Rattle.definitions.specs.Reader.{instruction, function_record}
use Rattle.definitions.specs.Listing.{heading, code_line, code_lines, function_lines}
use Rattle.std.specs.Prelude.{Some, None, Ok}
use Rattle.reader.specs.View.{Walks, instruction_shown, number_at, instructions_of, part_at}
use Rattle.reader.specs.declared.Placed.{Placed}
use Rattle.reader.specs.declared.iteration.Instructions.{Instructions}
use Rattle.reader.proofs.Encoding.{Small}
use Rattle.reader.proofs.Iterated.{walked, walked-out}
use Rattle.writing.specs.Wrote.{Wrote}
use Rattle.writing.proofs.Begun.{over, from, Begun, begun-start, begun-split, begun-rest, begun-next}
use Rattle.tally.specs.Walk.{Values, values_end, code_from, functions_from}
use Rattle.tally.proofs.Walking.{reads_none, Function-here, function-head, function-here}
use Rattle.listing.specs.Lines.{Operands, Lined}
use Rattle.listing.specs.declared.Next.{Next}
use Rattle.tally.proofs.Parts.{part_from, part-code, code-count}
use Rattle.listing.proofs.PartLaws.{walked-operands}

-- ---- the lines of a function's code

-- the lines so far, and the code that is left
pub record Lining (t : List ℕ) (f k : ℕ) (xs out : List ℕ) (s : Instructions) (put : ℕ) : Type 0 where
  pub code : s.code.now ≡ t
  pub inside : s.at ≤ length t
  pub count : length (instructions_of t) ≡ s.place + length (instructions_of (drop s.at t))
  pub begun : Begun (code_lines f 0 k (instructions_of t)) xs put out (code_lines f s.place (k + s.place) (instructions_of (drop s.at t)) ∷ [])

pub lining-start : (t : List ℕ) (f k : ℕ) (xs : List ℕ) (s : Instructions) → s.code.now ≡ t → s.place ≡ 0 → s.at ≡ 0 → length (code_lines f 0 k (instructions_of t)) ≤ length xs → Lining t f k xs xs s 0
lining-start t f k xs s c p a h = record {
  code = c;
  inside = omega arith;
  count = let e = ap (λ (j : ℕ). length (instructions_of (drop j t))) a in omega arith;
  begun = subst (λ (is : List ℕ). Begun (code_lines f 0 k (instructions_of t)) xs 0 xs (is ∷ []))
      (ap₂ (λ (i j : ℕ). code_lines f i j (instructions_of t)) (sym p) (let y : k ≡ k + s.place = omega arith in y) ∙ ap (λ (j : ℕ). code_lines f s.place (k + s.place) (instructions_of (drop j t))) (sym a))
      (begun-start (code_lines f 0 k (instructions_of t)) xs h);
}

module _ {t : List ℕ} {f k : ℕ} {xs out : List ℕ} {s : Instructions} {put : ℕ} (l : Lining t f k xs out s put) where
  module _ {p : Placed} (u : Instructions) (e : Walks s (Some p) u) where
    more : (instructions_of (drop s.at t) ≡ instruction_shown p ∷ instructions_of (drop u.at t)) × (u.place ≡ s.place + 1) × (u.at ≤ length t) × (u.at ≡ s.at + length (encode (instruction_shown p))) × (u.code.now ≡ t)
    more = walked t s u p l.code e

    pub lining-operands : Small t → Operands p
    lining-operands small = walked-operands t small s u p l.code l.inside e

    -- the place is one of the code's
    pub lining-in : p.place < length (instructions_of t)
    lining-in = let h = l.count in let m = ap length more.0 in let i = e.1.0 in omega arith

    -- the line in hand is next
    pub lining-piece : Begun (code_lines f 0 k (instructions_of t)) xs put out
        ((heading (k + p.place) ++ code_line f p.place (instruction_shown p)) ∷ code_lines f (suc s.place) (suc (k + s.place)) (instructions_of (drop u.at t)) ∷ [])
    unfolding code_lines
    lining-piece =
        begun-split (heading (k + p.place) ++ code_line f p.place (instruction_shown p)) (code_lines f (suc s.place) (suc (k + s.place)) (instructions_of (drop u.at t)))
        (ap (code_lines f s.place (k + s.place)) more.0
        ∙ ap (λ (j : ℕ). heading (k + j) ++ (code_line f j (instruction_shown p) ++ code_lines f (suc s.place) (suc (k + s.place)) (instructions_of (drop u.at t)))) (sym e.1.0)
        ∙ sym (append_assoc (heading (k + p.place)) (code_line f p.place (instruction_shown p)) (code_lines f (suc s.place) (suc (k + s.place)) (instructions_of (drop u.at t)))))
        l.begun

    pub lining-more : {r : ℕ} {zs : List ℕ} → Wrote r (heading (k + p.place) ++ code_line f p.place (instruction_shown p)) (from put out) zs → Lining t f k xs (over put out zs) u (put + r)
    lining-more {r} {zs} w =
        let q = more.1 in let h = l.count in let m = ap length more.0 in
        record {
          code = more.4;
          inside = more.2;
          count = omega arith;
          begun = subst (λ (y : List ℕ). Begun (code_lines f 0 k (instructions_of t)) xs (put + r) (over put out zs) (y ∷ []))
              (ap₂ (λ (i j : ℕ). code_lines f i j (instructions_of (drop u.at t))) (let y : suc s.place ≡ u.place = omega arith in y) (let y : suc (k + s.place) ≡ k + u.place = omega arith in y))
              (begun-next lining-piece w);
        }

  pub lining-done : (u : Instructions) → Walks s None u → Wrote put (code_lines f 0 k (instructions_of t)) xs out
  unfolding code_lines
  lining-done u e = begun-rest l.begun (ap (code_lines f s.place (k + s.place)) (walked-out t s u l.code e))

-- ---- a function's code, as a part of the module

module _ {t : List ℕ} {n at end : ℕ} {part : List ℕ} (v : Values instruction n t at) (e : end ≡ values_end instruction n t at) (p : part ≡ part_at (Ok (part_from at end n)) t) where
  code_of : instructions_of part ≡ code_from n t at
  code_of = ap instructions_of p ∙ part-code v e

  pub code_fits : (f k room : ℕ) → n < 65536 → f < 65536 → k + n < 1000000 → length (code_lines f 0 k (code_from n t at)) ≤ room
      → (length (instructions_of part) < 65536) × (f < 65536) × (k + length (instructions_of part) < 1000000) × (length (code_lines f 0 k (instructions_of part)) ≤ room)
  code_fits f k room a b c d = let l = ap length code_of ∙ code-count v in let m = ap (λ (is : List Instr). length (code_lines f 0 k is)) code_of in (omega arith, b, omega arith, omega arith)

  -- its lines are those of the part
  pub code-lined : {f k put : ℕ} {xs out : List ℕ} → Wrote put (code_lines f 0 k (instructions_of part)) xs out → Lined (record { at = end; put = put }) n t at f k xs out
  code-lined {f} {k} {put} {xs} {out} w = record { ends = e; wrote = subst (λ (is : List Instr). Wrote put (code_lines f 0 k is) xs out) code_of w }

-- ---- the lines of functions

pub record Listing (t : List ℕ) (at count : ℕ) (xs out : List ℕ) (p put f k : ℕ) : Type 0 where
  pub inside : f ≤ count
  pub rest : Values function_record (count - f) t p
  pub lines : instructions (functions_from count t at) ≡ k + instructions (functions_from (count - f) t p)
  pub begun : Begun (function_lines 0 0 (functions_from count t at)) xs put out (function_lines f k (functions_from (count - f) t p) ∷ [])

module _ (t : List ℕ) (at count : ℕ) (xs : List ℕ) where
  pub listing_start : Values function_record count t at → length (function_lines 0 0 (functions_from count t at)) ≤ length xs → Listing t at count xs xs at 0 0 0
  listing_start r h =
      let z : count ≡ count - 0 = omega arith in
      let e = ap (λ (j : ℕ). instructions (functions_from j t at)) z in
      record {
        inside = omega arith;
        rest = subst (λ (j : ℕ). Values function_record j t at) z r;
        lines = omega arith;
        begun = subst (λ (l : List ℕ). Begun (function_lines 0 0 (functions_from count t at)) xs 0 xs (l ∷ [])) (ap (λ (j : ℕ). function_lines 0 0 (functions_from j t at)) z)
            (begun-start (function_lines 0 0 (functions_from count t at)) xs h);
      }

  module _ (out : List ℕ) (p put f k n : ℕ) (l : Listing t at count xs out p put f k) (h : f < count) (g : Function-here t (count - f) p n) where
    pub listing-here : Begun (function_lines 0 0 (functions_from count t at)) xs put out
        (code_lines f 0 k (code_from n t (p + 9)) ∷ function_lines (suc f) (k + n) (functions_from (count - f - 1) t (values_end instruction n t (p + 9))) ∷ [])
    unfolding function_lines
    listing-here =
        begun-split (code_lines f 0 k (code_from n t (p + 9))) (function_lines (suc f) (k + n) (functions_from (count - f - 1) t (values_end instruction n t (p + 9))))
        (ap (function_lines f k) g.list
        ∙ ap₂ (λ (is : List Instr) (j : ℕ). code_lines f 0 k is ++ function_lines (suc f) (k + j) (functions_from (count - f - 1) t (values_end instruction n t (p + 9)))) (sym g.code-is) (sym g.count))
        l.begun

    pub listing-lines : k + n ≤ instructions (functions_from count t at)
    unfolding instructions
    listing-lines = let a = l.lines in let b = ap instructions g.list in let c = g.count in omega arith

    pub listing-next : (r : Next) (zs : List ℕ) → Lined r n t (p + 9) f k (from put out) zs →
        Listing t at count xs (over put out zs) r.at (put + r.put) (f + 1) (k + n)
    unfolding instructions
    listing-next r zs w =
        let z : count - f - 1 ≡ count - (f + 1) = omega arith in
        let q = values_end instruction n t (p + 9) in
        let a = l.lines in let b = ap instructions g.list in let c = g.count in
        let d = ap (λ (j : ℕ). instructions (functions_from j t q)) z in
        subst (λ (j : ℕ). Listing t at count xs (over put out zs) j (put + r.put) (f + 1) (k + n)) (sym w.ends)
        (record {
          inside = omega arith;
          rest = subst (λ (j : ℕ). Values function_record j t q) z g.rest;
          lines = omega arith;
          begun = subst (λ (y : List ℕ). Begun (function_lines 0 0 (functions_from count t at)) xs (put + r.put) (over put out zs) (y ∷ []))
              (ap₂ (λ (i j : ℕ). function_lines i (k + n) (functions_from j t q)) (let y : suc f ≡ f + 1 = omega arith in y) z)
              (begun-next listing-here w.wrote);
        })

  pub listing-done : (out : List ℕ) (p put f k : ℕ) → count ≤ f → Listing t at count xs out p put f k → Wrote put (function_lines 0 0 (functions_from count t at)) xs out
  unfolding function_lines
  listing-done out p put f k h l = begun-rest l.begun (ap (function_lines f k) (reads_none function_record t (count - f) p (omega arith) l.rest).0)

-- ---- what the code's needs ask for

module _ {t : List ℕ} {at count : ℕ} {xs out : List ℕ} {p put f k : ℕ} (l : Listing t at count xs out p put f k) (h : f < count) where
  pub listing-head : p + 9 ≤ length t
  listing-head = function-head t (count - f) p (omega arith) l.rest

  module _ {n : ℕ} (e : n ≡ number_at 2 t (p + 7)) where
    pub listing-function : Function-here t (count - f) p n
    listing-function = function-here t (count - f) p n (omega arith) l.rest e

    pub listing-piece : Begun (function_lines 0 0 (functions_from count t at)) xs put out
        (code_lines f 0 k (code_from n t (p + 9)) ∷ function_lines (suc f) (k + n) (functions_from (count - f - 1) t (values_end instruction n t (p + 9))) ∷ [])
    listing-piece = listing-here t at count xs out p put f k n l h listing-function

    pub listing-few : k + n ≤ instructions (functions_from count t at)
    listing-few = listing-lines t at count xs out p put f k n l h listing-function

    pub listing_step : {r : Next} {zs : List ℕ} → Lined r n t (p + 9) f k (from put out) zs →
        Listing t at count xs (over put out zs) r.at (put + r.put) (f + 1) (k + n)
    listing_step {r} {zs} w = listing-next t at count xs out p put f k n l h listing-function r zs w
