-- The sheet, written line by line.
use mathlib.Core.Path.{◌≡◌, sym, ap, ap₂, ◌∙◌, subst}
use mathlib.Core.Bool.{Bool}
use mathlib.Core.List.{List, [], ◌∷◌, ◌++◌, append_assoc}
use Prim.Native.Nat.{ℕ, suc, ◌+◌, ◌-◌, ◌≤◌, ◌<◌}
use native.Mathlib.Omega.{arith}
use lib.ListN.{length}
use Rattle.definitions.specs.Bytes.{decimal, ascii}
use Rattle.definitions.specs.Calls.{written}
use Rattle.definitions.specs.Module.{instructions}
use Rattle.definitions.specs.Reader.{instruction, function_record}
use Rattle.definitions.specs.Sheet.{any_op, is_question, is_call, tally, all_code, count_line, tally_line, tally_lines, sheet_of}
use Rattle.definitions.specs.Tables.{Function}
use Rattle.definitions.proofs.Columns.{length-right}
use Rattle.definitions.proofs.Listing.{five-digits}
use Rattle.definitions.proofs.Sheet.{tally-append, tally-few, tally-length, length-all, count_long, total-word}
use Rattle.reader.specs.View.{number_at}
use Rattle.writing.specs.Wrote.{Wrote}
use Rattle.writing.proofs.Begun.{over, from, Begun, begun-start, begun-split, begun-as, begun-done, begun-length, put_next}
use Rattle.tally.specs.Walk.{Values, values_end, functions_from}
use Rattle.tally.specs.Counts.{Tallies}
use Rattle.tally.specs.declared.Tallied.{Tallied}
use Rattle.tally.proofs.Walking.{reads_none, Function-here, function-head, function-here}
use Rattle.sheet.specs.Rows.{Few}

-- the lines so far, their totals, and the functions that are left
pub record Sheeting (t : List ℕ) (at count : ℕ) (xs out : List ℕ) (p put f total questions calls : ℕ) : Type 0 where
  pub inside : f ≤ count
  pub rest : Values function_record (count - f) t p
  pub total-so : tally any_op (all_code (functions_from count t at)) ≡ total + tally any_op (all_code (functions_from (count - f) t p))
  pub questions-so : tally is_question (all_code (functions_from count t at)) ≡ questions + tally is_question (all_code (functions_from (count - f) t p))
  pub calls-so : tally is_call (all_code (functions_from count t at)) ≡ calls + tally is_call (all_code (functions_from (count - f) t p))
  pub begun : Begun (sheet_of (functions_from count t at)) xs put out
      ((tally_lines f (functions_from (count - f) t p) ++ tally_line (ascii "TOTAL") (all_code (functions_from count t at))) ∷ [])

pub sheeting-start : (t : List ℕ) (at count : ℕ) (xs : List ℕ) → Values function_record count t at → length (sheet_of (functions_from count t at)) ≤ length xs → Sheeting t at count xs xs at 0 0 0 0 0
unfolding sheet_of
sheeting-start t at count xs r h =
    let z : count ≡ count - 0 = omega arith in
    let a = ap (λ (j : ℕ). tally any_op (all_code (functions_from j t at))) z in
    let b = ap (λ (j : ℕ). tally is_question (all_code (functions_from j t at))) z in
    let c = ap (λ (j : ℕ). tally is_call (all_code (functions_from j t at))) z in
    record {
      inside = omega arith;
      rest = subst (λ (j : ℕ). Values function_record j t at) z r;
      total-so = omega arith;
      questions-so = omega arith;
      calls-so = omega arith;
      begun = begun-as (begun-start (sheet_of (functions_from count t at)) xs h) _
          (ap (λ (j : ℕ). (tally_lines 0 (functions_from j t at) ++ tally_line (ascii "TOTAL") (all_code (functions_from count t at))) ∷ []) z);
    }

module _ {t : List ℕ} {at count : ℕ} {xs out : List ℕ} {p put f total questions calls : ℕ} (l : Sheeting t at count xs out p put f total questions calls) (few : instructions (functions_from count t at) < 1000000) where
  -- the counts so far are small
  pub totals-few : Few total questions calls
  totals-few =
      let fs = functions_from count t at in
      let n = length-all fs in
      let a = tally-few any_op (all_code fs) in let b = tally-few is_question (all_code fs) in let c = tally-few is_call (all_code fs) in
      let x = l.total-so in let y = l.questions-so in let z = l.calls-so in
      record { all = omega arith; questions = omega arith; calls = omega arith }

  -- ---- a function more

  module _ (h : f < count) where
    pub sheeting-head : p + 9 ≤ length t
    sheeting-head = function-head t (count - f) p (omega arith) l.rest

    module _ {n : ℕ} (e : n ≡ number_at 2 t (p + 7)) where
      g : Function-here t (count - f) p n
      g = function-here t (count - f) p n (omega arith) l.rest e

      pub sheeting-code : Values instruction n t (p + 9)
      sheeting-code = g.code

      module _ {r : Tallied} (s : Tallies r n t (p + 9)) where
        abbrev gs : List Function
        gs = functions_from (count - f - 1) t (values_end instruction n t (p + 9))

        all_are : n ≡ tally any_op g.function.code
        all_are = g.count ∙ sym (tally-length g.function.code)

        questions-are : r.questions ≡ tally is_question g.function.code
        questions-are = s.questions ∙ ap (tally is_question) g.code-is

        calls_are : r.calls ≡ tally is_call g.function.code
        calls_are = s.calls ∙ ap (tally is_call) g.code-is

        -- the counts of what is left are this function's and those after it
        left-more : (test : ℕ → Bool) → tally test (all_code (functions_from (count - f) t p)) ≡ tally test g.function.code + tally test (all_code gs)
        unfolding all_code
        left-more test = ap (λ (fs : List Function). tally test (all_code fs)) g.list ∙ tally-append test g.function.code (all_code gs)

        -- with this function
        pub counts-few : Few (total + n) (questions + r.questions) (calls + r.calls)
        counts-few =
            let fs = functions_from count t at in
            let k = length-all fs in
            let a = tally-few any_op (all_code fs) in let b = tally-few is_question (all_code fs) in let c = tally-few is_call (all_code fs) in
            let x = l.total-so in let y = l.questions-so in let z = l.calls-so in
            let u = left-more any_op in let v = left-more is_question in let w = left-more is_call in
            let i = all_are in let j = questions-are in let m = calls_are in
            record { all = omega arith; questions = omega arith; calls = omega arith }

        -- of this function alone
        pub line-few : Few n r.questions r.calls
        line-few = let k = counts-few in let a = k.all in let b = k.questions in let c = k.calls in record { all = omega arith; questions = omega arith; calls = omega arith }

        abbrev line : List ℕ
        line = count_line (decimal f) n r.questions r.calls

        pub line-41 : f < 65536 → length line ≡ 41
        line-41 hf = let k = line-few in count_long (decimal f) n r.questions r.calls (length-right 5 (decimal f) (five-digits f hf)) k.all k.questions k.calls

        -- the line in hand is next
        pub sheeting-here : Begun (sheet_of (functions_from count t at)) xs put out (line ∷ (tally_lines (suc f) gs ++ tally_line (ascii "TOTAL") (all_code (functions_from count t at))) ∷ [])
        unfolding tally_lines tally_line
        sheeting-here =
            let w : tally_line (decimal f) g.function.code ≡ line =
            ap (λ (j : ℕ). count_line (decimal f) j (tally is_question g.function.code) (tally is_call g.function.code)) (sym all_are)
            ∙ ap₂ (λ (i j : ℕ). count_line (decimal f) n i j) (sym questions-are) (sym calls_are) in
            let T = tally_line (ascii "TOTAL") (all_code (functions_from count t at)) in
            begun-split line (tally_lines (suc f) gs ++ T)
            (ap (λ (fs : List Function). tally_lines f fs ++ T) g.list ∙ ap (λ (x : List ℕ). (x ++ tally_lines (suc f) gs) ++ T) w ∙ append_assoc line (tally_lines (suc f) gs) T)
            l.begun

        pub sheeting-next : f < 65536 → {zs : List ℕ} → zs ≡ written line (from put out)
            → Sheeting t at count xs (over put out zs) r.at (put + 41) (f + 1) (total + n) (questions + r.questions) (calls + r.calls)
        sheeting-next hf {zs} w =
            let z : count - f - 1 ≡ count - (f + 1) = omega arith in
            let q = values_end instruction n t (p + 9) in
            let za = ap (λ (j : ℕ). tally any_op (all_code (functions_from j t q))) z in
            let zq = ap (λ (j : ℕ). tally is_question (all_code (functions_from j t q))) z in
            let zc = ap (λ (j : ℕ). tally is_call (all_code (functions_from j t q))) z in
            let x = l.total-so in let y = l.questions-so in let v = l.calls-so in
            let la = left-more any_op in let lq = left-more is_question in let lc = left-more is_call in
            let i = all_are in let j = questions-are in let m = calls_are in
            let long = line-41 hf in
            subst (λ (j : ℕ). Sheeting t at count xs (over put out zs) j (put + 41) (f + 1) (total + n) (questions + r.questions) (calls + r.calls)) (sym s.ends)
            (record {
              inside = omega arith;
              rest = subst (λ (j : ℕ). Values function_record j t q) z g.rest;
              total-so = omega arith;
              questions-so = omega arith;
              calls-so = omega arith;
              begun = begun-as (put_next (put + 41) sheeting-here (omega arith) w) _
                  (ap₂ (λ (i j : ℕ). (tally_lines i (functions_from j t q) ++ tally_line (ascii "TOTAL") (all_code (functions_from count t at))) ∷ []) (let y : suc f ≡ f + 1 = omega arith in y) z);
            })

  -- ---- the totals

  module _ (h : count ≤ f) where
    abbrev last : List ℕ
    last = count_line (ascii "TOTAL") total questions calls

    -- the last line is next
    pub sheeting-last : Begun (sheet_of (functions_from count t at)) xs put out (last ∷ [])
    unfolding tally_lines tally_line all_code tally
    sheeting-last =
        let fs = functions_from count t at in
        let e = (reads_none function_record t (count - f) p (omega arith) l.rest).0 in
        let ea = ap (λ (gs : List Function). tally any_op (all_code gs)) e in
        let eq = ap (λ (gs : List Function). tally is_question (all_code gs)) e in
        let ec = ap (λ (gs : List Function). tally is_call (all_code gs)) e in
        let x = l.total-so in let y = l.questions-so in let z = l.calls-so in
        let ta : tally any_op (all_code fs) ≡ total = omega arith in
        let tq : tally is_question (all_code fs) ≡ questions = omega arith in
        let tc : tally is_call (all_code fs) ≡ calls = omega arith in
        begun-as l.begun _
        (ap (λ (gs : List Function). (tally_lines f gs ++ tally_line (ascii "TOTAL") (all_code fs)) ∷ []) e
        ∙ ap (λ (j : ℕ). count_line (ascii "TOTAL") j (tally is_question (all_code fs)) (tally is_call (all_code fs)) ∷ []) ta
        ∙ ap₂ (λ (i j : ℕ). count_line (ascii "TOTAL") total i j ∷ []) tq tc)

    pub last-41 : length last ≡ 41
    last-41 = let k = totals-few in count_long (ascii "TOTAL") total questions calls (ap length total-word) k.all k.questions k.calls

    sheeting-all : {zs : List ℕ} → zs ≡ written last (from put out) → Begun (sheet_of (functions_from count t at)) xs (put + 41) (over put out zs) []
    sheeting-all w = let k = last-41 in put_next (put + 41) sheeting-last (omega arith) w

    pub sheeting-done : {zs : List ℕ} → zs ≡ written last (from put out) → Wrote (put + 41) (sheet_of (functions_from count t at)) xs (over put out zs)
    sheeting-done w = begun-done (sheeting-all w)

    pub sheeting-same : {zs : List ℕ} → zs ≡ written last (from put out) → length (over put out zs) ≡ length xs
    sheeting-same w = begun-length (sheeting-all w)
