-- One structured code for a list of instructions and a walk.
use mathlib.Core.Path.{◌≡◌, refl, sym, ap, ◌∙◌, subst}
use mathlib.Core.Bool.{Bool, true, false}
use mathlib.Core.List.{List, [], ◌∷◌, ◌++◌}
use Prim.Native.Nat.{ℕ, suc, ◌+◌}
use lib.ListN.{length}
use Rattle.definitions.specs.Instruction.{Instr, Jump, JumpIfFalse, minus, encodes}
use Rattle.definitions.specs.Lower.{patch}
use Rattle.definitions.specs.Walk.{Walked, walked, goes_on, and_then, rounds}
use Rattle.definitions.proofs.Shape.{Code, plain, seq, choose, loop, size, hop, asks, pend, query, walk, Plain, Each, Ok, length-pend}
use Rattle.definitions.proofs.Demand.{Calm, calm}

pub record Meaning (l : Bool) (is : List Instr) (v : List ℕ → Walked) : Type 0 where
  pub code : Code
  pub ok : Ok l code
  pub emitted : is ≡ pend code
  pub walks : v ≡ walk code

-- ---- structured codes are put together

module _ {l : Bool} {is js : List Instr} {v u : List ℕ → Walked} where
  unfoldable pub meaning-seq : Meaning l is v → Meaning l js u → Meaning l (is ++ js) (λ xs. and_then (v xs) u)
  meaning-seq A B = record {
    code = seq A.code B.code;
    ok = (A.ok, B.ok);
    emitted = rw (A.emitted, B.emitted);
    walks = rw (A.walks, B.walks);
  }

  unfoldable pub meaning-choose : {ks : List Instr} {t : List ℕ → Walked} (b : Bool) (k : ℕ)
      → Meaning l is v → Meaning l js u → (C : Meaning l ks t) → k ≡ hop C.code
      → Meaning l (is ++ (asks b (suc (length js)) ∷ (js ++ (Jump k ∷ ks)))) (λ xs. and_then (v xs) (query b u t))
  meaning-choose b k A B C e = record {
    code = choose b A.code B.code C.code;
    ok = (A.ok, B.ok, C.ok);
    emitted = rw (A.emitted, B.emitted, C.emitted, e, length-pend B.code);
    walks = rw (A.walks, B.walks, C.walks);
  }

  pub meaning-loop : Meaning l is v → Meaning true js u
      → Meaning l (is ++ (JumpIfFalse (suc (length js)) ∷ (patch (suc (length is)) (length js) 0 js ++ (Jump (minus (suc (suc (length is) + length js))) ∷ [])))) (λ xs. rounds (suc (length xs)) v u xs)
  meaning-loop A B = record {
    code = loop A.code B.code;
    ok = (A.ok, B.ok);
    emitted = rw (A.emitted, B.emitted, length-pend A.code, length-pend B.code);
    walks = rw (A.walks, B.walks);
  }

unfoldable pub meaning-plain : {l : Bool} (is : List Instr) → Each Plain is → Meaning l is (λ xs. walked goes_on xs (encodes is))
meaning-plain is k = record { code = plain is; ok = k; emitted = refl; walks = refl }

pub meaning-length : {l : Bool} {is : List Instr} {v : List ℕ → Walked} (M : Meaning l is v) → length is ≡ size M.code
meaning-length M = ap length M.emitted ∙ length-pend M.code

pub meaning-calm : {is : List Instr} {v : List ℕ → Walked} → Meaning false is v → (xs : List ℕ) → Calm (v xs).ending
meaning-calm M xs = subst (λ (v : List ℕ → Walked). Calm (v xs).ending) (sym M.walks) (calm M.code M.ok xs)
