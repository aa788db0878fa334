-- The ends of branches and loops, by the laws of the state.
use Prim.Native.Nat.{ℕ, ◌+◌, ◌-◌, ◌<◌, ◌≤◌}
use mathlib.Core.Path.{◌≡◌, refl, sym, ◌∙◌}
use mathlib.Core.List.{List}
use native.Mathlib.Omega.{arith}
use borrow.Rule.Slice.PartMut.{put_mid, mid_of}
use lib.ListN.{length, set}
use Rattle.std.specs.Prelude.{Option, Some, None}
use Rattle.std.proofs.lemmas.Option.{none-some}
use Rattle.definitions.specs.Instruction.{Instr, instr, Jump, minus}
use Rattle.definitions.specs.Tables.{one}
use Rattle.state.specs.Words.{word}
use Rattle.state.specs.State.{emit_at}
use Rattle.state.specs.Steps.{set_at, patch_at}
use Rattle.state.proofs.Within.{within-set}
use Rattle.lower_emit.specs.Patch.{patch_words}
use Rattle.lower_emit.specs.declared.emitter.Code.{Code}
use Rattle.lower_emit.specs.declared.emitter.Tables.{Tables}
use Rattle.lower_emit.specs.Emitting.{counts_of, limits_in, state_in, SoundIn, beside, LeftIn, Writes, CodeKept, SetsJump}
use Rattle.lower_emit.specs.Ends.{EndsBranch, EndsLoop}
use Rattle.lower_emit.proofs.Patching.{jump-set, loop-patched}
use Rattle.lower_emit.proofs.SetJumps.{put-open, jump-left, patched-left, loop-within}
use Rattle.lower_emit.proofs.Steps.{words-left, limits-code, areas-code, areas-after, code-after}

module _ {A : Type 0} {p : Option A} {a b : Code} where
  module _ (from : ℕ) (h : Writes p (one (Jump 0)) a b) where
    pub branch-full : {B : Type 0} {q : Option B} → p ≡ None → q ≡ None → EndsBranch q from a b
    branch-full z n = record {
      kept = h.kept;
      ends = λ t ts S.
          let k = (h.lowers t ts S).reaches in
          record { done = λ y q. absurd (none-some y (sym n ∙ q)); full = λ q w. k.full z (within-set _ _ _ w); limits = k.limits; areas = k.areas };
    }

    branch-left : {x : A} {c : Code} (t : List ℕ) (ts : Tables) → SoundIn t (beside a ts) → p ≡ Some x → 0 < from → from ≤ a.open → SetsJump (from - 1) 29 (a.open - from + 1) b c
        → LeftIn t (beside a ts) (beside c ts) (set_at (from - 1) (instr 29 (a.open - from + 1) 0) (emit_at a.base (one (Jump 0)) (state_in t (beside a ts))))
    branch-left {x} {c} t ts S z l g j =
        let got = ((h.lowers t ts S).reaches.done x z).left in
        let d = a.open - from + 1 in
        let o = put-open t ts.names.made.now a.words.now b.words.now ts.entries.words.now (counts_of (beside a ts)) (counts_of (beside b ts)) (limits_in (beside a ts)) a.base (Jump 0) S.sound got in
        let s = jump-set t ts.names.made.now b.words.now ts.entries.words.now (from - 1) 29 d (word 29 d 0) (counts_of (beside b ts)) (limits_in (beside a ts)) got.sound (omega (arith, o)) (omega arith) (omega arith)
        (omega (arith, S.sound.words, S.sound.limited.instructions)) refl in
        record {
          left = words-left ts j.kept j.size j.words
              (jump-left t ts.names.made.now a.words.now b.words.now ts.entries.words.now (counts_of (beside a ts)) (counts_of (beside b ts)) (limits_in (beside a ts)) a.base (Jump 0) S.sound got (from - 1) (instr 29 d 0) _ s);
        }

    pub branch-done : {B : Type 0} {x : A} {y : B} {c : Code} → p ≡ Some x → 0 < from → from ≤ a.open → SetsJump (from - 1) 29 (a.open - from + 1) b c → EndsBranch (Some y) from a c
    branch-done {y = y} z l g j = record {
      kept = code-after h.kept j.kept;
      ends = λ t ts S. record {
        done = λ u q. branch-left t ts S z l g j;
        full = λ q. absurd (none-some y (sym q));
        limits = limits-code ts j.kept ∙ (h.lowers t ts S).reaches.limits;
        areas = areas-after (h.lowers t ts S).reaches.areas (areas-code ts j.kept);
      };
    }

  module _ (start inside : ℕ) (low : start < inside) (high : inside ≤ a.open) (h : Writes p (one (Jump (minus (a.open - start + 1)))) a b) where
    abbrev back : Instr
    back = Jump (minus (a.open - start + 1))

    pub loop-full : {B : Type 0} {q : Option B} → p ≡ None → q ≡ None → EndsLoop q start inside a b
    loop-full z n = record {
      kept = h.kept;
      ends = λ t ts S.
          let k = (h.lowers t ts S).reaches in
          record {
            done = λ y q. absurd (none-some y (sym n ∙ q));
            full = λ q w. k.full z (loop-within t ts.names.made.now a.words.now ts.entries.words.now (counts_of (beside a ts)) (limits_in (beside a ts)) a.base back (inside - start) inside (inside - 1)
                (instr 29 (a.open - inside + 1) 0) S.sound high w);
            limits = k.limits;
            areas = k.areas;
          };
    }

    -- the words with the inside's jumps made
    abbrev pub patched : List ℕ
    patched = put_mid inside (a.open - inside) b.words.now (patch_words (inside - start) (length (mid_of inside (a.open - inside) b.words.now)) 0 (mid_of inside (a.open - inside) b.words.now))

    loop-left : {x : A} {c : Code} (t : List ℕ) (ts : Tables) → SoundIn t (beside a ts) → p ≡ Some x → CodeKept b c → c.open ≡ b.open → c.words.now ≡ set patched (inside - 1) (word 29 (a.open - inside + 1) 0)
        → LeftIn t (beside a ts) (beside c ts) (set_at (inside - 1) (instr 29 (a.open - inside + 1) 0) (patch_at (inside - start) inside (a.open - inside) (emit_at a.base (one back) (state_in t (beside a ts)))))
    loop-left {x} {c} t ts S z k e w =
        let got = ((h.lowers t ts S).reaches.done x z).left in
        let d = a.open - inside + 1 in
        let m = limits_in (beside a ts) in
        let c₁ = counts_of (beside b ts) in
        let o = put-open t ts.names.made.now a.words.now b.words.now ts.entries.words.now (counts_of (beside a ts)) c₁ m a.base back S.sound got in
        let q = loop-patched t ts.names.made.now b.words.now ts.entries.words.now _ (inside - start) inside (a.open - inside) a.open c₁ m got.sound (omega arith) (omega (arith, o)) (omega arith) refl in
        let s = jump-set t ts.names.made.now _ ts.entries.words.now (inside - 1) 29 d (word 29 d 0) c₁ m q.sound (omega (arith, o)) (omega arith) (omega arith) (omega (arith, S.sound.words, S.sound.limited.instructions)) refl in
        record {
          left = words-left ts k e w
              (patched-left t ts.names.made.now a.words.now b.words.now ts.entries.words.now (counts_of (beside a ts)) c₁ m a.base back S.sound got (inside - start) inside (a.open - inside) (inside - 1) (instr 29 d 0) _ _ q s);
        }

    pub loop-done : {B : Type 0} {x : A} {y : B} {c : Code} → p ≡ Some x → CodeKept b c → c.open ≡ b.open → c.words.now ≡ set patched (inside - 1) (word 29 (a.open - inside + 1) 0)
        → EndsLoop (Some y) start inside a c
    loop-done {y = y} z k e w = record {
      kept = code-after h.kept k;
      ends = λ t ts S. record {
        done = λ u q. loop-left t ts S z k e w;
        full = λ q. absurd (none-some y (sym q));
        limits = limits-code ts k ∙ (h.lowers t ts S).reaches.limits;
        areas = areas-after (h.lowers t ts S).reaches.areas (areas-code ts k);
      };
    }
