-- A jump that is set on the stack, and the inside of a loop whose pending jumps are made.
use Prim.Native.Nat.{ℕ, zero, suc, ◌+◌, ◌-◌, ◌≤◌, ◌<◌}
use mathlib.Core.Path.{◌≡◌, refl, sym, ap, ◌∙◌}
use mathlib.Core.Bool.{Bool, true, false}
use mathlib.Core.List.{List, [], ◌∷◌, ◌++◌, map, map-append, append_assoc}
use native.Mathlib.Omega.{arith}
use native.Mathlib.Nat.{le_refl, zero-add, add-zero}
use borrow.Rule.Slice.PartMut.{put_mid, mid_of, post_of, mid_len, same_len_mid, drop_put, Post-is}
use lib.Dec.{eqb}
use lib.ListN.{length, take, drop, set, get_or, length-set, length-append}
use lib.Seq.{take-set-lt, drop-set-lt, take-take, take-append-add, length-take-le}
use borrow.Author.Tests.{eqb-true, ne_eqb}
use Rattle.definitions.specs.Instruction.{Instr, instr}
use Rattle.definitions.specs.Lower.{patched, patch}
use Rattle.state.specs.Words.{word, op_of, instr_of, instrs_of, small_int}
use Rattle.state.specs.State.{state_of, done_from, Sound, Left}
use Rattle.state.specs.declared.Counts.{Counts}
use Rattle.state.specs.declared.Limits.{Limits}
use Rattle.state.specs.Steps.{set_at, patch_at}
use Rattle.lower_emit.specs.Patch.{patch_word, patch_words}
use Rattle.lower_emit.proofs.Packing.{instr-jump, instr-back}
use Rattle.state.proofs.Emission.{state-eq}
use Rattle.lower_emit.proofs.Putting.{tables-finished, sound-open}
use Rattle.lower_emit.proofs.Setting.{mixed, mixed-read, mixed-set, mixed-all, map-set, map-take, map-drop, drop-later, drop-take}

-- the open words are others, as many; the finished ones stay
pub left-stack : (t made code code' tables : List ℕ) (c : Counts) (l : Limits) (is : List Instr) → Sound t made code tables c l →
    length code' ≡ length code → drop done_from code' ≡ drop done_from code → instrs_of t (take c.open code') ≡ is →
    Left c t made code' tables c l (record { stack = is; tables = (state_of t made code tables c).tables })
unfolding state_of
left-stack t made code code' tables c l is s e d f = record {
  state = state-eq _ _ f (tables-finished t made code code' tables c c.open d);
  base = refl;
  paced = record { methods = le_refl _; constants = le_refl _ };
  sound = sound-open t made code code' tables c l c.open s e s.base s.words;
}

pub jump-set : (t made code tables : List ℕ) (j op d w : ℕ) (c : Counts) (l : Limits) → Sound t made code tables c l → j < c.open → 28 ≤ op → op ≤ 30 → d < 32768 → w ≡ word op d 0 →
    Left c t made (set code j w) tables c l (set_at j (instr op d 0) (state_of t made code tables c))
unfolding state_of instrs_of set_at
jump-set t made code tables j op d w c l s h a b k e =
    left-stack t made code (set code j w) tables c l _ s (length-set code j w) (drop-set-lt done_from code j w (omega (arith, s.words, s.limited.instructions)))
    (ap (map (instr_of t)) (take-set-lt c.open code j w h) ∙ map-set (instr_of t) (take c.open code) j w
    ∙ ap (λ (i : Instr). set (map (instr_of t) (take c.open code)) j i) (ap (instr_of t) e ∙ instr-jump t op d a b k))

-- ---- words and instructions

op-kept : (t : List ℕ) (w : ℕ) → eqb (op_of w) small_int ≡ false → (instr_of t w).op ≡ op_of w
unfolding instr_of
op-kept t w e = rw (e, instr_of)

op-small : (t : List ℕ) (w : ℕ) → eqb (op_of w) small_int ≡ true → (instr_of t w).op ≡ 0
unfolding instr_of
op-small t w e = rw (e, instr_of)

-- an opcode other than 0 and the small integer's: of the word and of its instruction
op_same : (t : List ℕ) (w op : ℕ) → (op ≡ 0 → ⊥) → (op ≡ 48 → ⊥) → eqb (instr_of t w).op op ≡ eqb (op_of w) op
op_same t w op z s = go (eqb (op_of w) small_int) refl
  where
    go : (b : Bool) → eqb (op_of w) small_int ≡ b → eqb (instr_of t w).op op ≡ eqb (op_of w) op
    go false e = ap (λ (n : ℕ). eqb n op) (op-kept t w e)
    go true e = ap (λ (n : ℕ). eqb n op) (op-small t w e) ∙ ne_eqb 0 op (λ f. z (sym f)) ∙ sym (ne_eqb (op_of w) op (λ f. s (sym f ∙ eqb-true (op_of w) small_int e)))

module _ (t : List ℕ) (h n i w : ℕ) (below : i < n) (short : h + n < 32768) where
  word-patched : instr_of t (patch_word h n i w) ≡ patched h n i (instr_of t w)
  unfolding patch_word patched
  word-patched = go (eqb (op_of w) 46) (eqb (op_of w) 47) refl refl
    where
      go : (a b : Bool) → eqb (op_of w) 46 ≡ a → eqb (op_of w) 47 ≡ b → instr_of t (patch_word h n i w) ≡ patched h n i (instr_of t w)
      go true b e f = rw (e, patch_word, op_same t w 46 (λ z. omega arith) (λ z. omega arith), patched, e) (instr-jump t 28 (n - i) (omega arith) (omega arith) (omega arith))
      go false true e f = rw (e, patch_word, f, op_same t w 46 (λ z. omega arith) (λ z. omega arith), patched, e, op_same t w 47 (λ z. omega arith) (λ z. omega arith), f) (instr-back t (h + suc i) (omega arith) (omega arith))
      go false false e f = rw (e, patch_word, f, op_same t w 46 (λ z. omega arith) (λ z. omega arith), patched, e, op_same t w 47 (λ z. omega arith) (λ z. omega arith), f)

pub words-patched : (t : List ℕ) (h n i : ℕ) (ws : List ℕ) → i + length ws ≤ n → h + n < 32768 → map (instr_of t) (patch_words h n i ws) ≡ patch h n i (map (instr_of t) ws)
unfolding patch_words patch
words-patched t h n i [] b s = refl
words-patched t h n i (w ∷ ws) b s =
    let e = word-patched t h n i w (omega arith) s in
    let r = words-patched t h n (suc i) ws (omega arith) s in
    λ j. e j ∷ r j

pub length-patched : (h n i : ℕ) (ws : List ℕ) → length (patch_words h n i ws) ≡ length ws
unfolding patch_words
length-patched h n i [] = refl
length-patched h n i (w ∷ ws) = ap suc (length-patched h n (suc i) ws)

pub patched-at : (h n i j : ℕ) (ws : List ℕ) → j < length ws → get_or (patch_words h n i ws) j 0 ≡ patch_word h n (i + j) (get_or ws j 0)
unfolding patch_words
patched-at h n i j [] l = absurd (omega arith)
patched-at h n i zero (w ∷ ws) l = ap (λ (k : ℕ). patch_word h n k w) (sym (add-zero i))
patched-at h n i (suc j) (w ∷ ws) l = patched-at h n (suc i) j ws (omega arith) ∙ ap (λ (k : ℕ). patch_word h n k (get_or ws j 0)) (omega arith)

-- one word more of an inside ys that is patched in place
pub patch-step : (h i v : ℕ) (xs ys : List ℕ) → i < length xs → ys ≡ mixed i (patch_words h (length xs) 0 xs) xs → v ≡ patch_word h (length xs) i (get_or ys i 0) →
    set ys i v ≡ mixed (i + 1) (patch_words h (length xs) 0 xs) xs
patch-step h i v xs ys l e f =
    let k = length-patched h (length xs) 0 xs in
    ap (λ (zs : List ℕ). set zs i v) e
    ∙ mixed-set i (patch_words h (length xs) 0 xs) xs v (omega arith) l
    (f ∙ ap (patch_word h (length xs) i) (ap (λ (zs : List ℕ). get_or zs i 0) e ∙ mixed-read i (patch_words h (length xs) 0 xs) xs (omega arith))
    ∙ sym (patched-at h (length xs) 0 i xs l ∙ ap (λ (k : ℕ). patch_word h (length xs) k (get_or xs i 0)) (zero-add i)))

pub patch-done : (h i : ℕ) (xs ys : List ℕ) → length xs ≤ i → ys ≡ mixed i (patch_words h (length xs) 0 xs) xs → ys ≡ patch_words h (length xs) 0 xs
patch-done h i xs ys l e = e ∙ mixed-all (patch_words h (length xs) 0 xs) xs i (let k = length-patched h (length xs) 0 xs in omega arith) l

-- ---- the inside as a part of the code

module _ (t made code tables ys : List ℕ) (h from n to : ℕ) (c : Counts) (l : Limits) (s : Sound t made code tables c l) (e : to ≡ from + n) (within : to ≤ c.open) (early : h ≤ from) where
  rest-stack : drop to (map (instr_of t) (take c.open code)) ≡ map (instr_of t) (take (c.open - to) (drop to code))
  rest-stack = sym (map-drop (instr_of t) to (take c.open code)) ∙ ap (map (instr_of t)) (drop-take to c.open code within (omega (arith, s.words, s.limited.instructions, s.code-room)))

  inside-stack : take n (drop from (map (instr_of t) (take c.open code))) ≡ map (instr_of t) (mid_of from (to - from) code)
  inside-stack =
      let k : to - from ≡ n = omega arith in
      ap (take n) (sym (map-drop (instr_of t) from (take c.open code)) ∙ ap (map (instr_of t)) (drop-take from c.open code (omega arith) (omega (arith, s.words, s.limited.instructions, s.code-room))))
      ∙ sym (map-take (instr_of t) n (take (c.open - from) (drop from code)))
      ∙ ap (map (instr_of t)) (take-take n (c.open - from) (drop from code) (omega arith) ∙ ap (λ (m : ℕ). take m (drop from code)) (sym k))

  pub loop-patched : ys ≡ patch_words h (length (mid_of from (to - from) code)) 0 (mid_of from (to - from) code) →
      Left c t made (put_mid from (to - from) code ys) tables c l (patch_at h from n (state_of t made code tables c))
  unfolding state_of instrs_of patch_at
  loop-patched f =
      let i = instr_of t in
      let w = mid_of from (to - from) code in
      let room : to ≤ length code = omega (arith, s.words, s.limited.instructions, s.code-room) in
      let m : length w ≡ to - from = mid_len from to code room in
      let k : length w ≡ n = omega arith in
      let u : length ys ≡ length w = ap length f ∙ length-patched h (length w) 0 w in
      let v : length (take from code ++ ys) + (c.open - to) ≡ c.open = omega (arith, length-append (take from code) ys, length-take-le from code (omega arith)) in
      left-stack t made code (put_mid from (to - from) code ys) tables c l _ s (same_len_mid from (to - from) code ys u)
      (drop-later to done_from _ code (omega (arith, s.words, s.limited.instructions)) (drop_put from to code ys (omega arith) room (u ∙ m)))
      (ap (map i) (ap (take c.open) (sym (append_assoc (take from code) ys (post_of from (to - from) code)) ∙ ap (λ (z : List ℕ). take from code ++ ys ++ z) (Post-is from to code (omega arith)))
      ∙ ap (λ (z : ℕ). take z (take from code ++ ys ++ drop to code)) (sym v) ∙ take-append-add (take from code ++ ys) (drop to code) (c.open - to))
      ∙ map-append i (take from code ++ ys) (take (c.open - to) (drop to code)) ∙ ap (λ (z : List Instr). z ++ map i (take (c.open - to) (drop to code))) (map-append i (take from code) ys)
      ∙ append_assoc (map i (take from code)) (map i ys) (map i (take (c.open - to) (drop to code)))
      ∙ (λ j. (ap (map i) (sym (take-take from c.open code (omega arith))) ∙ map-take i from (take c.open code)) j
      ++ ((ap (map i) f ∙ words-patched t h (length w) 0 w (omega arith) (omega (arith, s.words, s.limited.instructions))
      ∙ (λ q. patch h (k q) 0 (sym inside-stack q))) j ++ (sym rest-stack ∙ ap (λ (z : ℕ). drop z (map i (take c.open code))) e) j)))
