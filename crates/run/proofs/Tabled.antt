-- The tables, one entry after the other. Assumes nothing.
use Prim.Native.Nat.{ℕ, ◌+◌, ◌-◌, ◌^◌, ◌<◌, ◌≤◌}
use mathlib.Core.Path.{◌≡◌, refl, sym, ap, ap₂, ◌∙◌, subst}
use mathlib.Core.Bool.{Bool, true, false}
use mathlib.Core.List.{List, [], ◌∷◌, append-nil}
use mathlib.Core.Logic.{◌⊎◌, inl, inr, ⊎_elim}
use native.Mathlib.Omega.{arith}
use lib.Dec.{eqb}
use lib.ListN.{length, take, drop, get_or, set, length-drop, length-set}
use lib.Seq.{get_or-set_same, get_or-set_other, drop-drop}
use borrow.Author.Tests.{eqb-true, eqb-false}
use Rattle.definitions.specs.Instruction.{Instr, Return, encode, encodes}
use Rattle.definitions.specs.Instruction.{Flow, straight, jump, question, returns, flow}
use Rattle.reader.specs.View.{instructions_of, start_of, instruction_shown, Walks}
use Rattle.std.proofs.Common.{Some, None}
use Rattle.reader.specs.declared.Placed.{Placed}
use Rattle.reader.specs.declared.iteration.Instructions.{Instructions}
use Rattle.reader.proofs.Iterated.{walked, walked-out}
use Rattle.run.specs.Tables.{Coded, PlacesFilled, flow_at, Stop, Stops, Nearer}
use Rattle.definitions.proofs.Flows.{return-stops}
use Rattle.run.proofs.Coding.{op-here, not_last, start-add}
use Rattle.definitions.specs.Bytes.{concat}
use Rattle.definitions.proofs.Lengths.{length-encode}

below : (k n : ℕ) → k < n + 1 → (k ≡ n → ⊥) → k < n
below k n l f = omega arith

above : (k j : ℕ) → k ≤ j → (j ≡ k → ⊥) → k + 1 ≤ j
above k j l f = omega arith

one-encoded : (i : Instr) → length (encodes (i ∷ [])) ≡ length (encode i)
unfolding encodes concat
one-encoded i = ap length (append-nil (encode i))

flow-of : (is : List Instr) (k : ℕ) → flow_at is k ≡ flow (get_or is k Return).op
unfolding flow_at
flow-of is k = refl

return-goes : (op : ℕ) → op ≡ 33 → flow op ≡ straight → ⊥
return-goes op e f = return-stops op e f

-- ---- where instructions begin

pub record Filling (c : List ℕ) (s : Instructions) (before table : List ℕ) : Type 0 where
  pub code : s.code.now ≡ c
  pub rest : instructions_of (drop s.at c) ≡ drop s.place (instructions_of c)
  pub at : s.at ≡ start_of (instructions_of c) s.place
  pub inside : s.at ≤ length c
  pub entries : (k : ℕ) → k < s.place → get_or table k 0 ≡ start_of (instructions_of c) k
  pub long : length table ≡ length before

pub filling-start : (c table : List ℕ) (s : Instructions) → s.code.now ≡ c → s.place ≡ 0 → s.at ≡ 0 → Filling c s table table
unfolding start_of encodes concat
filling-start c table s k p a = record {
  code = k;
  rest = ap₂ (λ (x y : ℕ). instructions_of (drop x c)) a p ∙ ap (λ (y : ℕ). drop y (instructions_of c)) (sym p);
  at = a ∙ ap (λ (y : ℕ). start_of (instructions_of c) y) (sym p);
  inside = omega arith;
  entries = λ k h. absurd (omega arith);
  long = refl;
}

drop-some : (xs : List Instr) (k : ℕ) (y : Instr) (ys : List Instr) → drop k xs ≡ y ∷ ys → k < length xs
drop-some xs k y ys e = let l = ap length e in let m = length-drop k xs in omega arith

module _ (c : List ℕ) (s : Instructions) (before table : List ℕ) (f : Filling c s before table) where
  module _ (n : Instructions) (p : Placed) (w : Walks s (Some p) n) where
    more : (instructions_of (drop s.at c) ≡ instruction_shown p ∷ instructions_of (drop n.at c)) × (n.place ≡ s.place + 1) × (n.at ≤ length c) × (n.at ≡ s.at + length (encode (instruction_shown p))) × (n.code.now ≡ c)
    more = walked c s n p f.code w

    here : drop s.place (instructions_of c) ≡ instruction_shown p ∷ instructions_of (drop n.at c)
    here = sym f.rest ∙ more.0

    pub fill-in : p.place < length (instructions_of c)
    fill-in = let d = drop-some (instructions_of c) s.place (instruction_shown p) (instructions_of (drop n.at c)) here in let e = w.1.0 in omega arith

    pub filling-more : p.place < length table → Filling c n before (set table p.place p.at)
    filling-more h =
        let m = more in
        let q = m.3 in let d = length-encode (instruction_shown p) in
        let one : drop n.place (instructions_of c) ≡ instructions_of (drop n.at c) = ap (λ (k : ℕ). drop k (instructions_of c)) m.1 ∙ sym (drop-drop 1 s.place (instructions_of c)) ∙ ap (drop 1) here in
        let b : start_of (instructions_of c) (s.place + 1) ≡ start_of (instructions_of c) s.place + length (encode (instruction_shown p)) =
        start-add (instructions_of c) s.place 1 ∙ ap (λ (js : List Instr). start_of (instructions_of c) s.place + length (encodes (take 1 js))) here
        ∙ ap (λ (k : ℕ). start_of (instructions_of c) s.place + k) (one-encoded (instruction_shown p)) in
        let t = ap (start_of (instructions_of c)) m.1 in let u = f.at in
        record {
          code = m.4;
          rest = sym one;
          at = omega arith;
          inside = m.2;
          entries = λ k l. entry k (let x = m.1 in omega arith);
          long = length-set table p.place p.at ∙ f.long;
        }
      where
        entry : (k : ℕ) → k < s.place + 1 → get_or (set table p.place p.at) k 0 ≡ start_of (instructions_of c) k
        entry k l = go (eqb k p.place) refl
          where
            go : (b : Bool) → eqb k p.place ≡ b → get_or (set table p.place p.at) k 0 ≡ start_of (instructions_of c) k
            go true x = let y = eqb-true k p.place x in
                ap (λ (j : ℕ). get_or (set table p.place p.at) j 0) y ∙ get_or-set_same table p.place p.at 0 h ∙ w.1.1 ∙ f.at ∙ ap (start_of (instructions_of c)) (sym (y ∙ w.1.0))
            go false x = let y = eqb-false k p.place x in get_or-set_other table p.place k p.at 0 y ∙ f.entries k (below k s.place l (λ z. y (z ∙ sym w.1.0)))

  pub filled : (n : Instructions) → length (instructions_of c) ≤ length before → Walks s None n → PlacesFilled c table
  filled n h w =
      let d = ap length (sym f.rest ∙ walked-out c s n f.code w) in let m = length-drop s.place (instructions_of c) in let l = f.long in
      record { long = omega arith; at = λ k j. f.entries k (omega arith) }

-- ---- where going straight on stops

decide : (f : Flow) → (f ≡ straight) ⊎ (f ≡ straight → ⊥)
decide straight = inl refl
decide jump = inr (λ e. let z : ◌≡◌ {A = ℕ} 0 1 = cc in omega arith)
decide returns = inr (λ e. let z : ◌≡◌ {A = ℕ} 0 1 = cc in omega arith)
decide (question b) = inr (λ e. let z : ◌≡◌ {A = ℕ} 0 1 = cc in omega arith)

pub record Stopping (c : List ℕ) (n k stop : ℕ) (before table : List ℕ) : Type 0 where
  pub below : k ≤ n
  pub near : k < n → Stop (instructions_of c) k stop
  pub entries : (j : ℕ) → k ≤ j → j < n → Stop (instructions_of c) j (get_or table j 0)
  pub long : length table ≡ length before

pub stopping-start : (c : List ℕ) (n stop : ℕ) (table : List ℕ) → Stopping c n n stop table table
stopping-start c n stop table = record { below = omega arith; near = λ h. absurd (omega arith); entries = λ j h l. absurd (omega arith); long = refl }

module _ (c : List ℕ) (h : Coded c) (n : ℕ) (en : n ≡ length (instructions_of c)) (k : ℕ) (l : k < n) where
  -- the instruction at k
  pub op-is : (op p : ℕ) → p ≡ start_of (instructions_of c) k → op ≡ get_or c p 0 → flow op ≡ flow_at (instructions_of c) k
  unfolding flow_at
  op-is op p e f = ap flow (f ∙ ap (λ (x : ℕ). get_or c x 0) e ∙ (op-here c h k (omega arith)).1)

  module _ (stop op r : ℕ) (near : k + 1 < n → Stop (instructions_of c) (k + 1) stop) (eo : flow op ≡ flow_at (instructions_of c) k) (w : Nearer r op k stop) where
    pub stop-here : Stop (instructions_of c) k r
    stop-here = ⊎_elim on off (decide (flow op))
      where
        on : flow op ≡ straight → Stop (instructions_of c) k r
        on e =
            let up : k + 1 < n = (let z = not_last c h k (omega arith) (λ x. return-goes (get_or (instructions_of c) k Return).op x (sym (flow-of (instructions_of c) k) ∙ sym eo ∙ e)) in omega arith) in
            let s = near up in
            let q = s.from in
            subst (λ (x : ℕ). Stop (instructions_of c) k x) (sym (w.on e)) (record { from = omega arith; inside = s.inside; goes = λ j a b. further j a b e s; stops = s.stops })
          where
            further : (j : ℕ) → k ≤ j → j < stop → flow op ≡ straight → Stop (instructions_of c) (k + 1) stop → flow_at (instructions_of c) j ≡ straight
            further j a b e s = go (eqb j k) refl
              where
                go : (y : Bool) → eqb j k ≡ y → flow_at (instructions_of c) j ≡ straight
                go true x = ap (flow_at (instructions_of c)) (eqb-true j k x) ∙ sym eo ∙ e
                go false x = let d = eqb-false j k x in s.goes j (above k j a d) b

        off : (flow op ≡ straight → ⊥) → Stop (instructions_of c) k r
        off f = subst (λ (x : ℕ). Stop (instructions_of c) k x) (sym (w.stops f)) (record { from = omega arith; inside = omega arith; goes = λ j a b. absurd (omega arith); stops = λ e. f (eo ∙ e) })

    pub stopping-more : (before table left : List ℕ) → Stopping c n (k + 1) stop before table → k < length table → left ≡ set table k r → Stopping c n k r before left
    stopping-more before table left s m e = record {
      below = omega arith;
      near = λ x. stop-here;
      entries = λ j a b. entry j a b;
      long = ap length e ∙ length-set table k r ∙ s.long;
    }
      where
        entry : (j : ℕ) → k ≤ j → j < n → Stop (instructions_of c) j (get_or left j 0)
        entry j a b = go (eqb j k) refl
          where
            go : (y : Bool) → eqb j k ≡ y → Stop (instructions_of c) j (get_or left j 0)
            go true x = let y = eqb-true j k x in
                subst (λ (i : ℕ). Stop (instructions_of c) i (get_or left i 0)) (sym y) (subst (λ (v : ℕ). Stop (instructions_of c) k v) (sym (ap (λ (xs : List ℕ). get_or xs k 0) e ∙ get_or-set_same table k r 0 m)) stop-here)
            go false x = let d = eqb-false j k x in
                subst (λ (v : ℕ). Stop (instructions_of c) j v) (sym (ap (λ (xs : List ℕ). get_or xs j 0) e ∙ get_or-set_other table k j r 0 d)) (s.entries j (above k j a d) b)

pub stopped : (c : List ℕ) (n k stop : ℕ) (before table : List ℕ) → n ≡ length (instructions_of c) → n ≤ length before → k ≤ 0 → Stopping c n k stop before table → Stops c table
stopped c n k stop before table e l z s = let m = s.long in record { long = omega arith; at = λ j h. s.entries j (omega arith) (omega arith) }

-- ---- the same in the code's terms: one place back from k

module _ (c : List ℕ) (h : Coded c) (n : ℕ) (en : n ≡ length (instructions_of c)) (k stop : ℕ) (before table : List ℕ) (s : Stopping c n k stop before table) (l : 0 < k)
    (places : List ℕ) (pl : PlacesFilled c places) (p : ℕ) (ep : p ≡ get_or places (k - 1) 0) where
  back : k - 1 < n
  back = let b = s.below in omega arith

  at_place : p ≡ start_of (instructions_of c) (k - 1)
  at_place = ep ∙ pl.at (k - 1) (let b = back in omega arith)

  pub place_in : p < length c
  place_in = let z = (op-here c h (k - 1) (let b = back in omega arith)).0 in let y = at_place in omega arith

  module _ (r : ℕ) (w : Nearer r (get_or c p 0) (k - 1) stop) where
    near_before : k - 1 + 1 < n → Stop (instructions_of c) (k - 1 + 1) stop
    near_before x = subst (λ (j : ℕ). Stop (instructions_of c) j stop) (let z : k ≡ k - 1 + 1 = omega arith in z) (s.near (omega arith))

    stop-back : Stop (instructions_of c) (k - 1) r
    stop-back = stop-here c h n en (k - 1) back stop (get_or c p 0) r near_before (op-is c h n en (k - 1) back (get_or c p 0) p at_place refl) w

    pub stop-less : r < 2 ^ 32
    stop-less = let z = stop-back.inside in let y = h.few in omega arith

    pub stopping-next : n ≤ length before → (left : List ℕ) → left ≡ set table (k - 1) r → Stopping c n (k - 1) r before left
    stopping-next m left e =
        let b = back in let o = s.long in
        stopping-more c h n en (k - 1) back stop (get_or c p 0) r near_before (op-is c h n en (k - 1) back (get_or c p 0) p at_place refl) w before table left
        (subst (λ (j : ℕ). Stopping c n j stop before table) (let z : k ≡ k - 1 + 1 = omega arith in z) s) (omega arith) e
