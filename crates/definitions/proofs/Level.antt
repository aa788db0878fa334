-- Heights of structured code: a judgement on it, and what that says of the heights in its lowering, place by place.
use mathlib.Core.Path.{◌≡◌, refl, sym, ap, ◌∙◌, subst}
use mathlib.Core.Bool.{Bool, true, false}
use mathlib.Core.List.{List, [], ◌∷◌, ◌++◌}
use Prim.Native.Nat.{ℕ, suc, ◌+◌, ◌-◌, ◌≤◌, ◌<◌}
use native.Mathlib.Omega.{arith}
use lib.ListN.{length, get_or}
use lib.Dec.{T}
use Rattle.definitions.specs.Instruction.{Instr, Jump, Return, minus, Flow, straight, jump, returns, question, flow}
use Rattle.definitions.specs.Reader.{landing}
use Rattle.definitions.specs.Stack.{pops, height_after, following}
use Rattle.definitions.specs.Open.{flows, heights}
use Rattle.definitions.proofs.Shape.{Code, plain, ret, brk, cont, seq, choose, loop, size, hop, asks, flat, Plain, Each, none, more, Ok, length-flat}
use Rattle.definitions.proofs.Follow.{Has, has-head, has-tail, has_part, has-after, forward, backward, hop-size, jump-flow, asks-flow, return-flow}

-- ---- the judgement

-- instructions that the run goes through in order, from height h to height k
pub data Climbs : List Instr → ℕ → ℕ → Type 0 where
  stay : {h : ℕ} → Climbs [] h h
  move : {i : Instr} {is : List Instr} {h m k : ℕ} → pops i ≤ h → height_after i h ≡ m → Climbs is m k → Climbs (i ∷ is) h k

pub climbs-append : {is js : List Instr} {h m k : ℕ} → Climbs is h m → Climbs js m k → Climbs (is ++ js) h k
climbs-append stay b = b
climbs-append (move p e a) b = move p e (climbs-append a b)

-- Code that starts at height h; the place after it is at height k
abbrev pub Level : Code → ℕ → ℕ → Type 0
Level (plain is) h k = Climbs is h k
Level ret h k = k ≡ 0
Level brk h k = (h ≡ 0) × (k ≡ 0)
Level cont h k = (h ≡ 0) × (k ≡ 0)
Level (seq c d) h k = (m : ℕ) × Level c h m × Level d m k
Level (choose b c d e) h k = (m : ℕ) × Level c h (suc m) × Level d m k × Level e m k × (k - 1 ≡ m)
Level (loop c d) h k = (h ≡ 0) × (k ≡ 0) × Level c 0 1 × Level d 0 0

-- ---- jumps and questions

pub asks-pops : (b : Bool) (n : ℕ) → pops (asks b n) ≡ 1
unfolding heights
asks-pops false n = omega arith
asks-pops true n = omega arith

pub asks-height_after : (b : Bool) (n h : ℕ) → height_after (asks b n) h ≡ h - 1
unfolding heights
asks-height_after false n h = omega arith
asks-height_after true n h = omega arith

pub jump-height_after : (n h : ℕ) → height_after (Jump n) h ≡ h
unfolding heights
jump-height_after n h = omega arith

pub jump-pops : (n : ℕ) → pops (Jump n) ≡ 0
unfolding heights
jump-pops n = omega arith

pub return-pops : pops Return ≡ 0
unfolding heights
return-pops = omega arith

-- ---- heights of places

-- what comes after an instruction at place p is at the height that it leaves
abbrev pub Onward : (ℕ → ℕ) → Flow → Instr → ℕ → Type 0
Onward H straight i p = H (suc p) ≡ height_after i (H p)
Onward H jump i p = H (landing p i.a) ≡ height_after i (H p)
Onward H returns i p = Unit {0}
Onward H (question b) i p = (H (suc p) ≡ height_after i (H p)) × (H (landing p i.a) ≡ height_after i (H p))

pub record Keeps (H : ℕ → ℕ) (i : Instr) (p : ℕ) : Type 0 where
  pub enough : pops i ≤ H p
  pub goes : Onward H (flow i.op) i p

pub data Steady (H : ℕ → ℕ) : ℕ → List Instr → Type 0 where
  no_steady : {p : ℕ} → Steady H p []
  steady : {p : ℕ} {i : Instr} {is : List Instr} → Keeps H i p → Steady H (suc p) is → Steady H p (i ∷ is)

steady-append : {H : ℕ → ℕ} {is js : List Instr} (p q : ℕ) → q ≡ p + length is → Steady H p is → Steady H q js → Steady H p (is ++ js)
steady-append p q e no_steady b = let z : q ≡ p = omega arith in rw (← z) b
steady-append p q e (steady k a) b = steady k (steady-append (suc p) q (omega arith) a b)

-- heights that follow the order of the code
module _ (W : List Instr) (H : ℕ → ℕ) (next : (p : ℕ) → p < length W → H (suc p) ≡ following (flow (get_or W p Return).op) (get_or W p Return) (H p)) where
  after : {p : ℕ} {i : Instr} {l : List Instr} (f : Flow) → Has W p (i ∷ l) → p < length W → flow i.op ≡ f → H (suc p) ≡ following f i (H p)
  after {p} {i} f a g e = next p g ∙ ap (λ (j : Instr). following (flow j.op) j (H p)) (has-head W a) ∙ ap (λ (z : Flow). following z i (H p)) e

  climbs : {is : List Instr} {h k : ℕ} → Each Plain is → Climbs is h k → (p q : ℕ) → q ≡ p + length is → q ≤ length W → Has W p is → H p ≡ h → H q ≡ k
  unfolding following
  climbs none stay p q e g a s = let z : q ≡ p = omega arith in ap H z ∙ s
  climbs (more {i} l ls) (move {m} x y c) p q e g a s =
      climbs ls c (suc p) q (omega arith) g (has-tail W a) (after straight a (omega arith) l.goes ∙ ap (height_after i) s ∙ y)

  pub past-jump : {p n : ℕ} {l : List Instr} (k : ℕ) → Has W p (Jump n ∷ l) → p < length W → H p ≡ k → H (suc p) ≡ k - 1
  unfolding following
  past-jump {p} {n} k a g s = after jump a g (jump-flow n) ∙ ap (λ (z : ℕ). z - 1) s

  pub past-asks : {p : ℕ} {l : List Instr} (b : Bool) (n k : ℕ) → Has W p (asks b n ∷ l) → p < length W → H p ≡ suc k → H (suc p) ≡ k
  unfolding following
  past-asks {p} b n k a g s =
      let z : height_after (asks b n) (H p) ≡ k = omega (arith, asks-height_after b n (H p)) in
      after (question b) a g (asks-flow b n) ∙ z

  -- the place after a part is at its height
  pub ends : (c : Code) (l : Bool) → Ok l c → {u k : ℕ} → Level c u k → (p q h n i : ℕ) → q ≡ p + size c → q ≤ length W → Has W p (flat c h n i) → H p ≡ u → H q ≡ k
  unfolding following
  ends (plain is) l o v p q h n i e g a s = climbs o v p q e g a s
  ends ret l o {u} {k} v p q h n i e g a s =
      let z : q ≡ suc p = omega arith in
      ap H z ∙ after returns a (omega arith) return-flow ∙ sym v
  ends brk l o {u} {k} v p q h n i e g a s =
      let z : q ≡ suc p = omega arith in
      let w = past-jump u a (omega arith) s in
      ap H z ∙ omega arith
  ends cont l o {u} {k} v p q h n i e g a s =
      let z : q ≡ suc p = omega arith in
      let w = past-jump u a (omega arith) s in
      ap H z ∙ omega arith
  ends (seq c d) l o v p q h n i e g a s =
      ends d l o.1 v.2 (p + size c) q h n (i + size c) (omega arith) g (has-after W c h n i p a)
      (ends c l o.0 v.1 p (p + size c) h n i refl (omega arith) (has_part W c h n i p _ a) s)
  ends (choose b c d f) l o {u} {k} v p q h n i e g a s =
      let x = p + size c in
      let y = suc x + size d in
      let j = suc (i + size c) in
      let a₁ = has-after W c h n i p a in
      let a₂ = has-after W d h n j (suc x) (has-tail W a₁) in
      let s₁ = ends c l o.0 v.1 p x h n i refl (omega arith) (has_part W c h n i p _ a) s in
      let s₂ = ends d l o.1 v.2 (suc x) y h n j refl (omega arith) (has_part W d h n j (suc x) _ (has-tail W a₁)) (past-asks b (suc (size d)) v.0 a₁ (omega arith) s₁) in
      ends f l o.2 v.3 (suc y) q h n (suc (j + size d)) (omega arith) g (has-tail W a₂) (past-jump k a₂ (omega arith) s₂ ∙ v.4)
  ends (loop c d) l o {u} {k} v p q h n i e g a s =
      let x = p + size c in
      let y = suc x + size d in
      let a₁ = has-after W c h n i p a in
      let a₂ = has-after W d (suc (size c)) (size d) 0 (suc x) (has-tail W a₁) in
      let s₁ = ends c l o.0 v.2 p x h n i refl (omega arith) (has_part W c h n i p _ a) (s ∙ v.0) in
      let s₂ = ends d true o.1 v.3 (suc x) y (suc (size c)) (size d) 0 refl (omega arith) (has_part W d (suc (size c)) (size d) 0 (suc x) _ (has-tail W a₁)) (past-asks false (suc (size d)) 0 a₁ (omega arith) s₁) in
      let z : q ≡ suc y = omega arith in
      ap H z ∙ past-jump 0 a₂ (omega arith) s₂ ∙ sym v.1

  -- so is the place that the end jump before a part goes to
  hops : (c : Code) (l : Bool) → Ok l c → {u k : ℕ} → Level c u k → (p q h n i : ℕ) → q ≡ p + hop c → p + size c ≤ length W → Has W p (flat c h n i) → H p ≡ u → H q ≡ k
  hops (plain is) l o v p q h n i e g a s = ends (plain is) l o v p q h n i e (omega arith) a s
  hops ret l o v p q h n i e g a s = ends ret l o v p q h n i e (omega arith) a s
  hops brk l o v p q h n i e g a s = ends brk l o v p q h n i e (omega arith) a s
  hops cont l o v p q h n i e g a s = ends cont l o v p q h n i e (omega arith) a s
  hops (seq c d) l o v p q h n i e g a s = ends (seq c d) l o v p q h n i e (omega arith) a s
  hops (loop c d) l o v p q h n i e g a s = ends (loop c d) l o v p q h n i e (omega arith) a s
  hops (choose b c d f) l o v p q h n i e g a s =
      let x = p + size c in
      let j = suc (i + size c) in
      let a₁ = has-after W c h n i p a in
      let s₁ = ends c l o.0 v.1 p x h n i refl (omega arith) (has_part W c h n i p _ a) s in
      ends d l o.1 v.2 (suc x) q h n j (omega arith) (omega arith) (has_part W d h n j (suc x) _ (has-tail W a₁)) (past-asks b (suc (size d)) v.0 a₁ (omega arith) s₁)

  -- ---- every place of a part

  keeps-asks : {p : ℕ} {l : List Instr} (b : Bool) (n k t : ℕ) → Has W p (asks b n ∷ l) → p < length W → H p ≡ suc k → landing p n ≡ t → H t ≡ k → Keeps H (asks b n) p
  unfolding flows
  keeps-asks {p} false n k t a g s e w =
      let z : height_after (asks false n) (H p) ≡ k = omega (arith, asks-height_after false n (H p)) in
      record { enough = omega (arith, asks-pops false n); goes = (past-asks false n k a g s ∙ sym z, ap H e ∙ w ∙ sym z) }
  keeps-asks {p} true n k t a g s e w =
      let z : height_after (asks true n) (H p) ≡ k = omega (arith, asks-height_after true n (H p)) in
      record { enough = omega (arith, asks-pops true n); goes = (past-asks true n k a g s ∙ sym z, ap H e ∙ w ∙ sym z) }

  keeps-jump : {p : ℕ} (n k t : ℕ) → H p ≡ k → landing p n ≡ t → H t ≡ k → Keeps H (Jump n) p
  unfolding flows
  keeps-jump {p} n k t s e w = record { enough = omega (arith, jump-pops n); goes = ap H e ∙ w ∙ sym s ∙ sym (jump-height_after n (H p)) }

  keeps-return : {p : ℕ} → Keeps H Return p
  unfolding flows
  keeps-return = record { enough = omega (arith, return-pops); goes = tt }

  keeps-plain : {p : ℕ} {i : Instr} {l : List Instr} {h : ℕ} → Plain i → pops i ≤ h → Has W p (i ∷ l) → p < length W → H p ≡ h → Keeps H i p
  unfolding following
  keeps-plain {p} {i} k e a g s = record { enough = omega arith; goes = subst (λ (f : Flow). Onward H f i p) (sym k.goes) (after straight a g k.goes) }

  steady-plain : {is : List Instr} {h k : ℕ} → Each Plain is → Climbs is h k → (p : ℕ) → p + length is ≤ length W → Has W p is → H p ≡ h → Steady H p is
  unfolding following
  steady-plain none stay p g a s = no_steady
  steady-plain (more {i} l ls) (move x y c) p g a s =
      steady (keeps-plain l x a (omega arith) s) (steady-plain ls c (suc p) (omega arith) (has-tail W a) (after straight a (omega arith) l.goes ∙ ap (height_after i) s ∙ y))

  -- Every place of a part keeps to the heights; y is where the loop around begins, x where it ends
  module _ (room : length W < 4294967296) where
    pub steady-flat : (c : Code) (l : Bool) → Ok l c → {u : ℕ} (k : ℕ) → Level c u k → (p x y h n i : ℕ) → p ≡ y + (h + i) → x ≡ y + suc (h + n)
        → (T l → (i + size c ≤ n) × (x ≤ length W) × (H x ≡ 0) × (H y ≡ 0)) → p + size c ≤ length W → Has W p (flat c h n i) → H p ≡ u → Steady H p (flat c h n i)
    steady-flat (plain is) l o k v p x y h n i e₁ e₂ f g a s = steady-plain o v p g a s
    steady-flat ret l o k v p x y h n i e₁ e₂ f g a s = steady keeps-return no_steady
    steady-flat brk l o k v p x y h n i e₁ e₂ f g a s =
        let w = f o in
        steady (keeps-jump (n - i) 0 x (s ∙ v.0) (forward p (n - i) x (omega arith) (omega arith)) w.2) no_steady
    steady-flat cont l o k v p x y h n i e₁ e₂ f g a s =
        let w = f o in
        steady (keeps-jump (minus (h + suc i)) 0 y (s ∙ v.0) (backward p (h + suc i) y (omega arith) (omega arith) (omega arith)) w.3) no_steady
    steady-flat (seq c d) l o k v p x y h n i e₁ e₂ f g a s =
        let q = p + size c in
        let a₀ = has_part W c h n i p _ a in
        let s₁ = ends c l o.0 v.1 p q h n i refl (omega arith) a₀ s in
        steady-append p q (ap (λ (z : ℕ). p + z) (sym (length-flat c h n i)))
        (steady-flat c l o.0 v.0 v.1 p x y h n i e₁ e₂ (λ t. let w = f t in (omega arith, w.1, w.2, w.3)) (omega arith) a₀ s)
        (steady-flat d l o.1 k v.2 q x y h n (i + size c) (omega arith) e₂ (λ t. let w = f t in (omega arith, w.1, w.2, w.3)) (omega arith) (has-after W c h n i p a) s₁)
    steady-flat (choose b c d e) l o k v p x y h n i e₁ e₂ f g a s =
        let q = p + size c in
        let r = suc q + size d in
        let j = suc (i + size c) in
        let a₀ = has_part W c h n i p _ a in
        let a₁ = has-after W c h n i p a in
        let a₂ = has_part W d h n j (suc q) _ (has-tail W a₁) in
        let a₃ = has-after W d h n j (suc q) (has-tail W a₁) in
        let s₁ = ends c l o.0 v.1 p q h n i refl (omega arith) a₀ s in
        let s₂ = past-asks b (suc (size d)) v.0 a₁ (omega arith) s₁ in
        let s₃ = ends d l o.1 v.2 (suc q) r h n j refl (omega arith) a₂ s₂ in
        let s₄ : H (suc r) ≡ v.0 = past-jump k a₃ (omega arith) s₃ ∙ v.4 in
        steady-append p q (ap (λ (z : ℕ). p + z) (sym (length-flat c h n i)))
        (steady-flat c l o.0 (suc v.0) v.1 p x y h n i e₁ e₂ (λ t. let w = f t in (omega arith, w.1, w.2, w.3)) (omega arith) a₀ s)
        (steady (keeps-asks b (suc (size d)) v.0 (suc r) a₁ (omega arith) s₁ (forward q (suc (size d)) (suc r) (omega arith) (omega arith)) s₄)
        (steady-append (suc q) r (ap (λ (z : ℕ). suc q + z) (sym (length-flat d h n j)))
        (steady-flat d l o.1 k v.2 (suc q) x y h n j (omega arith) e₂ (λ t. let w = f t in (omega arith, w.1, w.2, w.3)) (omega arith) a₂ s₂)
        (steady (keeps-jump (hop e) k (suc r + hop e) s₃ (forward r (hop e) (suc r + hop e) refl (omega (arith, hop-size e)))
        (hops e l o.2 v.3 (suc r) (suc r + hop e) h n (suc (j + size d)) refl (omega arith) (has-tail W a₃) s₄))
        (steady-flat e l o.2 k v.3 (suc r) x y h n (suc (j + size d)) (omega arith) e₂ (λ t. let w = f t in (omega arith, w.1, w.2, w.3)) (omega arith) (has-tail W a₃) s₄))))
    steady-flat (loop c d) l o k v p x y h n i e₁ e₂ f g a s =
        let q = p + size c in
        let r = suc q + size d in
        let a₀ = has_part W c h n i p _ a in
        let a₁ = has-after W c h n i p a in
        let a₂ = has_part W d (suc (size c)) (size d) 0 (suc q) _ (has-tail W a₁) in
        let a₃ = has-after W d (suc (size c)) (size d) 0 (suc q) (has-tail W a₁) in
        let s₁ = ends c l o.0 v.2 p q h n i refl (omega arith) a₀ (s ∙ v.0) in
        let s₂ = past-asks false (suc (size d)) 0 a₁ (omega arith) s₁ in
        let s₃ = ends d true o.1 v.3 (suc q) r (suc (size c)) (size d) 0 refl (omega arith) a₂ s₂ in
        let s₄ = past-jump 0 a₃ (omega arith) s₃ in
        steady-append p q (ap (λ (z : ℕ). p + z) (sym (length-flat c h n i)))
        (steady-flat c l o.0 1 v.2 p x y h n i e₁ e₂ (λ t. let w = f t in (omega arith, w.1, w.2, w.3)) (omega arith) a₀ (s ∙ v.0))
        (steady (keeps-asks false (suc (size d)) 0 (suc r) a₁ (omega arith) s₁ (forward q (suc (size d)) (suc r) (omega arith) (omega arith)) s₄)
        (steady-append (suc q) r (ap (λ (z : ℕ). suc q + z) (sym (length-flat d (suc (size c)) (size d) 0)))
        (steady-flat d true o.1 0 v.3 (suc q) (suc r) p (suc (size c)) (size d) 0 (omega arith) (omega arith) (λ t. (omega arith, omega arith, s₄, s ∙ v.0)) (omega arith) a₂ s₂)
        (steady (keeps-jump _ 0 p s₃ (backward r (suc (suc (size c) + size d)) p (omega arith) (omega arith) (omega arith)) (s ∙ v.0)) no_steady)))
