-- Question 14, one part after another, and one element of a list after another. Assumes nothing.
use Prim.Native.Nat.{ℕ, ◌+◌, ◌-◌, ◌≤◌}
use mathlib.Core.Path.{◌≡◌, refl, sym, ap, ◌∙◌, subst, ap₂}
use mathlib.Core.Bool.{Bool, true, false, ◌&&◌}
use mathlib.Core.List.{List}
use native.Mathlib.Omega.{arith}
use lib.Dec.{leb}
use lib.ListN.{length, take, drop}
use borrow.Author.Tests.{le-leb, lt-leb}
use Rattle.definitions.specs.Bytes.{Name}
use Rattle.definitions.specs.Tree.{Expr, Block}
use Rattle.state.specs.State.{slots_from, slot_names, Slots}
use Rattle.definitions.specs.Fits.{fits_expr, fits_block}
use Rattle.slots.specs.Slotted.{Collected, first_names, Indexed, Frames}
use Rattle.definitions.specs.Slots.{Frame}
use Rattle.slots.specs.declared.collect.Framed.{Framed}
use Rattle.slots.proofs.Adding.{first-length, part-before, front-names, front-slots}
use Rattle.slots.proofs.Params.{collected-count, collected-over}
use Rattle.fits.specs.Walk.{WalkAnswers, lambda_fits, def_fits}
use Rattle.std.specs.Prelude.{Option, Some, None}

-- ---- the two answers

pub walks-as : (r : Option ℕ) (e e' : ℕ) (b b' : Bool) → WalkAnswers r e b → e ≡ e' → b ≡ b' → WalkAnswers r e' b'
walks-as r e e' b b' w h k = subst (λ (x : ℕ). WalkAnswers r x b') h (subst (λ (x : Bool). WalkAnswers r e x) k w)

pub walks_next : (r : Option ℕ) (e : ℕ) (b : Bool) (p : ℕ) → WalkAnswers r e b → r ≡ Some p → (p ≡ e) × (b ≡ true)
unfolding WalkAnswers
walks_next r e b p w h = subst (λ (s : Option ℕ). WalkAnswers s e b) h w

pub walks-over : (r : Option ℕ) (e : ℕ) (b : Bool) → WalkAnswers r e b → r ≡ None → b ≡ false
unfolding WalkAnswers
walks-over r e b w h = subst (λ (s : Option ℕ). WalkAnswers s e b) h w

pub next-walks : (p e : ℕ) (b : Bool) → p ≡ e → b ≡ true → WalkAnswers (Some p) e b
unfolding WalkAnswers
next-walks p e b h k = (h, k)

pub over-walks : (e : ℕ) (b : Bool) → b ≡ false → WalkAnswers None e b
unfolding WalkAnswers
over-walks e b h = h

-- what a call that stops hands on
pub stopped : (r : Option ℕ) (e : ℕ) (b : Bool) → r ≡ None → WalkAnswers None e b → WalkAnswers r e b
stopped r e b h w = subst (λ (x : Option ℕ). WalkAnswers x e b) (sym h) w

-- a question of two parts
pub first-over : (r : Option ℕ) (e e' : ℕ) (b c : Bool) → WalkAnswers r e b → r ≡ None → WalkAnswers None e' (b && c)
first-over r e e' b c w h = over-walks e' (b && c) (ap (λ (x : Bool). x && c) (walks-over r e b w h))

pub second_walks : (r o : Option ℕ) (e p e' : ℕ) (b c : Bool) → WalkAnswers r e b → r ≡ Some p → WalkAnswers o e' c → WalkAnswers o e' (b && c)
second_walks r o e p e' b c w h g = walks-as o e' e' c (b && c) g refl (sym (ap (λ (x : Bool). x && c) (walks_next r e b p w h).1))

-- ---- lists: what is left of n₀ elements answers as all do

pub record Left (R : ℕ → ℕ → Type 0) (E : ℕ → ℕ → ℕ) (B : ℕ → ℕ → Bool) (n₀ p₀ n p : ℕ) : Type 0 where
  pub reads : R n p
  pub end : E n₀ p₀ ≡ E n p
  pub ok : B n₀ p₀ ≡ B n p

-- the first of n elements ends at m and answers b
pub record Step (R : ℕ → ℕ → Type 0) (E : ℕ → ℕ → ℕ) (B : ℕ → ℕ → Bool) (n p m : ℕ) (b : Bool) : Type 0 where
  pub rest : R (n - 1) m
  pub end : E n p ≡ E (n - 1) m
  pub ok : B n p ≡ (b && B (n - 1) m)

module _ (R : ℕ → ℕ → Type 0) (E : ℕ → ℕ → ℕ) (B : ℕ → ℕ → Bool) (n₀ p₀ n p : ℕ) (l : Left R E B n₀ p₀ n p) where
  pub left-next : (m : ℕ) (b : Bool) (r : Option ℕ) (e k : ℕ) → Step R E B n p m b → WalkAnswers r m b → r ≡ Some e → n - 1 ≡ k → Left R E B n₀ p₀ k e
  left-next m b r e k s w h f =
      let z = walks_next r m b e w h in
      subst (λ (j : ℕ). Left R E B n₀ p₀ j e) f (record {
        reads = subst (R (n - 1)) (sym z.0) s.rest;
        end = l.end ∙ s.end ∙ ap (E (n - 1)) (sym z.0);
        ok = l.ok ∙ s.ok ∙ ap (λ (x : Bool). x && B (n - 1) m) z.1 ∙ ap (B (n - 1)) (sym z.0);
      })

  pub left_over : (m : ℕ) (b : Bool) (r : Option ℕ) → Step R E B n p m b → WalkAnswers r m b → r ≡ None → WalkAnswers None (E n₀ p₀) (B n₀ p₀)
  left_over m b r s w h = over-walks (E n₀ p₀) (B n₀ p₀) (l.ok ∙ s.ok ∙ ap (λ (x : Bool). x && B (n - 1) m) (walks-over r m b w h))

  pub left-done : E n p ≡ p → B n p ≡ true → WalkAnswers (Some p) (E n₀ p₀) (B n₀ p₀)
  left-done h k = next-walks p (E n₀ p₀) (B n₀ p₀) (sym (l.end ∙ h)) (l.ok ∙ k)

pub left-start : (R : ℕ → ℕ → Type 0) (E : ℕ → ℕ → ℕ) (B : ℕ → ℕ → Bool) (n p k : ℕ) → n ≡ k → R n p → Left R E B n p k p
left-start R E B n p k e r = subst (λ (j : ℕ). Left R E B n p j p) e (record { reads = r; end = refl; ok = refl })

-- ---- the slots of a function inside

-- the first n slots have the names
module _ (t ps : List ℕ) (inner : List Name) (n : ℕ) (few : n ≤ 255) (names : first_names t n ps ≡ inner) (indexed : Indexed t n ps) (g : slots_from + 255 ≤ length ps) where
  inner_room : slots_from + n ≤ length ps
  inner_room = omega arith

  inner-names : slot_names t (take (slots_from + n - 0) (drop 0 ps)) ≡ inner
  inner-names = ap (slot_names t) (part-before (slots_from + n) ps) ∙ front-names t ps n inner_room ∙ names

  inner-slots : Slots t (take (slots_from + n - 0) (drop 0 ps))
  inner-slots = subst (Slots t) (sym (part-before (slots_from + n) ps)) (front-slots t ps n inner_room few indexed)

-- of a lambda
module _ (r : Option ℕ) (t ps : List ℕ) (inner : List Name) (c : Collected r t ps inner) where
  pub lambda-over : (e : ℕ) (b : Expr) → r ≡ None → WalkAnswers None e (lambda_fits inner b)
  unfolding lambda_fits
  lambda-over e b h = over-walks e _ (ap (λ (x : Bool). x && fits_expr inner b) (lt-leb (length inner) 255 (collected-over r t ps inner c h)))

  module _ (n : ℕ) (h : r ≡ Some n) where
    pub slots-few : n ≤ 255
    slots-few = (collected-count r t ps inner n c h).0

    module _ (g : slots_from + 255 ≤ length ps) where
      few-names : leb (length inner) 255 ≡ true
      few-names =
          let a = slots-few in
          le-leb (length inner) 255 (omega (arith, ap length (collected-count r t ps inner n c h).1, first-length t n ps (inner_room t ps inner n a (collected-count r t ps inner n c h).1 (collected-count r t ps inner n c h).2 g)))

      pub lambda-slotted : Slots t (take (slots_from + n - 0) (drop 0 ps))
      lambda-slotted = inner-slots t ps inner n slots-few (collected-count r t ps inner n c h).1 (collected-count r t ps inner n c h).2 g

      pub lambda-inside : (o : Option ℕ) (e e' : ℕ) (b b' : Expr) → e ≡ e' → b ≡ b' → WalkAnswers o e (fits_expr (slot_names t (take (slots_from + n - 0) (drop 0 ps))) b) → WalkAnswers o e' (lambda_fits inner b')
      unfolding lambda_fits
      lambda-inside o e e' b b' i j w =
          walks-as o e e' _ _ w i (ap₂ fits_expr (inner-names t ps inner n slots-few (collected-count r t ps inner n c h).1 (collected-count r t ps inner n c h).2 g) j ∙ sym (ap (λ (x : Bool). x && fits_expr inner b') few-names))

-- of a def or method
module _ {r : Option Framed} {t ps : List ℕ} {inner : Frame} (c : Frames r t ps inner) where
  pub def-over : (e : ℕ) (b : Block) → r ≡ None → WalkAnswers None e (def_fits inner b)
  unfolding def_fits
  def-over e b h = over-walks e _ (ap (λ (x : Bool). x && fits_block inner.names b) (lt-leb inner.locals 255 (c.over h)))

  module _ {g₀ : Framed} (h : r ≡ Some g₀) where
    pub def-few : g₀.named ≤ 255
    def-few = let F = c.framing _ h in omega (arith, F.named, F.few)

    module _ (g : slots_from + 255 ≤ length ps) where
      pub def-slotted : Slots t (take (slots_from + g₀.named - 0) (drop 0 ps))
      def-slotted = let F = c.framing _ h in inner-slots t ps inner.names g₀.named def-few F.names F.indexed g

      pub def-inside : {e e' : ℕ} {b b' : Block} (o : Option ℕ) → e ≡ e' → b ≡ b' → WalkAnswers o e (fits_block (slot_names t (take (slots_from + g₀.named - 0) (drop 0 ps))) b) → WalkAnswers o e' (def_fits inner b')
      unfolding def_fits
      def-inside {e} {e'} {b} {b'} o i j w =
          let F = c.framing _ h in
          walks-as o e e' _ _ w i (ap₂ fits_block (inner-names t ps inner.names g₀.named def-few F.names F.indexed g) j
          ∙ sym (ap (λ (x : Bool). x && fits_block inner.names b') (le-leb inner.locals 255 (omega (arith, F.locals, F.few)))))
