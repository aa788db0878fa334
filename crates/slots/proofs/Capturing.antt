-- The captures of a lambda, and its slots. Assumes nothing.
use Prim.Native.Nat.{ℕ, ◌+◌, ◌-◌, ◌<◌, ◌≤◌}
use mathlib.Core.Path.{◌≡◌, refl, sym, ap, ◌∙◌, subst, ap₂}
use mathlib.Core.Bool.{Bool, true, false, not, ◌&&◌}
use mathlib.Core.List.{List, [], ◌++◌, append-nil}
use mathlib.Core.Logic.{⊎_elim}
use native.Mathlib.Omega.{arith}
use lib.ListN.{length, take, drop, replicate, length-append, length-drop}
use lib.Seq.{take_all, length-take-le}
use borrow.Rule.Slice.PartMut.{put_mid}
use Rattle.definitions.specs.Bytes.{Name, member}
use Rattle.definitions.specs.Tree.{Expr, lit, var, unary, binary, logical, call, attr, display, index, lambda, Exprs, []ᵉ, ◌∷ᵉ◌}
use Rattle.definitions.specs.Slots.{add, within, sort, referenced_expr, referenced_exprs, captures}
use Rattle.tree_view.specs.Places.{params_at}
use Rattle.names.proofs.Indexing.{slots-count}
use Rattle.state.specs.Index.{Covered, none_covered}
use Rattle.state.specs.State.{names_at, slots_from, slot_names, Slots}
use Rattle.std.specs.Prelude.{Option, Some, None}
use Rattle.slots.specs.Slotted.{first_names, Indexed, Appended, Collected}
use Rattle.slots.specs.Held.{mark_all, is_free, Marked, add_held, held_expr, held_exprs, Held, no_held, WalkKeeps, CapturesAt}
use Rattle.slots.proofs.Adding.{first-length, mid-front}
use Rattle.slots.proofs.Holding.{bool-or, within_none, within-add, within-other, held_in, held_out, held-expr, held-few}
use Rattle.slots.proofs.Marking.{marked-none, marked_all, free-is}
use Rattle.slots.proofs.Params.{collected-count, collected-over}
use Rattle.std.proofs.Math.Bool.{and-false}

first-none : (t ps : List ℕ) → first_names t 0 ps ≡ []
unfolding first_names names_at
first-none t ps = refl

pub keeping_start : (t parent ps : List ℕ) → length t ≤ 32768 → Slots t parent → slots_from + 256 ≤ length ps → WalkKeeps t parent ps 0
keeping_start t parent ps h k g = record {
  short = h;
  slots = k;
  room = g;
  most = omega arith;
  held = subst (Held (slot_names t parent)) (sym (first-none t ps)) no_held;
  indexed = record { at = subst (Covered slots_from ps 0) (sym (first-none t ps)) none_covered };
}

-- ---- names gathered among those that have a free slot are those referenced that have a slot

module _ (slots : List Name) where
  held-var : (bound : List Name) (ms : List Bool) → Marked slots bound ms → (x : Name) (xs : List Name) (b : Bool) → member x bound ≡ b →
      within slots (elim b as (λ _. List Name) [ true ↦ xs | false ↦ add x xs ]) ≡ add_held slots ms x (within slots xs)
  held-var bound ms k x xs true e = sym (held_out slots ms x (within slots xs) (free-is slots bound ms k x ∙ ap (λ (b : Bool). member x slots && not b) e ∙ and-false (member x slots)))
  held-var bound ms k x xs false e =
      let f : is_free slots ms x ≡ (member x slots && true) = free-is slots bound ms k x ∙ ap (λ (b : Bool). member x slots && not b) e in
      ⊎_elim
      (λ (h : member x slots ≡ true). within-add slots x xs h ∙ sym (held_in slots ms x (within slots xs) (f ∙ ap (λ (b : Bool). b && true) h)))
      (λ (h : member x slots ≡ false). within-other slots x xs h ∙ sym (held_out slots ms x (within slots xs) (f ∙ ap (λ (b : Bool). b && true) h)))
      (bool-or (member x slots))

  mutual
    unfolding referenced_expr referenced_exprs held_expr held_exprs

    held-referenced : (bound : List Name) (ms : List Bool) → Marked slots bound ms → (e : Expr) (xs : List Name) → within slots (referenced_expr bound e xs) ≡ held_expr slots ms e (within slots xs)
    held-referenced bound ms k (lit l) xs = refl
    held-referenced bound ms k (var x) xs = held-var bound ms k x xs (member x bound) refl
    held-referenced bound ms k (unary op e) xs = held-referenced bound ms k e xs
    held-referenced bound ms k (binary op l r) xs = held-referenced bound ms k r (referenced_expr bound l xs) ∙ ap (held_expr slots ms r) (held-referenced bound ms k l xs)
    held-referenced bound ms k (logical op l r) xs = held-referenced bound ms k r (referenced_expr bound l xs) ∙ ap (held_expr slots ms r) (held-referenced bound ms k l xs)
    held-referenced bound ms k (call f es) xs = all-referenced bound ms k es (referenced_expr bound f xs) ∙ ap (held_exprs slots ms es) (held-referenced bound ms k f xs)
    held-referenced bound ms k (attr o x) xs = held-referenced bound ms k o xs
    held-referenced bound ms k (display d es) xs = all-referenced bound ms k es xs
    held-referenced bound ms k (index o i) xs = held-referenced bound ms k i (referenced_expr bound o xs) ∙ ap (held_expr slots ms i) (held-referenced bound ms k o xs)
    held-referenced bound ms k (lambda ps b) xs = held-referenced (ps ++ bound) (mark_all slots ps ms) (marked_all slots ps bound ms k) b xs

    all-referenced : (bound : List Name) (ms : List Bool) → Marked slots bound ms → (es : Exprs) (xs : List Name) → within slots (referenced_exprs bound es xs) ≡ held_exprs slots ms es (within slots xs)
    all-referenced bound ms k []ᵉ xs = refl
    all-referenced bound ms k (e ∷ᵉ es) xs = all-referenced bound ms k es (referenced_expr bound e xs) ∙ ap (held_exprs slots ms es) (held-referenced bound ms k e xs)

  -- the captures of a lambda: its own parameters are marked from the start
  captures-held : (ps : List Name) (b : Expr) → length slots ≤ 256 → captures slots ps b ≡ sort (held_expr slots (mark_all slots ps (replicate 256 false)) b [])
  unfolding captures
  captures-held ps b h =
      let k = marked_all slots ps [] (replicate 256 false) (marked-none slots 256 h) in
      ap (λ (qs : List Name). sort (within slots (referenced_expr qs b []))) (sym (append-nil ps))
      ∙ ap sort (held-referenced (ps ++ []) (mark_all slots ps (replicate 256 false)) k b [] ∙ ap (held_expr slots (mark_all slots ps (replicate 256 false)) b) (within_none slots))

module _ (t parent ps₀ ps₁ : List ℕ) (ms : List Bool) (n p : ℕ) (b : Expr) (s : Slots t parent) (m : ms ≡ mark_all (slot_names t parent) (params_at t p).value (replicate 256 false))
    (most : slots_from + n ≤ length ps₁) (f : first_names t n ps₁ ≡ held_expr (slot_names t parent) ms b (first_names t 0 ps₀)) where
  abbrev qs : List Name
  qs = (params_at t p).value

  kept-names : first_names t n ps₁ ≡ held_expr (slot_names t parent) ms b []
  kept-names = f ∙ ap (held_expr (slot_names t parent) ms b) (first-none t ps₀)

  few-kept : slots_from + n ≤ length parent
  few-kept =
      let r = s.room in
      let c = slots-count t parent s in
      omega (arith, held-few _ (slot_names t parent) (held-expr (slot_names t parent) ms b [] no_held), ap length kept-names, first-length t n ps₁ most, c.0)

  module _ (part : List ℕ) (h : length part ≡ length (take (slots_from + n - slots_from) (drop slots_from ps₁))) (o : names_at t part ≡ sort (names_at t (take (slots_from + n - slots_from) (drop slots_from ps₁)))) where
    lent-part : take (slots_from + n - slots_from) (drop slots_from ps₁) ≡ take n (drop slots_from ps₁)
    lent-part = ap (λ (m : ℕ). take m (drop slots_from ps₁)) (let z : slots_from + n - slots_from ≡ n = omega arith in z)

    part-long : length part ≡ n
    part-long = h ∙ ap length lent-part ∙ length-take-le n (drop slots_from ps₁) (let z = length-drop slots_from ps₁ in omega arith)

    held-few-slots : length (slot_names t parent) ≤ 256
    held-few-slots = let c = slots-count t parent s in omega (arith, c.0, c.1)

    pub captured : CapturesAt n t parent (put_mid slots_from (slots_from + n - slots_from) ps₁ part) (captures (slot_names t parent) (params_at t p).value b)
    unfolding first_names
    captured =
        record {
          few = few-kept;
          names = ap (names_at t) (mid-front slots_from (slots_from + n - slots_from) n ps₁ part (omega arith) (omega (arith, part-long)) ∙ take_all n part (omega (arith, part-long)))
              ∙ o ∙ ap (λ (l : List ℕ). sort (names_at t l)) lent-part ∙ ap sort (kept-names ∙ ap (λ (k : List Bool). held_expr (slot_names t parent) k b []) m) ∙ sym (captures-held (slot_names t parent) qs b held-few-slots);
        }

-- ---- parameters, then captures

module _ (r : Option ℕ) (t ps₁ : List ℕ) (qs : List Name) (c : Collected r t ps₁ qs) where
  pub lambda-over : (ps : List ℕ) (cs : List Name) → r ≡ None → Collected None t ps (qs ++ cs)
  unfolding Collected
  lambda-over ps cs e = let h = collected-over r t ps₁ qs c e in omega (arith, length-append qs cs)

  module _ (k : ℕ) (e : r ≡ Some k) (room : slots_from + 256 ≤ length ps₁) where
    pub params-few : k ≤ 255
    params-few = (collected-count r t ps₁ qs k c e).0

    module _ (parent kept : List ℕ) (s : Slots t parent) (n : ℕ) (cs : List Name) (g : CapturesAt n t parent kept cs) (w : length kept ≡ slots_from + 256) where
      pub lambda-few : n ≤ 255
      lambda-few = let a = g.few in let b = s.few in omega arith

      lent : take (slots_from + n - slots_from) (drop slots_from kept) ≡ take n (drop slots_from kept)
      lent = ap (λ (m : ℕ). take m (drop slots_from kept)) (let z : slots_from + n - slots_from ≡ n = omega arith in z)

      pub lent_length : length (take (slots_from + n - slots_from) (drop slots_from kept)) ≡ n
      lent_length = ap length lent ∙ length-take-le n (drop slots_from kept) (let x = lambda-few in let z = length-drop slots_from kept in omega arith)

      pub lambda-done : (ps₂ : List ℕ) → k + n ≤ 255 → Appended t k (take (slots_from + n - slots_from) (drop slots_from kept)) ps₁ ps₂ → Collected (Some (k + n)) t ps₂ (qs ++ cs)
      unfolding Collected first_names
      lambda-done ps₂ h a = (
        h,
        ap (λ (m : ℕ). first_names t (k + m) ps₂) (sym lent_length) ∙ a.names ∙ ap₂ (λ (x y : List Name). x ++ y) (collected-count r t ps₁ qs k c e).1 (ap (names_at t) lent ∙ g.names),
        subst (λ (m : ℕ). Indexed t (k + m) ps₂) lent_length a.indexed,
      )

      pub lambda-more : (ps₂ : List ℕ) → 255 < k + n → Collected None t ps₂ (qs ++ cs)
      unfolding Collected
      lambda-more ps₂ h = let m = params-few in let x = lambda-few in
          omega (arith, length-append qs cs, ap length (collected-count r t ps₁ qs k c e).1, first-length t k ps₁ (omega arith), ap length g.names, first-length t n kept (omega arith))

pub room-kept : (ps ps₁ : List ℕ) → slots_from + 256 ≤ length ps → length ps₁ ≡ length ps → slots_from + 256 ≤ length ps₁
room-kept ps ps₁ h e = omega arith
