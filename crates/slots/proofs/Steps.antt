-- What a walk's steps leave, one after another. Assumes nothing.
use Prim.Native.Nat.{ℕ, ◌+◌, ◌<◌, ◌≤◌}
use mathlib.Core.Path.{◌≡◌, refl, ap, ◌∙◌, subst}
use mathlib.Core.List.{List}
use native.Mathlib.Omega.{arith}
use lib.ListN.{length}
use Rattle.definitions.specs.Bytes.{Name}
use Rattle.tree_view.specs.Places.{Node}
use Rattle.std.specs.Prelude.{Option, Some, None}
use Rattle.slots.specs.Slotted.{up_to256}
use Rattle.slots.specs.Gathered.{names_gathered, Adds, Gathers}
use Rattle.slots.specs.declared.walk.Gathering.{Gathering}

-- ---- what is added

-- nothing
pub adds-none : {A : Type 0} {x : A} (a : Gathering) → Adds (Some x) (names_gathered a) 0 a a
adds-none a = record {
  names = λ y e. refl;
  counted = λ y e. omega (arith, a.loops_most);
  over = λ e. (let z : ◌≡◌ {A = ℕ} 0 1 = cc in absurd (omega arith));
  same_tree = refl;
  same_slots = refl;
}

-- too many names
pub adds-over : {A : Type 0} {w : List Name} {k : ℕ} {a b : Gathering} → 255 < length w → b.tree.now ≡ a.tree.now → b.slots.ghost_name ≡ a.slots.ghost_name → Adds {A = A} None w k a b
adds-over h e f = record {
  names = λ x g. (let z : ◌≡◌ {A = ℕ} 0 1 = cc in absurd (omega arith));
  counted = λ x g. (let z : ◌≡◌ {A = ℕ} 0 1 = cc in absurd (omega arith));
  over = λ g. h;
  same_tree = e;
  same_slots = f;
}

-- by other words for the names and the loops
pub adds-as : {A : Type 0} {r : Option A} {w w' : List Name} {k k' : ℕ} {a b : Gathering} → w ≡ w' → k ≡ k' → Adds r w k a b → Adds r w' k' a b
adds-as {r} {w} {w'} {k} {k'} {a} {b} e f s = subst (λ (n : ℕ). Adds r w' n a b) f (subst (λ (n : List Name). Adds r n k a b) e s)

-- a step that went on, with another answer
pub adds-on : {A B : Type 0} {r : Option A} {x : A} {y : B} {w : List Name} {k : ℕ} {a b : Gathering} → r ≡ Some x → Adds r w k a b → Adds (Some y) w k a b
adds-on {x = x} e s = record {
  names = λ z f. s.names x e;
  counted = λ z f. s.counted x e;
  over = λ f. (let z : ◌≡◌ {A = ℕ} 0 1 = cc in absurd (omega arith));
  same_tree = s.same_tree;
  same_slots = s.same_slots;
}

-- a step that stopped: more names are too many, too
pub adds-stopped : {A B : Type 0} {r : Option A} {o : Option B} {w w' : List Name} {k k' : ℕ} {a b : Gathering} → r ≡ None → o ≡ None → length w ≤ length w' → Adds r w k a b → Adds o w' k' a b
adds-stopped e f h s = record {
  names = λ x g. (let z : ◌≡◌ {A = ℕ} 0 1 = cc in absurd (omega arith));
  counted = λ x g. (let z : ◌≡◌ {A = ℕ} 0 1 = cc in absurd (omega arith));
  over = λ g. omega (arith, s.over e, h);
  same_tree = s.same_tree;
  same_slots = s.same_slots;
}

-- one more step
pub adds-then : {A B : Type 0} {r : Option A} {o : Option B} {x : A} {w w' : List Name} {k m : ℕ} {a b c : Gathering} → r ≡ Some x → Adds r w k a b → Adds o w' m b c → Adds o w' (k + m) a c
adds-then {x = x} {k = k} {m} {a} {b} e s t = record {
  names = t.names;
  counted = λ y f. omega (arith, s.counted x e, t.counted y f);
  over = t.over;
  same_tree = t.same_tree ∙ s.same_tree;
  same_slots = t.same_slots ∙ s.same_slots;
}

-- a loop that was counted before
pub adds-counted : {A : Type 0} {r : Option A} {w : List Name} {a a' b : Gathering} → a'.loops ≡ up_to256 (a.loops + 1) → a'.tree.now ≡ a.tree.now → a'.slots.ghost_name ≡ a.slots.ghost_name → Adds r w 0 a' b → Adds r w 1 a b
adds-counted e f g s = record {
  names = s.names;
  counted = λ x h. omega (arith, e, s.counted x h);
  over = s.over;
  same_tree = s.same_tree ∙ f;
  same_slots = s.same_slots ∙ g;
}

-- ---- a part gathered

-- by another word for the part
pub gathers-as : {I A : Type 0} {r : Option ℕ} {f : A → List Name → List Name} {l : A → ℕ} {a b : Gathering} (part : I → Node A) {i j : I} → i ≡ j → Gathers r (part i) f l a b → Gathers r (part j) f l a b
gathers-as {I} {A} {r} {f} {l} {a} {b} part e g = subst (λ (i : I). Gathers r (part i) f l a b) e g

module _ {A : Type 0} {part : Node A} {f : A → List Name → List Name} {l : A → ℕ} {a b : Gathering} where
  -- what is added is what the part has, and it ends at p
  pub gathers-to : {p : ℕ} {w : List Name} {k : ℕ} → p ≡ part.end → w ≡ f part.value (names_gathered a) → k ≡ l part.value → Adds (Some p) w k a b → Gathers (Some p) part f l a b
  gathers-to {p} h e e' s = record { next = λ q g. (let z : q ≡ p = cc in z ∙ h); adds = adds-as e e' s }

  -- a step that stopped
  pub gathers-stopped : {B : Type 0} {r : Option B} {o : Option ℕ} {w : List Name} {k : ℕ} → r ≡ None → o ≡ None → length w ≤ length (f part.value (names_gathered a)) → Adds r w k a b → Gathers o part f l a b
  gathers-stopped e h m s = record { next = λ q g. (let z : ◌≡◌ {A = ℕ} 0 1 = cc in absurd (omega arith)); adds = adds-stopped e h m s }

-- a part with nothing to gather
pub gathers-none : {A : Type 0} {part : Node A} {f : A → List Name → List Name} {l : A → ℕ} {p : ℕ} (a : Gathering) → p ≡ part.end → names_gathered a ≡ f part.value (names_gathered a) → 0 ≡ l part.value → Gathers (Some p) part f l a a
gathers-none a h e k = gathers-to h e k (adds-none a)

-- ---- a part of two parts

pub record Splits {A B C : Type 0} (x : Node A) (f : A → List Name → List Name) (l : A → ℕ) (y : Node B) (g : B → List Name → List Name) (m : B → ℕ) (z : Node C) (h : C → List Name → List Name) (n : C → ℕ) : Type 0 where
  pub end : z.end ≡ x.end
  pub names : (xs : List Name) → h z.value (g y.value xs) ≡ f x.value xs
  pub loops : m y.value + n z.value ≡ l x.value
  pub grows : (xs : List Name) → length xs ≤ length (h z.value xs)

module _ {A B C : Type 0} {x : Node A} {f : A → List Name → List Name} {l : A → ℕ} {y : Node B} {g : B → List Name → List Name} {m : B → ℕ} {z : Node C} {h : C → List Name → List Name} {n : C → ℕ}
    {r o : Option ℕ} {a b : Gathering} (s : Splits x f l y g m z h n) (first : Gathers r y g m a b) where
  pub parts-stopped : r ≡ None → o ≡ None → Gathers o x f l a b
  parts-stopped e i = gathers-stopped e i (omega (arith, s.grows (g y.value (names_gathered a)), ap length (s.names (names_gathered a)))) first.adds

  pub parts-done : {c : Gathering} {p : ℕ} → r ≡ Some p → Gathers o z h n b c → Gathers o x f l a c
  parts-done {p = p} e t = record {
    next = λ q i. t.next q i ∙ s.end;
    adds = adds-as (ap (h z.value) (first.adds.names p e) ∙ s.names (names_gathered a)) s.loops (adds-then e first.adds t.adds);
  }

-- ---- parts, one after another: what is left gives what the whole gives

pub record Left {A : Type 0} (whole part : Node A) (f : A → List Name → List Name) (l : A → ℕ) (a b : Gathering) : Type 0 where
  pub rest : (o : Option ℕ) (c : Gathering) → Gathers o part f l b c → Gathers o whole f l a c
  pub same_tree : b.tree.now ≡ a.tree.now
  pub same_slots : b.slots.ghost_name ≡ a.slots.ghost_name

pub left-start : {A : Type 0} {whole part : Node A} {f : A → List Name → List Name} {l : A → ℕ} (a : Gathering) → part ≡ whole → Left whole part f l a a
left-start {A} {f = f} {l} a e = record { rest = λ o c g. subst (λ (x : Node A). Gathers o x f l a c) e g; same_tree = refl; same_slots = refl }

module _ {A B : Type 0} {whole x z : Node A} {f : A → List Name → List Name} {l : A → ℕ} {y : Node B} {g : B → List Name → List Name} {m : B → ℕ} {r : Option ℕ} {a b c : Gathering}
    (k : Left whole x f l a b) (s : Splits x f l y g m z f l) (first : Gathers r y g m b c) where
  pub left-next : {p : ℕ} → r ≡ Some p → Left whole z f l a c
  left-next e = record { rest = λ o d t. k.rest o d (parts-done s first e t); same_tree = first.adds.same_tree ∙ k.same_tree; same_slots = first.adds.same_slots ∙ k.same_slots }

  pub left-stopped : {o : Option ℕ} → r ≡ None → o ≡ None → Gathers o whole f l a c
  left-stopped {o} e i = k.rest o c (parts-stopped s first e i)
