-- The places of parameters as the first slots; locals after them. Assumes nothing.
use Prim.Native.Nat.{ℕ, suc, ◌+◌, ◌-◌, ◌<◌, ◌≤◌}
use mathlib.Core.Path.{◌≡◌, sym, ap, ◌∙◌, subst}
use mathlib.Core.List.{List, [], ◌∷◌, ◌++◌, append_assoc, append-nil}
use native.Mathlib.Omega.{arith}
use lib.ListN.{length, set}
use lib.Seq.{take_all}
use Rattle.definitions.specs.Bytes.{Name}
use Rattle.definitions.specs.Tree.{Block}
use Rattle.state.specs.Index.{Covered}
use Rattle.state.specs.State.{names_at, slots_from}
use Rattle.definitions.specs.Slots.{locals_block, loops_block, Frame, with_loops}
use Rattle.tree_view.specs.Places.{Node, count_at, name_from, name_end, There, names_from, AllThere, ParamsAt, params_at}
use Rattle.tree_view.proofs.NameLaws.{there-first, there-next, length-names}
use Rattle.std.specs.Prelude.{Option, Some, None}
use Rattle.slots.specs.Slotted.{leading, first_names, Indexed, Collected, up_to256, Framing, Frames}
use Rattle.slots.specs.Gathered.{names_gathered, Gathers}
use Rattle.slots.specs.declared.walk.Gathering.{Gathering}
use Rattle.slots.specs.declared.collect.Framed.{Framed}
use Rattle.slots.proofs.Adding.{leading-set, first-length}
use Rattle.slots.proofs.Reindexing.{placed-names, placed, front-all}
use Rattle.definitions.proofs.Named.{block-grows}

names-first : (t : List ℕ) (n k p : ℕ) → n ≡ suc k → names_from t n p ≡ name_from t p ∷ names_from t k (name_end t p)
unfolding names_from
names-first t n k p e = ap (λ (m : ℕ). names_from t m p) e

pub params-names : (t : List ℕ) (a n : ℕ) → n ≡ count_at t a → names_from t n (a + 2) ≡ (params_at t a).value
unfolding params_at
params-names t a n e = ap (λ (m : ℕ). names_from t m (a + 2)) e

pub params-all : (t : List ℕ) (a n : ℕ) → ParamsAt t a → n ≡ count_at t a → AllThere t n (a + 2)
params-all t a n h e = subst (λ (m : ℕ). AllThere t m (a + 2)) (sym e) h.names

-- the names put so far and those that follow from p on
pub record ParamsLeft (t : List ℕ) (n a : ℕ) (ps : List ℕ) (p i : ℕ) : Type 0 where
  pub names : leading t i ps ++ names_from t (n - i) p ≡ names_from t n a
  pub there : AllThere t (n - i) p
  pub most : i ≤ n

module _ (t ps : List ℕ) (n a : ℕ) where
  pub params-start : AllThere t n a → ParamsLeft t n a ps a 0
  unfolding leading names_at
  params-start h =
      let z : n - 0 ≡ n = omega arith in
      record {
        names = ap (λ (m : ℕ). names_from t m a) z;
        there = subst (λ (m : ℕ). AllThere t m a) (sym z) h;
        most = omega arith;
      }

module _ (t : List ℕ) (n a : ℕ) (ps : List ℕ) (p i : ℕ) (l : ParamsLeft t n a ps p i) where
  pub params-head : i < n → There t p
  params-head h = there-first t (n - i) p (omega arith) l.there

  pub params-next : (e : ℕ) → i < n → n ≤ length ps → e ≡ name_end t p → ParamsLeft t n a (set ps i p) e (i + 1)
  params-next e h m k =
      let z : n - (i + 1) ≡ n - i - 1 = omega arith in
      let y : n - i ≡ suc (n - i - 1) = omega arith in
      record {
        names = ap (λ (xs : List Name). xs ++ names_from t (n - (i + 1)) e) (leading-set t i p ps (omega arith)) ∙ append_assoc (leading t i ps) (name_from t p ∷ []) (names_from t (n - (i + 1)) e)
            ∙ ap (λ (m : ℕ). leading t i ps ++ (name_from t p ∷ names_from t m e)) z ∙ ap (λ (m : ℕ). leading t i ps ++ (name_from t p ∷ names_from t (n - i - 1) m)) k
            ∙ ap (λ (xs : List Name). leading t i ps ++ xs) (sym (names-first t (n - i) (n - i - 1) p y)) ∙ l.names;
        there = subst (λ (m : ℕ). AllThere t m e) (sym z) (there-next t (n - i) p e k (omega arith) l.there);
        most = omega arith;
      }

  pub params-done : n ≤ i → length ps ≡ n → names_at t ps ≡ names_from t n a
  unfolding names_from leading
  params-done h w =
      let m = l.most in
      let y : i ≡ n = omega arith in
      let z : n - i ≡ 0 = omega arith in
      ap (names_at t) (sym (take_all i ps (omega arith))) ∙ sym (append-nil (leading t i ps)) ∙ ap (λ (j : ℕ). leading t i ps ++ names_from t j p) (sym z) ∙ l.names

-- the places of parameters put into slots, and these indexed
pub params-put : (t index part rest : List ℕ) (n m a : ℕ) → n ≤ 255 → length index ≡ slots_from → m ≡ n → length part ≡ m → Covered slots_from index 0 (names_at t part) → names_at t part ≡ names_from t m (a + 2) → n ≡ count_at t a
    → Collected (Some n) t (index ++ (part ++ rest)) (params_at t a).value
unfolding Collected params_at
params-put t index part rest n m a h k e w v f g =
    let q = ap (names_at t) (front-all n part rest (w ∙ e)) in (
      h,
      placed-names t index (part ++ rest) k n ∙ q ∙ f ∙ ap (λ (j : ℕ). names_from t j (a + 2)) (e ∙ g),
      placed t index (part ++ rest) k n (subst (Covered slots_from index 0) (sym q) v),
    )

pub params-over : (t ps : List ℕ) (n a : ℕ) → n ≡ count_at t a → 255 < n → Collected None t ps (params_at t a).value
unfolding Collected params_at
params-over t ps n a e h = let z = e in omega (arith, length-names t (count_at t a) (a + 2))

-- ---- locals after parameters

pub collected-count : (r : Option ℕ) (t ps : List ℕ) (want : List Name) (n : ℕ) → Collected r t ps want → r ≡ Some n → (n ≤ 255) × (first_names t n ps ≡ want) × Indexed t n ps
unfolding Collected
collected-count r t ps want n c e = subst (λ (s : Option ℕ). Collected s t ps want) e c

pub collected-over : (r : Option ℕ) (t ps : List ℕ) (want : List Name) → Collected r t ps want → r ≡ None → 255 < length want
unfolding Collected
collected-over r t ps want c e = subst (λ (s : Option ℕ). Collected s t ps want) e c

-- ---- the slots of a def or method

-- what a call that stops hands on
pub frames-stopped : (r : Option Framed) (t ps : List ℕ) (f : Frame) → r ≡ None → Frames None t ps f → Frames r t ps f
frames-stopped r t ps f h g = subst (λ (x : Option Framed). Frames x t ps f) (sym h) g

pub collected-stopped : (r : Option ℕ) (t ps : List ℕ) (w : List Name) → r ≡ None → Collected None t ps w → Collected r t ps w
collected-stopped r t ps w h g = subst (λ (x : Option ℕ). Collected x t ps w) (sym h) g

frames-over : {t ps : List ℕ} {f : Frame} → 255 < f.locals → Frames None t ps f
frames-over h = record { framing = λ g e. (let z : ◌≡◌ {A = ℕ} 0 1 = cc in absurd (omega arith)); over = λ e. h }

frames-slots : {n m : ℕ} {t ps : List ℕ} {f : Frame} → Framing n m t ps f → Frames (Some (record { named = n; locals = m })) t ps f
frames-slots {n} {m} {t} {ps} {f} F = record {
  framing = λ g e. (let p : n ≡ g.named = cc in let q : m ≡ g.locals = cc in subst (λ (x : ℕ). Framing g.named x t ps f) q (subst (λ (x : ℕ). Framing x m t ps f) p F));
  over = λ e. (let z : ◌≡◌ {A = ℕ} 0 1 = cc in absurd (omega arith));
}

pub frames-begun : (r : Option ℕ) (t ps qs : List ℕ) (xs : List Name) (b : Block) → Collected r t ps xs → r ≡ None → Frames None t qs (with_loops xs b)
frames-begun r t ps qs xs b c e = let h = collected-over r t ps xs c e in let g = block-grows b xs in frames-over (omega arith)

-- the block's names gathered, from a to b, in slots that were ps and are qs
module _ (r : Option ℕ) (t ps : List ℕ) (xs : List Name) (k : ℕ) {o : Option ℕ} {x : Node Block} {a b : Gathering}
    (c : Collected r t ps xs) (e : r ≡ Some k) (f : names_gathered a ≡ first_names t k ps) (g : Gathers o x locals_block loops_block a b) where
  same_names : locals_block x.value (names_gathered a) ≡ locals_block x.value xs
  same_names = ap (locals_block x.value) (f ∙ (collected-count r t ps xs k c e).1)

  pub frames-gathered : {qs : List ℕ} → o ≡ None → Frames None t qs (with_loops xs x.value)
  frames-gathered h = let y = g.adds.over h in frames-over (omega (arith, ap length same_names))

  module _ {p : ℕ} {qs : List ℕ} (h : o ≡ Some p) (u : a.loops ≡ 0) (v : a.tree.now ≡ t) (w : qs ≡ b.slots.now) where
    names-are : first_names t b.n qs ≡ locals_block x.value xs
    names-are = (λ i. first_names ((sym v ∙ sym g.adds.same_tree) i) b.n (w i)) ∙ g.adds.names p h ∙ same_names

    names-many : b.n ≡ length (locals_block x.value xs)
    names-many = sym (first-length b.tree.now b.n b.slots.now (omega (arith, b.few, b.room))) ∙ ap length (g.adds.names p h ∙ same_names)

    loops-many : b.loops ≡ up_to256 (loops_block x.value)
    loops-many = omega (arith, u, g.adds.counted p h)

    pub frames-many : 255 < b.n + b.loops → Frames None t qs (with_loops xs x.value)
    frames-many l = frames-over (omega (arith, names-many, loops-many))

    pub frames-all : b.n + b.loops ≤ 255 → Frames (Some (record { named = b.n; locals = b.n + b.loops })) t qs (with_loops xs x.value)
    frames-all l = frames-slots (record {
      named = omega arith;
      few = l;
      names = names-are;
      locals = omega (arith, names-many, loops-many);
      indexed = subst (λ (s : List ℕ). Indexed s b.n qs) (g.adds.same_tree ∙ v) (subst (λ (s : List ℕ). Indexed b.tree.now b.n s) (sym w) b.indexed);
    })
