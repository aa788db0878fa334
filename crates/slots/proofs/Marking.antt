-- Marks of slots: which of their names a lambda around has as parameters. Assumes nothing.
use Prim.Native.Nat.{ℕ, zero, suc, ◌+◌, ◌-◌, ◌<◌, ◌≤◌}
use mathlib.Core.Path.{◌≡◌, refl, sym, ap, ap₂, subst, ◌∙◌}
use mathlib.Core.Bool.{Bool, true, false, not, ◌&&◌, ◌||◌}
use mathlib.Core.Option.{Option, none, some}
use mathlib.Core.List.{List, [], ◌∷◌, ◌++◌}
use mathlib.Core.Logic.{⊎_elim}
use native.Mathlib.Omega.{arith}
use lib.ListN.{length, get_or, set, replicate, length-set, length-replicate}
use lib.Seq.{get_or-set_same, get_or-set_other}
use Rattle.definitions.specs.Bytes.{Name, same, position, member}
use Rattle.definitions.proofs.MethodOrder.{same-eq}
use Rattle.definitions.proofs.Resolve.{position-lt}
use Rattle.definitions.proofs.Captured.{or_swap, member-cons, member-nil, member-append}
use Rattle.tree_view.specs.Places.{count_at, name_from, name_end, names_from, There, AllThere, ParamsAt, params_at}
use Rattle.tree_view.proofs.NameLaws.{there-first, there-next, from_more, from-none}
use Rattle.names.proofs.Finding.{step, position-cons}
use Rattle.state.specs.declared.Scope.{Scope}
use Rattle.slots.specs.Held.{mark, mark_all, is_free, Marked}
use Rattle.slots.specs.Captured.{names_around, MarksSlots}
use Rattle.slots.specs.declared.captures.Captures.{Captures}
use Rattle.slots.proofs.Holding.{bool-or, member-next}
use Rattle.slots.proofs.Params.{params-all, params-names}
use Rattle.definitions.proofs.Truth.{true-false}

-- ---- a name's slot

-- the slot at which a name is found has it
found-same : (x : Name) (xs : List Name) (i : ℕ) → position (same x) xs ≡ some i → same x (get_or xs i []) ≡ true
unfolding position step
found-same x [] i e = let z : ◌≡◌ {A = ℕ} 0 1 = cc in absurd (omega arith)
found-same x (y ∷ xs) i e = go (same x y) (position (same x) xs) refl refl (sym (position-cons (same x) y xs) ∙ e) (found-same x xs)
  where
    go : (b : Bool) (o : Option ℕ) → same x y ≡ b → position (same x) xs ≡ o → step b o ≡ some i → ((j : ℕ) → position (same x) xs ≡ some j → same x (get_or xs j []) ≡ true) → same x (get_or (y ∷ xs) i []) ≡ true
    go true o h k f g = let z : 0 ≡ i = cc in ap (λ (j : ℕ). same x (get_or (y ∷ xs) j [])) (sym z) ∙ h
    go false none h k f g = let z : ◌≡◌ {A = ℕ} 0 1 = cc in absurd (omega arith)
    go false (some j) h k f g = let z : suc j ≡ i = cc in ap (λ (m : ℕ). same x (get_or (y ∷ xs) m [])) (sym z) ∙ g j k

-- names found at one slot are equal
found-one : (x y : Name) (xs : List Name) (i : ℕ) → position (same x) xs ≡ some i → position (same y) xs ≡ some i → x ≡ y
found-one x y xs i e f = same-eq x (get_or xs i []) (found-same x xs i e) ∙ sym (same-eq y (get_or xs i []) (found-same y xs i f))

-- ---- marks of names

none-there : (n i : ℕ) → get_or (replicate n false) i false ≡ false
none-there zero i = refl
none-there (suc n) zero = refl
none-there (suc n) (suc i) = none-there n i

module _ (slots : List Name) where
  pub marked-none : (n : ℕ) → length slots ≤ n → Marked slots [] (replicate n false)
  marked-none n h = record { room = omega (arith, length-replicate n false); at = λ x i e. ap not (none-there n i) ∙ ap not (sym (member-nil x)) }

  module _ (x : Name) (bound : List Name) (ms : List Bool) (k : Marked slots bound ms) where
    -- a name without a slot
    unslotted : position (same x) slots ≡ none → (y : Name) (j : ℕ) → position (same y) slots ≡ some j → not (get_or ms j false) ≡ not (member y (x ∷ bound))
    unslotted h y j e = k.at y j e ∙ ap not (sym (member-next y x bound (⊎_elim
        (λ (q : same y x ≡ true). let f = sym e ∙ ap (λ (z : Name). position (same z) slots) (same-eq y x q) ∙ h in let z : ◌≡◌ {A = ℕ} 0 1 = cc in absurd (omega arith))
        (λ (q : same y x ≡ false). q)
        (bool-or (same y x)))))

    slotted : (i : ℕ) → position (same x) slots ≡ some i → (y : Name) (j : ℕ) → position (same y) slots ≡ some j → not (get_or (set ms i true) j false) ≡ not (member y (x ∷ bound))
    slotted i h y j e = ⊎_elim here other (bool-or (same y x))
      where
        here : same y x ≡ true → not (get_or (set ms i true) j false) ≡ not (member y (x ∷ bound))
        here q =
            let f = sym e ∙ ap (λ (z : Name). position (same z) slots) (same-eq y x q) ∙ h in
            let z : j ≡ i = cc in
            let w = position-lt (same x) slots i h in
            let r = k.room in
            ap (λ (m : ℕ). not (get_or (set ms i true) m false)) z ∙ ap not (get_or-set_same ms i true false (omega arith)) ∙ ap not (sym (member-cons y x bound ∙ ap (λ (b : Bool). b || member y bound) q))

        other : same y x ≡ false → not (get_or (set ms i true) j false) ≡ not (member y (x ∷ bound))
        other q = ap not (get_or-set_other ms i j true false apart) ∙ k.at y j e ∙ ap not (sym (member-next y x bound q))
          where
            apart : j ≡ i → ⊥
            apart z = true-false (ap (same y) (sym (found-one y x slots j e (h ∙ ap some (sym z)))) ∙ alike) q
              where
                alike : same y y ≡ true
                alike = ap (same y) (same-eq y (get_or slots j []) (found-same y slots j e)) ∙ found-same y slots j e

    marked-one : Marked slots (x ∷ bound) (mark slots x ms)
    unfolding mark
    marked-one = go (position (same x) slots) refl
      where
        go : (o : Option ℕ) → position (same x) slots ≡ o → Marked slots (x ∷ bound) (elim o as (λ _. List Bool) [ none ↦ ms | some i ↦ set ms i true ])
        go none h = record { room = k.room; at = unslotted h }
        go (some i) h = record { room = let r = k.room in omega (arith, length-set ms i true); at = slotted i h }

  pub marked_all : (ps bound : List Name) (ms : List Bool) → Marked slots bound ms → Marked slots (ps ++ bound) (mark_all slots ps ms)
  unfolding mark_all
  marked_all [] bound ms k = k
  marked_all (p ∷ ps) bound ms k = let m = marked_all ps (p ∷ bound) (mark slots p ms) (marked-one p bound ms k) in
      record { room = m.room; at = λ x i e. m.at x i e ∙ ap not (turned x) }
    where
      turned : (x : Name) → member x (ps ++ p ∷ bound) ≡ member x (p ∷ (ps ++ bound))
      turned x = member-append x ps (p ∷ bound) ∙ ap (λ (b : Bool). member x ps || b) (member-cons x p bound) ∙ or_swap (member x ps) (same x p) (member x bound)
          ∙ ap (λ (b : Bool). same x p || b) (sym (member-append x ps bound)) ∙ sym (member-cons x p (ps ++ bound))

  -- a free slot's name has a slot and is not bound
  pub free-is : (bound : List Name) (ms : List Bool) → Marked slots bound ms → (x : Name) → is_free slots ms x ≡ (member x slots && not (member x bound))
  unfolding is_free member
  free-is bound ms k x = go (position (same x) slots) refl
    where
      go : (o : Option ℕ) → position (same x) slots ≡ o →
          elim o as (λ _. Bool) [ none ↦ false | some i ↦ not (get_or ms i false) ] ≡ (elim o as (λ _. Bool) [ none ↦ false | some i ↦ true ] && not (member x bound))
      go none h = refl
      go (some i) h = k.at x i h

-- ---- by the number of a slot

module _ (slots : List Name) (x : Name) (ms : List Bool) where
  pub mark-told : (i : ℕ) → some i ≡ position (same x) slots → set ms i true ≡ mark slots x ms
  unfolding mark
  mark-told i e = ap (λ (o : Option ℕ). elim o as (λ _. List Bool) [ none ↦ ms | some i ↦ set ms i true ]) e

  pub mark-left : none ≡ position (same x) slots → ms ≡ mark slots x ms
  unfolding mark
  mark-left e = ap (λ (o : Option ℕ). elim o as (λ _. List Bool) [ none ↦ ms | some i ↦ set ms i true ]) e

  pub free-told : (i : ℕ) → some i ≡ position (same x) slots → not (get_or ms i false) ≡ is_free slots ms x
  unfolding is_free
  free-told i e = ap (λ (o : Option ℕ). elim o as (λ _. Bool) [ none ↦ false | some i ↦ not (get_or ms i false) ]) e

  pub free-left : none ≡ position (same x) slots → false ≡ is_free slots ms x
  unfolding is_free
  free-left e = ap (λ (o : Option ℕ). elim o as (λ _. Bool) [ none ↦ false | some i ↦ not (get_or ms i false) ]) e

-- ---- parameters, one at a time

-- the names left from p on, by what is left of the step from a
pub record NamesLeft (a : Captures) (n₀ p₀ n p : ℕ) (b : Captures) : Type 0 where
  pub there : AllThere a.around.tree.now n p
  pub marked : mark_all (names_around a.around) (names_from a.around.tree.now n₀ p₀) a.marked ≡ mark_all (names_around a.around) (names_from a.around.tree.now n p) b.marked
  pub same_around : b.around ≡ a.around
  pub same_n : b.n ≡ a.n
  pub same_kept : b.kept ≡ a.kept

pub mark-start : (a : Captures) (p n : ℕ) → ParamsAt a.around.tree.now p → n ≡ count_at a.around.tree.now p → (j : ℕ) → n ≡ j → NamesLeft a n (p + 2) j (p + 2) a
mark-start a p n h e j i = subst (λ (x : ℕ). NamesLeft a n (p + 2) x (p + 2) a) i (record { there = params-all _ _ _ h e; marked = refl; same_around = refl; same_n = refl; same_kept = refl })

module _ (a : Captures) (n₀ p₀ n p : ℕ) (b : Captures) (l : NamesLeft a n₀ p₀ n p b) where
  module _ (h : 0 < n) where
    pub mark-there : (want : List Bool) (c : Captures) → MarksSlots want b c → There c.around.tree.now p
    mark-there want c m = subst (λ (s : Scope). There s.tree.now p) (sym (m.same_around ∙ l.same_around)) (there-first _ n p h l.there)

    pub mark-next : (c : Captures) (q : ℕ) → MarksSlots (mark (names_around b.around) (name_from b.around.tree.now p) b.marked) b c → q ≡ name_end c.around.tree.now p → (j : ℕ) → n - 1 ≡ j → NamesLeft a n₀ p₀ j q c
    unfolding mark_all
    mark-next c q m e j i =
        let k : q ≡ name_end a.around.tree.now p = e ∙ ap (λ (s : Scope). name_end s.tree.now p) (m.same_around ∙ l.same_around) in
        let g : c.marked ≡ mark (names_around a.around) (name_from a.around.tree.now p) b.marked = m.marked ∙ ap (λ (s : Scope). mark (names_around s) (name_from s.tree.now p) b.marked) l.same_around in
        subst (λ (x : ℕ). NamesLeft a n₀ p₀ x q c) i (record {
          there = there-next _ n p q k h l.there;
          marked = l.marked ∙ ap (λ (xs : List Name). mark_all (names_around a.around) xs b.marked) (from_more _ n p h)
              ∙ sym (ap₂ (λ (ms : List Bool) (x : ℕ). mark_all (names_around a.around) (names_from a.around.tree.now (n - 1) x) ms) g k);
          same_around = m.same_around ∙ l.same_around;
          same_n = m.same_n ∙ l.same_n;
          same_kept = m.same_kept ∙ l.same_kept;
        })

  pub mark-done : (r : ℕ) → n ≤ 0 → p₀ ≡ r + 2 → n₀ ≡ count_at a.around.tree.now r → MarksSlots (mark_all (names_around a.around) (params_at a.around.tree.now r).value a.marked) a b
  unfolding mark_all
  mark-done r h f e = record {
    marked = sym (sym (ap (λ (xs : List Name). mark_all (names_around a.around) xs a.marked) (params-names _ r n₀ e))
        ∙ ap (λ (x : ℕ). mark_all (names_around a.around) (names_from a.around.tree.now n₀ x) a.marked) (sym f)
        ∙ l.marked ∙ ap (λ (xs : List Name). mark_all (names_around a.around) xs b.marked) (from-none _ n p h));
    same_around = l.same_around;
    same_n = l.same_n;
    same_kept = l.same_kept;
  }
