-- What each way out of the lowering up to question 15 shows.
use mathlib.Core.Path.{◌≡◌, refl, sym, ap, ◌∙◌, subst}
use mathlib.Core.Bool.{Bool, true, false}
use mathlib.Core.List.{List, []}
use Prim.Native.Nat.{ℕ}
use native.Mathlib.Omega.{arith}
use Rattle.std.specs.Prelude.{Option, Some, None, Result, Ok, Err}
use Rattle.definitions.specs.Bytes.{Answer, refused, accepted, when_accepted}
use Rattle.definitions.specs.Tree.{Block}
use Rattle.definitions.specs.Parse.{read_tree}
use Rattle.definitions.specs.Tables.{Tables}
use Rattle.definitions.specs.Lower.{compile}
use Rattle.definitions.specs.Module.{Limits as DefinedLimits, slots_fit, tables_fit, lower_block, lower_tables}
use Rattle.definitions.specs.Order.{accepted_tree}
use Rattle.definitions.proofs.Accepted.{within, within-fits, tables-read}
use Rattle.questions.specs.declared.Question.{Question}
use Rattle.questions.specs.declared.Question.TheVariants.{Slots, Limits as LimitsKept}
use Rattle.questions.specs.Numbers.{number}
use Rattle.tree.specs.Settled.{tree_said, settled}
use Rattle.tree_view.specs.StmtAt.{TreeAt}
use Rattle.tree.proofs.TreeViews.{answer-refused}
use Rattle.state.specs.State.{State, state_of, limits_of, WithinLimits, Sound}
use Rattle.state.specs.declared.Limits.{Limits}
use Rattle.definitions.specs.Fits.{fits_block}
use Rattle.state.proofs.Views.{few-slots, within-sound}
use Rattle.definitions.proofs.SlotsFit.{slots-fit, targets-asked}
use Rattle.lower_emit.specs.declared.emitter.Emitter.{Emitter}
use Rattle.lower_emit.specs.Emitting.{counts_of, limits_in, state_in, SameAreas}
use Rattle.compile.specs.Compiled.{tree_block, CompilesTree}
use Rattle.settle.specs.Settles.{told, full_by, tables_shown, Settles, Accepts}
use Rattle.settle.proofs.Outcome.{check-gives, tables-refused, tables-fit, fits-slots, fits-over, fits_all}

-- ---- the limits

-- a state within the limits has tables within them
tables-within : (l : Limits) (s : State) → WithinLimits l s → tables_fit (limits_of l) s.tables ≡ true
unfolding limits_of
tables-within l s w =
    within-fits (limits_of l) s.tables (record { functions = w.functions; symbols = w.symbols; strings = w.strings; classes = w.classes; instructions = omega (arith, w.instructions) })

within-fit : (l : Limits) (t : Tables) → slots_fit t ≡ true → tables_fit (limits_of l) t ≡ true → WithinLimits l (record { stack = []; tables = t })
unfolding limits_of
within-fit l t slots e =
    let L = within (limits_of l) t e in
    record { functions = L.functions; symbols = L.symbols; strings = L.strings; classes = L.classes; instructions = omega (arith, L.instructions); slots = slots }

-- tables that are not within the limits, though each function has at most 255 slots
tables-over : (l : Limits) (t : Tables) → slots_fit t ≡ true → (WithinLimits l (record { stack = []; tables = t }) → ⊥) → tables_fit (limits_of l) t ≡ false
tables-over l t slots h = go (tables_fit (limits_of l) t) refl
  where
    go : (x : Bool) → tables_fit (limits_of l) t ≡ x → x ≡ false
    go true e = absurd (h (within-fit l t slots e))
    go false e = refl

-- ---- a refusal

fails : {tree : List ℕ} {a b : Emitter} (q : Question) → lower_tables (limits_of (limits_in a)) tree ≡ refused (number q) → limits_in b ≡ limits_in a → SameAreas a b → Settles (Err q) tree a b
unfolding told
fails q e l s = record { answer = e; stands = λ u h. let z : ◌≡◌ {A = ℕ} 0 1 = cc in absurd (omega arith); sound = λ u h. let z : ◌≡◌ {A = ℕ} 0 1 = cc in absurd (omega arith); limits = l; areas = s }

-- 2 to 13
pub settles-checked : {q : Question} {r : Result (Unit {0}) Question} {tree : List ℕ} {a : Emitter} → r ≡ Err q → tree_said (Err q) ≡ settled tree → Settles r tree a a
settles-checked {q} {r} {tree} {a} e h =
    subst (λ (z : Result (Unit {0}) Question). Settles z tree a a) (sym e)
    (fails q (tables-refused (limits_of (limits_in a)) tree (number q) (answer-refused tree q h)) refl (record { words = refl; made = refl; entries = refl }))

-- the tables of a block, as they were worked out
module _ (c : Block) {tree : List ℕ} {A : Type 0} {r : Option A} {a b : Emitter} (h : CompilesTree r tree a b (compile c).tables) where
  pub compiled-over : r ≡ None → slots_fit (compile c).tables ≡ true → tables_fit (limits_of (limits_in a)) (compile c).tables ≡ false
  compiled-over e s = tables-over (limits_in a) (compile c).tables s (h.full e)

  module _ {x : A} (e : r ≡ Some x) where
    sound : Sound tree b.tables.names.made.now b.code.words.now b.tables.entries.words.now (counts_of b) (limits_in b)
    sound = (h.sound x e).sound

    slots-yes : slots_fit (compile c).tables ≡ true
    unfolding state_of
    slots-yes = ap slots_fit (sym (h.tables x e)) ∙ few-slots tree b.tables.names.made.now b.code.words.now b.tables.entries.words.now (counts_of b) (limits_in b) sound

    pub compiled-fits : tables_fit (limits_of (limits_in a)) (compile c).tables ≡ true
    unfolding state_of
    compiled-fits =
        ap (tables_fit (limits_of (limits_in a))) (sym (h.tables x e))
        ∙ ap (λ (l : Limits). tables_fit (limits_of l) (tables_shown tree b)) (sym h.limits)
        ∙ tables-within (limits_in b) (state_in tree b) (within-sound tree b.tables.names.made.now b.code.words.now b.tables.entries.words.now (counts_of b) (limits_in b) sound)

module _ {tree : List ℕ} (T : TreeAt tree) where
  slots-are : slots_fit (compile (tree_block tree)).tables ≡ fits_block [] (tree_block tree)
  slots-are = slots-fit (tree_block tree) (targets-asked (tree_block tree) (tree_block tree) (check-gives tree (tree_block tree) T.answer).formed)

  module _ {A : Type 0} {r : Option A} {a b : Emitter} (h : CompilesTree r tree a b (compile (tree_block tree)).tables) where
    abbrev m : DefinedLimits
    m = limits_of (limits_in a)

    -- 14
    settles-slots : fits_block [] (tree_block tree) ≡ false → Settles (Err Slots) tree a b
    unfolding number
    settles-slots e = fails Slots (tables-fit m tree (tree_block tree) T.answer ∙ fits-slots m (compile (tree_block tree)).tables (slots-are ∙ e)) h.limits h.areas

    -- 15
    settles-over : r ≡ None → fits_block [] (tree_block tree) ≡ true → Settles (Err LimitsKept) tree a b
    unfolding number
    settles-over e f =
        fails LimitsKept
        (tables-fit m tree (tree_block tree) T.answer
        ∙ fits-over m (compile (tree_block tree)).tables (slots-are ∙ f) (compiled-over (tree_block tree) h e (slots-are ∙ f)))
        h.limits h.areas

    pub settles-full : r ≡ None → {q : Question} → q ≡ full_by (fits_block [] (tree_block tree)) → Settles (Err q) tree a b
    unfolding full_by
    settles-full e {q} h = go (fits_block [] (tree_block tree)) refl h
      where
        go : (x : Bool) → fits_block [] (tree_block tree) ≡ x → q ≡ full_by x → Settles (Err q) tree a b
        go true f g = subst (λ (p : Question). Settles (Err p) tree a b) (sym g) (settles-over e f)
        go false f g = subst (λ (p : Question). Settles (Err p) tree a b) (sym g) (settles-slots f)

    pub settles-all : {x : A} {u : Unit {0}} → r ≡ Some x → Settles (Ok u) tree a b
    unfolding told
    settles-all {x = x} e = record {
      answer = tables-fit m tree (tree_block tree) T.answer ∙ fits_all m (compile (tree_block tree)).tables (slots-yes (tree_block tree) h e) (compiled-fits (tree_block tree) h e) ∙ ap accepted (sym (h.tables x e));
      stands = λ u k. T;
      sound = λ u k. h.sound x e;
      limits = h.limits;
      areas = h.areas;
    }

-- ---- the answer alone

refused-tree : (l : DefinedLimits) (tree : List ℕ) (q : ℕ) → lower_tables l tree ≡ refused q → accepted_tree l tree ≡ refused q
unfolding accepted_tree when_accepted
refused-tree l tree q e = go (read_tree tree) (sym (tables-read l tree) ∙ e)
  where
    inner : (b : Block) (a : Answer Tables) → a ≡ refused q → ◌≡◌ {A = Answer Block} (when_accepted a (λ t. accepted b)) (refused q)
    inner b (refused p) e = cc
    inner b (accepted t) e = let z : ◌≡◌ {A = ℕ} 0 1 = cc in absurd (omega arith)

    go : (r : Answer Block) → when_accepted r (lower_block l) ≡ refused q → when_accepted r (λ b. when_accepted (lower_block l b) (λ t. accepted b)) ≡ refused q
    go (refused p) e = cc
    go (accepted b) e = inner b (lower_block l b) e

accepted-tree : (l : DefinedLimits) (tree : List ℕ) (b : Block) (t : Tables) → read_tree tree ≡ accepted b → lower_tables l tree ≡ accepted t → accepted_tree l tree ≡ accepted b
unfolding accepted_tree when_accepted
accepted-tree l tree b t r e =
    let f : lower_block l b ≡ accepted t = ap (λ (a : Answer Block). when_accepted a (lower_block l)) (sym r) ∙ sym (tables-read l tree) ∙ e in
    rw (r, accepted_tree) (rw f)

pub settles-accepts : {r : Result (Unit {0}) Question} {tree : List ℕ} {a b : Emitter} {l : Limits} → limits_in a ≡ l → Settles r tree a b → Accepts r tree l
unfolding told
settles-accepts {r} {tree} {a} {b} {l} same S = subst (λ (k : Limits). Accepts r tree k) same (record { answer = go r S.answer S.stands; stands = S.stands })
  where
    go : (o : Result (Unit {0}) Question) → lower_tables (limits_of (limits_in a)) tree ≡ told o (tables_shown tree b) → ((u : Unit {0}) → o ≡ Ok u → TreeAt tree)
        → accepted_tree (limits_of (limits_in a)) tree ≡ told o (tree_block tree)
    go (Ok u) e T = accepted-tree _ tree (tree_block tree) (tables_shown tree b) (check-gives tree (tree_block tree) (T u refl).answer).reads e
    go (Err q) e T = refused-tree _ tree (number q) e
