-- The names that an expression references and that have a slot in the parent, but for those that a lambda around binds: what a lambda captures.
use Rattle.std.specs.Prelude.{ℕ, ◌+◌, ◌≤◌, ◌≡◌, Bool, true, false, not, List, [], ◌∷◌, length, get_or, set}
use Rattle.std.proofs.Math.Option.{none, some}
use Rattle.definitions.specs.Bytes.{Name, same, position, member}
use Rattle.definitions.specs.Tree.{Expr, lit, var, unary, binary, logical, call, attr, display, index, lambda, Exprs, []ᵉ, ◌∷ᵉ◌}
use Rattle.definitions.specs.Slots.{add}
use Rattle.state.specs.State.{slots_from, slot_names, Slots}
use Rattle.slots.specs.Slotted.{first_names, Indexed}

-- ---- marks: for each slot, whether a lambda around has its name as a parameter

-- the name's slot is marked, if it has one
unfoldable pub mark : List Name → Name → List Bool → List Bool
mark slots x ms = elim (position (same x) slots) [ none ↦ ms | some i ↦ set ms i true ]

unfoldable pub mark_all : List Name → List Name → List Bool → List Bool
mark_all slots [] ms = ms
mark_all slots (x ∷ xs) ms = mark_all slots xs (mark slots x ms)

-- the name has a slot that is not marked
unfoldable pub is_free : List Name → List Bool → Name → Bool
is_free slots ms x = elim (position (same x) slots) [ none ↦ false | some i ↦ not (get_or ms i false) ]

-- the marks are those of the names in bound
pub record Marked (slots bound : List Name) (ms : List Bool) : Type 0 where
  pub room : length slots ≤ length ms
  pub at : (x : Name) (i : ℕ) → position (same x) slots ≡ some i → not (get_or ms i false) ≡ not (member x bound)

-- ---- names that have a slot

-- the name is added if its slot is free
unfoldable pub add_held : List Name → List Bool → Name → List Name → List Name
add_held slots ms x ys = elim (is_free slots ms x) [ true ↦ add x ys | false ↦ ys ]

-- `referenced_expr` among names that have a slot
unfoldable mutual
  pub held_expr : List Name → List Bool → Expr → List Name → List Name
  held_expr slots ms (lit l) ys = ys
  held_expr slots ms (var x) ys = add_held slots ms x ys
  held_expr slots ms (unary op e) ys = held_expr slots ms e ys
  held_expr slots ms (binary op l r) ys = held_expr slots ms r (held_expr slots ms l ys)
  held_expr slots ms (logical op l r) ys = held_expr slots ms r (held_expr slots ms l ys)
  held_expr slots ms (call f es) ys = held_exprs slots ms es (held_expr slots ms f ys)
  held_expr slots ms (attr o x) ys = held_expr slots ms o ys
  held_expr slots ms (display k es) ys = held_exprs slots ms es ys
  held_expr slots ms (index o i) ys = held_expr slots ms i (held_expr slots ms o ys)
  held_expr slots ms (lambda ps b) ys = held_expr slots (mark_all slots ps ms) b ys

  pub held_exprs : List Name → List Bool → Exprs → List Name → List Name
  held_exprs slots ms []ᵉ ys = ys
  held_exprs slots ms (e ∷ᵉ es) ys = held_exprs slots ms es (held_expr slots ms e ys)

-- the names have slots, and none stands twice
pub data Held (slots : List Name) : List Name → Type 0 where
  no_held : Held slots []
  one_held : {x : Name} {ys : List Name} → member x slots ≡ true → member x ys ≡ false → Held slots ys → Held slots (x ∷ ys)

-- what a walk over expressions keeps to: a short tree, the parent's slots, room for as many and one more, names that have slots
pub record WalkKeeps (t parent ps : List ℕ) (n : ℕ) : Type 0 where
  pub short : length t ≤ 32768
  pub slots : Slots t parent
  pub room : slots_from + 256 ≤ length ps
  pub most : slots_from + n ≤ length ps
  pub held : Held (slot_names t parent) (first_names t n ps)
  pub indexed : Indexed t n ps

-- the places of the captures, no more than the parent's slots
pub record CapturesAt (r : ℕ) (t parent ps : List ℕ) (want : List Name) : Type 0 where
  pub few : slots_from + r ≤ length parent
  pub names : first_names t r ps ≡ want
