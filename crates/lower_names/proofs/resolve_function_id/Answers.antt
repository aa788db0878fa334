use Prim.Native.Nat.{ℕ, ◌+◌, ◌-◌}
use native.Mathlib.Omega.{arith}
use mathlib.Core.Path.{◌≡◌, sym, ap, ◌∙◌}
use mathlib.Core.List.{List, map}
use mathlib.Core.Option as definitions
use mathlib.Core.Option.{none, some}
use Rattle.definitions.specs.Bytes.{Name, same, position}
use Rattle.definitions.proofs.Resolve.{position-lt}
use Rattle.state.specs.Words.{region}
use Rattle.state.specs.State.{heads_from, spelled}
use Rattle.state.proofs.Regions.{region-length}
use Rattle.names.proofs.Finding.{sought-word}
use Rattle.names.proofs.Calling.{calls-unknown, calls-value, calls-function}
use Rattle.lower_names.specs.Naming.{callee_of}
use Rattle.lower_names.proofs.resolve_function_id.Goals as goal

-- the functions' heads are as many as the functions of the tables
heads : (functions : ℕ) → heads_from + functions - heads_from ≡ functions
heads functions = omega arith

-- the place among the symbols, of which there are m
symbol-at : (tree made entries : List ℕ) (x : Name) {m n : ℕ} {o : definitions.Option ℕ} → m ≡ n → o ≡ position (same x) (map (spelled tree made) (region 0 n entries))
    → position (same x) (map (spelled tree made) (region 0 m entries)) ≡ o
symbol-at tree made entries x e h = ap (λ (k : ℕ). position (same x) (map (spelled tree made) (region 0 k entries))) e ∙ sym h

pub returns-in_default : goal.returns-in_default
unfolding callee_of
returns-in_default c = let a = c.args in record { callee = λ code k l u f S. calls-unknown a.tree.now a.made.now code a.entries.now k l S a.name.now (symbol-at a.tree.now a.made.now a.entries.now a.name.now u c.in_default.ensures) }

pub returns-in-None : goal.returns-in-None
unfolding callee_of
returns-in-None c = let a = c.args in
    record {
      callee = λ code k l u f S.
          calls-value a.tree.now a.made.now code a.entries.now k l S a.name.now c.in-Some.symbol (symbol-at a.tree.now a.made.now a.entries.now a.name.now u c.in-Some.ensures)
          (sym (sought-word _ a.entries.now heads_from _ _ none (heads a.functions ∙ sym f) c.in-None.ensures));
    }

pub overflow_cast-result : goal.overflow_cast-result
overflow_cast-result c = let a = c.args in
    let below = position-lt _ _ _ (sym (sought-word _ a.entries.now heads_from _ _ (some c.in-Some-find_head.f) (heads a.functions) c.in-Some-find_head.ensures)) in
    omega (arith, below, region-length heads_from a.functions a.entries.now (omega (arith, c.requires.3, c.requires.0)), c.requires.3)

pub returns-in-Some-find_head : goal.returns-in-Some-find_head
unfolding callee_of
returns-in-Some-find_head c = let a = c.args in
    record {
      callee = λ code k l u f S.
          calls-function a.tree.now a.made.now code a.entries.now k l S a.name.now c.in-Some.symbol c.in-Some-find_head.f (symbol-at a.tree.now a.made.now a.entries.now a.name.now u c.in-Some.ensures)
          (sym (sought-word _ a.entries.now heads_from _ _ (some c.in-Some-find_head.f) (heads a.functions ∙ sym f) c.in-Some-find_head.ensures));
    }
