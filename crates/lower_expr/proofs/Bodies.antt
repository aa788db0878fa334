-- A lambda's slots and its function, by the words of the code.
use Prim.Native.Nat.{ℕ, ◌-◌, ◌<◌}
use mathlib.Core.Path.{◌≡◌, refl, sym, subst, ◌∙◌}
use mathlib.Core.List.{List, ◌++◌}
use lib.ListN.{length, drop}
use Rattle.std.specs.Prelude.{Option, Some, None}
use Rattle.std.proofs.lemmas.Option.{none-some}
use Rattle.definitions.specs.Bytes.{Name}
use Rattle.definitions.specs.Instruction.{MakeClosure}
use Rattle.definitions.specs.Tables.{Emit, one, ◌⨟◌, expr_body}
use Rattle.definitions.specs.Lower.{loads}
use Rattle.definitions.specs.Slots.{captures}
use Rattle.tree_view.specs.Places.{params_at}
use Rattle.tree_view.specs.ExprAt.{expr_at}
use Rattle.state.specs.State.{slots_from, slot_names, names_at}
use Rattle.state.proofs.Views.{function-count}
use Rattle.definitions.proofs.Growth.{Lengthens, lengthens-expr}
use Rattle.lower_forms.specs.Lowerable.{SoleIn, ClosureLowerable, expr_code, lambda_code, closure_code, function_code}
use Rattle.lower_emit.specs.declared.emitter.Emitter.{Emitter}
use Rattle.lower_emit.specs.Emitting.{counts_of, limits_in, state_in, SoundIn, LowersIn, EmitsTo}
use Rattle.lower_emit.proofs.Steps.{areas-none}
use Rattle.lower_emit.proofs.Parts.{emits-state, words-none}
use Rattle.lower_leaves.specs.Closures.{StartsLambda, EndsFunction}
use Rattle.lower_leaves.proofs.LambdaState.{closure-state, lambda-wide}
use Rattle.lower_leaves.proofs.Lambdas.{begins-count, function-full, function-body, function-end}

-- the same tree by other words
pub body-ready : {t t' xs : List ℕ} {a : Emitter} {d n p : ℕ} → t ≡ t' → SoleIn t a → ClosureLowerable d t n xs p → SoleIn t' a × ClosureLowerable d t' n xs p
body-ready {xs = xs} {a = a} {d = d} {n = n} {p = p} e S r = (subst (λ z. SoleIn z a) e S, subst (λ z. ClosureLowerable d z n xs p) e r)

pub body-in : {r : Option ℕ} {t' t : List ℕ} {a b : Emitter} (d f n : ℕ) (xs : List ℕ) (p : ℕ) → t' ≡ t → EmitsTo r (function_code d t' f n xs p) (expr_at d t' p).end t' a b → EmitsTo r (function_code d t f n xs p) (expr_at d t p).end t a b
body-in {r = r} {a = a} {b = b} d f n xs p e h = subst (λ z. EmitsTo r (function_code d z f n xs p) (expr_at d z p).end z a b) e h

-- more than 255 slots are over the limits
pub lambda-over : {t : List ℕ} {body next : ℕ} {a : Emitter} {q : Option ℕ} (d p : ℕ) (names : List Name) → SoundIn t a → body ≡ (params_at t p).end
    → 255 < length ((params_at t p).value ++ captures names (params_at t p).value (expr_at d t body).value) → q ≡ None → EmitsTo q (lambda_code d t names p) next t a a
lambda-over {t} {body} {next} {a} d p names S e h z = record {
  place = λ k y. absurd (none-some k (sym z ∙ y));
  lowers = record {
    reaches = record {
      done = λ k y. absurd (none-some k (sym z ∙ y));
      full = λ y w. lambda-wide d t names p body a.tables.names.made.now a.code.words.now a.tables.entries.words.now (counts_of a) (limits_in a) S.sound e h w;
      limits = refl;
      areas = areas-none;
    };
  };
}

-- the function, the captured values and the closure
pub closure_by : {r : Option ℕ} {next : ℕ} {t : List ℕ} {a b : Emitter} (d : ℕ) (names : List Name) (n : ℕ) (xs : List ℕ) (p : ℕ) → SoundIn t a
    → EmitsTo r (function_code d t a.tables.functions.count n xs p ⨟ loads names (names_at t (drop n xs)) ⨟ one (MakeClosure a.tables.functions.count (length (drop n xs)))) next t a b → EmitsTo r (closure_code d t names n xs p) next t a b
closure_by {t = t} {a = a} d names n xs p S h =
    emits-state h (closure-state a.code.base d t names n xs p a.tables.functions.count (state_in t a) (sym (function-count t a.tables.names.made.now a.code.words.now a.tables.entries.words.now (counts_of a) (limits_in a) S.sound))) refl

-- ---- a function with its slots and the expression at p

module _ {t : List ℕ} {a b : Emitter} {f : Option ℕ} {arity : ℕ} (S : SoundIn t a) (slots : List ℕ) (d p : ℕ) (h : StartsLambda f arity (length slots - slots_from) t a b) where
  abbrev inner : List ℕ
  inner = drop slots_from slots

  abbrev code : Emit
  code = expr_code d t (slot_names t slots) p

  grows : Lengthens code
  grows = lengthens-expr (slot_names t slots) (expr_at d t p).value

  begins : StartsLambda f arity (length inner) t a b
  begins = begins-count slots h

  pub body-full : {q : Option ℕ} {next : ℕ} → f ≡ None → q ≡ None → EmitsTo q (function_code d t a.tables.functions.count arity inner p) next t a b
  body-full z y = words-none z y (function-full S inner code grows (expr_body (expr_at d t p).value) begins z z)

  module _ {i : ℕ} (z : f ≡ Some i) where
    module _ {r : Option ℕ} {m : ℕ} {c : Emitter} (g : EmitsTo r code m t b c) where
      pub body-stopped : {q : Option ℕ} {next : ℕ} → r ≡ None → q ≡ None → EmitsTo q (function_code d t a.tables.functions.count arity inner p) next t a c
      body-stopped y w = words-none y w (function-body S inner code grows (expr_body (expr_at d t p).value) begins z g.lowers y y)

      pub body-ends : {A : Type 0} {u : Option A} {k : ℕ} {o : Emitter} → r ≡ Some k → EndsFunction u i a.code.base c o → LowersIn u (function_code d t a.tables.functions.count arity inner p) t a o
      body-ends y x = function-end S inner code grows (expr_body (expr_at d t p).value) begins z g.lowers y x
