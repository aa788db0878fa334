-- Lambdas: a function begun, its body, its end; and the closure made of it.
use Prim.Native.Nat.{ℕ, zero, suc, ◌+◌, ◌-◌, ◌≤◌, ◌<◌}
use mathlib.Core.Path.{◌≡◌, refl, sym, ap, ◌∙◌, subst}
use mathlib.Core.Bool.{Bool, true, false, true≢false}
use mathlib.Core.Option.{Option, none, some}
use mathlib.Core.List.{List, [], ◌∷◌, ◌++◌, map}
use native.Mathlib.Omega.{arith}
use lib.ListN.{length, take, drop, get_or, length-append, length-drop}
use lib.Seq.{drop_at, drop-drop, take_all}
use Rattle.names.proofs.Finding.{names-length}
use Rattle.definitions.specs.Bytes.{Name, all, member, position, same, below}
use Rattle.definitions.specs.Tree.{Expr}
use Rattle.definitions.specs.Instruction.{Return, MakeClosure, LoadLocal}
use Rattle.definitions.specs.Tables.{Function, Body, expr_body, Emit, one, ◌⨟◌, function, coded}
use Rattle.definitions.specs.Slots.{names_only, within, insert, sort, captures}
use Rattle.definitions.specs.Lower.{lambda_name, load, loads, closure, emit_expr}
use Rattle.tree_view.specs.Places.{params_at, count_at}
use Rattle.tree_view.specs.ExprAt.{expr_at}
use Rattle.state.specs.Words.{name_at}
use Rattle.state.specs.State.{State, state_of, names_at, slots_from, Slots, emit_at, with_tables, symbol_number, with_symbol, Sound, WithinLimits, Left}
use Rattle.state.specs.Steps.{begun, function_ended}
use Rattle.state.specs.declared.Counts.{Counts}
use Rattle.state.specs.declared.Limits.{Limits}
use Rattle.state.proofs.Answers.{base-below}
use Rattle.state.proofs.Views.{stack-length, function-count}
use Rattle.state.proofs.Emission.{at-seq, at_one, at-by}
use Rattle.state.proofs.Enclosing.{at-function, symbol-functions}
use Rattle.definitions.proofs.Growth.{Lengthened, Lengthens, lengthens-one, lengthens-seq, lengthens-expr, functions-longer}
use Rattle.state.proofs.Within.{within-one, within-down, within-function, closure-slots}
use Rattle.lower_emit.specs.Nesting.{begun_with, function_body, Moved}
use Rattle.lower_emit.proofs.Begun.{begun-frame, begun-body}
use Rattle.lower_emit.proofs.Setting.{map-drop}
use Rattle.lower_names.proofs.Naming.{at_slot, at_load}
use Rattle.names.specs.Made.{made_name}
use Rattle.names.specs.declared.Made.TheVariants.{Lambda}
use Rattle.lower_forms.specs.Lowerable.{lambda_names, lambda_code, LambdaLowerable, closure_code, function_code, ClosureLowerable, CapturesHaveSlots, CapturesHeld}
use Rattle.lower_forms.proofs.ExprArms.{and_both, params-count}

pub lambda-name : (n : ℕ) → made_name (Lambda n) ≡ lambda_name n
unfolding made_name
lambda-name n = refl

-- ---- the end

module _ (t made code tables code₁ : List ℕ) (c k : Counts) (l : Limits) (f : ℕ) (g : Left k t made code₁ tables c l (emit_at c.base (one Return) (state_of t made code tables c))) where
  last-functions : (state_of t made code₁ tables k).tables.functions ≡ (state_of t made code tables c).tables.functions
  last-functions = ap (λ (u : State). u.tables.functions) (g.state ∙ at_one c.base Return (state_of t made code tables c))

  pub end_known : Sound t made code tables c l → f < c.functions → f < k.functions
  end_known s h =
      let a = function-count t made code tables c l s in
      let d = function-count t made code₁ tables k l g.sound in
      let e = ap length last-functions in
      omega arith

  pub end_empty : function_body (state_of t made code tables c).tables.functions f ≡ [] → function_body (state_of t made code₁ tables k).tables.functions f ≡ []
  end_empty h = ap (λ (fs : List Function). function_body fs f) last-functions ∙ h

-- ---- a whole function

module _ (t made code tables : List ℕ) (c : Counts) (l : Limits) (s : Sound t made code tables c l) (arity : ℕ) (inner : List ℕ) (e : Emit) (E : Lengthens e) (body : Body) where
  abbrev before : State
  before = state_of t made code tables c

  abbrev x : Name
  x = lambda_name c.functions

  abbrev start : State
  start = begun_with (symbol_number x before.tables) arity (length inner) (with_tables (with_symbol x before.tables) before)

  started : start ≡ begun (symbol_number x before.tables) arity (names_only (names_at t inner)) (with_tables (with_symbol x before.tables) before)
  started = begun-frame _ arity (length inner) (names_only (names_at t inner)) _ (names-length t inner)

  over : WithinLimits l (emit_at c.base (function x arity (names_only (names_at t inner)) body (e ⨟ one Return)) before) → WithinLimits l (emit_at (length before.stack) (e ⨟ one Return) start)
  over w =
      subst (λ (u : State). WithinLimits l (emit_at (length before.stack) (e ⨟ one Return) u)) (sym started)
      (within-function c.base x arity (names_only (names_at t inner)) body before _ refl (lengthens-seq E (lengthens-one Return)) w)

  pub function-within : WithinLimits l (emit_at c.base (function x arity (names_only (names_at t inner)) body (e ⨟ one Return)) before) → WithinLimits l start
  function-within w = within-down (length before.stack) start (lengthens-seq E (lengthens-one Return)) (over w)

  module _ (made₁ code₁ tables₁ : List ℕ) (f : ℕ) (k : Counts) (b : (f ≡ c.functions) × Moved c.open k t made₁ code₁ tables₁ c l start) where
    stack_same : c.open ≡ length before.stack
    stack_same = sym (stack-length t made code tables c l s)

    -- the body from the beginning
    from_start : emit_at k.base e (state_of t made₁ code₁ tables₁ k) ≡ emit_at (length before.stack) e start
    from_start = (λ i. emit_at (b.1.base i) e (b.1.state i)) ∙ ap (λ (n : ℕ). emit_at n e start) stack_same

    start-below : length before.stack ≤ length start.stack
    unfolding begun_with
    start-below = omega arith

    two_steps : emit_at (length before.stack) (e ⨟ one Return) start ≡ emit_at (length before.stack) (one Return) (emit_at (length before.stack) e start)
    two_steps = at-seq (length before.stack) e (one Return) start start-below

    pub body-within : WithinLimits l (emit_at c.base (function x arity (names_only (names_at t inner)) body (e ⨟ one Return)) before) → WithinLimits l (emit_at k.base e (state_of t made₁ code₁ tables₁ k))
    body-within w = subst (WithinLimits l) (sym from_start) (within-one (length before.stack) Return _ (subst (WithinLimits l) two_steps (over w)))

    module _ (made₂ code₂ tables₂ : List ℕ) (m : Counts) (g : Left m t made₂ code₂ tables₂ k l (emit_at k.base e (state_of t made₁ code₁ tables₁ k))) where
      at_base : m.base ≡ length before.stack
      at_base = g.base ∙ b.1.base ∙ stack_same

      after-body : state_of t made₂ code₂ tables₂ m ≡ emit_at (length before.stack) e start
      after-body = g.state ∙ from_start

      -- its number is that of the functions before it
      number : length (with_symbol x before.tables).functions ≡ f
      number = ap length (symbol-functions x before.tables) ∙ function-count t made code tables c l s ∙ sym b.0

      pub function-base : c.base ≤ m.base
      function-base = let z = base-below t made code tables c l s in omega (arith, at_base)

      body-tables : Lengthened start.tables (state_of t made₂ code₂ tables₂ m).tables
      unfolding emit_at
      body-tables = subst (λ (u : State). Lengthened start.tables u.tables) (sym after-body) (E.at (length start.stack - length before.stack) start.tables)

      pub function-known : f < m.functions
      unfolding begun_with
      function-known =
          let a = functions-longer body-tables in
          let d = function-count t made₂ code₂ tables₂ m l g.sound in
          omega (arith, number, length-append (with_symbol x before.tables).functions (coded (symbol_number x before.tables) arity (length inner) [] ∷ []))

      pub function-empty : function_body (state_of t made₂ code₂ tables₂ m).tables.functions f ≡ []
      function-empty =
          ap (function_body (state_of t made₂ code₂ tables₂ m).tables.functions) (sym number)
          ∙ begun-body _ arity (names_only (names_at t inner)) (with_tables (with_symbol x before.tables) before) _ body-tables.new
          (body-tables.functions ∙ ap (λ (u : State). u.tables.functions ++ body-tables.new) started)

      last-state : emit_at m.base (one Return) (state_of t made₂ code₂ tables₂ m) ≡ emit_at (length before.stack) (e ⨟ one Return) start
      last-state = (λ i. emit_at (at_base i) (one Return) (after-body i)) ∙ sym two_steps

      pub function-state : function_ended m.base f (emit_at m.base (one Return) (state_of t made₂ code₂ tables₂ m)) ≡ emit_at c.base (function x arity (names_only (names_at t inner)) body (e ⨟ one Return)) before
      function-state =
          (λ i. function_ended (at_base i) f (last-state i))
          ∙ ap (λ (n : ℕ). function_ended (length before.stack) n (emit_at (length before.stack) (e ⨟ one Return) start)) (sym number ∙ ap length (symbol-functions x before.tables))
          ∙ ap (λ (u : State). function_ended (length before.stack) (length before.tables.functions) (emit_at (length before.stack) (e ⨟ one Return) u)) started
          ∙ sym (at-function c.base x arity (names_only (names_at t inner)) body (e ⨟ one Return) before _ refl)

      pub last-within : WithinLimits l (emit_at c.base (function x arity (names_only (names_at t inner)) body (e ⨟ one Return)) before) → WithinLimits l (emit_at m.base (one Return) (state_of t made₂ code₂ tables₂ m))
      last-within w = subst (WithinLimits l) (sym last-state) (over w)

-- ---- closures

-- the function, the captured values and the closure; f is the number of functions before it
pub closure-state : (base d : ℕ) (t : List ℕ) (names : List Name) (arity : ℕ) (inner : List ℕ) (p f : ℕ) (s : State) → f ≡ length s.tables.functions
    → emit_at base (closure_code d t names arity inner p) s
    ≡ emit_at base (function_code d t f arity inner p ⨟ loads names (names_at t (drop arity inner)) ⨟ one (MakeClosure f (length (drop arity inner)))) s
unfolding closure
closure-state base d t names arity inner p f s e =
    at-by base (λ u. function_code d t (length u.functions) arity inner p ⨟ loads names (names_at t (drop arity inner)) ⨟ one (MakeClosure (length u.functions) (length (names_at t (drop arity inner))))) s
    ∙ (λ i. emit_at base (function_code d t (e' i) arity inner p ⨟ loads names (names_at t (drop arity inner)) ⨟ one (MakeClosure (e' i) (names-length t (drop arity inner) i))) s)
  where
    e' : length s.tables.functions ≡ f
    e' = sym e

-- ---- captures have slots

module _ (names : List Name) where
  held-within : (xs : List Name) → CapturesHaveSlots names (within names xs)
  unfolding within all
  held-within [] = refl
  held-within (x ∷ xs) = go (member x names) refl (held-within xs)
    where
      go : (b : Bool) → member x names ≡ b → CapturesHaveSlots names (within names xs) → CapturesHaveSlots names (elim b as (λ z. List Name) [ true ↦ x ∷ within names xs | false ↦ within names xs ])
      go true e h = rw e h
      go false e h = h

  held-insert : (x : Name) (ys : List Name) → member x names ≡ true → CapturesHaveSlots names ys → CapturesHaveSlots names (insert x ys)
  unfolding insert all
  held-insert x [] e h = rw e
  held-insert x (y ∷ ys) e h = let k = and_both (member y names) (all (λ z. member z names) ys) h in go (below x y) k (held-insert x ys e k.1)
    where
      go : (b : Bool) → (member y names ≡ true) × CapturesHaveSlots names ys → CapturesHaveSlots names (insert x ys) → CapturesHaveSlots names (elim b as (λ z. List Name) [ true ↦ x ∷ y ∷ ys | false ↦ y ∷ insert x ys ])
      go true k r = rw (e, k.0) k.1
      go false k r = rw k.0 r

  held-sort : (xs : List Name) → CapturesHaveSlots names xs → CapturesHaveSlots names (sort xs)
  unfolding sort all
  held-sort [] h = h
  held-sort (x ∷ xs) h = let k = and_both (member x names) (all (λ z. member z names) xs) h in held-insert x (sort xs) k.0 (held-sort xs k.1)

  held-captures : (ps : List Name) (b : Expr) → CapturesHaveSlots names (captures names ps b)
  unfolding captures
  held-captures ps b = held-sort _ (held-within _)

  -- each has one
  pub held_at : (t ws : List ℕ) (i : ℕ) → i < length ws → CapturesHaveSlots names (names_at t ws) → member (name_at t (get_or ws i 0)) names ≡ true
  unfolding names_at all
  held_at t [] i h k = absurd (omega arith)
  held_at t (w ∷ ws) zero h k = (and_both (member (name_at t w) names) (all (λ z. member z names) (map (name_at t) ws)) k).0
  held_at t (w ∷ ws) (suc i) h k = held_at t ws i (omega arith) (and_both (member (name_at t w) names) (all (λ z. member z names) (map (name_at t) ws)) k).1

-- a name that is held has a slot
pub slot-held : (names : List Name) (x : Name) → member x names ≡ true → none ≡ position (same x) names → ⊥
unfolding member
slot-held names x h e = true≢false (sym h ∙ ap (λ (o : Option ℕ). elim o as (λ z. Bool) [ none ↦ false | some i ↦ true ]) (sym e))

pub slot-load : (base : ℕ) (t slots : List ℕ) (x : Name) (i : ℕ) (s : State) → some i ≡ position (same x) (names_at t slots) → emit_at base (one (LoadLocal i)) s ≡ emit_at base (load (names_at t slots) x) s
slot-load base t slots x i s e = at_slot 9 base (names_at t slots) x s i e ∙ at_load base (names_at t slots) x s

-- a lambda's slots, in places
module _ (d : ℕ) (t : List ℕ) (names : List Name) (p : ℕ) (r : LambdaLowerable d t p) (inner : List ℕ) (e : names_at t inner ≡ lambda_names d t names p) where
  abbrev params : List Name
  params = (params_at t p).value

  abbrev taken : List Name
  taken = captures names params (expr_at d t (params_at t p).end).value

  captured-names : names_at t (drop (count_at t p) inner) ≡ taken
  unfolding names_at
  captured-names = map-drop (name_at t) (count_at t p) inner ∙ ap (drop (count_at t p)) e ∙ drop_at params taken (count_at t p) (params-count t p)

  pub lambda-closure : lambda_code d t names p ≡ closure_code d t names (count_at t p) inner (params_at t p).end
  unfolding emit_expr
  lambda-closure =
      let b = (expr_at d t (params_at t p).end).value in
      (λ i. closure names (params-count t p i) (sym e i) (sym captured-names i) (expr_body b) (emit_expr (sym e i) b))

  pub lambda-held : CapturesHeld t names (count_at t p) inner
  lambda-held = record { held = subst (CapturesHaveSlots names) (sym captured-names) (held-captures names params (expr_at d t (params_at t p).end).value) }

  pub lambda-parts : length inner ≤ 255 → ClosureLowerable d t (count_at t p) inner (params_at t p).end
  lambda-parts few = record {
    few = few;
    params = omega (arith, params-count t p, names-length t inner, ap length e, length-append params taken);
    body = r.body;
  }

-- a lambda's function and closure, by the code's arity, body and slots
module _ (d : ℕ) (t : List ℕ) (names : List Name) (p : ℕ) (r : LambdaLowerable d t p) (arity body : ℕ) (inner : List ℕ) (a : arity ≡ count_at t p) (b : body ≡ (params_at t p).end)
    (e : names_at t inner ≡ (params_at t p).value ++ captures names (params_at t p).value (expr_at d t body).value) where
  slots-are : names_at t inner ≡ lambda_names d t names p
  slots-are = e ∙ ap (λ (q : ℕ). (params_at t p).value ++ captures names (params_at t p).value (expr_at d t q).value) b

  pub lambda-ready : length inner ≤ 255 → ClosureLowerable d t arity inner body × CapturesHeld t names arity inner
  lambda-ready h = (rw (a, b) (lambda-parts d t names p r inner slots-are h), rw a (lambda-held d t names p r inner slots-are))

  pub lambda-is : lambda_code d t names p ≡ closure_code d t names arity inner body
  lambda-is = lambda-closure d t names p r inner slots-are ∙ (λ i. closure_code d t names (sym a i) inner (sym b i))

-- slots after the index are few
pub slots-few : (t slots : List ℕ) → Slots t slots → length (drop slots_from slots) ≤ 255
slots-few t slots s = omega (arith, length-drop slots_from slots, s.few)

-- a lambda with more than 255 slots is over the limits
pub lambda-wide : (d : ℕ) (t : List ℕ) (names : List Name) (p body : ℕ) (made code tables : List ℕ) (c : Counts) (l : Limits) → Sound t made code tables c l → body ≡ (params_at t p).end
    → 255 < length ((params_at t p).value ++ captures names (params_at t p).value (expr_at d t body).value) → WithinLimits l (emit_at c.base (lambda_code d t names p) (state_of t made code tables c)) → ⊥
unfolding emit_expr
lambda-wide d t names p body made code tables c l s b h w =
    let e = ap (λ (q : ℕ). length ((params_at t p).value ++ captures names (params_at t p).value (expr_at d t q).value)) b in
    let k = closure-slots c.base names (length (params_at t p).value) (lambda_names d t names p) _ _ (state_of t made code tables c) (base-below t made code tables c l s) (lengthens-expr _ (expr_at d t (params_at t p).end).value) w in
    omega arith

-- the rest of the slots from the n-th on
pub rest-is : (n : ℕ) (xs : List ℕ) → take (length xs - (slots_from + n)) (drop (slots_from + n) xs) ≡ drop n (drop slots_from xs)
rest-is n xs = take_all (length xs - (slots_from + n)) (drop (slots_from + n) xs) (omega (arith, length-drop (slots_from + n) xs)) ∙ sym (drop-drop n slots_from xs)

-- the closure's end, for the captures as a part of the slots
pub captured-is : (n : ℕ) (inner : List ℕ) (names : List Name) (f : ℕ) (t : List ℕ)
    → loads names (names_at t (drop n (drop slots_from inner))) ⨟ one (MakeClosure f (length (drop n (drop slots_from inner))))
    ≡ loads names (names_at t (take (length inner - (slots_from + n)) (drop (slots_from + n) inner))) ⨟ one (MakeClosure f (length (take (length inner - (slots_from + n)) (drop (slots_from + n) inner))))
captured-is n inner names f t = ap (λ (xs : List ℕ). loads names (names_at t xs) ⨟ one (MakeClosure f (length xs))) (sym (rest-is n inner))

pub captured-held : (names : List Name) (t : List ℕ) (n : ℕ) (inner : List ℕ) → CapturesHeld t names n (drop slots_from inner) → CapturesHaveSlots names (names_at t (take (length inner - (slots_from + n)) (drop (slots_from + n) inner)))
captured-held names t n inner h = subst (λ (xs : List ℕ). CapturesHaveSlots names (names_at t xs)) (sym (rest-is n inner)) h.held

pub captured-few : (n : ℕ) (inner : List ℕ) → length (drop slots_from inner) ≤ 255 → length (take (length inner - (slots_from + n)) (drop (slots_from + n) inner)) ≤ 255
captured-few n inner h = omega (arith, ap length (rest-is n inner), length-drop n (drop slots_from inner))
