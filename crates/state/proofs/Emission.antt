-- The state after parts put together, by the states after each.
use Prim.Native.Nat.{ℕ, ◌+◌, ◌-◌, ◌≤◌}
use mathlib.Core.Path.{◌≡◌, refl, sym, ap, ◌∙◌}
use mathlib.Core.Option.{Option, none, some}
use mathlib.Core.List.{List, [], ◌∷◌, ◌++◌, append_assoc, append-nil}
use native.Mathlib.Omega.{arith}
use lib.ListN.{length, length-append}
use Rattle.definitions.specs.Bytes.{Name, Text, same, position}
use Rattle.definitions.specs.Instruction.{Instr}
use Rattle.definitions.specs.Tables.{Tables, Out, Emit, emits, one, ◌⨟◌, here, intern, get_or_add_string, add_symbol, add_string}
use Rattle.state.specs.State.{State, emit_at, found_or, symbol_number, with_symbol, string_number, with_string, with_tables}

-- two states are equal by their parts
pub state-eq : (s u : State) → s.stack ≡ u.stack → s.tables ≡ u.tables → s ≡ u
state-eq s u p q = λ i. record { stack = p i; tables = q i }

-- ---- the stack only grows

pub stack-after : (base : ℕ) (e : Emit) (s : State) → length (emit_at base e s).stack ≡ length s.stack + length (e (length s.stack - base) s.tables).code
unfolding emit_at
stack-after base e s = length-append s.stack (e (length s.stack - base) s.tables).code

pub stack-grows : (base : ℕ) (e : Emit) (s : State) → length s.stack ≤ length (emit_at base e s).stack
stack-grows base e s = omega (arith, stack-after base e s)

pub base_kept : (base : ℕ) (e : Emit) (s : State) → base ≤ length s.stack → base ≤ length (emit_at base e s).stack
base_kept base e s h = omega (arith, stack-grows base e s)

-- ---- combinators

pub at-nothing : (base : ℕ) (s : State) → emit_at base (emits []) s ≡ s
unfolding emit_at emits
at-nothing base s = state-eq _ s (append-nil s.stack) refl

pub at_one : (base : ℕ) (i : Instr) (s : State) → emit_at base (one i) s ≡ record { stack = s.stack ++ i ∷ []; tables = s.tables }
unfolding emit_at emits
at_one base i s = refl

pub at_more : (base : ℕ) (i : Instr) (is : List Instr) (s : State) → emit_at base (emits (i ∷ is)) s ≡ emit_at base (emits is) (emit_at base (one i) s)
unfolding emit_at emits
at_more base i is s = state-eq _ _ (sym (append_assoc s.stack (i ∷ []) is)) refl

pub at-seq : (base : ℕ) (e f : Emit) (s : State) → base ≤ length s.stack → emit_at base (e ⨟ f) s ≡ emit_at base f (emit_at base e s)
unfolding emit_at ◌⨟◌
at-seq base e f s h =
    let o = e (length s.stack - base) s.tables in
    let q : length (s.stack ++ o.code) - base ≡ length s.stack - base + length o.code = omega (arith, length-append s.stack o.code) in
    ap (λ (n : ℕ). record { stack = s.stack ++ (o.code ++ (f n o.tables).code); tables = (f n o.tables).tables }) (sym q)
    ∙ state-eq _ _ (sym (append_assoc s.stack o.code _)) refl

pub at-three : (base : ℕ) (e f g : Emit) (s : State) → base ≤ length s.stack → emit_at base (e ⨟ f ⨟ g) s ≡ emit_at base g (emit_at base f (emit_at base e s))
at-three base e f g s h = at-seq base e (f ⨟ g) s h ∙ at-seq base f g (emit_at base e s) (base_kept base e s h)

pub at-four : (base : ℕ) (e f g d : Emit) (s : State) → base ≤ length s.stack
    → emit_at base (e ⨟ f ⨟ g ⨟ d) s ≡ emit_at base d (emit_at base g (emit_at base f (emit_at base e s)))
at-four base e f g d s h = at-seq base e (f ⨟ g ⨟ d) s h ∙ at-three base f g d (emit_at base e s) (base_kept base e s h)

-- a part that looks at the tables
pub at-by : (base : ℕ) (g : Tables → Emit) (s : State) → emit_at base (λ p t. g t p t) s ≡ emit_at base (g s.tables) s
unfolding emit_at
at-by base g s = refl

pub at_here : (base : ℕ) (f : ℕ → Emit) (s : State) → emit_at base (here f) s ≡ emit_at base (f (length s.stack - base)) s
unfolding emit_at here
at_here base f s = refl

-- a number that is found, or made in new tables
found-by : {R : Type 0} (f : ℕ → ℕ → Tables → R) (n p : ℕ) (t u : Tables) (o : Option ℕ)
    → ◌≡◌ {A = R} (elim o as (λ z. R) [ some k ↦ f k p t | none ↦ f n p u ]) (f (found_or n o) p (elim o as (λ z. Tables) [ some k ↦ t | none ↦ u ]))
unfolding found_or
found-by f n p t u none = refl
found-by f n p t u (some k) = refl

pub intern-by : {R : Type 0} (x : Name) (f : ℕ → ℕ → Tables → R) (p : ℕ) (t : Tables) → intern x f p t ≡ f (symbol_number x t) p (with_symbol x t)
unfolding intern symbol_number with_symbol
intern-by x f p t = found-by f (length t.symbols) p t (add_symbol x t) (position (same x) t.symbols)

pub string-by : (x : Text) (f : ℕ → Emit) (p : ℕ) (t : Tables) → get_or_add_string x f p t ≡ f (string_number x t) p (with_string x t)
unfolding get_or_add_string string_number with_string
string-by x f p t = found-by f (length t.strings) p t (add_string x t) (position (same x) t.strings)

-- the state after what a part gives
by_out : (base : ℕ) (e : Emit) (s : State) (o : Out) → e (length s.stack - base) s.tables ≡ o → emit_at base e s ≡ record { stack = s.stack ++ o.code; tables = o.tables }
unfolding emit_at
by_out base e s o h = ap (λ (r : Out). record { stack = s.stack ++ r.code; tables = r.tables }) h

pub at-intern : (base : ℕ) (x : Name) (f : ℕ → Emit) (s : State)
    → emit_at base (intern x f) s ≡ emit_at base (f (symbol_number x s.tables)) (with_tables (with_symbol x s.tables) s)
unfolding emit_at
at-intern base x f s = by_out base (intern x f) s _ (intern-by x f (length s.stack - base) s.tables)

pub at-string : (base : ℕ) (x : Text) (f : ℕ → Emit) (s : State)
    → emit_at base (get_or_add_string x f) s ≡ emit_at base (f (string_number x s.tables)) (with_tables (with_string x s.tables) s)
unfolding emit_at
at-string base x f s = by_out base (get_or_add_string x f) s _ (string-by x f (length s.stack - base) s.tables)
