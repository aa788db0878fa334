-- An iterator's global is main's: it is stored there alone, at the place that its name tells, and no other function makes such a symbol. Where question
-- 33 is answered yes.
use mathlib.Core.Path.{◌≡◌, refl, sym, ap, ◌∙◌, subst}
use mathlib.Core.Bool.{Bool, true, false, not, ◌&&◌, true≢false}
use mathlib.Core.Option.{Option, none, some}
use mathlib.Core.List.{List, [], ◌∷◌, ◌++◌, append-nil, append_assoc}
use mathlib.Core.Logic.{◌⊎◌, inl, inr}
use Prim.Native.Nat.{ℕ, zero, suc, ◌+◌, ◌-◌}
use native.Mathlib.Omega.{arith}
use lib.ListN.{length, get_elem?, set}
use lib.Dec.{eqb}
use borrow.Author.Tests.{eqb-false, not-true}
use Rattle.definitions.specs.Bytes.{Name, Text, position, same, member, all}
use Rattle.definitions.specs.Tree.{Literal, none_l, bool_l, int_l, float_l, string_l, UnaryOp, not_op, negate_op, pos_op, Display, list_d, tuple_d, dict_d, set_d, tree_set_d}
use Rattle.definitions.specs.Tree.{BinaryOp, add_op, subtract_op, multiply_op, divide_op, floor_divide_op, modulo_op, equal_op, not_equal_op, less_op, less_equal_op, greater_op, greater_equal_op}
use Rattle.definitions.specs.Tree.{Expr, lit, var, unary, binary, logical, call, attr, display, index, lambda, Exprs, []ᵉ, ◌∷ᵉ◌, count}
use Rattle.definitions.specs.Tree.{View, as_var, as_attr, as_index, as_tuple, as_other, view_display, view, Attribute}
use Rattle.definitions.specs.Tree.{Stmt, break, continue, pass, expr, return, assign, if, while, for, def, class}
use Rattle.definitions.specs.Tree.{Block, []ᵇ, ◌∷ᵇ◌, Branches, done, else, when, Methods, []ᵐ, method}
use Rattle.definitions.specs.Wellformed.{if_asked, is_iterator, is_tuple, init, ask_name, ask_args, ask_params, ask_method, ask_target, ask_attribute, ask_expr, ask_exprs, ask_stmt, ask_block, ask_branches, ask_methods}
use Rattle.definitions.specs.TreeNames.{names_block}
use Rattle.definitions.specs.Slots.{captures, Keeping, in_globals, in_slots, past, Frame, names_only, with_loops, loops_stmt, loops_block}
use Rattle.definitions.specs.Instruction
use Rattle.definitions.specs.Instruction.{Instr, Return, LoadLocal, StoreGlobal, JumpIfFalse, Jump, ConstBool, minus}
use Rattle.definitions.specs.Tables.{Function, Method, Tables, Body, block_body, expr_body, Out, Emit, add_symbol, add_string, with_classes, emits, one, ◌⨟◌, here, intern, get_or_add_string, coded, begin, set_code, function, enclose}
use Rattle.definitions.specs.Lower
use Rattle.definitions.specs.Lower.{Callee, builtin_callee, function_callee, value_callee, resolve, load, store, literal, decides, jump_on, shortcut, call_named, call_by, lambda_name, loads, closure, emit_expr, emit_exprs, emit_object}
use Rattle.definitions.specs.Lower.{copy, emit_target, unpack, assign_by, patch, patched, loop, Keeper, global, local, make_iter, named_iter, kept_iter, store_iter, load_iter, iter_name, ask_iter, take_iter}
use Rattle.definitions.specs.Lower.{method_end, insert_method, begin_class, class_object, end_class, class_out, emit_stmt, emit_block, emit_branches, emit_methods, compile}
use Rattle.definitions.specs.Open.{all_bytes, all_instruction, all_tree}
use Rattle.definitions.specs.Statements.{LoopGlobals}
use Rattle.definitions.proofs.Truth.{left, right}
use Rattle.definitions.proofs.Every.{Every, no_every, every, every_append, every_map, every-at}
use Rattle.definitions.proofs.MethodOrder.{same-eq}
use Rattle.definitions.proofs.BoundedVariables.{Held, held-captures}
use Rattle.definitions.proofs.Accepted.{accepted-gives}
use Rattle.definitions.proofs.Iterators.{iterators}
use Rattle.definitions.proofs.TreeNames.{tree_names}
use Rattle.definitions.proofs.NamePlaces.{stays_at, last_at, position_at}

-- ---- names in tables that grow

record Grown (xs ys : List Name) : Type 0 where
  new : List Name
  is : ys ≡ xs ++ new

grown-none : {xs : List Name} → Grown xs xs
grown-none {xs} = record { new = []; is = sym (append-nil xs) }

grown-one : {xs : List Name} (x : Name) → Grown xs (xs ++ (x ∷ []))
grown-one x = record { new = x ∷ []; is = refl }

grown-more : {xs ys zs : List Name} → Grown xs ys → Grown ys zs → Grown xs zs
grown-more {xs} A B = record {
  new = A.new ++ B.new;
  is = B.is ∙ ap (λ (z : List Name). z ++ B.new) A.is ∙ append_assoc xs A.new B.new;
}

found_up : {xs ys : List Name} (k : ℕ) (x : Name) → Grown xs ys → get_elem? xs k ≡ some x → get_elem? ys k ≡ some x
found_up {xs} k x G e = rw G.is (stays_at xs G.new k x e)

-- the last of the names, or one before it
found-snoc : (xs : List Name) (x : Name) (k : ℕ) (y : Name) → get_elem? (xs ++ (x ∷ [])) k ≡ some y → (get_elem? xs k ≡ some y) ⊎ ((k ≡ length xs) × (x ≡ y))
found-snoc [] x zero y e = let q : x ≡ y = cc in inr (refl, q)
found-snoc [] x (suc k) y e = let z : ◌≡◌ {A = ℕ} 0 1 = cc in absurd (omega arith)
found-snoc (z ∷ xs) x zero y e = inl e
found-snoc (z ∷ xs) x (suc k) y e = go (found-snoc xs x k y e)
  where
    go : (get_elem? xs k ≡ some y) ⊎ ((k ≡ length xs) × (x ≡ y)) → (get_elem? xs k ≡ some y) ⊎ ((suc k ≡ suc (length xs)) × (x ≡ y))
    go (inl h) = inl h
    go (inr h) = inr (ap suc h.0, h.1)

-- ---- stores of globals, in main's code (m is true) and in another function's

-- an instruction at place p, where it stores a global: its symbol's name is known, and if it is an iterator's, the code is main's and it tells the place
record Own (m : Bool) (xs : List Name) (p : ℕ) (i : Instr) : Type 0 where
  at : i.op ≡ 12 → (x : Name) × (get_elem? xs i.a ≡ some x) × (is_iterator x ≡ true → (m ≡ true) × (x ≡ iter_name p))

own-other : {m : Bool} {xs : List Name} {p : ℕ} {i : Instr} → eqb i.op 12 ≡ false → Own m xs p i
own-other {i} e = record { at = λ h. absurd (eqb-false i.op 12 e h) }

own-up : {m : Bool} {xs ys : List Name} {p : ℕ} {i : Instr} → Grown xs ys → Own m xs p i → Own m ys p i
own-up {i} G O = record { at = λ h. let o = O.at h in (o.0, found_up i.a o.0 G o.1, o.2) }

-- each instruction from place p on
data Owns (m : Bool) (xs : List Name) : ℕ → List Instr → Type 0 where
  no_owns : {p : ℕ} → Owns m xs p []
  owns : {p : ℕ} {i : Instr} {is : List Instr} → Own m xs p i → Owns m xs (suc p) is → Owns m xs p (i ∷ is)

owns-up : {m : Bool} {xs ys : List Name} {p : ℕ} {is : List Instr} → Grown xs ys → Owns m xs p is → Owns m ys p is
owns-up G no_owns = no_owns
owns-up G (owns o r) = owns (own-up G o) (owns-up G r)

owns-append : {m : Bool} {xs : List Name} {p : ℕ} (is : List Instr) {js : List Instr} → Owns m xs p is → Owns m xs (p + length is) js → Owns m xs p (is ++ js)
owns-append {m} {xs} {p} [] {js} no_owns b = subst (λ (n : ℕ). Owns m xs n js) (let e : p + 0 ≡ p = omega arith in e) b
owns-append {m} {xs} {p} (i ∷ is) {js} (owns o r) b =
    owns o (owns-append is r (subst (λ (n : ℕ). Owns m xs n js) (let e : p + suc (length is) ≡ suc p + length is = omega arith in e) b))

owns-at : {m : Bool} {xs : List Name} {p : ℕ} (is : List Instr) → Owns m xs p is → (k : ℕ) (i : Instr) → get_elem? is k ≡ some i → Own m xs (p + k) i
owns-at [] no_owns k i e = let z : ◌≡◌ {A = ℕ} 0 1 = cc in absurd (omega arith)
owns-at {m} {xs} {p} (j ∷ is) (owns o r) zero i e =
    let q : j ≡ i = cc in subst (λ (n : ℕ). Own m xs n i) (let z : p ≡ p + 0 = omega arith in z) (subst (λ (k : Instr). Own m xs p k) q o)
owns-at {m} {xs} {p} (j ∷ is) (owns o r) (suc k) i e = subst (λ (n : ℕ). Own m xs n i) (let z : suc p + k ≡ p + suc k = omega arith in z) (owns-at is r k i e)

patched-own : {m : Bool} {xs : List Name} {p : ℕ} (h n j : ℕ) (i : Instr) → Own m xs p i → Own m xs p (patched h n j i)
unfolding patched
patched-own {m} {xs} {p} h n j i o = go (eqb i.op 46) (eqb i.op 47)
  where
    go : (a c : Bool) → Own m xs p (elim a as (λ z. Instr) [ true ↦ Jump (n - j) | false ↦ elim c as (λ z. Instr) [ true ↦ Jump (minus (h + suc j)) | false ↦ i ] ])
    go true c = own-other refl
    go false true = own-other refl
    go false false = o

patch-owns : {m : Bool} {xs : List Name} {p : ℕ} (h n j : ℕ) {is : List Instr} → Owns m xs p is → Owns m xs p (patch h n j is)
unfolding patch
patch-owns h n j no_owns = no_owns
patch-owns h n j (owns {i} o r) = owns (patched-own h n j i o) (patch-owns h n (suc j) r)

-- ---- where a symbol of the iterators' form comes from: it was there before, or main's code stores it

data Known (m : Bool) (xs : List Name) (a : ℕ) (x : Name) (is : List Instr) : Type 0 where
  before : get_elem? xs a ≡ some x → Known m xs a x is
  stored : m ≡ true → (i : ℕ) → get_elem? is i ≡ some (StoreGlobal a) → Known m xs a x is

instr-front : (is js : List Instr) (i : ℕ) (x : Instr) → get_elem? is i ≡ some x → get_elem? (is ++ js) i ≡ some x
instr-front [] js i x e = let z : ◌≡◌ {A = ℕ} 0 1 = cc in absurd (omega arith)
instr-front (j ∷ is) js zero x e = e
instr-front (j ∷ is) js (suc i) x e = instr-front is js i x e

instr-back : (is js : List Instr) (i : ℕ) (x : Instr) → get_elem? js i ≡ some x → get_elem? (is ++ js) (length is + i) ≡ some x
instr-back [] js i x e = subst (λ (n : ℕ). get_elem? js n ≡ some x) (let z : i ≡ 0 + i = omega arith in z) e
instr-back (j ∷ is) js i x e = subst (λ (n : ℕ). get_elem? (j ∷ (is ++ js)) n ≡ some x) (let z : suc (length is + i) ≡ suc (length is) + i = omega arith in z) (instr-back is js i x e)

instr-patched : (h n j : ℕ) (is : List Instr) (i a : ℕ) → get_elem? is i ≡ some (StoreGlobal a) → get_elem? (patch h n j is) i ≡ some (StoreGlobal a)
unfolding patch patched
instr-patched h n j [] i a e = e
instr-patched h n j (x ∷ is) zero a e = let q : x ≡ StoreGlobal a = cc in ap (λ (y : Instr). some (patched h n j y)) q
instr-patched h n j (x ∷ is) (suc i) a e = instr-patched h n (suc j) is i a e

module _ {m : Bool} {xs : List Name} {a : ℕ} {x : Name} where
  known-front : {is : List Instr} (js : List Instr) → Known m xs a x is → Known m xs a x (is ++ js)
  known-front js (before e) = before e
  known-front {is} js (stored q i e) = stored q i (instr-front is js i _ e)

  known-back : (is : List Instr) {js : List Instr} → Known m xs a x js → Known m xs a x (is ++ js)
  known-back is (before e) = before e
  known-back is {js} (stored q i e) = stored q (length is + i) (instr-back is js i _ e)

  known-patch : (h n : ℕ) {is : List Instr} → Known m xs a x is → Known m xs a x (patch h n 0 is)
  known-patch h n (before e) = before e
  known-patch h n {is} (stored q i e) = stored q i (instr-patched h n 0 is i a e)

  -- of one that was there before the second part
  known-then : {ys : List Name} {is js : List Instr} → Known m ys a x js → (get_elem? ys a ≡ some x → Known m xs a x is) → Known m xs a x (is ++ js)
  known-then {js = js} (before e) F = known-front js (F e)
  known-then {is = is} {js = js} (stored q i e) F = stored q (length is + i) (instr-back is js i _ e)

-- another function's code stores none
known-aside : {xs : List Name} {a : ℕ} {x : Name} {is : List Instr} → Known false xs a x is → get_elem? xs a ≡ some x
known-aside (before e) = e
known-aside (stored q i e) = absurd (true≢false (sym q))

-- ---- parts

record OwnCode (m : Bool) (xs : List Name) (f : Function) : Type 0 where
  code : Owns m xs 0 f.code

-- functions that are not main, or main without its code yet
abbrev Aside : List Name → List Function → Type 0
Aside xs fs = Every (OwnCode false xs) fs

codes-up : {xs ys : List Name} {fs : List Function} → Grown xs ys → Aside xs fs → Aside ys fs
codes-up G E = every_map (λ f o. record { code = owns-up G o.code }) E

codes-set : {xs : List Name} (fs : List Function) (n : ℕ) (is : List Instr) → Owns false xs 0 is → Aside xs fs → Aside xs (set_code fs n is)
unfolding set_code
codes-set [] n is o no_every = no_every
codes-set (f ∷ fs) zero is o (every p r) = every (record { code = o }) r
codes-set (f ∷ fs) (suc n) is o (every p r) = every p (codes-set fs n is o r)

-- where each symbol of the iterators' form comes from
record Names (m : Bool) (xs ys : List Name) (is : List Instr) : Type 0 where
  at : (a : ℕ) (x : Name) → get_elem? ys a ≡ some x → is_iterator x ≡ true → Known m xs a x is

names_same : {m : Bool} {xs : List Name} {is : List Instr} → Names m xs xs is
names_same = record { at = λ a x e h. before e }

names-then : {m : Bool} {xs ys zs : List Name} {is js : List Instr} → Names m xs ys is → Names m ys zs js → Names m xs zs (is ++ js)
names-then N M = record { at = λ a x e h. known-then (M.at a x e h) (λ f. N.at a x f h) }

names-front : {m : Bool} {xs ys : List Name} {is : List Instr} (js : List Instr) → Names m xs ys is → Names m xs ys (is ++ js)
names-front js N = record { at = λ a x e h. known-front js (N.at a x e h) }

names-back : {m : Bool} {xs ys : List Name} (is : List Instr) {js : List Instr} → Names m xs ys js → Names m xs ys (is ++ js)
names-back is N = record { at = λ a x e h. known-back is (N.at a x e h) }

names-patch : {m : Bool} {xs ys : List Name} (h n : ℕ) {is : List Instr} → Names m xs ys is → Names m xs ys (patch h n 0 is)
names-patch h n N = record { at = λ a x e k. known-patch h n (N.at a x e k) }

names-aside : {m : Bool} {xs ys : List Name} {is : List Instr} → Names false xs ys is → Names m xs ys []
names-aside N = record { at = λ a x e h. before (known-aside (N.at a x e h)) }

-- a part at place p: the names only grow, its stores are so, the functions' stay so, and no symbol of the iterators' form comes from elsewhere
record Step (m : Bool) (p : ℕ) (t : Tables) (o : Out) : Type 0 where
  grown : Grown t.symbols o.tables.symbols
  code : Owns m o.tables.symbols p o.code
  codes : Aside t.symbols t.functions → Aside o.tables.symbols o.tables.functions
  names : Names m t.symbols o.tables.symbols o.code

record Owning (m : Bool) (e : Emit) : Type 0 where
  at : (p : ℕ) (t : Tables) → Step m p t (e p t)

-- nothing is numbered, and no global is stored
data NoStores : List Instr → Type 0 where
  no_stores : NoStores []
  no_store : {i : Instr} {is : List Instr} → eqb i.op 12 ≡ false → NoStores is → NoStores (i ∷ is)

no-stores : {m : Bool} {xs : List Name} {p : ℕ} {is : List Instr} → NoStores is → Owns m xs p is
no-stores no_stores = no_owns
no-stores (no_store e r) = owns (own-other e) (no-stores r)

owning-emits : {m : Bool} {is : List Instr} → NoStores is → Owning m (emits is)
unfolding emits
owning-emits n = record { at = λ p t. record { grown = grown-none; code = no-stores n; codes = λ E. E; names = names_same } }

owning-one : {m : Bool} (i : Instr) → eqb i.op 12 ≡ false → Owning m (one i)
owning-one i e = owning-emits (no_store e no_stores)

owning-seq : {m : Bool} {e f : Emit} → Owning m e → Owning m f → Owning m (e ⨟ f)
unfolding ◌⨟◌
owning-seq {e} {f} A B = record {
  at = λ p t.
      let S = A.at p t in
      let R = B.at (p + length (e p t).code) (e p t).tables in
      record {
        grown = grown-more S.grown R.grown;
        code = owns-append (e p t).code (owns-up R.grown S.code) R.code;
        codes = λ E. R.codes (S.codes E);
        names = names-then S.names R.names;
      };
}

owning-by : {m : Bool} {g : Tables → Emit} → ((t : Tables) → Owning m (g t)) → Owning m (λ p t. g t p t)
owning-by G = record { at = λ p t. (G t).at p t }

-- a part that goes on with the symbol of a name; where this is an iterator's, main's code stores it
symbol-step : {m : Bool} (f : ℕ → Emit) (x : Name) (p : ℕ) (t : Tables) → ((k : ℕ) (u : Tables) → get_elem? u.symbols k ≡ some x → Step m p u (f k p u))
    → ((k : ℕ) (u : Tables) → is_iterator x ≡ true → (m ≡ true) × (i : ℕ) × (get_elem? (f k p u).code i ≡ some (StoreGlobal k))) → Step m p t (intern x f p t)
unfolding intern
symbol-step {m} f x p t F N = go (position (same x) t.symbols) (position_at x t.symbols)
  where
    new : (o : Out) → ((a : ℕ) (y : Name) → get_elem? o.tables.symbols a ≡ some y → is_iterator y ≡ true → Known m (t.symbols ++ (x ∷ [])) a y o.code)
        → (is_iterator x ≡ true → (m ≡ true) × (i : ℕ) × (get_elem? o.code i ≡ some (StoreGlobal (length t.symbols))))
        → (a : ℕ) (y : Name) → get_elem? o.tables.symbols a ≡ some y → is_iterator y ≡ true → Known m t.symbols a y o.code
    new o K M a y e h = last (K a y e h)
      where
        last : Known m (t.symbols ++ (x ∷ [])) a y o.code → Known m t.symbols a y o.code
        last (stored q i z) = stored q i z
        last (before z) = here' (found-snoc t.symbols x a y z)
          where
            here' : (get_elem? t.symbols a ≡ some y) ⊎ ((a ≡ length t.symbols) × (x ≡ y)) → Known m t.symbols a y o.code
            here' (inl w) = before w
            here' (inr w) =
                let s = M (ap is_iterator w.1 ∙ h) in
                stored s.0 s.1 (s.2 ∙ ap (λ (n : ℕ). some (StoreGlobal n)) (sym w.0))

    go : (o : Option ℕ) → ((k : ℕ) → o ≡ some k → get_elem? t.symbols k ≡ some x)
        → Step m p t (elim o as (λ z. Out) [ some k ↦ f k p t | none ↦ f (length t.symbols) p (add_symbol x t) ])
    go (some k) h = F k t (h k refl)
    go none h =
        let S = F (length t.symbols) (add_symbol x t) (last_at t.symbols x) in
        record {
          grown = grown-more (grown-one x) S.grown;
          code = S.code;
          codes = λ E. S.codes (codes-up (grown-one x) E);
          names = record { at = new (f (length t.symbols) p (add_symbol x t)) S.names.at (N (length t.symbols) (add_symbol x t)) };
        }

-- a name that is no iterator's
plain_step : {m : Bool} (f : ℕ → Emit) (x : Name) (p : ℕ) (t : Tables) → is_iterator x ≡ false → ((k : ℕ) (u : Tables) → get_elem? u.symbols k ≡ some x → Step m p u (f k p u)) → Step m p t (intern x f p t)
plain_step f x p t h F = symbol-step f x p t F (λ k u y. absurd (true≢false (sym y ∙ h)))

owning-symbol : {m : Bool} {f : ℕ → Emit} (x : Name) → is_iterator x ≡ false → ((k : ℕ) → Owning m (f k)) → Owning m (intern x f)
owning-symbol {f} x h F = record { at = λ p t. plain_step f x p t h (λ k u e. (F k).at p u) }

-- a store in the global of a name that is no iterator's
plain-own : {m : Bool} {xs : List Name} {p : ℕ} (x : Name) (k : ℕ) → is_iterator x ≡ false → get_elem? xs k ≡ some x → Own m xs p (StoreGlobal k)
plain-own x k h e = record { at = λ z. (x, e, λ y. absurd (true≢false (sym y ∙ h))) }

owning-string : {m : Bool} {f : ℕ → Emit} (x : Text) → ((k : ℕ) → Owning m (f k)) → Owning m (get_or_add_string x f)
unfolding get_or_add_string
owning-string {m} {f} x F = record { at = λ p t. go p t (position (same x) t.strings) }
  where
    go : (p : ℕ) (t : Tables) (o : Option ℕ) → Step m p t (elim o as (λ z. Out) [ some k ↦ f k p t | none ↦ f (length t.strings) p (add_string x t) ])
    go p t (some k) = (F k).at p t
    go p t none = let S = (F (length t.strings)).at p (add_string x t) in record { grown = S.grown; code = S.code; codes = S.codes; names = S.names }

-- a function that is not main
owning-function : {m : Bool} {e : Emit} (x : Name) (arity : ℕ) (frame : Frame) (body : Body) → is_iterator x ≡ false → Owning false e → Owning m (function x arity frame body e)
unfolding function enclose begin
owning-function {e} x arity frame body h E = owning-symbol x h (λ k. record {
  at = λ p t.
      let S = E.at 0 (begin k arity frame t) in
      record {
        grown = S.grown;
        code = no_owns;
        codes = λ C. codes-set _ (length t.functions) _ S.code (S.codes (every_append C (every (record { code = no_owns }) no_every)));
        names = names-aside S.names;
      };
})

pub no-store-jump : (b : Bool) (n : ℕ) → eqb (jump_on b n).op 12 ≡ false
unfolding jump_on
no-store-jump false n = refl
no-store-jump true n = refl

no-store-bool : (b : Bool) → eqb (ConstBool b).op 12 ≡ false
no-store-bool false = refl
no-store-bool true = refl

owning-shortcut : {m : Bool} {e : Emit} (b : Bool) → Owning m e → Owning m (shortcut b e)
unfolding shortcut
owning-shortcut {e} b E = record {
  at = λ p t.
      let o = e (suc p) t in
      let S = E.at (suc p) t in
      record {
        grown = S.grown;
        code = owns (own-other (no-store-jump b _)) (owns-append o.code S.code (owns (own-other refl) (owns (own-other (no-store-bool b)) no_owns)));
        codes = S.codes;
        names = names-back (jump_on b (suc (length o.code)) ∷ []) (names-front (Jump 1 ∷ ConstBool b ∷ []) S.names);
      };
}

owning-loop : {m : Bool} {e f : Emit} → Owning m e → Owning m f → Owning m (loop e f)
unfolding loop
owning-loop {e} {f} A B = record {
  at = λ p t.
      let a = e p t in
      let q = suc (p + length a.code) in
      let b = f q a.tables in
      let S = A.at p t in
      let R = B.at q a.tables in
      record {
        grown = grown-more S.grown R.grown;
        code = owns-append a.code (owns-up R.grown S.code)
            (owns (own-other refl) (owns-append (patch (suc (length a.code)) (length b.code) 0 b.code) (patch-owns _ _ 0 R.code) (owns (own-other refl) no_owns)));
        codes = λ E. R.codes (S.codes E);
        names = names-then S.names (names-back (JumpIfFalse (suc (length b.code)) ∷ []) (names-front _ (names-patch _ _ R.names)));
      };
}

-- ---- expressions

not-iterator : (x : Name) → ask_name 33 x ≡ true → is_iterator x ≡ false
unfolding ask_name if_asked
not-iterator x e = not-true (is_iterator x) (left (not (is_iterator x)) true e)

owning-load : {m : Bool} (slots : List Name) (x : Name) → is_iterator x ≡ false → Owning m (load slots x)
unfolding load
owning-load {m} slots x h = go (position (same x) slots)
  where
    go : (o : Option ℕ) → Owning m (elim o as (λ z. Emit) [ some i ↦ one (LoadLocal i) | none ↦ intern x (λ k. one (Instruction.LoadGlobal k)) ])
    go (some i) = owning-one _ refl
    go none = owning-symbol x h (λ k. owning-one _ refl)

owning-global : {m : Bool} (x : Name) → is_iterator x ≡ false → Owning m (intern x (λ k. one (StoreGlobal k)))
unfolding emits
owning-global x h = record { at = λ p t. plain_step (λ k. one (StoreGlobal k)) x p t h (λ k u e. record { grown = grown-none; code = owns (plain-own x k h e) no_owns; codes = λ E. E; names = names_same }) }

owning-store : {m : Bool} (slots : List Name) (x : Name) → is_iterator x ≡ false → Owning m (store slots x)
unfolding store
owning-store {m} slots x h = go (position (same x) slots)
  where
    go : (o : Option ℕ) → Owning m (elim o as (λ z. Emit) [ some i ↦ one (Instruction.StoreLocal i) | none ↦ intern x (λ k. one (StoreGlobal k)) ])
    go (some i) = owning-one _ refl
    go none = owning-global x h

-- a name with a slot is not interned
owning-held : {m : Bool} (slots : List Name) (x : Name) → Held slots x → Owning m (load slots x)
unfolding load member
owning-held {m} slots x h = go (position (same x) slots) h.held
  where
    go : (o : Option ℕ) → ◌≡◌ {A = Bool} (elim o as (λ z. Bool) [ none ↦ false | some i ↦ true ]) true → Owning m (elim o as (λ z. Emit) [ some i ↦ one (LoadLocal i) | none ↦ intern x (λ k. one (Instruction.LoadGlobal k)) ])
    go (some i) e = owning-one _ refl
    go none e = let z : ◌≡◌ {A = ℕ} 0 1 = cc in absurd (omega arith)

owning-loads : {m : Bool} (slots : List Name) {xs : List Name} → Every (Held slots) xs → Owning m (loads slots xs)
unfolding loads
owning-loads slots no_every = owning-emits no_stores
owning-loads slots (every {a = x} h r) = owning-seq (owning-held slots x h) (owning-loads slots r)

owning-literal : {m : Bool} (l : Literal) → Owning m (literal l)
unfolding literal
owning-literal none_l = owning-one _ refl
owning-literal (bool_l b) = owning-one _ (no-store-bool b)
owning-literal (int_l n) = owning-one _ refl
owning-literal (float_l n) = owning-one _ refl
owning-literal (string_l s) = owning-string s (λ k. owning-one _ refl)

owning-unary : {m : Bool} (op : UnaryOp) → Owning m (one (Instruction.Unary op))
unfolding all_instruction
owning-unary not_op = owning-one _ refl
owning-unary negate_op = owning-one _ refl
owning-unary pos_op = owning-one _ refl

owning-binary : {m : Bool} (op : BinaryOp) → Owning m (one (Instruction.Binary op))
unfolding all_instruction all_tree
owning-binary add_op = owning-one _ refl
owning-binary subtract_op = owning-one _ refl
owning-binary multiply_op = owning-one _ refl
owning-binary divide_op = owning-one _ refl
owning-binary floor_divide_op = owning-one _ refl
owning-binary modulo_op = owning-one _ refl
owning-binary equal_op = owning-one _ refl
owning-binary not_equal_op = owning-one _ refl
owning-binary less_op = owning-one _ refl
owning-binary less_equal_op = owning-one _ refl
owning-binary greater_op = owning-one _ refl
owning-binary greater_equal_op = owning-one _ refl

owning-build : {m : Bool} (k : Display) (n : ℕ) → Owning m (one (Instruction.Build k n))
unfolding all_instruction
owning-build list_d n = owning-one _ refl
owning-build tuple_d n = owning-one _ refl
owning-build dict_d n = owning-one _ refl
owning-build set_d n = owning-one _ refl
owning-build tree_set_d n = owning-one _ refl

lambda-apart : (n : ℕ) → is_iterator (lambda_name n) ≡ false
unfolding is_iterator lambda_name all_bytes
lambda-apart n = refl

owning-closure : {m : Bool} {e : Emit} (slots : List Name) (n : ℕ) (inner cs : List Name) (body : Body) → Every (Held slots) cs → Owning false e → Owning m (closure slots n inner cs body e)
unfolding closure
owning-closure {e} slots n inner cs body h E =
    owning-by {g = λ t. function (lambda_name (length t.functions)) n (names_only inner) body (e ⨟ one Return) ⨟ loads slots cs ⨟ one (Instruction.MakeClosure (length t.functions) (length cs))}
    (λ t. owning-seq (owning-function _ n (names_only inner) body (lambda-apart (length t.functions)) (owning-seq E (owning-one _ refl))) (owning-seq (owning-loads slots h) (owning-one _ refl)))

owning-named : {m : Bool} {e : Emit} (c : Callee) (slots : List Name) (x : Name) (n : ℕ) → is_iterator x ≡ false → Owning m e → Owning m (call_named c slots x e n)
unfolding call_named
owning-named (builtin_callee i) slots x n h A = owning-seq A (owning-one _ refl)
owning-named (function_callee i) slots x n h A = owning-seq A (owning-one _ refl)
owning-named value_callee slots x n h A = owning-seq (owning-load slots x h) (owning-seq A (owning-one _ refl))

-- the names of a callee or target, by its form
abbrev Apart : View → Type 0
Apart (as_var x) = is_iterator x ≡ false
Apart (as_attr o x) = (ask_expr 33 o ≡ true) × (is_iterator x ≡ false)
Apart (as_index o i) = (ask_expr 33 o ≡ true) × (ask_expr 33 i ≡ true)
Apart (as_tuple es) = ask_exprs 33 es ≡ true
Apart as_other = Unit {0}

apart-display : (k : Display) (es : Exprs) → ask_exprs 33 es ≡ true → Apart (view_display k es)
unfolding view_display
apart-display list_d es q = tt
apart-display tuple_d es q = q
apart-display dict_d es q = tt
apart-display set_d es q = tt
apart-display tree_set_d es q = tt

apart-view : (e : Expr) → ask_expr 33 e ≡ true → Apart (view e)
unfolding view ask_expr
apart-view (lit l) q = tt
apart-view (var x) q = not-iterator x q
apart-view (unary op f) q = tt
apart-view (binary op l r) q = tt
apart-view (logical op l r) q = tt
apart-view (call f es) q = tt
apart-view (attr o x) q = (left (ask_expr 33 o) (ask_name 33 x) q, not-iterator x (right (ask_expr 33 o) (ask_name 33 x) q))
apart-view (display k es) q = apart-display k es q
apart-view (index o i) q = (left (ask_expr 33 o) (ask_expr 33 i) q, right (ask_expr 33 o) (ask_expr 33 i) q)
apart-view (lambda ps b) q = tt

owning-call : {m : Bool} (v : View) (slots : List Name) (n : ℕ) {e o a : Emit} → Apart v → Owning m e → Owning m o → Owning m a → Owning m (call_by v slots e o a n)
unfolding call_by
owning-call (as_var x) slots n h E O A = record { at = λ p t. (owning-named (resolve x t) slots x n h A).at p t }
owning-call (as_attr o x) slots n h E O A = let P = owning-seq O (owning-seq A (owning-symbol x h.1 (λ k. owning-one _ refl))) in record { at = P.at }
owning-call (as_index o i) slots n h E O A = let P = owning-seq E (owning-seq A (owning-one _ refl)) in record { at = P.at }
owning-call (as_tuple es) slots n h E O A = let P = owning-seq E (owning-seq A (owning-one _ refl)) in record { at = P.at }
owning-call as_other slots n h E O A = let P = owning-seq E (owning-seq A (owning-one _ refl)) in record { at = P.at }

mutual
  unfolding emit_expr emit_exprs emit_object ask_expr ask_exprs

  owning-expr : (m : Bool) (slots : List Name) (e : Expr) → ask_expr 33 e ≡ true → Owning m (emit_expr slots e)
  owning-expr m slots (lit l) q = owning-literal l
  owning-expr m slots (var x) q = owning-load slots x (not-iterator x q)
  owning-expr m slots (unary op e) q = owning-seq (owning-expr m slots e q) (owning-unary op)
  owning-expr m slots (binary op l r) q =
      owning-seq (owning-expr m slots l (left (ask_expr 33 l) (ask_expr 33 r) q)) (owning-seq (owning-expr m slots r (right (ask_expr 33 l) (ask_expr 33 r) q)) (owning-binary op))
  owning-expr m slots (logical op l r) q =
      owning-seq (owning-expr m slots l (left (ask_expr 33 l) (ask_expr 33 r) q)) (owning-shortcut (decides op) (owning-expr m slots r (right (ask_expr 33 l) (ask_expr 33 r) q)))
  owning-expr m slots (call f es) q =
      let u = left (ask_expr 33 f) (ask_args 33 es) (left (ask_expr 33 f && ask_args 33 es) (ask_exprs 33 es) q) in
      owning-call (view f) slots (count es) (apart-view f u) (owning-expr m slots f u) (owning-object m slots f u) (owning-exprs m slots es (right (ask_expr 33 f && ask_args 33 es) (ask_exprs 33 es) q))
  owning-expr m slots (attr o x) q =
      owning-seq (owning-expr m slots o (left (ask_expr 33 o) (ask_name 33 x) q)) (owning-symbol x (not-iterator x (right (ask_expr 33 o) (ask_name 33 x) q)) (λ k. owning-one _ refl))
  owning-expr m slots (display k es) q = owning-seq (owning-exprs m slots es q) (owning-build k _)
  owning-expr m slots (index o i) q =
      owning-seq (owning-expr m slots o (left (ask_expr 33 o) (ask_expr 33 i) q)) (owning-seq (owning-expr m slots i (right (ask_expr 33 o) (ask_expr 33 i) q)) (owning-one _ refl))
  owning-expr m slots (lambda ps b) q =
      let cs = captures slots ps b in
      owning-closure slots (length ps) (ps ++ cs) cs (expr_body b) (held-captures slots ps b) (owning-expr false (ps ++ cs) b (right (ask_params 33 ps) (ask_expr 33 b) q))

  owning-exprs : (m : Bool) (slots : List Name) (es : Exprs) → ask_exprs 33 es ≡ true → Owning m (emit_exprs slots es)
  owning-exprs m slots []ᵉ q = owning-emits no_stores
  owning-exprs m slots (e ∷ᵉ es) q = owning-seq (owning-expr m slots e (left (ask_expr 33 e) (ask_exprs 33 es) q)) (owning-exprs m slots es (right (ask_expr 33 e) (ask_exprs 33 es) q))

  owning-object : (m : Bool) (slots : List Name) (e : Expr) → ask_expr 33 e ≡ true → Owning m (emit_object slots e)
  owning-object m slots (lit l) q = owning-emits no_stores
  owning-object m slots (var x) q = owning-emits no_stores
  owning-object m slots (unary op e) q = owning-emits no_stores
  owning-object m slots (binary op l r) q = owning-emits no_stores
  owning-object m slots (logical op l r) q = owning-emits no_stores
  owning-object m slots (call f es) q = owning-emits no_stores
  owning-object m slots (attr o x) q = owning-expr m slots o (left (ask_expr 33 o) (ask_name 33 x) q)
  owning-object m slots (display k es) q = owning-emits no_stores
  owning-object m slots (index o i) q = owning-emits no_stores
  owning-object m slots (lambda ps b) q = owning-emits no_stores

-- ---- targets

owning-copy : {m : Bool} (i : ℕ) → Owning m (copy i)
unfolding copy
owning-copy zero = owning-emits no_stores
owning-copy (suc i) = owning-one _ refl

owning-tuple : {m : Bool} (b : Bool) {e : Emit} → Owning m e → Owning m (elim b as (λ z. Emit) [ true ↦ e | false ↦ emits [] ])
owning-tuple true E = E
owning-tuple false E = owning-emits no_stores

mutual
  unfolding emit_target unpack ask_expr ask_exprs

  owning-target : (m : Bool) (slots : List Name) (e : Expr) → ask_expr 33 e ≡ true → Owning m (emit_target slots e)
  owning-target m slots (lit l) q = owning-emits no_stores
  owning-target m slots (var x) q = owning-store slots x (not-iterator x q)
  owning-target m slots (unary op e) q = owning-emits no_stores
  owning-target m slots (binary op l r) q = owning-emits no_stores
  owning-target m slots (logical op l r) q = owning-emits no_stores
  owning-target m slots (call f es) q = owning-emits no_stores
  owning-target m slots (attr o x) q = owning-emits no_stores
  owning-target m slots (display k es) q = owning-tuple (is_tuple k) (owning-unpack m slots es 0 q)
  owning-target m slots (index o i) q = owning-emits no_stores
  owning-target m slots (lambda ps b) q = owning-emits no_stores

  owning-unpack : (m : Bool) (slots : List Name) (es : Exprs) (i : ℕ) → ask_exprs 33 es ≡ true → Owning m (unpack slots es i)
  owning-unpack m slots []ᵉ i q = owning-emits no_stores
  owning-unpack m slots (e ∷ᵉ es) i q =
      owning-seq (owning-unpack m slots es (suc i) (right (ask_expr 33 e) (ask_exprs 33 es) q))
      (owning-seq (owning-copy i) (owning-seq (owning-emits (no_store refl (no_store refl no_stores))) (owning-target m slots e (left (ask_expr 33 e) (ask_exprs 33 es) q))))

owning-assign : {m : Bool} (v : View) (slots : List Name) {e : Emit} → Apart v → Owning m e → Owning m (assign_by v slots e)
unfolding assign_by
owning-assign (as_var x) slots q E = owning-seq E (owning-store slots x q)
owning-assign {m} (as_attr o x) slots q E = owning-seq (owning-expr m slots o q.0) (owning-seq E (owning-symbol x q.1 (λ k. owning-one _ refl)))
owning-assign {m} (as_index o i) slots q E = owning-seq (owning-expr m slots o q.0) (owning-seq (owning-expr m slots i q.1) (owning-seq E (owning-one _ refl)))
owning-assign {m} (as_tuple es) slots q E = owning-seq E (owning-unpack m slots es 0 q)
owning-assign as_other slots q E = owning-emits no_stores

-- ---- loops

owning-make_iter : {m : Bool} → Owning m make_iter
unfolding make_iter is_iterator all_bytes
owning-make_iter = owning-symbol _ refl (λ k. owning-one _ refl)

owning-load_iter : {m : Bool} (g : Keeper) → Owning m (one (load_iter g))
unfolding load_iter
owning-load_iter (global k) = owning-one _ refl
owning-load_iter (local n) = owning-one _ refl

owning-ask_iter : {m : Bool} (g : Keeper) → Owning m (ask_iter g)
unfolding ask_iter is_iterator all_bytes
owning-ask_iter g = owning-seq (owning-load_iter g) (owning-symbol _ refl (λ k. owning-one _ refl))

owning-take_iter : {m : Bool} (slots : List Name) (x : Name) (g : Keeper) → is_iterator x ≡ false → Owning m (take_iter slots x g)
unfolding take_iter is_iterator all_bytes
owning-take_iter slots x g h = owning-seq (owning-load_iter g) (owning-seq (owning-symbol _ refl (λ k. owning-one _ refl)) (owning-store slots x h))

-- main's loops keep their iterators in globals, another function's in slots
data Serves : Bool → Keeping → Type 0 where
  mainly : Serves true in_globals
  aside : {n : ℕ} → Serves false (in_slots n)

serves-past : {m : Bool} {keep : Keeping} (n : ℕ) → Serves m keep → Serves m (past n keep)
unfolding past
serves-past n mainly = mainly
serves-past n aside = aside

-- the iterator's store stands at the place that its name tells; what follows stores only its own
owning-iter : {f : Keeper → Emit} (m : Bool) (keep : Keeping) → Serves m keep → ((g : Keeper) → Owning m (f g)) → Owning m (kept_iter keep (λ g. one (store_iter g) ⨟ f g))
unfolding kept_iter named_iter here store_iter ◌⨟◌ emits
owning-iter {f} m keep mainly F = record {
  at = λ p t. symbol-step (λ k. one (StoreGlobal k) ⨟ f (global k)) (iter_name p) p t (λ k u e.
      let R = (F (global k)).at (p + 1) u in
      record {
        grown = R.grown;
        code = owns-append (StoreGlobal k ∷ []) (owns (own-up R.grown (record { at = λ z. (iter_name p, e, λ y. (refl, refl)) })) no_owns) R.code;
        codes = R.codes;
        names = names-back (StoreGlobal k ∷ []) R.names;
      }) (λ k u y. (refl, 0, refl));
}
owning-iter m keep aside F = owning-seq (owning-one _ refl) (F (local _))

-- ---- classes

owning-end_class : {m : Bool} (x : Name) (c : ℕ) (ms : List Method) → is_iterator x ≡ false → Owning m (end_class x c ms)
unfolding end_class class_object
owning-end_class x c ms h = record {
  at = λ p t.
      let u = with_classes (set t.classes c (record { name = x; methods = ms })) t in
      let S = plain_step (class_object c) x p u h (λ k u e. record { grown = grown-none; code = owns (own-other refl) (owns (plain-own x k h e) no_owns); codes = λ E. E; names = names_same }) in
      record { grown = S.grown; code = S.code; codes = S.codes; names = S.names };
}

record OwningBranches (m : Bool) (slots : List Name) (keep : Keeping) (r : Branches) : Type 0 where
  at : (p : ℕ) (t : Tables) → Step m p t (emit_branches slots keep r p t).out

-- the methods of a class have no code in it
record StepMethods (t u : Tables) : Type 0 where
  grown : Grown t.symbols u.symbols
  codes : Aside t.symbols t.functions → Aside u.symbols u.functions
  names : Names false t.symbols u.symbols []

record OwningMethods (m : Methods) : Type 0 where
  at : (ms : List Method) (t : Tables) → StepMethods t (emit_methods m ms t).tables

owning-when : {m : Bool} (slots : List Name) (keep : Keeping) (c : Expr) (b : Block) (r : Branches) → Owning m (emit_expr slots c) → Owning m (emit_block slots keep b) → OwningBranches m slots (past (loops_block b) keep) r
    → OwningBranches m slots keep (when c b r)
unfolding emit_branches
owning-when {m} slots keep c b r A B R = record {
  at = λ p t.
      let a = emit_expr slots c p t in
      let q = suc (p + length a.code) in
      let o = emit_block slots keep b q a.tables in
      let k = emit_branches slots (past (loops_block b) keep) r (q + suc (length o.code)) o.tables in
      let S = A.at p t in
      let T = B.at q a.tables in
      let U = R.at (q + suc (length o.code)) o.tables in
      let rest = subst (λ (n : ℕ). Owns m k.out.tables.symbols n k.out.code) (let e : q + suc (length o.code) ≡ suc (q + length o.code) = omega arith in e) U.code in
      record {
        grown = grown-more S.grown (grown-more T.grown U.grown);
        code = owns-append a.code (owns-up (grown-more T.grown U.grown) S.code)
            (owns (own-other refl) (owns-append o.code (owns-up U.grown T.code) (owns (own-other refl) rest)));
        codes = λ E. U.codes (T.codes (S.codes E));
        names = names-then S.names (names-back (JumpIfFalse (suc (length o.code)) ∷ []) (names-then T.names (names-back (Jump k.hop ∷ []) U.names)));
      };
}

owning-class : {m : Bool} (slots : List Name) (keep : Keeping) (x : Name) (ms : Methods) (vs : List Attribute) → is_iterator x ≡ false → OwningMethods ms → Owning m (emit_stmt slots keep (class x ms vs))
unfolding emit_stmt class_out begin_class
owning-class slots keep x ms vs h M = record {
  at = λ p t.
      let u = begin_class x t in
      let o = emit_methods ms [] u in
      let S = M.at [] u in
      let R = (owning-end_class x (length t.classes) o.methods h).at p o.tables in
      record { grown = grown-more S.grown R.grown; code = R.code; codes = λ E. R.codes (S.codes E); names = names-then (names-aside S.names) R.names };
}

end-stores : (x : Name) → NoStores (method_end x)
unfolding method_end
end-stores x = go (same x init)
  where
    go : (b : Bool) → NoStores (elim b as (λ z. List Instr) [ true ↦ LoadLocal 0 ∷ Return ∷ [] | false ↦ Return ∷ [] ])
    go true = no_store refl (no_store refl no_stores)
    go false = no_store refl no_stores

owning-method : (x : Name) (ps : List Name) (b : Block) (m : Methods) → is_iterator x ≡ false → Owning false (emit_block (with_loops ps b).names (with_loops ps b).keep b) → OwningMethods m → OwningMethods (method x ps b m)
unfolding emit_methods
owning-method x ps b m h B M = record {
  at = λ ms t.
      let f = with_loops ps b in
      let o = function x (length ps) f (block_body b (method_end x)) (emit_block f.names f.keep b ⨟ emits (method_end x)) 0 t in
      let F : Owning false (function x (length ps) f (block_body b (method_end x)) (emit_block f.names f.keep b ⨟ emits (method_end x))) =
      owning-function x (length ps) f (block_body b (method_end x)) h (owning-seq B (owning-emits (end-stores x))) in
      let S = F.at 0 t in
      let R = M.at (insert_method x (length t.functions) ms) o.tables in
      record { grown = grown-more S.grown R.grown; codes = λ E. R.codes (S.codes E); names = names-then (names-aside S.names) R.names };
}

-- ---- statements

mutual
  unfolding emit_stmt emit_block emit_branches emit_methods ask_stmt ask_block ask_branches ask_methods ask_method ask_target if_asked

  owning-stmt : (m l : Bool) (slots : List Name) (keep : Keeping) → Serves m keep → (a : Stmt) → ask_stmt 33 l a ≡ true → Owning m (emit_stmt slots keep a)
  owning-stmt m l slots keep s break q = owning-one _ refl
  owning-stmt m l slots keep s continue q = owning-one _ refl
  owning-stmt m l slots keep s pass q = owning-emits no_stores
  owning-stmt m l slots keep s (expr e) q = owning-seq (owning-expr m slots e q) (owning-one _ refl)
  owning-stmt m l slots keep s (return e) q = owning-seq (owning-expr m slots e q) (owning-one _ refl)
  owning-stmt m l slots keep s (assign t v) q = owning-assign (view t) slots (apart-view t (left (ask_expr 33 t) (ask_expr 33 v) q)) (owning-expr m slots v (right (ask_expr 33 t) (ask_expr 33 v) q))
  owning-stmt m l slots keep s (if bs) q = let R = owning-branches m l slots keep s bs q in record { at = R.at }
  owning-stmt m l slots keep s (while c b) q =
      owning-loop (owning-expr m slots c (left (ask_expr 33 c) (ask_block 33 true b) q)) (owning-block m true slots keep s b (right (ask_expr 33 c) (ask_block 33 true b) q))
  owning-stmt m l slots keep s (for x e b) q =
      let a = left (ask_name 33 x && ask_expr 33 e) (ask_block 33 true b) q in
      let h = not-iterator x (left (ask_name 33 x) (ask_expr 33 e) a) in
      let inside = owning-block m true slots (past 1 keep) (serves-past 1 s) b (right (ask_name 33 x && ask_expr 33 e) (ask_block 33 true b) q) in
      owning-seq (owning-expr m slots e (right (ask_name 33 x) (ask_expr 33 e) a))
      (owning-seq owning-make_iter (owning-iter m keep s (λ g. owning-loop (owning-ask_iter g) (owning-seq (owning-take_iter slots x g h) inside))))
  owning-stmt m l slots keep s (def x ps b) q =
      let f = with_loops ps b in
      let a = left (ask_name 33 x && ask_params 33 ps) (ask_block 33 false b) q in
      owning-function x (length ps) f (block_body b (Return ∷ [])) (not-iterator x (left (ask_name 33 x) (ask_params 33 ps) a))
      (owning-seq (owning-block false false f.names f.keep aside b (right (ask_name 33 x && ask_params 33 ps) (ask_block 33 false b) q)) (owning-one _ refl))
  owning-stmt m l slots keep s (class x ms vs) q =
      let a = left (ask_name 33 x && ask_methods 33 ms) (all (ask_attribute 33) vs) q in
      owning-class slots keep x ms vs (not-iterator x (left (ask_name 33 x) (ask_methods 33 ms) a)) (owning-methods ms (right (ask_name 33 x) (ask_methods 33 ms) a))

  owning-block : (m l : Bool) (slots : List Name) (keep : Keeping) → Serves m keep → (b : Block) → ask_block 33 l b ≡ true → Owning m (emit_block slots keep b)
  owning-block m l slots keep s []ᵇ q = owning-emits no_stores
  owning-block m l slots keep s (a ∷ᵇ b) q =
      owning-seq (owning-stmt m l slots keep s a (left (ask_stmt 33 l a) (ask_block 33 l b) q))
      (owning-block m l slots (past (loops_stmt a) keep) (serves-past (loops_stmt a) s) b (right (ask_stmt 33 l a) (ask_block 33 l b) q))

  owning-branches : (m l : Bool) (slots : List Name) (keep : Keeping) → Serves m keep → (r : Branches) → ask_branches 33 l r ≡ true → OwningBranches m slots keep r
  owning-branches m l slots keep s done q = record { at = λ p t. (owning-emits no_stores).at p t }
  owning-branches m l slots keep s (else b) q = record { at = λ p t. (owning-block m l slots keep s b q).at p t }
  owning-branches m l slots keep s (when c b r) q =
      let a = left (ask_expr 33 c && ask_block 33 l b) (ask_branches 33 l r) q in
      owning-when slots keep c b r (owning-expr m slots c (left (ask_expr 33 c) (ask_block 33 l b) a)) (owning-block m l slots keep s b (right (ask_expr 33 c) (ask_block 33 l b) a))
      (owning-branches m l slots (past (loops_block b) keep) (serves-past (loops_block b) s) r (right (ask_expr 33 c && ask_block 33 l b) (ask_branches 33 l r) q))

  owning-methods : (m : Methods) → ask_methods 33 m ≡ true → OwningMethods m
  owning-methods []ᵐ q = record { at = λ ms t. record { grown = grown-none; codes = λ E. E; names = names_same } }
  owning-methods (method x ps b m) q =
      let f = with_loops ps b in
      let a = left (ask_method 33 x ps && ask_block 33 false b) (ask_methods 33 m) q in
      owning-method x ps b m (not-iterator x (left (ask_name 33 x) (ask_params 33 ps) (left (ask_name 33 x && ask_params 33 ps) true (left (ask_method 33 x ps) (ask_block 33 false b) a))))
      (owning-block false false f.names f.keep aside b (right (ask_method 33 x ps) (ask_block 33 false b) a)) (owning-methods m (right (ask_method 33 x ps && ask_block 33 false b) (ask_methods 33 m) q))

-- ---- the whole tree

some_same : {x y : Name} → ◌≡◌ {A = Option Name} (some x) (some y) → x ≡ y
some_same e = cc

-- a name that fails the test is not among names that all pass it
absent : (x : Name) (xs : List Name) → is_iterator x ≡ true → all (λ y. not (is_iterator y)) xs ≡ true → member x xs ≡ false
unfolding member position all
absent x [] h e = refl
absent x (y ∷ xs) h e = go (same x y) refl (position (same x) xs) (absent x xs h (right (not (is_iterator y)) (all (λ y. not (is_iterator y)) xs) e))
  where
    go : (c : Bool) → same x y ≡ c → (o : Option ℕ) → (elim o as (λ z. Bool) [ none ↦ false | some i ↦ true ]) ≡ false
        → (elim (elim c as (λ z. Option ℕ) [ true ↦ some 0 | false ↦ elim o as (λ z. Option ℕ) [ none ↦ none | some i ↦ some (suc i) ] ]) as (λ z. Bool) [ none ↦ false | some i ↦ true ]) ≡ false
    go true s o r =
        absurd (true≢false (sym (left (not (is_iterator y)) (all (λ y. not (is_iterator y)) xs) e) ∙ ap (λ (z : Name). not (is_iterator z)) (sym (same-eq x y s)) ∙ ap not h))
    go false s none r = refl
    go false s (some i) r = r

-- function k: main with its code, or another
data Placed (xs : List Name) (is : List Instr) : ℕ → Function → Type 0 where
  at_main : {f : Function} → f.code ≡ is → Placed xs is 0 f
  at_other : {k : ℕ} {f : Function} → OwnCode false xs f → Placed xs is (suc k) f

placed : {xs : List Name} (fs : List Function) (is : List Instr) → Aside xs fs → (k : ℕ) (f : Function) → get_elem? (set_code fs 0 is) k ≡ some f → Placed xs is k f
unfolding set_code
placed [] is E k f e = let z : ◌≡◌ {A = ℕ} 0 1 = cc in absurd (omega arith)
placed (g ∷ fs) is E zero f e =
    let q : coded g.symbol g.arity g.locals is ≡ f = cc in at_main (ap (λ (h : Function). h.code) (sym q))
placed (g ∷ fs) is (every p r) (suc k) f e = at_other (every-at fs r k f e)

-- main has begun
abbrev start : Tables
start = begin 0 0 (names_only []) (add_symbol Lower.main Lower.no_tables)

abbrev main_out : Block → Out
main_out b = (emit_block [] in_globals b ⨟ one Return) 0 start

main-step : (b : Block) → ask_block 33 false b ≡ true → Step true 0 start (main_out b)
main-step b q = (owning-seq (owning-block true false [] in_globals mainly b q) (owning-one Return refl)).at 0 start

-- `__main__` is no iterator's name
main-apart : (a : ℕ) (x : Name) → get_elem? start.symbols a ≡ some x → is_iterator x ≡ true → ⊥
unfolding begin Lower.no_tables is_iterator all_bytes
main-apart zero x e h = let q : Lower.main ≡ x = cc in true≢false (sym h ∙ ap is_iterator (sym q))
main-apart (suc a) x e h = let z : ◌≡◌ {A = ℕ} 0 1 = cc in absurd (omega arith)

compiled-symbols : (b : Block) → (compile b).tables.symbols ≡ (main_out b).tables.symbols
unfolding compile function intern enclose position Lower.no_tables
compiled-symbols b = refl

compiled-functions : (b : Block) → (compile b).tables.functions ≡ set_code (main_out b).tables.functions 0 (main_out b).code
unfolding compile function intern enclose position Lower.no_tables
compiled-functions b = refl

module _ (b : Block) (q : ask_block 33 false b ≡ true) where
  abbrev names : List Name
  names = (main_out b).tables.symbols

  at-function : (k : ℕ) (f : Function) → get_elem? (compile b).tables.functions k ≡ some f → Placed names (main_out b).code k f
  unfolding begin Lower.no_tables
  at-function k f e =
      placed (main_out b).tables.functions (main_out b).code ((main-step b q).codes (every (record { code = no_owns }) no_every)) k f
      (ap (λ (fs : List Function). get_elem? fs k) (sym (compiled-functions b)) ∙ e)

  stores_at : (k : ℕ) (f : Function) → Placed names (main_out b).code k f → (p a n : ℕ) → get_elem? f.code p ≡ some (StoreGlobal a) → get_elem? names a ≡ some (iter_name n) → (k ≡ 0) × (p ≡ n)
  stores_at k f (at_main c) p a n h s =
      let o = (owns-at (main_out b).code (main-step b q).code p (StoreGlobal a) (ap (λ (is : List Instr). get_elem? is p) (sym c) ∙ h)).at refl in
      let x : o.0 ≡ iter_name n = some_same (sym o.1 ∙ s) in
      let y : n ≡ 0 + p = (iterators (0 + p)).place n (sym x ∙ (o.2 (ap is_iterator x ∙ (iterators n).form)).1) in
      (refl, omega arith)
  stores_at k f (at_other c) p a n h s =
      let o = (owns-at f.code c.code p (StoreGlobal a) h).at refl in
      let x : o.0 ≡ iter_name n = some_same (sym o.1 ∙ s) in
      absurd (true≢false (sym (o.2 (ap is_iterator x ∙ (iterators n).form)).0))

  stored_at : (f : Function) → Placed names (main_out b).code 0 f → (a : ℕ) (x : Name) → get_elem? names a ≡ some x → is_iterator x ≡ true → (p : ℕ) × (get_elem? f.code p ≡ some (StoreGlobal a)) × (x ≡ iter_name p)
  stored_at f (at_main c) a x e h = go ((main-step b q).names.at a x e h)
    where
      go : Known true start.symbols a x (main_out b).code → (p : ℕ) × (get_elem? f.code p ≡ some (StoreGlobal a)) × (x ≡ iter_name p)
      go (before z) = absurd (main-apart a x z h)
      go (stored m p z) =
          let o = (owns-at (main_out b).code (main-step b q).code p (StoreGlobal a) z).at refl in
          let y : o.0 ≡ x = some_same (sym o.1 ∙ e) in
          (p, ap (λ (is : List Instr). get_elem? is p) c ∙ z, sym y ∙ (o.2 (ap is_iterator y ∙ h)).1 ∙ ap iter_name (let q : 0 + p ≡ p = omega arith in q))

pub loop_globals : LoopGlobals
loop_globals l v b t e =
    let A = accepted-gives l v b t e in
    let functions : t.functions ≡ (compile b).tables.functions = ap (λ (u : Tables). u.functions) A.tables in
    let symbols : t.symbols ≡ (main_out b).tables.symbols = ap (λ (u : Tables). u.symbols) A.tables ∙ compiled-symbols b in
    let at : (k : ℕ) (f : Function) → get_elem? t.functions k ≡ some f → Placed (main_out b).tables.symbols (main_out b).code k f =
    λ k f h. at-function b A.iterators k f (ap (λ (fs : List Function). get_elem? fs k) (sym functions) ∙ h) in
    record {
      names = λ n. absent (iter_name n) (names_block b) (iterators n).form (sym (tree_names b).apart ∙ A.iterators);
      stores = λ k f g p a n h s. stores_at b A.iterators k f (at k f g) p a n h (ap (λ (xs : List Name). get_elem? xs a) (sym symbols) ∙ s);
      symbols = λ f g a x s h. stored_at b A.iterators f (at 0 f g) a x (ap (λ (xs : List Name). get_elem? xs a) (sym symbols) ∙ s) h;
    }
