-- What a measure knows of the functions and classes so far, and what the lowering's steps do to it.
use mathlib.Core.Path.{◌≡◌, refl, sym, ap, ◌∙◌, subst}
use mathlib.Core.Bool.{Bool, true, false, ◌&&◌, ◌||◌}
use mathlib.Core.Option.{Option, none, some}
use mathlib.Core.List.{List, [], ◌∷◌, ◌++◌}
use Prim.Native.Nat.{ℕ, zero, suc, ◌<◌}
use native.Mathlib.Omega.{arith}
use lib.ListN.{length, set}
use lib.Dec.{T, eqb, eqb_refl, eqb→eq}
use Rattle.definitions.specs.Bytes.{Name, ascii, decimal, position, same}
use Rattle.definitions.specs.Wellformed.{is_name, letter}
use Rattle.definitions.specs.Slots.{Frame}
use Rattle.definitions.specs.Instruction.{Instr}
use Rattle.definitions.specs.Tables.{Function, Method, Class, Tables, coded, add_symbol, with_functions, with_classes, begin, set_code}
use Rattle.definitions.specs.Lower.{lambda_name}
use Rattle.definitions.specs.Measured.{SoFar, is_there, function_in, class_in, so_far, add_function, add_class}
use Rattle.definitions.proofs.Every.{Every, no_every, every, every_append, every_map, length-snoc}
use Rattle.definitions.proofs.MethodOrder.{same-eq}
use Rattle.std.proofs.Math.Bool.{or-false}
use Rattle.definitions.proofs.Captured.{same_refl}
use Rattle.definitions.proofs.NamePlaces.{position_at}

clash : {A : Type 0} → true ≡ false → A
clash e = let z : ◌≡◌ {A = ℕ} 0 1 = cc in absurd (omega arith)

-- ---- the first place in a list with one element more

-- the first place, by whether the first element is one and by the first place after it
abbrev next : Option ℕ → Option ℕ
next o = elim o [ none ↦ none | some i ↦ some (suc i) ]

abbrev at_first : Bool → Option ℕ → Option ℕ
at_first c o = elim c [ true ↦ some 0 | false ↦ next o ]

-- an element more
abbrev or_last : Option ℕ → Bool → ℕ → Option ℕ
or_last (some k) b n = some k
or_last none true n = some n
or_last none false n = none

position-snoc : {A : Type 0} (f : A → Bool) (xs : List A) (y : A) → position f (xs ++ (y ∷ [])) ≡ or_last (position f xs) (f y) (length xs)
unfolding position
position-snoc f [] y = go (f y)
  where
    go : (b : Bool) → at_first b none ≡ or_last none b 0
    go true = refl
    go false = refl
position-snoc {A} f (x ∷ xs) y = go (f x) (position f xs) (f y) (position f (xs ++ (y ∷ []))) (position-snoc f xs y)
  where
    later : (o : Option ℕ) (b : Bool) → next (or_last o b (length xs)) ≡ or_last (next o) b (suc (length xs))
    later (some i) b = refl
    later none true = refl
    later none false = refl

    go : (c : Bool) (o : Option ℕ) (b : Bool) (q : Option ℕ) → q ≡ or_last o b (length xs) → at_first c q ≡ or_last (at_first c o) b (suc (length xs))
    go true o b q e = refl
    go false o b q e = ap next e ∙ later o b

pub there-snoc : {A : Type 0} (f : A → Bool) (xs : List A) (y : A) → is_there (position f (xs ++ (y ∷ []))) ≡ (is_there (position f xs) || f y)
unfolding is_there
there-snoc f xs y = ap is_there (position-snoc f xs y) ∙ go (position f xs) (f y)
  where
    go : (o : Option ℕ) (b : Bool) → is_there (or_last o b (length xs)) ≡ (is_there o || b)
    go (some k) b = refl
    go none true = refl
    go none false = refl

pub position-new : (x : Name) (xs : List Name) → position (same x) xs ≡ none → position (same x) (xs ++ (x ∷ [])) ≡ some (length xs)
position-new x xs e = position-snoc (same x) xs x ∙ rw (e, same_refl x)

-- of two names in a list their numbers are one if they are
number_same : (x y : Name) (xs : List Name) (n j : ℕ) → position (same x) xs ≡ some n → position (same y) xs ≡ some j → eqb j n ≡ same y x
number_same x y xs n j e h = go (eqb j n) (same y x) (eqb→eq j n) (λ q. subst (λ (u : ℕ). T (eqb j u)) q (eqb_refl j)) refl
  where
    go : (a b : Bool) → (T a → j ≡ n) → (j ≡ n → T a) → same y x ≡ b → a ≡ b
    go true true f g q = refl
    go false false f g q = refl
    go false true f g q =
        let z : some j ≡ some n = sym h ∙ ap (λ (u : Name). position (same u) xs) (same-eq y x q) ∙ e in
        let w : j ≡ n = cc in
        absurd (g w)
    go true false f g q =
        let i = f tt in
        let z : some y ≡ some x = sym (position_at y xs n (h ∙ ap (λ (u : ℕ). some u) i)) ∙ position_at x xs n e in
        let w : y ≡ x = cc in
        clash (sym (ap (λ (u : Name). same u x) w ∙ same_refl x) ∙ q)

-- ---- tables

-- the function's name is one of the first n symbols
pub record Spelled (n : ℕ) (f : Function) : Type 0 where
  pub symbol : f.symbol < n

-- the first function whose name has the symbol j, and whether there is one for a name's symbol
abbrev numbered : List Function → ℕ → Option ℕ
numbered fs j = position (λ (f : Function). eqb j f.symbol) fs

abbrev begun : List Function → Option ℕ → Bool
begun fs o = elim o [ none ↦ false | some j ↦ is_there (numbered fs j) ]

abbrev pub class_names : List Class → List Name
class_names [] = []
class_names (c ∷ cs) = c.name ∷ class_names cs

-- What is known of the tables: each function's name is a symbol, and the functions and classes so far are those that the measure takes them to be. A
-- function that no script can call is passed over
pub record Knows (k : SoFar) (t : Tables) : Type 0 where
  pub spelled : Every (Spelled (length t.symbols)) t.functions
  pub functions : (x : Name) → is_name x ≡ true → function_in t x ≡ k.is_function x
  pub classes : (x : Name) → class_in t x ≡ k.is_class x

pub knows-itself : (t : Tables) → Every (Spelled (length t.symbols)) t.functions → Knows (so_far t) t
unfolding so_far
knows-itself t s = record { spelled = s; functions = λ x e. refl; classes = λ x. refl }

-- no function is named by a symbol that is not there yet
none-new : (n : ℕ) (fs : List Function) → Every (Spelled n) fs → numbered fs n ≡ none
unfolding position
none-new n [] a = refl
none-new n (f ∷ fs) (every s a) = go (eqb n f.symbol) (eqb→eq n f.symbol) (numbered fs n) (none-new n fs a)
  where
    go : (c : Bool) → (T c → n ≡ f.symbol) → (o : Option ℕ) → o ≡ none → at_first c o ≡ none
    go true h o e = let q = h tt in absurd (omega (arith, s.symbol))
    go false h o e = ap next e

-- a new symbol changes nothing
pub knows-symbol : (k : SoFar) (x : Name) (t : Tables) → Knows k t → Knows k (add_symbol x t)
unfolding function_in class_in
knows-symbol k x t K = record {
  spelled = every_map (λ f s. record { symbol = omega (arith, s.symbol, length-snoc t.symbols x) }) K.spelled;
  functions = λ y e. ap (begun t.functions) (position-snoc (same y) t.symbols x) ∙ go (position (same y) t.symbols) (same y x) ∙ K.functions y e;
  classes = K.classes;
}
  where
    go : (o : Option ℕ) (b : Bool) → begun t.functions (or_last o b (length t.symbols)) ≡ begun t.functions o
    go (some j) b = refl
    go none true = ap is_there (none-new (length t.symbols) t.functions K.spelled) ∙ (unfold is_there in refl)
    go none false = refl

-- ---- a function begins

-- the function x is begun, whose symbol is n
pub knows-begin : (k : SoFar) (x : Name) (n arity : ℕ) (frame : Frame) (t : Tables) → position (same x) t.symbols ≡ some n → n < length t.symbols
    → Knows k t → Knows (add_function x k) (begin n arity frame t)
unfolding function_in class_in begin add_function
knows-begin k x n arity frame t e l K = record {
  spelled = every_append K.spelled (every (record { symbol = l }) no_every);
  functions = λ y h. go y (position (same y) t.symbols) refl (K.functions y h);
  classes = K.classes;
}
  where
    F : Function
    F = coded n arity frame.locals []

    other : (y : Name) (b : Bool) → same y x ≡ b → position (same y) t.symbols ≡ none → b ≡ false
    other y true h q =
        let z : none ≡ some n = sym q ∙ ap (λ (u : Name). position (same u) t.symbols) (same-eq y x h) ∙ e in
        let w : ◌≡◌ {A = ℕ} 0 1 = cc in
        absurd (omega arith)
    other y false h q = refl

    go : (y : Name) (o : Option ℕ) → position (same y) t.symbols ≡ o → begun t.functions o ≡ k.is_function y
        → begun (t.functions ++ (F ∷ [])) o ≡ (k.is_function y || same y x)
    go y none q h = rw (← h, other y (same y x) refl q)
    go y (some j) q h =
        there-snoc (λ (f : Function). eqb j f.symbol) t.functions F ∙ ap (λ (b : Bool). b || eqb j n) h
        ∙ ap (λ (b : Bool). k.is_function y || b) (number_same x y t.symbols n j e q)

-- a function that no script can call
pub knows-less : (k : SoFar) (x : Name) (t : Tables) → ((y : Name) → is_name y ≡ true → same y x ≡ false) → Knows (add_function x k) t → Knows k t
unfolding add_function
knows-less k x t h K = record {
  spelled = K.spelled;
  functions = λ y e. K.functions y e ∙ ap (λ (b : Bool). k.is_function y || b) (h y e) ∙ or-false (k.is_function y);
  classes = K.classes;
}

-- a name doesn't begin with `<`
pub lambda-unnamed : (n : ℕ) (y : Name) → is_name y ≡ true → same y (lambda_name n) ≡ false
unfolding lambda_name same is_name letter
lambda-unnamed n [] e = refl
lambda-unnamed n (c ∷ y) e = go (eqb c 60) (eqb→eq c 60)
  where
    go : (b : Bool) → (T b → c ≡ 60) → (b && same y (ascii "lambda#" ++ (decimal n ++ ascii ">"))) ≡ false
    go false f = refl
    go true f = clash (sym (subst (λ (d : ℕ). (is_name (d ∷ y)) ≡ true) (f tt) e) ∙ (unfold is_name letter in refl))

-- ---- a function has its code

position-code : (j : ℕ) (fs : List Function) (n : ℕ) (is : List Instr) → numbered (set_code fs n is) j ≡ numbered fs j
unfolding position set_code
position-code j [] n is = refl
position-code j (f ∷ fs) zero is = refl
position-code j (f ∷ fs) (suc n) is = ap (at_first (eqb j f.symbol)) (position-code j fs n is)

spelled-code : (m : ℕ) (fs : List Function) (n : ℕ) (is : List Instr) → Every (Spelled m) fs → Every (Spelled m) (set_code fs n is)
unfolding set_code
spelled-code m [] n is a = a
spelled-code m (f ∷ fs) zero is (every s a) = every (record { symbol = s.symbol }) a
spelled-code m (f ∷ fs) (suc n) is (every s a) = every s (spelled-code m fs n is a)

pub knows-code : (k : SoFar) (n : ℕ) (is : List Instr) (t : Tables) → Knows k t → Knows k (with_functions (set_code t.functions n is) t)
unfolding function_in class_in
knows-code k n is t K = record {
  spelled = spelled-code (length t.symbols) t.functions n is K.spelled;
  functions = λ y e. go (position (same y) t.symbols) ∙ K.functions y e;
  classes = K.classes;
}
  where
    go : (o : Option ℕ) → begun (set_code t.functions n is) o ≡ begun t.functions o
    go none = refl
    go (some j) = ap is_there (position-code j t.functions n is)

-- ---- classes

-- the classes are told by their names
class-names : (y : Name) (cs : List Class) → position (λ (c : Class). same y c.name) cs ≡ position (same y) (class_names cs)
unfolding position
class-names y [] = refl
class-names y (c ∷ cs) = ap (at_first (same y c.name)) (class-names y cs)

pub names-snoc : (cs : List Class) (c : Class) → class_names (cs ++ (c ∷ [])) ≡ class_names cs ++ (c.name ∷ [])
names-snoc [] c = refl
names-snoc (d ∷ cs) c = ap (λ (xs : List Name). d.name ∷ xs) (names-snoc cs c)

pub names-length : (cs : List Class) → length (class_names cs) ≡ length cs
names-length [] = refl
names-length (c ∷ cs) = ap suc (names-length cs)

-- the class in the middle keeps its name
names-set : (cs : List Class) (x : Name) (ms : List Method) (xs ys : List Name) → class_names cs ≡ xs ++ (x ∷ ys)
    → class_names (set cs (length xs) (record { name = x; methods = ms })) ≡ xs ++ (x ∷ ys)
names-set [] x ms [] ys e = e
names-set [] x ms (z ∷ xs) ys e = e
names-set (c ∷ cs) x ms [] ys e = let q : class_names cs ≡ ys = cc in ap (λ (zs : List Name). x ∷ zs) q
names-set (c ∷ cs) x ms (z ∷ xs) ys e =
    let q : class_names cs ≡ xs ++ (x ∷ ys) = cc in
    let h : c.name ≡ z = cc in
    rw (h, names-set cs x ms xs ys q)

pub names-middle : (cs : List Class) (x : Name) (ms : List Method) (xs ys : List Name) (c : ℕ) → c ≡ length xs → class_names cs ≡ xs ++ (x ∷ ys)
    → class_names (set cs c (record { name = x; methods = ms })) ≡ class_names cs
names-middle cs x ms xs ys c e h = ap (λ (n : ℕ). class_names (set cs n (record { name = x; methods = ms }))) e ∙ names-set cs x ms xs ys h ∙ sym h

-- tables that differ in their classes' methods, their constants and strings
pub knows-like : (k : SoFar) (t u : Tables) → u.symbols ≡ t.symbols → u.functions ≡ t.functions → class_names u.classes ≡ class_names t.classes → Knows k t → Knows k u
unfolding function_in class_in
knows-like k t u a b c K = record {
  spelled = rw (a, b) K.spelled;
  functions = λ y e. rw (a, b) (K.functions y e);
  classes = λ y. ap is_there (class-names y u.classes ∙ ap (position (same y)) c ∙ sym (class-names y t.classes)) ∙ K.classes y;
}

-- a class more
pub knows-class : (k : SoFar) (c : Class) (t : Tables) → Knows k t → Knows (add_class c.name k) (with_classes (t.classes ++ (c ∷ [])) t)
unfolding function_in class_in add_class
knows-class k c t K = record {
  spelled = K.spelled;
  functions = K.functions;
  classes = λ y. there-snoc (λ (d : Class). same y d.name) t.classes c ∙ ap (λ (b : Bool). b || same y c.name) (K.classes y);
}
