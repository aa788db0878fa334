-- Parts whose number of instructions is what their measure says, where they stand.
use mathlib.Core.Path.{◌≡◌, refl, sym, ap, ◌∙◌}
use mathlib.Core.Option.{Option, none, some}
use mathlib.Core.List.{List, [], ◌∷◌, ◌++◌, append_assoc, append-nil}
use Prim.Native.Nat.{ℕ, ◌+◌, ◌<◌}
use native.Mathlib.Omega.{arith}
use lib.ListN.{length, length-append}
use Rattle.definitions.specs.Bytes.{Name, Text, position, same}
use Rattle.definitions.specs.Slots.{Frame}
use Rattle.definitions.specs.Instruction.{Instr}
use Rattle.definitions.specs.Tables.{Tables, Body, Out, Emit, add_symbol, add_string, emits, one, ◌⨟◌, here, intern, get_or_add_string, begin, enclose, function}
use Rattle.definitions.specs.Measured.{SoFar, add_function}
use Rattle.definitions.proofs.Every.{length-snoc}
use Rattle.definitions.proofs.Resolve.{position-lt}
use Rattle.definitions.proofs.Part.{found}
use Rattle.definitions.proofs.SoFarNames.{class_names, Knows, knows-symbol, knows-begin, knows-code, knows-like, position-new}

-- names are added at the end
pub record More (xs ys : List Name) : Type 0 where
  pub new : List Name
  pub all : ys ≡ xs ++ new

pub more-none : {xs : List Name} → More xs xs
more-none {xs} = record { new = []; all = sym (append-nil xs) }

pub more-then : {xs ys zs : List Name} → More xs ys → More ys zs → More xs zs
more-then {xs} A B = record { new = A.new ++ B.new; all = B.all ∙ ap (λ (z : List Name). z ++ B.new) A.all ∙ append_assoc xs A.new B.new }

-- what a part gives: n instructions, and the functions and classes k so far; the classes' names stay, and more may follow
pub record Gives (n : ℕ) (k : SoFar) (t : Tables) (o : Out) : Type 0 where
  pub count : length o.code ≡ n
  pub knows : Knows k o.tables
  pub more : More (class_names t.classes) (class_names o.tables.classes)

-- a part whose measure is n, by what is so far where it begins, and after which `after` is so far
pub record Counted (n : SoFar → ℕ) (after : SoFar → SoFar) (e : Emit) : Type 0 where
  pub at : (k : SoFar) (p : ℕ) (t : Tables) → Knows k t → Gives (n k) (after k) t (e p t)

-- a part that begins no def, method or class
abbrev pub same-so-far : SoFar → SoFar
same-so-far k = k

abbrev pub CountedSame : (SoFar → ℕ) → Emit → Type 0
CountedSame n e = Counted n same-so-far e

pub counted-emits : (is : List Instr) → CountedSame (λ k. length is) (emits is)
unfolding emits
counted-emits is = record { at = λ k p t K. record { count = refl; knows = K; more = more-none } }

pub counted-one : (i : Instr) → CountedSame (λ k. 1) (one i)
counted-one i = counted-emits (i ∷ [])

pub counted-seq : {m n : SoFar → ℕ} {f g : SoFar → SoFar} {e d : Emit} → Counted m f e → Counted n g d → Counted (λ k. m k + n (f k)) (λ k. g (f k)) (e ⨟ d)
unfolding ◌⨟◌
counted-seq {f} {e} {d} A B = record {
  at = λ k p t K.
      let a = A.at k p t K in
      let b = B.at (f k) (p + length (e p t).code) (e p t).tables a.knows in
      record {
        count = length-append (e p t).code (d (p + length (e p t).code) (e p t).tables).code ∙ (rw b.count (rw a.count));
        knows = b.knows;
        more = more-then a.more b.more;
      };
}

-- a name is numbered
pub counted-symbol : {n : SoFar → ℕ} {g : SoFar → SoFar} {f : ℕ → Emit} (x : Name) → ((j : ℕ) → Counted n g (f j)) → Counted n g (intern x f)
unfolding intern
counted-symbol {n} {g} {f} x F = record { at = λ k p t K. go k p t K (position (same x) t.symbols) }
  where
    go : (k : SoFar) (p : ℕ) (t : Tables) → Knows k t → (o : Option ℕ) → Gives (n k) (g k) t (found (add_symbol x) f o (length t.symbols) p t)
    go k p t K (some j) = (F j).at k p t K
    go k p t K none =
        let c = (F (length t.symbols)).at k p (add_symbol x t) (knows-symbol k x t K) in
        record { count = c.count; knows = c.knows; more = c.more }

-- a string is numbered
pub counted-string : {n : SoFar → ℕ} {g : SoFar → SoFar} {f : ℕ → Emit} (x : Text) → ((j : ℕ) → Counted n g (f j)) → Counted n g (get_or_add_string x f)
unfolding get_or_add_string
counted-string {n} {g} {f} x F = record { at = λ k p t K. go k p t K (position (same x) t.strings) }
  where
    go : (k : SoFar) (p : ℕ) (t : Tables) → Knows k t → (o : Option ℕ) → Gives (n k) (g k) t (found (add_string x) f o (length t.strings) p t)
    go k p t K (some j) = (F j).at k p t K
    go k p t K none =
        let c = (F (length t.strings)).at k p (add_string x t) (knows-like k t (add_string x t) refl refl refl K) in
        record { count = c.count; knows = c.knows; more = c.more }

pub counted-here : {n : SoFar → ℕ} {g : SoFar → SoFar} {f : ℕ → Emit} → ((q : ℕ) → Counted n g (f q)) → Counted n g (here f)
unfolding here
counted-here F = record { at = λ k p t K. (F p).at k p t K }

-- a whole function gives no instruction in its parent; its body begins with one function more
gives-enclose : {n : SoFar → ℕ} {g : SoFar → SoFar} (k : SoFar) (x : Name) (j arity : ℕ) (frame : Frame) (body : Body) {e : Emit} (p : ℕ) (t : Tables)
    → position (same x) t.symbols ≡ some j → j < length t.symbols → Counted n g e → Knows k t → Gives 0 (g (add_function x k)) t (enclose j arity frame body e p t)
unfolding enclose begin
gives-enclose {n} {g} k x j arity frame body {e} p t h l E K =
    let u = begin j arity frame t in
    let c = E.at (add_function x k) 0 u (knows-begin k x j arity frame t h l K) in
    record { count = refl; knows = knows-code (g (add_function x k)) (length t.functions) (e 0 u).code (e 0 u).tables c.knows; more = c.more }

pub counted-function : {n : SoFar → ℕ} {g : SoFar → SoFar} (x : Name) (arity : ℕ) (frame : Frame) (body : Body) {e : Emit} → Counted n g e
    → Counted (λ k. 0) (λ k. g (add_function x k)) (function x arity frame body e)
unfolding function intern
counted-function {n} {g} x arity frame body {e} E = record { at = λ k p t K. go k p t K (position (same x) t.symbols) refl (position-lt (same x) t.symbols) }
  where
    go : (k : SoFar) (p : ℕ) (t : Tables) → Knows k t → (o : Option ℕ) → position (same x) t.symbols ≡ o → ((j : ℕ) → o ≡ some j → j < length t.symbols)
        → Gives 0 (g (add_function x k)) t (found (add_symbol x) (λ j. enclose j arity frame body e) o (length t.symbols) p t)
    go k p t K (some j) h l = gives-enclose k x j arity frame body p t h (l j refl) E K
    go k p t K none h l =
        let n = length t.symbols in
        let c = gives-enclose k x n arity frame body p (add_symbol x t) (position-new x t.symbols h) (omega (arith, length-snoc t.symbols x)) E (knows-symbol k x t K) in
        record { count = c.count; knows = c.knows; more = c.more }

-- the same number, said in another way
pub counted-as : {m n : SoFar → ℕ} {f : SoFar → SoFar} {e : Emit} → Counted m f e → ((k : SoFar) → m k ≡ n k) → Counted n f e
counted-as A h = record { at = λ k p t K. let c = A.at k p t K in record { count = c.count ∙ h k; knows = c.knows; more = c.more } }
