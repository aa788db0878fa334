-- Parts that number a name or a string are in bounds.
use mathlib.Core.Path.{◌≡◌, refl}
use mathlib.Core.Option.{Option, none, some}
use mathlib.Core.List.{List, ◌∷◌, ◌++◌, []}
use Prim.Native.Nat.{ℕ, ◌+◌, ◌≤◌, ◌<◌}
use native.Mathlib.Omega.{arith}
use lib.ListN.{length}
use Rattle.definitions.specs.Bytes.{Name, Text, position, same}
use Rattle.definitions.specs.Tables.{Tables, Out, Emit, add_symbol, add_string, intern, get_or_add_string}
use Rattle.definitions.proofs.Every.{no_every, every, every_append, length-snoc}
use Rattle.definitions.proofs.Resolve.{position-lt}
use Rattle.definitions.proofs.Names.{Short}
use Rattle.definitions.proofs.Bounds.{Utf8, Trim, texts}
use Rattle.definitions.proofs.LongerTables.{Longer, longer-same, longer-none, longer-more, small-down, tight-up, ordered-up, constants-up}
use Rattle.definitions.proofs.BoundedPart.{Fits, Step, step-within}

pub symbol-longer : (x : Name) (t : Tables) → Longer t (add_symbol x t)
symbol-longer x t = longer-same refl (omega (arith, length-snoc t.symbols x)) (omega arith)

string-longer : (x : Text) (t : Tables) → Longer t (add_string x t)
string-longer x t = longer-same refl (omega (arith, length-snoc t.strings x)) (omega arith)

pub symbol-trim : (x : Name) (t : Tables) → Short x → Trim t → Trim (add_symbol x t)
symbol-trim x t h T =
    let L = (symbol-longer x t).sizes in
    record { symbols = every_append T.symbols (every h no_every); strings = T.strings; functions = tight-up L T.functions; classes = ordered-up L T.classes; constants = constants-up L T.constants }

string-trim : (x : Text) (t : Tables) → Utf8 x → Trim t → Trim (add_string x t)
string-trim x t h T =
    let L = (string-longer x t).sizes in
    record { symbols = T.symbols; strings = every_append T.strings (every h no_every); functions = tight-up L T.functions; classes = ordered-up L T.classes; constants = constants-up L T.constants }

-- the name is short where the place and the functions so far are few
pub step-symbol : {n s : ℕ} (f : ℕ → Emit) (x : Name) (p : ℕ) (t : Tables) → (p ≤ 8192 → length t.functions ≤ 256 → Short x)
    → ((k : ℕ) (u : Tables) → Longer t u → k < length u.symbols → Step n s p u (f k p u)) → Step n s p t (intern x f p t)
unfolding intern
step-symbol {n} {s} f x p t h F = go (position (same x) t.symbols) (position-lt (same x) t.symbols)
  where
    go : (o : Option ℕ) → ((j : ℕ) → o ≡ some j → j < length t.symbols) → Step n s p t (elim o as (λ z. Out) [ some k ↦ f k p t | none ↦ f (length t.symbols) p (add_symbol x t) ])
    go (some j) l = F j t longer-none (l j refl)
    go none l =
        let S = F (length t.symbols) (add_symbol x t) (symbol-longer x t) (omega (arith, length-snoc t.symbols x)) in
        record {
          longer = longer-more (symbol-longer x t) S.longer;
          weight = S.weight;
          keeps = λ m r.
              let d = small-down {q = p} (longer-more (symbol-longer x t) S.longer) (omega arith) m in
              S.keeps m (symbol-trim x t (h d.place d.count) r);
        }

pub fits-symbol : {n s : ℕ} {b : Tables} {f : ℕ → Emit} (x : Name) → Short x → ((k : ℕ) (t : Tables) → Longer b t → k < length t.symbols → Fits n s t (f k)) → Fits n s b (intern x f)
fits-symbol {f} x h F = record { at = λ p t u. step-symbol f x p t (λ a c. h) (λ k v w l. (F k v (longer-more u w) l).at p v longer-none) }

texts-append : (ss : List Text) (x : Text) → texts (ss ++ (x ∷ [])) ≡ texts ss + (2 + length x)
texts-append [] x = omega arith
texts-append (s ∷ ss) x = omega (arith, texts-append ss x)

pub fits-string : {s : ℕ} {b : Tables} {f : ℕ → Emit} (x : Text) → Utf8 x → ((k : ℕ) (t : Tables) → k < length t.strings → Fits 0 s t (f k)) → Fits (2 + length x) s b (get_or_add_string x f)
unfolding get_or_add_string
fits-string {s} {b} {f} x h F = record { at = λ p t u. go p t (position (same x) t.strings) (position-lt (same x) t.strings) }
  where
    go : (p : ℕ) (t : Tables) (o : Option ℕ) → ((j : ℕ) → o ≡ some j → j < length t.strings) → Step (2 + length x) s p t (elim o as (λ z. Out) [ some k ↦ f k p t | none ↦ f (length t.strings) p (add_string x t) ])
    go p t (some j) l = step-within ((F j t (l j refl)).at p t longer-none) (omega arith)
    go p t none l =
        let S = (F (length t.strings) (add_string x t) (omega (arith, length-snoc t.strings x))).at p (add_string x t) longer-none in
        record {
          longer = longer-more (string-longer x t) S.longer;
          weight = omega (arith, S.weight, texts-append t.strings x);
          keeps = λ m r. S.keeps m (string-trim x t h r);
        }
