-- Lists of names. Assumes nothing.
use Prim.Native.Nat.{ℕ, zero, suc, ◌+◌, ◌-◌, ◌<◌, ◌≤◌}
use mathlib.Core.Path.{◌≡◌, refl, sym, ap, ◌∙◌}
use mathlib.Core.Bool.{Bool, true, false, not, ◌&&◌, ◌||◌}
use mathlib.Core.List.{List, [], ◌∷◌}
use mathlib.Core.Logic.{◌⊎◌, inl, inr, ⊎_elim}
use native.Mathlib.Omega.{arith}
use native.Mathlib.Numerals.{sub-one}
use lib.Dec.{leb, ltb}
use lib.ListN.{length, take, drop, get_or}
use Rattle.definitions.specs.Bytes.{Name, Parsed, got, failed, Parser, ◌>>=◌, give, field, counted, list_of, name, all, same, position, member}
use Rattle.definitions.specs.Parse.{params}
use Rattle.definitions.specs.Wellformed.{if_asked, distinct, ask_name, ask_params, init}
use Rattle.tree_view.specs.Judge.{least, passed, judged, then_judge, judged_number_at, with_number, ask_names, judge_name, judge_names, judge_params}
use Rattle.tree_view.specs.Places.{name_from, name_end, There, names_from, names_end, AllThere}
use Rattle.tree_view.specs.Judge.{Is}
use Rattle.tree_view.specs.Judge.{Passed}
use Rattle.tree_view.specs.Judge.{Next}
use Rattle.tree_view.proofs.Laws.{least-true, least-and, follow, bind_is, steady-name, judged-bind, judged-last, judged-number, judged-give, Gives, gave, gave_not, gives-bind, gives_more, counted-size, number-gives}
use Rattle.tree_view.proofs.LeafLaws.{name-there, name-none, name-short}
use Rattle.definitions.proofs.Begins.{le-or-gt}
use Rattle.definitions.proofs.Captured.{member-cons}

-- a name is there, or does not read
pub name-or : (t : List ℕ) (p : ℕ) → There t p ⊎ (name (drop p t) ≡ failed 5)
name-or t p = ⊎_elim
    (λ (h : length t ≤ p). inr (name-none t p h))
    (λ (h : p < length t). ⊎_elim
    (λ (g : p + 1 + get_or t p 0 ≤ length t). inl (record { byte = h; bytes = g }))
    (λ (g : length t < p + 1 + get_or t p 0). inr (name-short t p h (omega arith)))
    (le-or-gt (p + 1 + get_or t p 0) (length t)))
    (le-or-gt (length t) p)

abbrev names : ℕ → Parser (List Name)
names n = counted [] ◌∷◌ name n

-- n names are there, and are those; or they do not read
pub data Listed (t : List ℕ) (n p : ℕ) : Parsed (List Name) → Type 0 where
  listed : AllThere t n p → Listed t n p (got (names_from t n p) (drop (names_end t n p) t))
  unlisted : Listed t n p (failed 5)

listed_more : (t : List ℕ) (n p : ℕ) → There t p → {g : Parsed (List Name)} → Listed t n (name_end t p) g → Listed t (suc n) p (follow g (λ xs. give (name_from t p ∷ xs)))
unfolding names_from names_end AllThere give
listed_more t n p h (listed a) = listed (h, a)
listed_more t n p h unlisted = unlisted

names-step : (t : List ℕ) (n p : ℕ) → There t p → names (suc n) (drop p t) ≡ follow (names n (drop (name_end t p) t)) (λ xs. give (name_from t p ∷ xs))
unfolding counted
names-step t n p h =
    bind_is name (λ x. names n >>= λ xs. give (x ∷ xs)) (drop p t) ∙ ap (λ (g : Parsed Name). follow g (λ x. names n >>= λ xs. give (x ∷ xs))) (name-there t p h)
    ∙ bind_is (names n) (λ xs. give (name_from t p ∷ xs)) (drop (name_end t p) t)

names-unread : (t : List ℕ) (n p : ℕ) → name (drop p t) ≡ failed 5 → names (suc n) (drop p t) ≡ failed 5
unfolding counted
names-unread t n p h = bind_is name (λ x. names n >>= λ xs. give (x ∷ xs)) (drop p t) ∙ ap (λ (g : Parsed Name). follow g (λ x. names n >>= λ xs. give (x ∷ xs))) h

pub names-read : (t : List ℕ) (n p : ℕ) → Listed t n p (names n (drop p t))
unfolding counted give AllThere names_from names_end
names-read t zero p = listed tt
names-read t (suc n) p = ⊎_elim
    (λ (h : There t p). rw (names-step t n p h) (listed_more t n p h (names-read t n (name_end t p))))
    (λ (h : name (drop p t) ≡ failed 5). rw (names-unread t n p h) unlisted)
    (name-or t p)

all_there : (t : List ℕ) (n p w e v : ℕ) {g : Parsed (List Name)} → Listed t n p g → passed ask_names t w g ≡ Next e v → AllThere t n p
unfolding passed
all_there t n p w e v (listed a) h = a
all_there t n p w e v unlisted h = let z : ◌≡◌ {A = ℕ} 0 1 = cc in absurd (omega arith)

pub names-there : (t : List ℕ) (n p w e v : ℕ) → judge_names t n p w ≡ Next e v → AllThere t n p
unfolding judged
names-there t n p w e v h = all_there t n p w e v (names-read t n p) h

pub length-names : (t : List ℕ) (n p : ℕ) → length (names_from t n p) ≡ n
unfolding names_from
length-names t zero p = refl
length-names t (suc n) p = ap suc (length-names t n (name_end t p))

-- ---- the names one by one

pub names-none : (t : List ℕ) (n p w : ℕ) → p ≤ length t → n ≤ 0 → judge_names t n p w ≡ Next p w
unfolding counted ask_names all
names-none t zero p w le h = judged-give t ask_names [] p w le ∙ ap (Next p) (least-true w)
names-none t (suc n) p w le h = absurd (omega arith)

pub names_more : (t : List ℕ) (n p w : ℕ) → p ≤ length t → 0 < n → judge_names t n p w ≡ then_judge (judge_name t p w) (λ m v. judge_names t (n - 1) m v)
unfolding counted ask_names all
names_more t zero p w le h = absurd (omega arith)
names_more t (suc n) p w le h =
    judged-bind t ask_name ask_names _ _ (λ m v. judge_names t n m v) p w w le steady-name (λ x m g.
    judged-last t ask_names ask_names _ (λ xs. x ∷ xs) m w _ (λ xs. least-and w (λ q. ask_name q x) (λ q. ask_names q xs)))
    ∙ ap (λ (k : ℕ). then_judge (judge_name t p w) (λ m v. judge_names t k m v)) (sym (sub-one (suc n)))

-- ---- parameters

-- what is asked of n parameters that are there
unfoldable pub closing : List ℕ → ℕ → ℕ → ℕ → ℕ → Passed
closing t n m e v = Next e (least (least v (λ q. if_asked 11 q (distinct (names_from t n m)))) (λ q. if_asked 13 q (leb n 255)))

params-place : (t : List ℕ) (n p w : ℕ) {g : Parsed (List Name)} → Listed t n p g → passed ask_params t w g ≡ then_judge (passed ask_names t w g) (closing t n p)
unfolding passed then_judge closing ask_params ask_names
params-place t n p w (listed a) = ap (Next (length t - length (drop (names_end t n p) t)))
    (ap (λ (k : ℕ). least w (λ q. all (ask_name q) (names_from t n p) && if_asked 11 q (distinct (names_from t n p)) && if_asked 13 q (leb k 255))) (length-names t n p)
    ∙ least-and w (λ q. all (ask_name q) (names_from t n p) && if_asked 11 q (distinct (names_from t n p))) (λ q. if_asked 13 q (leb n 255))
    ∙ ap (λ (x : ℕ). least x (λ q. if_asked 13 q (leb n 255))) (least-and w (λ q. all (ask_name q) (names_from t n p)) (λ q. if_asked 11 q (distinct (names_from t n p)))))
params-place t n p w unlisted = refl

pub params-law : (t : List ℕ) (p w : ℕ) → p ≤ length t → judge_params t p w ≡ with_number (judged_number_at t p) (λ n m. then_judge (judge_names t n m w) (closing t n m))
unfolding params list_of judged
params-law t p w le = judged-number t ask_params _ (λ n m. then_judge (judge_names t n m w) (closing t n m)) p w le (λ n m h. params-place t n m w (names-read t n m))

-- ---- names that are there, one by one

pub there-first : (t : List ℕ) (n p : ℕ) → 0 < n → AllThere t n p → There t p
unfolding AllThere
there-first t zero p h a = absurd (omega arith)
there-first t (suc n) p h a = a.0

pub there-rest : (t : List ℕ) (n p : ℕ) → 0 < n → AllThere t n p → AllThere t (n - 1) (name_end t p)
unfolding AllThere
there-rest t zero p h a = absurd (omega arith)
there-rest t (suc n) p h a = rw (sub-one (suc n)) a.1

pub from_more : (t : List ℕ) (n p : ℕ) → 0 < n → names_from t n p ≡ name_from t p ∷ names_from t (n - 1) (name_end t p)
unfolding names_from
from_more t zero p h = absurd (omega arith)
from_more t (suc n) p h = ap (λ (k : ℕ). name_from t p ∷ names_from t k (name_end t p)) (sym (sub-one (suc n)))

pub from-none : (t : List ℕ) (n p : ℕ) → n ≤ 0 → names_from t n p ≡ []
unfolding names_from
from-none t zero p h = refl
from-none t (suc n) p h = absurd (omega arith)

pub member-found : (t : List ℕ) (x : Name) (n p : ℕ) → 0 < n → same x (name_from t p) ≡ true → member x (names_from t n p) ≡ true
member-found t x n p h e = rw (from_more t n p h, member-cons x (name_from t p) (names_from t (n - 1) (name_end t p)), e)

pub member-next : (t : List ℕ) (x : Name) (n p : ℕ) → 0 < n → same x (name_from t p) ≡ false → member x (names_from t n p) ≡ member x (names_from t (n - 1) (name_end t p))
member-next t x n p h e = rw (from_more t n p h, member-cons x (name_from t p) (names_from t (n - 1) (name_end t p)), e)

pub member-none : (t : List ℕ) (x : Name) (n p : ℕ) → n ≤ 0 → member x (names_from t n p) ≡ false
unfolding member position
member-none t x n p h = rw (from-none t n p h)

pub distinct-twice : (t : List ℕ) (n p : ℕ) → 0 < n → member (name_from t p) (names_from t (n - 1) (name_end t p)) ≡ true → distinct (names_from t n p) ≡ false
unfolding distinct
distinct-twice t n p h e = rw (from_more t n p h, e)

pub distinct-next : (t : List ℕ) (n p : ℕ) → 0 < n → member (name_from t p) (names_from t (n - 1) (name_end t p)) ≡ false →
    distinct (names_from t n p) ≡ distinct (names_from t (n - 1) (name_end t p))
unfolding distinct
distinct-next t n p h e = rw (from_more t n p h, e)

pub distinct_none : (t : List ℕ) (n p : ℕ) → n ≤ 0 → distinct (names_from t n p) ≡ true
unfolding distinct
distinct_none t n p h = rw (from-none t n p h)

pub part_of : (t : List ℕ) (p : ℕ) → take (p + 1 + get_or t p 0 - (p + 1)) (drop (p + 1) t) ≡ name_from t p
unfolding name_from
part_of t p = ap (λ (k : ℕ). take k (drop (p + 1) t)) (let e : p + 1 + get_or t p 0 - (p + 1) ≡ get_or t p 0 = omega arith in e)

pub same-as : (b k : Bool) (x' y' x y : Name) → b ≡ same x' y' → x' ≡ x → y' ≡ y → b ≡ k → same x y ≡ k
same-as b k x' y' x y e f g h = cc

pub occurs-again : (t : List ℕ) (x : Name) (n p e : ℕ) → e ≡ name_end t p → 0 < n → AllThere t n p → same x (name_from t p) ≡ false →
    (member x (names_from t n p) ≡ member x (names_from t (n - 1) e)) × AllThere t (n - 1) e
occurs-again t x n p e h g a s = rw h (member-next t x n p g s, there-rest t n p g a)

pub there-next : (t : List ℕ) (n p e : ℕ) → e ≡ name_end t p → 0 < n → AllThere t n p → AllThere t (n - 1) e
there-next t n p e h g a = rw h (there-rest t n p g a)

pub distinct-stop : (t : List ℕ) (n p e : ℕ) (b : Bool) → e ≡ name_end t p → 0 < n → b ≡ member (name_from t p) (names_from t (n - 1) e) → b ≡ true → distinct (names_from t n p) ≡ false
distinct-stop t n p e b h g m k = distinct-twice t n p g (let z : member (name_from t p) (names_from t (n - 1) (name_end t p)) ≡ true = cc in z)

pub distinct-go : (t : List ℕ) (n p e : ℕ) (b : Bool) → e ≡ name_end t p → 0 < n → b ≡ member (name_from t p) (names_from t (n - 1) e) → b ≡ false → distinct (names_from t n p) ≡ distinct (names_from t (n - 1) e)
distinct-go t n p e b h g m k = distinct-next t n p g (let z : member (name_from t p) (names_from t (n - 1) (name_end t p)) ≡ false = cc in z) ∙ ap (λ (x : ℕ). distinct (names_from t (n - 1) x)) (sym h)

pub params-close : (t : List ℕ) (n m e v : ℕ) (b : Bool) (x y : ℕ) → b ≡ distinct (names_from t n m) → x ≡ least v (λ q. if_asked 11 q b) → y ≡ least x (λ q. if_asked 13 q (leb n 255)) →
    Next e y ≡ closing t n m e v
unfolding closing
params-close t n m e v b x y f g h = rw (h, g, f)

pub name-at-is : (t : List ℕ) (p w m v : ℕ) → judge_name t p w ≡ Next m v → There t p
unfolding judged passed
name-at-is t p w m v e = ⊎_elim
    (λ (h : There t p). h)
    (λ (h : name (drop p t) ≡ failed 5). let x = sym e ∙ ap (passed ask_name t w) h in let z : ◌≡◌ {A = ℕ} 0 1 = cc in absurd (omega arith))
    (name-or t p)

pub head-close : (t : List ℕ) (p k u v n : ℕ) (b : Bool) (x : Name) → v ≡ least u (λ q. if_asked 12 q b) → b ≡ (not (same x init) || ltb 0 n) → x ≡ name_from t p →
    Next k v ≡ Next k (least u (λ q. if_asked 12 q (not (same (name_from t p) init) || ltb 0 n)))
head-close t p k u v n b x e f g = rw (e, f, g)

-- what a name and a parameter list are known to be
pub name-gives : (t : List ℕ) (p : ℕ) → Gives (λ x. x ≡ name_from t p) (name (drop p t))
name-gives t p = ⊎_elim (λ (h : There t p). rw (name-there t p h) (gave refl)) (λ (h : name (drop p t) ≡ failed 5). rw h (gave_not 5)) (name-or t p)

pub params-gives : (t : List ℕ) (p : ℕ) → Gives (λ ps. (z : ℕ) × (judged_number_at t p ≡ Is (length ps) z)) (params (drop p t))
unfolding params list_of judged_number_at
params-gives t p = gives-bind (λ n. (z : ℕ) × (judged_number_at t p ≡ Is n z)) (λ ps. (z : ℕ) × (judged_number_at t p ≡ Is (length ps) z)) (field 2) _ (drop p t) (number-gives t (field 2 (drop p t))) (λ n rest h.
    gives_more (counted-size length [] ◌∷◌ refl (λ x xs. refl) name n rest) (λ ps e. (h.0, h.1 ∙ ap (λ (k : ℕ). Is k h.0) (sym e))))
