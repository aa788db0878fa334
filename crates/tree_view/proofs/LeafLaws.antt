-- Numbers, names, strings and tests. Assumes nothing.
use Prim.Native.Nat.{ℕ, zero, suc, ◌+◌, ◌*◌, ◌-◌, ◌<◌, ◌≤◌, ◌^◌}
use mathlib.Core.Path.{◌≡◌, refl, sym, ap, ◌∙◌}
use mathlib.Core.Bool.{Bool, true, false, not, ◌||◌}
use mathlib.Core.List.{List, [], ◌∷◌}
use mathlib.Core.Logic.{⊎_elim}
use native.Mathlib.Omega.{arith}
use lib.Dec.{eqb, ltb}
use lib.ListN.{length, take, drop, get_or, length-drop}
use lib.Seq.{drop-drop}
use borrow.Author.Tests.{lt-ltb, le-ltb, eq-eqb, ne_eqb}
use Rattle.definitions.specs.Bytes.{Name, text, Parsed, got, failed, Parser, ◌>>=◌, give, byte, field, counted, list_of, name}
use Rattle.definitions.specs.Utf8.{is_utf8}
use Rattle.definitions.specs.Wellformed.{if_asked, is_name, is_iterator, ask_name, block_questions}
use Rattle.tree_view.specs.Judge.{Placed, here, later, stand_onward, up_to, least, passed, judged, numbered, judged_number_at, unasked, ask_text, judge_name, operator_at, fits_role, suited, guarded}
use Rattle.tree_view.specs.Places.{name_from, name_end, There}
use Rattle.tree_view.specs.Judge.{Passed}
use Rattle.tree_view.specs.Judge.{Next, Refused}
use Rattle.tree_view.specs.declared.roles.Role.{Role}
use Rattle.tree_view.specs.declared.roles.Role.TheVariants.{Value}
use Rattle.tree_view.specs.Judge.{Is, Unread}
use Rattle.tree_view.proofs.Laws.{least-true, least-and, least-same, follow, bind_is, at_byte, at-end}
use Rattle.definitions.proofs.Begins.{le-or-gt}

-- ---- one question answered

on-yes : (k q : ℕ) → if_asked k q true ≡ true
unfolding if_asked
on-yes k q = go (eqb q k)
  where
    go : (b : Bool) → (not b || true) ≡ true
    go true = refl
    go false = refl

pub noted-yes : (w k : ℕ) (ok : Bool) → ok ≡ true → w ≡ least w (λ q. if_asked k q ok)
noted-yes w k ok e = rw e (sym (least-same w (λ q. if_asked k q true) (λ q. true) (on-yes k) ∙ least-true w))

-- how many stand after a no to question k, which has place r
placed-no : (k : ℕ) {qs : List ℕ} {r : ℕ} → Placed k qs r → (w : ℕ) → (w ≤ r → up_to w qs (λ q. if_asked k q false) ≡ w) × (r ≤ w → up_to w qs (λ q. if_asked k q false) ≡ r)
unfolding up_to stand_onward if_asked
placed-no k at zero = ((λ e. refl), (λ e. omega arith))
placed-no k here (suc w) = rw (eq-eqb k k refl) ((λ e. absurd (omega arith)), (λ e. refl))
placed-no k (later {q = q} other at) (suc w) = let i = placed-no k at w in rw (ne_eqb q k other) ((λ e. ap suc (i.0 (omega arith))), (λ e. ap suc (i.1 (omega arith))))

pub noted-low : (w k r : ℕ) (ok : Bool) → Placed k block_questions r → ok ≡ false → w ≤ r → w ≡ least w (λ q. if_asked k q ok)
unfolding least
noted-low w k r ok at e l = rw e (sym ((placed-no k at w).0 l))

pub noted-no : (w k r : ℕ) (ok : Bool) → Placed k block_questions r → ok ≡ false → r ≤ w → r ≡ least w (λ q. if_asked k q ok)
unfolding least
noted-no w k r ok at e l = rw e (sym ((placed-no k at w).1 l))

-- ---- bytes and numbers

byte_more : {B : Type 0} (f : ℕ → Parser B) (b : ℕ) (bs : List ℕ) → (byte >>= f) (b ∷ bs) ≡ f b bs
unfolding byte ◌>>=◌
byte_more f b bs = refl

byte-none : {B : Type 0} (f : ℕ → Parser B) → (byte >>= f) [] ≡ failed 5
unfolding byte ◌>>=◌
byte-none f = refl

got-give : {A B : Type 0} (P : Parser A) (h : A → B) (bs rest : List ℕ) (a : A) → P bs ≡ got a rest → (P >>= λ a. give (h a)) bs ≡ got (h a) rest
unfolding give
got-give P h bs rest a e = bind_is P (λ a. give (h a)) bs ∙ ap (λ (g : Parsed _). follow g (λ a. give (h a))) e

failed-give : {A B : Type 0} (P : Parser A) (f : A → Parser B) (bs : List ℕ) → P bs ≡ failed 5 → (P >>= f) bs ≡ failed 5
failed-give P f bs e = bind_is P f bs ∙ ap (λ (g : Parsed _). follow g f) e

pub field-short : (w : ℕ) (bs : List ℕ) → length bs < w → field w bs ≡ failed 5
unfolding field
field-short zero bs h = absurd (omega arith)
field-short (suc w) [] h = byte-none _
field-short (suc w) (b ∷ bs) h = byte_more _ b bs ∙ failed-give (field w) _ bs (field-short w bs (omega arith))

pub field-long : (w : ℕ) (bs : List ℕ) → w ≤ length bs → (n : ℕ) × (field w bs ≡ got n (drop w bs))
unfolding field give
field-long zero bs h = (0, refl)
field-long (suc w) [] h = absurd (omega arith)
field-long (suc w) (b ∷ bs) h = let r = field-long w bs (omega arith) in (b * 256 ^ w + r.0, byte_more _ b bs ∙ got-give (field w) _ bs (drop w bs) r.0 r.1)

field-one : (a : ℕ) (bs : List ℕ) → field 1 (a ∷ bs) ≡ got a bs
unfolding field byte ◌>>=◌ give
field-one a bs = ap (λ (n : ℕ). got n bs) (omega arith)

field_both : (a b : ℕ) (bs : List ℕ) → field 2 (a ∷ b ∷ bs) ≡ got (a * 256 + b) bs
unfolding field byte ◌>>=◌ give
field_both a b bs = ap (λ (n : ℕ). got n bs) (omega arith)

again : (p : ℕ) → p + 1 + 1 ≡ p + 2
again p = omega arith

pub field-two : (t : List ℕ) (p : ℕ) → 2 ≤ length t - p → field 2 (drop p t) ≡ got (get_or t p 0 * 256 + get_or t (p + 1) 0) (drop (p + 2) t)
field-two t p h =
    ap (field 2) (at_byte t p (omega arith) ∙ ap (λ (bs : List ℕ). get_or t p 0 ∷ bs) (at_byte t (p + 1) (omega arith)))
    ∙ field_both (get_or t p 0) (get_or t (p + 1) 0) (drop (p + 1 + 1) t) ∙ ap (λ (k : ℕ). got (get_or t p 0 * 256 + get_or t (p + 1) 0) (drop k t)) (again p)

place-of : (t : List ℕ) (m : ℕ) → m ≤ length t → length t - length (drop m t) ≡ m
place-of t m h = omega (arith, length-drop m t)

pub number_short : (t : List ℕ) (p : ℕ) → length t - p < 2 → judged_number_at t p ≡ Unread 5
unfolding judged_number_at numbered
number_short t p h = ap (numbered t) (field-short 2 (drop p t) (omega (arith, length-drop p t)))

pub number-long : (t : List ℕ) (p : ℕ) → 2 ≤ length t - p → judged_number_at t p ≡ Is (get_or t p 0 * 256 + get_or t (p + 1) 0) (p + 2)
unfolding judged_number_at numbered
number-long t p h = ap (numbered t) (field-two t p h) ∙ ap (Is (get_or t p 0 * 256 + get_or t (p + 1) 0)) (place-of t (p + 2) (omega arith))

pub eight-short : (t : List ℕ) (p w : ℕ) → length t - p < 8 → judged unasked (field 8) t p w ≡ Refused 5
unfolding judged passed
eight-short t p w h = ap (passed unasked t w) (field-short 8 (drop p t) (omega (arith, length-drop p t)))

pub eight-long : (t : List ℕ) (p w : ℕ) → 8 ≤ length t - p → judged unasked (field 8) t p w ≡ Next (p + 8) w
unfolding judged passed
eight-long t p w h = let r = field-long 8 (drop p t) (omega (arith, length-drop p t)) in
    ap (passed unasked t w) (r.1 ∙ ap (got r.0) (drop-drop 8 p t))
    ∙ ap (λ (m : ℕ). Next m (least w (λ q. true))) (place-of t (p + 8) (omega arith)) ∙ ap (Next (p + 8)) (least-true w)

pub bytes-long : (n : ℕ) (bs : List ℕ) → n ≤ length bs → counted [] ◌∷◌ byte n bs ≡ got (take n bs) (drop n bs)
unfolding counted give
bytes-long zero bs h = refl
bytes-long (suc n) [] h = absurd (omega arith)
bytes-long (suc n) (b ∷ bs) h = byte_more _ b bs ∙ got-give (counted [] ◌∷◌ byte n) (λ (xs : List ℕ). b ∷ xs) bs (drop n bs) (take n bs) (bytes-long n bs (omega arith))

pub bytes-short : (n : ℕ) (bs : List ℕ) → length bs < n → counted [] ◌∷◌ byte n bs ≡ failed 5
unfolding counted
bytes-short zero bs h = absurd (omega arith)
bytes-short (suc n) [] h = byte-none _
bytes-short (suc n) (b ∷ bs) h = byte_more _ b bs ∙ failed-give (counted [] ◌∷◌ byte n) _ bs (bytes-short n bs (omega arith))

-- ---- names and strings

name-step : (t : List ℕ) (p : ℕ) → p < length t → name (drop p t) ≡ counted [] ◌∷◌ byte (get_or t p 0) (drop (p + 1) t)
unfolding name list_of
name-step t p h =
    bind_is (field 1) (λ n. counted [] ◌∷◌ byte n) (drop p t)
    ∙ ap (λ (g : Parsed ℕ). follow g (λ n. counted [] ◌∷◌ byte n)) (ap (field 1) (at_byte t p h) ∙ field-one (get_or t p 0) (drop (p + 1) t))

pub name-there : (t : List ℕ) (p : ℕ) → There t p → name (drop p t) ≡ got (name_from t p) (drop (name_end t p) t)
unfolding name_from name_end
name-there t p h =
    name-step t p h.byte ∙ bytes-long (get_or t p 0) (drop (p + 1) t) (let x = h.bytes in omega (arith, length-drop (p + 1) t))
    ∙ ap (got (take (get_or t p 0) (drop (p + 1) t))) (drop-drop (get_or t p 0) (p + 1) t)

pub name-none : (t : List ℕ) (p : ℕ) → length t ≤ p → name (drop p t) ≡ failed 5
unfolding name list_of
name-none t p h = ap name (at-end t p h) ∙ failed-give (field 1) _ [] (field-short 1 [] (omega arith))

pub name-short : (t : List ℕ) (p : ℕ) → p < length t → length t - (p + 1) < get_or t p 0 → name (drop p t) ≡ failed 5
name-short t p h g = name-step t p h ∙ bytes-short (get_or t p 0) (drop (p + 1) t) (omega (arith, length-drop (p + 1) t))

pub name-at-none : (t : List ℕ) (p w : ℕ) → length t ≤ p → judge_name t p w ≡ Refused 5
unfolding judged passed
name-at-none t p w h = ap (passed ask_name t w) (name-none t p h)

pub name-at-short : (t : List ℕ) (p w : ℕ) → p < length t → length t - (p + 1) < get_or t p 0 → judge_name t p w ≡ Refused 5
unfolding judged passed
name-at-short t p w h g = ap (passed ask_name t w) (name-short t p h g)

pub name-at-there : (t : List ℕ) (p w : ℕ) → There t p → judge_name t p w ≡ Next (name_end t p) (least w (λ q. ask_name q (name_from t p)))
unfolding judged passed name_end
name-at-there t p w h =
    ap (passed ask_name t w) (name-there t p h) ∙ ap (λ (m : ℕ). Next m (least w (λ q. ask_name q (name_from t p)))) (place-of t (p + 1 + get_or t p 0) h.bytes)

text-step : (t : List ℕ) (p n m : ℕ) → p ≤ length t → judged_number_at t p ≡ Is n m → text (drop p t) ≡ counted [] ◌∷◌ byte n (drop m t)
unfolding text list_of
text-step t p n m le e = bind_is (field 2) (λ n. counted [] ◌∷◌ byte n) (drop p t) ∙ ⊎_elim
    (λ (h : 2 ≤ length t - p). let x = sym e ∙ number-long t p h in let a : n ≡ get_or t p 0 * 256 + get_or t (p + 1) 0 = cc in let b : m ≡ p + 2 = cc in
    rw (field-two t p h, a, b))
    (λ (h : length t - p < 2). let x = sym e ∙ number_short t p h in let z : ◌≡◌ {A = ℕ} 0 1 = cc in absurd (omega arith))
    (le-or-gt 2 (length t - p))

pub text-unread : (t : List ℕ) (p q w : ℕ) → p ≤ length t → judged_number_at t p ≡ Unread q → judged ask_text (text) t p w ≡ Refused q
unfolding judged passed text list_of
text-unread t p q w le e = ⊎_elim
    (λ (h : 2 ≤ length t - p). let x = sym e ∙ number-long t p h in let z : ◌≡◌ {A = ℕ} 0 1 = cc in absurd (omega arith))
    (λ (h : length t - p < 2). let x = sym e ∙ number_short t p h in let a : q ≡ 5 = cc in
    ap (passed ask_text t w) (failed-give (field 2) _ (drop p t) (field-short 2 (drop p t) (omega (arith, length-drop p t)))) ∙ ap Refused (sym a))
    (le-or-gt 2 (length t - p))

pub text-short : (t : List ℕ) (p n m w : ℕ) → p ≤ length t → judged_number_at t p ≡ Is n m → length t - m < n → judged ask_text (text) t p w ≡ Refused 5
unfolding judged passed
text-short t p n m w le e h = ap (passed ask_text t w) (text-step t p n m le e ∙ bytes-short n (drop m t) (omega (arith, length-drop m t)))

pub text-long : (t : List ℕ) (p n m w : ℕ) → p ≤ length t → judged_number_at t p ≡ Is n m → m ≤ length t → n ≤ length t - m →
    judged ask_text (text) t p w ≡ Next (m + n) (least w (λ q. if_asked 8 q (is_utf8 (take n (drop m t)))))
unfolding judged passed ask_text
text-long t p n m w le e h g =
    ap (passed ask_text t w) (text-step t p n m le e ∙ bytes-long n (drop m t) (omega (arith, length-drop m t)) ∙ ap (got (take n (drop m t))) (drop-drop n m t))
    ∙ ap (λ (k : ℕ). Next k (least w (λ q. if_asked 8 q (is_utf8 (take n (drop m t)))))) (place-of t (m + n) (omega arith))

-- ---- tests

-- 33 and 7, one after the other
name-asked : (w u v : ℕ) (x : Name) → u ≡ least w (λ q. if_asked 33 q (not (is_iterator x))) → v ≡ least u (λ q. if_asked 7 q (is_name x)) → v ≡ least w (λ q. ask_name q x)
unfolding ask_name
name-asked w u v x e f =
    f ∙ ap (λ (k : ℕ). least k (λ q. if_asked 7 q (is_name x))) e ∙ sym (least-and w (λ q. if_asked 33 q (not (is_iterator x))) (λ q. if_asked 7 q (is_name x)))

pub name-whole : (t : List ℕ) (p w u v n : ℕ) (a b : Bool) → p < length t → get_or t p 0 ≡ n → n ≤ length t - (p + 1)
    → a ≡ is_iterator (take (p + 1 + n - (p + 1)) (drop (p + 1) t)) → b ≡ is_name (take (p + 1 + n - (p + 1)) (drop (p + 1) t))
    → u ≡ least w (λ q. if_asked 33 q (not a)) → v ≡ least u (λ q. if_asked 7 q b) → Next (p + 1 + n) v ≡ judge_name t p w
unfolding name_from name_end
name-whole t p w u v n a b h e g f₁ f₂ x y =
    let k : p + 1 + n - (p + 1) ≡ get_or t p 0 = omega arith in
    let part : take (p + 1 + n - (p + 1)) (drop (p + 1) t) ≡ take (get_or t p 0) (drop (p + 1) t) = ap (λ (m : ℕ). take m (drop (p + 1) t)) k in
    let x' = x ∙ ap (λ (c : Bool). least w (λ q. if_asked 33 q (not c))) (f₁ ∙ ap is_iterator part) in
    let y' = y ∙ ap (λ (c : Bool). least u (λ q. if_asked 7 q c)) (f₂ ∙ ap is_name part) in
    rw (name-asked w u v (take (get_or t p 0) (drop (p + 1) t)) x' y', sym e) (sym (name-at-there t p w (record { byte = h; bytes = omega arith })))

pub text-whole : (t : List ℕ) (p n m w v : ℕ) (b : Bool) → v ≡ least w (λ q. if_asked 8 q b) → p ≤ length t → judged_number_at t p ≡ Is n m → m ≤ length t → n ≤ length t - m → b ≡ is_utf8 (take (m + n - m) (drop m t)) →
    Next (m + n) v ≡ judged ask_text (text) t p w
text-whole t p n m w v b x le e h g f =
    let k : m + n - m ≡ n = omega arith in let f' : b ≡ is_utf8 (take n (drop m t)) = f ∙ ap (λ (m' : ℕ). is_utf8 (take m' (drop m t))) k in
    rw (x, f') (sym (text-long t p n m w le e h g))

pub suits-value : (r : Role) (k w : ℕ) → r ≡ Value → w ≡ suited r k w
unfolding suited fits_role
suits-value r k w e = rw e (noted-yes w 10 true refl)

pub operator-end : (n : ℕ) (t : List ℕ) (p : ℕ) → length t ≤ p → false ≡ operator_at n t p
unfolding operator_at
operator-end n t p h = rw (le-ltb p (length t) h)

pub operator-in : (n : ℕ) (t : List ℕ) (p : ℕ) → p < length t → ltb (get_or t p 0) n ≡ operator_at n t p
unfolding operator_at
operator-in n t p h = rw (lt-ltb p (length t) h)

pub guard-yes : (b c : Bool) (o x : Passed) → b ≡ c → b ≡ true → x ≡ o → x ≡ guarded c o
unfolding guarded
guard-yes b c o x e f g = rw (sym e ∙ f) g

pub guard-no : (b c : Bool) (o : Passed) → b ≡ c → b ≡ false → Refused 5 ≡ guarded c o
unfolding guarded
guard-no b c o e f = rw (sym e ∙ f)
