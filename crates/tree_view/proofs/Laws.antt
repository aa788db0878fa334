-- Reading by position: the laws that the code's proofs cite. Assumes nothing.
use Prim.Native.Nat.{ℕ, zero, suc, ◌+◌, ◌-◌, ◌<◌, ◌≤◌}
use mathlib.Core.Path.{◌≡◌, refl, sym, ap, ◌∙◌}
use mathlib.Core.Bool.{Bool, true, false, ◌&&◌}
use mathlib.Core.List.{List, [], ◌∷◌, map}
use mathlib.Core.Logic.{⊎_elim}
use native.Mathlib.Omega.{arith}
use native.Mathlib.Numerals.{add-one}
use lib.Dec.{ltb, leb-suc-suc}
use lib.ListN.{length, drop, get_or, length-drop, drop_of_length-le}
use lib.Seq.{drop-cons, drop-drop}
use borrow.Author.Tests.{lt-ltb, le-ltb}
use Rattle.definitions.specs.Bytes.{Parsed, got, failed, Parser, ◌>>=◌, give, unread, byte, field, counted, list_of, name, text}
use Rattle.definitions.specs.Parse.{by_kind, choice, params}
use Rattle.definitions.specs.Wellformed.{block_questions}
use Rattle.tree_view.specs.Judge.{stand_onward, up_to, least, passed, judged, then_judge, numbered, judged_number_at, with_number, operator_at, guarded}
use Rattle.tree_view.specs.Judge.{Passed}
use Rattle.tree_view.specs.Judge.{Next, Refused}
use Rattle.tree_view.specs.Judge.{Number}
use Rattle.tree_view.specs.Judge.{Is, Unread}
use Rattle.definitions.proofs.Begins.{le-or-gt}

-- ---- the questions that stand

up_to-true : (w : ℕ) (qs : List ℕ) → up_to w qs (λ q. true) ≡ w
unfolding up_to stand_onward
up_to-true zero qs = refl
up_to-true (suc w) [] = refl
up_to-true (suc w) (q ∷ qs) = ap suc (up_to-true w qs)

up_to-and : (w : ℕ) (qs : List ℕ) (f g : ℕ → Bool) → up_to w qs (λ q. f q && g q) ≡ up_to (up_to w qs f) qs g
unfolding up_to stand_onward
up_to-and zero qs f g = refl
up_to-and (suc w) [] f g = refl
up_to-and (suc w) (q ∷ qs) f g = go (f q) (up_to-and w qs f g)
  where
    go : (b : Bool) → up_to w qs (λ q. f q && g q) ≡ up_to (up_to w qs f) qs g → stand_onward (b && g q) (up_to w qs (λ q. f q && g q)) ≡ up_to (stand_onward b (up_to w qs f)) (q ∷ qs) g
    go true e = ap (stand_onward (g q)) e
    go false e = refl

up_to-same : (w : ℕ) (qs : List ℕ) (f g : ℕ → Bool) → ((q : ℕ) → f q ≡ g q) → up_to w qs f ≡ up_to w qs g
unfolding up_to
up_to-same zero qs f g e = refl
up_to-same (suc w) [] f g e = refl
up_to-same (suc w) (q ∷ qs) f g e = rw (e q, up_to-same w qs f g e)

pub least-true : (w : ℕ) → least w (λ q. true) ≡ w
unfolding least
least-true w = up_to-true w block_questions

pub least-and : (w : ℕ) (f g : ℕ → Bool) → least w (λ q. f q && g q) ≡ least (least w f) g
unfolding least
least-and w f g = up_to-and w block_questions f g

pub least-same : (w : ℕ) (f g : ℕ → Bool) → ((q : ℕ) → f q ≡ g q) → least w f ≡ least w g
unfolding least
least-same w f g e = up_to-same w block_questions f g e

-- ---- a parser leaves a rest of its bytes

pub data Went {A : Type 0} (bs : List ℕ) : Parsed A → Type 0 where
  went : (a : A) (n : ℕ) → n ≤ length bs → Went bs (got a (drop n bs))
  lost : (q : ℕ) → Went bs (failed q)

pub record Steady {A : Type 0} (P : Parser A) : Type 0 where
  pub on : (bs : List ℕ) → Went bs (P bs)

-- what follows a read
abbrev pub follow : {A B : Type 0} → Parsed A → (A → Parser B) → Parsed B
follow (got a rest) f = f a rest
follow (failed q) f = failed q

bind-of : {A B : Type 0} (f : A → Parser B) (g : Parsed A) → elim g as (λ _. Parsed B) [ got a rest ↦ f a rest | failed q ↦ failed q ] ≡ follow g f
bind-of f (got a rest) = refl
bind-of f (failed q) = refl

pub bind_is : {A B : Type 0} (P : Parser A) (f : A → Parser B) (bs : List ℕ) → (P >>= f) bs ≡ follow (P bs) f
unfolding ◌>>=◌
bind_is P f bs = bind-of f (P bs)

went-drop : {A : Type 0} (bs : List ℕ) (n : ℕ) → n ≤ length bs → {g : Parsed A} → Went (drop n bs) g → Went bs g
went-drop bs n le (went a m le') = rw drop-drop (went a (n + m) (omega (arith, length-drop n bs)))
went-drop bs n le (lost q) = lost q

went-follow : {A B : Type 0} (f : A → Parser B) (bs : List ℕ) {g : Parsed A} → Went bs g → ((a : A) → Steady (f a)) → Went bs (follow g f)
went-follow f bs (went a n le) k = went-drop bs n le ((k a).on (drop n bs))
went-follow f bs (lost q) k = lost q

pub steady-bind : {A B : Type 0} {P : Parser A} {f : A → Parser B} → Steady P → ((a : A) → Steady (f a)) → Steady (P >>= f)
steady-bind {P = P} {f = f} s k = record { on = λ bs. rw (bind_is P f bs) (went-follow f bs (s.on bs) k) }

pub steady-give : {A : Type 0} (a : A) → Steady (give a)
unfolding give
steady-give a = record { on = λ bs. went a 0 (omega arith) }

pub steady-unread : {A : Type 0} → Steady {A = A} unread
unfolding unread
steady-unread = record { on = λ bs. lost 5 }

pub steady-byte : Steady byte
unfolding byte
steady-byte = record { on = go }
  where
    go : (bs : List ℕ) → Went bs (byte bs)
    go [] = lost 5
    go (b ∷ bs) = went b 1 (omega arith)

pub steady-field : (w : ℕ) → Steady (field w)
unfolding field
steady-field zero = steady-give 0
steady-field (suc w) = steady-bind steady-byte (λ b. steady-bind (steady-field w) (λ n. steady-give _))

pub steady-counted : {A B : Type 0} (z : B) (c : A → B → B) {P : Parser A} → Steady P → (n : ℕ) → Steady (counted z c P n)
unfolding counted
steady-counted z c s zero = steady-give z
steady-counted z c s (suc n) = steady-bind s (λ a. steady-bind (steady-counted z c s n) (λ b. steady-give _))

pub steady-list_of : {A : Type 0} (w : ℕ) {P : Parser A} → Steady P → Steady (list_of w P)
unfolding list_of
steady-list_of w s = steady-bind (steady-field w) (λ n. steady-counted [] ◌∷◌ s n)

pub steady-name : Steady name
unfolding name
steady-name = steady-list_of 1 steady-byte

pub steady-text : Steady text
unfolding text
steady-text = steady-list_of 2 steady-byte

pub steady-params : Steady params
unfolding params
steady-params = steady-list_of 2 steady-name

pub data AllSteady {A : Type 0} : List (Parser A) → Type 0 where
  none : AllSteady []
  more : {P : Parser A} {ps : List (Parser A)} → Steady P → AllSteady ps → AllSteady (P ∷ ps)

steady-get_d : {A : Type 0} {ps : List (Parser A)} → AllSteady ps → (k : ℕ) → Steady (get_or ps k unread)
steady-get_d none k = steady-unread
steady-get_d (more s r) zero = s
steady-get_d (more s r) (suc k) = steady-get_d r k

pub steady-by_kind : {A : Type 0} {ps : List (Parser A)} → AllSteady ps → Steady (by_kind ps)
unfolding by_kind
steady-by_kind r = steady-bind steady-byte (λ k. steady-get_d r k)

steady-gives : {A : Type 0} (xs : List A) → AllSteady (map give xs)
steady-gives [] = none
steady-gives (x ∷ xs) = more (steady-give x) (steady-gives xs)

pub steady-choice : {A : Type 0} (xs : List A) → Steady (choice xs)
unfolding choice
steady-choice xs = steady-by_kind (steady-gives xs)

-- ---- reading at a position

pub rest-place : (t : List ℕ) (p n : ℕ) → p ≤ length t → n ≤ length (drop p t) → drop (length t - length (drop n (drop p t))) t ≡ drop n (drop p t)
rest-place t p n le h =
    let e : length t - length (drop n (drop p t)) ≡ p + n = simp (length-drop, drop-drop) (omega (arith, length-drop p t)) in
    ap (λ (k : ℕ). drop k t) e ∙ sym (drop-drop n p t)

-- what a read gives has a property
pub data Gives {A : Type 0} (φ : A → Type 0) : Parsed A → Type 0 where
  gave : {a : A} {rest : List ℕ} → φ a → Gives φ (got a rest)
  gave_not : (q : ℕ) → Gives φ (failed q)

follow-place : {A B : Type 0} (t : List ℕ) (ask₁ : ℕ → A → Bool) (ask₂ : ℕ → B → Bool) (f : A → Parser B) (rest : ℕ → ℕ → Passed) (p w v : ℕ) → p ≤ length t →
    ((a : A) (m : ℕ) → m ≤ length t → judged ask₂ (f a) t m w ≡ rest m (least v (λ q. ask₁ q a))) → {g : Parsed A} → Went (drop p t) g →
    passed ask₂ t w (follow g f) ≡ then_judge (passed ask₁ t v g) rest
unfolding judged passed then_judge
follow-place t ask₁ ask₂ f rest p w v le k (went a n h) =
    ap (λ (bs : List ℕ). passed ask₂ t w (f a bs)) (sym (rest-place t p n le h)) ∙ k a (length t - length (drop n (drop p t))) (omega arith)
follow-place t ask₁ ask₂ f rest p w v le k (lost q) = refl

follow-place-of : {A B : Type 0} (t : List ℕ) (ask₁ : ℕ → A → Bool) (ask₂ : ℕ → B → Bool) (φ : A → Type 0) (f : A → Parser B) (rest : ℕ → ℕ → Passed) (p w v : ℕ) → p ≤ length t →
    ((a : A) (m : ℕ) → φ a → m ≤ length t → judged ask₂ (f a) t m w ≡ rest m (least v (λ q. ask₁ q a))) → {g : Parsed A} → Went (drop p t) g → Gives φ g →
    passed ask₂ t w (follow g f) ≡ then_judge (passed ask₁ t v g) rest
unfolding judged passed then_judge
follow-place-of t ask₁ ask₂ φ f rest p w v le k (went a n h) (gave x) =
    ap (λ (bs : List ℕ). passed ask₂ t w (f a bs)) (sym (rest-place t p n le h)) ∙ k a (length t - length (drop n (drop p t))) x (omega arith)
follow-place-of t ask₁ ask₂ φ f rest p w v le k (lost q) (gave_not _) = refl

-- the same, of what the part is known to give
pub judged-bind-of : {A B : Type 0} (t : List ℕ) (ask₁ : ℕ → A → Bool) (ask₂ : ℕ → B → Bool) (φ : A → Type 0) (P : Parser A) (f : A → Parser B) (rest : ℕ → ℕ → Passed) (p w v : ℕ) →
    p ≤ length t → Steady P → Gives φ (P (drop p t)) → ((a : A) (m : ℕ) → φ a → m ≤ length t → judged ask₂ (f a) t m w ≡ rest m (least v (λ q. ask₁ q a))) →
    judged ask₂ (P >>= f) t p w ≡ then_judge (judged ask₁ P t p v) rest
unfolding judged
judged-bind-of t ask₁ ask₂ φ P f rest p w v le s x k = ap (passed ask₂ t w) (bind_is P f (drop p t)) ∙ follow-place-of t ask₁ ask₂ φ f rest p w v le k (s.on (drop p t)) x

-- a part, and then what follows it; w and v are the questions that stand before the whole and before the part
pub judged-bind : {A B : Type 0} (t : List ℕ) (ask₁ : ℕ → A → Bool) (ask₂ : ℕ → B → Bool) (P : Parser A) (f : A → Parser B) (rest : ℕ → ℕ → Passed) (p w v : ℕ) →
    p ≤ length t → Steady P → ((a : A) (m : ℕ) → m ≤ length t → judged ask₂ (f a) t m w ≡ rest m (least v (λ q. ask₁ q a))) →
    judged ask₂ (P >>= f) t p w ≡ then_judge (judged ask₁ P t p v) rest
unfolding judged
judged-bind t ask₁ ask₂ P f rest p w v le s k = ap (passed ask₂ t w) (bind_is P f (drop p t)) ∙ follow-place t ask₁ ask₂ f rest p w v le k (s.on (drop p t))

last-place : {A B : Type 0} (t : List ℕ) (ask₁ : ℕ → A → Bool) (ask₂ : ℕ → B → Bool) (φ : A → Type 0) (h : A → B) (w v : ℕ) →
    ((a : A) → φ a → least w (λ q. ask₂ q (h a)) ≡ least v (λ q. ask₁ q a)) → {g : Parsed A} → Gives φ g → passed ask₂ t w (follow g (λ a. give (h a))) ≡ passed ask₁ t v g
unfolding passed give
last-place t ask₁ ask₂ φ h w v k (gave {a = a} {rest = rest} f) = ap (Next (length t - length rest)) (k a f)
last-place t ask₁ ask₂ φ h w v k (gave_not q) = refl

-- a last part, whose questions are the ones left of the whole's
pub judged-last-of : {A B : Type 0} (t : List ℕ) (ask₁ : ℕ → A → Bool) (ask₂ : ℕ → B → Bool) (φ : A → Type 0) (P : Parser A) (h : A → B) (p w v : ℕ) →
    Gives φ (P (drop p t)) → ((a : A) → φ a → least w (λ q. ask₂ q (h a)) ≡ least v (λ q. ask₁ q a)) →
    judged ask₂ (P >>= λ a. give (h a)) t p w ≡ judged ask₁ P t p v
unfolding judged
judged-last-of t ask₁ ask₂ φ P h p w v f k = ap (passed ask₂ t w) (bind_is P (λ a. give (h a)) (drop p t)) ∙ last-place t ask₁ ask₂ φ h w v k f

any-gives : {A : Type 0} (g : Parsed A) → Gives (λ a. Unit {0}) g
any-gives (got a rest) = gave tt
any-gives (failed q) = gave_not q

pub judged-last : {A B : Type 0} (t : List ℕ) (ask₁ : ℕ → A → Bool) (ask₂ : ℕ → B → Bool) (P : Parser A) (h : A → B) (p w v : ℕ) →
    ((a : A) → least w (λ q. ask₂ q (h a)) ≡ least v (λ q. ask₁ q a)) → judged ask₂ (P >>= λ a. give (h a)) t p w ≡ judged ask₁ P t p v
judged-last t ask₁ ask₂ P h p w v k = judged-last-of t ask₁ ask₂ (λ a. Unit {0}) P h p w v (any-gives (P (drop p t))) (λ a u. k a)

number-place : {B : Type 0} (t : List ℕ) (ask : ℕ → B → Bool) (f : ℕ → Parser B) (rest : ℕ → ℕ → Passed) (p w : ℕ) → p ≤ length t →
    ((n m : ℕ) → m ≤ length t → judged ask (f n) t m w ≡ rest n m) → {g : Parsed ℕ} → Went (drop p t) g → passed ask t w (follow g f) ≡ with_number (numbered t g) rest
unfolding judged passed with_number numbered
number-place t ask f rest p w le k (went a n h) =
    ap (λ (bs : List ℕ). passed ask t w (f a bs)) (sym (rest-place t p n le h)) ∙ k a (length t - length (drop n (drop p t))) (omega arith)
number-place t ask f rest p w le k (lost q) = refl

-- a number, and then what follows it
pub judged-number : {B : Type 0} (t : List ℕ) (ask : ℕ → B → Bool) (f : ℕ → Parser B) (rest : ℕ → ℕ → Passed) (p w : ℕ) →
    p ≤ length t → ((n m : ℕ) → m ≤ length t → judged ask (f n) t m w ≡ rest n m) → judged ask (field 2 >>= f) t p w ≡ with_number (judged_number_at t p) rest
unfolding judged judged_number_at
judged-number t ask f rest p w le k = ap (passed ask t w) (bind_is (field 2) f (drop p t)) ∙ number-place t ask f rest p w le k ((steady-field 2).on (drop p t))

pub judged-give : {A : Type 0} (t : List ℕ) (ask : ℕ → A → Bool) (a : A) (p w : ℕ) → p ≤ length t → judged ask (give a) t p w ≡ Next p (least w (λ q. ask q a))
unfolding judged passed give
judged-give t ask a p w le = ap (λ (m : ℕ). Next m (least w (λ q. ask q a))) (omega (arith, length-drop p t))

-- a part ends in the tree
passed-within : {A : Type 0} (t : List ℕ) (ask : ℕ → A → Bool) (w : ℕ) (g : Parsed A) (m v : ℕ) → passed ask t w g ≡ Next m v → m ≤ length t
unfolding passed
passed-within t ask w (got a rest) m v e = let h : m ≡ length t - length rest = cc in omega arith
passed-within t ask w (failed q) m v e = let z : ◌≡◌ {A = ℕ} 0 1 = cc in absurd (omega arith)

pub judged-within : {A : Type 0} (t : List ℕ) (ask : ℕ → A → Bool) (P : Parser A) (p w m v : ℕ) → judged ask P t p w ≡ Next m v → m ≤ length t
unfolding judged
judged-within t ask P p w m v e = passed-within t ask w (P (drop p t)) m v e

pub then_next : (o : Passed) (f : ℕ → ℕ → Passed) (m v : ℕ) → o ≡ Next m v → then_judge o f ≡ f m v
unfolding then_judge
then_next o f m v e = ap (λ (o : Passed). then_judge o f) e

pub then-refused : (o : Passed) (f : ℕ → ℕ → Passed) (q : ℕ) → o ≡ Refused q → then_judge o f ≡ Refused q
unfolding then_judge
then-refused o f q e = ap (λ (o : Passed). then_judge o f) e

pub with-number : (o : Number) (f : ℕ → ℕ → Passed) (n m : ℕ) → o ≡ Is n m → with_number o f ≡ f n m
unfolding with_number
with-number o f n m e = ap (λ (o : Number). with_number o f) e

pub with-unread : (o : Number) (f : ℕ → ℕ → Passed) (q : ℕ) → o ≡ Unread q → with_number o f ≡ Refused q
unfolding with_number
with-unread o f q e = ap (λ (o : Number). with_number o f) e

-- ---- numbers

-- past a number that k is not: the last arm of a match
pub up : (n k : ℕ) → n ≤ k → (k ≡ n → ⊥) → suc n ≤ k
up n k h f = omega arith

-- ---- a rest of t, by whether a byte is left

pub at-end : (t : List ℕ) (p : ℕ) → length t ≤ p → drop p t ≡ []
at-end t p h = drop_of_length-le t h

pub at_byte : (t : List ℕ) (p : ℕ) → p < length t → drop p t ≡ get_or t p 0 ∷ drop (p + 1) t
at_byte t p h = drop-cons t p 0 h ∙ ap (λ (k : ℕ). get_or t p 0 ∷ drop k t) (sym (add-one p))

pub kind-of : {A : Type 0} (ps : List (Parser A)) (k : ℕ) (bs : List ℕ) → by_kind ps (k ∷ bs) ≡ get_or ps k unread bs
unfolding by_kind ◌>>=◌ byte
kind-of ps k bs = refl

pub kind-none : {A : Type 0} (ps : List (Parser A)) → by_kind ps [] ≡ failed 5
unfolding by_kind ◌>>=◌ byte
kind-none ps = refl

pub judged-kind : {A : Type 0} (t : List ℕ) (ask : ℕ → A → Bool) (ps : List (Parser A)) (k p w : ℕ) → p < length t → get_or t p 0 ≡ k →
    judged ask (by_kind ps) t p w ≡ judged ask (get_or ps k unread) t (p + 1) w
unfolding judged
judged-kind t ask ps k p w h e =
    ap (λ (bs : List ℕ). passed ask t w (by_kind ps bs)) (at_byte t p h) ∙ ap (passed ask t w) (kind-of ps (get_or t p 0) (drop (p + 1) t))
    ∙ ap (λ (n : ℕ). passed ask t w (get_or ps n unread (drop (p + 1) t))) e

pub judged-end : {A : Type 0} (t : List ℕ) (ask : ℕ → A → Bool) (ps : List (Parser A)) (p w : ℕ) → length t ≤ p → judged ask (by_kind ps) t p w ≡ Refused 5
unfolding judged passed
judged-end t ask ps p w h = ap (λ (bs : List ℕ). passed ask t w (by_kind ps bs)) (at-end t p h) ∙ ap (passed ask t w) (kind-none ps)

pub judged-unread : {A : Type 0} (t : List ℕ) (ask : ℕ → A → Bool) (p w : ℕ) → judged ask unread t p w ≡ Refused 5
unfolding judged passed unread
judged-unread t ask p w = refl

-- ---- what is counted

gives-follow : {A B : Type 0} (φ : A → Type 0) (ψ : B → Type 0) (f : A → Parser B) {g : Parsed A} → Gives φ g → ((a : A) (rest : List ℕ) → φ a → Gives ψ (f a rest)) → Gives ψ (follow g f)
gives-follow φ ψ f (gave {a = a} {rest = rest} h) k = k a rest h
gives-follow φ ψ f (gave_not q) k = gave_not q

pub gives_more : {A : Type 0} {φ ψ : A → Type 0} {g : Parsed A} → Gives φ g → ((a : A) → φ a → ψ a) → Gives ψ g
gives_more (gave {a = a} h) k = gave (k a h)
gives_more (gave_not q) k = gave_not q

pub gives-bind : {A B : Type 0} (φ : A → Type 0) (ψ : B → Type 0) (P : Parser A) (f : A → Parser B) (bs : List ℕ) → Gives φ (P bs) → ((a : A) (rest : List ℕ) → φ a → Gives ψ (f a rest)) → Gives ψ ((P >>= f) bs)
gives-bind φ ψ P f bs h k = rw (bind_is P f bs) (gives-follow φ ψ f h k)

pub counted-size : {A B : Type 0} (size : B → ℕ) (z : B) (c : A → B → B) → size z ≡ 0 → ((a : A) (b : B) → size (c a b) ≡ suc (size b)) →
    (P : Parser A) (n : ℕ) (bs : List ℕ) → Gives (λ b. size b ≡ n) (counted z c P n bs)
unfolding counted give
counted-size size z c e₀ e₁ P zero bs = gave e₀
counted-size size z c e₀ e₁ P (suc n) bs =
    gives-bind (λ a. Unit {0}) (λ b. size b ≡ suc n) P _ bs (any-gives (P bs)) (λ a rest u.
    gives-bind (λ b. size b ≡ n) (λ b. size b ≡ suc n) (counted z c P n) _ rest (counted-size size z c e₀ e₁ P n rest) (λ b rest' h. gave (e₁ a b ∙ ap suc h)))

-- ---- a byte that chooses

pub data Each {X : Type 0} (φ : X → Type 0) : List X → Type 0 where
  each_none : Each φ []
  each_more : {x : X} {xs : List X} → φ x → Each φ xs → Each φ (x ∷ xs)

chosen : {X B : Type 0} (t : List ℕ) (ask : ℕ → B → Bool) (w : ℕ) (φ : X → Type 0) {xs : List X} → Each φ xs → (f : X → Parser B) (o : Passed) (bs : List ℕ) →
    ((x : X) → φ x → passed ask t w (f x bs) ≡ o) → (k : ℕ) → passed ask t w (follow (get_or (map give xs) k unread bs) f) ≡ guarded (ltb k (length xs)) o
unfolding passed unread give guarded
chosen t ask w φ each_none f o bs h k = rw (le-ltb k 0 (omega arith))
chosen t ask w φ (each_more {x = x} {xs = xs} e r) f o bs h zero = h x e ∙ sym (ap (λ (b : Bool). guarded b o) (lt-ltb 0 (suc (length xs)) (omega arith)))
chosen t ask w φ (each_more {x = x} {xs = xs} e r) f o bs h (suc k) = chosen t ask w φ r f o bs h k ∙ sym (ap (λ (b : Bool). guarded b o) (leb-suc-suc (suc k) (length xs)))

pub judged-choice : {X B : Type 0} (t : List ℕ) (ask : ℕ → B → Bool) (φ : X → Type 0) (xs : List X) → Each φ xs → (f : X → Parser B) (p w : ℕ) (o : Passed) →
    ((x : X) → φ x → p < length t → judged ask (f x) t (p + 1) w ≡ o) → judged ask (choice xs >>= f) t p w ≡ guarded (operator_at (length xs) t p) o
unfolding judged choice operator_at guarded passed
judged-choice t ask φ xs r f p w o h = ap (passed ask t w) (bind_is (by_kind (map give xs)) f (drop p t)) ∙ ⊎_elim
    (λ (e : length t ≤ p). rw (at-end t p e, kind-none (map give xs), le-ltb p (length t) e))
    (λ (e : p < length t). rw (at_byte t p e, kind-of (map give xs) (get_or t p 0) (drop (p + 1) t), lt-ltb p (length t) e) (chosen t ask w φ r f o (drop (p + 1) t) (λ x g. h x g e) (get_or t p 0)))
    (le-or-gt (length t) p)

pub then-then : (o : Passed) (f g : ℕ → ℕ → Passed) → then_judge (then_judge o f) g ≡ then_judge o (λ m v. then_judge (f m v) g)
unfolding then_judge
then-then (Next m v) f g = refl
then-then (Refused q) f g = refl

pub least-three : (w : ℕ) (f g h : ℕ → Bool) → least w (λ q. f q && g q && h q) ≡ least (least (least w f) g) h
least-three w f g h = least-and w (λ q. f q && g q) h ∙ ap (λ (x : ℕ). least x h) (least-and w f g)

-- what follows a part whose end a number decides
flat-number : (o : Number) (L : ℕ → ℕ) (g : ℕ → ℕ → Passed) (k : ℕ) → then_judge (with_number o (λ i z. Next k (L i))) g ≡ with_number o (λ i z. g k (L i))
unfolding then_judge with_number
flat-number (Is i z) L g k = refl
flat-number (Unread q) L g k = refl

flat-part : (o : Passed) (N : Number) (L : ℕ → ℕ → ℕ) (g : ℕ → ℕ → Passed) →
    then_judge (then_judge o (λ k u. with_number N (λ i z. Next k (L u i)))) g ≡ then_judge o (λ k u. with_number N (λ i z. g k (L u i)))
unfolding then_judge
flat-part (Next k u) N L g = flat-number N (L u) g k
flat-part (Refused q) N L g = refl

pub flat : (o : Passed) (P : ℕ → ℕ → Passed) (N : ℕ → Number) (L : ℕ → ℕ → ℕ) (g : ℕ → ℕ → Passed) →
    then_judge (then_judge o (λ m v. then_judge (P m v) (λ k u. with_number (N m) (λ i z. Next k (L u i))))) g
    ≡ then_judge o (λ m v. then_judge (P m v) (λ k u. with_number (N m) (λ i z. g k (L u i))))
unfolding then_judge
flat (Next m v) P N L g = flat-part (P m v) (N m) L g
flat (Refused q) P N L g = refl

pub number-gives : (t : List ℕ) (g : Parsed ℕ) → Gives (λ n. (z : ℕ) × (numbered t g ≡ Is n z)) g
unfolding numbered
number-gives t (got n rest) = gave (length t - length rest, refl)
number-gives t (failed q) = gave_not q

-- two parts end in the tree where the second does
pub then-within : (t : List ℕ) (o : Passed) (f : ℕ → ℕ → Passed) → ((a b m v : ℕ) → f a b ≡ Next m v → m ≤ length t) → (m v : ℕ) → then_judge o f ≡ Next m v → m ≤ length t
unfolding then_judge
then-within t (Next a b) f h m v e = h a b m v e
then-within t (Refused q) f h m v e = let z : ◌≡◌ {A = ℕ} 0 1 = cc in absurd (omega arith)
