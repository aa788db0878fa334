-- Nodes by position: how a read goes on part by part. The views of each kind are chains of these laws. Assumes nothing.
use Prim.Native.Nat.{ℕ, zero, suc, ◌+◌, ◌-◌, ◌<◌, ◌≤◌}
use mathlib.Core.Path.{◌≡◌, refl, sym, ap, ◌∙◌, subst}
use mathlib.Core.Bool.{true, false, true≢false}
use mathlib.Core.List.{List, [], ◌∷◌, map}
use mathlib.Core.Logic.{⊎_elim}
use native.Mathlib.Omega.{arith}
use native.Mathlib.Numerals.{sub-one}
use lib.ListN.{length, drop, get_or, length-drop, get_or-eq_default, length-map}
use Rattle.definitions.specs.Bytes.{Parsed, got, failed, Parser, ◌>>=◌, give, unread, counted}
use Rattle.definitions.specs.Parse.{by_kind, choice}
use Rattle.tree_view.specs.Places.{Node, node, node_of, node_at, is_got, Reads}
use Rattle.tree_view.proofs.Laws.{Went, went, lost, Steady, follow, bind_is, at_byte, at-end, kind-of, kind-none, rest-place, steady-counted}
use Rattle.definitions.proofs.Begins.{le-or-gt}

-- P at p goes on as Q at q
pub record Goes {A : Type 0} (z : A) (P : Parser A) (t : List ℕ) (p : ℕ) (Q : Parser A) (q : ℕ) : Type 0 where
  pub reads : Reads Q t q
  pub is : node_at z P t p ≡ node_at z Q t q

-- a view: what a node holds, and that it is the node made of that
pub record Seen {A : Type 0} (Parts : Type 0) (x y : Node A) : Type 0 where
  pub parts : Parts
  pub is : x ≡ y

pub not-got : {C : Type 0} → false ≡ true → C
not-got e = absurd (true≢false (sym e))

-- a read of known outcome
pub got-node : {A : Type 0} (z : A) (P : Parser A) (t : List ℕ) (p : ℕ) (a : A) (m : ℕ) → m ≤ length t → P (drop p t) ≡ got a (drop m t) → node_at z P t p ≡ node a m
unfolding node_at node_of
got-node z P t p a m h e = ap (node_of z t) e ∙ ap (node a) (let x : length t - length (drop m t) ≡ m = omega (arith, length-drop m t) in x)

pub got-reads : {A : Type 0} (P : Parser A) (t : List ℕ) (p : ℕ) (a : A) (rest : List ℕ) → p ≤ length t → P (drop p t) ≡ got a rest → Reads P t p
unfolding is_got
got-reads P t p a rest le e = record { start = le; read = ap is_got e }

-- what a steady parser that reads at p gives
module _ {A : Type 0} (z : A) (P : Parser A) (t : List ℕ) (p : ℕ) (s : Steady P) (r : Reads P t p) where
  placed : (g : Parsed A) → Went (drop p t) g → is_got g ≡ true → ((node_of z t g).end ≤ length t) × (g ≡ got (node_of z t g).value (drop (node_of z t g).end t))
  unfolding node_of is_got
  placed _ (went a n h) e = (omega arith, ap (got a) (sym (rest-place t p n r.start h)))
  placed _ (lost q) e = not-got e

  pub node-within : (node_at z P t p).end ≤ length t
  unfolding node_at
  node-within = (placed (P (drop p t)) (s.on (drop p t)) r.read).0

  pub node-got : P (drop p t) ≡ got (node_at z P t p).value (drop (node_at z P t p).end t)
  unfolding node_at
  node-got = (placed (P (drop p t)) (s.on (drop p t)) r.read).1

-- ---- one part after another

module _ {A B : Type 0} (z : B) (P : Parser A) (f : A → Parser B) (t : List ℕ) (p : ℕ) (r : Reads (P >>= f) t p) where
  first-got : (g : Parsed A) → is_got (follow g f) ≡ true → is_got g ≡ true
  unfolding is_got
  first-got (got a rest) e = refl
  first-got (failed q) e = e

  pub first_reads : Reads P t p
  first_reads = record { start = r.start; read = first-got (P (drop p t)) (ap is_got (sym (bind_is P f (drop p t))) ∙ r.read) }

  -- a part that is known
  pub goes-got : (a : A) (m : ℕ) → m ≤ length t → P (drop p t) ≡ got a (drop m t) → Goes z (P >>= f) t p (f a) m
  unfolding node_at
  goes-got a m h e = let x : (P >>= f) (drop p t) ≡ f a (drop m t) = bind_is P f (drop p t) ∙ ap (λ (g : Parsed A). follow g f) e in
      record { reads = record { start = h; read = ap is_got (sym x) ∙ r.read }; is = ap (node_of z t) x }

  -- any part
  pub goes-on : (y : A) → Steady P → Goes z (P >>= f) t p (f (node_at y P t p).value) (node_at y P t p).end
  goes-on y s = goes-got _ _ (node-within y P t p s first_reads) (node-got y P t p s first_reads)

-- nothing more is read
pub goes-give : {A : Type 0} (z a : A) (t : List ℕ) (p : ℕ) → p ≤ length t → node_at z (give a) t p ≡ node a p
unfolding give
goes-give z a t p le = got-node z (give a) t p a p le refl

-- a last part
pub goes_last : {A B : Type 0} (z : B) (y : A) (P : Parser A) (f : A → B) (t : List ℕ) (p : ℕ) → Steady P → Reads (P >>= λ a. give (f a)) t p →
    node_at z (P >>= λ a. give (f a)) t p ≡ node (f (node_at y P t p).value) (node_at y P t p).end
goes_last z y P f t p s r = let g = goes-on z P (λ a. give (f a)) t p r y s in g.is ∙ goes-give z (f (node_at y P t p).value) t (node_at y P t p).end g.reads.start

-- ---- a kind byte

module _ {A : Type 0} (ps : List (Parser A)) (t : List ℕ) (p : ℕ) (r : Reads (by_kind ps) t p) where
  pub kind-inside : p < length t
  unfolding is_got
  kind-inside = ⊎_elim
      (λ (l : length t ≤ p). not-got (sym (ap is_got (ap (by_kind ps) (at-end t p l) ∙ kind-none ps)) ∙ r.read))
      (λ (l : p < length t). l)
      (le-or-gt (length t) p)

  kind-is : (k : ℕ) → get_or t p 0 ≡ k → by_kind ps (drop p t) ≡ get_or ps k unread (drop (p + 1) t)
  kind-is k e = ap (by_kind ps) (at_byte t p kind-inside) ∙ kind-of ps (get_or t p 0) (drop (p + 1) t) ∙ ap (λ (k : ℕ). get_or ps k unread (drop (p + 1) t)) e

  kind-reads : (k : ℕ) → get_or t p 0 ≡ k → Reads (get_or ps k unread) t (p + 1)
  kind-reads k e = let i = kind-inside in record { start = omega arith; read = ap is_got (sym (kind-is k e)) ∙ r.read }

  pub goes-kind : (z : A) (k : ℕ) → get_or t p 0 ≡ k → Goes z (by_kind ps) t p (get_or ps k unread) (p + 1)
  unfolding node_at
  goes-kind z k e = record { reads = kind-reads k e; is = ap (node_of z t) (kind-is k e) }

  -- the byte is a kind
  pub kind-known : get_or t p 0 < length ps
  unfolding is_got unread
  kind-known = ⊎_elim
      (λ (l : length ps ≤ get_or t p 0). not-got (sym (ap (λ (P : Parser A). is_got (P (drop (p + 1) t))) (get_or-eq_default ps unread l)) ∙ (kind-reads (get_or t p 0) refl).read))
      (λ (l : get_or t p 0 < length ps). l)
      (le-or-gt (length ps) (get_or t p 0))

-- ---- a byte that chooses

chosen : {X : Type 0} (x : X) (xs : List X) (k : ℕ) → k < length xs → get_or (map give xs) k unread ≡ give (get_or xs k x)
chosen x [] k h = absurd (omega arith)
chosen x (y ∷ ys) zero h = refl
chosen x (y ∷ ys) (suc k) h = chosen x ys k (omega arith)

module _ {X B : Type 0} (z : B) (xs : List X) (f : X → Parser B) (t : List ℕ) (p : ℕ) (r : Reads (choice xs >>= f) t p) where
  choice-reads : Reads (by_kind (map give xs)) t p
  unfolding choice
  choice-reads = first_reads z (choice xs) f t p r

  pub choice-inside : p < length t
  choice-inside = kind-inside (map give xs) t p choice-reads

  pub choice-known : get_or t p 0 < length xs
  choice-known = let h = kind-known (map give xs) t p choice-reads in omega (arith, length-map xs (give {A = X}))

  choice-got : (x : X) → choice xs (drop p t) ≡ got (get_or xs (get_or t p 0) x) (drop (p + 1) t)
  unfolding choice give
  choice-got x = kind-is (map give xs) t p choice-reads (get_or t p 0) refl ∙ ap (λ (P : Parser X). P (drop (p + 1) t)) (chosen x xs (get_or t p 0) choice-known)

  pub goes-choice : (x : X) → Goes z (choice xs >>= f) t p (f (get_or xs (get_or t p 0) x)) (p + 1)
  goes-choice x = goes-got z (choice xs) f t p r _ (p + 1) (let i = choice-inside in omega arith) (choice-got x)

-- ---- one element at a time

-- n elements at p, of which there is a first: it, and the k after it
pub record More {A B : Type 0} (y : A) (u z : B) (c : A → B → B) (P : Parser A) (n k : ℕ) (t : List ℕ) (p : ℕ) : Type 0 where
  pub head : Reads P t p
  pub rest : Reads (counted z c P k) t (node_at y P t p).end
  pub is : node_at u (counted z c P n) t p
      ≡ node (c (node_at y P t p).value (node_at u (counted z c P k) t (node_at y P t p).end).value) (node_at u (counted z c P k) t (node_at y P t p).end).end

module _ {A B : Type 0} (y : A) (u z : B) (c : A → B → B) (P : Parser A) (t : List ℕ) (p : ℕ) where
  pub counted_none : (n : ℕ) → n ≤ 0 → p ≤ length t → node_at u (counted z c P n) t p ≡ node z p
  unfolding counted
  counted_none zero h le = goes-give u z t p le
  counted_none (suc n) h le = absurd (omega arith)

  one-more : (n : ℕ) → Steady P → Reads (counted z c P (suc n)) t p → More y u z c P (suc n) n t p
  unfolding counted
  one-more n s r =
      let f : A → Parser B = λ a. counted z c P n >>= λ b. give (c a b) in
      let g = goes-on u P f t p r y s in
      let m = node_at y P t p in
      record {
        head = first_reads u P f t p r;
        rest = first_reads u (counted z c P n) (λ b. give (c m.value b)) t m.end g.reads;
        is = g.is ∙ goes_last u u (counted z c P n) (c m.value) t m.end (steady-counted z c s n) g.reads;
      }

  pub counted-more : (n : ℕ) → 0 < n → Steady P → Reads (counted z c P n) t p → More y u z c P n (n - 1) t p
  counted-more zero h s r = absurd (omega arith)
  counted-more (suc n) h s r = subst (λ (k : ℕ). More y u z c P (suc n) k t p) (sym (sub-one (suc n))) (one-more n s r)
