-- What a reader takes from bytes, the writer writes for the value, and reads back wherever it stands: the readers of a tree's parts.
use mathlib.Core.Path.{◌≡◌, refl, ap}
use mathlib.Core.List.{List, [], ◌∷◌, append-nil}
use Prim.Native.Nat.{ℕ, zero, suc, ◌+◌, ◌^◌, ◌<◌}
use native.Mathlib.Omega.{arith}
use mathlib.Core.Bool.{true}
use lib.Pow.{are_bytes}
use lib.ListN.{length, get_or}
use Rattle.definitions.specs.Bytes.{got, Parser, unread, byte, counted, list_of, name, text, concat, list_bytes}
use Rattle.definitions.specs.Module.{name_bytes, text_bytes}
use Rattle.definitions.specs.Parse.{by_kind, too_deep, params}
use Rattle.definitions.specs.TreeBytes.{params_bytes}
use Rattle.definitions.proofs.Writes.{Wrote, Writes, writes-give, writes-bind, writes_byte, writes-unread, writes-weak, writes-field, one, concat-one}
use Rattle.definitions.proofs.Readback.{Reads, Back, no_back, back, reads-bind, reads_byte, reads-list}

-- the bytes are the writer's, and read back
pub record Both {A : Type 0} (p : Parser A) (f : A → List ℕ) (a : A) (xs : List ℕ) : Type 0 where
  pub bytes : xs ≡ f a
  pub back : Reads p (f a) a

-- ---- kinds

-- each reader of the list, from the kind k on
pub data Kinds {A : Type 0} (S : ℕ → A → List ℕ → Type 0) : ℕ → List (Parser A) → Type 0 where
  no_kinds : {k : ℕ} → Kinds S k []
  kind : (k : ℕ) {p : Parser A} {ps : List (Parser A)} → Writes (S k) p → Kinds S (suc k) ps → Kinds S k (p ∷ ps)

kinds-at : {A : Type 0} {S : ℕ → A → List ℕ → Type 0} {i : ℕ} {ps : List (Parser A)} → Kinds S i ps → (k j : ℕ) → i + k ≡ j → Writes (S j) (get_or ps k unread)
kinds-at no_kinds k j e = writes-unread
kinds-at {A} {S} (kind i w r) zero j e = let z : i ≡ j = omega arith in rw (← z) w
kinds-at (kind i w r) (suc k) j e = kinds-at r k j (omega arith)

pub writes-kinds : {A : Type 0} {S : A → List ℕ → Type 0} {ps : List (Parser A)} → Kinds (λ k a ys. S a (k ∷ ys)) 0 ps → Writes S (by_kind ps)
unfolding by_kind
writes-kinds K = writes-bind _ writes_byte (λ k xs h. rw h.0 (kinds-at K k k (omega arith)))

pub reads-kind : {A : Type 0} (ps : List (Parser A)) (k : ℕ) {bs : List ℕ} {a : A} → Reads (get_or ps k unread) bs a → Reads (by_kind ps) (k ∷ bs) a
unfolding by_kind
reads-kind ps k r = reads-bind _ (reads_byte k) r

pub writes-deep : {A : Type 0} {R : A → List ℕ → Type 0} → Writes R too_deep
unfolding too_deep
writes-deep {A} {R} = record { at = go }
  where
    go : (bs : List ℕ) → are_bytes bs ≡ true → (a : A) (rest : List ℕ) → too_deep bs ≡ got a rest → Wrote R bs a rest
    go [] o a rest e = let z : ◌≡◌ {A = ℕ} 0 1 = cc in absurd (omega arith)
    go (b ∷ bs) o a rest e = let z : ◌≡◌ {A = ℕ} 0 1 = cc in absurd (omega arith)

-- ---- lists, names and texts

writes-elements : {A : Type 0} {p : Parser A} {f : A → List ℕ} → Writes (Both p f) p
    → (n : ℕ) → Writes (λ zs xs. (xs ≡ concat f zs) × (length {A = A} zs ≡ n) × Back p f zs) (counted [] ◌∷◌ p n)
unfolding counted concat
writes-elements P zero = writes-give [] (refl, refl, no_back)
writes-elements P (suc n) =
    writes-bind _ P (λ a xs h.
    writes-bind _ (writes-elements P n) (λ zs ys k.
    writes-give _ (rw (h.bytes, k.0, append-nil), ap suc k.1, back h.back k.2)))

pub both-list : {A : Type 0} (w : ℕ) {p : Parser A} {f : A → List ℕ} → Writes (Both p f) p → Writes (Both (list_of w p) (list_bytes w f)) (list_of w p)
unfolding list_of list_bytes
both-list {A} w {p} {f} P =
    writes-bind _ (writes-field w) (λ n xs h.
    writes-weak (λ zs ys k. let z : length zs < 256 ^ w = rw k.1 h.1 in record { bytes = rw (h.0, k.0, k.1); back = reads-list w z k.2 }) (writes-elements P n))

both-byte : Writes (Both byte one) byte
both-byte = writes-weak (λ c xs h. record { bytes = h.0; back = reads_byte c }) writes_byte

pub both-name : Writes (Both name name_bytes) name
unfolding name name_bytes list_bytes
both-name = writes-weak (λ x xs h. record { bytes = rw concat-one at h.bytes; back = rw concat-one at h.back }) (both-list 1 both-byte)

pub both-text : Writes (Both text text_bytes) text
unfolding text text_bytes list_bytes
both-text = writes-weak (λ x xs h. record { bytes = rw concat-one at h.bytes; back = rw concat-one at h.back }) (both-list 2 both-byte)

pub both-params : Writes (Both params params_bytes) params
unfolding params params_bytes
both-params = both-list 2 both-name
