-- An index of names: words in buckets. A name's bucket is told by a hash of its bytes; it holds 1 more than the number of the first name with that bucket.
use Rattle.std.specs.Prelude.{ℕ, zero, suc, ◌+◌, ◌*◌, ◌%◌, ◌≤◌, ◌<◌, true, false, List, [], ◌∷◌, get_or, set, ltb}
use Rattle.definitions.specs.Bytes.{Name}

-- a hash of 16 bits
unfoldable pub hash_from : ℕ → List ℕ → ℕ
hash_from h [] = h
hash_from h (b ∷ bs) = hash_from ((h * 30011 + b) % 65536) bs

unfoldable pub hash_of : List ℕ → ℕ
hash_of x = hash_from 0 x

-- the bucket of a name, of so many
unfoldable pub bucket_of : ℕ → Name → ℕ
bucket_of size x = hash_of x % size

-- the names, of which the first has the number j, have buckets that hold 1 more than a number of a name no later than they are
pub data Covered (size : ℕ) (buckets : List ℕ) : ℕ → List Name → Type 0 where
  none_covered : {j : ℕ} → Covered size buckets j []
  covered : {j : ℕ} {x : Name} {xs : List Name} → 0 < get_or buckets (bucket_of size x) 0 → get_or buckets (bucket_of size x) 0 ≤ j + 1 → Covered size buckets (j + 1) xs → Covered size buckets j (x ∷ xs)

-- the number from which on a name is sought among n, by the word in its bucket; n where there is none
unfoldable pub seek_from : ℕ → ℕ → ℕ
seek_from zero n = n
seek_from (suc k) n = elim (ltb k n) [ true ↦ k | false ↦ n ]

-- the buckets with the name of number n in the bucket b
unfoldable pub noted : List ℕ → ℕ → ℕ → List ℕ
noted buckets b n = set buckets b (seek_from (get_or buckets b 0) n + 1)
