-- A name found by an index: sought among the words from the number in its bucket on.
use Prim.Native.Nat.{ℕ, ◌+◌, ◌-◌, ◌%◌, ◌≤◌, ◌<◌}
use mathlib.Core.Path.{◌≡◌, sym, ap, ◌∙◌}
use mathlib.Core.Option.{Option, some}
use mathlib.Core.List.{List, map}
use native.Mathlib.Omega.{arith}
use lib.ListN.{length, take, drop, get_or, length-map}
use Rattle.definitions.specs.Bytes.{Name, same, position}
use Rattle.definitions.proofs.Resolve.{position-lt}
use Rattle.state.specs.Words.{region}
use Rattle.state.specs.Index.{hash_of, bucket_of, Covered, seek_from}
use Rattle.state.proofs.Index.{start-le}
use Rattle.state.proofs.Regions.{region-length, region-rest}
use Rattle.lower_emit.proofs.Setting.{map-drop}
use Rattle.names.specs.Sought.{shifted, sought_from}
use Rattle.names.proofs.Indexing.{sought-found}

pub bucket-is : (size : ℕ) (x y : Name) (h : ℕ) → h ≡ hash_of y → y ≡ x → h % size ≡ bucket_of size x
unfolding bucket_of
bucket-is size x y h e f = ap (λ (k : ℕ). k % size) (e ∙ ap hash_of f)

-- m words from p on are those from the s-th of n words from a on
module _ (f : ℕ → Name) (ts buckets : List ℕ) (size a n : ℕ) (x : Name) (s b p m : ℕ) (o : Option ℕ) (inside : a + n ≤ length ts) (v : Covered size buckets 0 (map f (region a n ts)))
    (bucket : b ≡ bucket_of size x) (start : s ≡ seek_from (get_or buckets b 0) n) (from : p ≡ a + s) (many : m ≡ n - s) (found : o ≡ position (same x) (map f (take m (drop p ts)))) where
  count : length (map f (region a n ts)) ≡ n
  count = length-map (region a n ts) f ∙ region-length a n ts inside

  rest-found : o ≡ position (same x) (drop s (map f (region a n ts)))
  unfolding region
  rest-found =
      found ∙ ap (λ (ws : List ℕ). position (same x) (map f ws)) ((λ j. take (many j) (drop (from j) ts)) ∙ region-rest a s n ts (omega (arith, start-le (get_or buckets b 0) n)))
      ∙ ap (position (same x)) (map-drop f s (region a n ts))

  start_is : s ≡ seek_from (get_or buckets b 0) (length (map f (region a n ts)))
  start_is = start ∙ ap (seek_from (get_or buckets b 0)) (sym count)

  pub indexed-found : shifted s o ≡ position (same x) (map f (region a n ts))
  unfolding sought_from
  indexed-found =
      ap (shifted s) rest-found ∙ ap (λ (k : ℕ). shifted k (position (same x) (drop k (map f (region a n ts))))) start_is
      ∙ sought-found size buckets x (get_or buckets b 0) (map f (region a n ts)) (ap (λ (i : ℕ). get_or buckets i 0) (sym bucket)) v

  pub indexed-lt : (k : ℕ) → o ≡ some k → s + k < n
  unfolding shifted
  indexed-lt k e = let h = position-lt (same x) (map f (region a n ts)) (s + k) (sym indexed-found ∙ ap (shifted s) e) in omega (arith, count)
