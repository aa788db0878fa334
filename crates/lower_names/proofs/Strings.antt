-- A string's number, by the laws of the state.
use Prim.Native.Nat.{ℕ, ◌+◌, ◌-◌, ◌%◌, ◌<◌, ◌≤◌}
use mathlib.Core.Path.{◌≡◌, refl, sym, ap, ◌∙◌}
use mathlib.Core.List.{List, map}
use mathlib.Core.Option as definitions
use mathlib.Core.Option.{none, some}
use native.Mathlib.Omega.{arith}
use native.Mathlib.Nat.{le_refl}
use lib.ListN.{get_or, set, take, drop}
use Rattle.std.specs.Prelude.{Some, None}
use Rattle.std.proofs.lemmas.Option.{none-some}
use Rattle.definitions.specs.Bytes.{Text, same, position}
use Rattle.state.specs.Index.{hash_of, seek_from}
use Rattle.state.specs.Words.{region, text_at}
use Rattle.state.specs.State.{strings_from, string_index_from, string_buckets, found_or}
use Rattle.state.specs.Answered.{At, Over}
use Rattle.state.proofs.Answers.{numbers-at, numbers-over}
use Rattle.names.specs.Sought.{place_in, shifted}
use Rattle.names.proofs.TableIndex.{bucket-is, indexed-found, indexed-lt}
use Rattle.lower_emit.specs.declared.emitter.Used.{Used}
use Rattle.lower_emit.specs.declared.emitter.Entries.{Entries}
use Rattle.lower_emit.specs.declared.emitter.Tables.{Tables}
use Rattle.lower_emit.specs.Emitting.{counts_of, limits_in, beside, new_strings}
use Rattle.lower_emit.proofs.Steps.{some-is, areas-none}
use Rattle.lower_names.specs.declared.Sought.{Sought}
use Rattle.lower_names.specs.Naming.{Texts, SeeksText, AddsText}
use Rattle.lower_names.proofs.Numbering.{one_string, text-old, text-over, text-new}
use Rattle.lower_names.proofs.Symbols.{numbers-some, numbers-none, Renews, left-renewed, renewed-noted}

-- what the code finds from the first number on
module _ (tree : List ℕ) {text : List ℕ} (n : Used 512) (e : Entries) (p : ℕ) {h first : ℕ} (o : definitions.Option ℕ) (N : Texts tree n e) (is : text ≡ text_at tree p) (hashed : h ≡ hash_of text)
    (start : first ≡ seek_from (get_or (region string_index_from string_buckets e.words.now) (h % string_buckets) 0) n.count)
    (found : o ≡ position (same text) (map (text_at tree) (take (strings_from + n.count - (strings_from + first)) (drop (strings_from + first) e.words.now)))) where
  pub text-lt : (r : ℕ) → o ≡ some r → first + r < n.count
  text-lt = indexed-lt (text_at tree) e.words.now (region string_index_from string_buckets e.words.now) string_buckets strings_from n.count text first (h % string_buckets) (strings_from + first)
      (strings_from + n.count - (strings_from + first)) o
      (omega (arith, e.room, N.size, n.most)) N.string-index (bucket-is string_buckets text text h hashed refl) start refl (omega arith) found

  text-found : shifted first o ≡ position (same (text_at tree p)) (map (text_at tree) (region strings_from n.count e.words.now))
  text-found =
      indexed-found (text_at tree) e.words.now (region string_index_from string_buckets e.words.now) string_buckets strings_from n.count text first (h % string_buckets) (strings_from + first)
      (strings_from + n.count - (strings_from + first)) o
      (omega (arith, e.room, N.size, n.most)) N.string-index (bucket-is string_buckets text text h hashed refl) start refl (omega arith) found
      ∙ ap (λ (y : Text). position (same y) (map (text_at tree) (region strings_from n.count e.words.now))) is

  module _ (least : first ≤ n.count) where
    pub seeks-some : (r : ℕ) → o ≡ some r → SeeksText (record { bucket = h % string_buckets; first = first; found = Some (first + r) }) tree n e p
    unfolding shifted
    seeks-some r z = record {
      bucket = bucket-is string_buckets _ text h hashed is;
      small = omega arith;
      first = start;
      least = least;
      found = ap (shifted first) (sym z) ∙ text-found;
      below = λ i q. let y = some-is q in omega (arith, text-lt r z);
    }

    pub seeks-none : o ≡ none → SeeksText (record { bucket = h % string_buckets; first = first; found = None }) tree n e p
    unfolding shifted
    seeks-none z = record {
      bucket = bucket-is string_buckets _ text h hashed is;
      small = omega arith;
      first = start;
      least = least;
      found = ap (shifted first) (sym z) ∙ text-found;
      below = λ i q. absurd (none-some i q);
    }

module _ {tree : List ℕ} {n : Used 512} {e : Entries} {p : ℕ} {s : Sought} (H : SeeksText s tree n e p) (N : Texts tree n e) where
  abbrev texts : List Text
  texts = map (text_at tree) (region strings_from n.count e.words.now)

  found-old : {i : ℕ} → s.found ≡ Some i → i ≡ found_or n.count (position (same (text_at tree p)) texts)
  unfolding found_or
  found-old {i} z = ap (found_or n.count) (sym (ap place_in z) ∙ H.found)

  found-new : s.found ≡ None → n.count ≡ found_or n.count (position (same (text_at tree p)) texts)
  unfolding found_or
  found-new z = ap (found_or n.count) (sym (ap place_in z) ∙ H.found)

  pub adds-old : {i : ℕ} → s.found ≡ Some i → AddsText (Some i) tree n n e e p
  adds-old {i} z = record {
    below = λ m q. let y = some-is q in omega (arith, H.below i z, N.size, n.most);
    tables = λ ts. record {
      numbers = λ code S.
          let c = counts_of (beside code (new_strings n e ts)) in
          let l = limits_in (beside code (new_strings n e ts)) in
          let made = ts.names.made.now in
          numbers-some refl areas-none (numbers-at tree made code.words.now e.words.now c l _ _ (At i c) i c refl (text-old tree made code.words.now e.words.now c l S.sound p i (found-old z) (H.below i z)));
    };
    limit = refl;
    entries = refl;
  }

  pub adds-over : s.found ≡ None → n.limit ≤ n.count → AddsText None tree n n e e p
  adds-over z full = record {
    below = λ m q. absurd (none-some m q);
    tables = λ ts. record {
      numbers = λ code S.
          let c = counts_of (beside code (new_strings n e ts)) in
          let l = limits_in (beside code (new_strings n e ts)) in
          let made = ts.names.made.now in
          numbers-none refl areas-none (numbers-over tree made code.words.now e.words.now c l _ _ Over refl (text-over tree made code.words.now e.words.now c l S.sound p n.count (found-new z) (le_refl _) full));
    };
    limit = refl;
    entries = refl;
  }

  pub adds-new : {m : Used 512} {d : Entries} → s.found ≡ None → n.count < n.limit → m.limit ≡ n.limit → d.words.ghost_name ≡ e.words.ghost_name
      → ((ts : Tables) → Renews (set (set e.words.now (strings_from + n.count) p) (string_index_from + s.bucket) (s.first + 1)) one_string (new_strings n e ts) (new_strings m d ts)) → AddsText (Some n.count) tree n m e d p
  adds-new {m} {d} z room limit entries R = record {
    below = λ i q. let y = some-is q in omega (arith, n.most);
    tables = λ ts. record {
      numbers = λ code S.
          let c = counts_of (beside code (new_strings n e ts)) in
          let l = limits_in (beside code (new_strings n e ts)) in
          let made = ts.names.made.now in
          let zs = set (set e.words.now (strings_from + n.count) p) (string_index_from + s.bucket) (s.first + 1) in
          let r = renewed-noted string_index_from string_buckets (strings_from + n.count) p n.count s.bucket s.first (text_at tree p) e.words.now (omega (arith, N.size, n.most)) H.bucket H.small H.first in
          let h = numbers-at tree made code.words.now zs c l _ _ (At n.count (one_string c)) n.count (one_string c) refl
          (text-new tree made code.words.now e.words.now c l S.sound p n.count zs r room (found-new z) (le_refl _)) in
          numbers-some ((R ts).limits code) ((R ts).areas code) (h.0, left-renewed (R ts) code h.1);
    };
    limit = limit;
    entries = entries;
  }
