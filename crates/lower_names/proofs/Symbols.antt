-- A symbol's number, by the laws of the state.
use Prim.Native.Nat.{ℕ, ◌+◌, ◌*◌, ◌-◌, ◌%◌, ◌<◌, ◌≤◌}
use mathlib.Core.Path.{◌≡◌, refl, sym, ap, subst, ◌∙◌}
use mathlib.Core.List.{List, map}
use mathlib.Core.Option as definitions
use mathlib.Core.Option.{none, some}
use native.Mathlib.Omega.{arith}
use native.Mathlib.Nat.{le_refl, zero-add}
use lib.ListN.{length, get_or, set, take, drop, length-set}
use Rattle.std.specs.Prelude.{Option, Some, None}
use Rattle.std.proofs.lemmas.Option.{none-some}
use Rattle.definitions.specs.Bytes.{Name, same, position}
use Rattle.state.specs.Index.{hash_of, bucket_of, noted, seek_from, Covered}
use Rattle.state.specs.Words.{region}
use Rattle.state.specs.State.{State, state_of, Sound, Left, WithinLimits, Every, MadeWithin, SymbolIndex, symbol_index_from, symbol_buckets, spelled, found_or, symbol_number}
use Rattle.state.specs.declared.Counts.{Counts}
use Rattle.state.specs.Answered.{At, Over}
use Rattle.state.proofs.Answers.{numbers-at, numbers-over}
use Rattle.state.proofs.Regions.{set_here, set_below, set-above, spelled_same, made-within-same, every_map}
use Rattle.names.specs.Made.{NameStands}
use Rattle.names.specs.Sought.{place_in, shifted}
use Rattle.names.proofs.TableIndex.{bucket-is, indexed-found, indexed-lt}
use Rattle.lower_emit.specs.declared.emitter.Code.{Code}
use Rattle.lower_emit.specs.declared.emitter.Used.{Used}
use Rattle.lower_emit.specs.declared.emitter.Names.{Names}
use Rattle.lower_emit.specs.declared.emitter.Entries.{Entries}
use Rattle.lower_emit.specs.declared.emitter.Tables.{Tables}
use Rattle.lower_emit.specs.declared.emitter.Emitter.{Emitter}
use Rattle.lower_emit.specs.Emitting.{counts_of, limits_in, state_in, SoundIn, beside, new_names, SameAreas, NumbersIn}
use Rattle.lower_emit.proofs.Steps.{some-is, areas-none, areas-after}
use Rattle.lower_names.specs.declared.Sought.{Sought}
use Rattle.lower_names.specs.Naming.{Naming, SeeksSymbol, Interns, InternsMade, symbol_named}
use Rattle.lower_names.proofs.MadeNames.{made-sound, made-state, made-spelled}
use Rattle.lower_names.proofs.Numbering.{one_symbol, Renewed, intern-old, intern-over, intern-new}

pub naming-sound : {tree : List ℕ} {e : Emitter} → SoundIn tree e → Naming tree e.tables.names e.tables.entries
naming-sound S = record { size = S.sound.symbols; made-count = S.sound.made-count; names = S.sound.names; symbol-index = S.sound.symbol-index }

-- ---- an answer of a step of the tables

module _ {tree : List ℕ} {a b : Emitter} {number : ℕ} {want : State} (m : limits_in b ≡ limits_in a) (k : SameAreas a b) where
  pub numbers-some : {i : ℕ} → (i ≡ number) × Left (counts_of b) tree b.tables.names.made.now b.code.words.now b.tables.entries.words.now (counts_of a) (limits_in a) want → NumbersIn (Some i) number tree a b want
  numbers-some {i} h = record {
    is = λ n e. sym (some-is e) ∙ h.0;
    reaches = record { done = λ n e. record { left = h.1 }; full = λ e. absurd (none-some i (sym e)); limits = m; areas = k };
  }

  pub numbers-none : (WithinLimits (limits_in a) want → ⊥) → NumbersIn None number tree a b want
  numbers-none h = record {
    is = λ n e. absurd (none-some n e);
    reaches = record { done = λ n e. absurd (none-some n e); full = λ e. h; limits = m; areas = k };
  }

-- what the tables and their counts are after a step that changes entries and counts
pub record Renews (zs : List ℕ) (k : Counts → Counts) (a b : Tables) : Type 0 where
  pub made : b.names.made.now ≡ a.names.made.now
  pub entries : b.entries.words.now ≡ zs
  pub counts : (code : Code) → counts_of (beside code b) ≡ k (counts_of (beside code a))
  pub limits : (code : Code) → limits_in (beside code b) ≡ limits_in (beside code a)
  pub areas : (code : Code) → SameAreas (beside code a) (beside code b)

module _ {zs tree : List ℕ} {k : Counts → Counts} {a b : Tables} (R : Renews zs k a b) (code : Code) where
  pub left-renewed : {want : State} → Left (k (counts_of (beside code a))) tree a.names.made.now code.words.now zs (counts_of (beside code a)) (limits_in (beside code a)) want
      → Left (counts_of (beside code b)) tree b.names.made.now code.words.now b.entries.words.now (counts_of (beside code a)) (limits_in (beside code a)) want
  left-renewed {want} h = subst (λ (z : Type 0). z) (λ i. Left (sym (R.counts code) i) tree (sym R.made i) code.words.now (sym R.entries i) (counts_of (beside code a)) (limits_in (beside code a)) want) h

-- a word at p, before an index, and its bucket noted by the number that was read in the index before
pub renewed-noted : (a size p w n b first : ℕ) (x : Name) (ts : List ℕ) → p < a → b ≡ bucket_of size x → b < size → first ≡ seek_from (get_or (region a size ts) b 0) n
    → Renewed a size (set ts p w) (set (set ts p w) (a + b) (first + 1)) (noted (region a size (set ts p w)) (bucket_of size x) n)
unfolding noted
renewed-noted a size p w n b first x ts h bucket inside start =
    let xs = set ts p w in
    let r : region a size ts ≡ region a size xs = sym (set-above a size p w ts h) in
    let v : first + 1 ≡ seek_from (get_or (region a size xs) (bucket_of size x) 0) n + 1 = ap (λ (y : ℕ). y + 1) (start ∙ (λ i. seek_from (get_or (r i) (bucket i) 0) n)) in
    record {
      size = length-set xs (a + b) (first + 1);
      here = set_here a size b (first + 1) xs inside ∙ (λ i. set (region a size xs) (bucket i) (v i));
      below = λ c k g. set_below c k (a + b) (first + 1) xs (omega arith);
      above = λ c k g. set-above c k (a + b) (first + 1) xs (omega arith);
    }

-- ---- a symbol

-- what the code finds from the first number on
module _ (tree : List ℕ) {name : List ℕ} (n : Names) (e : Entries) (w : ℕ) {h first : ℕ} (o : definitions.Option ℕ) (N : Naming tree n e) (is : name ≡ spelled tree n.made.now w)
    (hashed : h ≡ hash_of name)
    (start : first ≡ seek_from (get_or (region symbol_index_from symbol_buckets e.words.now) (h % symbol_buckets) 0) n.symbols.count)
    (found : o ≡ position (same name) (map (spelled tree n.made.now) (take (n.symbols.count - first) (drop first e.words.now)))) where
  pub symbol-lt : (r : ℕ) → o ≡ some r → first + r < n.symbols.count
  symbol-lt = indexed-lt (spelled tree n.made.now) e.words.now (region symbol_index_from symbol_buckets e.words.now) symbol_buckets 0 n.symbols.count name first (h % symbol_buckets) first (n.symbols.count - first) o
      (omega (arith, e.room, N.size, n.symbols.most)) N.symbol-index (bucket-is symbol_buckets name name h hashed refl) start (sym (zero-add first)) refl found

  symbol-found : shifted first o ≡ position (same (spelled tree n.made.now w)) (map (spelled tree n.made.now) (region 0 n.symbols.count e.words.now))
  symbol-found =
      indexed-found (spelled tree n.made.now) e.words.now (region symbol_index_from symbol_buckets e.words.now) symbol_buckets 0 n.symbols.count name first (h % symbol_buckets) first (n.symbols.count - first) o
      (omega (arith, e.room, N.size, n.symbols.most)) N.symbol-index (bucket-is symbol_buckets name name h hashed refl) start (sym (zero-add first)) refl found
      ∙ ap (λ (y : Name). position (same y) (map (spelled tree n.made.now) (region 0 n.symbols.count e.words.now))) is

  module _ (least : first ≤ n.symbols.count) where
    pub seeks-some : (r : ℕ) → o ≡ some r → SeeksSymbol (record { bucket = h % symbol_buckets; first = first; found = Some (first + r) }) tree n e w
    unfolding shifted
    seeks-some r z = record {
      bucket = bucket-is symbol_buckets _ name h hashed is;
      small = omega arith;
      first = start;
      least = least;
      found = ap (shifted first) (sym z) ∙ symbol-found;
      below = λ i q. let y = some-is q in omega (arith, symbol-lt r z);
    }

    pub seeks-none : o ≡ none → SeeksSymbol (record { bucket = h % symbol_buckets; first = first; found = None }) tree n e w
    unfolding shifted
    seeks-none z = record {
      bucket = bucket-is symbol_buckets _ name h hashed is;
      small = omega arith;
      first = start;
      least = least;
      found = ap (shifted first) (sym z) ∙ symbol-found;
      below = λ i q. absurd (none-some i q);
    }

module _ {tree : List ℕ} {n : Names} {e : Entries} {w : ℕ} {s : Sought} (H : SeeksSymbol s tree n e w) (N : Naming tree n e) where
  abbrev name : Name
  name = spelled tree n.made.now w

  abbrev numbers : List Name
  numbers = map (spelled tree n.made.now) (region 0 n.symbols.count e.words.now)

  found-old : {i : ℕ} → s.found ≡ Some i → i ≡ found_or n.symbols.count (position (same name) numbers)
  unfolding found_or
  found-old {i} z = ap (found_or n.symbols.count) (sym (ap place_in z) ∙ H.found)

  found-new : s.found ≡ None → n.symbols.count ≡ found_or n.symbols.count (position (same name) numbers)
  unfolding found_or
  found-new z = ap (found_or n.symbols.count) (sym (ap place_in z) ∙ H.found)

  pub interns-old : {i : ℕ} → s.found ≡ Some i → Interns (Some i) tree n n e e w
  interns-old {i} z = record {
    below = λ m q. let y = some-is q in omega (arith, H.below i z, N.size, n.symbols.most);
    tables = λ ts. record {
      numbers = λ code S.
          let c = counts_of (beside code (new_names n e ts)) in
          let l = limits_in (beside code (new_names n e ts)) in
          numbers-some refl areas-none (numbers-at tree n.made.now code.words.now e.words.now c l _ _ (At i c) i c refl (intern-old tree n.made.now code.words.now e.words.now c l S.sound w i (found-old z) (H.below i z)));
    };
    made = refl;
    limit = refl;
    area = refl;
    entries = refl;
  }

  pub interns-over : s.found ≡ None → n.symbols.limit ≤ n.symbols.count → Interns None tree n n e e w
  interns-over z full = record {
    below = λ m q. absurd (none-some m q);
    tables = λ ts. record {
      numbers = λ code S.
          let c = counts_of (beside code (new_names n e ts)) in
          let l = limits_in (beside code (new_names n e ts)) in
          numbers-none refl areas-none (numbers-over tree n.made.now code.words.now e.words.now c l _ _ Over refl (intern-over tree n.made.now code.words.now e.words.now c l S.sound w n.symbols.count (found-new z) (le_refl _) full));
    };
    made = refl;
    limit = refl;
    area = refl;
    entries = refl;
  }

  pub interns-new : {m : Names} {d : Entries} (grow : ℕ) → s.found ≡ None → n.symbols.count < n.symbols.limit → grow ≤ 20 → MadeWithin n.made.now (n.made_len + grow) w → m.made.now ≡ n.made.now → m.symbols.limit ≡ n.symbols.limit
      → m.made.ghost_name ≡ n.made.ghost_name → d.words.ghost_name ≡ e.words.ghost_name
      → ((ts : Tables) → Renews (set (set e.words.now n.symbols.count w) (symbol_index_from + s.bucket) (s.first + 1)) (one_symbol grow) (new_names n e ts) (new_names m d ts)) → Interns (Some n.symbols.count) tree n m e d w
  interns-new {m} {d} grow z room small within same limit area entries R = record {
    below = λ i q. let y = some-is q in omega (arith, n.symbols.most);
    tables = λ ts. record {
      numbers = λ code S.
          let c = counts_of (beside code (new_names n e ts)) in
          let l = limits_in (beside code (new_names n e ts)) in
          let k = n.symbols.count in
          let zs = set (set e.words.now k w) (symbol_index_from + s.bucket) (s.first + 1) in
          let r = renewed-noted symbol_index_from symbol_buckets k w k s.bucket s.first name e.words.now (omega (arith, N.size, n.symbols.most)) H.bucket H.small H.first in
          let h = numbers-at tree n.made.now code.words.now zs c l _ _ (At k (one_symbol grow c)) k (one_symbol grow c) refl
          (intern-new tree n.made.now code.words.now e.words.now c l S.sound w k zs r room grow small within (found-new z) (le_refl _)) in
          numbers-some ((R ts).limits code) ((R ts).areas code) (h.0, left-renewed (R ts) code h.1);
    };
    made = same;
    limit = limit;
    area = area;
    entries = entries;
  }

-- ---- a made name

-- the made names are others; the name x stands at their end
pub record Makes (x : Name) (m n : Names) : Type 0 where
  pub stands : NameStands x m.made_len m.made.now n.made.now
  pub size : length n.made.now ≡ length m.made.now
  pub symbols : n.symbols ≡ m.symbols
  pub len : n.made_len ≡ m.made_len
  pub area : n.made.ghost_name ≡ m.made.ghost_name

pub made-within : {made made' : List ℕ} {x : Name} {at n : ℕ} → NameStands x at made made' → n ≡ at → (grow : ℕ) → grow ≡ 1 + length x → MadeWithin made' (n + grow) (32768 + at)
made-within {made} {made'} {x} {at} {n} w e grow f h =
    let g : 32768 + at - 32768 ≡ at = omega arith in
    let k = ap (λ (k : ℕ). get_or made' k 0) g in
    omega (arith, w.size)

module _ {m n : Names} {x : Name} (M : Makes x m n) where
  module _ (e : Entries) (code : Code) (ts : Tables) where
    abbrev before : Emitter
    before = beside code (new_names m e ts)

    abbrev after : Emitter
    after = beside code (new_names n e ts)

    counts-made : counts_of after ≡ counts_of before
    counts-made = λ i. record {
      symbols = (M.symbols i).count;
      strings = ts.strings.count;
      functions = ts.functions.count;
      classes = ts.classes.count;
      methods = ts.methods;
      constants = ts.constants;
      made = M.len i;
      base = code.base;
      «open» = code.open;
      done = code.done;
    }

    limits-made : limits_in after ≡ limits_in before
    limits-made = λ i. record { functions = ts.functions.limit; symbols = (M.symbols i).limit; strings = ts.strings.limit; classes = ts.classes.limit; instructions = code.limit }

    module _ {tree : List ℕ} (S : SoundIn tree before) where
      sound-made : SoundIn tree after
      sound-made = record {
        sound = subst (λ (z : Type 0). z) (λ i. Sound tree n.made.now code.words.now e.words.now (sym counts-made i) (sym limits-made i))
            (made-sound tree m.made.now n.made.now code.words.now e.words.now (counts_of before) (limits_in before) S.sound x m.made_len refl M.size M.stands);
      }

      state-made : state_in tree after ≡ state_in tree before
      state-made = (λ i. state_of tree n.made.now code.words.now e.words.now (counts-made i))
          ∙ made-state tree m.made.now n.made.now code.words.now e.words.now (counts_of before) (limits_in before) S.sound x m.made_len refl M.size M.stands

      is-made : spelled tree n.made.now (32768 + m.made_len) ≡ x
      is-made = made-spelled tree m.made.now n.made.now code.words.now e.words.now (counts_of before) (limits_in before) S.sound x m.made_len refl M.size M.stands

  pub naming-made : {tree : List ℕ} {e : Entries} → Naming tree m e → Naming tree n e
  naming-made {tree} {e} N =
      let kept = sym M.stands.before in
      record {
        size = subst (λ (k : Used 1024). k.count ≤ k.limit) (sym M.symbols) N.size;
        made-count = subst (λ (z : Type 0). z) (λ i. sym M.len i ≤ (sym M.symbols i).count * 20) N.made-count;
        names = subst (λ (z : Type 0). z) (λ i. Every (MadeWithin n.made.now (sym M.len i)) (region 0 (sym M.symbols i).count e.words.now))
            (every_map (λ k. made-within-same m.made.now n.made.now m.made_len k kept) N.names);
        symbol-index = subst (λ (z : Type 0). z) (λ i. SymbolIndex tree n.made.now e.words.now (sym M.symbols i).count)
            (subst (Covered symbol_buckets (region symbol_index_from symbol_buckets e.words.now) 0) (spelled_same tree m.made.now n.made.now m.made_len (region 0 m.symbols.count e.words.now) N.names kept) N.symbol-index);
      }

  pub interns-made : {tree : List ℕ} {d : Names} {e f : Entries} {r : Option ℕ} → Interns r tree n d e f (32768 + m.made_len) → InternsMade r x tree m d e f
  interns-made {tree} {d} {e} {f} {r} H = record {
    below = H.below;
    limit = H.limit ∙ ap (λ (k : Used 1024). k.limit) M.symbols;
    area = H.area ∙ M.area;
    entries = H.entries;
    tables = λ ts. record {
      numbers = λ code S.
          let h = (H.tables ts).numbers code (sound-made e code ts S) in
          let u = state-made e code ts S in
          let y = is-made e code ts S in
          let k = counts-made e code ts in
          let l = limits-made e code ts in
          record {
            is = λ i z. h.is i z ∙ (λ j. symbol_number (y j) (u j).tables);
            reaches = record {
              done = λ i z. record {
                left = subst (λ (z : Type 0). z) (λ j. Left (counts_of (beside code (new_names d f ts))) tree d.made.now code.words.now f.words.now (k j) (l j) (symbol_named (y j) (u j))) (h.reaches.done i z).left;
              };
              full = λ z v. h.reaches.full z (subst (λ (z : Type 0). z) (λ j. WithinLimits (sym l j) (symbol_named (sym y j) (sym u j))) v);
              limits = h.reaches.limits ∙ l;
              areas = areas-after (record { words = refl; made = M.area; entries = refl }) h.reaches.areas;
            };
          };
    };
  }

-- the number of a name by its word
pub interned : {tree : List ℕ} {e : Emitter} {n : Names} {b : Entries} {r : Option ℕ} {w : ℕ} {x : Name} → SoundIn tree e → Interns r tree e.tables.names n e.tables.entries b w → spelled tree e.tables.names.made.now w ≡ x
    → NumbersIn r (symbol_number x (state_in tree e).tables) tree e (beside e.code (new_names n b e.tables)) (symbol_named x (state_in tree e))
interned {tree} {e} {n} {b} {r} S h q = subst (λ (y : Name). NumbersIn r (symbol_number y (state_in tree e).tables) tree e (beside e.code (new_names n b e.tables)) (symbol_named y (state_in tree e))) q ((h.tables e.tables).numbers e.code S)
