-- Functions begun under their names, classes begun and ended, constants: by the laws of the state.
use Prim.Native.Nat.{ℕ, ◌+◌, ◌*◌, ◌<◌, ◌≤◌}
use mathlib.Core.Path.{◌≡◌, refl, sym, subst, ◌∙◌}
use mathlib.Core.List.{List, map}
use native.Mathlib.Omega.{arith}
use lib.ListN.{length, set}
use lib.Seq.{paste, take_all}
use Rattle.std.specs.Prelude.{Option, Some, None}
use Rattle.std.proofs.lemmas.Option.{none-some}
use Rattle.definitions.specs.Tables.{with_classes}
use Rattle.names.proofs.Spelling.{spelled-tree}
use Rattle.state.specs.Words.{name_at}
use Rattle.state.specs.State.{State, method_from, symbol_number, with_tables, class_names_from, class_methods_from, methods_from, constants_from}
use Rattle.state.specs.declared.Counts.{Counts}
use Rattle.state.specs.Answered.{At, Over}
use Rattle.state.proofs.Answers.{numbers-at, numbers-over}
use Rattle.lower_emit.specs.Nesting.{with_methods, with_constants, CountedAs}
use Rattle.lower_emit.specs.declared.emitter.Code.{Code}
use Rattle.lower_emit.specs.declared.emitter.Used.{Used}
use Rattle.lower_emit.specs.declared.emitter.Names.{Names}
use Rattle.lower_emit.specs.declared.emitter.Entries.{Entries}
use Rattle.lower_emit.specs.declared.emitter.Tables.{Tables}
use Rattle.lower_emit.specs.declared.emitter.Emitter.{Emitter}
use Rattle.lower_emit.specs.Emitting.{counts_of, limits_in, state_in, SoundIn, beside, innermost, new_names, new_functions, new_classes, new_methods, NumbersIn, Heads}
use Rattle.lower_emit.proofs.ClassTables.{one_class, class-begun, class-over, constant-added, class-ended}
use Rattle.lower_emit.proofs.Steps.{areas-none}
use Rattle.lower_emit.proofs.Functions.{begun-lifts, head-begun, innermost-as, begins-stopped}
use Rattle.lower_names.specs.Naming.{Interns, symbol_named}
use Rattle.lower_names.proofs.Symbols.{Renews, left-renewed, numbers-some, numbers-none, interned}
use Rattle.lower_names.proofs.Beginnings.{limits-begun, named-none, named-sound, named-below, named-begins}
use Rattle.lower_classes.specs.Classes.{BeginsClass, CountedIn, EndsClass, AddsConstant, BeginsNamed, StartsNamed}

-- ---- classes

module _ {m : Used 64} {a : Entries} (at : ℕ) where
  pub begins-class-over : m.limit ≤ m.count → BeginsClass None at m m a a
  begins-class-over h = record {
    tables = λ ts. record {
      numbers = λ t code S.
          let c = counts_of (beside code (new_classes m a ts)) in
          let l = limits_in (beside code (new_classes m a ts)) in
          let n = length (state_in t (beside code (new_classes m a ts))).tables.classes in
          let made = ts.names.made.now in
          numbers-none refl areas-none (numbers-over t made code.words.now a.words.now c l n _ Over refl (class-over t made code.words.now a.words.now a.words.now at n c l S.sound h));
    };
    limit = refl;
    entries = refl;
  }

  pub begins-class : {n : Used 64} {b : Entries} → m.count < m.limit → n.limit ≡ m.limit → b.words.ghost_name ≡ a.words.ghost_name
      → ((ts : Tables) → Renews (set (set a.words.now (class_names_from + m.count) at) (class_methods_from + m.count) 0) one_class (new_classes m a ts) (new_classes n b ts)) → BeginsClass (Some m.count) at m n a b
  begins-class room limit entries R = record {
    tables = λ ts. record {
      numbers = λ t code S.
          let c = counts_of (beside code (new_classes m a ts)) in
          let l = limits_in (beside code (new_classes m a ts)) in
          let made = ts.names.made.now in
          let h = numbers-at t made code.words.now _ c l _ _ (At m.count (one_class c)) m.count (one_class c) refl (class-begun t made code.words.now a.words.now at c l S.sound room) in
          numbers-some ((R ts).limits code) ((R ts).areas code) (h.0, left-renewed (R ts) code h.1);
    };
    limit = limit;
    entries = entries;
  }

-- counts and a wanted state, as a law of the state leaves them
counted-renewed : {zs t : List ℕ} {k : Counts → Counts} {a b : Tables} {want : State} (R : Renews zs k a b) (code : Code)
    → CountedAs (k (counts_of (beside code a))) (k (counts_of (beside code a))) t a.names.made.now code.words.now zs (limits_in (beside code a)) want
    → CountedIn (k (counts_of (beside code a))) t (beside code a) (beside code b) want
counted-renewed {zs} {t} {k} {a} {b} {want} R code h = record {
  counted = subst (λ (z : Type 0). z) (λ i. CountedAs (sym (R.counts code) i) (k (counts_of (beside code a))) t (sym R.made i) code.words.now (sym R.entries i) (limits_in (beside code a)) want) h;
  limits = R.limits code;
  areas = R.areas code;
}

pub ends-class : {m n : ℕ} {a b : Entries} {methods ws : List ℕ} (i at : ℕ) → ws ≡ paste a.words.now (methods_from + m) methods (length methods)
    → ((ts : Tables) → Renews (set (set ws (class_names_from + i) at) (class_methods_from + i) (m * 65536 + length methods)) (λ c. with_methods (c.methods + length methods) c) (new_methods m a ts) (new_methods n b ts))
    → EndsClass i at methods m n a b
ends-class {m} {n} {a} {b} {methods} {ws} i at e R = record {
  tables = λ ts. record {
    counted = λ t code S number fits.
        let d = beside code (new_methods m a ts) in
        let s = state_in t d in
        let h = class-ended t ts.names.made.now code.words.now a.words.now methods i at (length methods) (m * 65536 + length methods) (counts_of d) (limits_in d) S.sound number (omega arith) fits refl ws e in
        subst (λ (xs : List ℕ). CountedIn (with_methods (m + length methods) (counts_of d)) t d (beside code (new_methods n b ts))
        (with_tables (with_classes (set s.tables.classes i (record { name = name_at t at; methods = map (method_from t) xs })) s.tables) s)) (take_all (length methods) methods (omega arith)) (counted-renewed (R ts) code h);
    made = refl;
  };
}

pub adds_constant : {a b : Tables} (i : ℕ) → Renews (set a.entries.words.now (constants_from + a.constants) i) (λ c. with_constants (c.constants + 1) c) a b → AddsConstant a.constants i a b
adds_constant {a} {b} i R = record {
  number = refl;
  made = R.made;
  counted = λ t code S more. counted-renewed R code (constant-added t a.names.made.now code.words.now a.entries.words.now i (counts_of (beside code a)) (limits_in (beside code a)) S.sound more);
}

-- ---- a function's name

module _ {t : List ℕ} {m n : Names} {a b : Entries} {s : Option ℕ} {at : ℕ} (short : at < 32768) (arity locals : ℕ) (h : Interns s t m n a b at) where
  abbrev before : Used 256 → Code → Tables → Emitter
  before f code ts = beside code (new_functions f a (new_names m a ts))

  numbered : (f : Used 256) (code : Code) (ts : Tables) → SoundIn t (before f code ts)
      → NumbersIn s (symbol_number (name_at t at) (state_in t (before f code ts)).tables) t (before f code ts) (beside code (new_functions f b (new_names n b ts))) (symbol_named (name_at t at) (state_in t (before f code ts)))
  numbered f code ts S = interned S h (sym (spelled-tree t m.made.now at short))

  pub begins-none : {f : Used 256} {r : Option ℕ} → s ≡ None → r ≡ None → BeginsNamed r at arity locals t m n f f a b
  begins-none {f} z e = record {
    below = λ i q. absurd (none-some i (sym e ∙ q));
    tables = λ ts. record { begins = λ code S. begins-stopped e e refl (record { words = refl; made = refl; entries = refl }) (named-none (name_at t at) S (numbered f code ts S) _ arity locals z e) };
    made = h.made;
    symbols = h.limit;
    limit = refl;
    area = h.area;
    entries = h.entries;
  }

  pub begins-named : {j : ℕ} {r : Option ℕ} {f g : Used 256} {d : Entries} → s ≡ Some j → arity < 256 → locals < 256 → Heads r j arity locals f g b d → BeginsNamed r at arity locals t m n f g a d
  begins-named {j} {f = f} z x y H = record {
    below = λ i q. omega (arith, H.number i q, H.room i q, f.most);
    tables = λ ts. record {
      begins = λ code S.
          let N = numbered f code ts S in
          named-begins (name_at t at) S N z arity locals (begun-lifts (named-sound (name_at t at) S N z) (named-below (name_at t at) S N z) x y (head-begun code (new_names n b ts) H));
    };
    made = h.made;
    symbols = h.limit;
    limit = H.limit;
    area = h.area;
    entries = H.area ∙ h.entries;
  }

-- in an emitter
module _ {t : List ℕ} {e : Emitter} {n : Names} {g : Used 256} {b : Entries} {r : Option ℕ} {at arity locals : ℕ} (h : BeginsNamed r at arity locals t e.tables.names n e.tables.functions g e.tables.entries b) where
  pub starts-none : {q : Option ℕ} → r ≡ None → q ≡ None → StartsNamed q at arity locals t e (beside e.code (new_functions g b (new_names n b e.tables)))
  starts-none z y = record {
    below = λ i q. absurd (none-some i (sym y ∙ q));
    begins = λ S. begins-stopped z y refl (record { words = refl; made = refl; entries = refl }) ((h.tables e.tables).begins e.code S);
    made = h.made;
    words = refl;
    limits = limits-begun e n g b h.symbols h.limit;
    areas = record { words = refl; made = h.area; entries = h.entries };
  }

  starts : StartsNamed r at arity locals t e (beside (innermost e.code) (new_functions g b (new_names n b e.tables)))
  starts = record { below = h.below; begins = λ S. (h.tables e.tables).begins e.code S; made = h.made; words = refl; limits = limits-begun e n g b h.symbols h.limit; areas = record { words = refl; made = h.area; entries = h.entries } }

  pub starts-named : {i : ℕ} {room : 16384 ≤ length e.code.words.now} {most : e.code.limit ≤ 8192} {size : e.code.open + e.code.done ≤ e.code.limit} → r ≡ Some i
      → StartsNamed (Some i) at arity locals t e (beside (record { words = e.code.words; base = e.code.open; «open» = e.code.open; done = e.code.done; limit = e.code.limit; code_room = room; code_limit = most; code_size = size })
      (new_functions g b (new_names n b e.tables)))
  starts-named {room = room} {most = most} {size = size} z = subst (λ (z : Type 0). z) (λ k. StartsNamed (z k) at arity locals t e (beside (innermost-as e.code room most size k) (new_functions g b (new_names n b e.tables)))) starts
