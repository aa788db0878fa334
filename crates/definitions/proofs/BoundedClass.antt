-- Classes in bounds are lowered to what is in bounds.
use mathlib.Core.Path.{◌≡◌, refl, ap, ◌∙◌, subst}
use mathlib.Core.Bool.{true}
use mathlib.Core.Option.{Option, none, some}
use mathlib.Core.List.{List, ◌∷◌, ◌++◌, []}
use Prim.Native.Nat.{ℕ, zero, suc, ◌+◌, ◌≤◌, ◌<◌}
use native.Mathlib.Omega.{arith}
use lib.ListN.{length, length-set, set}
use Rattle.definitions.specs.Bytes.{Name, position, same}
use Rattle.definitions.specs.Tree.{Attribute, class, Methods}
use Rattle.definitions.specs.Wellformed.{is_name}
use Rattle.definitions.specs.Slots.{Keeping}
use Rattle.definitions.specs.Tables.{Function, Method, Class, Tables, Out, with_classes, add_symbol, add_constant, intern}
use Rattle.definitions.specs.Lower.{begin_class, class_object, end_class, class_out, emit_stmt, emit_methods}
use Rattle.definitions.specs.Reader.{rising}
use Rattle.definitions.specs.Open.{all_instruction}
use Rattle.definitions.proofs.Every.{Every, no_every, every, every_append, every_set, length-snoc}
use Rattle.definitions.proofs.Names.{name-short}
use Rattle.definitions.proofs.Resolve.{position-lt}
use Rattle.definitions.proofs.Bounds.{Lean, Named, Small, Trim, burden, members, names, single}
use Rattle.definitions.proofs.LongerTables.{Longer, Sizes, longer-more, longer-same, tight-up, named-up, ordered-up, constants-up}
use Rattle.definitions.proofs.BoundedPart.{Fits, Kept}
use Rattle.definitions.proofs.BoundedNames.{symbol-longer, symbol-trim}
use Rattle.definitions.proofs.BoundedMethods.{FitsMethods}

members-append : (cs : List Class) (c : Class) → members (cs ++ (c ∷ [])) ≡ members cs + names c.methods
members-append [] c = omega arith
members-append (d ∷ cs) c = omega (arith, members-append cs c)

members-set : (cs : List Class) (i : ℕ) (c : Class) → members (set cs i c) ≤ members cs + names c.methods
members-set [] i c = omega arith
members-set (d ∷ cs) zero c = omega arith
members-set (d ∷ cs) (suc i) c = omega (arith, members-set cs i c)

-- ---- the end of a class

module _ (x : Name) (c : ℕ) (ms : List Method) (p : ℕ) (t : Tables) where
  closed : Tables
  closed = with_classes (set t.classes c (record { name = x; methods = ms })) t

  closed-sizes : Sizes t closed
  unfolding closed
  closed-sizes = omega (arith, length-set t.classes c (record { name = x; methods = ms }))

  closed-trim : is_name x ≡ true → Every (Named t) ms → rising ms ≡ true → Trim t → Trim closed
  unfolding closed
  closed-trim h a b T = record {
    symbols = T.symbols;
    strings = T.strings;
    functions = tight-up closed-sizes T.functions;
    classes = every_set c _ (record { named = h; methods = named-up closed-sizes a; rises = b }) (ordered-up closed-sizes T.classes);
    constants = constants-up closed-sizes T.constants;
  }

  record Ended (s : ℕ) (o : Out) : Type 0 where
    new : o.tables.functions ≡ t.functions
    sizes : Sizes t o.tables
    constants : length o.tables.constants ≡ suc (length t.constants)
    classes : length o.tables.classes ≡ length t.classes
    weight : burden o.tables ≤ burden t + names ms
    keeps : is_name x ≡ true → Every (Named t) ms → rising ms ≡ true → Trim t → Kept s o

  -- the object of the class becomes a constant
  object-sizes : (u : Tables) → Sizes u (add_constant c u)
  object-sizes u = omega (arith, length-snoc u.constants c)

  object-kept : (s k : ℕ) (u : Tables) → c < length u.classes → k < length u.symbols → Trim u → Kept s (class_object c k p u)
  unfolding class_object all_instruction
  object-kept s k u h l T =
      let z = object-sizes u in
      record {
        trim = record {
          symbols = T.symbols;
          strings = T.strings;
          functions = tight-up z T.functions;
          classes = ordered-up z T.classes;
          constants = every_append (constants-up z T.constants) (every (record { class = h }) no_every);
        };
        code = every (single {op = 6} {a = length u.constants} refl (omega (arith, length-snoc u.constants c))) (every (single {op = 12} {a = k} refl l) no_every);
      }

  end-class : (s : ℕ) → c < length t.classes → Ended s (end_class x c ms p t)
  unfolding end_class intern class_object closed
  end-class s l = go (position (same x) t.symbols) (position-lt (same x) t.symbols)
    where
      go : (o : Option ℕ) → ((j : ℕ) → o ≡ some j → j < length t.symbols) → Ended s (elim o as (λ z. Out) [ some k ↦ class_object c k p closed | none ↦ class_object c (length closed.symbols) p (add_symbol x closed) ])
      go (some k) f = record {
        new = refl;
        sizes = omega (arith, closed-sizes, object-sizes closed);
        constants = length-snoc t.constants c;
        classes = length-set t.classes c _;
        weight = omega (arith, members-set t.classes c (record { name = x; methods = ms }));
        keeps = λ h a b T. object-kept s k closed (omega (arith, closed-sizes)) (f k refl) (closed-trim h a b T);
      }
      go none f = record {
        new = refl;
        sizes = omega (arith, closed-sizes, (symbol-longer x closed).sizes, object-sizes (add_symbol x closed));
        constants = length-snoc t.constants c;
        classes = length-set t.classes c _;
        weight = omega (arith, members-set t.classes c (record { name = x; methods = ms }));
        keeps = λ h a b T. object-kept s (length t.symbols) (add_symbol x closed) (omega (arith, closed-sizes)) (omega (arith, length-snoc t.symbols x)) (symbol-trim x closed (name-short x h) (closed-trim h a b T));
      }

-- ---- its beginning

begin-longer : (x : Name) (t : Tables) → Longer t (begin_class x t)
unfolding begin_class
begin-longer x t = let z = length-snoc t.classes (record { name = x; methods = [] }) in longer-same refl (omega arith) (omega arith)

begin-trim : (x : Name) (t : Tables) → is_name x ≡ true → Trim t → Trim (begin_class x t)
unfolding begin_class rising
begin-trim x t h T =
    let z = (begin-longer x t).sizes in
    record {
      symbols = T.symbols;
      strings = T.strings;
      functions = tight-up z T.functions;
      classes = every_append (ordered-up z T.classes) (every (record { named = h; methods = no_every; rises = refl }) no_every);
      constants = constants-up z T.constants;
    }

begin-weight : (x : Name) (t : Tables) → burden (begin_class x t) ≡ burden t
unfolding begin_class
begin-weight x t = omega (arith, members-append t.classes (record { name = x; methods = [] }))

begin-count : (x : Name) (t : Tables) → (length (begin_class x t).classes ≡ suc (length t.classes)) × ((begin_class x t).constants ≡ t.constants) × ((begin_class x t).functions ≡ t.functions)
unfolding begin_class
begin-count x t = (length-snoc t.classes _, refl, refl)

pub fits-class : {m n : ℕ} {b : Tables} (s : ℕ) (slots : List Name) (keep : Keeping) (x : Name) (ms : Methods) (vs : List Attribute) → is_name x ≡ true → m ≤ n → FitsMethods m b ms → Fits n s b (emit_stmt slots keep (class x ms vs))
unfolding emit_stmt class_out rising
fits-class s slots keep x ms vs h k M = record {
  at = λ p t v.
      let c = length t.classes in
      let u = begin_class x t in
      let o = emit_methods ms [] u in
      let B = begin-count x t in
      let N = M.at [] u (longer-more v (begin-longer x t)) in
      let E = end-class x c o.methods p o.tables s (omega (arith, B.0, N.longer.sizes.classes)) in
      record {
        longer = record {
          sizes = omega (arith, (begin-longer x t).sizes, N.longer.sizes, E.sizes);
          new = N.longer.new;
          functions = E.new ∙ N.longer.functions ∙ ap (λ (fs : List Function). fs ++ N.longer.new) B.2;
          balance = omega (arith, N.longer.balance, E.constants, E.classes, B.0, ap length B.1);
        };
        weight = omega (arith, N.weight, E.weight, begin-weight x t);
        keeps = λ z r.
            let S : Small o.tables 0 = record { place = omega arith; count = omega (arith, z.count, ap length E.new); lean = subst (λ (fs : List Function). Every Lean fs) E.new z.lean } in
            let K = N.keeps S (begin-trim x t h r) no_every refl in
            let L = E.keeps h K.named K.rises K.trim in
            record { trim = L.trim; code = L.code };
      };
}
