-- Well formed names, methods and classes that are read and tested, by position. Assumes nothing.
use Prim.Native.Nat.{ℕ, zero, suc, ◌+◌, ◌-◌, ◌<◌, ◌≤◌}
use mathlib.Core.Path.{◌≡◌, refl, sym, ap, ◌∙◌, subst}
use mathlib.Core.Bool.{Bool, true, false, ◌&&◌}
use mathlib.Core.List.{List, [], ◌∷◌}
use native.Mathlib.Omega.{arith}
use lib.ListN.{length, drop}
use Rattle.definitions.specs.Bytes.{Name, give, field, counted, list_of, name, checked, all, below}
use Rattle.definitions.specs.Wellformed.{is_name}
use Rattle.definitions.specs.Tables.{Method}
use Rattle.definitions.specs.Reader.{method_record, rising, class_record}
use Rattle.reader.specs.View.{skip_at, number_at, Got}
use Rattle.reader.specs.Asks.{has_function, ask_next, ask_methods, ask_method_function, ask_class}
use Rattle.reader.specs.declared.Asked.{Asked}
use Rattle.std.specs.Prelude.{Option, Some, None}
use Rattle.reader.proofs.Taken.{skip-cut, skip-next, skip-field, got-field, got-bind, got-give}
use Rattle.reader.proofs.Checked.{Sat, sat-bind, sat-any, sat-checked, checked-next, checked-cut, checked-give, checked-same, checked-twice, pass-next, pass-fail, pass-cut, pass-end, pass-count, pass-no-count}

-- ---- methods

module _ (t : List ℕ) (q : Asked) where
  -- n methods from `at` on, after one of the name x
  unfoldable pub methods_from : Name → ℕ → ℕ → Option ℕ
  methods_from x n at = skip_at (checked (ask_methods q x) (counted [] ◌∷◌ method_record n)) t at

  pub methods-short : (at : ℕ) → at ≤ length t → length t < at + 2 → skip_at (checked (ask_methods q []) (list_of 2 method_record)) t at ≡ None
  methods-short at h l = pass-no-count method_record t (ask_methods q []) at h (omega arith)

  pub methods-begin : (at n : ℕ) → at + 2 ≤ length t → n ≡ number_at 2 t at → skip_at (checked (ask_methods q []) (list_of 2 method_record)) t at ≡ methods_from [] n (at + 2)
  unfolding methods_from
  methods-begin at n h k = pass-count method_record t (ask_methods q []) at (omega arith) ∙ sym (ap (λ (j : ℕ). skip_at (checked (ask_methods q []) (counted [] ◌∷◌ method_record j)) t (at + 2)) k)

  pub methods-end : (x : Name) (n at : ℕ) → n ≤ 0 → at ≤ length t → methods_from x n at ≡ Some at
  unfolding methods_from ask_methods
  methods-end x n at h l = pass-end method_record t (ask_methods q x) n at h l refl

  module _ (x : Name) (n p : ℕ) (h : 0 < n) where
    pub methods-cut : skip_at (checked is_name name) t p ≡ None → methods_from x n p ≡ None
    unfolding methods_from method_record
    methods-cut r = pass-cut method_record t (ask_methods q x) n p h (skip-cut (checked is_name name) _ t p r)

    module _ (y : Name) (e : ℕ) (r : Got (checked is_name name) t p y e) where
      pub methods-no-number : length t < e + 2 → methods_from x n p ≡ None
      unfolding methods_from method_record
      methods-no-number s = pass-cut method_record t (ask_methods q x) n p h
          (skip-next (checked is_name name) _ t p y e r ∙ skip-cut (field 2) _ t e (skip-field 2 t e r.to s))

      module _ (s : e + 2 ≤ length t) (f : ℕ) (k : f ≡ number_at 2 t e) where
        method-got : Got method_record t p (record { name = y; function = f }) (e + 2)
        unfolding method_record
        method-got =
            got-bind (checked is_name name) _ t p y e _ (e + 2) r
            (got-bind (field 2) _ t e f (e + 2) _ (e + 2) (subst (λ (j : ℕ). Got (field 2) t e j (e + 2)) (sym k) (got-field 2 t e s))
            (got-give (record { name = y; function = f }) t (e + 2) s))

        pub methods-next : ask_next q x y f ≡ true → methods_from x n p ≡ methods_from y (n - 1) (e + 2)
        unfolding methods_from ask_methods
        methods-next a = pass-next method_record t (ask_methods q x) (ask_methods q y) n p _ (e + 2) h method-got
            (λ ms. ap (λ (b : Bool). b && ask_methods q y ms) a)

        pub methods-fail : ask_next q x y f ≡ false → methods_from x n p ≡ None
        unfolding methods_from ask_methods
        methods-fail a = pass-fail method_record t (ask_methods q x) n p _ (e + 2) h method-got (λ ms. ap (λ (b : Bool). b && ask_methods q y ms) a)

-- ---- classes

shuffle : (b r m a : Bool) → (b && r && (m && a)) ≡ (m && (b && (r && a)))
shuffle true true true a = refl
shuffle true true false a = refl
shuffle true false true a = refl
shuffle true false false a = refl
shuffle false r true a = refl
shuffle false r false a = refl

regroup : (b m a : Bool) → (b && (m && a)) ≡ ((b && m) && a)
regroup true m a = refl
regroup false m a = refl

module _ (q : Asked) where
  rises : (m : Method) (ms : List Method) → (rising (m ∷ ms) && all (ask_method_function q) (m ∷ ms)) ≡ (ask_method_function q m && ask_methods q m.name ms)
  unfolding rising all ask_methods ask_next ask_method_function
  rises m [] = refl
  rises m (n ∷ ms) =
      shuffle (below m.name n.name) (rising (n ∷ ms)) (ask_method_function q m) (all (ask_method_function q) (n ∷ ms))
      ∙ ap (λ (b : Bool). ask_method_function q m && (below m.name n.name && b)) (rises n ms)
      ∙ ap (λ (b : Bool). ask_method_function q m && b) (regroup (below m.name n.name) (ask_method_function q n) (ask_methods q n.name ms))

  -- the first method's name is well formed
  FirstNamed : List Method → Type 0
  FirstNamed [] = Unit {0}
  FirstNamed (m ∷ ms) = is_name m.name ≡ true

  above-none : (x : Name) → is_name x ≡ true → below [] x ≡ true
  unfolding is_name below
  above-none [] e = e
  above-none (y ∷ ys) e = refl

  rises-first : (ms : List Method) → FirstNamed ms → (rising ms && all (ask_method_function q) ms) ≡ ask_methods q [] ms
  unfolding rising all ask_methods ask_next ask_method_function FirstNamed
  rises-first [] f = refl
  rises-first (m ∷ ms) f = rises m ms ∙ sym (ap (λ (b : Bool). b && has_function q m.function && ask_methods q m.name ms) (above-none m.name f))

  method-named : (bs : List ℕ) → Sat (λ (m : Method). is_name m.name ≡ true) (method_record bs)
  unfolding method_record give
  method-named bs = sat-bind (λ x. is_name x ≡ true) (λ m. is_name m.name ≡ true) (checked is_name name) _ bs (sat-checked is_name name bs)
      (λ x rest e. sat-bind (λ f. Unit {0}) (λ m. is_name m.name ≡ true) (field 2) _ rest (sat-any (field 2 rest)) (λ f r u. e))

  first-named : (n : ℕ) (bs : List ℕ) → Sat FirstNamed (counted [] ◌∷◌ method_record n bs)
  unfolding counted give FirstNamed
  first-named zero bs = tt
  first-named (suc n) bs = sat-bind (λ m. is_name m.name ≡ true) FirstNamed method_record _ bs (method-named bs)
      (λ m rest e. sat-bind (λ ms. Unit {0}) FirstNamed (counted [] ◌∷◌ method_record n) _ rest (sat-any (counted [] ◌∷◌ method_record n rest)) (λ ms r u. e))

  list-named : (bs : List ℕ) → Sat FirstNamed (list_of 2 method_record bs)
  unfolding list_of
  list-named bs = sat-bind (λ n. Unit {0}) FirstNamed (field 2) _ bs (sat-any (field 2 bs)) (λ n rest u. first-named n rest)

  module _ (t : List ℕ) (at : ℕ) where
    pub class-cut : skip_at (checked is_name name) t at ≡ None → skip_at (checked (ask_class q) class_record) t at ≡ None
    unfolding class_record
    class-cut r = checked-cut (ask_class q) (checked is_name name) _ t at r

    pub class-next : (x : Name) (m : ℕ) → Got (checked is_name name) t at x m →
        skip_at (checked (ask_class q) class_record) t at ≡ skip_at (checked (ask_methods q []) (list_of 2 method_record)) t m
    unfolding class_record ask_class
    class-next x m g =
        checked-next (ask_class q) (checked is_name name) _ t at x m g
        ∙ checked-give (ask_class q) (checked rising (list_of 2 method_record)) (λ ms. record { name = x; methods = ms }) t m
        ∙ checked-twice (λ ms. all (ask_method_function q) ms) rising (list_of 2 method_record) t m
        ∙ checked-same FirstNamed (λ ms. rising ms && all (ask_method_function q) ms) (ask_methods q []) (list_of 2 method_record) t m (list-named (drop m t)) rises-first
