-- A lambda's function begun, its body, its end, and the values it captures, by the laws of the state.
use Prim.Native.Nat.{ℕ, ◌+◌, ◌-◌, ◌<◌, ◌≤◌}
use mathlib.Core.Path.{◌≡◌, refl, sym, ap, subst, ◌∙◌}
use mathlib.Core.Option.{some}
use mathlib.Core.List.{List, []}
use native.Mathlib.Omega.{arith}
use lib.IntN.{ℤ}
use lib.ListN.{length, get_or, drop, length-drop}
use Rattle.std.specs.Prelude.{Option, Some, None}
use Rattle.std.proofs.lemmas.Option.{none-some}
use Rattle.definitions.specs.Bytes.{same, position}
use Rattle.definitions.specs.Instruction.{Return, ConstI64}
use Rattle.definitions.specs.Slots.{names_only}
use Rattle.definitions.specs.Tables.{Emit, Body, one, ◌⨟◌, function}
use Rattle.definitions.specs.Tree.{lit}
use Rattle.definitions.specs.Lower.{lambda_name, load, loads, literal}
use Rattle.definitions.proofs.Resolve.{position-lt}
use Rattle.tree_view.specs.ExprAt.{expr_at}
use Rattle.exprs.specs.Literals.{literal_of, bits_of, LiteralAt}
use Rattle.exprs.specs.declared.literals.Literal.{Literal}
use Rattle.exprs.specs.declared.literals.Literal.TheVariants.{Int}
use Rattle.tree_view.proofs.ExprViews.{expr-inside}
use Rattle.state.specs.Words.{word, name_at}
use Rattle.state.specs.State.{emit_at, Sound, Left, WithinLimits, names_at, slot_names, slots_from, Slots, symbol_number}
use Rattle.state.specs.Steps.{function_ended}
use Rattle.state.specs.declared.Limits.{Limits}
use Rattle.state.proofs.Answers.{paced-more}
use Rattle.state.proofs.Views.{function-count}
use Rattle.definitions.proofs.Growth.{Lengthens, lengthens-loads}
use Rattle.names.specs.Made.{made_name}
use Rattle.names.specs.declared.Made.TheVariants.{Lambda}
use Rattle.names.proofs.Indexing.{slots-count}
use Rattle.lower_emit.specs.Nesting.{begun_with, function_body, Moved}
use Rattle.lower_emit.specs.declared.emitter.Code.{Code}
use Rattle.lower_emit.specs.declared.emitter.Used.{Used}
use Rattle.lower_emit.specs.declared.emitter.Names.{Names}
use Rattle.lower_emit.specs.declared.emitter.Entries.{Entries}
use Rattle.lower_emit.specs.declared.emitter.Tables.{Tables}
use Rattle.lower_emit.specs.declared.emitter.Emitter.{Emitter}
use Rattle.lower_emit.specs.Emitting.{counts_of, limits_in, state_in, SoundIn, beside, innermost, new_names, new_functions, new_entries, LowersIn, CodeKept, NumbersIn, BeginsIn, Puts, Writes, Heads}
use Rattle.lower_emit.proofs.Packing.{instr-plain, plain-above, plain-below}
use Rattle.lower_emit.proofs.Steps.{limits-code, areas-after, areas-code, code-none, code-after, put-lifts, sound-next, lowers-state}
use Rattle.lower_emit.proofs.Functions.{begun-lifts, ended-lifts, head-begun, innermost-as, begins-stopped, code-ended}
use Rattle.lower_names.specs.Naming.{InternsMade, symbol_named}
use Rattle.lower_names.proofs.Beginnings.{limits-begun, named-none, named-sound, named-below, named-begins}
use Rattle.lower_names.proofs.Midway.{Midway, midway_start, midway-base, midway-next, midway_end, midway-full}
use Rattle.lower_names.proofs.Naming.{loads-more, loads-end}
use Rattle.lower_leaves.specs.Closures.{BeginsLambda, StartsLambda, EndsLambda, EndsFunction}
use Rattle.lower_leaves.proofs.LambdaState.{lambda-name, end_known, end_empty, function-within, body-within, function-base, function-known, function-empty, function-state, last-within, slot-load}
use Rattle.lower_leaves.proofs.LiteralForms.{int_is}

-- ---- the beginning

module _ {t : List ℕ} {m n : Names} {f : Used 256} {a b : Entries} {i : Option ℕ} (arity locals : ℕ) (h : InternsMade i (made_name (Lambda f.count)) t m n a b) where
  interned : (code : Code) (ts : Tables) → SoundIn t (beside code (new_functions f a (new_names m a ts)))
      → NumbersIn i (symbol_number (lambda_name f.count) (state_in t (beside code (new_functions f a (new_names m a ts)))).tables) t (beside code (new_functions f a (new_names m a ts)))
      (beside code (new_functions f b (new_names n b ts))) (symbol_named (lambda_name f.count) (state_in t (beside code (new_functions f a (new_names m a ts)))))
  interned code ts S = ((subst (λ x. InternsMade i x t m n a b) (lambda-name f.count) h).tables (new_functions f a (new_names m a ts))).numbers code S

  pub begins-none : {r : Option ℕ} → i ≡ None → r ≡ None → BeginsLambda r arity locals t m n f f a b
  begins-none z e = record {
    below = λ k q. absurd (none-some k (sym e ∙ q));
    tables = λ ts. record { begins = λ code S. begins-stopped e e refl (record { words = refl; made = refl; entries = refl }) (named-none (lambda_name f.count) S (interned code ts S) f.count arity locals z e) };
    symbols = h.limit;
    limit = refl;
    area = h.area;
    entries = h.entries;
  }

  pub begins-lambda : {j : ℕ} {r : Option ℕ} {g : Used 256} {d : Entries} → i ≡ Some j → arity < 256 → locals < 256 → Heads r j arity locals f g b d → BeginsLambda r arity locals t m n f g a d
  begins-lambda {j} {r} {g} {d} z x y H = record {
    below = λ k q. omega (arith, H.number k q, H.room k q, f.most);
    tables = λ ts. record {
      begins = λ code S.
          let e = beside code (new_functions f a (new_names m a ts)) in
          let N = interned code ts S in
          let k = function-count t m.made.now code.words.now a.words.now (counts_of e) (limits_in e) S.sound in
          let want = begun_with (symbol_number (lambda_name f.count) (state_in t e).tables) arity locals (symbol_named (lambda_name f.count) (state_in t e)) in
          subst (λ (l : ℕ). BeginsIn r l t e (beside (innermost code) (new_functions g d (new_names n d ts))) want) k
          (named-begins (lambda_name f.count) S N z arity locals (begun-lifts (named-sound (lambda_name f.count) S N z) (named-below (lambda_name f.count) S N z) x y (head-begun code (new_names n b ts) H)));
    };
    symbols = h.limit;
    limit = H.limit;
    area = h.area;
    entries = H.area ∙ h.entries;
  }

-- in an emitter
module _ {t : List ℕ} {e : Emitter} {n : Names} {g : Used 256} {b : Entries} {r : Option ℕ} {arity locals : ℕ} (h : BeginsLambda r arity locals t e.tables.names n e.tables.functions g e.tables.entries b) where
  pub starts-none : {q : Option ℕ} → r ≡ None → q ≡ None → StartsLambda q arity locals t e (beside e.code (new_functions g b (new_names n b e.tables)))
  starts-none z y = record {
    below = λ i q. absurd (none-some i (sym y ∙ q));
    begins = λ S. begins-stopped z y refl (record { words = refl; made = refl; entries = refl }) ((h.tables e.tables).begins e.code S);
    words = refl;
    limits = limits-begun e n g b h.symbols h.limit;
    areas = record { words = refl; made = h.area; entries = h.entries };
  }

  starts : StartsLambda r arity locals t e (beside (innermost e.code) (new_functions g b (new_names n b e.tables)))
  starts = record { below = h.below; begins = λ S. (h.tables e.tables).begins e.code S; words = refl; limits = limits-begun e n g b h.symbols h.limit; areas = record { words = refl; made = h.area; entries = h.entries } }

  pub starts-lambda : {i : ℕ} {room : 16384 ≤ length e.code.words.now} {most : e.code.limit ≤ 8192} {size : e.code.open + e.code.done ≤ e.code.limit} → r ≡ Some i
      → StartsLambda (Some i) arity locals t e (beside (record { words = e.code.words; base = e.code.open; «open» = e.code.open; done = e.code.done; limit = e.code.limit; code_room = room; code_limit = most; code_size = size })
      (new_functions g b (new_names n b e.tables)))
  starts-lambda {room = room} {most = most} {size = size} z = subst (λ (z : Type 0). z) (λ k. StartsLambda (z k) arity locals t e (beside (innermost-as e.code room most size k) (new_functions g b (new_names n b e.tables)))) starts

-- so many slots as come after the index
pub begins-count : {tree : List ℕ} {a b : Emitter} {r : Option ℕ} {arity : ℕ} (slots : List ℕ) → StartsLambda r arity (length slots - slots_from) tree a b → StartsLambda r arity (length (drop slots_from slots)) tree a b
begins-count {tree} {a} {b} {r} {arity} slots h = subst (λ (n : ℕ). StartsLambda r arity n tree a b) (sym (length-drop slots_from slots)) h

-- ---- the end

-- beside the other tables
pub ends-in : {A : Type 0} {r : Option A} {f n : ℕ} {c d : Code} {a b : Entries} (ts : Tables) → EndsLambda r f n c d a b → EndsFunction r f n (beside c (new_entries a ts)) (beside d (new_entries b ts))
ends-in ts h = record {
  last = h.last;
  puts = h.puts;
  ends = λ x z. code-ended ts (h.finishes x z) (h.codes x z);
  limits = λ i. record { functions = ts.functions.limit; symbols = ts.names.symbols.limit; strings = ts.strings.limit; classes = ts.classes.limit; instructions = h.limit i };
  areas = record { words = h.area; made = refl; entries = h.entries };
}

module _ {tree : List ℕ} {a c : Emitter} {f n : ℕ} {A : Type 0} {r : Option A} (S : SoundIn tree a) (x : EndsFunction r f n a c) where
  returned : LowersIn r (one Return) tree a (beside x.last a.tables)
  returned = put-lifts S refl (instr-plain tree 33 0 0 (plain-above 33 0 0 (omega arith) (omega arith) (omega arith) (omega arith))) x.puts

  pub return-over : r ≡ None → WithinLimits (limits_in a) (emit_at a.code.base (one Return) (state_in tree a)) → ⊥
  return-over z = returned.reaches.full z

  module _ {y : A} (z : r ≡ Some y) (known : f < a.tables.functions.count) (empty : function_body (state_in tree a).tables.functions f ≡ []) (around : n ≤ a.code.base) where
    pub return-ended : Moved n (counts_of c) tree c.tables.names.made.now c.code.words.now c.tables.entries.words.now (counts_of a) (limits_in a) (function_ended a.code.base f (emit_at a.code.base (one Return) (state_in tree a)))
    return-ended =
        let b = beside x.last a.tables in
        let g = (returned.reaches.done y z).left in
        let k = end_known tree a.tables.names.made.now a.code.words.now a.tables.entries.words.now b.code.words.now (counts_of a) (counts_of b) (limits_in a) f g S.sound known in
        let e = end_empty tree a.tables.names.made.now a.code.words.now a.tables.entries.words.now b.code.words.now (counts_of a) (counts_of b) (limits_in a) f g empty in
        let m = (ended-lifts (sound-next z returned.reaches) k e (omega (arith, g.base)) (x.ends y z)).moved in
        record {
          state = m.state ∙ (λ i. function_ended (g.base i) f (g.state i));
          base = m.base;
          paced = paced-more g.paced m.paced;
          sound = subst (λ (l : Limits). Sound tree c.tables.names.made.now c.code.words.now c.tables.entries.words.now (counts_of c) l) returned.reaches.limits m.sound;
        }

-- ---- a whole function

module _ {t : List ℕ} {a b : Emitter} {f : Option ℕ} {arity : ℕ} (S : SoundIn t a) (inner : List ℕ) (e : Emit) (E : Lengthens e) (body : Body) (B : StartsLambda f arity (length inner) t a b) where
  abbrev whole : Emit
  whole = function (lambda_name a.tables.functions.count) arity (names_only (names_at t inner)) body (e ⨟ one Return)

  pub function-full : {A : Type 0} {q : Option A} → f ≡ None → q ≡ None → LowersIn q whole t a b
  function-full z n = record {
    reaches = record {
      done = λ y g. absurd (none-some y (sym n ∙ g));
      full = λ g w. (B.begins S).full z (function-within t a.tables.names.made.now a.code.words.now a.tables.entries.words.now (counts_of a) (limits_in a) S.sound arity inner e E body w);
      limits = (B.begins S).limits;
      areas = (B.begins S).areas;
    };
  }

  module _ {i : ℕ} (z : f ≡ Some i) where
    begun : (i ≡ a.tables.functions.count) × Moved a.code.open (counts_of b) t b.tables.names.made.now b.code.words.now b.tables.entries.words.now (counts_of a) (limits_in a)
        (begun_with (symbol_number (lambda_name a.tables.functions.count) (state_in t a).tables) arity (length inner) (symbol_named (lambda_name a.tables.functions.count) (state_in t a)))
    begun = ((B.begins S).is i z, ((B.begins S).done i z).moved)

    pub function-sound : SoundIn t b
    function-sound = record {
      sound = subst (λ (l : Limits). Sound t b.tables.names.made.now b.code.words.now b.tables.entries.words.now (counts_of b) l) (sym (B.begins S).limits) begun.1.sound;
    }

    module _ {A : Type 0} {r : Option A} {m : Emitter} (h : LowersIn r e t b m) where
      pub function-body : {C : Type 0} {q : Option C} → r ≡ None → q ≡ None → LowersIn q whole t a m
      function-body y n = record {
        reaches = record {
          done = λ u g. absurd (none-some u (sym n ∙ g));
          full = λ g w.
              let v = body-within t a.tables.names.made.now a.code.words.now a.tables.entries.words.now (counts_of a) (limits_in a) S.sound arity inner e E body b.tables.names.made.now b.code.words.now b.tables.entries.words.now i
              (counts_of b) begun w in
              h.reaches.full y (subst (λ (l : Limits). WithinLimits l (emit_at b.code.base e (state_in t b))) (sym (B.begins S).limits) v);
          limits = h.reaches.limits ∙ (B.begins S).limits;
          areas = areas-after (B.begins S).areas h.reaches.areas;
        };
      }

      module _ {y : A} (w : r ≡ Some y) where
        left_body : Left (counts_of m) t m.tables.names.made.now m.code.words.now m.tables.entries.words.now (counts_of b) (limits_in a) (emit_at b.code.base e (state_in t b))
        left_body =
            subst (λ (l : Limits). Left (counts_of m) t m.tables.names.made.now m.code.words.now m.tables.entries.words.now (counts_of b) l (emit_at b.code.base e (state_in t b))) (B.begins S).limits (h.reaches.done y w).left

        pub function-end : {C : Type 0} {q : Option C} {c : Emitter} → EndsFunction q i a.code.base m c → LowersIn q whole t a c
        function-end {q = q} {c = c} x =
            let g = left_body in
            let Sm = sound-next w h.reaches in
            let same = h.reaches.limits ∙ (B.begins S).limits in
            let known = function-known t a.tables.names.made.now a.code.words.now a.tables.entries.words.now (counts_of a) (limits_in a) S.sound arity inner e E body b.tables.names.made.now b.code.words.now b.tables.entries.words.now i
            (counts_of b) begun m.tables.names.made.now m.code.words.now m.tables.entries.words.now (counts_of m) g in
            let empty = function-empty t a.tables.names.made.now a.code.words.now a.tables.entries.words.now (counts_of a) (limits_in a) S.sound arity inner e E body b.tables.names.made.now b.code.words.now b.tables.entries.words.now i
            (counts_of b) begun m.tables.names.made.now m.code.words.now m.tables.entries.words.now (counts_of m) g in
            let around = function-base t a.tables.names.made.now a.code.words.now a.tables.entries.words.now (counts_of a) (limits_in a) S.sound arity inner e E body b.tables.names.made.now b.code.words.now b.tables.entries.words.now i
            (counts_of b) begun m.tables.names.made.now m.code.words.now m.tables.entries.words.now (counts_of m) g in
            let state = function-state t a.tables.names.made.now a.code.words.now a.tables.entries.words.now (counts_of a) (limits_in a) S.sound arity inner e E body b.tables.names.made.now b.code.words.now b.tables.entries.words.now i
            (counts_of b) begun m.tables.names.made.now m.code.words.now m.tables.entries.words.now (counts_of m) g in
            record {
              reaches = record {
                done = λ u p.
                    let k = return-ended Sm x p known empty around in
                    record {
                      left = record {
                        state = k.state ∙ state;
                        base = k.base;
                        paced = paced-more begun.1.paced (paced-more g.paced k.paced);
                        sound = subst (λ (l : Limits). Sound t c.tables.names.made.now c.code.words.now c.tables.entries.words.now (counts_of c) l) same k.sound;
                      };
                    };
                full = λ p v.
                    let u = last-within t a.tables.names.made.now a.code.words.now a.tables.entries.words.now (counts_of a) (limits_in a) S.sound arity inner e E body b.tables.names.made.now b.code.words.now b.tables.entries.words.now i
                    (counts_of b) begun m.tables.names.made.now m.code.words.now m.tables.entries.words.now (counts_of m) g v in
                    return-over Sm x p (subst (λ (l : Limits). WithinLimits l (emit_at m.code.base (one Return) (state_in t m))) (sym same) u);
                limits = x.limits ∙ same;
                areas = areas-after (areas-after (B.begins S).areas h.reaches.areas) x.areas;
              };
            }

-- ---- captured values

-- i of the captured values are loaded
pub record Loading (t slots captured : List ℕ) (a b : Code) (i : ℕ) : Type 0 where
  pub inside : i ≤ length captured
  pub kept : CodeKept a b
  pub midway : (tree : List ℕ) (ts : Tables) → SoundIn tree (beside a ts)
      → Midway (counts_of (beside b ts)) tree ts.names.made.now b.words.now ts.entries.words.now (counts_of (beside a ts)) (limits_in (beside a ts)) (loads (slot_names t slots) (names_at t (drop i captured)))
      (emit_at a.base (loads (slot_names t slots) (names_at t captured)) (state_in tree (beside a ts)))

pub loading-start : {t slots captured : List ℕ} {a : Code} → Loading t slots captured a a 0
loading-start {t} {slots} {captured} {a} = record {
  inside = omega arith;
  kept = code-none;
  midway = λ tree ts S. midway_start tree ts.names.made.now a.words.now ts.entries.words.now (counts_of (beside a ts)) (limits_in (beside a ts)) (loads (slot_names t slots) (names_at t captured)) S.sound;
}

module _ {t slots captured : List ℕ} {a b : Code} {i : ℕ} (G : Loading t slots captured a b i) where
  abbrev all : Emit
  all = loads (slot_names t slots) (names_at t captured)

  pub loading-done : {A : Type 0} {x : A} → length captured ≤ i → Writes (Some x) all a b
  loading-done {x = x} h = record {
    lowers = λ tree ts S. record {
      reaches = record {
        done = λ y q. record {
          left = midway_end (counts_of (beside b ts)) tree ts.names.made.now b.words.now ts.entries.words.now (counts_of (beside a ts)) (limits_in (beside a ts)) _ _ (G.midway tree ts S)
              (loads-end a.base (slot_names t slots) t captured (state_in tree (beside b ts)) i h);
        };
        full = λ q. absurd (none-some x (sym q));
        limits = limits-code ts G.kept;
        areas = areas-code ts G.kept;
      };
    };
    kept = G.kept;
  }

  module _ {s : ℕ} (more : i < length captured) (Z : Slots t slots) (slot : some s ≡ position (same (name_at t (get_or captured i 0))) (slot_names t slots)) where
    pub slot_small : s < 65536
    slot_small = let b = position-lt _ (slot_names t slots) s (sym slot) in let z = slots-count t slots Z in omega (arith, b, z.0, z.1)

    here : (tree : List ℕ) (ts : Tables) → SoundIn tree (beside a ts) → SoundIn tree (beside b ts)
    here tree ts S = record {
      sound = subst (λ (l : Limits). Sound tree ts.names.made.now b.words.now ts.entries.words.now (counts_of (beside b ts)) l) (sym (limits-code ts G.kept)) (G.midway tree ts S).sound;
    }

    abbrev load_one : Emit
    load_one = load (slot_names t slots) (name_at t (get_or captured i 0))

    one-load : {A : Type 0} {r : Option A} {c : Code} → Puts r (word 9 s 0) b c → (tree : List ℕ) (ts : Tables) → SoundIn tree (beside a ts) → LowersIn r load_one tree (beside b ts) (beside c ts)
    one-load h tree ts S =
        lowers-state (put-lifts (here tree ts S) refl (instr-plain tree 9 s 0 (plain-below 9 s 0 (omega arith) (omega arith) slot_small (omega arith))) h)
        (sym (slot-load b.base t (drop slots_from slots) (name_at t (get_or captured i 0)) s (state_in tree (beside b ts)) slot))

    abbrev rest : Emit
    rest = loads (slot_names t slots) (names_at t (drop (i + 1) captured))

    split : (tree : List ℕ) (ts : Tables) → SoundIn tree (beside a ts) → emit_at a.base (loads (slot_names t slots) (names_at t (drop i captured))) (state_in tree (beside b ts))
        ≡ emit_at a.base rest (emit_at a.base load_one (state_in tree (beside b ts)))
    split tree ts S =
        loads-more a.base (slot_names t slots) t captured (state_in tree (beside b ts)) i more
        (midway-base (counts_of (beside b ts)) tree ts.names.made.now b.words.now ts.entries.words.now (counts_of (beside a ts)) (limits_in (beside a ts)) _ _ (G.midway tree ts S))

    kept-after : {A : Type 0} {r : Option A} {c : Code} → Puts r (word 9 s 0) b c → CodeKept a c
    kept-after h = code-after G.kept h.kept

    pub loading-next : {A : Type 0} {r : Option A} {x : A} {c : Code} → r ≡ Some x → Puts r (word 9 s 0) b c → Loading t slots captured a c (i + 1)
    loading-next {x = x} {c = c} z h = record {
      inside = omega arith;
      kept = kept-after h;
      midway = λ tree ts S.
          let g = ((one-load h tree ts S).reaches.done x z).left in
          let g' = subst (λ (l : Limits). Left (counts_of (beside c ts)) tree ts.names.made.now c.words.now ts.entries.words.now (counts_of (beside b ts)) l (emit_at b.base load_one (state_in tree (beside b ts))))
          (limits-code ts G.kept) g in
          midway-next (counts_of (beside b ts)) tree ts.names.made.now b.words.now ts.entries.words.now (counts_of (beside a ts)) (limits_in (beside a ts)) _ _ (G.midway tree ts S)
          (counts_of (beside c ts)) ts.names.made.now c.words.now ts.entries.words.now load_one rest g' (split tree ts S);
    }

    pub loading-over : {A B : Type 0} {r : Option A} {q : Option B} {c : Code} → r ≡ None → q ≡ None → Puts r (word 9 s 0) b c → Writes q all a c
    loading-over {c = c} z n h = record {
      lowers = λ tree ts S. record {
        reaches = record {
          done = λ y e. absurd (none-some y (sym n ∙ e));
          full = λ e v.
              midway-full (counts_of (beside b ts)) tree ts.names.made.now b.words.now ts.entries.words.now (counts_of (beside a ts)) (limits_in (beside a ts)) _ _ (G.midway tree ts S) load_one rest (lengthens-loads _ _)
              (λ w. (one-load h tree ts S).reaches.full z (subst (λ (l : Limits). WithinLimits l (emit_at b.base load_one (state_in tree (beside b ts)))) (sym (limits-code ts G.kept)) w)) (split tree ts S) v;
          limits = limits-code ts (kept-after h);
          areas = areas-code ts (kept-after h);
        };
      };
      kept = kept-after h;
    }

-- ---- literals

-- a literal's place
pub inside-place : {t : List ℕ} {p : ℕ} → LiteralAt t p → length t ≤ 32768 → p + 1 < 65536
inside-place {t} {p} h s = omega (arith, expr-inside 1 t p h.reads)

-- an integer that its word holds
pub small_is : (t : List ℕ) (p : ℕ) (x : Literal) (z : ℤ) (b : ℕ) → LiteralAt t p → lit (literal_of t x) ≡ (expr_at 1 t p).value → x ≡ Int z → b ≡ bits_of x
    → (literal (literal_of t x) ≡ one (ConstI64 b)) × ((expr_at 1 t p).end ≡ p + 9)
unfolding literal_of literal bits_of
small_is t p x z b h e w c =
    (ap (λ (y : Literal). literal (literal_of t y)) w ∙ ap (λ (n : ℕ). one (ConstI64 n)) (sym (c ∙ ap bits_of w)), (int_is t p x h e z w).1)
