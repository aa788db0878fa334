-- Expressions one after the other: what is left to emit at the loop's head gives what the whole gives.
use Prim.Native.Nat.{ℕ, zero, suc, ◌+◌, ◌-◌, ◌≤◌, ◌<◌}
use mathlib.Core.Path.{◌≡◌, refl, sym, ap, subst, ◌∙◌}
use mathlib.Core.List.{List}
use native.Mathlib.Omega.{arith}
use lib.ListN.{get_or, set}
use Rattle.std.specs.Prelude.{Option, Some, None}
use Rattle.std.proofs.lemmas.Option.{none-some}
use Rattle.definitions.specs.Bytes.{Name}
use Rattle.definitions.specs.Tables.{Emit}
use Rattle.tree_view.specs.ExprAt.{expr_at, exprs_at}
use Rattle.state.specs.Words.{word}
use Rattle.state.specs.State.{State, state_of, emit_at, Sound, Left, WithinLimits}
use Rattle.state.specs.declared.Counts.{Counts}
use Rattle.state.specs.declared.Limits.{Limits}
use Rattle.state.proofs.Emission.{at-seq, at-nothing}
use Rattle.definitions.proofs.Growth.{lengthens-exprs}
use Rattle.lower_forms.specs.Lowerable.{LowerableMany, expr_code, exprs_code}
use Rattle.lower_forms.proofs.Constants.{arm-constant}
use Rattle.lower_forms.proofs.Elements.{more-view, none-code}
use Rattle.lower_emit.specs.Nesting.{with_open}
use Rattle.lower_emit.specs.declared.emitter.Code.{Code}
use Rattle.lower_emit.specs.declared.emitter.Emitter.{Emitter}
use Rattle.lower_emit.specs.Emitting.{counts_of, limits_in, state_in, SoundIn, beside, SameAreas, EmitsTo}
use Rattle.lower_emit.proofs.Packing.{instr-plain, plain-below}
use Rattle.lower_emit.proofs.Steps.{limits-code, areas-none, areas-after, areas-code, put-left, some-is}
use Rattle.lower_names.proofs.Midway.{Midway, midway_start, midway-base, midway-next, midway_end, midway-full}
use Rattle.lower_leaves.specs.Constants.{constants_put, Constants}

-- n expressions from p on are left, in slices with the counts k; the wanted state and the end are those of the whole
pub record Left_over (d : ℕ) (t : List ℕ) (names : List Name) (c : Counts) (l : Limits) (want : State) (end : ℕ) (k : Counts) (made code tables : List ℕ) (n p : ℕ) : Type 0 where
  pub elements : LowerableMany d n t p
  pub next : (exprs_at d n t p).end ≡ end
  pub midway : Midway k t made code tables c l (exprs_code d n t names p) want

module _ {d : ℕ} {t : List ℕ} {names : List Name} {c : Counts} {l : Limits} {want : State} {end : ℕ} {k : Counts} {made code tables : List ℕ} {n p : ℕ} (R : Left_over d t names c l want end k made code tables n p) (more : 0 < n) where
  split : emit_at c.base (exprs_code d n t names p) (state_of t made code tables k)
      ≡ emit_at c.base (exprs_code d (n - 1) t names (expr_at d t p).end) (emit_at c.base (expr_code d t names p) (state_of t made code tables k))
  split =
      ap (λ (e : Emit). emit_at c.base e (state_of t made code tables k)) ((more-view d n t p more R.elements).code names)
      ∙ at-seq c.base (expr_code d t names p) (exprs_code d (n - 1) t names (expr_at d t p).end) (state_of t made code tables k) (midway-base k t made code tables c l _ _ R.midway)

  over-next : {k' : Counts} {made' code' tables' : List ℕ} → Left k' t made' code' tables' k l (emit_at k.base (expr_code d t names p) (state_of t made code tables k))
      → Left_over d t names c l want end k' made' code' tables' (n - 1) (expr_at d t p).end
  over-next {k'} {made'} {code'} {tables'} h =
      let v = more-view d n t p more R.elements in
      record {
        elements = v.rest;
        next = sym v.end ∙ R.next;
        midway = midway-next k t made code tables c l _ _ R.midway k' made' code' tables' (expr_code d t names p) (exprs_code d (n - 1) t names (expr_at d t p).end) h split;
      }

  over-full : (WithinLimits l (emit_at k.base (expr_code d t names p) (state_of t made code tables k)) → ⊥) → WithinLimits l want → ⊥
  over-full h = midway-full k t made code tables c l _ _ R.midway (expr_code d t names p) (exprs_code d (n - 1) t names (expr_at d t p).end) (lengthens-exprs names _) h split

-- at the loop's head: a is the emitter before the loop
pub record ExprsRest (d : ℕ) (t : List ℕ) (names : List Name) (a : Emitter) (n₀ p₀ : ℕ) (b : Emitter) (n p : ℕ) : Type 0 where
  pub limits : limits_in b ≡ limits_in a
  pub areas : SameAreas a b
  pub rest : Left_over d t names (counts_of a) (limits_in a) (emit_at a.code.base (exprs_code d n₀ t names p₀) (state_in t a)) (exprs_at d n₀ t p₀).end
      (counts_of b) b.tables.names.made.now b.code.words.now b.tables.entries.words.now n p

pub rest-all : {d : ℕ} {t : List ℕ} {a : Emitter} {n p : ℕ} (names : List Name) → SoundIn t a → LowerableMany d n t p → ExprsRest d t names a n p a n p
rest-all {d} {t} {a} {n} {p} names S r = record {
  limits = refl;
  areas = areas-none;
  rest = record {
    elements = r;
    next = refl;
    midway = midway_start t a.tables.names.made.now a.code.words.now a.tables.entries.words.now (counts_of a) (limits_in a) (exprs_code d n t names p) S.sound;
  };
}

module _ {d : ℕ} {t : List ℕ} {names : List Name} {a : Emitter} {n₀ p₀ : ℕ} {b : Emitter} {n p : ℕ} (R : ExprsRest d t names a n₀ p₀ b n p) where
  pub rest-sound : SoundIn t b
  rest-sound = record { sound = subst (λ (l : Limits). Sound t b.tables.names.made.now b.code.words.now b.tables.entries.words.now (counts_of b) l) (sym R.limits) R.rest.midway.sound }

  pub rest-next : {r : Option ℕ} {q : ℕ} {e : Emitter} → 0 < n → r ≡ Some q → EmitsTo r (expr_code d t names p) (expr_at d t p).end t b e → ExprsRest d t names a n₀ p₀ e (n - 1) q
  rest-next {q = q} {e = e} more z h =
      let L = (h.lowers.reaches.done q z).left in
      let g = subst (λ (l : Limits). Left (counts_of e) t e.tables.names.made.now e.code.words.now e.tables.entries.words.now (counts_of b) l (emit_at b.code.base (expr_code d t names p) (state_in t b))) R.limits L in
      subst (λ (x : ℕ). ExprsRest d t names a n₀ p₀ e (n - 1) x) (sym (h.place q z)) (record { limits = h.lowers.reaches.limits ∙ R.limits; areas = areas-after R.areas h.lowers.reaches.areas; rest = over-next R.rest more g })

  pub rest-over : {r q : Option ℕ} {m next : ℕ} {e : Emitter} → 0 < n → r ≡ None → q ≡ None → EmitsTo r (expr_code d t names p) m t b e → EmitsTo q (exprs_code d n₀ t names p₀) next t a e
  rest-over more z y h = record {
    place = λ k e. absurd (none-some k (sym y ∙ e));
    lowers = record {
      reaches = record {
        done = λ k e. absurd (none-some k (sym y ∙ e));
        full = λ e. over-full R.rest more (λ w. h.lowers.reaches.full z (subst (λ (l : Limits). WithinLimits l (emit_at b.code.base (expr_code d t names p) (state_in t b))) (sym R.limits) w));
        limits = h.lowers.reaches.limits ∙ R.limits;
        areas = areas-after R.areas h.lowers.reaches.areas;
      };
    };
  }

  pub rest-done : n ≤ 0 → EmitsTo (Some p) (exprs_code d n₀ t names p₀) (exprs_at d n₀ t p₀).end t a b
  rest-done h =
      let z = none-code d n t names p h R.rest.elements in
      record {
        place = λ k e. sym (some-is e) ∙ sym z.1 ∙ R.rest.next;
        lowers = record {
          reaches = record {
            done = λ k e. record {
              left = midway_end (counts_of b) t b.tables.names.made.now b.code.words.now b.tables.entries.words.now (counts_of a) (limits_in a) _ _ R.rest.midway
                  (ap (λ (x : Emit). emit_at a.code.base x (state_in t b)) z.0 ∙ at-nothing a.code.base (state_in t b));
            };
            full = λ e. absurd (none-some p (sym e));
            limits = R.limits;
            areas = R.areas;
          };
        };
      }

  -- a run of constants
  module _ {r : ℕ} {c : Code} (C : Constants r n t p b.code c) where
    abbrev o : ℕ
    o = b.code.open

    abbrev At : ℕ → Type 0
    At i = Left_over d t names (counts_of a) (limits_in a) (emit_at a.code.base (exprs_code d n₀ t names p₀) (state_in t a)) (exprs_at d n₀ t p₀).end
        (with_open (o + i) (counts_of b)) b.tables.names.made.now (constants_put b.code.words.now o t p i) b.tables.entries.words.now (n - i) (p + i)

    first : At 0
    unfolding constants_put
    first =
        let x : o ≡ o + 0 = omega arith in
        let y : n ≡ n - 0 = omega arith in
        let z : p ≡ p + 0 = omega arith in
        subst (λ (w : Type 0). w)
        (λ j. Left_over d t names (counts_of a) (limits_in a) (emit_at a.code.base (exprs_code d n₀ t names p₀) (state_in t a)) (exprs_at d n₀ t p₀).end
        (with_open (x j) (counts_of b)) b.tables.names.made.now b.code.words.now b.tables.entries.words.now (y j) (z j)) R.rest

    grows : (i : ℕ) → i < r → At i → At (suc i)
    unfolding constants_put
    grows i h G =
        let kind = get_or t (p + i) 0 in
        let few : 0 < n - i = omega (arith, C.run.few) in
        let low : kind < 3 = C.run.small i h in
        let w = word (5 - kind) 0 0 in
        let k = with_open (o + i) (counts_of b) in
        let ws = constants_put b.code.words.now o t p i in
        let m = arm-constant d t (p + i) (more-view d (n - i) t (p + i) few G.elements).head kind refl low in
        let same : limits_in b ≡ limits_in a = R.limits in
        let room : o + i + b.code.done < (limits_in a).instructions = omega (arith, ap (λ (l : Limits). l.instructions) same, C.run.inside) in
        let L = put-left t b.tables.names.made.now ws b.tables.entries.words.now w _ k (limits_in a) G.midway.sound
        (instr-plain t (5 - kind) 0 0 (plain-below (5 - kind) 0 0 (omega arith) (omega arith) (omega arith) (omega arith))) room in
        let made = b.tables.names.made.now in
        let es = b.tables.entries.words.now in
        let P = λ (x : Emit). Left (with_open (o + i + 1) (counts_of b)) t made (set ws (o + i) w) es k (limits_in a) (emit_at k.base x (state_of t made ws es k)) in
        let N = over-next G few (subst P (sym (m.code names)) L) in
        let x : o + i + 1 ≡ o + suc i = omega arith in
        let y : n - i - 1 ≡ n - suc i = omega arith in
        let z : (expr_at d t (p + i)).end ≡ p + suc i = m.end ∙ omega arith in
        subst (λ (w : Type 0). w)
        (λ j. Left_over d t names (counts_of a) (limits_in a) (emit_at a.code.base (exprs_code d n₀ t names p₀) (state_in t a)) (exprs_at d n₀ t p₀).end
        (with_open (x j) (counts_of b)) b.tables.names.made.now (set ws (o + i) w) b.tables.entries.words.now (y j) (z j)) N

    all : (i : ℕ) → i ≤ r → At i
    all zero h = first
    all (suc i) h = grows i (omega arith) (all i (omega arith))

    after : with_open (o + r) (counts_of b) ≡ counts_of (beside c b.tables)
    after = λ i. record {
      symbols = b.tables.names.symbols.count;
      strings = b.tables.strings.count;
      functions = b.tables.functions.count;
      classes = b.tables.classes.count;
      methods = b.tables.methods;
      constants = b.tables.constants;
      made = b.tables.names.made_len;
      base = sym C.kept.base i;
      «open» = sym C.size i;
      done = sym C.kept.done i;
    }

    pub rest-constants : ExprsRest d t names a n₀ p₀ (beside c b.tables) (n - r) (p + r)
    rest-constants = record {
      limits = limits-code b.tables C.kept ∙ R.limits;
      areas = areas-after R.areas (areas-code b.tables C.kept);
      rest = subst (λ (w : Type 0). w)
          (λ j. Left_over d t names (counts_of a) (limits_in a) (emit_at a.code.base (exprs_code d n₀ t names p₀) (state_in t a)) (exprs_at d n₀ t p₀).end
          (after j) b.tables.names.made.now (sym C.run.words j) b.tables.entries.words.now (n - r) (p + r)) (all r (omega arith));
    }

-- the answer for n expressions from p on, with the count and the position by other words
pub many_by : (d : ℕ) {n m : ℕ} (t : List ℕ) (names : List Name) {p q : ℕ} {r : Option ℕ} {a b : Emitter} → n ≡ m → p ≡ q
    → EmitsTo r (exprs_code d n t names p) (exprs_at d n t p).end t a b → EmitsTo r (exprs_code d m t names q) (exprs_at d m t q).end t a b
many_by d t names {r = r} {a = a} {b = b} e f h = subst (λ (z : Type 0). z) (λ i. EmitsTo r (exprs_code d (e i) t names (f i)) (exprs_at d (e i) t (f i)).end t a b) h
