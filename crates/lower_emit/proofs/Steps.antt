-- Steps of an emitter, by the laws of the state: a word, and one part after another.
use Prim.Native.Nat.{ℕ, ◌+◌, ◌<◌, ◌≤◌}
use mathlib.Core.Path.{◌≡◌, refl, sym, ap, subst, ◌∙◌}
use mathlib.Core.List.{List, []}
use lib.ListN.{set}
use Rattle.std.specs.Prelude.{Option, Some, None}
use Rattle.std.proofs.lemmas.Option.{none-some}
use Rattle.definitions.specs.Instruction.{Instr}
use Rattle.definitions.specs.Tables.{Emit, emits, one, ◌⨟◌}
use Rattle.state.specs.Words.{instr_of}
use Rattle.state.specs.State.{State, emit_at, state_of, WithinLimits, Sound, Left, Emits}
use Rattle.state.specs.declared.Counts.{Counts}
use Rattle.state.specs.declared.Limits.{Limits}
use Rattle.state.specs.Answered.{PartEmitted, Done, Full}
use Rattle.state.proofs.Answers.{emits-done, emits-full, full-emits, done-emits, left-after, left-none, left_as, base-below}
use Rattle.state.proofs.Emission.{at-seq, at-nothing}
use Rattle.definitions.proofs.Growth.{Lengthens}
use Rattle.state.proofs.Within.{within_first}
use Rattle.lower_emit.specs.Nesting.{with_open}
use Rattle.lower_emit.specs.declared.emitter.Code.{Code}
use Rattle.lower_emit.specs.declared.emitter.Tables.{Tables}
use Rattle.lower_emit.specs.declared.emitter.Emitter.{Emitter}
use Rattle.lower_emit.specs.Emitting.{counts_of, limits_in, state_in, SoundIn, beside, SameAreas, LeftIn, Reaches, LowersIn, CodeKept, Puts, Writes}
use Rattle.lower_emit.proofs.Putting.{put-more, put_full, emits-instr}

pub some-is : {m n : ℕ} → Some m ≡ Some n → m ≡ n
some-is {m} e = ap (λ (o : Option ℕ). elim o [ Some k ↦ k | None ↦ m ]) e

-- ---- the slices are those that were lent

pub areas-none : {a : Emitter} → SameAreas a a
areas-none = record { words = refl; made = refl; entries = refl }

pub areas-after : {a b c : Emitter} → SameAreas a b → SameAreas b c → SameAreas a c
areas-after h g = record { words = g.words ∙ h.words; made = g.made ∙ h.made; entries = g.entries ∙ h.entries }

pub areas-code : (ts : Tables) {a b : Code} → CodeKept a b → SameAreas (beside a ts) (beside b ts)
areas-code ts k = record { words = k.area; made = refl; entries = refl }

-- ---- all of the code but the words and how many are open

pub code-none : {a : Code} → CodeKept a a
code-none = record { base = refl; done = refl; limit = refl; area = refl }

pub code-after : {a b c : Code} → CodeKept a b → CodeKept b c → CodeKept a c
code-after h g = record { base = g.base ∙ h.base; done = g.done ∙ h.done; limit = g.limit ∙ h.limit; area = g.area ∙ h.area }

-- ---- an answer of an emitter as one of the state's laws

unfoldable pub answered : {A : Type 0} → Option A → ℕ → Counts → PartEmitted
answered None q k = Full
answered (Some x) q k = Done q k

module _ {A : Type 0} {tree : List ℕ} {a b : Emitter} {want : State} where
  pub emits-in : {r : Option A} → Reaches r tree a b want → (q : ℕ) → Emits (answered r q (counts_of b)) tree b.tables.names.made.now b.code.words.now b.tables.entries.words.now (counts_of a) (limits_in a) q want
  unfolding answered
  emits-in {r = None} h q = full-emits _ _ _ _ _ _ q want (h.full refl)
  emits-in {r = Some x} h q = done-emits _ _ _ _ _ _ q want q _ refl (h.done x refl).left

-- ---- the wanted state by other words

pub reaches_as : {A : Type 0} {r : Option A} {tree : List ℕ} {a b : Emitter} {w w' : State} → w ≡ w' → Reaches r tree a b w → Reaches r tree a b w'
reaches_as {A} {r} {tree} {a} {b} e h = subst (λ (w : State). Reaches r tree a b w) e h

-- ---- the code alone: counts and limits after it

-- the counts with other open words
counts-code : (ts : Tables) {a b : Code} {n : ℕ} → CodeKept a b → b.open ≡ n → with_open n (counts_of (beside a ts)) ≡ counts_of (beside b ts)
counts-code ts {a} {b} k e = λ i. record {
  symbols = ts.names.symbols.count;
  strings = ts.strings.count;
  functions = ts.functions.count;
  classes = ts.classes.count;
  methods = ts.methods;
  constants = ts.constants;
  made = ts.names.made_len;
  base = sym k.base i;
  «open» = sym e i;
  done = sym k.done i;
}

pub limits-code : (ts : Tables) {a b : Code} → CodeKept a b → limits_in (beside b ts) ≡ limits_in (beside a ts)
limits-code ts {a} {b} k = λ i. record {
  functions = ts.functions.limit;
  symbols = ts.names.symbols.limit;
  strings = ts.strings.limit;
  classes = ts.classes.limit;
  instructions = k.limit i;
}

-- words and open words of the code, as a law of the state leaves them
pub words-left : (ts : Tables) {a b : Code} {tree : List ℕ} {c : Counts} {l : Limits} {want : State} {words : List ℕ} {n : ℕ} → CodeKept a b → b.open ≡ n → b.words.now ≡ words
    → Left (with_open n (counts_of (beside a ts))) tree ts.names.made.now words ts.entries.words.now c l want → Left (counts_of (beside b ts)) tree ts.names.made.now b.words.now ts.entries.words.now c l want
words-left ts {a} {b} {tree} {c} {l} {want} k e w h = subst (λ (z : Type 0). z) (λ i. Left (counts-code ts k e i) tree ts.names.made.now (sym w i) ts.entries.words.now c l want) h

left-code : {a b : Code} {ts : Tables} {tree : List ℕ} {want : State} {words : List ℕ} {n : ℕ} → CodeKept a b → b.open ≡ n → b.words.now ≡ words
    → Left (with_open n (counts_of (beside a ts))) tree ts.names.made.now words ts.entries.words.now (counts_of (beside a ts)) (limits_in (beside a ts)) want → LeftIn tree (beside a ts) (beside b ts) want
left-code {ts = ts} k e w h = record { left = words-left ts k e w h }

-- ---- a word

pub put-left : (tree made code tables : List ℕ) (w : ℕ) (i : Instr) (c : Counts) (l : Limits) → Sound tree made code tables c l → instr_of tree w ≡ i → c.open + c.done < l.instructions
    → Left (with_open (c.open + 1) c) tree made (set code c.open w) tables c l (emit_at c.base (one i) (state_of tree made code tables c))
put-left tree made code tables w i c l s e h = (emits-done tree made _ tables c l 0 _ _ 0 _ refl (emits-instr _ tree made _ tables c l 0 _ w i e (put-more tree made code tables w c l s 0 h))).1

put-over : (tree made code tables : List ℕ) (w : ℕ) (i : Instr) (c : Counts) (l : Limits) → Sound tree made code tables c l → instr_of tree w ≡ i → l.instructions ≤ c.open + c.done
    → WithinLimits l (emit_at c.base (one i) (state_of tree made code tables c)) → ⊥
put-over tree made code tables w i c l s e h = emits-full tree made code tables c l 0 _ _ refl (emits-instr _ tree made code tables c l 0 _ w i e (put_full tree made code tables w c l s code 0 h))

-- the law that lifts a word to the state
put-beside : {A : Type 0} (r : Option A) {tree : List ℕ} {w : ℕ} {i : Instr} {a b : Code} {ts : Tables} → SoundIn tree (beside a ts) → instr_of tree w ≡ i → Puts r w a b → LowersIn r (one i) tree (beside a ts) (beside b ts)
put-beside r {tree} {w} {i} {a} {b} {ts} S e h = record {
  reaches = record {
    done = λ x z. left-code h.kept (h.size x z) (h.words x z) (put-left tree ts.names.made.now a.words.now ts.entries.words.now w i (counts_of (beside a ts)) (limits_in (beside a ts)) S.sound e (h.room x z));
    full = λ z. put-over tree ts.names.made.now a.words.now ts.entries.words.now w i (counts_of (beside a ts)) (limits_in (beside a ts)) S.sound e (h.full z);
    limits = limits-code ts h.kept;
    areas = areas-code ts h.kept;
  };
}

-- what holds of the code after a step beside the tables before it, where the tables are the same
by-tables : (P : Emitter → Type 0) (a b : Emitter) → b.tables ≡ a.tables → P (beside b.code a.tables) → P b
by-tables P a b e h = subst (λ (ts : Tables). P (beside b.code ts)) (sym e) h

module _ {tree : List ℕ} {a b : Emitter} (S : SoundIn tree a) (same : b.tables ≡ a.tables) where
  pub put-lifts : {A : Type 0} {r : Option A} {w : ℕ} {i : Instr} → instr_of tree w ≡ i → Puts r w a.code b.code → LowersIn r (one i) tree a b
  put-lifts {A} {r} {w} {i} e h = by-tables (λ (z : Emitter). LowersIn r (one i) tree a z) a b same (put-beside r S e h)

  pub writes-in : {A : Type 0} {r : Option A} {x : Emit} → Writes r x a.code b.code → LowersIn r x tree a b
  writes-in {A} {r} {x} h = by-tables (λ (z : Emitter). LowersIn r x tree a z) a b same (h.lowers tree a.tables S)

-- ---- one part after another

pub sound-next : {A : Type 0} {r : Option A} {x : A} {tree : List ℕ} {a b : Emitter} {want : State} → r ≡ Some x → Reaches r tree a b want → SoundIn tree b
sound-next {A} {r} {x} {tree} {a} {b} {want} z h = record {
  sound = subst (λ (l : Limits). Sound tree b.tables.names.made.now b.code.words.now b.tables.entries.words.now (counts_of b) l) (sym h.limits) (h.done x z).left.sound;
}

-- a step to a state, after one that is done
pub left-next : {tree : List ℕ} {a b c : Emitter} {w₁ w : State} → limits_in b ≡ limits_in a → LeftIn tree a b w₁ → LeftIn tree b c w → LeftIn tree a c w
left-next {tree} {a} {b} {c} {w₁} {w} e h g = record {
  left = left-after h.left (subst (λ (l : Limits). Left (counts_of c) tree c.tables.names.made.now c.code.words.now c.tables.entries.words.now (counts_of b) l w) e g.left);
}

pub reaches-after : {A B : Type 0} {r : Option A} {x : A} {r₂ : Option B} {tree : List ℕ} {a b c : Emitter} {w₁ w : State} → r ≡ Some x → Reaches r tree a b w₁ → Reaches r₂ tree b c w → Reaches r₂ tree a c w
reaches-after {x = x} {w = w} z h g = record {
  done = λ y q. left-next h.limits (h.done x z) (g.done y q);
  full = λ q v. g.full q (subst (λ (l : Limits). WithinLimits l w) (sym h.limits) v);
  limits = g.limits ∙ h.limits;
  areas = areas-after h.areas g.areas;
}

-- the same answer by other words
pub reaches-some : {A B : Type 0} {r : Option A} {x : A} {y : B} {tree : List ℕ} {a b : Emitter} {w : State} → r ≡ Some x → Reaches r tree a b w → Reaches (Some y) tree a b w
reaches-some {x = x} {y = y} z h = record { done = λ u q. h.done x z; full = λ q. absurd (none-some y (sym q)); limits = h.limits; areas = h.areas }

pub reaches-none : {A B : Type 0} {r : Option A} {q : Option B} {tree : List ℕ} {a b : Emitter} {w : State} → r ≡ None → q ≡ None → Reaches r tree a b w → Reaches q tree a b w
reaches-none z n h = record { done = λ u q. absurd (none-some u (sym n ∙ q)); full = λ q. h.full z; limits = h.limits; areas = h.areas }

module _ {A B : Type 0} {r : Option A} {tree : List ℕ} {a b : Emitter} {e : Emit} where
  pub lowers-some : {x : A} {y : B} → r ≡ Some x → LowersIn r e tree a b → LowersIn (Some y) e tree a b
  lowers-some z h = record { reaches = reaches-some z h.reaches }

  pub lowers-none : {q : Option B} → r ≡ None → q ≡ None → LowersIn r e tree a b → LowersIn q e tree a b
  lowers-none z n h = record { reaches = reaches-none z n h.reaches }

  pub lowers_then : {f : Emit} {x : A} {r₂ : Option B} {c : Emitter} → r ≡ Some x → SoundIn tree a → LowersIn r e tree a b → LowersIn r₂ f tree b c → LowersIn r₂ (e ⨟ f) tree a c
  lowers_then {f} {x} {r₂} {c} z S h g =
      let k = (h.reaches.done x z).left in
      record {
        reaches = reaches_as ((λ i. emit_at (k.base i) f (k.state i)) ∙ sym (at-seq a.code.base e f (state_in tree a)
            (base-below tree a.tables.names.made.now a.code.words.now a.tables.entries.words.now (counts_of a) (limits_in a) S.sound)))
            (reaches-after z h.reaches g.reaches);
      }

  -- the first part is over the limits
  pub lowers-stopped : {f : Emit} {q : Option B} → r ≡ None → q ≡ None → SoundIn tree a → Lengthens f → LowersIn r e tree a b → LowersIn q (e ⨟ f) tree a b
  lowers-stopped z n S g h = record {
    reaches = record {
      done = λ y q. absurd (none-some y (sym n ∙ q));
      full = λ q w. h.reaches.full z (within_first a.code.base e (state_in tree a) (base-below tree a.tables.names.made.now a.code.words.now a.tables.entries.words.now (counts_of a) (limits_in a) S.sound) g w);
      limits = h.reaches.limits;
      areas = h.reaches.areas;
    };
  }

module _ {A : Type 0} {r : Option A} {tree : List ℕ} {a b : Emitter} {e e' : Emit} where
  pub lowers-by : LowersIn r e tree a b → e' ≡ e → LowersIn r e' tree a b
  lowers-by h p = subst (λ (x : Emit). LowersIn r x tree a b) (sym p) h

  -- by the state alone
  pub lowers-state : LowersIn r e tree a b → emit_at a.code.base e' (state_in tree a) ≡ emit_at a.code.base e (state_in tree a) → LowersIn r e' tree a b
  lowers-state h p = record { reaches = reaches_as (sym p) h.reaches }

pub lowers-nothing : {A : Type 0} {x : A} {tree : List ℕ} {a : Emitter} → SoundIn tree a → LowersIn (Some x) (emits []) tree a a
lowers-nothing {A} {x} {tree} {a} S = record {
  reaches = record {
    done = λ y q. record { left = left_as (sym (at-nothing a.code.base (state_in tree a))) (left-none tree S.sound) };
    full = λ q. absurd (none-some x (sym q));
    limits = refl;
    areas = areas-none;
  };
}
