-- A function that begins once its name has a number.
use Prim.Native.Nat.{ℕ, ◌<◌}
use mathlib.Core.Path.{◌≡◌, refl, sym, ap, subst, ◌∙◌}
use mathlib.Core.List.{List, [], ◌∷◌}
use native.Mathlib.Omega.{arith}
use lib.ListN.{length}
use Rattle.std.specs.Prelude.{Option, Some, None}
use Rattle.std.proofs.lemmas.Option.{none-some}
use Rattle.definitions.specs.Bytes.{Name}
use Rattle.definitions.specs.Tables.{coded}
use Rattle.state.specs.State.{State, Sound, WithinLimits, Left, symbol_number}
use Rattle.state.specs.declared.Limits.{Limits}
use Rattle.state.proofs.Answers.{paced-more}
use Rattle.state.proofs.Enclosing.{symbol-functions}
use Rattle.state.proofs.Views.{stack-length, symbols-length}
use Rattle.state.proofs.Within.{within-tables}
use Rattle.lower_emit.specs.Nesting.{begun_with}
use Rattle.lower_emit.specs.declared.emitter.Used.{Used}
use Rattle.lower_emit.specs.declared.emitter.Names.{Names}
use Rattle.lower_emit.specs.declared.emitter.Entries.{Entries}
use Rattle.lower_emit.specs.declared.emitter.Emitter.{Emitter}
use Rattle.lower_emit.specs.Emitting.{counts_of, limits_in, state_in, SoundIn, beside, new_names, new_functions, NumbersIn, BeginsIn}
use Rattle.lower_emit.proofs.Answering.{open_after}
use Rattle.lower_emit.proofs.Steps.{sound-next, areas-after}
use Rattle.lower_names.specs.Naming.{symbol_named}
use Rattle.lower_names.proofs.Numbering.{symbol-there}

-- the limits with other names and functions in an emitter
pub limits-begun : (e : Emitter) (n : Names) (g : Used 256) (b : Entries) → n.symbols.limit ≡ e.tables.names.symbols.limit → g.limit ≡ e.tables.functions.limit
    → limits_in (beside e.code (new_functions g b (new_names n b e.tables))) ≡ limits_in e
limits-begun e n g b h k = λ i. record { functions = k i; symbols = h i; strings = e.tables.strings.limit; classes = e.tables.classes.limit; instructions = e.code.limit }

within-begun_with : {l : Limits} (k arity n : ℕ) (s : State) → WithinLimits l (begun_with k arity n s) → WithinLimits l s
unfolding begun_with
within-begun_with k arity n s w =
    within-tables s _ (record { new = coded k arity n [] ∷ []; functions = refl; symbols = omega arith; strings = omega arith; classes = omega arith }) w

module _ {tree : List ℕ} {a b : Emitter} {i : Option ℕ} (x : Name) (S : SoundIn tree a) (h : NumbersIn i (symbol_number x (state_in tree a).tables) tree a b (symbol_named x (state_in tree a))) where
  -- no room for the name
  pub named-none : {r : Option ℕ} (n arity locals : ℕ) → i ≡ None → r ≡ None → BeginsIn r n tree a b (begun_with (symbol_number x (state_in tree a).tables) arity locals (symbol_named x (state_in tree a)))
  named-none n arity locals z e = record {
    is = λ m q. absurd (none-some m (sym e ∙ q));
    done = λ m q. absurd (none-some m (sym e ∙ q));
    more = λ m q. absurd (none-some m (sym e ∙ q));
    full = λ q w. h.reaches.full z (within-begun_with _ _ _ _ w);
    limits = h.reaches.limits;
    areas = h.reaches.areas;
  }

  module _ {j : ℕ} (z : i ≡ Some j) where
    pub named-sound : SoundIn tree b
    named-sound = sound-next z h.reaches

    got : Left (counts_of b) tree b.tables.names.made.now b.code.words.now b.tables.entries.words.now (counts_of a) (limits_in a) (symbol_named x (state_in tree a))
    got = (h.reaches.done j z).left

    -- the number is one of the symbols
    pub named-below : j < b.tables.names.symbols.count
    named-below =
        let n = symbols-length tree b.tables.names.made.now b.code.words.now b.tables.entries.words.now (counts_of b) (limits_in b) named-sound.sound in
        let e = ap (λ (u : State). length u.tables.symbols) got.state in
        let k = symbol-there x (state_in tree a).tables in
        omega (arith, h.is j z)

    same-open : b.code.open ≡ a.code.open
    same-open =
        open_after tree b.tables.names.made.now b.code.words.now b.tables.entries.words.now (counts_of a) (counts_of b) (limits_in a) (symbol_named x (state_in tree a)) got
        ∙ stack-length tree a.tables.names.made.now a.code.words.now a.tables.entries.words.now (counts_of a) (limits_in a) S.sound

    pub named-begins : {r : Option ℕ} {c : Emitter} (arity locals : ℕ) → BeginsIn r (length (state_in tree b).tables.functions) tree b c (begun_with j arity locals (state_in tree b))
        → BeginsIn r (length (state_in tree a).tables.functions) tree a c (begun_with (symbol_number x (state_in tree a).tables) arity locals (symbol_named x (state_in tree a)))
    named-begins {r} {c} arity locals g =
        let begun-is : begun_with j arity locals (state_in tree b) ≡ begun_with (symbol_number x (state_in tree a).tables) arity locals (symbol_named x (state_in tree a)) = λ k. begun_with (h.is j z k) arity locals (got.state k) in
        record {
          is = λ n e. g.is n e ∙ ap (λ (u : State). length u.tables.functions) got.state ∙ ap length (symbol-functions x (state_in tree a).tables);
          done = λ n e.
              let m = (g.done n e).moved in
              record {
                moved = record {
                  state = m.state ∙ begun-is;
                  base = m.base ∙ same-open;
                  paced = paced-more got.paced m.paced;
                  sound = subst (λ (l : Limits). Sound tree c.tables.names.made.now c.code.words.now c.tables.entries.words.now (counts_of c) l) h.reaches.limits m.sound;
                };
              };
          more = λ n e. omega (arith, g.more n e, got.paced.methods);
          full = λ e w. g.full e (subst (λ (z : Type 0). z) (λ k. WithinLimits (sym h.reaches.limits k) (sym begun-is k)) w);
          limits = g.limits ∙ h.reaches.limits;
          areas = areas-after h.reaches.areas g.areas;
        }
