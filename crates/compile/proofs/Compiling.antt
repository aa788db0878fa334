-- The code of `__main__`, and its end: the tables of the tree.
use Prim.Native.Nat.{ℕ, ◌+◌, ◌-◌, ◌<◌}
use mathlib.Core.Path.{◌≡◌, refl, sym, ap, ◌∙◌, subst}
use mathlib.Core.Bool.{true, false}
use mathlib.Core.List.{List, [], ◌∷◌}
use native.Mathlib.Omega.{arith}
use lib.ListN.{length, length-append}
use Rattle.std.specs.Prelude.{Option, Some, None}
use Rattle.std.proofs.lemmas.Option.{none-some}
use Rattle.definitions.specs.Tree.{Block}
use Rattle.definitions.specs.Instruction.{Return}
use Rattle.definitions.specs.Slots.{in_globals, names_only}
use Rattle.definitions.specs.Tables.{Emit, block_body, begin, function}
use Rattle.definitions.specs.Lower.{compile, main, no_tables}
use Rattle.definitions.specs.Wellformed.{ask_block, block_questions}
use Rattle.tree_view.specs.Places.{Node, CountThere, count_at}
use Rattle.tree_view.specs.StmtAt.{block_at, stmts_at, TreeAt}
use Rattle.tree_view.proofs.StmtViews.{view-block}
use Rattle.state.specs.State.{State, state_of, emit_at, symbol_number, WithinLimits, Sound, Left}
use Rattle.state.specs.Steps.{begun, function_ended}
use Rattle.state.specs.declared.Counts.{Counts}
use Rattle.state.specs.declared.Limits.{Limits}
use Rattle.state.proofs.Views.{function-count}
use Rattle.state.proofs.Emission.{state-eq}
use Rattle.state.proofs.Enclosing.{symbol-functions, at-function, at-compile}
use Rattle.definitions.proofs.Growth.{Lengthened, Lengthens, functions-longer, lengthens-one, lengthens-seq, lengthens-block}
use Rattle.state.proofs.Within.{within-down, within-function}
use Rattle.lower_emit.specs.Nesting.{function_body, Moved}
use Rattle.lower_emit.specs.declared.emitter.Emitter.{Emitter}
use Rattle.lower_emit.specs.Emitting.{counts_of, limits_in, state_in, SoundIn, SameAreas, EmitsTo, BeginsIn, Ended}
use Rattle.lower_emit.proofs.Begun.{begun-body}
use Rattle.lower_emit.proofs.Steps.{areas-after, sound-next}
use Rattle.lower_emit.proofs.Functions.{ended-lifts}
use Rattle.lower_forms.specs.Lowerable.{Relied, of_names, of_breaks, of_counts}
use Rattle.lower_forms.specs.Lowering.{BlockLowerable}
use Rattle.lower_forms.proofs.StmtArms.{block-parts}
use Rattle.lower_blocks.proofs.Sequence.{block-stmts}
use Rattle.compile.specs.Compiled.{Fresh, tree_block, StretchIn, stretch_block, nothing, main_named, main_begun, main_code, CompilesTree}
use Rattle.compile.specs.declared.Stretch.{Stretch}

-- the questions that a lowering relies on
pub relied : (tree : List ℕ) → TreeAt tree → (q : ℕ) → Relied q → ask_block q false (block_at 32 tree 5).value ≡ true
unfolding block_questions
relied tree T q of_names = T.yes 0 (omega arith)
relied tree T q of_breaks = T.yes 3 (omega arith)
relied tree T q of_counts = T.yes 8 (omega arith)

-- the tree's block can be lowered
pub block-lowerable : (tree : List ℕ) → TreeAt tree → BlockLowerable 32 tree 5
block-lowerable tree T = record { reads = T.block; loop = false; asks = relied tree T }

-- no loop is around it
pub block-outside : (tree : List ℕ) (T : TreeAt tree) → (block-lowerable tree T).loop ≡ false
unfolding block-lowerable
block-outside tree T = refl

module _ {tree : List ℕ} (T : TreeAt tree) where
  -- the count of its statements is there
  pub top-counted : CountThere tree 5
  top-counted = (block-parts 32 tree 5 (block-lowerable tree T)).0

  module _ (n : ℕ) (e : n ≡ count_at tree 5) where
    abbrev all : Stretch
    all = record { at = 7; count = n }

    -- they are the stretch of all
    pub all-stands : StretchIn tree all
    all-stands = record { short = T.small; stmts = block-stmts 32 tree 5 n (block-lowerable tree T) e }

    pub all-compiles : {A : Type 0} {r : Option A} {a b : Emitter} → CompilesTree r tree a b (compile (stretch_block tree all)).tables → CompilesTree r tree a b (compile (tree_block tree)).tables
    all-compiles {r = r} {a = a} {b = b} h =
        subst (λ (c : Block). CompilesTree r tree a b (compile c).tables)
        (ap (λ (m : ℕ). (stmts_at 32 m tree 7).value) e ∙ sym (ap (λ (x : Node Block). x.value) (view-block 32 tree 5 T.block).is)) h

-- ---- the whole

main-lengthens : (b : Block) → Lengthens (main_code b)
main-lengthens b = lengthens-seq (lengthens-block [] in_globals b) (lengthens-one Return)

-- the tables, with nothing left on the stack
abbrev whole : Block → State
whole b = record { stack = []; tables = (compile b).tables }

abbrev main_function : Block → Emit
main_function b = function main 0 (names_only []) (block_body b (Return ∷ [])) (main_code b)

at-main : (b : Block) → emit_at 0 (main_function b) nothing ≡ function_ended 0 0 (emit_at 0 (main_code b) main_begun)
unfolding main_begun main_named no_tables
at-main b = at-function 0 main 0 (names_only []) (block_body b (Return ∷ [])) (main_code b) nothing main_named refl

whole-ended : (b : Block) → whole b ≡ function_ended 0 0 (emit_at 0 (main_code b) main_begun)
unfolding function_ended
whole-ended b = state-eq _ _ refl (at-compile b ∙ ap (λ (s : State). s.tables) (at-main b))

whole-within : (l : Limits) (b : Block) → WithinLimits l (whole b) → WithinLimits l (emit_at 0 (main_code b) main_begun)
unfolding main_begun main_named
whole-within l b w =
    within-function 0 main 0 (names_only []) (block_body b (Return ∷ [])) nothing main_named refl (main-lengthens b) (subst (WithinLimits l) (whole-ended b ∙ sym (at-main b)) w)

-- ---- the function begun, its code emitted, and its end

none-before : length main_named.tables.functions ≡ 0
unfolding main_named no_tables
none-before = ap length (symbol-functions main no_tables)

longer : (b : Block) → Lengthened main_begun.tables (emit_at 0 (main_code b) main_begun).tables
unfolding emit_at
longer b = (main-lengthens b).at (length main_begun.stack - 0) main_begun.tables

-- the answer without tables
none-compiles : {A : Type 0} {r : Option A} {tree : List ℕ} {a c : Emitter} (b : Block) → r ≡ None → (WithinLimits (limits_in a) (whole b) → ⊥) → limits_in c ≡ limits_in a → SameAreas a c → CompilesTree r tree a c (compile b).tables
none-compiles b e h l k = record { tables = λ x q. absurd (none-some x (sym e ∙ q)); sound = λ x q. absurd (none-some x (sym e ∙ q)); full = λ q. h; limits = l; areas = k }

module _ {tree : List ℕ} {a b : Emitter} {f : Option ℕ} (F : Fresh a) (B : BeginsIn f 0 tree a b main_begun) (t : Block) where
  pub compiles-none : {A : Type 0} {r : Option A} → f ≡ None → r ≡ None → CompilesTree r tree a b (compile t).tables
  compiles-none z e = none-compiles t e (λ w. B.full z (within-down 0 main_begun (main-lengthens t) (whole-within (limits_in a) t w))) B.limits B.areas

  module _ {i : ℕ} (z : f ≡ Some i) where
    begun-here : Moved 0 (counts_of b) tree b.tables.names.made.now b.code.words.now b.tables.entries.words.now (counts_of a) (limits_in a) main_begun
    begun-here = subst (λ (n : ℕ). Moved n (counts_of b) tree b.tables.names.made.now b.code.words.now b.tables.entries.words.now (counts_of a) (limits_in a) main_begun) (ap (λ (c : Counts). c.open) F.none) (B.done i z).moved

    main-is : emit_at b.code.base (main_code t) (state_in tree b) ≡ emit_at 0 (main_code t) main_begun
    main-is = λ i. emit_at (begun-here.base i) (main_code t) (begun-here.state i)

    module _ {m : Emitter} {r : Option ℕ} {next : ℕ} (h : EmitsTo r (main_code t) next tree b m) where
      same-limits : limits_in m ≡ limits_in a
      same-limits = h.lowers.reaches.limits ∙ B.limits

      same-areas : SameAreas a m
      same-areas = areas-after B.areas h.lowers.reaches.areas

      pub compiles-stopped : {A : Type 0} {q : Option A} → r ≡ None → q ≡ None → CompilesTree q tree a m (compile t).tables
      compiles-stopped y e = none-compiles t e
          (λ w. h.lowers.reaches.full y (subst (λ (q : Type 0). q) (λ k. WithinLimits (sym B.limits k) (sym main-is k)) (whole-within (limits_in a) t w))) same-limits same-areas

      module _ {n : ℕ} (y : r ≡ Some n) where
        body-sound : SoundIn tree m
        body-sound = sound-next y h.lowers.reaches

        left : Left (counts_of m) tree m.tables.names.made.now m.code.words.now m.tables.entries.words.now (counts_of b) (limits_in b) (emit_at b.code.base (main_code t) (state_in tree b))
        left = (h.lowers.reaches.done n y).left

        after : state_in tree m ≡ emit_at 0 (main_code t) main_begun
        after = left.state ∙ main-is

        begun-count : length main_begun.tables.functions ≡ length main_named.tables.functions + 1
        unfolding main_begun begun begin
        begun-count = length-append main_named.tables.functions _

        main-there : i < m.tables.functions.count
        main-there =
            omega (
              arith,
              B.is i z,
              begun-count,
              functions-longer (longer t),
              ap (λ (s : State). length s.tables.functions) after,
              function-count tree m.tables.names.made.now m.code.words.now m.tables.entries.words.now (counts_of m) (limits_in m) body-sound.sound,
            )

        main-empty : function_body (state_in tree m).tables.functions i ≡ []
        unfolding main_begun
        main-empty =
            ap (λ (k : ℕ). function_body (state_in tree m).tables.functions k) (B.is i z ∙ sym none-before)
            ∙ begun-body (symbol_number main no_tables) 0 (names_only []) main_named (state_in tree m).tables.functions (longer t).new
            (ap (λ (s : State). s.tables.functions) after ∙ (longer t).functions)

        pub compiles-done : {A : Type 0} {x : A} {c : Emitter} → Ended i 0 m c → CompilesTree (Some x) tree a c (compile t).tables
        unfolding state_of
        compiles-done {x = x} {c = c} g =
            let M = (ended-lifts body-sound main-there main-empty (omega arith) g).moved in
            record {
              tables = λ u q. ap (λ (s : State). s.tables) (M.state ∙ (λ k. function_ended ((left.base ∙ begun-here.base) k) (B.is i z k) (after k)) ∙ sym (whole-ended t));
              sound = λ u q. record { sound = subst (λ (l : Limits). Sound tree c.tables.names.made.now c.code.words.now c.tables.entries.words.now (counts_of c) l) (sym g.limits) M.sound };
              full = λ q. absurd (none-some x (sym q));
              limits = g.limits ∙ same-limits;
              areas = areas-after same-areas g.areas;
            }
