-- Branches: a condition, the question over the block and the end jump, the block; then the end jump and what comes after it.
use Prim.Native.Nat.{ℕ, suc, ◌+◌, ◌-◌, ◌≤◌}
use mathlib.Core.Path.{◌≡◌, refl, sym, ap, subst, ◌∙◌}
use mathlib.Core.Bool.{Bool, true}
use mathlib.Core.List.{List, []}
use native.Mathlib.Omega.{arith}
use lib.ListN.{length}
use Rattle.std.specs.Prelude.{Option, Some, None}
use Rattle.definitions.specs.Bytes.{Name}
use Rattle.definitions.specs.Tree.{Expr, Block, Branches, done, else, when}
use Rattle.definitions.specs.Wellformed.{ask_expr, ask_block, ask_branches}
use Rattle.definitions.specs.Slots.{Keeping, past, loops_block}
use Rattle.definitions.specs.Instruction.{Jump, JumpIfFalse}
use Rattle.definitions.specs.Tables.{Out, Emit, emits, one, ◌⨟◌}
use Rattle.definitions.specs.Lower.{emit_expr}
use Rattle.definitions.specs.Measured.{so_far, knowing, measure_expr, measure_block, measure_stmt, measure_hop, after_block, write_expr, write_block, write_branches}
use Rattle.definitions.proofs.PartStmt.{OkB, OkR}
use Rattle.definitions.proofs.SoFarNames.{Knows, knows-itself, class_names}
use Rattle.definitions.proofs.Counted.{More, CountedSame, counted-one, counted-seq}
use Rattle.definitions.proofs.CountedExpr.{counted-expr}
use Rattle.definitions.proofs.Measured.{block-known, hop-known}
use Rattle.definitions.proofs.Alike.{AllSpelled, alike-expr}
use Rattle.state.specs.State.{State, emit_at}
use Rattle.state.proofs.Emission.{at-seq, at-three, at-four, at-nothing, base_kept}
use Rattle.definitions.proofs.Growth.{Lengthens, lengthens-one, lengthens-seq}
use Rattle.state.proofs.Within.{within-second}
use Rattle.state.proofs.Answers.{left_as}
use Rattle.measure_stmts.specs.Heads.{heads_stmt, heads_block}
use Rattle.lower_calls.proofs.Calls.{at_same}
use Rattle.lower_emit.specs.declared.emitter.Emitter.{Emitter}
use Rattle.lower_emit.specs.Emitting.{state_in, SoundIn, LeftIn, LowersIn, EmitsTo}
use Rattle.lower_emit.proofs.Spelled.{spelled-in}
use Rattle.lower_emit.proofs.Steps.{sound-next, lowers_then, lowers-stopped, lowers-state}
use Rattle.lower_emit.proofs.Parts.{emits-stopped, emits-state}
use Rattle.lower_blocks.proofs.Between.{stack-low, next-none}
use Rattle.write_blocks.specs.declared.Loop.{Loop}
use Rattle.write_blocks.specs.Written.{loop_of, branch_written, rest_written}
use Rattle.write_blocks.specs.Sizes.{Fits}
use Rattle.write_blocks.proofs.Growing.{grows-knowing, grows-expr, grows-block, grows-branches}
use Rattle.write_blocks.proofs.Counting.{Sizes, sizes-block, sizes-branches}
use Rattle.write_blocks.proofs.Jumping.{first_as, known-after, size-stops}

-- what is asked of a block in a loop or outside
pub record AskedBlock (b : Block) : Type 0 where
  pub l : Bool
  pub names : ask_block 7 l b ≡ true
  pub breaks : OkB l b

pub record AskedBranches (r : Branches) : Type 0 where
  pub l : Bool
  pub names : ask_branches 7 l r ≡ true
  pub breaks : OkR l r

-- of a condition and a block
pub record AskedBranch (c : Expr) (b : Block) : Type 0 where
  pub condition : ask_expr 7 c ≡ true
  pub block : AskedBlock b

pub block-sizes : (names : List Name) (keep : Keeping) (w : Loop) (b : Block) → AskedBlock b → Sizes (λ k. measure_block names k b) (after_block b) (heads_block b) (write_block names keep (loop_of w) b)
block-sizes names keep w b k = sizes-block k.l names keep (loop_of w) b k.names k.breaks

-- a condition that is written counts as one that is emitted
pub counted-condition : (names : List Name) (c : Expr) → ask_expr 7 c ≡ true → CountedSame (λ k. measure_expr names k c) (write_expr names c)
counted-condition names c q = record {
  at = λ k p t K.
      let e : emit_expr names c p t ≡ write_expr names c p t = sym ((alike-expr names c q).same p t (record { spelled = K.spelled })) in
      let g = (counted-expr names c q).at k p t K in
      record {
        count = sym (ap (λ (o : Out). length o.code) e) ∙ g.count;
        knows = subst (λ (o : Out). Knows k o.tables) e g.knows;
        more = subst (λ (o : Out). More (class_names t.classes) (class_names o.tables.classes)) e g.more;
      };
}

-- ---- a branch

module _ {t : List ℕ} {a : Emitter} {c : Expr} {b : Block} (S : SoundIn t a) (names : List Name) (keep : Keeping) (w : Loop) (k : AskedBranch c b) where
  abbrev s : State
  s = state_in t a

  abbrev base : ℕ
  base = a.code.base

  abbrev written : Emit
  written = branch_written names keep w c b

  -- with n as the block's measure
  abbrev by : ℕ → Emit
  by n = emit_expr names c ⨟ one (JumpIfFalse (suc n)) ⨟ write_block names keep (loop_of w) b

  branch-as : (n : ℕ) → n ≡ measure_block names (so_far s.tables) b → emit_at base written s ≡ emit_at base (by n) s
  unfolding branch_written knowing
  branch-as n e =
      let p = length s.stack - base in
      at_same base written (by n) s
      (first_as (write_expr names c) (emit_expr names c) (one (JumpIfFalse (suc (measure_block names (so_far s.tables) b))) ⨟ write_block names keep (loop_of w) b) p s.tables
      ((alike-expr names c k.condition).same p s.tables (spelled-in S))
      ∙ ap (λ (m : ℕ). by m p s.tables) (sym e))

  module _ {a₁ : Emitter} {p : Option ℕ} {m : ℕ} (g : EmitsTo p (emit_expr names c) m t a a₁) where
    pub branch-stopped : {o : Option ℕ} {next : ℕ} → p ≡ None → o ≡ None → EmitsTo o written next t a a₁
    branch-stopped z y =
        emits-state (emits-stopped z y S (lengthens-seq (lengthens-one _) (grows-block names keep (loop_of w) b)) g) (branch-as _ refl) refl

    module _ {x : ℕ} (z : p ≡ Some x) where
      S₁ : SoundIn t a₁
      S₁ = sound-next z g.lowers.reaches

      -- the block measures the same before the condition and after it
      pub measured : measure_block names (so_far (state_in t a₁).tables) b ≡ measure_block names (so_far s.tables) b
      measured = sym (block-known k.block.l names keep b (so_far s.tables) (state_in t a₁).tables k.block.names (known-after S (counted-expr names c k.condition) (g.lowers.reaches.done x z)))

      then : {A : Type 0} {r : Option A} {a₂ : Emitter} {n : ℕ} → n ≡ measure_block names (so_far (state_in t a₁).tables) b
          → LowersIn r (one (JumpIfFalse (suc n)) ⨟ write_block names keep (loop_of w) b) t a₁ a₂ → LowersIn r written t a a₂
      then {n = n} e h = lowers-state (lowers_then z S g.lowers h) (branch-as n (e ∙ measured))

      pub branch-long : {o r : Option ℕ} {next limit : ℕ} → Fits r (heads_block b) (measure_block names (so_far (state_in t a₁).tables) b) limit → limit ≡ a₁.code.limit → r ≡ None → o ≡ None
          → EmitsTo o written next t a a₁
      branch-long F same y u = record {
        place = next-none u;
        lowers = then refl (size-stops (JumpIfFalse _) S₁ (block-sizes names keep w b k.block) (grows-block names keep (loop_of w) b) F same (omega arith) (omega arith) y u
            (λ v. within-second a₁.code.base _ _ (state_in t a₁) (stack-low S₁) v));
      }

      module _ {n : ℕ} (e : n ≡ measure_block names (so_far (state_in t a₁).tables) b) {A : Type 0} {u : Option A} {a₂ : Emitter} (j : LowersIn u (one (JumpIfFalse (suc n))) t a₁ a₂) where
        pub branch-full : {o : Option ℕ} {next : ℕ} → u ≡ None → o ≡ None → EmitsTo o written next t a a₂
        branch-full y v = record { place = next-none v; lowers = then e (lowers-stopped y v S₁ (grows-block names keep (loop_of w) b) j) }

        pub branch-done : {y : A} {r : Option ℕ} {next : ℕ} {a₃ : Emitter} → u ≡ Some y → EmitsTo r (write_block names keep (loop_of w) b) next t a₂ a₃ → EmitsTo r written next t a a₃
        branch-done v h = record { place = h.place; lowers = then e (lowers_then v S₁ j h.lowers) }

-- ---- an if: a branch, and what comes after it

-- in any state whose functions have their symbols
when-as : {c : Expr} {b : Block} {r : Branches} (names : List Name) (keep : Keeping) (w : Loop) → AskedBranch c b → AskedBranches r → (base : ℕ) (s : State) → base ≤ length s.stack → AllSpelled s.tables
    → emit_at base (write_branches names keep (loop_of w) (when c b r)) s ≡ emit_at base (branch_written names keep w c b ⨟ rest_written names (past (loops_block b) keep) w r) s
unfolding branch_written rest_written knowing write_branches emit_at
when-as {c} {b} {r} names keep w k rk base s low N =
    let n = so_far s.tables in
    let next = past (loops_block b) keep in
    let A = one (JumpIfFalse (suc (measure_block names n b))) in
    let B = write_block names keep (loop_of w) b in
    let C = counted-seq (counted-condition names c k.condition) (counted-seq (counted-one (JumpIfFalse (suc (measure_block names n b)))) (block-sizes names keep w b k.block).counted) in
    let R = write_branches names next (loop_of w) r in
    let s₃ = emit_at base (write_expr names c ⨟ A ⨟ B) s in
    let hop : measure_hop names (after_block b n) r ≡ measure_hop names (so_far s₃.tables) r =
    hop-known rk.l names next r (after_block b n) s₃.tables rk.names (C.at n (length s.stack - base) s.tables (knows-itself s.tables N.spelled)).knows in
    at-four base (write_expr names c) A B (one (Jump (measure_hop names (after_block b n) r)) ⨟ R) s low
    ∙ ap (emit_at base (one (Jump (measure_hop names (after_block b n) r)) ⨟ R)) (sym (at-three base (write_expr names c) A B s low))
    ∙ ap (λ (m : ℕ). emit_at base (one (Jump m) ⨟ R) s₃) hop
    ∙ sym (at-seq base (branch_written names keep w c b) (rest_written names next w r) s low)

pub grows-branch : (names : List Name) (keep : Keeping) (w : Loop) (c : Expr) (b : Block) → Lengthens (branch_written names keep w c b)
unfolding branch_written
grows-branch names keep w c b = grows-knowing (λ k. lengthens-seq (grows-expr names c) (lengthens-seq (lengthens-one _) (grows-block names keep (loop_of w) b)))

pub grows-rest : (names : List Name) (keep : Keeping) (w : Loop) (r : Branches) → Lengthens (rest_written names keep w r)
unfolding rest_written
grows-rest names keep w r = grows-knowing (λ k. lengthens-seq (lengthens-one _) (grows-branches names keep (loop_of w) r))

module _ {t : List ℕ} {a a₁ : Emitter} {c : Expr} {b : Block} {r : Branches} {p : Option ℕ} {m : ℕ} (S : SoundIn t a) (names : List Name) (keep : Keeping) (w : Loop) (k : AskedBranch c b) (rk : AskedBranches r)
    (g : EmitsTo p (branch_written names keep w c b) m t a a₁) where
  pub if-stopped : {o : Option ℕ} {next : ℕ} → p ≡ None → o ≡ None → EmitsTo o (write_branches names keep (loop_of w) (when c b r)) next t a a₁
  if-stopped z y = emits-state (emits-stopped z y S (grows-rest names (past (loops_block b) keep) w r) g) (when-as names keep w k rk a.code.base (state_in t a) (stack-low S) (spelled-in S)) refl

  pub if-done : {x : ℕ} {o : Option ℕ} {next next' : ℕ} {keep' : Keeping} {r' : Branches} {a₂ : Emitter} → p ≡ Some x → keep' ≡ past (loops_block b) keep → r' ≡ r → next ≡ next'
      → EmitsTo o (rest_written names keep' w r') next t a₁ a₂ → EmitsTo o (write_branches names keep (loop_of w) (when c b r)) next' t a a₂
  if-done {o = o} {a₂ = a₂} z e f u h = record {
    place = λ j y. h.place j y ∙ u;
    lowers = lowers-state (lowers_then z S g.lowers (subst (λ (x : Emit). LowersIn o x t a₁ a₂) (λ i. rest_written names (e i) w (f i)) h.lowers))
        (when-as names keep w k rk a.code.base (state_in t a) (stack-low S) (spelled-in S));
  }

-- ---- what comes after a branch

-- no branch: the end jump goes nowhere
module _ {t : List ℕ} {a : Emitter} (S : SoundIn t a) (names : List Name) (keep : Keeping) (w : Loop) where
  done-as : emit_at a.code.base (rest_written names keep w done) (state_in t a) ≡ emit_at a.code.base (one (Jump 0)) (state_in t a)
  unfolding rest_written knowing write_branches measure_hop
  done-as =
      at_same a.code.base (rest_written names keep w done) (one (Jump 0) ⨟ emits []) (state_in t a) refl
      ∙ at-seq a.code.base (one (Jump 0)) (emits []) (state_in t a) (stack-low S) ∙ at-nothing a.code.base _

  pub none-left : {A : Type 0} {u : Option A} {a₁ : Emitter} → LowersIn u (one (Jump 0)) t a a₁ → LowersIn u (rest_written names keep w done) t a a₁
  none-left h = lowers-state h done-as

  -- an else block
  module _ (b : Block) (k : AskedBlock b) where
    abbrev elsed : Emit
    elsed = rest_written names keep w (else b)

    else-as : (n : ℕ) → n ≡ measure_block names (so_far (state_in t a).tables) b → emit_at a.code.base elsed (state_in t a) ≡ emit_at a.code.base (one (Jump n) ⨟ write_block names keep (loop_of w) b) (state_in t a)
    unfolding rest_written knowing write_branches measure_hop
    else-as n e = at_same a.code.base elsed (one (Jump n) ⨟ write_block names keep (loop_of w) b) (state_in t a)
        (ap (λ (m : ℕ). (one (Jump m) ⨟ write_block names keep (loop_of w) b) (length (state_in t a).stack - a.code.base) (state_in t a).tables) (sym e))

    pub else-long : {o r : Option ℕ} {next limit : ℕ} → Fits r (heads_block b) (measure_block names (so_far (state_in t a).tables) b) limit → limit ≡ a.code.limit → r ≡ None → o ≡ None
        → EmitsTo o elsed next t a a
    else-long F same y u = record {
      place = next-none u;
      lowers = lowers-state (size-stops (Jump _) S (block-sizes names keep w b k) (grows-block names keep (loop_of w) b) F same (omega arith) (omega arith) y u
          (λ v. within-second a.code.base _ _ (state_in t a) (stack-low S) v)) (else-as _ refl);
    }

    module _ {n : ℕ} (e : n ≡ measure_block names (so_far (state_in t a).tables) b) {A : Type 0} {u : Option A} {a₁ : Emitter} (j : LowersIn u (one (Jump n)) t a a₁) where
      pub else-full : {o : Option ℕ} {next : ℕ} → u ≡ None → o ≡ None → EmitsTo o elsed next t a a₁
      else-full y v = record { place = next-none v; lowers = lowers-state (lowers-stopped y v S (grows-block names keep (loop_of w) b) j) (else-as n e) }

      pub else-done : {y : A} {r : Option ℕ} {next : ℕ} {a₂ : Emitter} → u ≡ Some y → EmitsTo r (write_block names keep (loop_of w) b) next t a₁ a₂ → EmitsTo r elsed next t a a₂
      else-done v h = record { place = h.place; lowers = lowers-state (lowers_then v S j h.lowers) (else-as n e) }

-- an elif: the end jump before it goes to its own end jump
module _ {t : List ℕ} {a : Emitter} {c : Expr} {b : Block} {r : Branches} (S : SoundIn t a) (names : List Name) (keep : Keeping) (w : Loop) (k : AskedBranch c b) (rk : AskedBranches r) where
  abbrev before : State
  before = state_in t a

  abbrev bottom : ℕ
  bottom = a.code.base

  abbrev elif : Emit
  elif = rest_written names keep w (when c b r)

  abbrev others : Emit
  others = rest_written names (past (loops_block b) keep) w r

  abbrev size : ℕ
  size = measure_expr names (so_far before.tables) c + (measure_block names (so_far before.tables) b + 2)

  -- the state after the end jump
  pub elif-as : (n : ℕ) → n ≡ size → emit_at bottom elif before ≡ emit_at bottom (one (Jump (n - 1)) ⨟ branch_written names keep w c b ⨟ others) before
  unfolding rest_written knowing measure_hop emit_at emits
  elif-as n e =
      let hop : suc (measure_expr names (so_far before.tables) c) + measure_block names (so_far before.tables) b ≡ n - 1 = omega (arith, e) in
      let u = emit_at bottom (one (Jump (n - 1))) before in
      ap (λ (m : ℕ). emit_at bottom (one (Jump m) ⨟ write_branches names keep (loop_of w) (when c b r)) before) hop
      ∙ at-seq bottom (one (Jump (n - 1))) (write_branches names keep (loop_of w) (when c b r)) before (stack-low S)
      ∙ when-as names keep w k rk bottom u (base_kept bottom (one (Jump (n - 1))) before (stack-low S)) (spelled-in S)
      ∙ sym (at-seq bottom (one (Jump (n - 1))) (branch_written names keep w c b ⨟ others) before (stack-low S))

  -- it has no size
  pub elif-long : AskedBranches (when c b r) → {o l : Option ℕ} {next limit : ℕ} → Fits l (heads_block b) size limit → limit ≡ a.code.limit → l ≡ None → o ≡ None → EmitsTo o elif next t a a
  unfolding rest_written knowing measure_stmt heads_stmt
  elif-long ask F same y u = record {
    place = next-none u;
    lowers = lowers-state
        (size-stops (Jump (measure_hop names (so_far before.tables) (when c b r))) S (sizes-branches ask.l names keep (loop_of w) (when c b r) ask.names ask.breaks) (grows-branches names keep (loop_of w) (when c b r)) F same
        (omega arith) (omega arith) y u
        (λ v. within-second bottom (one (Jump (measure_hop names (so_far before.tables) (when c b r)))) (write_branches names keep (loop_of w) (when c b r)) before (stack-low S) v))
        (at_same bottom elif (one (Jump (measure_hop names (so_far before.tables) (when c b r))) ⨟ write_branches names keep (loop_of w) (when c b r)) before refl);
  }

  module _ {n : ℕ} (e : n ≡ size) {A : Type 0} {u : Option A} {a₁ : Emitter} (j : LowersIn u (one (Jump (n - 1))) t a a₁) where
    pub elif-full : {o : Option ℕ} {next : ℕ} → u ≡ None → o ≡ None → EmitsTo o elif next t a a₁
    elif-full y v = record {
      place = next-none v;
      lowers = lowers-state (lowers-stopped y v S (lengthens-seq (grows-branch names keep w c b) (grows-rest names (past (loops_block b) keep) w r)) j) (elif-as n e);
    }

    module _ {y : A} (v : u ≡ Some y) {p : Option ℕ} {m : ℕ} {a₂ : Emitter} (g : EmitsTo p (branch_written names keep w c b) m t a₁ a₂) where
      pub elif-over : {o : Option ℕ} {next : ℕ} → p ≡ None → o ≡ None → EmitsTo o elif next t a a₂
      elif-over z f = record {
        place = next-none f;
        lowers = lowers-state (lowers_then v S j (lowers-stopped z f (sound-next v j.reaches) (grows-rest names (past (loops_block b) keep) w r) g.lowers)) (elif-as n e);
      }

      -- the state with the branch
      pub elif-left : {x : ℕ} → p ≡ Some x → LeftIn t a a₂ (emit_at bottom (branch_written names keep w c b) (emit_at bottom (one (Jump (n - 1))) before))
      elif-left z =
          let h = (lowers_then v S j g.lowers).reaches.done _ z in
          record { left = left_as (at-seq bottom (one (Jump (n - 1))) (branch_written names keep w c b) before (stack-low S)) h.left }

      pub elif-rest : {x : ℕ} → p ≡ Some x → emit_at bottom others (state_in t a₂) ≡ emit_at bottom elif before
      elif-rest z =
          ap (emit_at bottom others) (elif-left z).left.state
          ∙ sym (elif-as n e ∙ at-three bottom (one (Jump (n - 1))) (branch_written names keep w c b) others before (stack-low S))
