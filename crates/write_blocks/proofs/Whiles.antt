-- A while, and the rounds of a for: loops by what their inside writes.
use Prim.Native.Nat.{ℕ, suc, ◌+◌}
use mathlib.Core.Path.{◌≡◌, ap}
use mathlib.Core.List.{List}
use native.Mathlib.Omega.{arith}
use Rattle.std.specs.Prelude.{Option, Some, None}
use Rattle.definitions.specs.Bytes.{Name}
use Rattle.definitions.specs.Tree.{Expr, Block}
use Rattle.definitions.specs.Slots.{Keeping}
use Rattle.definitions.specs.Instruction.{JumpIfFalse}
use Rattle.definitions.specs.Tables.{Tables, Emit, one, ◌⨟◌}
use Rattle.definitions.specs.Lower.{Keeper, emit_expr, ask_iter, take_iter}
use Rattle.definitions.specs.Measured as Measured
use Rattle.definitions.specs.Measured.{so_far, measure_expr, measure_block, measure_ask, measure_take, after_block, back, write_expr, write_block}
use Rattle.definitions.proofs.SoFarNames.{Knows}
use Rattle.definitions.proofs.CountedExpr.{counted-expr}
use Rattle.definitions.proofs.CountedStmt.{counted-ask_iter}
use Rattle.definitions.proofs.Measured.{block-known}
use Rattle.definitions.proofs.Alike.{alike_same, alike-expr}
use Rattle.tree_view.specs.ExprAt.{expr_at}
use Rattle.tree_view.specs.StmtAt.{body_at, block_at}
use Rattle.definitions.proofs.Growth.{lengthens-seq, lengthens-take_iter}
use Rattle.measure_stmts.specs.Heads.{heads_block}
use Rattle.lower_forms.specs.Lowerable.{expr_code}
use Rattle.lower_forms.specs.Lowering.{BranchLowerable, BlockLowerable}
use Rattle.lower_emit.specs.declared.emitter.Emitter.{Emitter}
use Rattle.lower_emit.specs.Emitting.{state_in, SoundIn, LowersIn, EmitsTo}
use Rattle.lower_blocks.proofs.Between.{next-none}
use Rattle.write_blocks.specs.Written.{while_written, rounds_written}
use Rattle.write_blocks.specs.Sizes.{Fits}
use Rattle.write_blocks.proofs.Growing.{grows-block}
use Rattle.write_blocks.proofs.Counting.{sizes-block}
use Rattle.write_blocks.proofs.Branches.{AskedBlock, AskedBranch}
use Rattle.write_blocks.proofs.Fors.{rounds-sizes}
use Rattle.write_blocks.proofs.Asked.{asked-block, asked-branch}
use Rattle.write_blocks.proofs.Looping.{Parts, loop-stopped, loop-long, loop-full, loop-over, loop-ends}

-- the block measures the same wherever the same is so far
same-block : (names : List Name) (keep : Keeping) (b : Block) → AskedBlock b → (u v : Tables) → Knows (so_far u) v → measure_block names (so_far u) b ≡ measure_block names (so_far v) b
same-block names keep b k u v K = block-known k.l names keep b (so_far u) v k.names K

-- ---- a while: the condition and the block at p

abbrev WhileParts : List Name → Keeping → Expr → Block → Tables → Type 0
WhileParts names keep c b u =
    Parts u (λ k. measure_expr names k c) (λ k. measure_block names k b) (after_block b) (heads_block b) (write_expr names c) (emit_expr names c) (λ w. write_block names keep w b)

while-parts : (names : List Name) (keep : Keeping) (c : Expr) (b : Block) → AskedBranch c b → (u : Tables) → WhileParts names keep c b u
while-parts names keep c b k u = record {
  head = alike-expr names c k.condition;
  counted = counted-expr names c k.condition;
  sizes = λ w. sizes-block k.block.l names keep w b k.block.names k.block.breaks;
  grows = λ w. grows-block names keep w b;
  same = same-block names keep b k.block u;
}

module _ {d p : ℕ} {t : List ℕ} {a : Emitter} (S : SoundIn t a) (names : List Name) (keep : Keeping) (R : BranchLowerable d t p) {a₁ : Emitter} {r : Option ℕ} {m : ℕ} (g : EmitsTo r (expr_code d t names p) m t a a₁) where
  abbrev whole : Emit
  whole = while_written names keep (expr_at d t p).value (body_at d t p).value

  abbrev size : ℕ
  size = measure_block names (so_far (state_in t a₁).tables) (body_at d t p).value

  parts : WhileParts names keep (expr_at d t p).value (body_at d t p).value (state_in t a).tables
  parts = while-parts names keep (expr_at d t p).value (body_at d t p).value (asked-branch R) (state_in t a).tables

  pub while-stopped : {o : Option ℕ} {next : ℕ} → r ≡ None → o ≡ None → EmitsTo o whole next t a a₁
  unfolding while_written
  while-stopped z y = record { place = next-none y; lowers = loop-stopped S parts g.lowers z y }

  module _ {x : ℕ} (z : r ≡ Some x) where
    pub while-long : {o l : Option ℕ} {next limit : ℕ} → Fits l (heads_block (body_at d t p).value) size limit → limit ≡ a₁.code.limit → l ≡ None → o ≡ None → EmitsTo o whole next t a a₁
    unfolding while_written
    while-long F e y u = record { place = next-none u; lowers = loop-long S parts g.lowers z F e (omega arith) (omega arith) y u }

    module _ {j : ℕ} (e : j ≡ size) {D : Type 0} {y : Option D} {a₂ : Emitter} (i : LowersIn y (one (JumpIfFalse (suc j))) t a₁ a₂) where
      pub while-full : {o : Option ℕ} {next : ℕ} → y ≡ None → o ≡ None → EmitsTo o whole next t a a₂
      unfolding while_written
      while-full v u = record { place = next-none u; lowers = loop-full S parts g.lowers z e i v u }

      module _ {l : D} (v : y ≡ Some l) (w : Measured.Loop) {q : Option ℕ} {next : ℕ} {a₃ : Emitter} (h : EmitsTo q (write_block names keep w (body_at d t p).value) next t a₂ a₃)
          (is : w.start + a.code.base ≡ a.code.open) (to : w.end + a.code.base ≡ a₂.code.open + (j + 1)) where
        pub while-over : {o : Option ℕ} → q ≡ None → o ≡ None → EmitsTo o whole next t a a₃
        unfolding while_written
        while-over n u = record { place = next-none u; lowers = loop-over S parts g.lowers z e i v w is to h.lowers n u }

        pub while-ends : {G : Type 0} {f : ℕ} {o : Option G} {a₄ : Emitter} → q ≡ Some f → LowersIn o (back w.start) t a₃ a₄ → LowersIn o whole t a a₄
        unfolding while_written
        while-ends n u = loop-ends S parts g.lowers z e i v w is to h.lowers n u

-- ---- the rounds of a for, whose variable is x, whose iterator is kept by f, and whose block is at p

abbrev RoundsParts : List Name → Keeping → Name → Keeper → Block → Tables → Type 0
RoundsParts names keep x f b u =
    Parts u (λ k. measure_ask) (λ k. measure_take + measure_block names k b) (after_block b) (heads_block b) (ask_iter f) (ask_iter f) (λ w. take_iter names x f ⨟ write_block names keep w b)

rounds-parts : (names : List Name) (keep : Keeping) (x : Name) (f : Keeper) (b : Block) → AskedBlock b → (u : Tables) → RoundsParts names keep x f b u
rounds-parts names keep x f b k u = record {
  head = alike_same (counted-ask_iter f);
  counted = counted-ask_iter f;
  sizes = rounds-sizes names keep x f b k;
  grows = λ w. lengthens-seq (lengthens-take_iter names x f) (grows-block names keep w b);
  same = λ v K. ap (λ (m : ℕ). measure_take + m) (same-block names keep b k u v K);
}

module _ {d p : ℕ} {t : List ℕ} {a : Emitter} (S : SoundIn t a) (names : List Name) (keep : Keeping) (x : Name) (f : Keeper) (R : BlockLowerable d t p)
    {B : Type 0} {a₁ : Emitter} {r : Option B} (g : LowersIn r (ask_iter f) t a a₁) where
  abbrev rounds : Emit
  rounds = rounds_written names keep x f (block_at d t p).value

  abbrev room : ℕ
  room = measure_block names (so_far (state_in t a₁).tables) (block_at d t p).value

  pieces : RoundsParts names keep x f (block_at d t p).value (state_in t a).tables
  pieces = rounds-parts names keep x f (block_at d t p).value (asked-block R) (state_in t a).tables

  pub rounds-stopped : {o : Option ℕ} {next : ℕ} → r ≡ None → o ≡ None → EmitsTo o rounds next t a a₁
  unfolding rounds_written
  rounds-stopped z y = record { place = next-none y; lowers = loop-stopped S pieces g z y }

  module _ {l : B} (z : r ≡ Some l) where
    pub rounds-long : {o q : Option ℕ} {next limit : ℕ} → Fits q (heads_block (block_at d t p).value) room limit → limit ≡ a₁.code.limit → q ≡ None → o ≡ None → EmitsTo o rounds next t a a₁
    unfolding rounds_written
    rounds-long F e y u = record { place = next-none u; lowers = loop-long S pieces g z F e (omega arith) (omega arith) y u }

    module _ {j : ℕ} (e : j ≡ room) {D : Type 0} {y : Option D} {a₂ : Emitter} (i : LowersIn y (one (JumpIfFalse (suc (measure_take + j)))) t a₁ a₂) where
      more : measure_take + j ≡ measure_take + room
      more = ap (λ (m : ℕ). measure_take + m) e

      pub rounds-full : {o : Option ℕ} {next : ℕ} → y ≡ None → o ≡ None → EmitsTo o rounds next t a a₂
      unfolding rounds_written
      rounds-full v u = record { place = next-none u; lowers = loop-full S pieces g z more i v u }

      module _ {k : D} (v : y ≡ Some k) (w : Measured.Loop) {E : Type 0} {q : Option E} {a₃ : Emitter} (h : LowersIn q (take_iter names x f ⨟ write_block names keep w (block_at d t p).value) t a₂ a₃)
          (is : w.start + a.code.base ≡ a.code.open) (to : w.end + a.code.base ≡ a₂.code.open + (measure_take + j + 1)) where
        pub rounds-over : {o : Option ℕ} {next : ℕ} → q ≡ None → o ≡ None → EmitsTo o rounds next t a a₃
        unfolding rounds_written
        rounds-over n u = record { place = next-none u; lowers = loop-over S pieces g z more i v w is to h n u }

        pub rounds-ends : {G : Type 0} {s : E} {o : Option G} {a₄ : Emitter} → q ≡ Some s → LowersIn o (back w.start) t a₃ a₄ → LowersIn o rounds t a a₄
        unfolding rounds_written
        rounds-ends n u = loop-ends S pieces g z more i v w is to h n u
