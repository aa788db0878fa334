-- The tables of a whole tree in bounds are in bounds.
use mathlib.Core.Path.{refl}
use mathlib.Core.List.{List, ◌∷◌, []}
use Prim.Native.Nat.{ℕ, suc, ◌+◌, ◌≤◌}
use native.Mathlib.Omega.{arith}
use lib.ListN.{length}
use Rattle.definitions.specs.Bytes.{Name}
use Rattle.definitions.specs.Tree.{Expr, Stmt, Block, Branches, done, else, when, Methods}
use Rattle.definitions.specs.Slots.{Keeping, in_globals, past, loops_stmt, loops_block, loops_branches, names_only, with_loops}
use Rattle.definitions.specs.Instruction.{Return, Jump, JumpIfFalse}
use Rattle.definitions.specs.Tables.{Tables, block_body}
use Rattle.definitions.specs.Lower.{emit_expr, emit_stmt, emit_block, emit_branches, main, no_tables, compile}
use Rattle.definitions.specs.Open.{all_instruction}
use Rattle.definitions.proofs.Every.{no_every}
use Rattle.definitions.proofs.Names.{name-short}
use Rattle.definitions.proofs.Fit.{FitS, FitB, FitR, FitM}
use Rattle.definitions.proofs.Fit.{break_f, continue_f, pass_f, expr_f, return_f, assign_f, if_f, while_f, for_f, def_f, class_f, nil_b, cons_b, done_f, else_f, when_f, nil_m, method_f}
use Rattle.definitions.proofs.Bounds.{Small, Trim, bare, burden}
use Rattle.definitions.proofs.LongerTables.{Longer, longer-none, longer-more, small-down}
use Rattle.definitions.proofs.BoundedPart.{Fits, Step, fits-nothing, fits_one, fits-seq, fits-within, fits_wider, step-within}
use Rattle.definitions.proofs.BoundedJumps.{fits-loop, length_three, step-branch}
use Rattle.definitions.proofs.BoundedFunction.{fits-function, function-in}
use Rattle.definitions.proofs.BoundedExpr.{fits-expr}
use Rattle.definitions.proofs.BoundedTarget.{fits-assign}
use Rattle.definitions.proofs.BoundedFor.{Room, room-first, room-rest, store-sound, fits-make_iter, fits-kept_iter, fits-ask_iter, fits-take_iter}
use Rattle.definitions.proofs.BoundedMethods.{FitsMethods, fits-method, fits-no_methods}
use Rattle.definitions.proofs.BoundedClass.{fits-class}

record FitsBranches (n s : ℕ) (b : Tables) (slots : List Name) (keep : Keeping) (r : Branches) : Type 0 where
  at : (p : ℕ) (t : Tables) → Longer b t → Step n s p t (emit_branches slots keep r p t).out
  hop : (p : ℕ) (t : Tables) → (emit_branches slots keep r p t).hop ≤ length (emit_branches slots keep r p t).out.code

fits-done : {n s : ℕ} {b : Tables} (slots : List Name) (keep : Keeping) → FitsBranches n s b slots keep done
unfolding emit_branches
fits-done {n} {b} slots keep = record { at = (fits-nothing {n = n} {b = b}).at; hop = λ p t. omega arith }

fits-else : {n s : ℕ} {b : Tables} (slots : List Name) (keep : Keeping) (d : Block) → Fits n s b (emit_block slots keep d) → FitsBranches n s b slots keep (else d)
unfolding emit_branches
fits-else slots keep d D = record { at = D.at; hop = λ p t. omega arith }

fits-when : {i j k n s : ℕ} {b : Tables} (slots : List Name) (keep : Keeping) (c : Expr) (d : Block) (r : Branches) → i + (j + k) ≤ n → Fits i s b (emit_expr slots c) → Fits j s b (emit_block slots keep d)
    → FitsBranches k s b slots (past (loops_block d) keep) r → FitsBranches n s b slots keep (when c d r)
unfolding emit_branches
fits-when slots keep c d r h A B R = record {
  at = λ p t u.
      let a = emit_expr slots c p t in
      let q = suc (p + length a.code) in
      let o = emit_block slots keep d q a.tables in
      let q' = q + suc (length o.code) in
      let x = emit_branches slots (past (loops_block d) keep) r q' o.tables in
      let S = A.at p t u in
      let T = B.at q a.tables (longer-more u S.longer) in
      step-within {o = (emit_branches slots keep (when c d r) p t).out} (step-branch a o x.out q q' x.hop refl refl (R.hop q' o.tables) S T (R.at q' o.tables (longer-more (longer-more u S.longer) T.longer))) h;
  hop = λ p t.
      let a = emit_expr slots c p t in
      let q = suc (p + length a.code) in
      let o = emit_block slots keep d q a.tables in
      let q' = q + suc (length o.code) in
      let x = emit_branches slots (past (loops_block d) keep) r q' o.tables in
      omega (arith, length_three a.code o.code x.out.code (JumpIfFalse (suc (length o.code))) (Jump x.hop));
}

-- a part of a function of s slots: its names are among them, and there is room for the iterators of its loops
mutual
  unfolding emit_stmt emit_block loops_stmt loops_block loops_branches all_instruction

  fits-stmt : {b : Tables} {a : Stmt} {n s : ℕ} (slots : List Name) (keep : Keeping) → length slots ≤ s → Room keep (loops_stmt a) s → FitS a n → Fits n s b (emit_stmt slots keep a)
  fits-stmt slots keep l m break_f = fits-within (fits_one (bare refl refl)) (omega arith)
  fits-stmt slots keep l m continue_f = fits-within (fits_one (bare refl refl)) (omega arith)
  fits-stmt slots keep l m pass_f = fits-nothing
  fits-stmt slots keep l m (expr_f A h) = fits-within (fits-seq (fits_wider l (fits-expr slots A)) (fits_one (bare refl refl))) (omega arith)
  fits-stmt slots keep l m (return_f A h) = fits-within (fits-seq (fits_wider l (fits-expr slots A)) (fits_one (bare refl refl))) (omega arith)
  fits-stmt slots keep l m (assign_f A B h) = fits-within (fits_wider l (fits-assign slots A (fits-expr slots B))) h
  fits-stmt slots keep l m (if_f A h) = record { at = λ p t u. step-within ((fits-branches slots keep l m A).at p t u) h }
  fits-stmt slots keep l m (while_f A B h) = fits-within (fits-loop (fits_wider l (fits-expr slots A)) (fits-block slots keep l m B)) h
  fits-stmt {s} slots keep l m (for_f {x} {b = d} k A B h) =
      fits-within (fits-seq (fits_wider l (fits-expr slots A)) (fits-seq fits-make_iter (fits-kept_iter keep (loops_block d) m (λ g t u e.
      fits-seq (fits_one (store-sound g e)) (fits-loop (fits-ask_iter g e) (fits-seq (fits-take_iter slots x g l e (name-short x k)) (fits-block slots (past 1 keep) l (room-rest keep 1 (loops_block d) s m) B))))))) (omega arith)
  fits-stmt slots keep l m (def_f {x} {ps} {b = d} k few A h) =
      let f = with_loops ps d in
      fits-within (fits-function x (length ps) f (block_body d (Return ∷ [])) (name-short x k) few (fits-seq (fits-block f.names f.keep (omega arith) (omega arith) A) (fits_one (bare refl refl)))) (omega arith)
  fits-stmt {s} slots keep l m (class_f {x} {ms} {vs} k A h) = fits-class s slots keep x ms vs k h (fits-methods A)

  fits-block : {b : Tables} {d : Block} {n s : ℕ} (slots : List Name) (keep : Keeping) → length slots ≤ s → Room keep (loops_block d) s → FitB d n → Fits n s b (emit_block slots keep d)
  fits-block slots keep l m nil_b = fits-nothing
  fits-block {s} slots keep l m (cons_b {s = a} {b = d} A B h) =
      fits-within (fits-seq (fits-stmt slots keep l (room-first keep (loops_stmt a) (loops_block d) s m) A) (fits-block slots (past (loops_stmt a) keep) l (room-rest keep (loops_stmt a) (loops_block d) s m) B)) h

  fits-branches : {b : Tables} {r : Branches} {n s : ℕ} (slots : List Name) (keep : Keeping) → length slots ≤ s → Room keep (loops_branches r) s → FitR r n → FitsBranches n s b slots keep r
  fits-branches slots keep l m done_f = fits-done slots keep
  fits-branches slots keep l m (else_f {b = d} A h) = fits-else slots keep d (fits-within (fits-block slots keep l m A) h)
  fits-branches {s} slots keep l m (when_f {c} {b = d} {r} A B C h) =
      fits-when slots keep c d r h (fits_wider l (fits-expr slots A)) (fits-block slots keep l (room-first keep (loops_block d) (loops_branches r) s m) B)
      (fits-branches slots (past (loops_block d) keep) l (room-rest keep (loops_block d) (loops_branches r) s m) C)

  fits-methods : {b : Tables} {m : Methods} {n : ℕ} → FitM m n → FitsMethods n b m
  fits-methods nil_m = fits-no_methods
  fits-methods (method_f {x} {ps} {b = d} {ms} k few e A B h) =
      let f = with_loops ps d in
      fits-method x ps d ms k few e h (fits-block f.names f.keep (omega arith) (omega arith) A) (fits-methods B)

-- the tables of a whole tree in bounds
pub record Bounded (n : ℕ) (t : Tables) : Type 0 where
  pub trim : Trim t
  pub weight : burden t ≤ n
  pub constants : length t.constants ≤ length t.classes

pub tree-bounded : {n : ℕ} (b : Block) → FitB b n → Small (compile b).tables 0 → Bounded n (compile b).tables
unfolding compile no_tables all_instruction
tree-bounded {n} b A m =
    let F = function-in {s = 0} main 0 (names_only []) (block_body b (Return ∷ [])) 0 no_tables longer-none (λ c. record { short = omega arith }) (omega arith)
    (fits-seq (fits-block [] in_globals (omega arith) tt A) (fits_one (bare refl refl))) in
    record {
      trim = (F.step.keeps (small-down longer-none (omega (arith, F.silent)) m) (record { symbols = no_every; strings = no_every; functions = no_every; classes = no_every; constants = no_every })).trim;
      weight = omega (arith, F.step.weight);
      constants = omega (arith, F.step.longer.balance);
    }
