-- What is written has as many instructions as were measured, and leaves the tables that the lowering leaves, wherever the loop around it starts and ends.
use Prim.Native.Nat.{ℕ, suc, ◌+◌, ◌-◌, ◌≤◌, ◌<◌}
use mathlib.Core.Path.{◌≡◌, refl, sym, ap, subst, ◌∙◌}
use mathlib.Core.Bool.{Bool, true, false}
use mathlib.Core.List.{List}
use native.Mathlib.Omega.{arith}
use lib.ListN.{length, length-append}
use lib.Dec.{ltb}
use borrow.Author.Tests.{ltb-true, ltb-false}
use Rattle.definitions.specs.Bytes.{Name}
use Rattle.definitions.specs.Tree.{Stmt, break, continue, pass, expr, return, assign, if, while, for, def, class}
use Rattle.definitions.specs.Tree.{Block, []ᵇ, ◌∷ᵇ◌, Branches, done, else, when}
use Rattle.definitions.specs.Wellformed.{ask_stmt, ask_block, ask_branches}
use Rattle.definitions.specs.Slots.{Keeping, past, loops_stmt, loops_block}
use Rattle.definitions.specs.Tables.{Tables, Out, Emit, emits, ◌⨟◌, here}
use Rattle.definitions.specs.Measured.{SoFar, so_far, knowing, ahead, back, measure_stmt, measure_block, measure_branches, after_stmt, after_block, after_branches}
use Rattle.definitions.specs.Measured.{Loop, write_stmt, write_block, write_branches}
use Rattle.definitions.proofs.Shape.{length-patch}
use Rattle.definitions.proofs.PartStmt.{OkS, OkB, OkR}
use Rattle.definitions.proofs.SoFarNames.{Knows, knows-itself, class_names}
use Rattle.definitions.proofs.Counted.{More, Counted}
use Rattle.definitions.proofs.CountedStmt.{counted-stmt, counted-block}
use Rattle.definitions.proofs.Alike.{AllSpelled}
use Rattle.definitions.proofs.AlikeStmt.{AlikeIn, alike-stmt, alike-block}
use Rattle.state.specs.State.{State, emit_at, WithinLimits, Limited}
use Rattle.state.specs.declared.Limits.{Limits}
use Rattle.definitions.proofs.Growth.{Lengthens}
use Rattle.measure_stmts.specs.Heads.{heads_stmt, heads_block, heads_branches}
use Rattle.measure_stmts.proofs.Beginning.{begun, Begins, begins-stmt, begins-block}

-- ---- the loop around a part changes neither how many instructions it has nor the tables

-- two outputs of one length, with the same tables
pub record Even (o r : Out) : Type 0 where
  pub count : length o.code ≡ length r.code
  pub tables : o.tables ≡ r.tables

pub record Evenly (w e : Emit) : Type 0 where
  pub at : (p : ℕ) (t : Tables) → Even (w p t) (e p t)

even-same : {e : Emit} → Evenly e e
even-same = record { at = λ p t. record { count = refl; tables = refl } }

even-seq : {w e v d : Emit} → Evenly w e → Evenly v d → Evenly (w ⨟ v) (e ⨟ d)
unfolding ◌⨟◌
even-seq {w} {e} {v} {d} A B = record {
  at = λ p t.
      let o = w p t in
      let r = e p t in
      let a = A.at p t in
      let q = p + length o.code in
      let b = B.at q o.tables in
      let moved : d q o.tables ≡ d (p + length r.code) r.tables = λ i. d (p + a.count i) (a.tables i) in
      record {
        count = omega (arith, length-append o.code (v q o.tables).code, length-append r.code (d (p + length r.code) r.tables).code, a.count, b.count, ap (λ (z : Out). length z.code) moved);
        tables = b.tables ∙ ap (λ (z : Out). z.tables) moved;
      };
}

even-knowing : {f g : SoFar → Emit} → ((k : SoFar) → Evenly (f k) (g k)) → Evenly (knowing f) (knowing g)
unfolding knowing
even-knowing F = record { at = λ p t. (F (so_far t)).at p t }

even-ahead : (m n : ℕ) → Evenly (ahead m) (ahead n)
unfolding ahead here emits
even-ahead m n = record { at = λ p t. record { count = refl; tables = refl } }

even-back : (m n : ℕ) → Evenly (back m) (back n)
unfolding back here emits
even-back m n = record { at = λ p t. record { count = refl; tables = refl } }

mutual
  unfolding write_stmt write_block write_branches

  even-stmt : (slots : List Name) (keep : Keeping) (v w : Loop) (s : Stmt) → Evenly (write_stmt slots keep v s) (write_stmt slots keep w s)
  even-stmt slots keep v w break = even-ahead v.end w.end
  even-stmt slots keep v w continue = even-back v.start w.start
  even-stmt slots keep v w pass = even-same
  even-stmt slots keep v w (expr e) = even-same
  even-stmt slots keep v w (return e) = even-same
  even-stmt slots keep v w (assign t e) = even-same
  even-stmt slots keep v w (if bs) = even-branches slots keep v w bs
  even-stmt slots keep v w (while c b) = even-same
  even-stmt slots keep v w (for x e b) = even-same
  even-stmt slots keep v w (def x ps b) = even-same
  even-stmt slots keep v w (class x ms vs) = even-same

  even-block : (slots : List Name) (keep : Keeping) (v w : Loop) (b : Block) → Evenly (write_block slots keep v b) (write_block slots keep w b)
  even-block slots keep v w []ᵇ = even-same
  even-block slots keep v w (s ∷ᵇ b) = even-seq (even-stmt slots keep v w s) (even-block slots (past (loops_stmt s) keep) v w b)

  even-branches : (slots : List Name) (keep : Keeping) (v w : Loop) (r : Branches) → Evenly (write_branches slots keep v r) (write_branches slots keep w r)
  even-branches slots keep v w done = even-same
  even-branches slots keep v w (else b) = even-block slots keep v w b
  even-branches slots keep v w (when c b r) =
      even-knowing (λ k. even-seq even-same (even-seq even-same (even-seq (even-block slots keep v w b) (even-seq even-same (even-branches slots (past (loops_block b) keep) v w r)))))

-- ---- what is written beside what is emitted

-- w gives as many instructions as e, and the same tables, where the functions' names are symbols
pub record Beside (w e : Emit) : Type 0 where
  pub at : (p : ℕ) (t : Tables) → AllSpelled t → Even (w p t) (e p t)

-- the loop that a part would fill from its first instruction on
beside-in : {l : Bool} {w : Loop → Emit} {e : Emit} → AlikeIn l w e → ((v u : Loop) → Evenly (w v) (w u)) → (v : Loop) → Beside (w v) e
beside-in {l} {w} {e} A F v = record {
  at = λ p t N.
      let n = length (e p t).code in
      let u : Loop = record { start = p; end = p + suc n } in
      let b = (F v u).at p t in
      let c = A.same u 0 n 0 p t N (λ x. record { place = omega arith; end = omega arith; fits = omega arith }) in
      record {
        count = b.count ∙ ap (λ (o : Out). length o.code) c ∙ length-patch 0 n 0 (e p t).code;
        tables = b.tables ∙ ap (λ (o : Out). o.tables) c;
      };
}

counted-beside : {n : SoFar → ℕ} {f : SoFar → SoFar} {w e : Emit} → Beside w e → Counted n f e → Counted n f w
counted-beside {n} {f} {w} {e} B C = record {
  at = λ k p t K.
      let b = B.at p t (record { spelled = K.spelled }) in
      let c = C.at k p t K in
      record {
        count = b.count ∙ c.count;
        knows = subst (Knows (f k)) (sym b.tables) c.knows;
        more = subst (λ (u : Tables). More (class_names t.classes) (class_names u.classes)) (sym b.tables) c.more;
      };
}

-- so many functions and classes begin in a part, where the functions' names are symbols
pub record Heading (h : ℕ) (e : Emit) : Type 0 where
  pub at : (p : ℕ) (t : Tables) → AllSpelled t → begun t + h ≤ begun (e p t).tables

heading-beside : {h : ℕ} {w e : Emit} → Beside w e → Begins h e → Heading h w
heading-beside {h} {w} {e} B G = record { at = λ p t N. subst (λ (u : Tables). begun t + h ≤ begun u) (sym (B.at p t N).tables) (G.at p t) }

-- a part with its measure and the functions and classes that begin in it
pub record Sizes (n : SoFar → ℕ) (f : SoFar → SoFar) (h : ℕ) (e : Emit) : Type 0 where
  pub counted : Counted n f e
  pub heading : Heading h e

module _ (l : Bool) (slots : List Name) (keep : Keeping) (v : Loop) where
  pub sizes-stmt : (a : Stmt) → ask_stmt 7 l a ≡ true → OkS l a → Sizes (λ k. measure_stmt slots k a) (after_stmt a) (heads_stmt a) (write_stmt slots keep v a)
  sizes-stmt a h k =
      let b = beside-in (alike-stmt l slots keep a h k) (λ x y. even-stmt slots keep x y a) v in
      record { counted = counted-beside b (counted-stmt l slots keep a h); heading = heading-beside b (begins-stmt slots keep a) }

  pub sizes-block : (b : Block) → ask_block 7 l b ≡ true → OkB l b → Sizes (λ k. measure_block slots k b) (after_block b) (heads_block b) (write_block slots keep v b)
  sizes-block b h k =
      let c = beside-in (alike-block l slots keep b h k) (λ x y. even-block slots keep x y b) v in
      record { counted = counted-beside c (counted-block l slots keep b h); heading = heading-beside c (begins-block slots keep b) }

  pub sizes-branches : (r : Branches) → ask_branches 7 l r ≡ true → OkR l r → Sizes (λ k. measure_branches slots k r) (after_branches r) (heads_branches r) (write_branches slots keep v r)
  unfolding write_stmt measure_stmt after_stmt heads_stmt ask_stmt
  sizes-branches r h k = sizes-stmt (if r) h k

-- ---- a part that is over the limits

-- a part of more instructions than the limit, or in which more functions and classes begin than there is room to note
pub sizes-over : {n : SoFar → ℕ} {f : SoFar → SoFar} {h : ℕ} {e : Emit} (l : Limits) (base : ℕ) (s : State) (heads size : ℕ) → Sizes n f h e → Lengthens e → AllSpelled s.tables → Limited l
    → heads ≤ h → size ≤ n (so_far s.tables) → (heads ≤ 320 → l.instructions < size) → WithinLimits l (emit_at base e s) → ⊥
unfolding emit_at
sizes-over {n} {f} {h} {e} l base s heads size Z E N L less few over w = go (ltb 320 heads) refl
  where
    p : ℕ
    p = length s.stack - base

    counted : length (e p s.tables).code ≡ n (so_far s.tables)
    counted = (Z.counted.at (so_far s.tables) p s.tables (knows-itself s.tables N.spelled)).count

    go : (b : Bool) → ltb 320 heads ≡ b → ⊥
    go true q =
        let m = ltb-true 320 heads q in
        let b = Z.heading.at p s.tables N in
        omega (arith, w.functions, w.classes, L.functions, L.classes)
    go false q =
        let m = over (ltb-false 320 heads q) in
        omega (arith, counted, w.instructions, length-append s.stack (e p s.tables).code)
