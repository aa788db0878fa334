-- Statements that the measured lowering writes as the lowering leaves them once the loops around them are done.
use mathlib.Core.Path.{◌≡◌, refl, sym, ap, ◌∙◌}
use mathlib.Core.Bool.{Bool, true, false, ◌&&◌}
use mathlib.Core.List.{List, [], ◌∷◌, ◌++◌, append-nil}
use Prim.Native.Nat.{ℕ, suc, ◌+◌, ◌-◌}
use native.Mathlib.Omega.{arith}
use lib.ListN.{length, length-append}
use lib.Dec.{T}
use Rattle.definitions.specs.Bytes.{Name, all}
use Rattle.definitions.specs.Tree.{Expr, View, as_var, as_attr, as_index, as_tuple, as_other, view, Attribute}
use Rattle.definitions.specs.Tree.{Stmt, break, continue, pass, expr, return, assign, if, while, for, def, class}
use Rattle.definitions.specs.Tree.{Block, []ᵇ, ◌∷ᵇ◌, Branches, done, else, when, Methods, []ᵐ, method}
use Rattle.definitions.specs.Wellformed.{ask_name, ask_params, ask_method, ask_attribute, ask_expr, ask_target, ask_stmt, ask_block, ask_branches, ask_methods}
use Rattle.definitions.specs.Slots.{Keeping, in_globals, in_slots, past, Frame, with_loops, loops_stmt, loops_block}
use Rattle.definitions.specs.Instruction.{Instr, Jump, JumpIfFalse, Return, Break, Continue, minus}
use Rattle.definitions.specs.Tables.{Method, Tables, block_body, Source, Out, Emit, emits, one, ◌⨟◌, here, function}
use Rattle.definitions.specs.Lower
use Rattle.definitions.specs.Lower.{patch, patched, emit_expr, assign_by, make_iter, Keeper, global, local, named_iter, kept_iter, store_iter}
use Rattle.definitions.specs.Lower.{iter_name, ask_iter, take_iter, method_end, begin_class, class_out, emit_stmt, emit_block, emit_branches, emit_methods, Members}
use Rattle.definitions.specs.Walk.{Walked, Walk}
use Rattle.definitions.specs.Measured.{SoFar, so_far, knowing, measure_stmt, measure_block, measure_loop, after_stmt, after_block, measure_hop}
use Rattle.definitions.specs.Measured.{Loop, no_loop, ahead, back, write_expr, write_assign, write_loop, write_for, write_stmt, write_block, write_branches, write_methods}
use Rattle.definitions.specs.Statements.{LiesIn, patch_out}
use Rattle.definitions.proofs.Truth.{left, right}
use Rattle.definitions.proofs.Shape.{length-patch, patch-append, patch-asks, patch-jump, patch-flat, pend-flat}
use Rattle.definitions.proofs.Meaning.{Meaning}
use Rattle.definitions.proofs.Part.{Part, Leaf, part-adds}
use Rattle.definitions.proofs.PartExpr.{part-expr}
use Rattle.definitions.proofs.PartStmt.{OkS, OkB, OkR, OkM, leaf-take_iter, part-stmt, part-block, part-blocks}
use Rattle.definitions.proofs.SoFarNames.{knows-itself}
use Rattle.definitions.proofs.Counted.{Counted, CountedSame, counted-emits, counted-seq}
use Rattle.definitions.proofs.CountedExpr.{counted-store, counted-expr}
use Rattle.definitions.proofs.CountedStmt.{CountedBlock, CountedBranches, AskedView, target-asked, asked-view}
use Rattle.definitions.proofs.CountedStmt.{counted-unpack, counted-make_iter, counted-ask_iter, counted-take_iter, counted-stmt, counted-block, counted-branches}
use Rattle.definitions.proofs.Alike.{AllSpelled, Alike, spelled-after, seq-at, alike_same, alike-emits, alike-one, alike-seq, alike-symbol, alike-here, alike-function, alike-expr}

-- what a part gives, by its code
abbrev coded : List Instr → Tables → List Source → Out
coded is t gs = record { code = is; tables = t; sources = gs }

-- ---- code with the loop around it done

-- code without pending breaks and continues stays as it is
meaning-final : {is : List Instr} {v : List ℕ → Walked} → Meaning false is v → (h n i : ℕ) → patch h n i is ≡ is
meaning-final {is} M h n i = ap (patch h n i) M.emitted ∙ patch-flat M.code false M.ok h n i ∙ sym (pend-flat M.code M.ok h n i) ∙ sym M.emitted

-- no break or continue of a loop around is pending in the part
pub record Final (e : Emit) : Type 0 where
  pub at : (h n i p : ℕ) (t : Tables) → patch_out h n i (e p t) ≡ e p t

pub final-part : {e : Emit} {w : Walk} → Part false e w → Final e
final-part {e} P = record { at = λ h n i p t. ap (λ (is : List Instr). coded is (e p t).tables (e p t).sources) (meaning-final (P.at p t) h n i) }

final-leaf : {e : Emit} → Leaf e → Final e
final-leaf L = final-part (part-adds L)

-- ---- parts in a loop

-- In a loop (l) w writes what e emits, with its breaks and continues made jumps
pub record AlikeIn (l : Bool) (w : Loop → Emit) (e : Emit) : Type 0 where
  pub same : (v : Loop) (h n i p : ℕ) (t : Tables) → AllSpelled t → (T l → LiesIn v h n i p (length (e p t).code)) → w v p t ≡ patch_out h n i (e p t)
  pub keeps : (p : ℕ) (t : Tables) → AllSpelled t → AllSpelled (e p t).tables

-- a part without breaks and continues of its own
pub alike-final : {l : Bool} {w e : Emit} → Alike w e → Final e → AlikeIn l (λ v. w) e
alike-final W Q = record { same = λ v h n i p t N f. W.same p t N ∙ sym (Q.at h n i p t); keeps = W.keeps }

alike-break : {l : Bool} → T l → AlikeIn l (λ v. ahead v.end) (one Break)
unfolding ahead here emits patch patched
alike-break k = record {
  same = λ v h n i p t N f.
      let z : v.end - suc p ≡ n - i = let L = f k in omega (arith, L.place, L.end, L.fits) in
      ap (λ (m : ℕ). coded (Jump m ∷ []) t []) z;
  keeps = λ p t N. N;
}

alike-continue : {l : Bool} → T l → AlikeIn l (λ v. back v.start) (one Continue)
unfolding back here emits patch patched
alike-continue k = record {
  same = λ v h n i p t N f.
      let z : suc p - v.start ≡ h + suc i = let L = f k in omega (arith, L.place, L.end, L.fits) in
      ap (λ (m : ℕ). coded (Jump (minus m) ∷ []) t []) z;
  keeps = λ p t N. N;
}

-- one part after another
pub alike_then : {l : Bool} {w v : Loop → Emit} {e d : Emit} → AlikeIn l w e → AlikeIn l v d → AlikeIn l (λ x. w x ⨟ v x) (e ⨟ d)
unfolding ◌⨟◌
alike_then {l} {w} {v} {e} {d} A B = record {
  same = λ x h n i p t N f.
      let a = e p t in
      let q = p + length a.code in
      let b = d q a.tables in
      let lengths = length-append a.code b.code in
      seq-at (w x) (v x) p q t (patch_out h n i a) (patch_out h n (i + length a.code) b)
      (A.same x h n i p t N (λ k. let L = f k in record { place = L.place; end = L.end; fits = omega (arith, L.fits, lengths) }))
      (ap (λ (m : ℕ). p + m) (sym (length-patch h n i a.code)))
      (B.same x h n (i + length a.code) q a.tables (A.keeps p t N)
      (λ k. let L = f k in record { place = omega (arith, L.place); end = L.end; fits = omega (arith, L.fits, lengths) }))
      ∙ ap (λ (is : List Instr). coded is b.tables (a.sources ++ b.sources)) (sym (patch-append h n i (i + length a.code) a.code b.code refl));
  keeps = λ p t N. B.keeps (p + length (e p t).code) (e p t).tables (A.keeps p t N);
}

-- outside all loops
pub alike-outside : {w : Loop → Emit} {e : Emit} → AlikeIn false w e → Final e → Alike (w no_loop) e
alike-outside W Q = record { same = λ p t N. W.same no_loop 0 0 0 p t N (λ k. absurd k) ∙ Q.at 0 0 0 p t; keeps = W.keeps }

-- ---- loops

-- the question that passes r instructions and the jump after them; a whole loop
abbrev asking : ℕ → Tables → Out
asking r t = coded (JumpIfFalse (suc r) ∷ []) t []

abbrev loop_code : List Instr → ℕ → List Instr → ℕ → List Instr
loop_code is r js u = is ++ (JumpIfFalse (suc r) ∷ (js ++ (Jump (minus u) ∷ [])))

loop-out : (a b : Out) (h r s u : ℕ) → r ≡ s → u ≡ suc (h + s)
    → coded (loop_code a.code r (patch h s 0 b.code) u) b.tables (a.sources ++ (b.sources ++ [])) ≡ coded (loop_code a.code s (patch h s 0 b.code) (suc (h + s))) b.tables (a.sources ++ b.sources)
loop-out a b h r s u e f = rw (e, f, append-nil b.sources)

alike-loop : {m n : SoFar → ℕ} {g : SoFar → SoFar} {w e : Emit} {v : Loop → Emit} {d : Emit} → Alike w e → CountedSame m e → AlikeIn true v d → Counted n g d
    → Alike (knowing (λ k. write_loop (m k) (n k) w v)) (Lower.loop e d)
unfolding knowing write_loop here Lower.loop measure_loop emits back
alike-loop {m} {n} {w} {e} {v} {d} W E I D = record {
  same = λ p t N.
      let k = so_far t in
      let A = E.at k p t (knows-itself t N.spelled) in
      let a = e p t in
      let h = suc (length a.code) in
      let q = suc (p + length a.code) in
      let B = D.at k q a.tables A.knows in
      let b = d q a.tables in
      let s = length b.code in
      let x : Loop = record { start = p; end = p + measure_loop (m k) (n k) } in
      let ends : p + measure_loop (m k) (n k) ≡ p + suc (h + s) = omega (arith, A.count, B.count) in
      let ready = I.same x h s 0 q a.tables (W.keeps p t N) (λ l. record { place = omega arith; end = ends; fits = omega arith }) in
      let closes =
      seq-at (v x) (back p) q (q + s) a.tables (patch_out h s 0 b) (back p (q + s) b.tables) ready (ap (λ (z : ℕ). q + z) (sym (length-patch h s 0 b.code))) refl in
      let asks = seq-at (one (JumpIfFalse (suc (n k)))) (v x ⨟ back p) (p + length a.code) q a.tables (asking (n k) a.tables) _ refl (omega arith) closes in
      seq-at w (one (JumpIfFalse (suc (n k))) ⨟ v x ⨟ back p) p (p + length a.code) t a _ (W.same p t N) refl asks
      ∙ loop-out a b h (n k) s (suc (q + s) - p) (sym B.count) (omega arith);
  keeps = λ p t N. spelled-after D (suc (p + length (e p t).code)) (e p t).tables (W.keeps p t N);
}

alike-iter : {f g : ℕ → Emit} → ((j : ℕ) → Alike (f j) (g j)) → Alike (named_iter f) (named_iter g)
unfolding named_iter
alike-iter F = alike-here (λ q. alike-symbol (iter_name q) F)

alike-kept : {f g : Keeper → Emit} (keep : Keeping) → ((j : Keeper) → Alike (f j) (g j)) → Alike (kept_iter keep f) (kept_iter keep g)
unfolding kept_iter
alike-kept in_globals F = alike-iter (λ j. F (global j))
alike-kept (in_slots n) F = F (local n)

-- a for: the code of its iterable, and that of its block
alike-for : {n : SoFar → ℕ} {g : SoFar → SoFar} (slots : List Name) (keep : Keeping) (x : Name) {w e : Emit} {v : Loop → Emit} {d : Emit} → Alike w e → AlikeIn true v d → Counted n g d
    → Alike (write_for slots keep x w n v) (e ⨟ make_iter ⨟ kept_iter keep (λ j. one (store_iter j) ⨟ Lower.loop (ask_iter j) (take_iter slots x j ⨟ d)))
unfolding write_for
alike-for slots keep x W I D =
    alike-seq W (alike-seq (alike_same counted-make_iter)
    (alike-kept keep (λ j.
    alike-seq (alike-one _)
    (alike-loop (alike_same (counted-ask_iter j)) (counted-ask_iter j)
    (alike_then (alike-final (alike_same (counted-take_iter slots x j)) (final-leaf (leaf-take_iter slots x j))) I)
    (counted-seq (counted-take_iter slots x j) D)))))

-- ---- assignments

alike-assign : (v : View) (slots : List Name) {w e : Emit} → AskedView v → Alike w e → Alike (write_assign v slots w) (assign_by v slots e)
unfolding write_assign assign_by
alike-assign (as_var x) slots h W = alike-seq W (alike_same (counted-store slots x))
alike-assign (as_attr o x) slots h W = alike-seq (alike-expr slots o h) (alike-seq W (alike-symbol x (λ j. alike-one _)))
alike-assign (as_index o i) slots h W = alike-seq (alike-expr slots o h.0) (alike-seq (alike-expr slots i h.1) (alike-seq W (alike-one _)))
alike-assign (as_tuple es) slots h W = alike-seq W (alike_same (counted-unpack slots es 0))
alike-assign as_other slots h W = alike-emits []

-- ---- branches

pub record AlikeBranches (l : Bool) (slots : List Name) (keep : Keeping) (r : Branches) : Type 0 where
  pub same : (v : Loop) (h n i p : ℕ) (t : Tables) → AllSpelled t → (T l → LiesIn v h n i p (length (emit_branches slots keep r p t).out.code))
      → write_branches slots keep v r p t ≡ patch_out h n i (emit_branches slots keep r p t).out
  pub keeps : (p : ℕ) (t : Tables) → AllSpelled t → AllSpelled (emit_branches slots keep r p t).out.tables

abbrev pub AlikeBlock : Bool → List Name → Keeping → Block → Type 0
AlikeBlock l slots keep b = AlikeIn l (λ v. write_block slots keep v b) (emit_block slots keep b)

alike-done : {l : Bool} (slots : List Name) (keep : Keeping) → AlikeBranches l slots keep done
unfolding write_branches emit_branches emits patch
alike-done slots keep = record { same = λ v h n i p t N f. refl; keeps = λ p t N. N }

alike-else : {l : Bool} (slots : List Name) (keep : Keeping) (b : Block) → AlikeBlock l slots keep b → AlikeBranches l slots keep (else b)
unfolding write_branches emit_branches
alike-else slots keep b B = record { same = B.same; keeps = B.keeps }

-- condition, question, block, end jump and the branches after it
abbrev branch_code : List Instr → ℕ → List Instr → ℕ → List Instr → List Instr
branch_code is m js k ks = is ++ (JumpIfFalse (suc m) ∷ (js ++ (Jump k ∷ ks)))

-- the same in a loop
patch-branch : (h n i m k : ℕ) (is js ks : List Instr)
    → patch h n i (branch_code is m js k ks) ≡ branch_code (patch h n i is) m (patch h n (suc (i + length is)) js) k (patch h n (suc (suc (i + length is) + length js)) ks)
patch-branch h n i m k is js ks =
    patch-append h n i (i + length is) is (JumpIfFalse (suc m) ∷ (js ++ (Jump k ∷ ks))) refl
    ∙ rw (patch-asks false, patch-append h n (suc (i + length is)) (suc (i + length is) + length js) js (Jump k ∷ ks) refl, patch-jump)

branch-out : (is js ks : List Instr) (t : Tables) (gs : List Source) (h n i m m' k k' : ℕ) → m ≡ m' → k ≡ k'
    → coded (branch_code (patch h n i is) m (patch h n (suc (i + length is)) js) k (patch h n (suc (suc (i + length is) + length js)) ks)) t gs ≡ coded (patch h n i (branch_code is m' js k' ks)) t gs
branch-out is js ks t gs h n i m m' k k' e f = rw (e, f, patch-branch h n i m' k' is js ks)

alike-when : {l : Bool} (slots : List Name) (keep : Keeping) (c : Expr) (b : Block) (r : Branches) → ask_expr 7 c ≡ true → CountedBlock slots keep b → CountedBranches slots (past (loops_block b) keep) r
    → AlikeBlock l slots keep b → AlikeBranches l slots (past (loops_block b) keep) r → AlikeBranches l slots keep (when c b r)
unfolding write_branches emit_branches knowing emits
alike-when {l} slots keep c b r g D S B R = record {
  same = λ v h n i p t N f.
      let C = alike-expr slots c g in
      let k = so_far t in
      let a = emit_expr slots c p t in
      let A = (counted-expr slots c g).at k p t (knows-itself t N.spelled) in
      let na = length a.code in
      let q = suc (p + na) in
      let o = emit_block slots keep b q a.tables in
      let O = D.at k q a.tables A.knows in
      let no = length o.code in
      let u = q + suc no in
      let z = emit_branches slots (past (loops_block b) keep) r u o.tables in
      let hops = S.hops (after_block b k) u o.tables O.knows in
      let lengths₁ = length-append a.code (JumpIfFalse (suc no) ∷ o.code ++ Jump z.hop ∷ z.out.code) in
      let lengths₂ = length-append o.code (Jump z.hop ∷ z.out.code) in
      let N₁ = C.keeps p t N in
      let N₂ = B.keeps q a.tables N₁ in
      let first = C.same p t N ∙ sym ((final-part (part-expr false slots c)).at h n i p t) in
      let block =
      B.same v h n (suc (i + na)) q a.tables N₁
      (λ y. let L = f y in record { place = omega (arith, L.place); end = L.end; fits = omega (arith, L.fits, lengths₁, lengths₂) }) in
      let rest =
      R.same v h n (suc (suc (i + na) + no)) u o.tables N₂
      (λ y. let L = f y in record { place = omega (arith, L.place); end = L.end; fits = omega (arith, L.fits, lengths₁, lengths₂) }) in
      let m = measure_block slots k b in
      let j = measure_hop slots (after_block b k) r in
      let jumps =
      seq-at (one (Jump j)) (write_branches slots (past (loops_block b) keep) v r) (q + no) u o.tables (coded (Jump j ∷ []) o.tables [])
      (patch_out h n (suc (suc (i + na) + no)) z.out) refl (omega arith) rest in
      let goes =
      seq-at (write_block slots keep v b) (one (Jump j) ⨟ write_branches slots (past (loops_block b) keep) v r) q (q + no) a.tables
      (patch_out h n (suc (i + na)) o) _ block (ap (λ (x : ℕ). q + x) (sym (length-patch h n (suc (i + na)) o.code))) jumps in
      let asks =
      seq-at (one (JumpIfFalse (suc m))) (write_block slots keep v b ⨟ one (Jump j) ⨟ write_branches slots (past (loops_block b) keep) v r) (p + na) q a.tables
      (asking m a.tables) _ refl (omega arith) goes in
      seq-at (write_expr slots c) (one (JumpIfFalse (suc m)) ⨟ write_block slots keep v b ⨟ one (Jump j) ⨟ write_branches slots (past (loops_block b) keep) v r) p (p + na) t
      (patch_out h n i a) _ first (ap (λ (x : ℕ). p + x) (sym (length-patch h n i a.code))) asks
      ∙ branch-out a.code o.code z.out.code z.out.tables (a.sources ++ (o.sources ++ z.out.sources)) h n i m no j z.hop (sym O.count) (sym hops);
  keeps = λ p t N.
      let a = emit_expr slots c p t in
      let q = suc (p + length a.code) in
      let o = emit_block slots keep b q a.tables in
      R.keeps (q + suc (length o.code)) o.tables (B.keeps q a.tables ((alike-expr slots c g).keeps p t N));
}

-- ---- functions, methods, classes

-- the function of a block, by what its block's code is in no loop
pub alike-body : (x : Name) (arity : ℕ) (frame : Frame) (b : Block) (end : List Instr) → ask_block 7 false b ≡ true → OkB false b → AlikeBlock false frame.names frame.keep b
    → Alike (function x arity frame (block_body b end) (write_block frame.names frame.keep no_loop b ⨟ emits end)) (function x arity frame (block_body b end) (emit_block frame.names frame.keep b ⨟ emits end))
alike-body x arity frame b end h k B =
    alike-function x arity frame (block_body b end)
    (alike-seq (alike-outside B (final-part (part-block (part-blocks false frame.names frame.keep b k)))) (alike-emits end)) (counted-seq (counted-block false frame.names frame.keep b h) (counted-emits end))

pub record AlikeMethods (m : Methods) : Type 0 where
  pub same : (ms : List Method) (t : Tables) → AllSpelled t → write_methods m ms t ≡ emit_methods m ms t

alike-method : (x : Name) (ps : List Name) (b : Block) (m : Methods) → ask_block 7 false b ≡ true → OkB false b → AlikeBlock false (with_loops ps b).names (with_loops ps b).keep b → AlikeMethods m → AlikeMethods (method x ps b m)
unfolding write_methods emit_methods
alike-method x ps b m h k B M = record {
  same = λ ms t N.
      let inner = with_loops ps b in
      let o = function x (length ps) inner (block_body b (method_end x)) (emit_block inner.names inner.keep b ⨟ emits (method_end x)) 0 t in
      let W = alike-body x (length ps) inner b (method_end x) h k B in
      let more = Lower.insert_method x (length t.functions) ms in
      ap (λ (y : Out). let r = write_methods m more y.tables in record { methods = r.methods; tables = r.tables; sources = y.sources ++ r.sources }) (W.same 0 t N)
      ∙ ap (λ (r : Members). record { methods = r.methods; tables = r.tables; sources = o.sources ++ r.sources }) (M.same more o.tables (W.keeps 0 t N));
}

pub spelled-class : (x : Name) (t : Tables) → AllSpelled t → AllSpelled (begin_class x t)
unfolding begin_class
spelled-class x t N = record { spelled = N.spelled }

same_class : (slots : List Name) (keep : Keeping) (v : Loop) (x : Name) (m : Methods) (vs : List Attribute) → AlikeMethods m → (p : ℕ) (t : Tables) → AllSpelled t
    → write_stmt slots keep v (class x m vs) p t ≡ emit_stmt slots keep (class x m vs) p t
unfolding write_stmt emit_stmt
same_class slots keep v x m vs M p t N = ap (λ (r : Members). class_out x (length t.classes) r p) (M.same [] (begin_class x t) (spelled-class x t N))

-- ---- statements

mutual
  unfolding write_stmt write_block write_methods emit_stmt emit_block emit_methods measure_stmt measure_block after_stmt after_block ask_stmt ask_block ask_branches ask_methods ask_target

  pub alike-stmt : (l : Bool) (slots : List Name) (keep : Keeping) (a : Stmt) → ask_stmt 7 l a ≡ true → OkS l a → AlikeIn l (λ v. write_stmt slots keep v a) (emit_stmt slots keep a)
  alike-stmt l slots keep break h k = alike-break k
  alike-stmt l slots keep continue h k = alike-continue k
  alike-stmt l slots keep pass h k = alike-final (alike-emits []) (final-part (part-stmt false slots keep pass tt))
  alike-stmt l slots keep (expr e) h k = alike-final (alike-seq (alike-expr slots e h) (alike-one _)) (final-part (part-stmt false slots keep (expr e) tt))
  alike-stmt l slots keep (return e) h k = alike-final (alike-seq (alike-expr slots e h) (alike-one _)) (final-part (part-stmt false slots keep (return e) tt))
  alike-stmt l slots keep (assign t e) h k =
      alike-final (alike-assign (view t) slots (asked-view t (target-asked t (left (ask_target 7 t) (ask_expr 7 e) h))) (alike-expr slots e (right (ask_target 7 t) (ask_expr 7 e) h)))
      (final-part (part-stmt false slots keep (assign t e) tt))
  alike-stmt l slots keep (if bs) h k = let R = alike-branches l slots keep bs h k in record { same = R.same; keeps = R.keeps }
  alike-stmt l slots keep (while c b) h k =
      let g = left (ask_expr 7 c) (ask_block 7 true b) h in
      let d = right (ask_expr 7 c) (ask_block 7 true b) h in
      alike-final (alike-loop (alike-expr slots c g) (counted-expr slots c g) (alike-block true slots keep b d k) (counted-block true slots keep b d))
      (final-part (part-stmt false slots keep (while c b) k))
  alike-stmt l slots keep (for x e b) h k =
      let g = right (ask_name 7 x) (ask_expr 7 e) (left (ask_name 7 x && ask_expr 7 e) (ask_block 7 true b) h) in
      let d = right (ask_name 7 x && ask_expr 7 e) (ask_block 7 true b) h in
      alike-final (alike-for slots keep x (alike-expr slots e g) (alike-block true slots (past 1 keep) b d k) (counted-block true slots (past 1 keep) b d)) (final-part (part-stmt false slots keep (for x e b) k))
  alike-stmt l slots keep (def x ps b) h k =
      let inner = with_loops ps b in
      let d = right (ask_name 7 x && ask_params 7 ps) (ask_block 7 false b) h in
      alike-final (alike-body x (length ps) inner b (Return ∷ []) d k (alike-block false inner.names inner.keep b d k)) (final-part (part-stmt false slots keep (def x ps b) k))
  alike-stmt l slots keep (class x ms vs) h k =
      let d = right (ask_name 7 x) (ask_methods 7 ms) (left (ask_name 7 x && ask_methods 7 ms) (all (ask_attribute 7) vs) h) in
      let M = alike-methods ms d k in
      alike-final (record { same = λ p t N. same_class slots keep no_loop x ms vs M p t N; keeps = spelled-after (counted-stmt l slots keep (class x ms vs) h) })
      (final-part (part-stmt false slots keep (class x ms vs) k))

  pub alike-block : (l : Bool) (slots : List Name) (keep : Keeping) (b : Block) → ask_block 7 l b ≡ true → OkB l b → AlikeBlock l slots keep b
  alike-block l slots keep []ᵇ h k = alike-final (alike-emits []) (final-part (part-stmt false slots keep pass tt))
  alike-block l slots keep (a ∷ᵇ b) h k = alike_then (alike-stmt l slots keep a (left (ask_stmt 7 l a) (ask_block 7 l b) h) k.0) (alike-block l slots (past (loops_stmt a) keep) b (right (ask_stmt 7 l a) (ask_block 7 l b) h) k.1)

  pub alike-branches : (l : Bool) (slots : List Name) (keep : Keeping) (r : Branches) → ask_branches 7 l r ≡ true → OkR l r → AlikeBranches l slots keep r
  alike-branches l slots keep done h k = alike-done slots keep
  alike-branches l slots keep (else b) h k = alike-else slots keep b (alike-block l slots keep b h k)
  alike-branches l slots keep (when c b r) h k =
      let s = left (ask_expr 7 c && ask_block 7 l b) (ask_branches 7 l r) h in
      let g = left (ask_expr 7 c) (ask_block 7 l b) s in
      let d = right (ask_expr 7 c) (ask_block 7 l b) s in
      let z = right (ask_expr 7 c && ask_block 7 l b) (ask_branches 7 l r) h in
      alike-when slots keep c b r g (counted-block l slots keep b d) (counted-branches l slots (past (loops_block b) keep) r z) (alike-block l slots keep b d k.0) (alike-branches l slots (past (loops_block b) keep) r z k.1)

  pub alike-methods : (m : Methods) → ask_methods 7 m ≡ true → OkM m → AlikeMethods m
  alike-methods []ᵐ h k = record { same = λ ms t N. refl }
  alike-methods (method x ps b m) h k =
      let s = left (ask_method 7 x ps && ask_block 7 false b) (ask_methods 7 m) h in
      let inner = with_loops ps b in
      let d = right (ask_method 7 x ps) (ask_block 7 false b) s in
      alike-method x ps b m d k.0 (alike-block false inner.names inner.keep b d k.0) (alike-methods m (right (ask_method 7 x ps && ask_block 7 false b) (ask_methods 7 m) h) k.1)
