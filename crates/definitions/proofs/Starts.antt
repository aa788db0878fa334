-- Every statement of a function, and its end, starts at height 0.
use mathlib.Core.Path.{◌≡◌, refl, sym, ap, ◌∙◌, subst}
use mathlib.Core.Bool.{Bool, true, false}
use mathlib.Core.Option.{Option, none as nothing, some}
use mathlib.Core.List.{List, [], ◌∷◌, ◌++◌}
use Prim.Native.Nat.{ℕ, suc, ◌+◌, ◌≤◌, ◌<◌}
use native.Mathlib.Omega.{arith}
use lib.ListN.{length, get_or, length-append}
use Rattle.definitions.specs.Bytes.{Name, position, same}
use Rattle.definitions.specs.Tree
use Rattle.definitions.specs.Tree.{Expr, Stmt, Block, Branches}
use Rattle.definitions.specs.Instruction.{Instr, Jump, JumpIfFalse, Return, minus, flow}
use Rattle.definitions.specs.Slots.{Keeping, in_globals, in_slots, past, Frame, loops_stmt, loops_block}
use Rattle.definitions.specs.Tables.{Tables, Body, Emit, add_symbol, emits, ◌⨟◌, here, intern}
use Rattle.definitions.specs.Lower
use Rattle.definitions.specs.Lower.{patch, emit_expr, emit_stmt, emit_block, emit_branches, emit_body, Keeper, global, local, named_iter, kept_iter, iter_name}
use Rattle.definitions.specs.Stack.{following}
use Rattle.definitions.specs.Starts.{Places, nowhere, just_here, both, onward, one_on, starts_stmt, starts_block, starts_branches, starts_body}
use Rattle.definitions.proofs.Shape.{asks, flat, length-patch, settled-flat, patch-settled, patch-append, patch-asks, patch-jump, patch-flat, pend-flat}
use Rattle.definitions.proofs.Follow.{Has, has-tail, has_left, has_right, has-whole}
use Rattle.definitions.proofs.Level.{ends, past-asks, past-jump}
use Rattle.definitions.proofs.Every.{Every, no_every, every, every_append}
use Rattle.definitions.proofs.Part.{found}
use Rattle.definitions.proofs.PartStmt.{OkS, OkB, OkR}
use Rattle.definitions.proofs.Fit.{FitS, FitB, FitR}
use Rattle.definitions.proofs.Fit.{break_f, continue_f, pass_f, expr_f, return_f, assign_f, if_f, while_f, for_f, def_f, class_f, nil_b, cons_b, done_f, else_f, when_f}
use Rattle.definitions.proofs.Fine.{FullS, FullB, FullR, Closes, closes_return, closes_init, Fine, fine_block, fine_expr}
use Rattle.definitions.proofs.Rise.{Rises, rises-length, Rise, rise-seq}
use Rattle.definitions.proofs.RiseExpr.{rise-expr}
use Rattle.definitions.proofs.RiseStmt.{whole, rise-make_iter, rise-store_iter, rise-ask_iter, rise-take_iter, rise-stmt, rise-block}

module _ (W : List Instr) (H : ℕ → ℕ) (next : (p : ℕ) → p < length W → H (suc p) ≡ following (flow (get_or W p Return).op) (get_or W p Return) (H p)) where
  -- a place of the code, at height 0
  abbrev Zero : ℕ → Type 0
  Zero q = (q < length W) × (H q ≡ 0)

  -- the code of two parts, one after the other
  split-left : (is js : List Instr) (p h m i : ℕ) → Has W p (patch h m i (is ++ js)) → Has W p (patch h m i is)
  split-left is js p h m i a = has_left W (patch h m i is) (patch h m (i + length is) js) (rw (patch-append h m i (i + length is) is js refl) at a)

  split-right : (is js : List Instr) (p h m i : ℕ) → Has W p (patch h m i (is ++ js)) → Has W (p + length is) (patch h m (i + length is) js)
  split-right is js p h m i a =
      has_right W (patch h m i is) (patch h m (i + length is) js) p (p + length is) (ap (λ (z : ℕ). p + z) (sym (length-patch h m i is))) (rw (patch-append h m i (i + length is) is js refl) at a)

  -- after a part that rises from u to k
  rises-ends : {l : Bool} {is : List Instr} {u k : ℕ} → Rises l is u k → (p q h m i : ℕ) → q ≡ p + length is → q ≤ length W → Has W p (patch h m i is) → H p ≡ u → H q ≡ k
  rises-ends {l} {is} A p q h m i e g a s =
      ends W H next A.code l A.ok A.level p q h m i (omega (arith, rises-length A)) g
      (subst (λ (z : List Instr). Has W p z) (ap (patch h m i) A.emitted ∙ patch-flat A.code l A.ok h m i) a) s

  -- a loop around leaves a loop's inside as it is
  inside-calm : {js : List Instr} {u k : ℕ} → Rises true js u k → (h m i n : ℕ) (x : ℕ) → patch h m i (patch n x 0 js) ≡ patch n x 0 js
  inside-calm {js} B h m i n x =
      let e : patch n x 0 js ≡ flat B.code n x 0 = ap (patch n x 0) B.emitted ∙ patch-flat B.code true B.ok n x 0 in
      rw e (patch-settled h m i (settled-flat B.code true B.ok n x 0))

  -- in a part that starts at height u, the places of f are at 0
  record Zeros (e : Emit) (u : ℕ) (f : Places) : Type 0 where
    at : (p : ℕ) (t : Tables) (h m i : ℕ) → Has W p (patch h m i (e p t).code) → p + length (e p t).code < length W → H p ≡ u → Every Zero (f p t)

  zeros-none : {e : Emit} {u : ℕ} → Zeros e u nowhere
  unfolding nowhere
  zeros-none = record { at = λ p t h m i a g s. no_every }

  zeros-after : {l : Bool} {e f : Emit} {u v : ℕ} {F : Places} → Rise l e u v → Zeros f v F → Zeros (e ⨟ f) u (onward e F)
  unfolding ◌⨟◌ onward
  zeros-after {l} {e} {f} {u} {v} {F} A B = record {
    at = λ p t h m i a g s.
        let o = e p t in
        let q = p + length o.code in
        let r = f q o.tables in
        let g' : q + length r.code < length W = omega (arith, length-append o.code r.code) in
        B.at q o.tables h m (i + length o.code) (split-right o.code r.code p h m i a) g'
        (rises-ends (A.at p t) p q h m i refl (omega arith) (split-left o.code r.code p h m i a) s);
  }

  zeros-loop : {l : Bool} {e f : Emit} {F : Places} → Rise l e 0 1 → Rise true f 0 0 → Zeros f 0 F → Zeros (Lower.loop e f) 0 (onward e (one_on F))
  unfolding Lower.loop onward one_on
  zeros-loop {l} {e} {f} {F} A B Z = record {
    at = λ p t h m i a g s.
        let o = e p t in
        let q = p + length o.code in
        let r = f (suc q) o.tables in
        let x = suc (length o.code) in
        let n = length r.code in
        let tail = patch x n 0 r.code ++ (Jump (minus (suc (x + n))) ∷ []) in
        let j = i + length o.code in
        let g' : suc q + n < length W = omega (arith, length-append o.code (JumpIfFalse (suc n) ∷ tail), length-append (patch x n 0 r.code) (Jump (minus (suc (x + n))) ∷ []), length-patch x n 0 r.code) in
        let a₁ : Has W q (patch h m j (JumpIfFalse (suc n) ∷ tail)) = split-right o.code (JumpIfFalse (suc n) ∷ tail) p h m i a in
        let a₂ : Has W q (asks false (suc n) ∷ patch h m (suc j) tail) = subst (λ (z : List Instr). Has W q z) (patch-asks false h m j (suc n) tail) a₁ in
        let a₃ : Has W (suc q) (patch h m (suc j) (patch x n 0 r.code)) = split-left (patch x n 0 r.code) (Jump (minus (suc (x + n))) ∷ []) (suc q) h m (suc j) (has-tail W a₂) in
        let s₁ : H q ≡ 1 = rises-ends (A.at p t) p q h m i refl (omega arith) (split-left o.code (JumpIfFalse (suc n) ∷ tail) p h m i a) s in
        Z.at (suc q) o.tables x n 0 (subst (λ (z : List Instr). Has W (suc q) z) (inside-calm (B.at (suc q) o.tables) h m (suc j) x n) a₃) g'
        (past-asks W H next false (suc n) 0 a₂ (omega arith) s₁);
  }

  zeros-named : {f : ℕ → Emit} {u : ℕ} {F : ℕ → Places} → ((g : ℕ) → Zeros (f g) u (F g)) → Zeros (named_iter f) u (named_iter F)
  unfolding named_iter here intern
  zeros-named {f} {u} {F} Z = record { at = λ p t. go p t (position (same (iter_name p)) t.symbols) (length t.symbols) }
    where
      go : (p : ℕ) (t : Tables) (o : Option ℕ) (n h m i : ℕ) → Has W p (patch h m i (found (add_symbol (iter_name p)) f o n p t).code)
          → p + length (found (add_symbol (iter_name p)) f o n p t).code < length W → H p ≡ u → Every Zero (found (add_symbol (iter_name p)) F o n p t)
      go p t (some k) n h m i = (Z k).at p t h m i
      go p t nothing n h m i = (Z n).at p (add_symbol (iter_name p) t) h m i

  zeros-iter : {f : Keeper → Emit} {u : ℕ} {F : Keeper → Places} (keep : Keeping) → ((g : Keeper) → Zeros (f g) u (F g)) → Zeros (kept_iter keep f) u (kept_iter keep F)
  unfolding kept_iter
  zeros-iter in_globals Z = zeros-named (λ j. Z (global j))
  zeros-iter (in_slots n) Z = Z (local n)

  -- a statement and the block after it
  zeros-cons : {l : Bool} {e f : Emit} {F G : Places} → Rise l e 0 0 → Zeros e 0 F → Zeros f 0 G → Zeros (e ⨟ f) 0 (both just_here (both F (onward e G)))
  unfolding both just_here ◌⨟◌
  zeros-cons {l} {e} {f} {F} {G} A Z Y = record {
    at = λ p t h m i a g s.
        let o = e p t in
        let r = f (p + length o.code) o.tables in
        let z : Zero p = (omega arith, s) in
        every z
        (every_append (Z.at p t h m i (split-left o.code r.code p h m i a) (omega (arith, length-append o.code r.code)) s)
        ((zeros-after A Y).at p t h m i a g s));
  }

  zeros-when : {l : Bool} (slots : List Name) (keep : Keeping) (c : Expr) (b : Block) (r : Branches) → Rise l (emit_expr slots c) 0 1 → Rise l (emit_block slots keep b) 0 0
      → Zeros (emit_block slots keep b) 0 (starts_block slots keep b)
      → Zeros (λ p t. (emit_branches slots (past (loops_block b) keep) r p t).out) 0 (starts_branches slots (past (loops_block b) keep) r)
      → Zeros (λ p t. (emit_branches slots keep (Tree.when c b r) p t).out) 0 (starts_branches slots keep (Tree.when c b r))
  unfolding emit_branches starts_branches onward one_on both
  zeros-when {l} slots keep c b r A B ZB ZR = record {
    at = λ p t h m i a g s.
        let o = emit_expr slots c p t in
        let q = p + length o.code in
        let w = emit_block slots keep b (suc q) o.tables in
        let n = length w.code in
        let y = suc q + suc n in
        let k = emit_branches slots (past (loops_block b) keep) r y w.tables in
        let rest = Jump k.hop ∷ k.out.code in
        let j = i + length o.code in
        let e : y ≡ suc (suc q + n) = omega arith in
        let a₁ : Has W q (patch h m j (JumpIfFalse (suc n) ∷ (w.code ++ rest))) = split-right o.code (JumpIfFalse (suc n) ∷ (w.code ++ rest)) p h m i a in
        let a₂ : Has W q (asks false (suc n) ∷ patch h m (suc j) (w.code ++ rest)) = subst (λ (z : List Instr). Has W q z) (patch-asks false h m j (suc n) (w.code ++ rest)) a₁ in
        let a₃ : Has W (suc q) (patch h m (suc j) w.code) = split-left w.code rest (suc q) h m (suc j) (has-tail W a₂) in
        let a₄ : Has W (suc q + n) (patch h m (suc j + n) rest) = split-right w.code rest (suc q) h m (suc j) (has-tail W a₂) in
        let a₅ : Has W (suc q + n) (Jump k.hop ∷ patch h m (suc (suc j + n)) k.out.code) = subst (λ (z : List Instr). Has W (suc q + n) z) (patch-jump h m (suc j + n) k.hop k.out.code) a₄ in
        let room : suc (suc q + n) + length k.out.code < length W = omega (arith, length-append o.code (JumpIfFalse (suc n) ∷ (w.code ++ rest)), length-append w.code rest) in
        let s₁ : H q ≡ 1 = rises-ends (A.at p t) p q h m i refl (omega arith) (split-left o.code (JumpIfFalse (suc n) ∷ (w.code ++ rest)) p h m i a) s in
        let s₂ : H (suc q) ≡ 0 = past-asks W H next false (suc n) 0 a₂ (omega arith) s₁ in
        let s₃ : H (suc q + n) ≡ 0 = rises-ends (B.at (suc q) o.tables) (suc q) (suc q + n) h m (suc j) refl (omega arith) a₃ s₂ in
        let s₄ : H (suc (suc q + n)) ≡ 0 = past-jump W H next 0 a₅ (omega arith) s₃ in
        every_append (ZB.at (suc q) o.tables h m (suc j) a₃ (omega arith) s₂)
        (subst (λ (z : ℕ). Every Zero (starts_branches slots (past (loops_block b) keep) r z w.tables)) e
        (ZR.at y w.tables h m (suc (suc j + n)) (subst (λ (z : ℕ). Has W z (patch h m (suc (suc j + n)) k.out.code)) (sym e) (has-tail W a₅)) (omega arith) (ap H e ∙ s₄)));
  }

  mutual
    unfolding emit_stmt emit_block emit_branches starts_stmt starts_block starts_branches

    zeros-stmt : (l : Bool) {a : Stmt} {n : ℕ} (slots : List Name) (keep : Keeping) → FitS a n → OkS l a → FullS a → Zeros (emit_stmt slots keep a) 0 (starts_stmt slots keep a)
    zeros-stmt l slots keep break_f k g = zeros-none
    zeros-stmt l slots keep continue_f k g = zeros-none
    zeros-stmt l slots keep pass_f k g = zeros-none
    zeros-stmt l slots keep (expr_f E m) k g = zeros-none
    zeros-stmt l slots keep (return_f E m) k g = zeros-none
    zeros-stmt l slots keep (assign_f A B m) k g = zeros-none
    zeros-stmt l slots keep (if_f R m) k g = let Z = zeros-branches l slots keep R k g in record { at = Z.at }
    zeros-stmt l slots keep (while_f E B m) k g = zeros-loop {l = l} (rise-expr slots E 0) (whole (rise-block true slots keep B k g)) (zeros-block true slots keep B k g)
    zeros-stmt l slots keep (for_f {x} z E B m) k g =
        zeros-after {l = l} (rise-expr slots E 0)
        (zeros-after {l = l} rise-make_iter
        (zeros-iter keep (λ j.
        zeros-after {l = l} (rise-store_iter j)
        (zeros-loop {l = l} (rise-ask_iter j) (rise-seq (rise-take_iter slots x j) (whole (rise-block true slots (past 1 keep) B k g)))
        (zeros-after {l = l} (rise-take_iter slots x j) (zeros-block true slots (past 1 keep) B k g))))))
    zeros-stmt l slots keep (def_f z w B m) k g = zeros-none
    zeros-stmt l slots keep (class_f z M m) k g = zeros-none

    zeros-block : (l : Bool) {b : Block} {n : ℕ} (slots : List Name) (keep : Keeping) → FitB b n → OkB l b → FullB b → Zeros (emit_block slots keep b) 0 (starts_block slots keep b)
    zeros-block l slots keep nil_b k g = zeros-none
    zeros-block l slots keep (cons_b {s} S B m) k g =
        zeros-cons (rise-stmt l slots keep S k.0 g.0) (zeros-stmt l slots keep S k.0 g.0) (zeros-block l slots (past (loops_stmt s) keep) B k.1 g.1)

    zeros-branches : (l : Bool) {r : Branches} {n : ℕ} (slots : List Name) (keep : Keeping) → FitR r n → OkR l r → FullR r → Zeros (λ p t. (emit_branches slots keep r p t).out) 0 (starts_branches slots keep r)
    zeros-branches l slots keep done_f k g = zeros-none
    zeros-branches l slots keep (else_f B m) k g = let Z = zeros-block l slots keep B k g in record { at = Z.at }
    zeros-branches l slots keep (when_f {c} {b} {r} C B R m) k g =
        zeros-when slots keep c b r (rise-expr {l = l} slots C 0) (whole (rise-block l slots keep B k.0 g.0)) (zeros-block l slots keep B k.0 g.0)
        (zeros-branches l slots (past (loops_block b) keep) R k.1 g.1)

  -- outside a loop nothing is pending
  settled-code : {is : List Instr} {u k : ℕ} → Rises false is u k → is ≡ patch 0 0 0 is
  settled-code {is} A = A.emitted ∙ pend-flat A.code A.ok 0 0 0 ∙ sym (patch-flat A.code false A.ok 0 0 0) ∙ ap (patch 0 0 0) (sym A.emitted)

  closes-some : {end : List Instr} → Closes end → 1 ≤ length end
  closes-some closes_return = omega arith
  closes-some closes_init = omega arith

  pub zeros-body : {body : Body} (f : Frame) (t : Tables) → Fine body → W ≡ (emit_body f body 0 t).code → H 0 ≡ 0 → Every Zero (starts_body f body 0 t)
  unfolding emit_body starts_body ◌⨟◌ emits both onward just_here
  zeros-body f t (fine_block {b} {end} F k g c) e s =
      let o = emit_block f.names f.keep b 0 t in
      let A = (whole (rise-block false f.names f.keep F k g)).at 0 t in
      let a : Has W 0 (patch 0 0 0 o.code) = subst (λ (z : List Instr). Has W 0 z) (settled-code A) (has_left W o.code end (subst (λ (z : List Instr). Has W 0 z) e (has-whole W))) in
      let room : 0 + length o.code < length W = omega (arith, ap length e, length-append o.code end, closes-some c) in
      let last : Zero (0 + length o.code) = (room, rises-ends A 0 (0 + length o.code) 0 0 0 refl (omega arith) a s) in
      every_append ((zeros-block false f.names f.keep F k g).at 0 t 0 0 0 a room s) (every last no_every)
  zeros-body f t (fine_expr {e = x} F) e s =
      let o = emit_expr f.names x 0 t in
      let z : Zero 0 = (omega (arith, ap length e, length-append o.code (Return ∷ [])), s) in
      every z no_every
