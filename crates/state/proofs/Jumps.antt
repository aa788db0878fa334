-- The state after parts with jumps, where a jump is put first as any instruction and set when the part after it is done.
use Prim.Native.Nat.{ℕ, suc, ◌+◌, ◌-◌, ◌≤◌, ◌<◌}
use mathlib.Core.Path.{◌≡◌, refl, sym, ap, ◌∙◌}
use mathlib.Core.List.{List, [], ◌∷◌, ◌++◌, append_assoc, append-nil}
use native.Mathlib.Omega.{arith}
use lib.ListN.{length, take, drop, set, length-append, length-set, length-take, length-drop}
use lib.Seq.{set-append_left, set-append_seam, take_at, drop_at, append_snoc, take-append_seam, drop-append_seam, drop-append-add}
use Rattle.definitions.specs.Bytes.{Name}
use Rattle.definitions.specs.Instruction.{Instr, Jump, JumpIfFalse, minus}
use Rattle.definitions.specs.Tables.{Tables, Emit, emits, one}
use Rattle.definitions.specs.Tree.{Expr, Block, Branches, done, else, when}
use Rattle.definitions.specs.Slots.{Keeping, past, loops_block}
use Rattle.definitions.specs.Lower.{patch, loop, emit_expr, emit_block, emit_branches}
use Rattle.state.specs.State.{State, emit_at}
use Rattle.state.specs.Steps.{set_at, patch_at, branch, chain_at}
use Rattle.state.proofs.Emission.{state-eq}
use Rattle.definitions.proofs.Shape.{length-patch}

-- ---- a jump may be set before or after the next part

pub set-length : (k : ℕ) (i : Instr) (s : State) → length (set_at k i s).stack ≡ length s.stack
unfolding set_at
set-length k i s = length-set s.stack k i

pub patch-length : (h k n : ℕ) (s : State) → k + n ≤ length s.stack → length (patch_at h k n s).stack ≡ length s.stack
unfolding patch_at
patch-length h k n s l =
    let m = length-patch h n 0 (take n (drop k s.stack)) in
    simp (length-append, length-take, length-drop, m) (omega arith)

-- what a part adds to the stack
added : (xs ys : List Instr) → length (xs ++ ys) - length xs ≡ length ys
added xs ys = omega (arith, length-append xs ys)

-- ---- loops

patch-seam : (h n : ℕ) (us bs vs : List Instr) → length bs ≡ n
    → take (length us) (us ++ bs ++ vs) ++ (patch h n 0 (take n (drop (length us) (us ++ bs ++ vs))) ++ drop (length us + n) (us ++ bs ++ vs)) ≡ us ++ (patch h n 0 bs ++ vs)
patch-seam h n us bs vs e =
    let t : take (length us) (us ++ bs ++ vs) ≡ us = rw append_assoc (take-append_seam us (bs ++ vs)) in
    let d : drop (length us) (us ++ bs ++ vs) ≡ bs ++ vs = rw append_assoc (drop-append_seam us (bs ++ vs)) in
    let m : drop (length us + n) (us ++ bs ++ vs) ≡ vs = rw append_assoc (drop-append-add us (bs ++ vs) n ∙ drop_at bs vs n e) in
    let k : take n (drop (length us) (us ++ bs ++ vs)) ≡ bs = ap (take n) d ∙ take_at bs vs n e in
    λ j. t j ++ (patch h n 0 (k j) ++ m j)

loop-seam : (h n : ℕ) (xs as' bs : List Instr) (i j c : Instr) → length bs ≡ n
    → set (take (length (xs ++ as' ++ i ∷ [])) (xs ++ as' ++ i ∷ [] ++ bs ++ c ∷ []) ++ (patch h n 0 (take n (drop (length (xs ++ as' ++ i ∷ [])) (xs ++ as' ++ i ∷ [] ++ bs ++ c ∷ [])))
    ++ drop (length (xs ++ as' ++ i ∷ []) + n) (xs ++ as' ++ i ∷ [] ++ bs ++ c ∷ []))) (length (xs ++ as')) j
    ≡ xs ++ (as' ++ (j ∷ patch h n 0 bs ++ c ∷ []))
loop-seam h n xs as' bs i j c e =
    ap (λ (l : List Instr). set l (length (xs ++ as')) j) (patch-seam h n (xs ++ as' ++ i ∷ []) bs (c ∷ []) e ∙ append_snoc (xs ++ as') i (patch h n 0 bs ++ c ∷ []))
    ∙ set-append_seam (xs ++ as') i (patch h n 0 bs ++ c ∷ []) j ∙ append_assoc xs as' (j ∷ patch h n 0 bs ++ c ∷ [])

-- i is the placeholder; s₁, s₂ and s₃ are the states after the head, the placeholder and the inside
module _ (base : ℕ) (head inside : Emit) (i : Instr) (s : State) (h : base ≤ length s.stack) where
  loop-by : emit_at base (loop head inside) s
      ≡ set_at (length (emit_at base head s).stack) (JumpIfFalse (suc (length (emit_at base inside (emit_at base (one i) (emit_at base head s))).stack - length (emit_at base (one i) (emit_at base head s)).stack)))
      (patch_at (length (emit_at base (one i) (emit_at base head s)).stack - length s.stack) (length (emit_at base (one i) (emit_at base head s)).stack)
      (length (emit_at base inside (emit_at base (one i) (emit_at base head s))).stack - length (emit_at base (one i) (emit_at base head s)).stack)
      (emit_at base (one (Jump (minus (suc (length (emit_at base inside (emit_at base (one i) (emit_at base head s))).stack - length s.stack)))))
      (emit_at base inside (emit_at base (one i) (emit_at base head s)))))
  unfolding emit_at set_at patch_at loop emits
  loop-by =
      let xs = s.stack in
      let a = head (length xs - base) s.tables in
      let as' = a.code in
      let n = length (xs ++ as' ++ i ∷ []) - base in
      let q : suc (length xs - base + length as') ≡ n = omega (arith, length-append (xs ++ as') (i ∷ []), length-append xs as') in
      let bs = (inside n a.tables).code in
      let w : suc (length as') ≡ length (xs ++ as' ++ i ∷ []) - length xs = omega (arith, length-append (xs ++ as') (i ∷ []), length-append xs as') in
      let m : length bs ≡ length (xs ++ as' ++ i ∷ [] ++ bs) - length (xs ++ as' ++ i ∷ []) = sym (added (xs ++ as' ++ i ∷ []) bs) in
      let z : suc (suc (length as') + length bs) ≡ suc (length (xs ++ as' ++ i ∷ [] ++ bs) - length xs) =
      omega (arith, length-append (xs ++ as' ++ i ∷ []) bs, length-append (xs ++ as') (i ∷ []), length-append xs as') in
      ap (λ (k : ℕ). record {
        stack = xs ++ (as' ++ (JumpIfFalse (suc (length (inside k a.tables).code)) ∷ patch (suc (length as')) (length (inside k a.tables).code) 0 (inside k a.tables).code
            ++ Jump (minus (suc (suc (length as') + length (inside k a.tables).code))) ∷ []));
        tables = (inside k a.tables).tables;
      }) q
      ∙ state-eq _ _ ((λ j. xs ++ (as' ++ (JumpIfFalse (suc (m j)) ∷ patch (w j) (m j) 0 bs ++ Jump (minus (z j)) ∷ [])))
      ∙ sym (loop-seam (length (xs ++ as' ++ i ∷ []) - length xs) (length (xs ++ as' ++ i ∷ [] ++ bs) - length (xs ++ as' ++ i ∷ [])) xs as' bs i _ _ m)) refl

  pub at-loop : (s₁ s₂ s₃ : State) → s₁ ≡ emit_at base head s → s₂ ≡ emit_at base (one i) s₁ → s₃ ≡ emit_at base inside s₂
      → emit_at base (loop head inside) s
      ≡ set_at (length s₁.stack) (JumpIfFalse (suc (length s₃.stack - length s₂.stack)))
      (patch_at (length s₂.stack - length s.stack) (length s₂.stack) (length s₃.stack - length s₂.stack)
      (emit_at base (one (Jump (minus (suc (length s₃.stack - length s.stack))))) s₃))
  at-loop s₁ s₂ s₃ e₁ e₂ e₃ = rw (e₃, e₂, e₁) loop-by

-- ---- branches

branch-seam : (xs as' bs : List Instr) (i j c : Instr) → set (xs ++ as' ++ i ∷ [] ++ bs ++ c ∷ []) (length (xs ++ as')) j ≡ xs ++ (as' ++ (j ∷ bs ++ c ∷ []))
branch-seam xs as' bs i j c =
    let e : xs ++ as' ++ i ∷ [] ++ bs ++ c ∷ [] ≡ (xs ++ as') ++ (i ∷ (bs ++ c ∷ [])) = simp append_assoc in
    ap (λ (l : List Instr). set l (length (xs ++ as')) j) e ∙ set-append_seam (xs ++ as') i (bs ++ c ∷ []) j ∙ append_assoc xs as' (j ∷ bs ++ c ∷ [])

last-seam : (xs as' bs : List Instr) (rest : List Instr) (j c d : Instr) → set (xs ++ (as' ++ (j ∷ bs ++ c ∷ []))) (length (xs ++ (as' ++ (j ∷ bs ++ c ∷ []))) - 1) d ++ rest ≡ xs ++ (as' ++ (j ∷ bs ++ d ∷ rest))
last-seam xs as' bs rest j c d =
    let us = xs ++ (as' ++ (j ∷ bs)) in
    let e : xs ++ (as' ++ (j ∷ bs ++ c ∷ [])) ≡ us ++ c ∷ [] = simp append_assoc in
    let n : length (us ++ c ∷ []) - 1 ≡ length us = omega (arith, length-append us (c ∷ [])) in
    ap (λ (l : List Instr). set l (length l - 1) d ++ rest) e ∙ ap (λ (m : ℕ). set (us ++ c ∷ []) m d ++ rest) n
    ∙ ap (λ (l : List Instr). l ++ rest) (set-append_seam us c [] d) ∙ simp append_assoc

-- a branch and those after it, on a stack ys
rest-by : (base : ℕ) (slots : List Name) (keep : Keeping) (c : Expr) (b : Block) (r : Branches) (p : ℕ) (t : Tables) (ys : List Instr) → base ≤ length ys → length ys - base ≡ p
    → ◌≡◌ {A = State} (record { stack = ys ++ (emit_branches slots keep (when c b r) p t).out.code; tables = (emit_branches slots keep (when c b r) p t).out.tables })
    (chain_at base slots (past (loops_block b) keep) r (length (ys ++ (branch slots keep c b p t).code) - 1) (record { stack = ys ++ (branch slots keep c b p t).code; tables = (branch slots keep c b p t).tables }))
unfolding emit_branches branch chain_at
rest-by base slots keep c b r p t ys h e =
    let a = emit_expr slots c p t in
    let o = emit_block slots keep b (suc (p + length a.code)) a.tables in
    let jif = JumpIfFalse (suc (length o.code)) in
    let is = a.code ++ (jif ∷ o.code ++ Jump 0 ∷ []) in
    let q : suc (p + length a.code) + suc (length o.code) ≡ length (ys ++ is) - base =
    omega (arith, length-append ys is, length-append a.code (jif ∷ o.code ++ Jump 0 ∷ []), length-append o.code (Jump 0 ∷ [])) in
    let rest = λ (n : ℕ). emit_branches slots (past (loops_block b) keep) r n o.tables in
    ap (λ (n : ℕ). record { stack = ys ++ (a.code ++ (jif ∷ o.code ++ Jump (rest n).hop ∷ (rest n).out.code)); tables = (rest n).out.tables }) q
    ∙ state-eq _ _ (sym (last-seam ys a.code o.code _ jif (Jump 0) _)) refl

branch-hop : (slots : List Name) (keep : Keeping) (c : Expr) (b : Block) (r : Branches) (p : ℕ) (t : Tables) (xs : List Instr)
    → (emit_branches slots keep (when c b r) p t).hop ≡ length (xs ++ (branch slots keep c b p t).code) - 1 - length xs
unfolding emit_branches branch
branch-hop slots keep c b r p t xs =
    let a = emit_expr slots c p t in
    let o = emit_block slots keep b (suc (p + length a.code)) a.tables in
    let jif = JumpIfFalse (suc (length o.code)) in
    omega (arith, length-append xs (a.code ++ (jif ∷ o.code ++ Jump 0 ∷ [])), length-append a.code (jif ∷ o.code ++ Jump 0 ∷ []), length-append o.code (Jump 0 ∷ []))

-- s₁, s₂ and s₃ are the states after the condition, the placeholder i and the block; the end jump is a placeholder too
module _ (base : ℕ) (slots : List Name) (keep : Keeping) (c : Expr) (b : Block) (s : State) (h : base ≤ length s.stack) where
  branch_by : (i : Instr) → emit_at base (branch slots keep c b) s
      ≡ set_at (length (emit_at base (emit_expr slots c) s).stack)
      (JumpIfFalse (suc (length (emit_at base (emit_block slots keep b) (emit_at base (one i) (emit_at base (emit_expr slots c) s))).stack - length (emit_at base (one i) (emit_at base (emit_expr slots c) s)).stack)))
      (emit_at base (one (Jump 0)) (emit_at base (emit_block slots keep b) (emit_at base (one i) (emit_at base (emit_expr slots c) s))))
  unfolding emit_at set_at branch emits
  branch_by i =
      let xs = s.stack in
      let a = emit_expr slots c (length xs - base) s.tables in
      let as' = a.code in
      let n = length (xs ++ as' ++ i ∷ []) - base in
      let q : suc (length xs - base + length as') ≡ n = omega (arith, length-append (xs ++ as') (i ∷ []), length-append xs as') in
      let bs = (emit_block slots keep b n a.tables).code in
      let m : length bs ≡ length (xs ++ as' ++ i ∷ [] ++ bs) - length (xs ++ as' ++ i ∷ []) = sym (added (xs ++ as' ++ i ∷ []) bs) in
      let inner = λ (k : ℕ). emit_block slots keep b k a.tables in
      ap (λ (k : ℕ). record { stack = xs ++ (as' ++ (JumpIfFalse (suc (length (inner k).code)) ∷ (inner k).code ++ Jump 0 ∷ [])); tables = (inner k).tables }) q
      ∙ state-eq _ _ ((λ j. xs ++ (as' ++ (JumpIfFalse (suc (m j)) ∷ bs ++ Jump 0 ∷ [])))
      ∙ sym (branch-seam xs as' bs i _ (Jump 0))) refl

  pub at-branch : (i : Instr) (s₁ s₂ s₃ : State) → s₁ ≡ emit_at base (emit_expr slots c) s → s₂ ≡ emit_at base (one i) s₁ → s₃ ≡ emit_at base (emit_block slots keep b) s₂
      → emit_at base (branch slots keep c b) s ≡ set_at (length s₁.stack) (JumpIfFalse (suc (length s₃.stack - length s₂.stack))) (emit_at base (one (Jump 0)) s₃)
  at-branch i s₁ s₂ s₃ e₁ e₂ e₃ = rw (e₃, e₂, e₁) (branch_by i)

  -- the first branch, of which s' is the state; the end jump is its last instruction
  pub at-when : (r : Branches) (s' : State) → s' ≡ emit_at base (branch slots keep c b) s
      → emit_at base (λ p t. (emit_branches slots keep (when c b r) p t).out) s ≡ chain_at base slots (past (loops_block b) keep) r (length s'.stack - 1) s'
  unfolding emit_at
  at-when r s' e = rw e (rest-by base slots keep c b r (length s.stack - base) s.tables s.stack h refl)

  -- a branch after one whose end jump is at place k
  pub chain-when : (r : Branches) (k : ℕ) (s' : State) → k < length s.stack → s' ≡ emit_at base (branch slots keep c b) s
      → chain_at base slots keep (when c b r) k s ≡ chain_at base slots (past (loops_block b) keep) r (length s'.stack - 1) (set_at k (Jump (length s'.stack - 1 - length s.stack)) s')
  unfolding emit_at set_at chain_at emit_branches branch
  chain-when r k s' l e =
      let xs = s.stack in
      let p = length xs - base in
      let is = (branch slots keep c b p s.tables).code in
      let t = (branch slots keep c b p s.tables).tables in
      let d = (emit_branches slots keep (when c b r) p s.tables).hop in
      let ys = set xs k (Jump d) in
      let same_length : length ys ≡ length xs = length-set xs k (Jump d) in
      let n : length (ys ++ is) ≡ length (xs ++ is) = omega (arith, length-append ys is, length-append xs is) in
      let a : ys ++ is ≡ set (xs ++ is) k (Jump d) = sym (set-append_left xs is k (Jump d) l) in
      let w : d ≡ length (xs ++ is) - 1 - length xs = branch-hop slots keep c b r p s.tables xs in
      rw e (rest-by base slots keep c b r p s.tables ys (omega arith) (ap (λ (m : ℕ). m - base) same_length)
      ∙ (λ j. chain_at base slots (past (loops_block b) keep) r (n j - 1) (record { stack = a j; tables = t }))
      ∙ (λ j. chain_at base slots (past (loops_block b) keep) r (length (xs ++ is) - 1) (record { stack = set (xs ++ is) k (Jump (w j)); tables = t })))

pub chain-else : (base : ℕ) (slots : List Name) (keep : Keeping) (b : Block) (k : ℕ) (s s' : State) → k < length s.stack → s' ≡ emit_at base (emit_block slots keep b) s
    → chain_at base slots keep (else b) k s ≡ set_at k (Jump (length s'.stack - length s.stack)) s'
unfolding emit_at set_at chain_at emit_branches
chain-else base slots keep b k s s' l e =
    let xs = s.stack in
    let o = emit_block slots keep b (length xs - base) s.tables in
    rw e (state-eq _ _ (sym (set-append_left xs o.code k (Jump (length o.code)) l) ∙ ap (λ (n : ℕ). set (xs ++ o.code) k (Jump n)) (sym (added xs o.code))) refl)

pub chain-done : (base : ℕ) (slots : List Name) (keep : Keeping) (k : ℕ) (s : State) → chain_at base slots keep done k s ≡ set_at k (Jump 0) s
unfolding set_at chain_at emit_branches emits
chain-done base slots keep k s = state-eq _ _ (append-nil (set s.stack k (Jump 0))) refl
