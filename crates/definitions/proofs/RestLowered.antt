-- The rest of a tree (R-11) lowers to the very code and tables of the tree; only the sources, which name the bodies, are others.
use mathlib.Core.Path.{◌≡◌, refl, ap, ◌∙◌}
use mathlib.Core.Option.{Option, none, some}
use mathlib.Core.List.{List, [], ◌∷◌, ◌++◌}
use Prim.Native.Nat.{ℕ, suc, ◌+◌}
use native.Mathlib.Omega.{arith}
use lib.ListN.{length}
use Rattle.definitions.specs.Bytes.{Name, same, position}
use Rattle.definitions.specs.Tree.{Expr, Stmt, break, continue, pass, expr, return, assign, if, while, for, def, class}
use Rattle.definitions.specs.Tree.{Block, []ᵇ, ◌∷ᵇ◌, Branches, done, else, when, Methods, []ᵐ, method}
use Rattle.definitions.specs.Slots.{Keeping, in_globals, in_slots, past, Frame, names_only, with_loops, locals_block, loops_stmt, loops_block}
use Rattle.definitions.specs.Instruction.{Return, Jump, JumpIfFalse}
use Rattle.definitions.specs.Instruction
use Rattle.definitions.specs.Tables.{Method, Tables, Body, block_body, Out, Emit, emits, ◌⨟◌, here, intern, begin, enclose, function, add_symbol}
use Rattle.definitions.specs.Lower.{Members, emit_expr, emit_stmt, emit_block, emit_branches, emit_methods}
use Rattle.definitions.specs.Lower.{method_end, insert_method, begin_class, class_out, loop, patch, Keeper, global, local, named_iter, kept_iter, iter_name, ask_iter, no_tables, compile, main}
use Rattle.definitions.specs.Rests.{is_pass, joined, rest_stmt, rest, rest_branches, rest_methods}
use Rattle.definitions.specs.Statements.{RestCompiles}
use Rattle.definitions.proofs.RestAsked.{locals-block, loops-stmt, loops-block}

-- the same code and the same tables
pub record Alike (o r : Out) : Type 0 where
  pub code : o.code ≡ r.code
  pub tables : o.tables ≡ r.tables

pub record Same (e f : Emit) : Type 0 where
  pub at : (p : ℕ) (t : Tables) → Alike (e p t) (f p t)

pub same_self : {e : Emit} → Same e e
same_self = record { at = λ p t. record { code = refl; tables = refl } }

pub same_then : {e f g : Emit} → Same e f → Same f g → Same e g
same_then A B = record { at = λ p t. record { code = (A.at p t).code ∙ (B.at p t).code; tables = (A.at p t).tables ∙ (B.at p t).tables } }

seq-out : {f g : Emit} (o r : Out) (p : ℕ) → Alike o r → Same f g
    → Alike (let w = f (p + length o.code) o.tables in record { code = o.code ++ w.code; tables = w.tables; sources = o.sources ++ w.sources })
    (let w = g (p + length r.code) r.tables in record { code = r.code ++ w.code; tables = w.tables; sources = r.sources ++ w.sources })
seq-out {f} {g} o r p A B =
    let C = B.at (p + length r.code) r.tables in
    record { code = rw (A.code, A.tables, C.code); tables = rw (A.code, A.tables, C.tables) }

pub same-seq : {e e' f f' : Emit} → Same e e' → Same f f' → Same (e ⨟ f) (e' ⨟ f')
unfolding ◌⨟◌
same-seq {e} {e'} A B = record { at = λ p t. seq-out (e p t) (e' p t) p (A.at p t) B }

loop-out : (a o r : Out) (h : ℕ) → Alike o r
    → Alike (record { code = a.code ++ (JumpIfFalse (suc (length o.code)) ∷ patch h (length o.code) 0 o.code ++ Jump (Instruction.minus (suc (h + length o.code))) ∷ []); tables = o.tables; sources = a.sources ++ o.sources })
    (record { code = a.code ++ (JumpIfFalse (suc (length r.code)) ∷ patch h (length r.code) 0 r.code ++ Jump (Instruction.minus (suc (h + length r.code))) ∷ []); tables = r.tables; sources = a.sources ++ r.sources })
loop-out a o r h A = record { code = rw A.code; tables = A.tables }

same-loop : {e f : Emit} (h : Emit) → Same e f → Same (loop h e) (loop h f)
unfolding loop
same-loop {e} {f} h A = record {
  at = λ p t.
      let a = h p t in
      let q = suc (p + length a.code) in
      loop-out a (e q a.tables) (f q a.tables) (suc (length a.code)) (A.at q a.tables);
}

same-intern : (x : Name) {f g : ℕ → Emit} → ((k : ℕ) → Same (f k) (g k)) → Same (intern x f) (intern x g)
unfolding intern
same-intern x {f} {g} A = record { at = λ p t. go p t (position (same x) t.symbols) }
  where
    go : (p : ℕ) (t : Tables) (s : Option ℕ)
        → Alike (elim s as (λ z. Out) [ some k ↦ f k p t | none ↦ f (length t.symbols) p (add_symbol x t) ])
        (elim s as (λ z. Out) [ some k ↦ g k p t | none ↦ g (length t.symbols) p (add_symbol x t) ])
    go p t (some k) = (A k).at p t
    go p t none = (A (length t.symbols)).at p (add_symbol x t)

same-named : {f g : ℕ → Emit} → ((k : ℕ) → Same (f k) (g k)) → Same (named_iter f) (named_iter g)
unfolding named_iter here
same-named A = record { at = λ p t. (same-intern (iter_name p) A).at p t }

same-kept : (keep : Keeping) {f g : Keeper → Emit} → ((k : Keeper) → Same (f k) (g k)) → Same (kept_iter keep f) (kept_iter keep g)
unfolding kept_iter
same-kept in_globals A = same-named (λ k. A (global k))
same-kept (in_slots n) A = A (local n)

same-enclose : (k arity : ℕ) (frame : Frame) (body body' : Body) {e f : Emit} → Same e f → Same (enclose k arity frame body e) (enclose k arity frame body' f)
unfolding enclose
same-enclose k arity frame body body' A = record {
  at = λ p t. let C = A.at 0 (begin k arity frame t) in record { code = refl; tables = rw (C.code, C.tables) };
}

pub same-function : (x : Name) (arity : ℕ) (frame : Frame) (body body' : Body) {e f : Emit} → Same e f → Same (function x arity frame body e) (function x arity frame body' f)
unfolding function
same-function x arity frame body body' A = same-intern x (λ k. same-enclose k arity frame body body' A)

-- ---- blocks

past-none : (keep : Keeping) → past 0 keep ≡ keep
unfolding past
past-none in_globals = refl
past-none (in_slots k) = ap in_slots (omega arith)

same-nothing : (slots : List Name) (keep : Keeping) (e : Emit) → Same e (emit_stmt slots keep pass ⨟ e)
unfolding emit_stmt ◌⨟◌ emits
same-nothing slots keep e = record {
  at = λ p t.
      let z : p ≡ p + 0 = omega arith in
      record { code = ap (λ (q : ℕ). (e q t).code) z; tables = ap (λ (q : ℕ). (e q t).tables) z };
}

same-joined : (slots : List Name) (keep : Keeping) (s : Stmt) (b : Block)
    → Same (emit_block slots keep (joined s b)) (emit_stmt slots keep s ⨟ emit_block slots (past (loops_stmt s) keep) b)
unfolding joined is_pass emit_block loops_stmt
same-joined slots keep break b = same_self
same-joined slots keep continue b = same_self
same-joined slots keep pass b = rw (past-none keep) (same-nothing slots keep (emit_block slots keep b))
same-joined slots keep (expr e) b = same_self
same-joined slots keep (return e) b = same_self
same-joined slots keep (assign t v) b = same_self
same-joined slots keep (if bs) b = same_self
same-joined slots keep (while c d) b = same_self
same-joined slots keep (for x e d) b = same_self
same-joined slots keep (def x ps d) b = same_self
same-joined slots keep (class x ms vs) b = same_self

-- ---- branches

pub record SameChain (slots : List Name) (keep : Keeping) (r r' : Branches) : Type 0 where
  pub at : (p : ℕ) (t : Tables) → Alike (emit_branches slots keep r p t).out (emit_branches slots keep r' p t).out
  pub hop : (p : ℕ) (t : Tables) → (emit_branches slots keep r p t).hop ≡ (emit_branches slots keep r' p t).hop

same-done : (slots : List Name) (keep : Keeping) → SameChain slots keep done done
same-done slots keep = record { at = λ p t. record { code = refl; tables = refl }; hop = λ p t. refl }

same-else : (slots : List Name) (keep : Keeping) (b b' : Block) → Same (emit_block slots keep b) (emit_block slots keep b') → SameChain slots keep (else b) (else b')
unfolding emit_branches
same-else slots keep b b' B = record { at = B.at; hop = λ p t. ap length (B.at p t).code }

when-out : (slots : List Name) (keep : Keeping) (r r' : Branches) → SameChain slots keep r r' → (a o o' : Out) (q : ℕ) → Alike o o'
    → Alike
    (let k = emit_branches slots keep r (q + suc (length o.code)) o.tables in
    record { code = a.code ++ (JumpIfFalse (suc (length o.code)) ∷ o.code ++ Jump k.hop ∷ k.out.code); tables = k.out.tables; sources = a.sources ++ (o.sources ++ k.out.sources) })
    (let k = emit_branches slots keep r' (q + suc (length o'.code)) o'.tables in
    record { code = a.code ++ (JumpIfFalse (suc (length o'.code)) ∷ o'.code ++ Jump k.hop ∷ k.out.code); tables = k.out.tables; sources = a.sources ++ (o'.sources ++ k.out.sources) })
when-out slots keep r r' R a o o' q A =
    let q' = q + suc (length o'.code) in
    let C = R.at q' o'.tables in
    record { code = rw (A.code, A.tables, R.hop q' o'.tables, C.code); tables = rw (A.code, A.tables, C.tables) }

same-when : (slots : List Name) (keep : Keeping) (c : Expr) (b b' : Block) (r r' : Branches) → loops_block b ≡ loops_block b'
    → Same (emit_block slots keep b) (emit_block slots keep b') → SameChain slots (past (loops_block b') keep) r r' → SameChain slots keep (when c b r) (when c b' r')
unfolding emit_branches
same-when slots keep c b b' r r' l B R = record {
  at = λ p t.
      let a = emit_expr slots c p t in
      let q = suc (p + length a.code) in
      rw l (when-out slots (past (loops_block b') keep) r r' R a (emit_block slots keep b q a.tables) (emit_block slots keep b' q a.tables) q (B.at q a.tables));
  hop = λ p t.
      let a = emit_expr slots c p t in
      let q = suc (p + length a.code) in
      ap (λ (z : List Instruction.Instr). suc (length a.code) + length z) (B.at q a.tables).code;
}

-- ---- methods

pub record SameMembers (m m' : Members) : Type 0 where
  pub methods : m.methods ≡ m'.methods
  pub tables : m.tables ≡ m'.tables

method-out : (x : Name) (o o' : Out) (k : ℕ) (acc : List Method) (ms ms' : Methods) → Alike o o'
    → ((acc : List Method) (t : Tables) → SameMembers (emit_methods ms acc t) (emit_methods ms' acc t))
    → SameMembers
    (let m = emit_methods ms (insert_method x k acc) o.tables in record { methods = m.methods; tables = m.tables; sources = o.sources ++ m.sources })
    (let m = emit_methods ms' (insert_method x k acc) o'.tables in record { methods = m.methods; tables = m.tables; sources = o'.sources ++ m.sources })
method-out x o o' k acc ms ms' A M =
    let C = M (insert_method x k acc) o'.tables in
    record { methods = rw (A.tables, C.methods); tables = rw (A.tables, C.tables) }

same-method : (x : Name) (ps : List Name) (b b' : Block) (ms ms' : Methods) → locals_block b ps ≡ locals_block b' ps → loops_block b ≡ loops_block b'
    → Same (emit_block (with_loops ps b').names (with_loops ps b').keep b) (emit_block (with_loops ps b').names (with_loops ps b').keep b')
    → ((acc : List Method) (t : Tables) → SameMembers (emit_methods ms acc t) (emit_methods ms' acc t))
    → (acc : List Method) (t : Tables) → SameMembers (emit_methods (method x ps b ms) acc t) (emit_methods (method x ps b' ms') acc t)
unfolding emit_methods
same-method x ps b b' ms ms' e l B M acc t =
    rw (e, l) (method-out x _ _ (length t.functions) acc ms ms'
    ((same-function x (length ps) (with_loops ps b') (block_body b (method_end x)) (block_body b' (method_end x)) (same-seq B same_self)).at 0 t) M)

class-out : (x : Name) (c : ℕ) (m m' : Members) (p : ℕ) → SameMembers m m' → Alike (class_out x c m p) (class_out x c m' p)
unfolding class_out
class-out x c m m' p M = record { code = rw (M.methods, M.tables); tables = rw (M.methods, M.tables) }

-- ---- statements

same-for : (slots : List Name) (keep : Keeping) (x : Name) (e : Expr) (b b' : Block)
    → Same (emit_block slots (past 1 keep) b) (emit_block slots (past 1 keep) b') → Same (emit_stmt slots keep (for x e b)) (emit_stmt slots keep (for x e b'))
unfolding emit_stmt
same-for slots keep x e b b' B =
    same-seq same_self (same-seq same_self (same-kept keep (λ g. same-seq same_self (same-loop (ask_iter g) (same-seq same_self B)))))

same-def : (slots : List Name) (keep : Keeping) (x : Name) (ps : List Name) (b b' : Block) → locals_block b ps ≡ locals_block b' ps → loops_block b ≡ loops_block b'
    → Same (emit_block (with_loops ps b').names (with_loops ps b').keep b) (emit_block (with_loops ps b').names (with_loops ps b').keep b')
    → Same (emit_stmt slots keep (def x ps b)) (emit_stmt slots keep (def x ps b'))
unfolding emit_stmt
same-def slots keep x ps b b' e l B = rw (e, l) (same-function x (length ps) (with_loops ps b') (block_body b (Return ∷ [])) (block_body b' (Return ∷ [])) (same-seq B same_self))

mutual
  unfolding rest_stmt rest rest_branches rest_methods emit_stmt emit_block emit_methods

  same-stmt : (s : Stmt) (slots : List Name) (keep : Keeping) → Same (emit_stmt slots keep (rest_stmt s)) (emit_stmt slots keep s)
  same-stmt break slots keep = same_self
  same-stmt continue slots keep = same_self
  same-stmt pass slots keep = same_self
  same-stmt (expr e) slots keep = same_self
  same-stmt (return e) slots keep = same_self
  same-stmt (assign t v) slots keep = same_self
  same-stmt (if bs) slots keep = record { at = λ p t. (same-branches bs slots keep).at p t }
  same-stmt (while c b) slots keep = same-loop (emit_expr slots c) (same_block b slots keep)
  same-stmt (for x e b) slots keep = same-for slots keep x e (rest b) b (same_block b slots (past 1 keep))
  same-stmt (def x ps b) slots keep = same-def slots keep x ps (rest b) b (locals-block b ps) (loops-block b) (same_block b (with_loops ps b).names (with_loops ps b).keep)
  same-stmt (class x ms vs) slots keep = record { at = λ p t. class-out x (length t.classes) _ _ p (same-methods ms [] (begin_class x t)) }

  pub same_block : (b : Block) (slots : List Name) (keep : Keeping) → Same (emit_block slots keep (rest b)) (emit_block slots keep b)
  same_block []ᵇ slots keep = same_self
  same_block (s ∷ᵇ b) slots keep = same_then (same-joined slots keep (rest_stmt s) (rest b)) (rw (loops-stmt s) (same-seq (same-stmt s slots keep) (same_block b slots (past (loops_stmt s) keep))))

  same-branches : (r : Branches) (slots : List Name) (keep : Keeping) → SameChain slots keep (rest_branches r) r
  same-branches done slots keep = same-done slots keep
  same-branches (else b) slots keep = same-else slots keep (rest b) b (same_block b slots keep)
  same-branches (when c b r) slots keep =
      same-when slots keep c (rest b) b (rest_branches r) r (loops-block b) (same_block b slots keep) (same-branches r slots (past (loops_block b) keep))

  same-methods : (ms : Methods) (acc : List Method) (t : Tables) → SameMembers (emit_methods (rest_methods ms) acc t) (emit_methods ms acc t)
  same-methods []ᵐ acc t = record { methods = refl; tables = refl }
  same-methods (method x ps b ms) acc t =
      same-method x ps (rest b) b (rest_methods ms) ms (locals-block b ps) (loops-block b) (same_block b (with_loops ps b).names (with_loops ps b).keep) (same-methods ms) acc t

pub rest_compiles : RestCompiles
unfolding compile
rest_compiles b =
    ((same-function main 0 (names_only []) (block_body (rest b) (Return ∷ [])) (block_body b (Return ∷ [])) (same-seq (same_block b [] in_globals) same_self)).at 0 no_tables).tables
