-- Each def, method and class that begins in a part is a function or class more after it.
use Prim.Native.Nat.{ℕ, suc, ◌+◌, ◌-◌, ◌<◌, ◌≤◌}
use mathlib.Core.Option.{Option, none, some}
use mathlib.Core.List.{List, [], ◌∷◌}
use native.Mathlib.Omega.{arith}
use lib.ListN.{length, length-append}
use Rattle.definitions.specs.Bytes.{Name, same, position}
use Rattle.definitions.specs.Tree.{Expr, view, Stmt, break, continue, pass, expr, return, assign, if, while, for, def, class}
use Rattle.definitions.specs.Tree.{Block, []ᵇ, ◌∷ᵇ◌, Branches, done, else, when, Methods, []ᵐ, method}
use Rattle.definitions.specs.Slots.{Keeping, in_globals, in_slots, past, Frame, with_loops, loops_stmt, loops_block}
use Rattle.definitions.specs.Instruction
use Rattle.definitions.specs.Instruction.{Return}
use Rattle.definitions.specs.Tables.{Method, Tables, coded, Body, block_body, Out, Emit, emits, ◌⨟◌, here, add_symbol, intern, begin, enclose, function}
use Rattle.definitions.specs.Lower.{loop, store_iter, kept_iter, named_iter, iter_name, Keeper, global}
use Rattle.definitions.specs.Lower.{local, method_end, insert_method, begin_class, class_out, emit_expr, emit_stmt, emit_block, emit_branches, emit_methods}
use Rattle.state.specs.State.{State, emit_at, WithinLimits, Limited}
use Rattle.state.specs.declared.Limits.{Limits}
use Rattle.definitions.proofs.Growth.{Lengthened, Lengthens, functions-longer, lengthens-expr, lengthens-emits, lengthens-one, lengthens-seq, lengthens-assign_by, lengthens-make_iter, lengthens-ask_iter, lengthens-take_iter}
use Rattle.definitions.proofs.Growth.{lengthens-end_class, lengthens-block, symbol-lengthened, set_code-count}
use Rattle.measure_stmts.specs.Heads.{heads_stmt, heads_block, heads_branches, heads_methods}

-- how many functions and classes there are
abbrev pub begun : Tables → ℕ
begun t = length t.functions + length t.classes

-- there are h more of them
pub record Begins (h : ℕ) (e : Emit) : Type 0 where
  pub at : (p : ℕ) (t : Tables) → begun t + h ≤ begun (e p t).tables

longer : {t u : Tables} → Lengthened t u → begun t ≤ begun u
longer L = let f = functions-longer L in let c = L.classes in omega arith

begins-none : {e : Emit} → Lengthens e → Begins 0 e
begins-none E = record { at = λ p t. let h = longer (E.at p t) in omega arith }

begins-seq : {m n : ℕ} {e d : Emit} → Begins m e → Begins n d → Begins (m + n) (e ⨟ d)
unfolding ◌⨟◌
begins-seq {e = e} A B = record { at = λ p t. let a = A.at p t in let b = B.at (p + length (e p t).code) (e p t).tables in omega arith }

begins-after : {n : ℕ} {e d : Emit} → Lengthens e → Begins n d → Begins n (e ⨟ d)
unfolding ◌⨟◌
begins-after {e = e} A B = record { at = λ p t. let a = longer (A.at p t) in let b = B.at (p + length (e p t).code) (e p t).tables in omega arith }

begins-before : {n : ℕ} {e d : Emit} → Begins n e → Lengthens d → Begins n (e ⨟ d)
unfolding ◌⨟◌
begins-before {e = e} A B = record { at = λ p t. let a = A.at p t in let b = longer (B.at (p + length (e p t).code) (e p t).tables) in omega arith }

-- a loop's tables are those of its head and its inside
begins-loop : {n : ℕ} {e d : Emit} → Lengthens e → Begins n d → Begins n (loop e d)
unfolding loop
begins-loop {e = e} A B = record { at = λ p t. let a = longer (A.at p t) in let b = B.at (suc (p + length (e p t).code)) (e p t).tables in omega arith }

-- a name is numbered
begins-intern : {n : ℕ} {f : ℕ → Emit} (x : Name) → ((k : ℕ) → Begins n (f k)) → Begins n (intern x f)
unfolding intern
begins-intern {n} {f} x F = record { at = λ p t. go p t (position (same x) t.symbols) }
  where
    go : (p : ℕ) (t : Tables) (o : Option ℕ) → begun t + n ≤ begun (elim o as (λ z. Out) [ some k ↦ f k p t | none ↦ f (length t.symbols) p (add_symbol x t) ]).tables
    go p t (some k) = (F k).at p t
    go p t none = let a = longer (symbol-lengthened x t) in let b = (F (length t.symbols)).at p (add_symbol x t) in omega arith

begins-kept_iter : {n : ℕ} {f : Keeper → Emit} (keep : Keeping) → ((g : Keeper) → Begins n (f g)) → Begins n (kept_iter keep f)
unfolding kept_iter named_iter here
begins-kept_iter in_globals F = record { at = λ p t. (begins-intern (iter_name p) (λ k. F (global k))).at p t }
begins-kept_iter (in_slots j) F = F (local j)

-- a function is one more than those in its body
one-function : (k arity : ℕ) (frame : Frame) (t : Tables) → begun t + 1 ≤ begun (begin k arity frame t)
unfolding begin
one-function k arity frame t = omega (arith, length-append t.functions (coded k arity frame.locals [] ∷ []))

begins-enclose : {n : ℕ} {e : Emit} (k arity : ℕ) (frame : Frame) (body : Body) → Lengthens e → Begins n e → Begins (1 + n) (enclose k arity frame body e)
unfolding enclose
begins-enclose {e = e} k arity frame body E B = record {
  at = λ p t.
      let u = begin k arity frame t in
      let o = e 0 u in
      let a = one-function k arity frame t in
      let b = B.at 0 u in
      let c = set_code-count k arity frame t o.tables (E.at 0 u) o.code in
      omega arith;
}

begins-function : {n : ℕ} {e : Emit} (x : Name) (arity : ℕ) (frame : Frame) (body : Body) → Lengthens e → Begins n e → Begins (1 + n) (function x arity frame body e)
unfolding function
begins-function x arity frame body E B = begins-intern x (λ k. begins-enclose k arity frame body E B)

-- ---- statements

abbrev MethodsBegin : Methods → Type 0
MethodsBegin ms = (acc : List Method) (t : Tables) → begun t + heads_methods ms ≤ begun (emit_methods ms acc t).tables

class-begins : (x : Name) (ms : Methods) → MethodsBegin ms → Begins (1 + heads_methods ms) (λ p t. class_out x (length t.classes) (emit_methods ms [] (begin_class x t)) p)
unfolding class_out begin_class
class-begins x ms M = record {
  at = λ p t.
      let u = begin_class x t in
      let m = emit_methods ms [] u in
      let a = length-append t.classes (record { name = x; methods = [] } ∷ []) in
      let b = M [] u in
      let c = longer ((lengthens-end_class x (length t.classes) m.methods).at p m.tables) in
      omega arith;
}

abbrev BranchesBegin : List Name → Keeping → Branches → Type 0
BranchesBegin slots keep r = (p : ℕ) (t : Tables) → begun t + heads_branches r ≤ begun (emit_branches slots keep r p t).out.tables

when-begins : (slots : List Name) (keep : Keeping) (c : Expr) (b : Block) (r : Branches) → Begins (heads_block b) (emit_block slots keep b) → BranchesBegin slots (past (loops_block b) keep) r → BranchesBegin slots keep (when c b r)
unfolding emit_branches heads_stmt
when-begins slots keep c b r B R p t =
    let a = emit_expr slots c p t in
    let q = suc (p + length a.code) in
    let o = emit_block slots keep b q a.tables in
    let x = longer ((lengthens-expr slots c).at p t) in
    let y = B.at q a.tables in
    let z = R (q + suc (length o.code)) o.tables in
    omega arith

method-begins : (x : Name) (ps : List Name) (b : Block) (rest : Methods) → Begins (heads_block b) (emit_block (with_loops ps b).names (with_loops ps b).keep b) → MethodsBegin rest → MethodsBegin (method x ps b rest)
unfolding emit_methods heads_stmt
method-begins x ps b rest B M acc t =
    let f = with_loops ps b in
    let E = lengthens-seq (lengthens-block f.names f.keep b) (lengthens-emits (method_end x)) in
    let a = (begins-function x (length ps) f (block_body b (method_end x)) E (begins-before B (lengthens-emits (method_end x)))).at 0 t in
    let o = function x (length ps) f (block_body b (method_end x)) (emit_block f.names f.keep b ⨟ emits (method_end x)) 0 t in
    let c = M (insert_method x (length t.functions) acc) o.tables in
    omega arith

mutual
  unfolding emit_stmt heads_stmt

  pub begins-stmt : (slots : List Name) (keep : Keeping) (s : Stmt) → Begins (heads_stmt s) (emit_stmt slots keep s)
  begins-stmt slots keep break = begins-none (lengthens-one Instruction.Break)
  begins-stmt slots keep continue = begins-none (lengthens-one Instruction.Continue)
  begins-stmt slots keep pass = begins-none (lengthens-emits [])
  begins-stmt slots keep (expr e) = begins-none (lengthens-seq (lengthens-expr slots e) (lengthens-one Instruction.Pop))
  begins-stmt slots keep (return e) = begins-none (lengthens-seq (lengthens-expr slots e) (lengthens-one Return))
  begins-stmt slots keep (assign t v) = begins-none (lengthens-assign_by (view t) slots (lengthens-expr slots v))
  begins-stmt slots keep (if bs) = record { at = λ p t. branches-begin slots keep bs p t }
  begins-stmt slots keep (while c b) = begins-loop (lengthens-expr slots c) (begins-block slots keep b)
  begins-stmt slots keep (for x e b) =
      begins-after (lengthens-expr slots e) (begins-after lengthens-make_iter
      (begins-kept_iter keep (λ g. begins-after (lengthens-one (store_iter g)) (begins-loop (lengthens-ask_iter g) (begins-after (lengthens-take_iter slots x g) (begins-block slots (past 1 keep) b))))))
  begins-stmt slots keep (def x ps b) =
      let f = with_loops ps b in
      begins-function x (length ps) f (block_body b (Return ∷ [])) (lengthens-seq (lengthens-block f.names f.keep b) (lengthens-one Return))
      (begins-before (begins-block f.names f.keep b) (lengthens-one Return))
  begins-stmt slots keep (class x ms vs) = class-begins x ms (λ acc t. methods-begin ms acc t)

  pub begins-block : (slots : List Name) (keep : Keeping) (b : Block) → Begins (heads_block b) (emit_block slots keep b)
  begins-block slots keep []ᵇ = begins-none (lengthens-emits [])
  begins-block slots keep (s ∷ᵇ b) = begins-seq (begins-stmt slots keep s) (begins-block slots (past (loops_stmt s) keep) b)

  branches-begin : (slots : List Name) (keep : Keeping) (r : Branches) → BranchesBegin slots keep r
  branches-begin slots keep done p t = (begins-none (lengthens-emits [])).at p t
  branches-begin slots keep (else b) p t = (begins-block slots keep b).at p t
  branches-begin slots keep (when c b r) p t = when-begins slots keep c b r (begins-block slots keep b) (λ q u. branches-begin slots (past (loops_block b) keep) r q u) p t

  methods-begin : (ms : Methods) → MethodsBegin ms
  methods-begin []ᵐ acc t = omega arith
  methods-begin (method x ps b rest) acc t = method-begins x ps b rest (begins-block (with_loops ps b).names (with_loops ps b).keep b) (λ as′ u. methods-begin rest as′ u) acc t

-- a part in which more names begin than there is room to note is over the limits, wherever it stands
pub names-over : {h : ℕ} {e : Emit} {l : Limits} → Begins h e → Limited l → 320 < h → (base : ℕ) (s : State) → WithinLimits l (emit_at base e s) → ⊥
unfolding emit_at
names-over B L m base s W = omega (arith, B.at (length s.stack - base) s.tables, W.functions, W.classes, L.functions, L.classes)
