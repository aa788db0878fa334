-- What is written only lengthens the tables, wherever the loop around it starts and ends.
use Prim.Native.Nat.{ℕ, suc, ◌+◌}
use mathlib.Core.List.{List, [], ◌∷◌, ◌++◌}
use lib.ListN.{length}
use Rattle.definitions.specs.Bytes.{Name}
use Rattle.definitions.specs.Tree.{Expr, lit, var, unary, binary, logical, call, attr, display, index, lambda, Exprs, []ᵉ, ◌∷ᵉ◌, count}
use Rattle.definitions.specs.Tree.{View, as_var, as_attr, as_index, as_tuple, as_other, view, Stmt, break, continue, pass, expr, return, assign, if, while, for, def, class}
use Rattle.definitions.specs.Tree.{Block, []ᵇ, ◌∷ᵇ◌, Branches, done, else, when, Methods, []ᵐ, method}
use Rattle.definitions.specs.Slots.{captures, Keeping, past, with_loops, loops_stmt, loops_block}
use Rattle.definitions.specs.Instruction
use Rattle.definitions.specs.Instruction.{Jump, JumpIfFalse, ConstBool, Return}
use Rattle.definitions.specs.Tables.{Method, Tables, block_body, expr_body, Emit}
use Rattle.definitions.specs.Lower.{decides, display_size, jump_on, store_iter, method_end, insert_method, begin_class, class_out}
use Rattle.definitions.specs.Measured.{SoFar, so_far, knowing, write_short, write_expr, write_exprs, write_object, write_assign}
use Rattle.definitions.specs.Measured.{measure_expr, measure_block, measure_hop, measure_ask, measure_take, after_block}
use Rattle.definitions.specs.Measured.{Loop, no_loop, ahead, back, write_loop, write_for, write_stmt, write_block, write_branches, write_methods}
use Rattle.definitions.proofs.Growth.{Lengthened, Lengthens, lengthened-none, lengthened-more, lengthens-emits, lengthens-one, lengthens-seq, lengthens-here, lengthens-function, lengthens-load, lengthens-store}
use Rattle.definitions.proofs.Growth.{lengthens-symbol, lengthens-literal, lengthens-call_by, lengthens-closure, lengthens-unpack, lengthens-make_iter, lengthens-ask_iter, lengthens-take_iter}
use Rattle.definitions.proofs.Growth.{lengthens-kept_iter, begin_class-lengthened, lengthens-end_class}

pub grows-knowing : {f : SoFar → Emit} → ((k : SoFar) → Lengthens (f k)) → Lengthens (knowing f)
unfolding knowing
grows-knowing F = record { at = λ p t. (F (so_far t)).at p t }

grows-ahead : (q : ℕ) → Lengthens (ahead q)
unfolding ahead
grows-ahead q = lengthens-here (λ p. lengthens-one (Jump _))

pub grows-back : (q : ℕ) → Lengthens (back q)
unfolding back
grows-back q = lengthens-here (λ p. lengthens-one (Jump _))

-- ---- expressions

mutual
  unfolding write_expr write_exprs write_object write_short

  pub grows-expr : (slots : List Name) (e : Expr) → Lengthens (write_expr slots e)
  grows-expr slots (lit l) = lengthens-literal l
  grows-expr slots (var x) = lengthens-load slots x
  grows-expr slots (unary op e) = lengthens-seq (grows-expr slots e) (lengthens-one (Instruction.Unary op))
  grows-expr slots (binary op l r) = lengthens-seq (grows-expr slots l) (lengthens-seq (grows-expr slots r) (lengthens-one (Instruction.Binary op)))
  grows-expr slots (logical op l r) =
      lengthens-seq (grows-expr slots l)
      (grows-knowing (λ k. lengthens-seq (lengthens-one (jump_on (decides op) (suc (measure_expr slots k r)))) (lengthens-seq (grows-expr slots r) (lengthens-emits (Jump 1 ∷ ConstBool (decides op) ∷ [])))))
  grows-expr slots (call f es) = lengthens-call_by (view f) slots (count es) (grows-expr slots f) (grows-object slots f) (grows-exprs slots es)
  grows-expr slots (attr o x) = lengthens-seq (grows-expr slots o) (lengthens-symbol x (λ k. Instruction.LoadAttr k))
  grows-expr slots (display d es) = lengthens-seq (grows-exprs slots es) (lengthens-one (Instruction.Build d (display_size d es)))
  grows-expr slots (index o i) = lengthens-seq (grows-expr slots o) (lengthens-seq (grows-expr slots i) (lengthens-one Instruction.LoadIndex))
  grows-expr slots (lambda ps b) = lengthens-closure slots (length ps) (ps ++ captures slots ps b) (captures slots ps b) (expr_body b) (grows-expr (ps ++ captures slots ps b) b)

  grows-exprs : (slots : List Name) (es : Exprs) → Lengthens (write_exprs slots es)
  grows-exprs slots []ᵉ = lengthens-emits []
  grows-exprs slots (e ∷ᵉ es) = lengthens-seq (grows-expr slots e) (grows-exprs slots es)

  grows-object : (slots : List Name) (e : Expr) → Lengthens (write_object slots e)
  grows-object slots (lit l) = lengthens-emits []
  grows-object slots (var x) = lengthens-emits []
  grows-object slots (unary op e) = lengthens-emits []
  grows-object slots (binary op l r) = lengthens-emits []
  grows-object slots (logical op l r) = lengthens-emits []
  grows-object slots (call f es) = lengthens-emits []
  grows-object slots (attr o x) = grows-expr slots o
  grows-object slots (display d es) = lengthens-emits []
  grows-object slots (index o i) = lengthens-emits []
  grows-object slots (lambda ps b) = lengthens-emits []

grows-assign : {v : Emit} (w : View) (slots : List Name) → Lengthens v → Lengthens (write_assign w slots v)
unfolding write_assign
grows-assign (as_var x) slots E = lengthens-seq E (lengthens-store slots x)
grows-assign (as_attr o x) slots E = lengthens-seq (grows-expr slots o) (lengthens-seq E (lengthens-symbol x (λ k. Instruction.StoreAttr k)))
grows-assign (as_index o i) slots E = lengthens-seq (grows-expr slots o) (lengthens-seq (grows-expr slots i) (lengthens-seq E (lengthens-one Instruction.StoreIndex)))
grows-assign (as_tuple es) slots E = lengthens-seq E (lengthens-unpack slots es 0)
grows-assign as_other slots E = lengthens-emits []

-- ---- statements

pub grows-loop : {e : Emit} {v : Loop → Emit} (h n : ℕ) → Lengthens e → ((w : Loop) → Lengthens (v w)) → Lengthens (write_loop h n e v)
unfolding write_loop
grows-loop h n E V = lengthens-here (λ p. lengthens-seq E (lengthens-seq (lengthens-one (JumpIfFalse (suc n))) (lengthens-seq (V _) (grows-back p))))

class-by : (x : Name) (ms : Methods) → ((acc : List Method) (t : Tables) → Lengthened t (write_methods ms acc t).tables) → Lengthens (λ p t. class_out x (length t.classes) (write_methods ms [] (begin_class x t)) p)
unfolding class_out
class-by x ms M = record {
  at = λ p t.
      let m = write_methods ms [] (begin_class x t) in
      lengthened-more (begin_class-lengthened x t) (lengthened-more (M [] (begin_class x t)) ((lengthens-end_class x (length t.classes) m.methods).at p m.tables));
}

method-by : (x : Name) (ps : List Name) (b : Block) (rest : Methods) (acc : List Method) (t : Tables) → Lengthens (write_block (with_loops ps b).names (with_loops ps b).keep no_loop b)
    → ((as' : List Method) (u : Tables) → Lengthened u (write_methods rest as' u).tables) → Lengthened t (write_methods (method x ps b rest) acc t).tables
unfolding write_methods
method-by x ps b rest acc t B M =
    let F = (lengthens-function x (length ps) (with_loops ps b) (block_body b (method_end x)) (lengthens-seq B (lengthens-emits (method_end x)))).at 0 t in
    lengthened-more F (M (insert_method x (length t.functions) acc) _)

mutual
  unfolding write_stmt write_for

  pub grows-stmt : (slots : List Name) (keep : Keeping) (v : Loop) (s : Stmt) → Lengthens (write_stmt slots keep v s)
  grows-stmt slots keep v break = grows-ahead v.end
  grows-stmt slots keep v continue = grows-back v.start
  grows-stmt slots keep v pass = lengthens-emits []
  grows-stmt slots keep v (expr e) = lengthens-seq (grows-expr slots e) (lengthens-one Instruction.Pop)
  grows-stmt slots keep v (return e) = lengthens-seq (grows-expr slots e) (lengthens-one Return)
  grows-stmt slots keep v (assign t e) = grows-assign (view t) slots (grows-expr slots e)
  grows-stmt slots keep v (if bs) = grows-branches slots keep v bs
  grows-stmt slots keep v (while c b) =
      grows-knowing (λ k. grows-loop (measure_expr slots k c) (measure_block slots k b) (grows-expr slots c) (λ w. grows-block slots keep w b))
  grows-stmt slots keep v (for x e b) =
      lengthens-seq (grows-expr slots e) (lengthens-seq lengthens-make_iter
      (lengthens-kept_iter keep (λ g. lengthens-seq (lengthens-one (store_iter g))
      (grows-knowing (λ k. grows-loop measure_ask (measure_take + measure_block slots k b) (lengthens-ask_iter g) (λ w. lengthens-seq (lengthens-take_iter slots x g) (grows-block slots (past 1 keep) w b)))))))
  grows-stmt slots keep v (def x ps b) =
      let f = with_loops ps b in
      lengthens-function x (length ps) f (block_body b (Return ∷ [])) (lengthens-seq (grows-block f.names f.keep no_loop b) (lengthens-one Return))
  grows-stmt slots keep v (class x ms vs) = class-by x ms (λ acc t. grows-methods ms acc t)

  pub grows-block : (slots : List Name) (keep : Keeping) (v : Loop) (b : Block) → Lengthens (write_block slots keep v b)
  grows-block slots keep v []ᵇ = lengthens-emits []
  grows-block slots keep v (s ∷ᵇ b) = lengthens-seq (grows-stmt slots keep v s) (grows-block slots (past (loops_stmt s) keep) v b)

  pub grows-branches : (slots : List Name) (keep : Keeping) (v : Loop) (r : Branches) → Lengthens (write_branches slots keep v r)
  grows-branches slots keep v done = lengthens-emits []
  grows-branches slots keep v (else b) = grows-block slots keep v b
  grows-branches slots keep v (when c b r) =
      grows-knowing (λ k. lengthens-seq (grows-expr slots c) (lengthens-seq (lengthens-one (JumpIfFalse (suc (measure_block slots k b)))) (lengthens-seq (grows-block slots keep v b)
      (lengthens-seq (lengthens-one (Jump (measure_hop slots (after_block b k) r))) (grows-branches slots (past (loops_block b) keep) v r)))))

  grows-methods : (ms : Methods) (acc : List Method) (t : Tables) → Lengthened t (write_methods ms acc t).tables
  grows-methods []ᵐ acc t = lengthened-none t
  grows-methods (method x ps b rest) acc t =
      let f = with_loops ps b in
      method-by x ps b rest acc t (grows-block f.names f.keep no_loop b) (λ as' u. grows-methods rest as' u)
