-- R-10, stack heights: where the statements of a function begin in its code, blocks not taken and what no run reaches included.
use Rattle.std.specs.Prelude.{ℕ, suc, ◌+◌, List, [], ◌∷◌, ◌++◌, length}
use Rattle.definitions.specs.Bytes.{Name}
use Rattle.definitions.specs.Tree.{Stmt, break, continue, pass, expr, return, assign, if, while, for, def, class, []ᵇ}
use Rattle.definitions.specs.Tree.{Block, ◌∷ᵇ◌, Branches, done, else, when}
use Rattle.definitions.specs.Slots.{Keeping, past, Frame, loops_stmt, loops_block}
use Rattle.definitions.specs.Tables.{Tables, Body, block_body, expr_body, Source, Emit, one}
use Rattle.definitions.specs.Lower.{emit_expr, emit_stmt, emit_block, make_iter, store_iter, kept_iter, ask_iter, take_iter}

-- the places in a part that stands at a place, with the tables of the lowering there
abbrev pub Places : Type 0
Places = ℕ → Tables → List ℕ

-- none; the place itself; those of two parts
unfoldable pub nowhere : Places
nowhere p t = []

unfoldable pub just_here : Places
just_here p t = p ∷ []

unfoldable pub both : Places → Places → Places
both f g p t = f p t ++ g p t

-- those of a part after the code e; of one after a jump
unfoldable pub onward : Emit → Places → Places
onward e f p t =
    let o = e p t in
    f (p + length o.code) o.tables

unfoldable pub one_on : Places → Places
one_on f p t = f (suc p) t

unfoldable mutual
  -- where the statements in a statement begin
  pub starts_stmt : List Name → Keeping → Stmt → Places
  starts_stmt slots keep break = nowhere
  starts_stmt slots keep continue = nowhere
  starts_stmt slots keep pass = nowhere
  starts_stmt slots keep (expr e) = nowhere
  starts_stmt slots keep (return e) = nowhere
  starts_stmt slots keep (assign e v) = nowhere
  starts_stmt slots keep (if bs) = starts_branches slots keep bs
  starts_stmt slots keep (while c b) = onward (emit_expr slots c) (one_on (starts_block slots keep b))
  starts_stmt slots keep (for x e b) =
      onward (emit_expr slots e)
      (onward make_iter
      (kept_iter keep (λ g. onward (one (store_iter g)) (onward (ask_iter g) (one_on (onward (take_iter slots x g) (starts_block slots (past 1 keep) b)))))))
  starts_stmt slots keep (def x ps b) = nowhere
  starts_stmt slots keep (class x ms vs) = nowhere

  pub starts_block : List Name → Keeping → Block → Places
  starts_block slots keep []ᵇ = nowhere
  starts_block slots keep (s ∷ᵇ b) = both just_here (both (starts_stmt slots keep s) (onward (emit_stmt slots keep s) (starts_block slots (past (loops_stmt s) keep) b)))

  pub starts_branches : List Name → Keeping → Branches → Places
  starts_branches slots keep done = nowhere
  starts_branches slots keep (else b) = starts_block slots keep b
  starts_branches slots keep (when c b r) =
      onward (emit_expr slots c) (one_on (both (starts_block slots keep b) (onward (emit_block slots keep b) (one_on (starts_branches slots (past (loops_block b) keep) r)))))

-- a function's statements, and its end: the closing LoadLocal(0) of an `__init__`, or the closing Return; a lambda's expression
unfoldable pub starts_body : Frame → Body → Places
starts_body f (block_body b end) = both (starts_block f.names f.keep b) (onward (emit_block f.names f.keep b) just_here)
starts_body f (expr_body e) = just_here

unfoldable pub starts_source : Source → List ℕ
starts_source s = starts_body s.frame s.body 0 s.start
