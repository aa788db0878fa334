-- Question 14 by a walk over the tree: each function that is lowered has at most 255 slots. Targets are taken to be targets (question 10): the value
-- of an assignment to anything else is tested here, though it is not lowered.
use Rattle.std.specs.Prelude.{Bool, true, ◌&&◌, List, ◌++◌, length, leb}
use Rattle.definitions.specs.Bytes.{Name}
use Rattle.definitions.specs.Tree.{Expr, lit, var, unary, binary, logical, call, attr, display, index, lambda, Exprs, []ᵉ, ◌∷ᵉ◌, as_var, as_attr, as_index, as_tuple, as_other, view}
use Rattle.definitions.specs.Tree.{Stmt, break, continue, pass, expr, return, assign, if, while, for, def, class, Block, []ᵇ, ◌∷ᵇ◌, Branches, done, else, when, Methods, []ᵐ}
use Rattle.definitions.specs.Tree.{method}
use Rattle.definitions.specs.Slots.{captures, with_loops}

unfoldable mutual
  pub fits_expr : List Name → Expr → Bool
  fits_expr slots (lit l) = true
  fits_expr slots (var x) = true
  fits_expr slots (unary op e) = fits_expr slots e
  fits_expr slots (binary op l r) = fits_expr slots l && fits_expr slots r
  fits_expr slots (logical op l r) = fits_expr slots l && fits_expr slots r
  fits_expr slots (call f es) = fits_expr slots f && fits_exprs slots es
  fits_expr slots (attr o x) = fits_expr slots o
  fits_expr slots (display k es) = fits_exprs slots es
  fits_expr slots (index o i) = fits_expr slots o && fits_expr slots i
  fits_expr slots (lambda ps b) =
      let inner = ps ++ captures slots ps b in
      leb (length inner) 255 && fits_expr inner b

  pub fits_exprs : List Name → Exprs → Bool
  fits_exprs slots []ᵉ = true
  fits_exprs slots (e ∷ᵉ es) = fits_expr slots e && fits_exprs slots es

-- the expressions of a target that are lowered: those of an attribute or index; a tuple's names are not
unfoldable pub fits_target : List Name → Expr → Bool
fits_target slots e = elim (view e) [ as_var x ↦ true | as_attr o x ↦ fits_expr slots o | as_index o i ↦ fits_expr slots o && fits_expr slots i | as_tuple es ↦ true | as_other ↦ true ]

unfoldable mutual
  pub fits_stmt : List Name → Stmt → Bool
  fits_stmt slots break = true
  fits_stmt slots continue = true
  fits_stmt slots pass = true
  fits_stmt slots (expr e) = fits_expr slots e
  fits_stmt slots (return e) = fits_expr slots e
  fits_stmt slots (assign t v) = fits_target slots t && fits_expr slots v
  fits_stmt slots (if bs) = fits_branches slots bs
  fits_stmt slots (while c b) = fits_expr slots c && fits_block slots b
  fits_stmt slots (for x e b) = fits_expr slots e && fits_block slots b
  fits_stmt slots (def x ps b) =
      let inner = with_loops ps b in
      leb inner.locals 255 && fits_block inner.names b
  -- attributes are not lowered
  fits_stmt slots (class x ms vs) = fits_methods ms

  pub fits_block : List Name → Block → Bool
  fits_block slots []ᵇ = true
  fits_block slots (s ∷ᵇ b) = fits_stmt slots s && fits_block slots b

  pub fits_branches : List Name → Branches → Bool
  fits_branches slots done = true
  fits_branches slots (else b) = fits_block slots b
  fits_branches slots (when c b r) = fits_expr slots c && fits_block slots b && fits_branches slots r

  pub fits_methods : Methods → Bool
  fits_methods []ᵐ = true
  fits_methods (method x ps b ms) =
      let inner = with_loops ps b in
      leb inner.locals 255 && fits_block inner.names b && fits_methods ms
