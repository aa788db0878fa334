-- What is written for a statement, for each kind byte. A statement that no loop has to tell its start and end is written as the lowering emits it.
use Prim.Native.Nat.{ℕ, ◌+◌, ◌-◌, ◌<◌, ◌≤◌}
use mathlib.Core.Path.{◌≡◌, sym, ap, ◌∙◌, subst}
use mathlib.Core.Logic.{◌⊎◌, inl, inr}
use mathlib.Core.Bool.{true, false}
use mathlib.Core.List.{List}
use native.Mathlib.Omega.{arith}
use lib.ListN.{length, get_or}
use Rattle.definitions.specs.Bytes.{Name}
use Rattle.definitions.specs.Tree.{Stmt, Branches, else, when}
use Rattle.definitions.specs.Wellformed.{ask_stmt}
use Rattle.definitions.specs.Slots.{Keeping}
use Rattle.definitions.specs.Lower.{emit_stmt}
use Rattle.definitions.specs.Instruction.{Jump}
use Rattle.definitions.specs.Tables.{Emit, one}
use Rattle.std.specs.Prelude.{Option}
use Rattle.lower_forms.proofs.ExprArms.{name-same}
use Rattle.lower_forms.proofs.StmtArms.{none_is}
use Rattle.definitions.specs.Measured.{ahead, back, write_stmt, write_branches}
use Rattle.definitions.proofs.Measured.{writes_parts}
use Rattle.numerals.specs.Kinds.{stmt_byte}
use Rattle.numerals.specs.declared.kinds.StmtKind.{StmtKind}
use Rattle.numerals.specs.declared.kinds.StmtKind.TheVariants.{Pass, Expr, Return, Assign}
use Rattle.tree_view.specs.Places.{Node, name_end}
use Rattle.tree_view.specs.ExprAt.{expr_at}
use Rattle.tree_view.specs.StmtAt.{stmt_at, block_at, branches_at, body_at, elifs_at, expr_stmt_at, return_at, assign_at, if_at, while_at, for_at, def_at, class_at, else_at}
use Rattle.tree_view.proofs.StmtViews.{view-break, view-continue, view-pass, view-expr, view-return, view-assign, view-if, view-while, view-for, view-def, view-class}
use Rattle.state.specs.Words.{name_at}
use Rattle.state.specs.State.{emit_at}
use Rattle.lower_forms.specs.Lowerable.{Relied, of_names, of_breaks}
use Rattle.lower_forms.specs.Lowering.{StmtLowerable, BranchesLowerable, stmt_code}
use Rattle.lower_calls.proofs.Calls.{at_same}
use Rattle.lower_emit.specs.declared.emitter.Emitter.{Emitter}
use Rattle.lower_emit.specs.Emitting.{state_in, SoundIn, LowersIn, EmitsTo}
use Rattle.lower_emit.proofs.Spelled.{names-in}
use Rattle.lower_simple.proofs.KindBytes.{byte-is}
use Rattle.write_blocks.specs.declared.Loop.{Loop}
use Rattle.write_blocks.specs.Written.{loop_of, stmt_written, rest_written, while_written, for_written}
use Rattle.write_blocks.proofs.Branches.{none-left}

module _ (d : ℕ) (t : List ℕ) (p : ℕ) (r : StmtLowerable d t p) (names : List Name) (keep : Keeping) (w : Loop) where
  abbrev at : Node Stmt → Emit
  at x = write_stmt names keep (loop_of w) x.value

  abbrev whole : Emit
  whole = stmt_written d t names keep w p

  pub written-break : get_or t p 0 ≡ 0 → whole ≡ ahead w.end
  unfolding write_stmt
  written-break k = ap at (view-break d t p r.reads k)

  pub written-continue : get_or t p 0 ≡ 1 → whole ≡ back w.start
  unfolding write_stmt
  written-continue k = ap at (view-continue d t p r.reads k)

  pub written-if : get_or t p 0 ≡ 6 → whole ≡ write_branches names keep (loop_of w) (when (expr_at (d - 1) t (p + 1)).value (body_at (d - 1) t (p + 1)).value (elifs_at (d - 1) t (p + 1)).value)
  unfolding write_stmt if_at
  written-if k = ap at (view-if d t p r.reads k).is

  pub written-while : get_or t p 0 ≡ 7 → whole ≡ while_written names keep (expr_at (d - 1) t (p + 1)).value (body_at (d - 1) t (p + 1)).value
  unfolding write_stmt while_at while_written
  written-while k = ap at (view-while d t p r.reads k).is

  pub written-for : get_or t p 0 ≡ 8 → whole ≡ for_written names keep (name_at t (p + 1)) (expr_at (d - 1) t (name_end t (p + 1))).value (body_at (d - 1) t (name_end t (p + 1))).value
  unfolding write_stmt for_at for_written
  written-for k =
      ap at (view-for d t p r.reads k).is
      ∙ ap (λ (x : Name). for_written names keep x (expr_at (d - 1) t (name_end t (p + 1))).value (body_at (d - 1) t (name_end t (p + 1))).value) (name-same t (p + 1))

  -- ---- as it is emitted

  module _ {a : Emitter} (S : SoundIn t a) where
    abbrev Same : Type 0
    Same = emit_at a.code.base whole (state_in t a) ≡ emit_at a.code.base (stmt_code d t names keep p) (state_in t a)

    asked : (q : ℕ) → Relied q → (x : Node Stmt) → stmt_at d t p ≡ x → ask_stmt q r.loop x.value ≡ true
    asked q j x is = ap (λ (n : Node Stmt). ask_stmt q r.loop n.value) (sym is) ∙ r.asks q j

    by : (x : Node Stmt) → stmt_at d t p ≡ x → ask_stmt 7 false x.value ≡ true → ask_stmt 9 false x.value ≡ true → Same
    by x is q7 q9 =
        let p₁ = length (state_in t a).stack - a.code.base in
        at_same a.code.base whole (stmt_code d t names keep p) (state_in t a)
        (ap (λ (n : Node Stmt). write_stmt names keep (loop_of w) n.value p₁ (state_in t a).tables) is
        ∙ writes_parts.statement names keep (loop_of w) x.value q7 q9 p₁ (state_in t a).tables (names-in S)
        ∙ ap (λ (n : Node Stmt). emit_stmt names keep n.value p₁ (state_in t a).tables) (sym is))

    same-pass : get_or t p 0 ≡ 2 → Same
    unfolding ask_stmt
    same-pass k = let v = view-pass d t p r.reads k in by _ v (asked 7 of_names _ v) (asked 9 of_breaks _ v)

    same-expr : get_or t p 0 ≡ 3 → Same
    unfolding ask_stmt expr_stmt_at
    same-expr k = let v = (view-expr d t p r.reads k).is in by _ v (asked 7 of_names _ v) (asked 9 of_breaks _ v)

    same-return : get_or t p 0 ≡ 4 → Same
    unfolding ask_stmt return_at
    same-return k = let v = (view-return d t p r.reads k).is in by _ v (asked 7 of_names _ v) (asked 9 of_breaks _ v)

    same-assign : get_or t p 0 ≡ 5 → Same
    unfolding ask_stmt assign_at
    same-assign k = let v = (view-assign d t p r.reads k).is in by _ v (asked 7 of_names _ v) (asked 9 of_breaks _ v)

    pub same-def : get_or t p 0 ≡ 9 → Same
    unfolding ask_stmt def_at
    same-def k = let v = (view-def d t p r.reads k).is in by _ v (asked 7 of_names _ v) (asked 9 of_breaks _ v)

    pub same-class : get_or t p 0 ≡ 10 → Same
    unfolding ask_stmt class_at
    same-class k = let v = (view-class d t p r.reads k).is in by _ v (asked 7 of_names _ v) (asked 9 of_breaks _ v)

    -- a statement that holds no block and leaves no loop
    pub same-simple : {k : StmtKind} → stmt_byte k ≡ get_or t p 0 → (k ≡ Pass) ⊎ ((k ≡ Expr) ⊎ ((k ≡ Return) ⊎ (k ≡ Assign))) → Same
    unfolding stmt_byte
    same-simple e (inl h) = same-pass (byte-is Pass e h)
    same-simple e (inr (inl h)) = same-expr (byte-is Expr e h)
    same-simple e (inr (inr (inl h))) = same-return (byte-is Return e h)
    same-simple e (inr (inr (inr h))) = same-assign (byte-is Assign e h)

-- their kinds
pub below-six : {k : StmtKind} {b : ℕ} → stmt_byte k ≡ b → (k ≡ Pass) ⊎ ((k ≡ Expr) ⊎ ((k ≡ Return) ⊎ (k ≡ Assign))) → (b < 6) × (2 ≤ b)
unfolding stmt_byte
below-six e (inl h) = (omega (arith, byte-is Pass e h), omega (arith, byte-is Pass e h))
below-six e (inr (inl h)) = (omega (arith, byte-is Expr e h), omega (arith, byte-is Expr e h))
below-six e (inr (inr (inl h))) = (omega (arith, byte-is Return e h), omega (arith, byte-is Return e h))
below-six e (inr (inr (inr h))) = (omega (arith, byte-is Assign e h), omega (arith, byte-is Assign e h))

-- ---- what comes after the last branch

pub none-as : {A : Type 0} {u : Option A} {d p : ℕ} {t : List ℕ} {a b : Emitter} (names : List Name) (keep : Keeping) (w : Loop) → SoundIn t a → BranchesLowerable d 0 t p → get_or t p 0 ≡ 0
    → LowersIn u (one (Jump 0)) t a b → LowersIn u (rest_written names keep w (branches_at d 0 t p).value) t a b
none-as {u = u} {d = d} {p = p} {t = t} {a = a} {b = b} names keep w S L z j =
    subst (λ (x : Node Branches). LowersIn u (rest_written names keep w x.value) t a b) (sym (none_is d t p L z)) (none-left S names keep w j)

pub else-as : {r : Option ℕ} {d p : ℕ} {t : List ℕ} {a b : Emitter} (names : List Name) (keep : Keeping) (w : Loop) → BranchesLowerable d 0 t p → branches_at d 0 t p ≡ else_at d t (p + 1)
    → EmitsTo r (rest_written names keep w (else (block_at d t (p + 1)).value)) (block_at d t (p + 1)).end t a b → EmitsTo r (rest_written names keep w (branches_at d 0 t p).value) (branches_at d 0 t p).end t a b
unfolding else_at
else-as {r} {d} {p} {t} {a} {b} names keep w L is h = subst (λ (x : Node Branches). EmitsTo r (rest_written names keep w x.value) x.end t a b) (sym is) h
