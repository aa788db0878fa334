-- What an accepted statement holds, for each kind byte, and its code by that of its parts.
use Prim.Native.Nat.{ℕ, ◌+◌, ◌-◌, ◌<◌, ◌≤◌}
use mathlib.Core.Path.{◌≡◌, refl, sym, ap, ◌∙◌, subst}
use mathlib.Core.Bool.{true, false, not, ◌&&◌, ◌||◌}
use mathlib.Core.List.{List, []}
use native.Mathlib.Omega.{arith}
use native.Mathlib.Nat.{le_refl}
use lib.Dec.{ltb}
use lib.ListN.{length, get_or}
use Rattle.definitions.specs.Bytes.{Name, all, same}
use Rattle.definitions.specs.Tree.{Stmt, if, when, for, Block, Branches, done, Methods}
use Rattle.definitions.specs.Instruction.{instr}
use Rattle.definitions.specs.Tables.{Emit, emits, one, ◌⨟◌}
use Rattle.definitions.specs.Wellformed.{init, if_asked, is_target, is_full, ask_name, ask_params, ask_expr, ask_target, ask_stmt, ask_block, ask_branches, ask_method, ask_methods, ask_attribute}
use Rattle.definitions.specs.Slots.{Keeping, past, loops_stmt}
use Rattle.definitions.specs.Lower.{loop, emit_stmt, emit_block}
use Rattle.tree_view.specs.Places.{Node, node, count_at, CountThere, name_from, name_end, params_at}
use Rattle.tree_view.specs.ExprAt.{expr_at, second_at}
use Rattle.tree_view.specs.StmtAt.{stmt_at, block_at, stmts_at, branches_at, methods_at, attributes_at, expr_stmt_at, return_at, assign_at, body_at, elifs_at, if_at, while_at, for_at, when_at, else_at}
use Rattle.tree_view.specs.StmtAt.{def_block_at, def_at, method_at, class_methods_at, class_at, cons_at}
use Rattle.tree_view.proofs.StmtViews.{stmt-deep, stmt-inside, stmt-known, view-break, view-continue, view-pass, view-expr, view-return, view-assign, view-if, view-while, view-for}
use Rattle.tree_view.proofs.StmtViews.{view-def, view-class, view-block, view-stmts-none, view-stmts-more, view-branches-more, else-inside, else-known, view-done, view-else}
use Rattle.tree_view.proofs.StmtViews.{view-methods-more}
use Rattle.state.specs.Words.{name_at}
use Rattle.lower_forms.specs.Lowerable.{Relied, of_counts, Lowerable, expr_code}
use Rattle.lower_forms.specs.Assigned.{AssignLowerable, assign_code}
use Rattle.lower_forms.proofs.ExprArms.{and_both, name-same, few-params}
use Rattle.lower_forms.specs.Lowering.{StmtLowerable, BlockLowerable, StmtsLowerable, stmt_code, block_code, stmts_code, BranchLowerable, BranchesLowerable, IfLowerable}
use Rattle.lower_forms.specs.Lowering.{ForLowerable, FunctionLowerable, end_of, function_code, MethodsLowerable, ClassLowerable, class_code}

-- the statement at p holds what Parts says; its code is e, by the names of the slots and where loops keep their iterators; it ends at q
pub record StmtArm (Parts : Type 0) (d : ℕ) (t : List ℕ) (p : ℕ) (e : List Name → Keeping → Emit) (q : ℕ) : Type 0 where
  pub parts : Parts
  pub code : (names : List Name) (keep : Keeping) → e names keep ≡ stmt_code d t names keep p
  pub end : q ≡ (stmt_at d t p).end

module _ (d : ℕ) (t : List ℕ) (p : ℕ) (r : StmtLowerable d t p) where
  pub arm-deep : 0 < d
  arm-deep = let h = stmt-deep d t p r.reads in omega arith

  pub arm-inside : p < length t
  arm-inside = stmt-inside d t p r.reads

  pub arm-known : get_or t p 0 < 11
  arm-known = stmt-known d t p r.reads

  module _ (x : Node Stmt) (is : stmt_at d t p ≡ x) where
    asked : (q : ℕ) → Relied q → ask_stmt q r.loop x.value ≡ true
    asked q j = ap (λ (n : Node Stmt). ask_stmt q r.loop n.value) (sym is) ∙ r.asks q j

    coded : (names : List Name) (keep : Keeping) → emit_stmt names keep x.value ≡ stmt_code d t names keep p
    coded names keep = ap (λ (n : Node Stmt). emit_stmt names keep n.value) (sym is)

    ends : x.end ≡ (stmt_at d t p).end
    ends = ap (λ (n : Node Stmt). n.end) (sym is)

  -- ---- those that hold no block

  pub arm-break : get_or t p 0 ≡ 0 → StmtArm (Unit {0}) d t p (λ names keep. one (instr 46 0 0)) (p + 1)
  unfolding emit_stmt
  arm-break k = let v = view-break d t p r.reads k in record { parts = tt; code = coded _ v; end = ends _ v }

  pub arm-continue : get_or t p 0 ≡ 1 → StmtArm (Unit {0}) d t p (λ names keep. one (instr 47 0 0)) (p + 1)
  unfolding emit_stmt
  arm-continue k = let v = view-continue d t p r.reads k in record { parts = tt; code = coded _ v; end = ends _ v }

  pub arm-pass : get_or t p 0 ≡ 2 → StmtArm (Unit {0}) d t p (λ names keep. emits []) (p + 1)
  unfolding emit_stmt
  arm-pass k = let v = view-pass d t p r.reads k in record { parts = tt; code = coded _ v; end = ends _ v }

  pub arm-expr : get_or t p 0 ≡ 3 → StmtArm (Lowerable (d - 1) t (p + 1)) d t p (λ names keep. expr_code (d - 1) t names (p + 1) ⨟ one (instr 7 0 0)) (expr_at (d - 1) t (p + 1)).end
  unfolding emit_stmt ask_stmt expr_stmt_at
  arm-expr k = let v = view-expr d t p r.reads k in
      record { parts = record { reads = v.parts; asks = asked _ v.is }; code = coded _ v.is; end = ends _ v.is }

  pub arm-return : get_or t p 0 ≡ 4 → StmtArm (Lowerable (d - 1) t (p + 1)) d t p (λ names keep. expr_code (d - 1) t names (p + 1) ⨟ one (instr 33 0 0)) (expr_at (d - 1) t (p + 1)).end
  unfolding emit_stmt ask_stmt return_at
  arm-return k = let v = view-return d t p r.reads k in
      record { parts = record { reads = v.parts; asks = asked _ v.is }; code = coded _ v.is; end = ends _ v.is }

  pub arm-assign : get_or t p 0 ≡ 5 → StmtArm (AssignLowerable (d - 1) t (p + 1)) d t p (λ names keep. assign_code (d - 1) t names (p + 1)) (second_at (d - 1) t (p + 1)).end
  unfolding emit_stmt ask_stmt ask_target assign_at
  arm-assign k =
      let v = view-assign d t p r.reads k in
      let x = (expr_at (d - 1) t (p + 1)).value in
      let a = λ (q : ℕ) (j : Relied q). and_both (ask_target q x) (ask_expr q (second_at (d - 1) t (p + 1)).value) (asked _ v.is q j) in
      record {
        parts = record {
          target = v.parts.first;
          asks = λ q j. (and_both (if_asked 36 q (is_full x) && if_asked 10 q (is_target x)) (ask_expr q x) (a q j).0).1;
          value = record { reads = v.parts.second; asks = λ q j. (a q j).1 };
        };
        code = coded _ v.is;
        end = ends _ v.is;
      }

  -- ---- branches and loops

  pub arm-if : get_or t p 0 ≡ 6 → StmtArm (IfLowerable (d - 1) t (p + 1)) d t p
      (λ names keep. emit_stmt names keep (if (when (expr_at (d - 1) t (p + 1)).value (body_at (d - 1) t (p + 1)).value (elifs_at (d - 1) t (p + 1)).value))) (elifs_at (d - 1) t (p + 1)).end
  unfolding ask_stmt if_at
  arm-if k =
      let v = view-if d t p r.reads k in
      let a = λ (q : ℕ) (j : Relied q). and_both _ _ (asked _ v.is q j) in
      let b = λ (q : ℕ) (j : Relied q). and_both _ _ (a q j).0 in
      record {
        parts = record {
          first = record {
            condition = record { reads = v.parts.first.condition; asks = λ q j. (b q j).0 };
            block = record { reads = v.parts.first.block; loop = r.loop; asks = λ q j. (b q j).1 };
          };
          count = v.parts.count;
          rest = record { reads = v.parts.rest; loop = r.loop; asks = λ q j. (a q j).1 };
        };
        code = coded _ v.is;
        end = ends _ v.is;
      }

  pub arm-while : get_or t p 0 ≡ 7 → StmtArm (BranchLowerable (d - 1) t (p + 1)) d t p
      (λ names keep. loop (expr_code (d - 1) t names (p + 1)) (block_code (d - 1) t names keep (expr_at (d - 1) t (p + 1)).end)) (body_at (d - 1) t (p + 1)).end
  unfolding emit_stmt ask_stmt while_at
  arm-while k =
      let v = view-while d t p r.reads k in
      let a = λ (q : ℕ) (j : Relied q). and_both _ _ (asked _ v.is q j) in
      record {
        parts = record {
          condition = record { reads = v.parts.condition; asks = λ q j. (a q j).0 };
          block = record { reads = v.parts.block; loop = true; asks = λ q j. (a q j).1 };
        };
        code = coded _ v.is;
        end = ends _ v.is;
      }

  pub arm-for : get_or t p 0 ≡ 8 → StmtArm (ForLowerable (d - 1) t (p + 1)) d t p
      (λ names keep. emit_stmt names keep (for (name_at t (p + 1)) (expr_at (d - 1) t (name_end t (p + 1))).value (body_at (d - 1) t (name_end t (p + 1))).value)) (body_at (d - 1) t (name_end t (p + 1))).end
  unfolding ask_stmt for_at
  arm-for k =
      let v = view-for d t p r.reads k in
      let x = name_from t (p + 1) in
      let e = (expr_at (d - 1) t (name_end t (p + 1))).value in
      let a = λ (q : ℕ) (j : Relied q). and_both (ask_name q x && ask_expr q e) (ask_block q true (body_at (d - 1) t (name_end t (p + 1))).value) (asked _ v.is q j) in
      record {
        parts = record {
          name = v.parts.name;
          loop = record {
            condition = record { reads = v.parts.loop.condition; asks = λ q j. (and_both (ask_name q x) (ask_expr q e) (a q j).0).1 };
            block = record { reads = v.parts.loop.block; loop = true; asks = λ q j. (a q j).1 };
          };
        };
        code = λ names keep. ap (λ (x : Name). emit_stmt names keep (for x (expr_at (d - 1) t (name_end t (p + 1))).value (body_at (d - 1) t (name_end t (p + 1))).value)) (sym (name-same t (p + 1))) ∙ coded _ v.is names keep;
        end = ends _ v.is;
      }

  -- ---- defs and classes

  pub arm-def : get_or t p 0 ≡ 9 → StmtArm (FunctionLowerable (d - 1) t (p + 1)) d t p (λ names keep. function_code (d - 1) t (p + 1) false) (def_block_at (d - 1) t (p + 1)).end
  unfolding emit_stmt ask_stmt def_at end_of name_from name_at
  arm-def k =
      let v = view-def d t p r.reads k in
      let x = name_from t (p + 1) in
      let ps = (params_at t (name_end t (p + 1))).value in
      let a = λ (q : ℕ) (j : Relied q). and_both (ask_name q x && ask_params q ps) (ask_block q false (def_block_at (d - 1) t (p + 1)).value) (asked _ v.is q j) in
      record {
        parts = record {
          name = v.parts.name;
          params = v.parts.params;
          few = few-params t (name_end t (p + 1)) (and_both (ask_name 13 x) (ask_params 13 ps) (a 13 of_counts).0).1;
          block = record { reads = v.parts.block; loop = false; asks = λ q j. (a q j).1 };
          outside = refl;
        };
        code = coded _ v.is;
        end = ends _ v.is;
      }

  pub arm-class : get_or t p 0 ≡ 10 → StmtArm (ClassLowerable (d - 1) t (p + 1)) d t p (λ names keep. class_code (name_at t (p + 1)) (class_methods_at (d - 1) t (p + 1)).value) (stmt_at d t p).end
  unfolding emit_stmt ask_stmt class_at class_code name_from name_at
  arm-class k =
      let v = view-class d t p r.reads k in
      let x = name_from t (p + 1) in
      let ms = (class_methods_at (d - 1) t (p + 1)).value in
      let a = λ (q : ℕ) (j : Relied q). and_both (ask_name q x && ask_methods q ms) (all (ask_attribute q) (attributes_at (d - 1) t (class_methods_at (d - 1) t (p + 1)).end).value) (asked _ v.is q j) in
      record {
        parts = record {
          name = v.parts.name;
          count = v.parts.count;
          methods = record { reads = v.parts.methods; asks = λ q j. (and_both (ask_name q x) (ask_methods q ms) (a q j).0).1 };
        };
        code = coded _ v.is;
        end = refl;
      }

-- ---- blocks

module _ (d : ℕ) (t : List ℕ) where
  -- a count, and so many statements
  pub block-parts : (p : ℕ) → BlockLowerable d t p → CountThere t p × StmtsLowerable d (count_at t p) t (p + 2)
  block-parts p r =
      let v = view-block d t p r.reads in (
        v.parts.count,
        record {
          reads = v.parts.statements;
          loop = r.loop;
          asks = λ q j. ap (λ (n : Node Block). ask_block q r.loop n.value) (sym v.is) ∙ r.asks q j;
        },
      )

  pub block-code : (names : List Name) (keep : Keeping) (p n : ℕ) → BlockLowerable d t p → n ≡ count_at t p
      → (stmts_code d n t names keep (p + 2) ≡ block_code d t names keep p) × ((stmts_at d n t (p + 2)).end ≡ (block_at d t p).end)
  block-code names keep p n r e =
      let v = view-block d t p r.reads in (
        ap (λ (m : ℕ). stmts_code d m t names keep (p + 2)) e ∙ ap (λ (x : Node Block). emit_block names keep x.value) (sym v.is),
        ap (λ (m : ℕ). (stmts_at d m t (p + 2)).end) e ∙ ap (λ (x : Node Block). x.end) (sym v.is),
      )

  pub stmts-more : (n p : ℕ) → 0 < n → StmtsLowerable d n t p → StmtLowerable d t p × StmtsLowerable d (n - 1) t (stmt_at d t p).end
  unfolding ask_stmt cons_at
  stmts-more n p h r =
      let v = view-stmts-more d n t p h r.reads in
      let a = λ (q : ℕ) (j : Relied q). and_both _ _ (ap (λ (x : Node Block). ask_block q r.loop x.value) (sym v.is) ∙ r.asks q j) in (
        record { reads = v.parts.head; loop = r.loop; asks = λ q j. (a q j).0 },
        record { reads = v.parts.rest; loop = r.loop; asks = λ q j. (a q j).1 },
      )

  pub stmts-code : (names : List Name) (keep : Keeping) (n p : ℕ) → 0 < n → StmtsLowerable d n t p
      → (stmts_code d n t names keep p ≡ (stmt_code d t names keep p ⨟ stmts_code d (n - 1) t names (past (loops_stmt (stmt_at d t p).value) keep) (stmt_at d t p).end))
      × ((stmts_at d n t p).end ≡ (stmts_at d (n - 1) t (stmt_at d t p).end).end)
  unfolding emit_stmt cons_at
  stmts-code names keep n p h r =
      let v = view-stmts-more d n t p h r.reads in
      (ap (λ (x : Node Block). emit_block names keep x.value) v.is, ap (λ (x : Node Block). x.end) v.is)

  pub stmts-none : (names : List Name) (keep : Keeping) (n p : ℕ) → n ≤ 0 → StmtsLowerable d n t p → (stmts_code d n t names keep p ≡ emits []) × (p ≡ (stmts_at d n t p).end)
  unfolding emit_stmt
  stmts-none names keep n p h r =
      let v = view-stmts-none d n t p h r.reads.start in
      (ap (λ (x : Node Block). emit_block names keep x.value) v, sym (ap (λ (x : Node Block). x.end) v))

  -- ---- elifs and else

  pub elifs-more : (n p : ℕ) → 0 < n → BranchesLowerable d n t p → BranchLowerable d t p × BranchesLowerable d (n - 1) t (body_at d t p).end
  unfolding ask_stmt when_at
  elifs-more n p h r =
      let v = view-branches-more d t p n h r.reads in
      let a = λ (q : ℕ) (j : Relied q). and_both _ _ (ap (λ (x : Node Branches). ask_branches q r.loop x.value) (sym v.is) ∙ r.asks q j) in
      let b = λ (q : ℕ) (j : Relied q). and_both _ _ (a q j).0 in (
        record {
          condition = record { reads = v.parts.first.condition; asks = λ q j. (b q j).0 };
          block = record { reads = v.parts.first.block; loop = r.loop; asks = λ q j. (b q j).1 };
        },
        record { reads = v.parts.rest; loop = r.loop; asks = λ q j. (a q j).1 },
      )

  pub elifs-is : (n p : ℕ) → 0 < n → BranchesLowerable d n t p
      → ((branches_at d n t p).value ≡ when (expr_at d t p).value (body_at d t p).value (branches_at d (n - 1) t (body_at d t p).end).value) × ((branches_at d n t p).end ≡ (branches_at d (n - 1) t (body_at d t p).end).end)
  unfolding when_at
  elifs-is n p h r =
      let v = view-branches-more d t p n h r.reads in
      (ap (λ (x : Node Branches). x.value) v.is, ap (λ (x : Node Branches). x.end) v.is)

  -- none is left
  pub elifs-none : (n p : ℕ) → n ≤ 0 → BranchesLowerable d n t p → BranchesLowerable d 0 t p
  elifs-none n p h r = let z : n ≡ 0 = omega arith in subst (λ (m : ℕ). BranchesLowerable d m t p) z r

  pub elifs-zero : (n p : ℕ) → n ≤ 0 → branches_at d 0 t p ≡ branches_at d n t p
  elifs-zero n p h = let z : 0 ≡ n = omega arith in ap (λ (m : ℕ). branches_at d m t p) z

  -- the block after the byte 1
  pub else-parts : (p : ℕ) → BranchesLowerable d 0 t p → get_or t p 0 ≡ 1 → BlockLowerable d t (p + 1) × (branches_at d 0 t p ≡ else_at d t (p + 1))
  unfolding ask_stmt else_at
  else-parts p r e =
      let v = view-else d t p 0 (le_refl 0) r.reads e in (
        record {
          reads = v.parts;
          loop = r.loop;
          asks = λ q j. ap (λ (x : Node Branches). ask_branches q r.loop x.value) (sym v.is) ∙ r.asks q j;
        },
        v.is,
      )

  pub else-in : (p : ℕ) → BranchesLowerable d 0 t p → p < length t
  else-in p r = else-inside d t p 0 (le_refl 0) r.reads

  pub else-one : (p : ℕ) → BranchesLowerable d 0 t p → (get_or t p 0 ≡ 0 → ⊥) → get_or t p 0 ≡ 1
  else-one p r h = let k = else-known d t p 0 (le_refl 0) r.reads in omega arith

  pub none_is : (p : ℕ) → BranchesLowerable d 0 t p → get_or t p 0 ≡ 0 → branches_at d 0 t p ≡ node done (p + 1)
  none_is p r e = view-done d t p 0 (le_refl 0) r.reads e

-- the method at p, and those after it
module _ (d : ℕ) (t : List ℕ) where
  pub methods-parts : (n p : ℕ) → 0 < n → MethodsLowerable d n t p → FunctionLowerable d t p × MethodsLowerable d (n - 1) t (def_block_at d t p).end
  unfolding ask_stmt ask_method method_at
  methods-parts n p h r =
      let v = view-methods-more d t p n h r.reads in
      let x = name_from t p in
      let ps = (params_at t (name_end t p)).value in
      let a = λ (q : ℕ) (j : Relied q). and_both (ask_method q x ps && ask_block q false (def_block_at d t p).value) (ask_methods q (methods_at d (n - 1) t (def_block_at d t p).end).value)
      (ap (λ (x : Node Methods). ask_methods q x.value) (sym v.is) ∙ r.asks q j) in
      let b = λ (q : ℕ) (j : Relied q). and_both (ask_method q x ps) (ask_block q false (def_block_at d t p).value) (a q j).0 in
      let m = and_both (ask_name 13 x && ask_params 13 ps) (if_asked 12 13 (not (same x init) || ltb 0 (length ps))) (b 13 of_counts).0 in (
        record {
          name = v.parts.first.name;
          params = v.parts.first.params;
          few = few-params t (name_end t p) (and_both (ask_name 13 x) (ask_params 13 ps) m.0).1;
          block = record { reads = v.parts.first.block; loop = false; asks = λ q j. (b q j).1 };
          outside = refl;
        },
        record { reads = v.parts.rest; asks = λ q j. (a q j).1 },
      )
