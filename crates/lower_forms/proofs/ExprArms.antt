-- What an accepted expression holds, for each kind byte, and its code by that of its parts.
use Prim.Native.Nat.{ℕ, zero, suc, ◌+◌, ◌-◌, ◌<◌, ◌≤◌}
use mathlib.Core.Path.{◌≡◌, refl, sym, ap, ◌∙◌, subst}
use mathlib.Core.Bool.{Bool, true, false, ◌&&◌}
use mathlib.Core.List.{List}
use native.Mathlib.Omega.{arith}
use native.Mathlib.Nat.{le_refl}
use lib.Dec.{leb, ltb, eqb}
use lib.ListN.{length, get_or}
use borrow.Author.Tests.{leb-true, ltb-true, ltb-false, eq-eqb, ne_eqb}
use Rattle.definitions.specs.Bytes.{Name, all}
use Rattle.definitions.specs.Tree.{Literal, not_op, LogicalOp, and_op, or_op, Expr, lit, unary, logical, call, display, Exprs, count}
use Rattle.definitions.specs.Wellformed.{if_asked, ask_name, distinct, ask_params, ask_args, ask_expr}
use Rattle.definitions.specs.Instruction.{instr, Build, LoadAttr, LoadIndex, operator_code}
use Rattle.definitions.specs.Tables.{Emit, one, ◌⨟◌, intern}
use Rattle.definitions.specs.Lower.{literal, load, decides, shortcut, display_size, emit_expr, emit_exprs}
use Rattle.tree_view.specs.Places.{Node, node, count_at, CountThere, name_from, name_end, There, params_at}
use Rattle.tree_view.specs.ExprAt.{expr_at, exprs_at, ExprsRead, unary_ops, binary_of, second_at, list_at, var_at, unary_at, binary_at, call_at, attribute_at, display_at, dict_at, index_at, lambda_at, cons_exprs_at}
use Rattle.exprs.specs.Literals.{LiteralAt}
use Rattle.tree_view.proofs.ExprViews.{expr-deep, expr-inside, view-var, view-unary, view-binary, view-call, view-attribute, view-list, view-dict, view-tuple, view-set, view-tree-set}
use Rattle.tree_view.proofs.ExprViews.{view-index, view-lambda, view-exprs-none, view-exprs-more, unary-of, binary-of, and-of, or-of}
use Rattle.exprs.proofs.LiteralLaws.{view-literal}
use Rattle.state.specs.Words.{name_at}
use Rattle.lower_forms.specs.Lowerable.{Relied, of_counts, Lowerable, LowerableMany, expr_code, exprs_code, UnaryLowerable, TwoLowerable, BinaryLowerable, ArgsLowerable, CallLowerable}
use Rattle.lower_forms.specs.Lowerable.{AttributeLowerable, DisplayLowerable, LambdaLowerable, lambda_code}
use Rattle.opcodes.specs.Codes.{unary_opcode, display_by_kind, held_of}
use Rattle.opcodes.proofs.Opcodes.{operator-is}
use Rattle.tree_view.proofs.NameLaws.{length-names}
pub use Rattle.definitions.proofs.Truth.{both as and_both}

-- the expression at p holds what Parts says; its code is e, by the names of the slots, and it ends at q
pub record Arm (Parts : Type 0) (d : ℕ) (t : List ℕ) (p : ℕ) (e : List Name → Emit) (q : ℕ) : Type 0 where
  pub parts : Parts
  pub code : (names : List Name) → expr_code d t names p ≡ e names
  pub end : (expr_at d t p).end ≡ q

pub name-same : (t : List ℕ) (p : ℕ) → name_from t p ≡ name_at t p
unfolding name_from name_at
name-same t p = refl

-- n expressions are n
pub exprs-count : (d n : ℕ) (t : List ℕ) (p : ℕ) → ExprsRead d n t p → count (exprs_at d n t p).value ≡ n
unfolding count cons_exprs_at
exprs-count d zero t p r = ap (λ (x : Node Exprs). count x.value) (view-exprs-none d 0 t p (le_refl 0) r.start)
exprs-count d (suc n) t p r =
    let v = view-exprs-more d (suc n) t p (omega arith) r in
    let q = (expr_at d t p).end in
    let z : suc n - 1 ≡ n = omega arith in
    ap (λ (x : Node Exprs). count x.value) v.is
    ∙ ap suc (ap (λ (m : ℕ). count (exprs_at d m t q).value) z ∙ exprs-count d n t q (subst (λ (m : ℕ). ExprsRead d m t q) z v.parts.rest))

-- what is asked of two operands is asked of both
module _ (q : ℕ) (x y : Expr) where
  both-low : (k : ℕ) → k < 12 → ask_expr q (binary_of k x y) ≡ ask_expr q x && ask_expr q y
  unfolding ask_expr
  both-low k h = ap (λ (f : Expr → Expr → Expr). ask_expr q (f x y)) (binary-of k h)

  both-logical : (k : ℕ) (op : LogicalOp) → binary_of k ≡ logical op → ask_expr q (binary_of k x y) ≡ ask_expr q x && ask_expr q y
  unfolding ask_expr
  both-logical k op w = ap (λ (f : Expr → Expr → Expr). ask_expr q (f x y)) w

  both-operands : (k : ℕ) → k < 14 → ask_expr q (binary_of k x y) ≡ ask_expr q x && ask_expr q y
  both-operands k h = go (ltb k 12) (ltb k 13) refl refl
    where
      go : (a b : Bool) → ltb k 12 ≡ a → ltb k 13 ≡ b → ask_expr q (binary_of k x y) ≡ ask_expr q x && ask_expr q y
      go true b e f = both-low k (ltb-true k 12 e)
      go false true e f = both-logical k and_op (and-of k (omega (arith, ltb-false k 12 e, ltb-true k 13 f)))
      go false false e f = both-logical k or_op (or-of k (omega (arith, ltb-false k 13 f)))

pub params-count : (t : List ℕ) (p : ℕ) → length (params_at t p).value ≡ count_at t p
unfolding params_at
params-count t p = length-names t (count_at t p) (p + 2)

pub few-params : (t : List ℕ) (p : ℕ) → ask_params 13 (params_at t p).value ≡ true → count_at t p ≤ 255
unfolding ask_params if_asked
few-params t p a =
    let ps = (params_at t p).value in
    let n = params-count t p in
    let h = leb-true (length ps) 255 (and_both (all (ask_name 13) ps && if_asked 11 13 (distinct ps)) (leb (length ps) 255) a).1 in
    omega arith

few-args : (d : ℕ) (t : List ℕ) (q : ℕ) → ExprsRead d (count_at t q) t (q + 2) → ask_args 13 (list_at d t q).value ≡ true → count_at t q ≤ 255
unfolding ask_args if_asked
few-args d t q r a = let n = exprs-count d (count_at t q) t (q + 2) r in let h = leb-true (count (list_at d t q).value) 255 a in omega arith

module _ (d : ℕ) (t : List ℕ) (p : ℕ) (r : Lowerable d t p) where
  pub arm-deep : 0 < d
  arm-deep = let h = expr-deep d t p r.reads in omega arith

  pub arm-inside : p < length t
  arm-inside = expr-inside d t p r.reads

  -- its value by other words
  asked : (e : Expr) → (expr_at d t p).value ≡ e → (q : ℕ) → Relied q → ask_expr q e ≡ true
  asked e w q k = ap (ask_expr q) (sym w) ∙ r.asks q k

  pub arm-literal : get_or t p 0 < 6 → Arm (LiteralAt t p) d t p (λ names. expr_code 1 t names p) (expr_at 1 t p).end
  arm-literal h =
      let v = view-literal d t p r.reads h in
      record { parts = v.parts; code = λ names. ap (λ (x : Node Expr). emit_expr names x.value) v.is; end = ap (λ (x : Node Expr). x.end) v.is }

  pub arm-variable : get_or t p 0 ≡ 6 → Arm (There t (p + 1)) d t p (λ names. load names (name_at t (p + 1))) (name_end t (p + 1))
  unfolding var_at emit_expr
  arm-variable k =
      let v = view-var d t p r.reads k in
      record {
        parts = v.parts;
        code = λ names. ap (λ (x : Node Expr). emit_expr names x.value) v.is ∙ ap (load names) (name-same t (p + 1));
        end = ap (λ (x : Node Expr). x.end) v.is;
      }

  pub arm_unary : get_or t p 0 ≡ 7 → Arm (UnaryLowerable (d - 1) t (p + 1)) d t p
      (λ names. expr_code (d - 1) t names (p + 1 + 1) ⨟ one (instr (unary_opcode (get_or t (p + 1) 0)) 0 0)) (expr_at (d - 1) t (p + 1 + 1)).end
  unfolding unary_at emit_expr ask_expr unary_opcode
  arm_unary k =
      let v = view-unary d t p r.reads k in
      let o = get_or t (p + 1) 0 in
      let x = (expr_at (d - 1) t (p + 1 + 1)).value in
      let w : (expr_at d t p).value ≡ unary (get_or unary_ops o not_op) x =
      ap (λ (n : Node Expr). n.value) v.is ∙ ap (λ (f : Expr → Expr). f x) (unary-of o v.parts.operator) in
      record {
        parts = record {
          inside = v.parts.inside;
          operator = v.parts.operator;
          operand = record { reads = v.parts.operand; asks = asked _ w };
        };
        code = λ names. ap (emit_expr names) w;
        end = ap (λ (n : Node Expr). n.end) v.is;
      }

  pub arm_binary : get_or t p 0 ≡ 8 → Arm (BinaryLowerable (d - 1) t (p + 1)) d t p
      (λ names. emit_expr names (binary_of (get_or t (p + 1) 0) (expr_at (d - 1) t (p + 1 + 1)).value (second_at (d - 1) t (p + 1 + 1)).value)) (second_at (d - 1) t (p + 1 + 1)).end
  unfolding binary_at
  arm_binary k =
      let v = view-binary d t p r.reads k in
      let w = ap (λ (n : Node Expr). n.value) v.is in
      let o = λ (q : ℕ). both-operands q (expr_at (d - 1) t (p + 1 + 1)).value (second_at (d - 1) t (p + 1 + 1)).value (get_or t (p + 1) 0) v.parts.operator in
      let a = λ (q : ℕ) (j : Relied q). and_both _ _ (sym (o q) ∙ asked _ w q j) in
      record {
        parts = record {
          inside = v.parts.inside;
          operator = v.parts.operator;
          operands = record {
            first = record { reads = v.parts.operands.first; asks = λ q j. (a q j).0 };
            second = record { reads = v.parts.operands.second; asks = λ q j. (a q j).1 };
          };
        };
        code = λ names. ap (emit_expr names) w;
        end = ap (λ (n : Node Expr). n.end) v.is;
      }

  pub arm-call : get_or t p 0 ≡ 9 → Arm (CallLowerable (d - 1) t (p + 1)) d t p
      (λ names. emit_expr names (call (expr_at (d - 1) t (p + 1)).value (list_at (d - 1) t (expr_at (d - 1) t (p + 1)).end).value)) (list_at (d - 1) t (expr_at (d - 1) t (p + 1)).end).end
  unfolding call_at ask_expr
  arm-call k =
      let v = view-call d t p r.reads k in
      let w = ap (λ (n : Node Expr). n.value) v.is in
      let q = (expr_at (d - 1) t (p + 1)).end in
      let a = λ (n : ℕ) (j : Relied n). and_both _ _ (asked _ w n j) in
      let b = λ (n : ℕ) (j : Relied n). and_both _ _ (a n j).0 in
      record {
        parts = record {
          callee = record { reads = v.parts.callee; asks = λ n j. (b n j).0 };
          args = record {
            count = v.parts.args.count;
            few = few-args (d - 1) t q v.parts.args.elements (b 13 of_counts).1;
            elements = record { reads = v.parts.args.elements; asks = λ n j. (a n j).1 };
          };
        };
        code = λ names. ap (emit_expr names) w;
        end = ap (λ (n : Node Expr). n.end) v.is;
      }

  pub arm-attribute : get_or t p 0 ≡ 10 → Arm (AttributeLowerable (d - 1) t (p + 1)) d t p
      (λ names. expr_code (d - 1) t names (p + 1) ⨟ intern (name_at t (expr_at (d - 1) t (p + 1)).end) (λ k. one (LoadAttr k))) (name_end t (expr_at (d - 1) t (p + 1)).end)
  unfolding attribute_at emit_expr ask_expr
  arm-attribute k =
      let v = view-attribute d t p r.reads k in
      let w = ap (λ (n : Node Expr). n.value) v.is in
      let q = (expr_at (d - 1) t (p + 1)).end in
      record {
        parts = record {
          object = record { reads = v.parts.object; asks = λ n j. (and_both _ _ (asked _ w n j)).0 };
          name = v.parts.name;
        };
        code = λ names. ap (emit_expr names) w ∙ ap (λ (x : Name). expr_code (d - 1) t names (p + 1) ⨟ intern x (λ k. one (LoadAttr k))) (name-same t q);
        end = ap (λ (n : Node Expr). n.end) v.is;
      }

  pub arm-index : get_or t p 0 ≡ 16 → Arm (TwoLowerable (d - 1) t (p + 1)) d t p
      (λ names. expr_code (d - 1) t names (p + 1) ⨟ expr_code (d - 1) t names (expr_at (d - 1) t (p + 1)).end ⨟ one LoadIndex) (second_at (d - 1) t (p + 1)).end
  unfolding index_at emit_expr ask_expr
  arm-index k =
      let v = view-index d t p r.reads k in
      let w = ap (λ (n : Node Expr). n.value) v.is in
      let a = λ (q : ℕ) (j : Relied q). and_both _ _ (asked _ w q j) in
      record {
        parts = record {
          first = record { reads = v.parts.first; asks = λ q j. (a q j).0 };
          second = record { reads = v.parts.second; asks = λ q j. (a q j).1 };
        };
        code = λ names. ap (emit_expr names) w;
        end = ap (λ (n : Node Expr). n.end) v.is;
      }

  -- a display of the kind k
  abbrev DisplayArm : ℕ → Type 0
  DisplayArm k =
      Arm (DisplayLowerable k (d - 1) t (p + 1)) d t p
      (λ names. exprs_code (d - 1) (held_of k (count_at t (p + 1))) t names (p + 1 + 2) ⨟ one (Build (display_by_kind k) (count_at t (p + 1)))) (exprs_at (d - 1) (held_of k (count_at t (p + 1))) t (p + 1 + 2)).end

  display-of : (k : ℕ) → 11 ≤ k → k ≤ 15 → CountThere t (p + 1) → ExprsRead (d - 1) (held_of k (count_at t (p + 1))) t (p + 1 + 2) →
      display_size (display_by_kind k) (exprs_at (d - 1) (held_of k (count_at t (p + 1))) t (p + 1 + 2)).value ≡ count_at t (p + 1) →
      expr_at d t p ≡ node (display (display_by_kind k) (exprs_at (d - 1) (held_of k (count_at t (p + 1))) t (p + 1 + 2)).value) (exprs_at (d - 1) (held_of k (count_at t (p + 1))) t (p + 1 + 2)).end →
      DisplayArm k
  unfolding emit_expr ask_expr
  display-of k lo hi n reads size is =
      let es = (exprs_at (d - 1) (held_of k (count_at t (p + 1))) t (p + 1 + 2)).value in
      let w = ap (λ (n : Node Expr). n.value) is in
      record {
        parts = record { above = lo; below = hi; count = n; elements = record { reads = reads; asks = asked (display (display_by_kind k) es) w } };
        code = λ names. ap (emit_expr names) w ∙ ap (λ (i : ℕ). emit_exprs names es ⨟ one (Build (display_by_kind k) i)) size;
        end = ap (λ (n : Node Expr). n.end) is;
      }

  pub arm-display : 11 ≤ get_or t p 0 → get_or t p 0 ≤ 15 → DisplayArm (get_or t p 0)
  unfolding display_by_kind held_of display_at dict_at display_size
  arm-display lo hi = go (get_or t p 0 - 11) (omega arith)
    where
      many : (m : ℕ) → ExprsRead (d - 1) m t (p + 1 + 2) → count (exprs_at (d - 1) m t (p + 1 + 2)).value ≡ m
      many m h = exprs-count (d - 1) m t (p + 1 + 2) h

      go : (j : ℕ) → get_or t p 0 ≡ 11 + j → DisplayArm (get_or t p 0)
      go zero e = let v = view-list d t p r.reads e in subst DisplayArm (sym e) (display-of 11 (omega arith) (omega arith) v.parts.count v.parts.elements (many _ v.parts.elements) v.is)
      go (suc zero) e =
          let v = view-dict d t p r.reads e in
          let q = many _ v.parts.elements in
          subst DisplayArm (sym e) (display-of 12 (omega arith) (omega arith) v.parts.count v.parts.elements (omega arith) v.is)
      go (suc (suc zero)) e = let v = view-tuple d t p r.reads e in subst DisplayArm (sym e) (display-of 13 (omega arith) (omega arith) v.parts.count v.parts.elements (many _ v.parts.elements) v.is)
      go (suc (suc (suc zero))) e = let v = view-set d t p r.reads e in subst DisplayArm (sym e) (display-of 14 (omega arith) (omega arith) v.parts.count v.parts.elements (many _ v.parts.elements) v.is)
      go (suc (suc (suc (suc zero)))) e = let v = view-tree-set d t p r.reads e in subst DisplayArm (sym e) (display-of 15 (omega arith) (omega arith) v.parts.count v.parts.elements (many _ v.parts.elements) v.is)
      go (suc (suc (suc (suc (suc j))))) e = absurd (omega arith)

  pub arm-lambda : get_or t p 0 ≡ 17 → Arm (LambdaLowerable (d - 1) t (p + 1)) d t p (λ names. lambda_code (d - 1) t names (p + 1)) (expr_at (d - 1) t (params_at t (p + 1)).end).end
  unfolding lambda_at ask_expr
  arm-lambda k =
      let v = view-lambda d t p r.reads k in
      let w = ap (λ (n : Node Expr). n.value) v.is in
      let a = λ (q : ℕ) (j : Relied q). and_both _ _ (asked _ w q j) in
      record {
        parts = record {
          params = v.parts.params;
          few = few-params t (p + 1) (a 13 of_counts).0;
          body = record { reads = v.parts.body; asks = λ q j. (a q j).1 };
        };
        code = λ names. ap (emit_expr names) w;
        end = ap (λ (n : Node Expr). n.end) v.is;
      }

-- ---- positions and counts by other words

pub lowerable-at : (d : ℕ) (t : List ℕ) (p q : ℕ) → q ≡ p → Lowerable d t p → Lowerable d t q
lowerable-at d t p q e r = subst (Lowerable d t) (sym e) r

pub many-at : (d n m : ℕ) (t : List ℕ) (p q : ℕ) → m ≡ n → q ≡ p → LowerableMany d n t p → LowerableMany d m t q
many-at d n m t p q e f r = rw (e, f) r

pub args_at : (d : ℕ) (t : List ℕ) (p q : ℕ) → q ≡ p → ArgsLowerable d t p → ArgsLowerable d t q
args_at d t p q e r = subst (ArgsLowerable d t) (sym e) r

pub there-at : (t : List ℕ) (p q : ℕ) → q ≡ p → There t p → There t q
there-at t p q e r = subst (There t) (sym e) r

pub counted-at : (t : List ℕ) (p q : ℕ) → q ≡ p → CountThere t p → CountThere t q
counted-at t p q e r = subst (CountThere t) (sym e) r

-- ---- codes of operators and literals

pub lit-code : (names : List Name) (l : Literal) (e : Expr) → lit l ≡ e → emit_expr names e ≡ literal l
unfolding emit_expr
lit-code names l e h = ap (emit_expr names) (sym h)

pub low-code : (names : List Name) (k op : ℕ) (x y : Expr) → k < 12 → op ≡ operator_code k → emit_expr names (binary_of k x y) ≡ emit_expr names x ⨟ emit_expr names y ⨟ one (instr op 0 0)
unfolding emit_expr
low-code names k op x y h e =
    ap (λ (f : Expr → Expr → Expr). emit_expr names (f x y)) (binary-of k h) ∙ ap (λ (o : ℕ). emit_expr names x ⨟ emit_expr names y ⨟ one (instr o 0 0)) (operator-is k h ∙ sym e)

pub logical-code : (names : List Name) (k : ℕ) (x y : Expr) → 12 ≤ k → k < 14 → emit_expr names (binary_of k x y) ≡ emit_expr names x ⨟ shortcut (eqb (17 + k) 30) (emit_expr names y)
unfolding emit_expr decides
logical-code names k x y lo hi = go (ltb k 13) refl
  where
    by : (op : LogicalOp) (b : Bool) → binary_of k ≡ logical op → decides op ≡ b → eqb (17 + k) 30 ≡ b → emit_expr names (binary_of k x y) ≡ emit_expr names x ⨟ shortcut (eqb (17 + k) 30) (emit_expr names y)
    by op b e f g = ap (λ (h : Expr → Expr → Expr). emit_expr names (h x y)) e ∙ ap (λ (c : Bool). emit_expr names x ⨟ shortcut c (emit_expr names y)) (f ∙ sym g)

    go : (b : Bool) → ltb k 13 ≡ b → emit_expr names (binary_of k x y) ≡ emit_expr names x ⨟ shortcut (eqb (17 + k) 30) (emit_expr names y)
    go true e = let h = ltb-true k 13 e in by and_op false (and-of k (omega arith)) refl (ne_eqb (17 + k) 30 (λ z. omega arith))
    go false e = let h = ltb-false k 13 e in by or_op true (or-of k (omega arith)) refl (eq-eqb (17 + k) 30 (omega arith))
