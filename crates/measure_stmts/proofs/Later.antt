-- An expression takes its kind byte at least.
use Prim.Native.Nat.{ℕ, zero, suc, ◌+◌, ◌*◌, ◌-◌, ◌<◌}
use mathlib.Core.Path.{◌≡◌, refl, ap, ◌∙◌, subst}
use mathlib.Core.List.{List}
use native.Mathlib.Omega.{arith}
use lib.ListN.{get_or}
use Rattle.definitions.specs.Bytes.{Parser, unread}
use Rattle.definitions.specs.Tree.{none_l, Display, list_d, tuple_d, set_d, tree_set_d, Expr, lit}
use Rattle.definitions.specs.Parse.{by_kind, display_of, unary_kinds, binary_kinds, expr_kinds, parse_expr}
use Rattle.tree_view.specs.Places.{Node, node_at, Reads}
use Rattle.tree_view.proofs.Laws.{Steady, steady-bind, steady-give, steady-unread, steady-field, steady-text, steady-name, steady-params, steady-choice, AllSteady, none, more}
use Rattle.tree_view.proofs.Nodes.{goes-kind}
use Rattle.tree_view.specs.ExprAt.{expr_at, ExprReads}
use Rattle.tree_view.proofs.ExprLaws.{steady-E, steady-exprs, deep-E}
use Rattle.tree_view.proofs.ExprViews.{expr-deep}
use Rattle.measure.proofs.Ahead.{node-after}

steady-one : {A : Type 0} {ps : List (Parser A)} → AllSteady ps → (k : ℕ) → Steady (get_or ps k unread)
steady-one none k = steady-unread
steady-one (more s r) zero = s
steady-one (more s r) (suc k) = steady-one r k

steady-display : {e : Parser Expr} → Steady e → (k : Display) → Steady (display_of e k)
unfolding display_of
steady-display s k = steady-bind (steady-field 2) (λ n. steady-bind (steady-exprs s n) (λ es. steady-give _))

steady-kinds : {e : Parser Expr} → Steady e → AllSteady (expr_kinds e)
unfolding expr_kinds
steady-kinds s =
    more (steady-give _) (more (steady-give _) (more (steady-give _)
    (more (steady-bind (steady-field 8) (λ n. steady-give _)) (more (steady-bind (steady-field 8) (λ n. steady-give _))
    (more (steady-bind (steady-text) (λ n. steady-give _)) (more (steady-bind steady-name (λ n. steady-give _))
    (more (steady-bind (steady-choice unary_kinds) (λ op. steady-bind s (λ x. steady-give _)))
    (more (steady-bind (steady-choice binary_kinds) (λ op. steady-bind s (λ l. steady-bind s (λ r. steady-give _))))
    (more (steady-bind s (λ f. steady-bind (steady-field 2) (λ n. steady-bind (steady-exprs s n) (λ es. steady-give _))))
    (more (steady-bind s (λ o. steady-bind steady-name (λ x. steady-give _)))
    (more (steady-display s list_d)
    (more (steady-bind (steady-field 2) (λ n. steady-bind (steady-exprs s (2 * n)) (λ es. steady-give _)))
    (more (steady-display s tuple_d) (more (steady-display s set_d) (more (steady-display s tree_set_d)
    (more (steady-bind s (λ o. steady-bind s (λ i. steady-give _)))
    (more (steady-bind steady-params (λ ps. steady-bind s (λ b. steady-give _)))
    none)))))))))))))))))

pub expr-later : (d : ℕ) (t : List ℕ) (p : ℕ) → ExprReads d t p → p < (expr_at d t p).end
expr-later d t p r =
    let ps : List (Parser Expr) = expr_kinds (parse_expr (d - 1)) in
    let deep : parse_expr d ≡ by_kind ps = deep-E d (expr-deep d t p r) in
    let reads : Reads (by_kind ps) t p = subst (λ (P : Parser Expr). Reads P t p) deep r in
    let g = goes-kind ps t p reads (lit none_l) (get_or t p 0) refl in
    let h = node-after (lit none_l) (get_or ps (get_or t p 0) unread) t (p + 1) (steady-one (steady-kinds (steady-E (d - 1))) (get_or t p 0)) g.reads in
    let e : (expr_at d t p).end ≡ (node_at (lit none_l) (get_or ps (get_or t p 0) unread) t (p + 1)).end =
    ap (λ (P : Parser Expr). (node_at (lit none_l) P t p).end) deep ∙ ap (λ (x : Node Expr). x.end) g.is in
    omega arith
