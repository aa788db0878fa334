-- The view of an accepted expression, for each kind byte: what it holds, and that it is the node made of that. Assumes nothing.
use Prim.Native.Nat.{ℕ, zero, suc, ◌+◌, ◌*◌, ◌-◌, ◌<◌, ◌≤◌}
use mathlib.Core.Path.{◌≡◌, refl, sym, ap, ◌∙◌, subst}
use mathlib.Core.Bool.{true, false, true≢false}
use mathlib.Core.List.{List, [], ◌∷◌}
use native.Mathlib.Omega.{arith}
use lib.ListN.{length, drop, get_or}
use Rattle.definitions.specs.Bytes.{Name, Parser, ◌>>=◌, give, unread, field, name, text}
use Rattle.definitions.specs.Tree.{none_l, bool_l, int_l, float_l, string_l, not_op, add_op, and_op, or_op, Display, list_d, tuple_d, dict_d, set_d, tree_set_d, ◌∷ᵉ◌}
use Rattle.definitions.specs.Tree.{Expr, lit, var, unary, binary, logical, call, attr, display, index, lambda, []ᵉ}
use Rattle.definitions.specs.Parse.{by_kind, too_deep, exprs_of, display_of, unary_kinds, binary_kinds, expr_kinds, parse_expr}
use Rattle.tree_view.specs.Places.{Node, node, node_at, is_got, Reads, There, TextAt}
use Rattle.tree_view.specs.ExprAt.{expr_at, exprs_at, ExprReads, ExprsRead, int_at, float_at, string_at, var_at, unary_of, binary_of, UnaryAt, unary_at, TwoAt, BinaryAt, binary_at}
use Rattle.tree_view.specs.ExprAt.{ListAt, CallAt, call_at, AttributeAt, attribute_at, display_at, DictAt, dict_at, index_at, LambdaAt, lambda_at, ExprsMore, cons_exprs_at, unary_ops, binary_ops}
use Rattle.tree_view.proofs.Laws.{steady-field, steady-name, steady-text}
use Rattle.tree_view.proofs.Nodes.{Seen, Goes, first_reads, node-within, goes-on, goes-give, goes_last, kind-inside, kind-known, goes-kind, choice-inside, choice-known, goes-choice, counted_none, counted-more}
use Rattle.tree_view.proofs.LeafNodes.{goes-count, eight-there, eight-node, name-is-there, name-node, goes-params, text-there, text-node}
use Rattle.tree_view.proofs.ExprLaws.{steady-E, steady-exprs, deep-E}

not-deep : (bs : List ℕ) → is_got (too_deep {A = Expr} bs) ≡ true → ⊥
unfolding too_deep is_got
not-deep [] e = true≢false (sym e)
not-deep (b ∷ bs) e = true≢false (sym e)

-- a level is left
pub expr-deep : (d : ℕ) (t : List ℕ) (p : ℕ) → ExprReads d t p → d ≡ 0 → ⊥
unfolding parse_expr
expr-deep zero t p r z = not-deep (drop p t) r.read
expr-deep (suc d) t p r z = omega arith

pub expr-within : (d : ℕ) (t : List ℕ) (p : ℕ) → ExprReads d t p → (expr_at d t p).end ≤ length t
expr-within d t p r = node-within (lit none_l) (parse_expr d) t p (steady-E d) r

three-unary : (n : ℕ) → n < length unary_kinds → n < 3
unfolding unary_kinds
three-unary n h = h

fourteen-binary : (n : ℕ) → n < length binary_kinds → n < 14
unfolding binary_kinds
fourteen-binary n h = h

module _ (d : ℕ) (t : List ℕ) (p : ℕ) (r : ExprReads d t p) where
  abbrev z : Expr
  z = lit none_l

  abbrev held : Parser Expr
  held = parse_expr (d - 1)

  deep : parse_expr d ≡ by_kind (expr_kinds held)
  deep = deep-E d (expr-deep d t p r)

  by-kind : Reads (by_kind (expr_kinds held)) t p
  by-kind = subst (λ (P : Parser Expr). Reads P t p) deep r

  -- there is a kind byte, below 18
  pub expr-inside : p < length t
  expr-inside = kind-inside (expr_kinds held) t p by-kind

  pub expr-known : get_or t p 0 < 18
  unfolding expr_kinds
  expr-known = kind-known (expr_kinds held) t p by-kind

  at-kind : (k : ℕ) → get_or t p 0 ≡ k → Goes z (parse_expr d) t p (get_or (expr_kinds held) k unread) (p + 1)
  at-kind k e = let g = goes-kind (expr_kinds held) t p by-kind z k e in
      record { reads = g.reads; is = ap (λ (P : Parser Expr). node_at z P t p) deep ∙ g.is }

  pub view-none : get_or t p 0 ≡ 0 → expr_at d t p ≡ node (lit none_l) (p + 1)
  unfolding expr_kinds
  view-none e = let g = at-kind 0 e in g.is ∙ goes-give _ _ t (p + 1) g.reads.start

  pub view-false : get_or t p 0 ≡ 1 → expr_at d t p ≡ node (lit (bool_l false)) (p + 1)
  unfolding expr_kinds
  view-false e = let g = at-kind 1 e in g.is ∙ goes-give _ _ t (p + 1) g.reads.start

  pub view-true : get_or t p 0 ≡ 2 → expr_at d t p ≡ node (lit (bool_l true)) (p + 1)
  unfolding expr_kinds
  view-true e = let g = at-kind 2 e in g.is ∙ goes-give _ _ t (p + 1) g.reads.start

  pub view-int : get_or t p 0 ≡ 3 → Seen (p + 1 + 8 ≤ length t) (expr_at d t p) (int_at t (p + 1))
  unfolding expr_kinds int_at
  view-int e = let g = at-kind 3 e in let h = eight-there t (p + 1) (first_reads z (field 8) _ t (p + 1) g.reads) in
      record { parts = h; is = g.is ∙ goes_last z 0 (field 8) (λ n. lit (int_l n)) t (p + 1) (steady-field 8) g.reads ∙ ap (λ (x : Node ℕ). node (lit (int_l x.value)) x.end) (eight-node t (p + 1) h) }

  pub view-float : get_or t p 0 ≡ 4 → Seen (p + 1 + 8 ≤ length t) (expr_at d t p) (float_at t (p + 1))
  unfolding expr_kinds float_at
  view-float e = let g = at-kind 4 e in let h = eight-there t (p + 1) (first_reads z (field 8) _ t (p + 1) g.reads) in
      record { parts = h; is = g.is ∙ goes_last z 0 (field 8) (λ n. lit (float_l n)) t (p + 1) (steady-field 8) g.reads ∙ ap (λ (x : Node ℕ). node (lit (float_l x.value)) x.end) (eight-node t (p + 1) h) }

  pub view-string : get_or t p 0 ≡ 5 → Seen (TextAt t (p + 1)) (expr_at d t p) (string_at t (p + 1))
  unfolding expr_kinds string_at
  view-string e = let g = at-kind 5 e in let h = first_reads z text _ t (p + 1) g.reads in
      record { parts = text-there t (p + 1) h; is = g.is ∙ goes_last z [] text (λ s. lit (string_l s)) t (p + 1) steady-text g.reads ∙ ap (λ (x : Node (List ℕ)). node (lit (string_l x.value)) x.end) (text-node t (p + 1) h) }

  pub view-var : get_or t p 0 ≡ 6 → Seen (There t (p + 1)) (expr_at d t p) (var_at t (p + 1))
  unfolding expr_kinds var_at
  view-var e = let g = at-kind 6 e in let h = name-is-there t (p + 1) (first_reads z name _ t (p + 1) g.reads) in
      record { parts = h; is = g.is ∙ goes_last z [] name var t (p + 1) steady-name g.reads ∙ ap (λ (x : Node Name). node (var x.value) x.end) (name-node t (p + 1) h) }

  pub view-unary : get_or t p 0 ≡ 7 → Seen (UnaryAt (d - 1) t (p + 1)) (expr_at d t p) (unary_at (d - 1) t (p + 1))
  unfolding expr_kinds unary_at unary_of
  view-unary e = let g = at-kind 7 e in
      let f : (Expr → Expr) → Parser Expr = λ op. held >>= λ x. give (op x) in
      let k = goes-choice z unary_kinds f t (p + 1) g.reads (unary not_op) in
      record {
        parts = record {
          inside = choice-inside z unary_kinds f t (p + 1) g.reads;
          operator = three-unary _ (choice-known z unary_kinds f t (p + 1) g.reads);
          operand = first_reads z held _ t (p + 1 + 1) k.reads;
        };
        is = g.is ∙ k.is ∙ goes_last z z held _ t (p + 1 + 1) (steady-E (d - 1)) k.reads;
      }

  pub view-binary : get_or t p 0 ≡ 8 → Seen (BinaryAt (d - 1) t (p + 1)) (expr_at d t p) (binary_at (d - 1) t (p + 1))
  unfolding expr_kinds binary_at binary_of
  view-binary e = let g = at-kind 8 e in
      let f : (Expr → Expr → Expr) → Parser Expr = λ op. held >>= λ l. held >>= λ x. give (op l x) in
      let k = goes-choice z binary_kinds f t (p + 1) g.reads (binary add_op) in
      let op = get_or binary_kinds (get_or t (p + 1) 0) (binary add_op) in
      let j = goes-on z held (λ l. held >>= λ x. give (op l x)) t (p + 1 + 1) k.reads z (steady-E (d - 1)) in
      record {
        parts = record {
          inside = choice-inside z binary_kinds f t (p + 1) g.reads;
          operator = fourteen-binary _ (choice-known z binary_kinds f t (p + 1) g.reads);
          operands = record { first = first_reads z held _ t (p + 1 + 1) k.reads; second = first_reads z held _ t _ j.reads };
        };
        is = g.is ∙ k.is ∙ j.is ∙ goes_last z z held _ t _ (steady-E (d - 1)) j.reads;
      }

  pub view-call : get_or t p 0 ≡ 9 → Seen (CallAt (d - 1) t (p + 1)) (expr_at d t p) (call_at (d - 1) t (p + 1))
  unfolding expr_kinds call_at
  view-call e = let g = at-kind 9 e in
      let f : Expr → ℕ → Parser Expr = λ c n. exprs_of held n >>= λ es. give (call c es) in
      let j = goes-on z held (λ c. field 2 >>= f c) t (p + 1) g.reads z (steady-E (d - 1)) in
      let x = expr_at (d - 1) t (p + 1) in
      let c = goes-count z (f x.value) t x.end j.reads in
      record {
        parts = record {
          callee = first_reads z held (λ c. field 2 >>= f c) t (p + 1) g.reads;
          args = record { count = c.0; elements = first_reads z (exprs_of held _) _ t _ c.1.reads };
        };
        is = g.is ∙ j.is ∙ c.1.is ∙ goes_last z []ᵉ (exprs_of held _) _ t _ (steady-exprs (steady-E (d - 1)) _) c.1.reads;
      }

  pub view-attribute : get_or t p 0 ≡ 10 → Seen (AttributeAt (d - 1) t (p + 1)) (expr_at d t p) (attribute_at (d - 1) t (p + 1))
  unfolding expr_kinds attribute_at
  view-attribute e = let g = at-kind 10 e in
      let f : Expr → Parser Expr = λ o. name >>= λ x. give (attr o x) in
      let j = goes-on z held f t (p + 1) g.reads z (steady-E (d - 1)) in
      let x = expr_at (d - 1) t (p + 1) in
      let h = name-is-there t x.end (first_reads z name _ t x.end j.reads) in
      record {
        parts = record { object = first_reads z held f t (p + 1) g.reads; name = h };
        is = g.is ∙ j.is ∙ goes_last z [] name (attr x.value) t x.end steady-name j.reads ∙ ap (λ (n : Node Name). node (attr x.value n.value) n.end) (name-node t x.end h);
      }

  view-display : (k : Display) → Goes z (parse_expr d) t p (display_of held k) (p + 1) → Seen (ListAt (d - 1) t (p + 1)) (expr_at d t p) (display_at k (d - 1) t (p + 1))
  unfolding display_of display_at
  view-display k g = let c = goes-count z (λ n. exprs_of held n >>= λ es. give (display k es)) t (p + 1) g.reads in
      record {
        parts = record { count = c.0; elements = first_reads z (exprs_of held _) _ t _ c.1.reads };
        is = g.is ∙ c.1.is ∙ goes_last z []ᵉ (exprs_of held _) _ t _ (steady-exprs (steady-E (d - 1)) _) c.1.reads;
      }

  pub view-list : get_or t p 0 ≡ 11 → Seen (ListAt (d - 1) t (p + 1)) (expr_at d t p) (display_at list_d (d - 1) t (p + 1))
  unfolding expr_kinds
  view-list e = view-display list_d (at-kind 11 e)

  pub view-dict : get_or t p 0 ≡ 12 → Seen (DictAt (d - 1) t (p + 1)) (expr_at d t p) (dict_at (d - 1) t (p + 1))
  unfolding expr_kinds dict_at
  view-dict e = let g = at-kind 12 e in let c = goes-count z (λ n. exprs_of held (2 * n) >>= λ es. give (display dict_d es)) t (p + 1) g.reads in
      record {
        parts = record { count = c.0; elements = first_reads z (exprs_of held _) _ t _ c.1.reads };
        is = g.is ∙ c.1.is ∙ goes_last z []ᵉ (exprs_of held _) _ t _ (steady-exprs (steady-E (d - 1)) _) c.1.reads;
      }

  pub view-tuple : get_or t p 0 ≡ 13 → Seen (ListAt (d - 1) t (p + 1)) (expr_at d t p) (display_at tuple_d (d - 1) t (p + 1))
  unfolding expr_kinds
  view-tuple e = view-display tuple_d (at-kind 13 e)

  pub view-set : get_or t p 0 ≡ 14 → Seen (ListAt (d - 1) t (p + 1)) (expr_at d t p) (display_at set_d (d - 1) t (p + 1))
  unfolding expr_kinds
  view-set e = view-display set_d (at-kind 14 e)

  pub view-tree-set : get_or t p 0 ≡ 15 → Seen (ListAt (d - 1) t (p + 1)) (expr_at d t p) (display_at tree_set_d (d - 1) t (p + 1))
  unfolding expr_kinds
  view-tree-set e = view-display tree_set_d (at-kind 15 e)

  pub view-index : get_or t p 0 ≡ 16 → Seen (TwoAt (d - 1) t (p + 1)) (expr_at d t p) (index_at (d - 1) t (p + 1))
  unfolding expr_kinds index_at
  view-index e = let g = at-kind 16 e in
      let f : Expr → Parser Expr = λ o. held >>= λ i. give (index o i) in
      let j = goes-on z held f t (p + 1) g.reads z (steady-E (d - 1)) in
      record {
        parts = record { first = first_reads z held f t (p + 1) g.reads; second = first_reads z held _ t _ j.reads };
        is = g.is ∙ j.is ∙ goes_last z z held _ t _ (steady-E (d - 1)) j.reads;
      }

  pub view-lambda : get_or t p 0 ≡ 17 → Seen (LambdaAt (d - 1) t (p + 1)) (expr_at d t p) (lambda_at (d - 1) t (p + 1))
  unfolding expr_kinds lambda_at
  view-lambda e = let g = at-kind 17 e in
      let j = goes-params z (λ ps. held >>= λ b. give (lambda ps b)) t (p + 1) g.reads in
      record {
        parts = record { params = j.0; body = first_reads z held _ t _ j.1.reads };
        is = g.is ∙ j.1.is ∙ goes_last z z held _ t _ (steady-E (d - 1)) j.1.reads;
      }

-- ---- n expressions, one at a time

module _ (d n : ℕ) (t : List ℕ) (p : ℕ) where
  pub view-exprs-none : n ≤ 0 → p ≤ length t → exprs_at d n t p ≡ node []ᵉ p
  unfolding exprs_of
  view-exprs-none h le = counted_none (lit none_l) []ᵉ []ᵉ ◌∷ᵉ◌ (parse_expr d) t p n h le

  pub view-exprs-more : 0 < n → ExprsRead d n t p → Seen (ExprsMore d n t p) (exprs_at d n t p) (cons_exprs_at d n t p)
  unfolding exprs_of cons_exprs_at
  view-exprs-more h r = let m = counted-more (lit none_l) []ᵉ []ᵉ ◌∷ᵉ◌ (parse_expr d) t p n h (steady-E d) r in record { parts = record { head = m.head; rest = m.rest }; is = m.is }

-- ---- the operator of a byte

pub unary-of : (k : ℕ) → k < 3 → unary_of k ≡ unary (get_or unary_ops k not_op)
unfolding unary_of unary_kinds unary_ops
unary-of zero h = refl
unary-of (suc zero) h = refl
unary-of (suc (suc zero)) h = refl
unary-of (suc (suc (suc k))) h = absurd (omega arith)

pub binary-of : (k : ℕ) → k < 12 → binary_of k ≡ binary (get_or binary_ops k add_op)
unfolding binary_of binary_kinds binary_ops
binary-of zero h = refl
binary-of (suc zero) h = refl
binary-of (suc (suc zero)) h = refl
binary-of (suc (suc (suc zero))) h = refl
binary-of (suc (suc (suc (suc zero)))) h = refl
binary-of (suc (suc (suc (suc (suc zero))))) h = refl
binary-of (suc (suc (suc (suc (suc (suc zero)))))) h = refl
binary-of (suc (suc (suc (suc (suc (suc (suc zero))))))) h = refl
binary-of (suc (suc (suc (suc (suc (suc (suc (suc zero)))))))) h = refl
binary-of (suc (suc (suc (suc (suc (suc (suc (suc (suc zero))))))))) h = refl
binary-of (suc (suc (suc (suc (suc (suc (suc (suc (suc (suc zero)))))))))) h = refl
binary-of (suc (suc (suc (suc (suc (suc (suc (suc (suc (suc (suc zero))))))))))) h = refl
binary-of (suc (suc (suc (suc (suc (suc (suc (suc (suc (suc (suc (suc k)))))))))))) h = absurd (omega arith)

pub and-of : (k : ℕ) → k ≡ 12 → binary_of k ≡ logical and_op
unfolding binary_of binary_kinds
and-of k e = ap binary_of e

pub or-of : (k : ℕ) → k ≡ 13 → binary_of k ≡ logical or_op
unfolding binary_of binary_kinds
or-of k e = ap binary_of e
