-- The view of an accepted statement, for each kind byte: what it holds, and that it is the node made of that; of a block, of elifs, of methods;
-- and of an accepted tree. Assumes nothing.
use Prim.Native.Nat.{ℕ, zero, suc, ◌+◌, ◌-◌, ◌<◌, ◌≤◌}
use mathlib.Core.Path.{◌≡◌, sym, ap, ◌∙◌, subst}
use mathlib.Core.Bool.{true, true≢false}
use mathlib.Core.List.{List, [], ◌∷◌}
use native.Mathlib.Omega.{arith}
use native.Mathlib.Numerals.{sub-one}
use lib.ListN.{length, drop, get_or}
use Rattle.definitions.specs.Bytes.{Name, Parser, ◌>>=◌, give, unread, field, counted, list_of, name}
use Rattle.definitions.specs.Tree.{none_l, Expr, lit, Attribute, Stmt, break, continue, pass, expr, return, assign, if, while, for, def, class, ◌∷ᵇ◌}
use Rattle.definitions.specs.Tree.{Block, []ᵇ, Branches, done, else, when, Methods, []ᵐ, method}
use Rattle.definitions.specs.TreeBytes.{size}
use Rattle.definitions.specs.Parse.{by_kind, too_deep, params, parse_expr, block_of, branches, methods, attribute, stmt_kinds, parse_stmt}
use Rattle.tree_view.specs.Places.{Node, node, node_at, is_got, Reads, count_at, name_from, name_end, There, params_at}
use Rattle.tree_view.specs.ExprAt.{expr_at, ExprReads, TwoAt}
use Rattle.tree_view.specs.StmtAt.{stmt_at, block_at, stmts_at, branches_at, methods_at, attributes_at, StmtReads, BlockReads, StmtsRead, BranchesRead, MethodsRead, AttributesRead}
use Rattle.tree_view.specs.StmtAt.{expr_stmt_at, return_at, assign_at, BranchAt, body_at, IfAt, if_at, while_at, ForAt, for_at, BranchesMore, when_at, else_at}
use Rattle.tree_view.specs.StmtAt.{DefAt, def_block_at, def_at, MethodsMore, method_at, ClassAt, class_at, values_at, ValuesRead, AttributesAt, ValuesMore, value_at, BlockAt, StmtsMore, cons_at}
use Rattle.tree_view.proofs.Laws.{steady-list_of}
use Rattle.tree_view.proofs.Nodes.{Seen, Goes, first_reads, goes-on, goes-give, goes_last, kind-inside, kind-known, goes-kind, counted_none, counted-more, node-within}
use Rattle.tree_view.proofs.LeafNodes.{goes-count, goes-name, goes-params}
use Rattle.tree_view.proofs.ExprLaws.{steady-E}
use Rattle.tree_view.proofs.StmtLaws.{steady-S, steady-B, steady-branches, steady-methods, steady-attribute, deep-S}

not-deep : (bs : List ℕ) → is_got (too_deep {A = Stmt} bs) ≡ true → ⊥
unfolding too_deep is_got
not-deep [] e = true≢false (sym e)
not-deep (b ∷ bs) e = true≢false (sym e)

-- a level is left
pub stmt-deep : (d : ℕ) (t : List ℕ) (p : ℕ) → StmtReads d t p → d ≡ 0 → ⊥
unfolding parse_stmt
stmt-deep zero t p r z = not-deep (drop p t) r.read
stmt-deep (suc d) t p r z = omega arith

-- a condition and a block, and what follows them
module _ {A : Type 0} (z : A) (d : ℕ) (f : Expr → Block → Parser A) (t : List ℕ) (p : ℕ) (r : Reads (parse_expr d >>= λ c. block_of (parse_stmt d) >>= f c) t p) where
  goes_branch : BranchAt d t p × Goes z (parse_expr d >>= λ c. block_of (parse_stmt d) >>= f c) t p (f (expr_at d t p).value (body_at d t p).value) (body_at d t p).end
  goes_branch =
      let x = expr_at d t p in
      let g = goes-on z (parse_expr d) (λ c. block_of (parse_stmt d) >>= f c) t p r (lit none_l) (steady-E d) in
      let h = goes-on z (block_of (parse_stmt d)) (f x.value) t x.end g.reads []ᵇ (steady-B d) in (
        record { condition = first_reads z (parse_expr d) _ t p r; block = first_reads z (block_of (parse_stmt d)) _ t x.end g.reads },
        record { reads = h.reads; is = g.is ∙ h.is },
      )

-- a name, parameters and a block, and what follows them
module _ {A : Type 0} (z : A) (d : ℕ) (f : Name → List Name → Block → Parser A) (t : List ℕ) (p : ℕ)
    (r : Reads (name >>= λ x. params >>= λ ps. block_of (parse_stmt d) >>= f x ps) t p) where
  goes-def : DefAt d t p × Goes z (name >>= λ x. params >>= λ ps. block_of (parse_stmt d) >>= f x ps) t p
      (f (name_from t p) (params_at t (name_end t p)).value (def_block_at d t p).value) (def_block_at d t p).end
  goes-def =
      let g = goes-name z (λ x. params >>= λ ps. block_of (parse_stmt d) >>= f x ps) t p r in
      let h = goes-params z (λ ps. block_of (parse_stmt d) >>= f (name_from t p) ps) t (name_end t p) g.1.reads in
      let ps = params_at t (name_end t p) in
      let j = goes-on z (block_of (parse_stmt d)) (f (name_from t p) ps.value) t ps.end h.1.reads []ᵇ (steady-B d) in (
        record { name = g.0; params = h.0; block = first_reads z (block_of (parse_stmt d)) _ t ps.end h.1.reads },
        record { reads = j.reads; is = g.1.is ∙ h.1.is ∙ j.is },
      )

module _ (d : ℕ) (t : List ℕ) (p : ℕ) (r : StmtReads d t p) where
  abbrev e : Parser Expr
  e = parse_expr (d - 1)

  abbrev s : Parser Stmt
  s = parse_stmt (d - 1)

  deep : parse_stmt d ≡ by_kind (stmt_kinds e s)
  deep = deep-S d (stmt-deep d t p r)

  by-kind : Reads (by_kind (stmt_kinds e s)) t p
  by-kind = subst (λ (P : Parser Stmt). Reads P t p) deep r

  -- there is a kind byte, below 11
  pub stmt-inside : p < length t
  stmt-inside = kind-inside (stmt_kinds e s) t p by-kind

  pub stmt-known : get_or t p 0 < 11
  unfolding stmt_kinds
  stmt-known = kind-known (stmt_kinds e s) t p by-kind

  at-kind : (k : ℕ) → get_or t p 0 ≡ k → Goes pass (parse_stmt d) t p (get_or (stmt_kinds e s) k unread) (p + 1)
  at-kind k x = let g = goes-kind (stmt_kinds e s) t p by-kind pass k x in
      record { reads = g.reads; is = ap (λ (P : Parser Stmt). node_at pass P t p) deep ∙ g.is }

  pub view-break : get_or t p 0 ≡ 0 → stmt_at d t p ≡ node break (p + 1)
  unfolding stmt_kinds
  view-break x = let g = at-kind 0 x in g.is ∙ goes-give _ _ t (p + 1) g.reads.start

  pub view-continue : get_or t p 0 ≡ 1 → stmt_at d t p ≡ node continue (p + 1)
  unfolding stmt_kinds
  view-continue x = let g = at-kind 1 x in g.is ∙ goes-give _ _ t (p + 1) g.reads.start

  pub view-pass : get_or t p 0 ≡ 2 → stmt_at d t p ≡ node pass (p + 1)
  unfolding stmt_kinds
  view-pass x = let g = at-kind 2 x in g.is ∙ goes-give _ _ t (p + 1) g.reads.start

  pub view-expr : get_or t p 0 ≡ 3 → Seen (ExprReads (d - 1) t (p + 1)) (stmt_at d t p) (expr_stmt_at (d - 1) t (p + 1))
  unfolding stmt_kinds expr_stmt_at
  view-expr x = let g = at-kind 3 x in
      record { parts = first_reads pass e _ t (p + 1) g.reads; is = g.is ∙ goes_last pass (lit none_l) e expr t (p + 1) (steady-E (d - 1)) g.reads }

  pub view-return : get_or t p 0 ≡ 4 → Seen (ExprReads (d - 1) t (p + 1)) (stmt_at d t p) (return_at (d - 1) t (p + 1))
  unfolding stmt_kinds return_at
  view-return x = let g = at-kind 4 x in
      record { parts = first_reads pass e _ t (p + 1) g.reads; is = g.is ∙ goes_last pass (lit none_l) e return t (p + 1) (steady-E (d - 1)) g.reads }

  pub view-assign : get_or t p 0 ≡ 5 → Seen (TwoAt (d - 1) t (p + 1)) (stmt_at d t p) (assign_at (d - 1) t (p + 1))
  unfolding stmt_kinds assign_at
  view-assign x = let g = at-kind 5 x in
      let f : Expr → Parser Stmt = λ a. e >>= λ v. give (assign a v) in
      let j = goes-on pass e f t (p + 1) g.reads (lit none_l) (steady-E (d - 1)) in
      record {
        parts = record { first = first_reads pass e f t (p + 1) g.reads; second = first_reads pass e _ t _ j.reads };
        is = g.is ∙ j.is ∙ goes_last pass (lit none_l) e _ t _ (steady-E (d - 1)) j.reads;
      }

  pub view-if : get_or t p 0 ≡ 6 → Seen (IfAt (d - 1) t (p + 1)) (stmt_at d t p) (if_at (d - 1) t (p + 1))
  unfolding stmt_kinds if_at
  view-if x = let g = at-kind 6 x in
      let f : Expr → Block → ℕ → Parser Stmt = λ c b n. branches e s n >>= λ r. give (if (when c b r)) in
      let j = goes_branch pass (d - 1) (λ c b. field 2 >>= f c b) t (p + 1) g.reads in
      let c = goes-count pass (f (expr_at (d - 1) t (p + 1)).value (body_at (d - 1) t (p + 1)).value) t (body_at (d - 1) t (p + 1)).end j.1.reads in
      record {
        parts = record { first = j.0; count = c.0; rest = first_reads pass (branches e s _) _ t _ c.1.reads };
        is = g.is ∙ j.1.is ∙ c.1.is ∙ goes_last pass done (branches e s _) _ t _ (steady-branches (steady-E (d - 1)) (steady-S (d - 1)) _) c.1.reads;
      }

  pub view-while : get_or t p 0 ≡ 7 → Seen (BranchAt (d - 1) t (p + 1)) (stmt_at d t p) (while_at (d - 1) t (p + 1))
  unfolding stmt_kinds while_at
  view-while x = let g = at-kind 7 x in let j = goes_branch pass (d - 1) (λ c b. give (while c b)) t (p + 1) g.reads in
      record { parts = j.0; is = g.is ∙ j.1.is ∙ goes-give pass _ t _ j.1.reads.start }

  pub view-for : get_or t p 0 ≡ 8 → Seen (ForAt (d - 1) t (p + 1)) (stmt_at d t p) (for_at (d - 1) t (p + 1))
  unfolding stmt_kinds for_at
  view-for x = let g = at-kind 8 x in
      let f : Name → Expr → Block → Parser Stmt = λ y c b. give (for y c b) in
      let j = goes-name pass (λ y. e >>= λ c. block_of s >>= f y c) t (p + 1) g.reads in
      let h = goes_branch pass (d - 1) (f (name_from t (p + 1))) t (name_end t (p + 1)) j.1.reads in
      record { parts = record { name = j.0; loop = h.0 }; is = g.is ∙ j.1.is ∙ h.1.is ∙ goes-give pass _ t _ h.1.reads.start }

  pub view-def : get_or t p 0 ≡ 9 → Seen (DefAt (d - 1) t (p + 1)) (stmt_at d t p) (def_at (d - 1) t (p + 1))
  unfolding stmt_kinds def_at
  view-def x = let g = at-kind 9 x in let j = goes-def pass (d - 1) (λ y ps b. give (def y ps b)) t (p + 1) g.reads in
      record { parts = j.0; is = g.is ∙ j.1.is ∙ goes-give pass _ t _ j.1.reads.start }

  pub view-class : get_or t p 0 ≡ 10 → Seen (ClassAt (d - 1) t (p + 1)) (stmt_at d t p) (class_at (d - 1) t (p + 1))
  unfolding stmt_kinds class_at
  view-class x = let g = at-kind 10 x in
      let f : Name → Methods → Parser Stmt = λ y ms. list_of 2 (attribute e) >>= λ vs. give (class y ms vs) in
      let j = goes-name pass (λ y. field 2 >>= λ n. methods s n >>= f y) t (p + 1) g.reads in
      let y = name_from t (p + 1) in
      let m = name_end t (p + 1) in
      let c = goes-count pass (λ n. methods s n >>= f y) t m j.1.reads in
      let h = goes-on pass (methods s (count_at t m)) (f y) t (m + 2) c.1.reads []ᵐ (steady-methods (steady-S (d - 1)) _) in
      record {
        parts = record { name = j.0; count = c.0; methods = first_reads pass (methods s _) _ t _ c.1.reads; attributes = first_reads pass (list_of 2 (attribute e)) _ t _ h.reads };
        is = g.is ∙ j.1.is ∙ c.1.is ∙ h.is ∙ goes_last pass [] (list_of 2 (attribute e)) _ t _ (steady-list_of 2 (steady-attribute (steady-E (d - 1)))) h.reads;
      }

-- ---- blocks

pub view-block : (d : ℕ) (t : List ℕ) (p : ℕ) → BlockReads d t p → Seen (BlockAt d t p) (block_at d t p) (stmts_at d (count_at t p) t (p + 2))
unfolding block_of
view-block d t p r = let c = goes-count []ᵇ (λ n. counted []ᵇ ◌∷ᵇ◌ (parse_stmt d) n) t p r in
    record { parts = record { count = c.0; statements = c.1.reads }; is = c.1.is }

module _ (d n : ℕ) (t : List ℕ) (p : ℕ) where
  pub view-stmts-none : n ≤ 0 → p ≤ length t → stmts_at d n t p ≡ node []ᵇ p
  view-stmts-none h le = counted_none pass []ᵇ []ᵇ ◌∷ᵇ◌ (parse_stmt d) t p n h le

  pub view-stmts-more : 0 < n → StmtsRead d n t p → Seen (StmtsMore d n t p) (stmts_at d n t p) (cons_at d n t p)
  unfolding cons_at
  view-stmts-more h r = let m = counted-more pass []ᵇ []ᵇ ◌∷ᵇ◌ (parse_stmt d) t p n h (steady-S d) r in record { parts = record { head = m.head; rest = m.rest }; is = m.is }

-- as many statements as are counted
pub stmts-size : (d n : ℕ) (t : List ℕ) (p : ℕ) → StmtsRead d n t p → size (stmts_at d n t p).value ≡ n
unfolding size cons_at
stmts-size d zero t p r = ap (λ (z : Node Block). size z.value) (view-stmts-none d 0 t p (omega arith) r.start)
stmts-size d (suc n) t p r =
    let v = view-stmts-more d (suc n) t p (omega arith) r in
    let z : suc n - 1 ≡ n = omega arith in
    let m = (stmt_at d t p).end in
    ap (λ (x : Node Block). size x.value) v.is ∙ ap (λ (k : ℕ). suc (size (stmts_at d k t m).value)) z ∙ ap suc (stmts-size d n t m (subst (λ (k : ℕ). StmtsRead d k t m) z v.parts.rest))

-- ---- elifs and else

one_less : (n : ℕ) → n ≡ suc n - 1
one_less n = sym (sub-one (suc n))

module _ (d : ℕ) (t : List ℕ) (p : ℕ) where
  pub view-branches-more : (n : ℕ) → 0 < n → BranchesRead d n t p → Seen (BranchesMore d n t p) (branches_at d n t p) (when_at d n t p)
  unfolding branches when_at
  view-branches-more zero h r = absurd (omega arith)
  view-branches-more (suc n) h r =
      let P = branches (parse_expr d) (parse_stmt d) n in
      let j = goes_branch done d (λ c b. P >>= λ rest. give (when c b rest)) t p r in
      let c = expr_at d t p in
      let b = body_at d t p in
      record {
        parts = record { first = j.0; rest = subst (λ (k : ℕ). BranchesRead d k t b.end) (one_less n) (first_reads done P _ t b.end j.1.reads) };
        is = j.1.is ∙ goes_last done done P (when c.value b.value) t b.end (steady-branches (steady-E d) (steady-S d) n) j.1.reads
            ∙ ap (λ (k : ℕ). node (when c.value b.value (branches_at d k t b.end).value) (branches_at d k t b.end).end) (one_less n);
      }

  abbrev elses : List (Parser Branches)
  elses = give done ∷ (do b ← block_of (parse_stmt d); give (else b)) ∷ []

  -- after the elifs there is a byte, 0 or 1
  pub else-inside : (n : ℕ) → n ≤ 0 → BranchesRead d n t p → p < length t
  unfolding branches
  else-inside zero h r = kind-inside elses t p r
  else-inside (suc n) h r = absurd (omega arith)

  pub else-known : (n : ℕ) → n ≤ 0 → BranchesRead d n t p → get_or t p 0 < 2
  unfolding branches
  else-known zero h r = kind-known elses t p r
  else-known (suc n) h r = absurd (omega arith)

  pub view-done : (n : ℕ) → n ≤ 0 → BranchesRead d n t p → get_or t p 0 ≡ 0 → branches_at d n t p ≡ node done (p + 1)
  unfolding branches
  view-done zero h r x = let g = goes-kind elses t p r done 0 x in g.is ∙ goes-give done done t (p + 1) g.reads.start
  view-done (suc n) h r x = absurd (omega arith)

  pub view-else : (n : ℕ) → n ≤ 0 → BranchesRead d n t p → get_or t p 0 ≡ 1 → Seen (BlockReads d t (p + 1)) (branches_at d n t p) (else_at d t (p + 1))
  unfolding branches else_at
  view-else zero h r x = let g = goes-kind elses t p r done 1 x in
      record { parts = first_reads done (block_of (parse_stmt d)) _ t (p + 1) g.reads; is = g.is ∙ goes_last done []ᵇ (block_of (parse_stmt d)) else t (p + 1) (steady-B d) g.reads }
  view-else (suc n) h r x = absurd (omega arith)

  -- ---- methods

  pub view-methods-none : (n : ℕ) → n ≤ 0 → p ≤ length t → methods_at d n t p ≡ node []ᵐ p
  unfolding methods
  view-methods-none zero h le = goes-give []ᵐ []ᵐ t p le
  view-methods-none (suc n) h le = absurd (omega arith)

  pub view-methods-more : (n : ℕ) → 0 < n → MethodsRead d n t p → Seen (MethodsMore d n t p) (methods_at d n t p) (method_at d n t p)
  unfolding methods method_at
  view-methods-more zero h r = absurd (omega arith)
  view-methods-more (suc n) h r =
      let P = methods (parse_stmt d) n in
      let j = goes-def []ᵐ d (λ x ps b. P >>= λ ms. give (method x ps b ms)) t p r in
      let x = name_from t p in
      let ps = params_at t (name_end t p) in
      let b = def_block_at d t p in
      record {
        parts = record { first = j.0; rest = subst (λ (k : ℕ). MethodsRead d k t b.end) (one_less n) (first_reads []ᵐ P _ t b.end j.1.reads) };
        is = j.1.is ∙ goes_last []ᵐ []ᵐ P (method x ps.value b.value) t b.end (steady-methods (steady-S d) n) j.1.reads
            ∙ ap (λ (k : ℕ). node (method x ps.value b.value (methods_at d k t b.end).value) (methods_at d k t b.end).end) (one_less n);
      }

  -- ---- attributes

  pub view-attributes : AttributesRead d t p → Seen (AttributesAt d t p) (attributes_at d t p) (values_at d (count_at t p) t (p + 2))
  unfolding list_of
  view-attributes r = let c = goes-count [] (λ n. counted [] ◌∷◌ (attribute (parse_expr d)) n) t p r in
      record { parts = record { count = c.0; values = c.1.reads }; is = c.1.is }

  abbrev none : Attribute
  none = record { name = []; value = lit none_l }

  abbrev here : Node Attribute
  here = let v = expr_at d t (name_end t p) in node (record { name = name_from t p; value = v.value }) v.end

  view-attribute : Reads (attribute (parse_expr d)) t p → There t p × ExprReads d t (name_end t p) × (node_at none (attribute (parse_expr d)) t p ≡ here)
  unfolding attribute
  view-attribute r = let g = goes-name none (λ x. parse_expr d >>= λ v. give (record { name = x; value = v })) t p r in (
    g.0,
    first_reads none (parse_expr d) _ t (name_end t p) g.1.reads,
    g.1.is ∙ goes_last none (lit none_l) (parse_expr d) (λ v. record { name = name_from t p; value = v }) t (name_end t p) (steady-E d) g.1.reads,
  )

  pub view-values-none : (n : ℕ) → n ≤ 0 → p ≤ length t → values_at d n t p ≡ node [] p
  view-values-none n h le = counted_none none [] [] ◌∷◌ (attribute (parse_expr d)) t p n h le

  pub view-values-more : (n : ℕ) → 0 < n → ValuesRead d n t p → Seen (ValuesMore d n t p) (values_at d n t p) (value_at d n t p)
  unfolding value_at
  view-values-more n h r =
      let m = counted-more none [] [] ◌∷◌ (attribute (parse_expr d)) t p n h (steady-attribute (steady-E d)) r in
      let v = view-attribute m.head in
      record {
        parts = record { name = v.0; value = v.1; rest = subst (λ (x : Node Attribute). ValuesRead d (n - 1) t x.end) v.2 m.rest };
        is = m.is ∙ ap (λ (x : Node Attribute). node (x.value ∷ (values_at d (n - 1) t x.end).value) (values_at d (n - 1) t x.end).end) v.2;
      }

-- elifs and an else end within the tree
pub branches-within : (d n : ℕ) (t : List ℕ) (p : ℕ) → BranchesRead d n t p → (branches_at d n t p).end ≤ length t
branches-within d n t p r = node-within _ _ t p (steady-branches (steady-E d) (steady-S d) n) r
