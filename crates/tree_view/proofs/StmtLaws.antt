-- What is read and asked at each kind of statement. Assumes nothing.
use Prim.Native.Nat.{ℕ, zero, suc, ◌+◌, ◌-◌, ◌<◌, ◌≤◌}
use mathlib.Core.Path.{◌≡◌, refl, sym, ap, ◌∙◌}
use mathlib.Core.Bool.{Bool, true, false, not, ◌||◌}
use mathlib.Core.List.{List, [], ◌∷◌}
use native.Mathlib.Omega.{arith}
use native.Mathlib.Numerals.{sub-one}
use lib.Dec.{ltb}
use lib.ListN.{length, get_or, get_or-eq_default}
use Rattle.definitions.specs.Bytes.{Name, Parser, give, unread, field, counted, list_of, name, all, same, ◌>>=◌}
use Rattle.definitions.specs.Tree.{Expr, Stmt, break, continue, pass, expr, return, assign, if, while, for, def, class, Block, []ᵇ, ◌∷ᵇ◌, Branches, done, else, when, Methods, []ᵐ, method}
use Rattle.definitions.specs.Parse.{by_kind, too_deep, params, parse_expr, block_of, branches, methods, attribute, stmt_kinds, parse_stmt}
use Rattle.definitions.specs.Wellformed.{if_asked, ask_name, ask_params, ask_method, ask_attribute, ask_stmt, ask_block, ask_branches, ask_methods, init}
use Rattle.tree_view.specs.Judge.{least, passed, judged, then_judge, with_number, judged_number_at, asked_in_role, judge_name, judge_params, judge_expr, judge_head, stmt_ask, block_ask}
use Rattle.tree_view.specs.Judge.{branches_ask, attributes_ask, judge_stmt, judge_block, judge_stmts, judge_branches, judge_methods, judge_attributes}
use Rattle.tree_view.specs.Judge.{judge_attribute_list, judge_assign, judge_branch, judge_if, judge_for, judge_def, judge_method, judge_class, judge_attribute_value}
use Rattle.tree_view.specs.Places.{name_from}
use Rattle.tree_view.specs.Judge.{Is}
use Rattle.tree_view.specs.Judge.{Passed}
use Rattle.tree_view.specs.Judge.{Next, Refused}
use Rattle.tree_view.specs.declared.roles.Role.TheVariants.{Value, Target as as_target}
use Rattle.tree_view.proofs.Laws.{least-true, least-and, Steady, steady-bind, steady-give, steady-field, steady-counted, steady-list_of, steady-name, steady-params, AllSteady, none, more, steady-by_kind}
use Rattle.tree_view.proofs.Laws.{judged-bind, judged-bind-of, judged-last, judged-number, judged-give, judged-kind, judged-end, judged-unread, then-then, least-three, flat, with-number, at_byte, at-end}
use Rattle.tree_view.proofs.ExprLaws.{steady-too_deep, steady-E}
use Rattle.tree_view.proofs.NameLaws.{name-gives, params-gives}

-- ---- the parsers are steady

pub steady-block : {s : Parser Stmt} → Steady s → Steady (block_of s)
unfolding block_of
steady-block s = steady-bind (steady-field 2) (λ n. steady-counted []ᵇ ◌∷ᵇ◌ s n)

pub steady-branches : {e : Parser Expr} {s : Parser Stmt} → Steady e → Steady s → (n : ℕ) → Steady (branches e s n)
unfolding branches
steady-branches e s zero = steady-by_kind (more (steady-give _) (more (steady-bind (steady-block s) (λ b. steady-give _)) none))
steady-branches e s (suc n) = steady-bind e (λ c. steady-bind (steady-block s) (λ b. steady-bind (steady-branches e s n) (λ r. steady-give _)))

pub steady-methods : {s : Parser Stmt} → Steady s → (n : ℕ) → Steady (methods s n)
unfolding methods
steady-methods s zero = steady-give _
steady-methods s (suc n) = steady-bind steady-name (λ x. steady-bind steady-params (λ ps. steady-bind (steady-block s) (λ b. steady-bind (steady-methods s n) (λ ms. steady-give _))))

pub steady-attribute : {e : Parser Expr} → Steady e → Steady (attribute e)
unfolding attribute
steady-attribute e = steady-bind steady-name (λ x. steady-bind e (λ v. steady-give _))

steady-kinds : {e : Parser Expr} {s : Parser Stmt} → Steady e → Steady s → AllSteady (stmt_kinds e s)
unfolding stmt_kinds
steady-kinds e s =
    more (steady-give _) (more (steady-give _) (more (steady-give _)
    (more (steady-bind e (λ x. steady-give _)) (more (steady-bind e (λ x. steady-give _))
    (more (steady-bind e (λ t. steady-bind e (λ v. steady-give _)))
    (more (steady-bind e (λ c. steady-bind (steady-block s) (λ b. steady-bind (steady-field 2) (λ n. steady-bind (steady-branches e s n) (λ r. steady-give _)))))
    (more (steady-bind e (λ c. steady-bind (steady-block s) (λ b. steady-give _)))
    (more (steady-bind steady-name (λ x. steady-bind e (λ i. steady-bind (steady-block s) (λ b. steady-give _))))
    (more (steady-bind steady-name (λ x. steady-bind steady-params (λ ps. steady-bind (steady-block s) (λ b. steady-give _))))
    (more (steady-bind steady-name (λ x. steady-bind (steady-field 2) (λ n. steady-bind (steady-methods s n) (λ ms. steady-bind (steady-list_of 2 (steady-attribute e)) (λ vs. steady-give _)))))
    none))))))))))

pub steady-S : (d : ℕ) → Steady (parse_stmt d)
unfolding parse_stmt
steady-S zero = steady-too_deep
steady-S (suc d) = steady-by_kind (steady-kinds (steady-E d) (steady-S d))

pub steady-B : (d : ℕ) → Steady (block_of (parse_stmt d))
steady-B d = steady-block (steady-S d)

-- ---- the kinds

module _ (loop : Bool) (d : ℕ) (t : List ℕ) (p w : ℕ) (le : p ≤ length t) where
  break-law : judged (stmt_ask loop) (give break) t p w ≡ Next p (least w (λ q. if_asked 9 q loop))
  unfolding ask_stmt
  break-law = judged-give t (stmt_ask loop) break p w le

  continue-law : judged (stmt_ask loop) (give continue) t p w ≡ Next p (least w (λ q. if_asked 9 q loop))
  unfolding ask_stmt
  continue-law = judged-give t (stmt_ask loop) continue p w le

  pass-law : judged (stmt_ask loop) (give pass) t p w ≡ Next p w
  unfolding ask_stmt
  pass-law = judged-give t (stmt_ask loop) pass p w le ∙ ap (Next p) (least-true w)

  expr-law : judged (stmt_ask loop) (do x ← parse_expr d; give (expr x)) t p w ≡ judge_expr Value d t p w
  unfolding ask_stmt asked_in_role
  expr-law = judged-last t (asked_in_role Value) (stmt_ask loop) (parse_expr d) expr p w w (λ x. refl)

  return-law : judged (stmt_ask loop) (do x ← parse_expr d; give (return x)) t p w ≡ judge_expr Value d t p w
  unfolding ask_stmt asked_in_role
  return-law = judged-last t (asked_in_role Value) (stmt_ask loop) (parse_expr d) return p w w (λ x. refl)

  assign-law : judged (stmt_ask loop) (do x ← parse_expr d; v ← parse_expr d; give (assign x v)) t p w ≡ judge_assign d t p w
  unfolding ask_stmt asked_in_role judge_assign
  assign-law = judged-bind t (asked_in_role as_target) (stmt_ask loop) _ _ _ p w w le (steady-E d) (λ x m h.
      judged-last t (asked_in_role Value) (stmt_ask loop) (parse_expr d) (assign x) m w _ (λ v. least-and w _ _))

  while-law : judged (stmt_ask loop) (do c ← parse_expr d; b ← block_of (parse_stmt d); give (while c b)) t p w ≡ judge_branch true d t p w
  unfolding ask_stmt asked_in_role judge_branch
  while-law = judged-bind t (asked_in_role Value) (stmt_ask loop) _ _ _ p w w le (steady-E d) (λ c m h.
      judged-last t (block_ask true) (stmt_ask loop) _ (while c) m w _ (λ b. least-and w _ _))

  for-law : judged (stmt_ask loop) (do x ← name; i ← parse_expr d; b ← block_of (parse_stmt d); give (for x i b)) t p w ≡ judge_for d t p w
  unfolding ask_stmt asked_in_role judge_for judge_branch
  for-law = judged-bind t ask_name (stmt_ask loop) _ _ _ p w w le steady-name (λ x m h.
      judged-bind t (asked_in_role Value) (stmt_ask loop) _ _ _ m w _ h (steady-E d) (λ i k g.
      judged-last t (block_ask true) (stmt_ask loop) _ (for x i) k w _ (λ b. least-three w _ _ _)))

  def-law : judged (stmt_ask loop) (do x ← name; ps ← params; b ← block_of (parse_stmt d); give (def x ps b)) t p w ≡ judge_def d t p w
  unfolding ask_stmt judge_def
  def-law = judged-bind t ask_name (stmt_ask loop) _ _ _ p w w le steady-name (λ x m h.
      judged-bind t ask_params (stmt_ask loop) _ _ _ m w _ h steady-params (λ ps k g.
      judged-last t (block_ask false) (stmt_ask loop) _ (def x ps) k w _ (λ b. least-three w _ _ _)))

  class-law : judged (stmt_ask loop) (do x ← name; n ← field 2; ms ← methods (parse_stmt d) n; vs ← list_of 2 (attribute (parse_expr d)); give (class x ms vs)) t p w ≡ judge_class d t p w
  unfolding ask_stmt judge_class attributes_ask
  class-law = judged-bind t ask_name (stmt_ask loop) _ _ _ p w w le steady-name (λ x m h.
      judged-number t (stmt_ask loop) _ _ m w h (λ n k g.
      judged-bind t ask_methods (stmt_ask loop) _ _ _ k w _ g (steady-methods (steady-S d) n) (λ ms j f.
      judged-last t attributes_ask (stmt_ask loop) _ (class x ms) j w _ (λ vs. least-three w _ _ _))))

  if-law : judged (stmt_ask loop) (do c ← parse_expr d; b ← block_of (parse_stmt d); n ← field 2; r ← branches (parse_expr d) (parse_stmt d) n; give (if (when c b r))) t p w ≡ judge_if loop d t p w
  unfolding ask_stmt ask_branches asked_in_role judge_if judge_branch
  if-law = judged-bind t (asked_in_role Value) (stmt_ask loop) _ _ (λ m v. then_judge (judge_block loop d t m v) (λ k u. with_number (judged_number_at t k) (λ n j. judge_branches loop d t n j u))) p w w le (steady-E d) (λ c m h.
      judged-bind t (block_ask loop) (stmt_ask loop) _ _ _ m w _ h (steady-B d) (λ b k g.
      judged-number t (stmt_ask loop) _ _ k w g (λ n j f.
      judged-last t (branches_ask loop) (stmt_ask loop) _ (λ r. if (when c b r)) j w _ (λ r. least-three w _ _ _))))
      ∙ sym (then-then _ _ _)

-- ---- lists

pub block-law : (loop : Bool) (d : ℕ) (t : List ℕ) (p w : ℕ) → p ≤ length t → judge_block loop d t p w ≡ with_number (judged_number_at t p) (λ n m. judge_stmts loop d t n m w)
unfolding block_of
block-law loop d t p w le = judged-number t (block_ask loop) _ _ p w le (λ n m h. refl)

pub stmts-none : (loop : Bool) (d : ℕ) (t : List ℕ) (n p w : ℕ) → p ≤ length t → n ≤ 0 → judge_stmts loop d t n p w ≡ Next p w
unfolding counted ask_block
stmts-none loop d t zero p w le h = judged-give t (block_ask loop) []ᵇ p w le ∙ ap (Next p) (least-true w)
stmts-none loop d t (suc n) p w le h = absurd (omega arith)

pub stmts-more : (loop : Bool) (d : ℕ) (t : List ℕ) (n p w : ℕ) → p ≤ length t → 0 < n → judge_stmts loop d t n p w ≡ then_judge (judge_stmt loop d t p w) (λ m v. judge_stmts loop d t (n - 1) m v)
unfolding counted ask_block
stmts-more loop d t zero p w le h = absurd (omega arith)
stmts-more loop d t (suc n) p w le h =
    judged-bind t (stmt_ask loop) (block_ask loop) _ _ (λ m v. judge_stmts loop d t n m v) p w w le (steady-S d) (λ s m g.
    judged-last t (block_ask loop) (block_ask loop) _ (λ b. s ∷ᵇ b) m w _ (λ b. least-and w (λ q. ask_stmt q loop s) (λ q. ask_block q loop b)))
    ∙ ap (λ (k : ℕ). then_judge (judge_stmt loop d t p w) (λ m v. judge_stmts loop d t k m v)) (sym (sub-one (suc n)))

pub branches-more : (loop : Bool) (d : ℕ) (t : List ℕ) (n p w : ℕ) → p ≤ length t → 0 < n → judge_branches loop d t n p w ≡ then_judge (judge_branch loop d t p w) (λ m v. judge_branches loop d t (n - 1) m v)
unfolding branches ask_branches judge_branch asked_in_role
branches-more loop d t zero p w le h = absurd (omega arith)
branches-more loop d t (suc n) p w le h =
    judged-bind t (asked_in_role Value) (branches_ask loop) _ _ (λ m v. then_judge (judge_block loop d t m v) (λ k u. judge_branches loop d t n k u)) p w w le (steady-E d) (λ c m g.
    judged-bind t (block_ask loop) (branches_ask loop) _ _ _ m w _ g (steady-B d) (λ b k f.
    judged-last t (branches_ask loop) (branches_ask loop) _ (λ r. when c b r) k w _ (λ r. least-three w _ _ _)))
    ∙ sym (then-then _ _ _)
    ∙ ap (λ (k : ℕ). then_judge (then_judge (judge_expr Value d t p w) (λ m v. judge_block loop d t m v)) (λ m v. judge_branches loop d t k m v)) (sym (sub-one (suc n)))

pub branches-none : (loop : Bool) (d : ℕ) (t : List ℕ) (n p w : ℕ) → n ≤ 0 → judge_branches loop d t n p w ≡ judge_branches loop d t 0 p w
branches-none loop d t n p w h = ap (λ (k : ℕ). judge_branches loop d t k p w) (let e : n ≡ 0 = omega arith in e)

pub else-end : (loop : Bool) (d : ℕ) (t : List ℕ) (p w : ℕ) → length t ≤ p → judge_branches loop d t 0 p w ≡ Refused 5
unfolding branches
else-end loop d t p w h = judged-end t (branches_ask loop) _ p w h

pub else-none : (loop : Bool) (d : ℕ) (t : List ℕ) (p w : ℕ) → p < length t → get_or t p 0 ≡ 0 → judge_branches loop d t 0 p w ≡ Next (p + 1) w
unfolding branches ask_branches
else-none loop d t p w h e = judged-kind t (branches_ask loop) _ 0 p w h e ∙ judged-give t (branches_ask loop) done (p + 1) w (omega arith) ∙ ap (Next (p + 1)) (least-true w)

pub else-block : (loop : Bool) (d : ℕ) (t : List ℕ) (p w : ℕ) → p < length t → get_or t p 0 ≡ 1 → judge_branches loop d t 0 p w ≡ judge_block loop d t (p + 1) w
unfolding branches ask_branches
else-block loop d t p w h e = judged-kind t (branches_ask loop) _ 1 p w h e ∙ judged-last t (block_ask loop) (branches_ask loop) _ else (p + 1) w w (λ b. refl)

pub else-unknown : (loop : Bool) (d : ℕ) (t : List ℕ) (p w : ℕ) → p < length t → 2 ≤ get_or t p 0 → judge_branches loop d t 0 p w ≡ Refused 5
unfolding branches
else-unknown loop d t p w h u =
    judged-kind t (branches_ask loop) _ _ p w h refl
    ∙ ap (λ (P : Parser Branches). judged (branches_ask loop) P t (p + 1) w) (get_or-eq_default (give done ∷ (do b ← block_of (parse_stmt d); give (else b)) ∷ []) unread u)
    ∙ judged-unread t (branches_ask loop) (p + 1) w

pub methods-none : (d : ℕ) (t : List ℕ) (n p w : ℕ) → p ≤ length t → n ≤ 0 → judge_methods d t n p w ≡ Next p w
unfolding methods ask_methods
methods-none d t zero p w le h = judged-give t ask_methods []ᵐ p w le ∙ ap (Next p) (least-true w)
methods-none d t (suc n) p w le h = absurd (omega arith)

pub attributes-law : (d : ℕ) (t : List ℕ) (p w : ℕ) → p ≤ length t → judge_attribute_list d t p w ≡ with_number (judged_number_at t p) (λ n m. judge_attributes d t n m w)
unfolding list_of
attributes-law d t p w le = judged-number t attributes_ask _ _ p w le (λ n m h. refl)

pub attributes-none : (d : ℕ) (t : List ℕ) (n p w : ℕ) → p ≤ length t → n ≤ 0 → judge_attributes d t n p w ≡ Next p w
unfolding counted attributes_ask all
attributes-none d t zero p w le h = judged-give t attributes_ask [] p w le ∙ ap (Next p) (least-true w)
attributes-none d t (suc n) p w le h = absurd (omega arith)

attribute-law : (d : ℕ) (t : List ℕ) (p w : ℕ) → p ≤ length t → judged ask_attribute (attribute (parse_expr d)) t p w ≡ judge_attribute_value d t p w
unfolding attribute judge_attribute_value ask_attribute asked_in_role
attribute-law d t p w le = judged-bind t ask_name ask_attribute _ _ _ p w w le steady-name (λ x m h.
    judged-last t (asked_in_role Value) ask_attribute (parse_expr d) (λ v. record { name = x; value = v }) m w _ (λ v. least-and w _ _))

pub attributes-more : (d : ℕ) (t : List ℕ) (n p w : ℕ) → p ≤ length t → 0 < n → judge_attributes d t n p w ≡ then_judge (judge_attribute_value d t p w) (λ m v. judge_attributes d t (n - 1) m v)
unfolding counted attributes_ask all
attributes-more d t zero p w le h = absurd (omega arith)
attributes-more d t (suc n) p w le h =
    judged-bind t ask_attribute attributes_ask _ _ (λ m v. judge_attributes d t n m v) p w w le (steady-attribute (steady-E d)) (λ x m g.
    judged-last t attributes_ask attributes_ask _ (λ xs. x ∷ xs) m w _ (λ xs. least-and w (λ q. ask_attribute q x) (λ q. attributes_ask q xs)))
    ∙ ap (λ (o : Passed). then_judge o (λ m v. judge_attributes d t n m v)) (attribute-law d t p w le)
    ∙ ap (λ (k : ℕ). then_judge (judge_attribute_value d t p w) (λ m v. judge_attributes d t k m v)) (sym (sub-one (suc n)))

method-end : (x y : Name) (ps : List Name) (b : Block) (ms : Methods) (w : ℕ) → x ≡ y → least w (λ q. ask_methods q (method x ps b ms))
    ≡ least (least (least (least (least w (λ q. ask_name q x)) (λ q. ask_params q ps)) (λ q. if_asked 12 q (not (same y init) || ltb 0 (length ps)))) (λ q. ask_block q false b)) (λ q. ask_methods q ms)
unfolding ask_methods ask_method
method-end x y ps b ms w e =
    least-three w (λ q. ask_method q x ps) (λ q. ask_block q false b) (λ q. ask_methods q ms)
    ∙ ap (λ (v : ℕ). least (least v (λ q. ask_block q false b)) (λ q. ask_methods q ms)) (least-three w (λ q. ask_name q x) (λ q. ask_params q ps) (λ q. if_asked 12 q (not (same x init) || ltb 0 (length ps)))
    ∙ ap (λ (z : Name). least (least (least w (λ q. ask_name q x)) (λ q. ask_params q ps)) (λ q. if_asked 12 q (not (same z init) || ltb 0 (length ps)))) e)

method-flat : (d : ℕ) (t : List ℕ) (n p w : ℕ) → p ≤ length t → judge_methods d t (suc n) p w ≡
    then_judge (judge_name t p w) (λ m v. then_judge (judge_params t m v) (λ k u. with_number (judged_number_at t m) (λ i z.
    then_judge (judge_block false d t k (least u (λ q. if_asked 12 q (not (same (name_from t p) init) || ltb 0 i)))) (λ j y. judge_methods d t n j y))))
unfolding methods
method-flat d t n p w le =
    judged-bind-of t ask_name ask_methods (λ x. x ≡ name_from t p) _ _ _ p w w le steady-name (name-gives t p) (λ x m e h.
    judged-bind-of t ask_params ask_methods (λ ps. (z : ℕ) × (judged_number_at t m ≡ Is (length ps) z)) _ _ _ m w _ h steady-params (params-gives t m) (λ ps k c g.
    judged-bind t (block_ask false) ask_methods _ _ (λ j y. judge_methods d t n j y) k w
    (least (least (least w (λ q. ask_name q x)) (λ q. ask_params q ps)) (λ q. if_asked 12 q (not (same (name_from t p) init) || ltb 0 (length ps)))) g (steady-B d) (λ b j f.
    judged-last t ask_methods ask_methods _ (λ ms. method x ps b ms) j w _ (λ ms. method-end x (name_from t p) ps b ms w e))
    ∙ sym (with-number _ _ _ _ c.1)))

-- a method, whose name and number of parameters decide question 12
pub methods-more : (d : ℕ) (t : List ℕ) (n p w : ℕ) → p ≤ length t → 0 < n → judge_methods d t n p w ≡ then_judge (judge_method d t p w) (λ m v. judge_methods d t (n - 1) m v)
unfolding judge_method judge_head
methods-more d t zero p w le h = absurd (omega arith)
methods-more d t (suc n) p w le h =
    method-flat d t n p w le
    ∙ sym (flat (judge_name t p w) (judge_params t) (judged_number_at t) (λ u i. least u (λ q. if_asked 12 q (not (same (name_from t p) init) || ltb 0 i))) (λ m v. then_judge (judge_block false d t m v) (λ j y. judge_methods d t n j y)))
    ∙ sym (then-then _ _ _)
    ∙ ap (λ (k : ℕ). then_judge (then_judge (judge_head t p w) (λ m v. judge_block false d t m v)) (λ m v. judge_methods d t k m v)) (sym (sub-one (suc n)))

-- ---- a statement by its kind byte

pub deep-S : (d : ℕ) → (d ≡ 0 → ⊥) → parse_stmt d ≡ by_kind (stmt_kinds (parse_expr (d - 1)) (parse_stmt (d - 1)))
unfolding parse_stmt
deep-S zero f = absurd (f refl)
deep-S (suc d) f = ap (λ (k : ℕ). by_kind (stmt_kinds (parse_expr k) (parse_stmt k))) (sym (sub-one (suc d)))

stmt-kind : (loop : Bool) (d : ℕ) (t : List ℕ) (p w k : ℕ) → (d ≡ 0 → ⊥) → p < length t → get_or t p 0 ≡ k →
    judge_stmt loop d t p w ≡ judged (stmt_ask loop) (get_or (stmt_kinds (parse_expr (d - 1)) (parse_stmt (d - 1))) k unread) t (p + 1) w
stmt-kind loop d t p w k f h e = ap (λ (P : Parser Stmt). judged (stmt_ask loop) P t p w) (deep-S d f) ∙ judged-kind t (stmt_ask loop) _ k p w h e

pub stmt-none : (loop : Bool) (d : ℕ) (t : List ℕ) (p w : ℕ) → d ≡ 0 → p < length t → judge_stmt loop d t p w ≡ Refused 6
unfolding parse_stmt judged passed too_deep
stmt-none loop zero t p w e h = rw (at_byte t p h)
stmt-none loop (suc d) t p w e h = absurd (omega arith)

pub stmt-end : (loop : Bool) (d : ℕ) (t : List ℕ) (p w : ℕ) → length t ≤ p → judge_stmt loop d t p w ≡ Refused 5
unfolding parse_stmt judged passed too_deep
stmt-end loop zero t p w h = rw (at-end t p h)
stmt-end loop (suc d) t p w h = judged-end t (stmt_ask loop) (stmt_kinds (parse_expr d) (parse_stmt d)) p w h

pub stmt-unknown : (loop : Bool) (d : ℕ) (t : List ℕ) (p w : ℕ) → (d ≡ 0 → ⊥) → p < length t → 11 ≤ get_or t p 0 → judge_stmt loop d t p w ≡ Refused 5
unfolding stmt_kinds
stmt-unknown loop d t p w f h u =
    stmt-kind loop d t p w _ f h refl
    ∙ ap (λ (P : Parser Stmt). judged (stmt_ask loop) P t (p + 1) w) (get_or-eq_default (stmt_kinds (parse_expr (d - 1)) (parse_stmt (d - 1))) unread u)
    ∙ judged-unread t (stmt_ask loop) (p + 1) w

-- ---- what the code finds at each kind byte

module _ (loop : Bool) (d : ℕ) (t : List ℕ) (p w : ℕ) (deeper : d ≡ 0 → ⊥) (inside : p < length t) where
  pub at-break : get_or t p 0 ≡ 0 → Next (p + 1) (least w (λ q. if_asked 9 q loop)) ≡ judge_stmt loop d t p w
  unfolding stmt_kinds
  at-break e = sym (stmt-kind loop d t p w 0 deeper inside e ∙ break-law loop (d - 1) t (p + 1) w (omega arith))

  pub at-continue : get_or t p 0 ≡ 1 → Next (p + 1) (least w (λ q. if_asked 9 q loop)) ≡ judge_stmt loop d t p w
  unfolding stmt_kinds
  at-continue e = sym (stmt-kind loop d t p w 1 deeper inside e ∙ continue-law loop (d - 1) t (p + 1) w (omega arith))

  pub at-pass : get_or t p 0 ≡ 2 → Next (p + 1) w ≡ judge_stmt loop d t p w
  unfolding stmt_kinds
  at-pass e = sym (stmt-kind loop d t p w 2 deeper inside e ∙ pass-law loop (d - 1) t (p + 1) w (omega arith))

  pub at-expr : get_or t p 0 ≡ 3 → judge_expr Value (d - 1) t (p + 1) w ≡ judge_stmt loop d t p w
  unfolding stmt_kinds
  at-expr e = sym (stmt-kind loop d t p w 3 deeper inside e ∙ expr-law loop (d - 1) t (p + 1) w (omega arith))

  pub at_return : get_or t p 0 ≡ 4 → judge_expr Value (d - 1) t (p + 1) w ≡ judge_stmt loop d t p w
  unfolding stmt_kinds
  at_return e = sym (stmt-kind loop d t p w 4 deeper inside e ∙ return-law loop (d - 1) t (p + 1) w (omega arith))

  pub at-assign : get_or t p 0 ≡ 5 → judge_assign (d - 1) t (p + 1) w ≡ judge_stmt loop d t p w
  unfolding stmt_kinds
  at-assign e = sym (stmt-kind loop d t p w 5 deeper inside e ∙ assign-law loop (d - 1) t (p + 1) w (omega arith))

  pub at-if : get_or t p 0 ≡ 6 → judge_if loop (d - 1) t (p + 1) w ≡ judge_stmt loop d t p w
  unfolding stmt_kinds
  at-if e = sym (stmt-kind loop d t p w 6 deeper inside e ∙ if-law loop (d - 1) t (p + 1) w (omega arith))

  pub at-while : get_or t p 0 ≡ 7 → judge_branch true (d - 1) t (p + 1) w ≡ judge_stmt loop d t p w
  unfolding stmt_kinds
  at-while e = sym (stmt-kind loop d t p w 7 deeper inside e ∙ while-law loop (d - 1) t (p + 1) w (omega arith))

  pub at-for : get_or t p 0 ≡ 8 → judge_for (d - 1) t (p + 1) w ≡ judge_stmt loop d t p w
  unfolding stmt_kinds
  at-for e = sym (stmt-kind loop d t p w 8 deeper inside e ∙ for-law loop (d - 1) t (p + 1) w (omega arith))

  pub at-def : get_or t p 0 ≡ 9 → judge_def (d - 1) t (p + 1) w ≡ judge_stmt loop d t p w
  unfolding stmt_kinds
  at-def e = sym (stmt-kind loop d t p w 9 deeper inside e ∙ def-law loop (d - 1) t (p + 1) w (omega arith))

  pub at-class : get_or t p 0 ≡ 10 → judge_class (d - 1) t (p + 1) w ≡ judge_stmt loop d t p w
  unfolding stmt_kinds
  at-class e = sym (stmt-kind loop d t p w 10 deeper inside e ∙ class-law loop (d - 1) t (p + 1) w (omega arith))

-- ---- where parts end
