-- What is read and asked at each kind of expression. Assumes nothing.
use Prim.Native.Nat.{ℕ, zero, suc, ◌+◌, ◌*◌, ◌-◌, ◌<◌, ◌≤◌}
use mathlib.Core.Path.{◌≡◌, refl, sym, ap, ap₂, ◌∙◌}
use mathlib.Core.Bool.{Bool, true, false, not, ◌&&◌, ◌||◌}
use mathlib.Core.List.{List, [], ◌∷◌}
use native.Mathlib.Omega.{arith}
use native.Mathlib.Numerals.{sub-one}
use lib.Dec.{eqb, leb, ltb}
use lib.ListN.{length, drop, get_or, get_or-eq_default}
use Rattle.definitions.specs.Bytes.{Parser, give, unread, field, counted, name, text, ◌>>=◌}
use Rattle.definitions.specs.Tree.{none_l, bool_l, int_l, float_l, string_l, UnaryOp, not_op, negate_op, pos_op, LogicalOp, and_op, or_op}
use Rattle.definitions.specs.Tree.{BinaryOp, add_op, subtract_op, multiply_op, divide_op, floor_divide_op, modulo_op, equal_op, not_equal_op, less_op, less_equal_op, greater_op, greater_equal_op}
use Rattle.definitions.specs.Tree.{Display, list_d, tuple_d, dict_d, set_d, tree_set_d, Expr, lit, var, unary, binary, logical, call, attr, display, index, lambda}
use Rattle.definitions.specs.Tree.{Exprs, []ᵉ, ◌∷ᵉ◌, count, view, view_display}
use Rattle.definitions.specs.Parse.{by_kind, choice, too_deep, params, exprs_of, display_of, unary_kinds, binary_kinds, expr_kinds, parse_expr}
use Rattle.definitions.specs.Wellformed.{if_asked, ask_name, ask_literal, ask_params, ask_args, ask_expr, ask_exprs, is_tuple, is_element, are_elements, is_target, ask_target, is_full, are_full}
use Rattle.tree_view.specs.Judge.{least, passed, judged, then_judge, unasked, ask_text, asked_in_role, asked_all, fits_role, suited, tuple_fits_role, filled}
use Rattle.tree_view.specs.Judge.{inner, judge_name, judge_expr, judge_many, judge_two, judge_args, judge_call, judge_display}
use Rattle.tree_view.specs.Judge.{judge_tuple, judge_pairs, judge_attribute, judge_lambda, judge_unary, judge_binary}
use Rattle.tree_view.specs.Judge.{Passed}
use Rattle.tree_view.specs.Judge.{Next, Refused}
use Rattle.tree_view.specs.declared.roles.Role.{Role}
use Rattle.tree_view.specs.declared.roles.Role.TheVariants.{Value, Target as as_target, Element}
use Rattle.tree_view.proofs.Laws.{least-true, least-and, least-same, Steady, steady-bind, steady-give, steady-field, steady-counted, steady-text, steady-params, steady-name, AllSteady, none, more, steady-by_kind, steady-choice}
use Rattle.tree_view.proofs.Laws.{Went, lost, Gives, judged-bind, judged-last, judged-last-of, judged-number, judged-give, judged-kind, judged-end, judged-unread, counted-size, Each, each_none, each_more, judged-choice, at_byte, at-end}

-- ---- the parsers are steady

pub steady-too_deep : {A : Type 0} → Steady {A = A} too_deep
unfolding too_deep
steady-too_deep = record { on = go }
  where
    go : {A : Type 0} (bs : List ℕ) → Went {A = A} bs (too_deep bs)
    go [] = lost 5
    go (b ∷ bs) = lost 6

pub steady-exprs : {e : Parser Expr} → Steady e → (n : ℕ) → Steady (exprs_of e n)
unfolding exprs_of
steady-exprs s n = steady-counted []ᵉ ◌∷ᵉ◌ s n

steady-display : {e : Parser Expr} → Steady e → (k : Display) → Steady (display_of e k)
unfolding display_of
steady-display s k = steady-bind (steady-field 2) (λ n. steady-bind (steady-exprs s n) (λ es. steady-give _))

steady-kinds : {e : Parser Expr} → Steady e → AllSteady (expr_kinds e)
unfolding expr_kinds
steady-kinds s =
    more (steady-give _) (more (steady-give _) (more (steady-give _)
    (more (steady-bind (steady-field 8) (λ n. steady-give _)) (more (steady-bind (steady-field 8) (λ n. steady-give _))
    (more (steady-bind (steady-text) (λ n. steady-give _)) (more (steady-bind steady-name (λ n. steady-give _))
    (more (steady-bind (steady-choice unary_kinds) (λ op. steady-bind s (λ x. steady-give _)))
    (more (steady-bind (steady-choice binary_kinds) (λ op. steady-bind s (λ l. steady-bind s (λ r. steady-give _))))
    (more (steady-bind s (λ f. steady-bind (steady-field 2) (λ n. steady-bind (steady-exprs s n) (λ es. steady-give _))))
    (more (steady-bind s (λ o. steady-bind steady-name (λ x. steady-give _)))
    (more (steady-display s list_d)
    (more (steady-bind (steady-field 2) (λ n. steady-bind (steady-exprs s (2 * n)) (λ es. steady-give _)))
    (more (steady-display s tuple_d) (more (steady-display s set_d) (more (steady-display s tree_set_d)
    (more (steady-bind s (λ o. steady-bind s (λ i. steady-give _)))
    (more (steady-bind steady-params (λ ps. steady-bind s (λ b. steady-give _)))
    none)))))))))))))))))

pub steady-E : (d : ℕ) → Steady (parse_expr d)
unfolding parse_expr
steady-E zero = steady-too_deep
steady-E (suc d) = steady-by_kind (steady-kinds (steady-E d))

-- ---- what is asked in a role

on-true : (k q : ℕ) (x : Bool) → x ≡ (if_asked k q true && x)
unfolding if_asked
on-true k q x = go (eqb q k)
  where
    go : (b : Bool) → x ≡ ((not b || true) && x)
    go true = refl
    go false = refl

-- an expression of kind k, whose form decides question 10, and which is no empty tuple
fitted : (e : Expr) (k : ℕ) → is_target e ≡ fits_role as_target k → is_element e ≡ fits_role Element k → is_full e ≡ true → (r : Role) (q : ℕ) → asked_in_role r q e ≡ (if_asked 10 q (fits_role r k) && ask_expr q e)
unfolding asked_in_role ask_target fits_role
fitted e k x y z Value q = on-true 10 q (ask_expr q e)
fitted e k x y z as_target q =
    ap₂ (λ (a b : Bool). if_asked 36 q a && if_asked 10 q b && ask_expr q e) z x ∙ ap (λ (b : Bool). b && ask_expr q e) (sym (on-true 36 q (if_asked 10 q (fits_role as_target k))))
fitted e k x y z Element q =
    ap₂ (λ (a b : Bool). if_asked 36 q a && if_asked 10 q b && ask_expr q e) z y ∙ ap (λ (b : Bool). b && ask_expr q e) (sym (on-true 36 q (if_asked 10 q (fits_role Element k))))

on_and : (k q : ℕ) (a b : Bool) → if_asked k q (a && b) ≡ (if_asked k q a && if_asked k q b)
unfolding if_asked
on_and k q a b = go (eqb q k)
  where
    go : (x : Bool) → (not x || a && b) ≡ ((not x || a) && (not x || b))
    go true = refl
    go false = refl

swap : (a b x y : Bool) → ((a && b) && (x && y)) ≡ ((a && x) && (b && y))
swap true true x y = refl
swap true false true y = refl
swap true false false y = refl
swap false b x y = refl

all-values : (q : ℕ) (es : Exprs) → ask_exprs q es ≡ asked_all Value q es
unfolding ask_exprs asked_all asked_in_role
all-values q []ᵉ = refl
all-values q (e ∷ᵉ es) = ap (λ (b : Bool). ask_expr q e && b) (all-values q es)

all-elements : (q : ℕ) (es : Exprs) → (if_asked 36 q (are_full es) && if_asked 10 q (are_elements es) && ask_exprs q es) ≡ asked_all Element q es
unfolding are_full are_elements ask_exprs asked_all asked_in_role
all-elements q []ᵉ = sym (on-true 36 q true ∙ ap (λ (b : Bool). if_asked 36 q true && b) (on-true 10 q true) ∙ last (if_asked 36 q true) (if_asked 10 q true))
  where
    last : (a b : Bool) → (a && (b && true)) ≡ ((a && b) && true)
    last true b = refl
    last false b = refl
all-elements q (e ∷ᵉ es) =
    ap₂ (λ (a b : Bool). (a && b) && (ask_expr q e && ask_exprs q es)) (on_and 36 q (is_full e) (are_full es)) (on_and 10 q (is_element e) (are_elements es))
    ∙ ap (λ (b : Bool). b && (ask_expr q e && ask_exprs q es)) (swap (if_asked 36 q (is_full e)) (if_asked 36 q (are_full es)) (if_asked 10 q (is_element e)) (if_asked 10 q (are_elements es)))
    ∙ swap (if_asked 36 q (is_full e) && if_asked 10 q (is_element e)) (if_asked 36 q (are_full es) && if_asked 10 q (are_elements es)) (ask_expr q e) (ask_exprs q es)
    ∙ ap (λ (b : Bool). (if_asked 36 q (is_full e) && if_asked 10 q (is_element e) && ask_expr q e) && b) (all-elements q es)

-- a tuple target: 36 of itself, then of its elements
split : (a b c d : Bool) → (((a && b) && c) && d) ≡ (a && ((b && c) && d))
split true b c d = refl
split false b c d = refl

tuple-full : (es : Exprs) (q : ℕ) →
    (if_asked 36 q (ltb 0 (count es) && are_full es) && if_asked 10 q (are_elements es) && ask_exprs q es) ≡ (if_asked 36 q (ltb 0 (count es)) && asked_all Element q es)
tuple-full es q =
    ap (λ (b : Bool). b && if_asked 10 q (are_elements es) && ask_exprs q es) (on_and 36 q (ltb 0 (count es)) (are_full es))
    ∙ split (if_asked 36 q (ltb 0 (count es))) (if_asked 36 q (are_full es)) (if_asked 10 q (are_elements es)) (ask_exprs q es)
    ∙ ap (λ (b : Bool). if_asked 36 q (ltb 0 (count es)) && b) (all-elements q es)

asked-tuple : (es : Exprs) (r : Role) (q : ℕ) → asked_in_role r q (display tuple_d es) ≡ (if_asked 10 q (fits_role r 13) && (if_asked 36 q (tuple_fits_role r (count es)) && asked_all (inner r) q es))
unfolding asked_in_role ask_expr ask_target is_target view view_display is_element is_full is_tuple fits_role inner tuple_fits_role
asked-tuple es Value q = all-values q es ∙ on-true 36 q (asked_all Value q es) ∙ on-true 10 q (if_asked 36 q true && asked_all Value q es)
asked-tuple es as_target q = tuple-full es q ∙ on-true 10 q (if_asked 36 q (ltb 0 (count es)) && asked_all Element q es)
asked-tuple es Element q = tuple-full es q ∙ on-true 10 q (if_asked 36 q (ltb 0 (count es)) && asked_all Element q es)

-- the questions that stand after an expression in a role
role-end : (r : Role) (e : Expr) (k : ℕ) (f : ℕ → Bool) → ((q : ℕ) → asked_in_role r q e ≡ (if_asked 10 q (fits_role r k) && f q)) → (w : ℕ) →
    least w (λ q. asked_in_role r q e) ≡ least (suited r k w) f
unfolding suited
role-end r e k f h w = least-same w _ _ h ∙ least-and w (λ q. if_asked 10 q (fits_role r k)) f

-- ---- the kinds

-- so many elements are read as are counted
counts : (e : Parser Expr) (n : ℕ) (bs : List ℕ) → Gives (λ es. count es ≡ n) (exprs_of e n bs)
unfolding exprs_of count
counts e n bs = counted-size count []ᵉ ◌∷ᵉ◌ refl (λ e es. refl) e n bs

call-end : (f : Expr) (es : Exprs) (n : ℕ) → count es ≡ n → (w : ℕ) →
    least w (λ q. ask_expr q (call f es)) ≡ least (least (least w (λ q. ask_expr q f)) (λ q. if_asked 13 q (leb n 255))) (λ q. asked_all Value q es)
unfolding ask_expr ask_args
call-end f es n c w =
    least-same w _ _ (λ q. ap (λ (b : Bool). ask_expr q f && if_asked 13 q (leb (count es) 255) && b) (all-values q es)
    ∙ ap (λ (k : ℕ). ask_expr q f && if_asked 13 q (leb k 255) && asked_all Value q es) c)
    ∙ least-and w _ (λ q. asked_all Value q es) ∙ ap (λ (x : ℕ). least x (λ q. asked_all Value q es)) (least-and w (λ q. ask_expr q f) _)

-- an operator of one or two operands
record One (op : Expr → Expr) : Type 0 where
  pub asks : (q : ℕ) (e : Expr) → ask_expr q (op e) ≡ ask_expr q e
  pub target : (e : Expr) → is_target (op e) ≡ false
  pub element : (e : Expr) → is_element (op e) ≡ false
  pub full : (e : Expr) → is_full (op e) ≡ true

record Two (op : Expr → Expr → Expr) : Type 0 where
  pub asks : (q : ℕ) (l r : Expr) → ask_expr q (op l r) ≡ (ask_expr q l && ask_expr q r)
  pub target : (l r : Expr) → is_target (op l r) ≡ false
  pub element : (l r : Expr) → is_element (op l r) ≡ false
  pub full : (l r : Expr) → is_full (op l r) ≡ true

one : (o : UnaryOp) → One (unary o)
unfolding ask_expr is_target view is_element is_full
one o = record { asks = λ q e. refl; target = λ e. refl; element = λ e. refl; full = λ e. refl }

two : (o : BinaryOp) → Two (binary o)
unfolding ask_expr is_target view is_element is_full
two o = record { asks = λ q l r. refl; target = λ l r. refl; element = λ l r. refl; full = λ l r. refl }

either : (o : LogicalOp) → Two (logical o)
unfolding ask_expr is_target view is_element is_full
either o = record { asks = λ q l r. refl; target = λ l r. refl; element = λ l r. refl; full = λ l r. refl }

ones : Each One unary_kinds
unfolding unary_kinds
ones = each_more (one not_op) (each_more (one negate_op) (each_more (one pos_op) each_none))

twos : Each Two binary_kinds
unfolding binary_kinds
twos =
    each_more (two add_op) (each_more (two subtract_op) (each_more (two multiply_op) (each_more (two divide_op) (each_more (two floor_divide_op) (each_more (two modulo_op)
    (each_more (two equal_op) (each_more (two not_equal_op) (each_more (two less_op) (each_more (two less_equal_op) (each_more (two greater_op) (each_more (two greater_equal_op)
    (each_more (either and_op) (each_more (either or_op) each_none)))))))))))))

module _ (r : Role) (d : ℕ) (t : List ℕ) (p w : ℕ) (le : p ≤ length t) where
  abbrev v : ℕ → ℕ
  v k = suited r k w

  pub none-law : judged (asked_in_role r) (give (lit none_l)) t p w ≡ Next p (v 0)
  unfolding ask_expr ask_literal is_target view is_element is_full fits_role
  none-law = judged-give t (asked_in_role r) _ p w le ∙ ap (Next p) (role-end r _ 0 _ (fitted _ 0 refl refl refl r) w ∙ least-true _)

  pub false-law : judged (asked_in_role r) (give (lit (bool_l false))) t p w ≡ Next p (v 1)
  unfolding ask_expr ask_literal is_target view is_element is_full fits_role
  false-law = judged-give t (asked_in_role r) _ p w le ∙ ap (Next p) (role-end r _ 1 _ (fitted _ 1 refl refl refl r) w ∙ least-true _)

  pub true-law : judged (asked_in_role r) (give (lit (bool_l true))) t p w ≡ Next p (v 2)
  unfolding ask_expr ask_literal is_target view is_element is_full fits_role
  true-law = judged-give t (asked_in_role r) _ p w le ∙ ap (Next p) (role-end r _ 2 _ (fitted _ 2 refl refl refl r) w ∙ least-true _)

  pub int-law : judged (asked_in_role r) (do n ← field 8; give (lit (int_l n))) t p w ≡ judged unasked (field 8) t p (v 3)
  unfolding ask_expr ask_literal is_target view is_element is_full fits_role
  int-law = judged-last t unasked (asked_in_role r) (field 8) (λ n. lit (int_l n)) p w (v 3) (λ n. role-end r _ 3 _ (fitted _ 3 refl refl refl r) w)

  pub float-law : judged (asked_in_role r) (do n ← field 8; give (lit (float_l n))) t p w ≡ judged unasked (field 8) t p (v 4)
  unfolding ask_expr ask_literal is_target view is_element is_full fits_role
  float-law = judged-last t unasked (asked_in_role r) (field 8) (λ n. lit (float_l n)) p w (v 4) (λ n. role-end r _ 4 _ (fitted _ 4 refl refl refl r) w)

  pub string-law : judged (asked_in_role r) (do s ← text; give (lit (string_l s))) t p w ≡ judged ask_text (text) t p (v 5)
  unfolding ask_expr ask_literal ask_text is_target view is_element is_full fits_role
  string-law = judged-last t ask_text (asked_in_role r) (text) (λ s. lit (string_l s)) p w (v 5) (λ s. role-end r _ 5 _ (fitted _ 5 refl refl refl r) w)

  pub var-law : judged (asked_in_role r) (do x ← name; give (var x)) t p w ≡ judge_name t p (v 6)
  unfolding ask_expr is_target view is_element is_full fits_role
  var-law = judged-last t ask_name (asked_in_role r) name var p w (v 6) (λ x. role-end r _ 6 _ (fitted _ 6 refl refl refl r) w)

  pub call-law : judged (asked_in_role r) (do f ← parse_expr d; n ← field 2; es ← exprs_of (parse_expr d) n; give (call f es)) t p w ≡ judge_call d t p (v 9)
  unfolding judge_call judge_args asked_in_role is_target view is_element is_full fits_role
  call-law = judged-bind t (asked_in_role Value) (asked_in_role r) _ _ _ p w (v 9) le (steady-E d) (λ f m h.
      judged-number t (asked_in_role r) _ _ m w h (λ n k g.
      judged-last-of t (asked_all Value) (asked_in_role r) (λ es. count es ≡ n) _ (call f) k w _ (counts (parse_expr d) n (drop k t)) (λ es c.
      role-end r _ 9 _ (fitted _ 9 refl refl refl r) w ∙ call-end f es n c (v 9))))

  pub attribute-law : judged (asked_in_role r) (do o ← parse_expr d; x ← name; give (attr o x)) t p w ≡ judge_attribute d t p (v 10)
  unfolding judge_attribute asked_in_role ask_expr is_target view is_element is_full fits_role
  attribute-law = judged-bind t (asked_in_role Value) (asked_in_role r) _ _ _ p w (v 10) le (steady-E d) (λ o m h.
      judged-last t ask_name (asked_in_role r) name (attr o) m w _ (λ x. role-end r _ 10 _ (fitted _ 10 refl refl refl r) w ∙ least-and _ _ _))

  pub index-law : judged (asked_in_role r) (do o ← parse_expr d; i ← parse_expr d; give (index o i)) t p w ≡ judge_two d t p (v 16)
  unfolding judge_two asked_in_role ask_expr is_target view is_element is_full fits_role
  index-law = judged-bind t (asked_in_role Value) (asked_in_role r) _ _ _ p w (v 16) le (steady-E d) (λ o m h.
      judged-last t (asked_in_role Value) (asked_in_role r) (parse_expr d) (index o) m w _ (λ i. role-end r _ 16 _ (fitted _ 16 refl refl refl r) w ∙ least-and _ _ _))

  pub lambda-law : judged (asked_in_role r) (do ps ← params; b ← parse_expr d; give (lambda ps b)) t p w ≡ judge_lambda d t p (v 17)
  unfolding judge_lambda asked_in_role ask_expr is_target view is_element is_full fits_role
  lambda-law = judged-bind t ask_params (asked_in_role r) _ _ _ p w (v 17) le steady-params (λ ps m h.
      judged-last t (asked_in_role Value) (asked_in_role r) (parse_expr d) (lambda ps) m w _ (λ b. role-end r _ 17 _ (fitted _ 17 refl refl refl r) w ∙ least-and _ _ _))

  pub tuple-law : judged (asked_in_role r) (display_of (parse_expr d) tuple_d) t p w ≡ judge_tuple r d t p (v 13)
  unfolding judge_tuple display_of filled
  tuple-law = judged-number t (asked_in_role r) _ _ p w le (λ n m h.
      judged-last-of t (asked_all (inner r)) (asked_in_role r) (λ es. count es ≡ n) _ (display tuple_d) m w _ (counts (parse_expr d) n (drop m t)) (λ es c.
      role-end r _ 13 _ (asked-tuple es r) w ∙ least-and (v 13) _ (λ q. asked_all (inner r) q es)
      ∙ ap (λ (k : ℕ). least (filled r k (v 13)) (λ q. asked_all (inner r) q es)) c))

  display-law : (b : Display) (k : ℕ) → ((es : Exprs) (q : ℕ) → asked_in_role r q (display b es) ≡ (if_asked 10 q (fits_role r k) && ask_expr q (display b es))) →
      judged (asked_in_role r) (display_of (parse_expr d) b) t p w ≡ judge_display d t p (v k)
  unfolding judge_display display_of ask_expr
  display-law b k f = judged-number t (asked_in_role r) _ _ p w le (λ n m h.
      judged-last t (asked_all Value) (asked_in_role r) _ (display b) m w _ (λ es. role-end r _ k _ (f es) w ∙ least-same _ _ _ (λ q. all-values q es)))

  pub list_law : judged (asked_in_role r) (display_of (parse_expr d) list_d) t p w ≡ judge_display d t p (v 11)
  unfolding is_target view view_display is_element is_full is_tuple fits_role
  list_law = display-law list_d 11 (λ es. fitted _ 11 refl refl refl r)

  pub set-law : judged (asked_in_role r) (display_of (parse_expr d) set_d) t p w ≡ judge_display d t p (v 14)
  unfolding is_target view view_display is_element is_full is_tuple fits_role
  set-law = display-law set_d 14 (λ es. fitted _ 14 refl refl refl r)

  pub tree-set-law : judged (asked_in_role r) (display_of (parse_expr d) tree_set_d) t p w ≡ judge_display d t p (v 15)
  unfolding is_target view view_display is_element is_full is_tuple fits_role
  tree-set-law = display-law tree_set_d 15 (λ es. fitted _ 15 refl refl refl r)

  pub dict-law : judged (asked_in_role r) (do n ← field 2; es ← exprs_of (parse_expr d) (2 * n); give (display dict_d es)) t p w ≡ judge_pairs d t p (v 12)
  unfolding judge_pairs is_target view view_display is_element is_full is_tuple fits_role ask_expr
  dict-law = judged-number t (asked_in_role r) _ _ p w le (λ n m h.
      judged-last t (asked_all Value) (asked_in_role r) _ (display dict_d) m w _ (λ es. role-end r _ 12 _ (fitted _ 12 refl refl refl r) w ∙ least-same _ _ _ (λ q. all-values q es)))

  pub unary-law : judged (asked_in_role r) (do op ← choice unary_kinds; x ← parse_expr d; give (op x)) t p w ≡ judge_unary d t p (v 7)
  unfolding judge_unary asked_in_role fits_role unary_kinds
  unary-law = judged-choice t (asked_in_role r) One _ ones _ p w _ (λ op o h.
      judged-last t (asked_in_role Value) (asked_in_role r) (parse_expr d) op (p + 1) w _ (λ e. role-end r _ 7 _ (fitted _ 7 (o.target e) (o.element e) (o.full e) r) w ∙ least-same _ _ _ (λ q. o.asks q e)))

  pub binary-law : judged (asked_in_role r) (do op ← choice binary_kinds; l ← parse_expr d; x ← parse_expr d; give (op l x)) t p w ≡ judge_binary d t p (v 8)
  unfolding judge_binary asked_in_role fits_role binary_kinds judge_two
  binary-law = judged-choice t (asked_in_role r) Two _ twos _ p w _ (λ op o h.
      judged-bind t (asked_in_role Value) (asked_in_role r) _ _ _ (p + 1) w (v 8) (omega arith) (steady-E d) (λ l m g.
      judged-last t (asked_in_role Value) (asked_in_role r) (parse_expr d) (op l) m w _ (λ x.
      role-end r _ 8 _ (fitted _ 8 (o.target l x) (o.element l x) (o.full l x) r) w ∙ least-same _ _ _ (λ q. o.asks q l x) ∙ least-and _ _ _)))

-- ---- an expression by its kind byte

pub deep-E : (d : ℕ) → (d ≡ 0 → ⊥) → parse_expr d ≡ by_kind (expr_kinds (parse_expr (d - 1)))
unfolding parse_expr
deep-E zero f = absurd (f refl)
deep-E (suc d) f = ap (λ (k : ℕ). by_kind (expr_kinds (parse_expr k))) (sym (sub-one (suc d)))

pub expr-kind : (r : Role) (d : ℕ) (t : List ℕ) (p w k : ℕ) → (d ≡ 0 → ⊥) → p < length t → get_or t p 0 ≡ k →
    judge_expr r d t p w ≡ judged (asked_in_role r) (get_or (expr_kinds (parse_expr (d - 1))) k unread) t (p + 1) w
expr-kind r d t p w k f h e = ap (λ (P : Parser Expr). judged (asked_in_role r) P t p w) (deep-E d f) ∙ judged-kind t (asked_in_role r) _ k p w h e

pub expr-none : (r : Role) (d : ℕ) (t : List ℕ) (p w : ℕ) → d ≡ 0 → p < length t → judge_expr r d t p w ≡ Refused 6
unfolding parse_expr judged passed too_deep
expr-none r zero t p w e h = rw (at_byte t p h)
expr-none r (suc d) t p w e h = absurd (omega arith)

pub expr-end : (r : Role) (d : ℕ) (t : List ℕ) (p w : ℕ) → length t ≤ p → judge_expr r d t p w ≡ Refused 5
unfolding parse_expr judged passed too_deep
expr-end r zero t p w h = rw (at-end t p h)
expr-end r (suc d) t p w h = judged-end t (asked_in_role r) (expr_kinds (parse_expr d)) p w h

pub expr-unknown : (r : Role) (d : ℕ) (t : List ℕ) (p w : ℕ) → (d ≡ 0 → ⊥) → p < length t → 18 ≤ get_or t p 0 → judge_expr r d t p w ≡ Refused 5
unfolding expr_kinds
expr-unknown r d t p w f h u =
    expr-kind r d t p w _ f h refl ∙ ap (λ (P : Parser Expr). judged (asked_in_role r) P t (p + 1) w) (get_or-eq_default (expr_kinds (parse_expr (d - 1))) unread u)
    ∙ judged-unread t (asked_in_role r) (p + 1) w

-- ---- n expressions

pub many-none : (r : Role) (d : ℕ) (t : List ℕ) (n p w : ℕ) → p ≤ length t → n ≤ 0 → judge_many r d t n p w ≡ Next p w
unfolding exprs_of counted asked_all
many-none r d t zero p w le h = judged-give t (asked_all r) []ᵉ p w le ∙ ap (Next p) (least-true w)
many-none r d t (suc n) p w le h = absurd (omega arith)

pub many_more : (r : Role) (d : ℕ) (t : List ℕ) (n p w : ℕ) → p ≤ length t → 0 < n → judge_many r d t n p w ≡ then_judge (judge_expr r d t p w) (λ m v. judge_many r d t (n - 1) m v)
unfolding exprs_of counted asked_all
many_more r d t zero p w le h = absurd (omega arith)
many_more r d t (suc n) p w le h =
    judged-bind t (asked_in_role r) (asked_all r) _ _ (λ m v. judge_many r d t n m v) p w w le (steady-E d) (λ e m g.
    judged-last t (asked_all r) (asked_all r) _ (λ es. e ∷ᵉ es) m w _ (λ es. least-and w (λ q. asked_in_role r q e) (λ q. asked_all r q es)))
    ∙ ap (λ (k : ℕ). then_judge (judge_expr r d t p w) (λ m v. judge_many r d t k m v)) (sym (sub-one (suc n)))

-- ---- what the code finds at each kind byte: u are the questions that stand after the kind was met in its role

module _ (r : Role) (d : ℕ) (t : List ℕ) (p w u : ℕ) (deeper : d ≡ 0 → ⊥) (inside : p < length t) (su : u ≡ suited r (get_or t p 0) w) where
  found : (k : ℕ) (o : ℕ → Passed) → judged (asked_in_role r) (get_or (expr_kinds (parse_expr (d - 1))) k unread) t (p + 1) w ≡ o (suited r k w) → get_or t p 0 ≡ k → o u ≡ judge_expr r d t p w
  found k o h e = ap o (su ∙ ap (λ (k : ℕ). suited r k w) e) ∙ sym (expr-kind r d t p w k deeper inside e ∙ h)

  pub at_none : get_or t p 0 ≡ 0 → Next (p + 1) u ≡ judge_expr r d t p w
  unfolding expr_kinds
  at_none e = found 0 (λ (u : ℕ). Next (p + 1) u) (none-law r (d - 1) t (p + 1) w (omega arith)) e

  pub at-false : get_or t p 0 ≡ 1 → Next (p + 1) u ≡ judge_expr r d t p w
  unfolding expr_kinds
  at-false e = found 1 (λ (u : ℕ). Next (p + 1) u) (false-law r (d - 1) t (p + 1) w (omega arith)) e

  pub at_true : get_or t p 0 ≡ 2 → Next (p + 1) u ≡ judge_expr r d t p w
  unfolding expr_kinds
  at_true e = found 2 (λ (u : ℕ). Next (p + 1) u) (true-law r (d - 1) t (p + 1) w (omega arith)) e

  pub at-int : get_or t p 0 ≡ 3 → judged unasked (field 8) t (p + 1) u ≡ judge_expr r d t p w
  unfolding expr_kinds
  at-int e = found 3 (λ (u : ℕ). judged unasked (field 8) t (p + 1) u) (int-law r (d - 1) t (p + 1) w (omega arith)) e

  pub at-float : get_or t p 0 ≡ 4 → judged unasked (field 8) t (p + 1) u ≡ judge_expr r d t p w
  unfolding expr_kinds
  at-float e = found 4 (λ (u : ℕ). judged unasked (field 8) t (p + 1) u) (float-law r (d - 1) t (p + 1) w (omega arith)) e

  pub at-string : get_or t p 0 ≡ 5 → judged ask_text (text) t (p + 1) u ≡ judge_expr r d t p w
  unfolding expr_kinds
  at-string e = found 5 (λ (u : ℕ). judged ask_text (text) t (p + 1) u) (string-law r (d - 1) t (p + 1) w (omega arith)) e

  pub at-var : get_or t p 0 ≡ 6 → judge_name t (p + 1) u ≡ judge_expr r d t p w
  unfolding expr_kinds
  at-var e = found 6 (λ (u : ℕ). judge_name t (p + 1) u) (var-law r (d - 1) t (p + 1) w (omega arith)) e

  pub at-unary : get_or t p 0 ≡ 7 → judge_unary (d - 1) t (p + 1) u ≡ judge_expr r d t p w
  unfolding expr_kinds
  at-unary e = found 7 (λ (u : ℕ). judge_unary (d - 1) t (p + 1) u) (unary-law r (d - 1) t (p + 1) w (omega arith)) e

  pub at-binary : get_or t p 0 ≡ 8 → judge_binary (d - 1) t (p + 1) u ≡ judge_expr r d t p w
  unfolding expr_kinds
  at-binary e = found 8 (λ (u : ℕ). judge_binary (d - 1) t (p + 1) u) (binary-law r (d - 1) t (p + 1) w (omega arith)) e

  pub at_call : get_or t p 0 ≡ 9 → judge_call (d - 1) t (p + 1) u ≡ judge_expr r d t p w
  unfolding expr_kinds
  at_call e = found 9 (λ (u : ℕ). judge_call (d - 1) t (p + 1) u) (call-law r (d - 1) t (p + 1) w (omega arith)) e

  pub at-attribute : get_or t p 0 ≡ 10 → judge_attribute (d - 1) t (p + 1) u ≡ judge_expr r d t p w
  unfolding expr_kinds
  at-attribute e = found 10 (λ (u : ℕ). judge_attribute (d - 1) t (p + 1) u) (attribute-law r (d - 1) t (p + 1) w (omega arith)) e

  pub at-list : get_or t p 0 ≡ 11 → judge_display (d - 1) t (p + 1) u ≡ judge_expr r d t p w
  unfolding expr_kinds
  at-list e = found 11 (λ (u : ℕ). judge_display (d - 1) t (p + 1) u) (list_law r (d - 1) t (p + 1) w (omega arith)) e

  pub at-dict : get_or t p 0 ≡ 12 → judge_pairs (d - 1) t (p + 1) u ≡ judge_expr r d t p w
  unfolding expr_kinds
  at-dict e = found 12 (λ (u : ℕ). judge_pairs (d - 1) t (p + 1) u) (dict-law r (d - 1) t (p + 1) w (omega arith)) e

  pub at-tuple : get_or t p 0 ≡ 13 → judge_tuple r (d - 1) t (p + 1) u ≡ judge_expr r d t p w
  unfolding expr_kinds
  at-tuple e = found 13 (λ (u : ℕ). judge_tuple r (d - 1) t (p + 1) u) (tuple-law r (d - 1) t (p + 1) w (omega arith)) e

  pub at_set : get_or t p 0 ≡ 14 → judge_display (d - 1) t (p + 1) u ≡ judge_expr r d t p w
  unfolding expr_kinds
  at_set e = found 14 (λ (u : ℕ). judge_display (d - 1) t (p + 1) u) (set-law r (d - 1) t (p + 1) w (omega arith)) e

  pub at-tree-set : get_or t p 0 ≡ 15 → judge_display (d - 1) t (p + 1) u ≡ judge_expr r d t p w
  unfolding expr_kinds
  at-tree-set e = found 15 (λ (u : ℕ). judge_display (d - 1) t (p + 1) u) (tree-set-law r (d - 1) t (p + 1) w (omega arith)) e

  pub at-index : get_or t p 0 ≡ 16 → judge_two (d - 1) t (p + 1) u ≡ judge_expr r d t p w
  unfolding expr_kinds
  at-index e = found 16 (λ (u : ℕ). judge_two (d - 1) t (p + 1) u) (index-law r (d - 1) t (p + 1) w (omega arith)) e

  pub at-lambda : get_or t p 0 ≡ 17 → judge_lambda (d - 1) t (p + 1) u ≡ judge_expr r d t p w
  unfolding expr_kinds
  at-lambda e = found 17 (λ (u : ℕ). judge_lambda (d - 1) t (p + 1) u) (lambda-law r (d - 1) t (p + 1) w (omega arith)) e
