-- What one pass over the tree's bytes answers: where the part at a position ends and how many of the questions 7, 33, 8 to 10, 36, 11 to 13 still stand,
-- or refusal 5 or 6. Each is an equation with the parsers and questions of `definitions`.
use Rattle.std.specs.Prelude.{ℕ, zero, suc, ◌+◌, ◌*◌, ◌-◌, ◌≡◌, Bool, true, false, not, ◌&&◌, ◌||◌, List, [], ◌∷◌, length, drop, get_or, eqb, leb, ltb}
use Rattle.definitions.specs.Bytes.{Name, Parsed, got, failed, Parser, field, counted, list_of, name, all, same}
use Rattle.definitions.specs.Utf8.{is_utf8}
use Rattle.definitions.specs.Tree.{Expr, Exprs, []ᵉ, ◌∷ᵉ◌, Stmt, Block, []ᵇ, Branches, Attribute, ◌∷ᵇ◌}
use Rattle.definitions.specs.Parse.{params, exprs_of, parse_expr, parse_stmt, block_of, branches, methods, attribute}
use Rattle.definitions.specs.Wellformed.{if_asked, ask_name, ask_params, ask_expr, is_element, is_full, ask_target, ask_stmt, ask_block, ask_branches, ask_methods, ask_attribute, block_questions, init}
use Rattle.tree_view.specs.Places.{name_from}
use Rattle.tree_view.specs.declared.roles.Role.{Role}
use Rattle.tree_view.specs.declared.roles.Role.TheVariants.{Value, Target, Element}

-- where a part ends, with how many of a block's questions stand; or the number of the refusal. The code answers a Result, and its checker tells
-- the place and the stand (Judged: passed_by).
pub data Passed : Type 0 where
  Next : ℕ → ℕ → Passed
  Refused : ℕ → Passed

-- a number and where it ends, or the number of the refusal; likewise (Judged: counted_by)
pub data Number : Type 0 where
  Is : ℕ → ℕ → Number
  Unread : ℕ → Number

-- question k has place r in the order in which the questions are asked
pub data Placed (k : ℕ) : List ℕ → ℕ → Type 0 where
  here : {qs : List ℕ} → Placed k (k ∷ qs) zero
  later : {q r : ℕ} {qs : List ℕ} → (q ≡ k → ⊥) → Placed k qs r → Placed k (q ∷ qs) (suc r)

-- of the first w questions, how many are answered yes before the first no: all w, where none is answered no
unfoldable pub stand_onward : Bool → ℕ → ℕ
stand_onward true n = suc n
stand_onward false n = zero

unfoldable pub up_to : ℕ → List ℕ → (ℕ → Bool) → ℕ
up_to zero qs f = zero
up_to (suc w) [] f = suc w
up_to (suc w) (q ∷ qs) f = stand_onward (f q) (up_to w qs f)

unfoldable pub least : ℕ → (ℕ → Bool) → ℕ
least w f = up_to w block_questions f

-- where a read in t ends, with how many of w questions stand after those that `ask` asks of it; or the number of the refusal
unfoldable pub passed : {A : Type 0} → (ℕ → A → Bool) → List ℕ → ℕ → Parsed A → Passed
passed ask t w (got a rest) = Next (length t - length rest) (least w (λ q. ask q a))
passed ask t w (failed q) = Refused q

unfoldable pub judged : {A : Type 0} → (ℕ → A → Bool) → Parser A → List ℕ → ℕ → ℕ → Passed
judged ask P t p w = passed ask t w (P (drop p t))

-- one part after another
unfoldable pub then_judge : Passed → (ℕ → ℕ → Passed) → Passed
then_judge (Next p w) f = f p w
then_judge (Refused q) f = Refused q

-- a number in t, and where it ends
unfoldable pub numbered : List ℕ → Parsed ℕ → Number
numbered t (got n rest) = Is n (length t - length rest)
numbered t (failed q) = Unread q

unfoldable pub judged_number_at : List ℕ → ℕ → Number
judged_number_at t p = numbered t (field 2 (drop p t))

unfoldable pub with_number : Number → (ℕ → ℕ → Passed) → Passed
with_number (Is n m) f = f n m
with_number (Unread q) f = Refused q

-- nothing is asked
abbrev pub unasked : {A : Type 0} → ℕ → A → Bool
unasked q a = true

-- 8, of a string's bytes
unfoldable pub ask_text : ℕ → List ℕ → Bool
ask_text q s = if_asked 8 q (is_utf8 s)

unfoldable pub ask_names : ℕ → List Name → Bool
ask_names q ps = all (ask_name q) ps

-- what is asked of an expression: as a value, as an assignment's target, as an element of a tuple target
unfoldable pub asked_in_role : Role → ℕ → Expr → Bool
asked_in_role Value q e = ask_expr q e
asked_in_role Target q e = ask_target q e
asked_in_role Element q e = if_asked 36 q (is_full e) && if_asked 10 q (is_element e) && ask_expr q e

unfoldable pub asked_all : Role → ℕ → Exprs → Bool
asked_all r q []ᵉ = true
asked_all r q (e ∷ᵉ es) = asked_in_role r q e && asked_all r q es

-- whether a kind of expression can stand in a role
unfoldable pub fits_role : Role → ℕ → Bool
fits_role Value k = true
fits_role Target k = eqb k 6 || eqb k 10 || eqb k 13 || eqb k 16
fits_role Element k = eqb k 6 || eqb k 13

-- 10, of a kind in a role
unfoldable pub suited : Role → ℕ → ℕ → ℕ
suited r k w = least w (λ q. if_asked 10 q (fits_role r k))

-- whether a tuple of n elements can stand in a role
unfoldable pub tuple_fits_role : Role → ℕ → Bool
tuple_fits_role Value n = true
tuple_fits_role Target n = ltb 0 n
tuple_fits_role Element n = ltb 0 n

-- 36, of a tuple of n elements in a role
unfoldable pub filled : Role → ℕ → ℕ → ℕ
filled r n w = least w (λ q. if_asked 36 q (tuple_fits_role r n))

-- the role of a tuple's elements
unfoldable pub inner : Role → Role
inner Value = Value
inner Target = Element
inner Element = Element

-- ---- parts at a position

abbrev pub judge_name : List ℕ → ℕ → ℕ → Passed
judge_name t p w = judged ask_name name t p w

abbrev pub judge_params : List ℕ → ℕ → ℕ → Passed
judge_params t p w = judged ask_params params t p w

abbrev pub judge_expr : Role → ℕ → List ℕ → ℕ → ℕ → Passed
judge_expr r d t p w = judged (asked_in_role r) (parse_expr d) t p w

abbrev pub judge_many : Role → ℕ → List ℕ → ℕ → ℕ → ℕ → Passed
judge_many r d t n p w = judged (asked_all r) (exprs_of (parse_expr d) n) t p w

-- two values
unfoldable pub judge_two : ℕ → List ℕ → ℕ → ℕ → Passed
judge_two d = λ t p w. then_judge (judge_expr Value d t p w) (λ m v. judge_expr Value d t m v)

-- a callee and its arguments
unfoldable pub judge_args : ℕ → List ℕ → ℕ → ℕ → Passed
judge_args d = λ t p w. with_number (judged_number_at t p) (λ n m. judge_many Value d t n m (least w (λ q. if_asked 13 q (leb n 255))))

unfoldable pub judge_call : ℕ → List ℕ → ℕ → ℕ → Passed
judge_call d = λ t p w. then_judge (judge_expr Value d t p w) (λ m v. judge_args d t m v)

-- a count, and so many values; a tuple in a role; a count, and so many pairs
unfoldable pub judge_display : ℕ → List ℕ → ℕ → ℕ → Passed
judge_display d = λ t p w. with_number (judged_number_at t p) (λ n m. judge_many Value d t n m w)

unfoldable pub judge_tuple : Role → ℕ → List ℕ → ℕ → ℕ → Passed
judge_tuple r d = λ t p w. with_number (judged_number_at t p) (λ n m. judge_many (inner r) d t n m (filled r n w))

unfoldable pub judge_pairs : ℕ → List ℕ → ℕ → ℕ → Passed
judge_pairs d = λ t p w. with_number (judged_number_at t p) (λ n m. judge_many Value d t (2 * n) m w)

unfoldable pub judge_attribute : ℕ → List ℕ → ℕ → ℕ → Passed
judge_attribute d = λ t p w. then_judge (judge_expr Value d t p w) (λ m v. judge_name t m v)

unfoldable pub judge_lambda : ℕ → List ℕ → ℕ → ℕ → Passed
judge_lambda d = λ t p w. then_judge (judge_params t p w) (λ m v. judge_expr Value d t m v)

-- whether an operator below n stands at p
unfoldable pub operator_at : ℕ → List ℕ → ℕ → Bool
operator_at n t p = ltb p (length t) && ltb (get_or t p 0) n

-- what a test lets through
unfoldable pub guarded : Bool → Passed → Passed
guarded true o = o
guarded false o = Refused 5

unfoldable pub judge_operator : ℕ → List ℕ → ℕ → ℕ → Passed
judge_operator n = λ t p w. guarded (operator_at n t p) (Next (p + 1) w)

abbrev pub judge_names : List ℕ → ℕ → ℕ → ℕ → Passed
judge_names t n p w = judged ask_names (counted [] ◌∷◌ name n) t p w

-- 12, with a method's name and parameters
unfoldable pub judge_head : List ℕ → ℕ → ℕ → Passed
judge_head t p w =
    then_judge (judge_name t p w) (λ m v. then_judge (judge_params t m v) (λ k u.
    with_number (judged_number_at t m) (λ n z. Next k (least u (λ q. if_asked 12 q (not (same (name_from t p) init) || ltb 0 n))))))

unfoldable pub judge_unary : ℕ → List ℕ → ℕ → ℕ → Passed
judge_unary d = λ t p w. guarded (operator_at 3 t p) (judge_expr Value d t (p + 1) w)

unfoldable pub judge_binary : ℕ → List ℕ → ℕ → ℕ → Passed
judge_binary d = λ t p w. guarded (operator_at 14 t p) (judge_two d t (p + 1) w)

-- ---- statements; `loop` says whether a loop of the same function is around

abbrev pub stmt_ask : Bool → ℕ → Stmt → Bool
stmt_ask loop q s = ask_stmt q loop s

abbrev pub block_ask : Bool → ℕ → Block → Bool
block_ask loop q b = ask_block q loop b

abbrev pub branches_ask : Bool → ℕ → Branches → Bool
branches_ask loop q r = ask_branches q loop r

unfoldable pub attributes_ask : ℕ → List Attribute → Bool
attributes_ask q vs = all (ask_attribute q) vs

abbrev pub judge_stmt : Bool → ℕ → List ℕ → ℕ → ℕ → Passed
judge_stmt loop d t p w = judged (stmt_ask loop) (parse_stmt d) t p w

abbrev pub judge_block : Bool → ℕ → List ℕ → ℕ → ℕ → Passed
judge_block loop d t p w = judged (block_ask loop) (block_of (parse_stmt d)) t p w

-- n statements, n elifs and an else block or none, n methods, n attributes
abbrev pub judge_stmts : Bool → ℕ → List ℕ → ℕ → ℕ → ℕ → Passed
judge_stmts loop d t n p w = judged (block_ask loop) (counted []ᵇ ◌∷ᵇ◌ (parse_stmt d) n) t p w

abbrev pub judge_branches : Bool → ℕ → List ℕ → ℕ → ℕ → ℕ → Passed
judge_branches loop d t n p w = judged (branches_ask loop) (branches (parse_expr d) (parse_stmt d) n) t p w

abbrev pub judge_methods : ℕ → List ℕ → ℕ → ℕ → ℕ → Passed
judge_methods d t n p w = judged ask_methods (methods (parse_stmt d) n) t p w

abbrev pub judge_attributes : ℕ → List ℕ → ℕ → ℕ → ℕ → Passed
judge_attributes d t n p w = judged attributes_ask (counted [] ◌∷◌ (attribute (parse_expr d)) n) t p w

abbrev pub judge_attribute_list : ℕ → List ℕ → ℕ → ℕ → Passed
judge_attribute_list d t p w = judged attributes_ask (list_of 2 (attribute (parse_expr d))) t p w

-- a target and a value
unfoldable pub judge_assign : ℕ → List ℕ → ℕ → ℕ → Passed
judge_assign d = λ t p w. then_judge (judge_expr Target d t p w) (λ m v. judge_expr Value d t m v)

-- a condition and a block
unfoldable pub judge_branch : Bool → ℕ → List ℕ → ℕ → ℕ → Passed
judge_branch loop d = λ t p w. then_judge (judge_expr Value d t p w) (λ m v. judge_block loop d t m v)

unfoldable pub judge_if : Bool → ℕ → List ℕ → ℕ → ℕ → Passed
judge_if loop d = λ t p w. then_judge (judge_branch loop d t p w) (λ m v. with_number (judged_number_at t m) (λ n k. judge_branches loop d t n k v))

unfoldable pub judge_for : ℕ → List ℕ → ℕ → ℕ → Passed
judge_for d = λ t p w. then_judge (judge_name t p w) (λ m v. judge_branch true d t m v)

unfoldable pub judge_def : ℕ → List ℕ → ℕ → ℕ → Passed
judge_def d = λ t p w. then_judge (judge_name t p w) (λ m v. then_judge (judge_params t m v) (λ k u. judge_block false d t k u))

unfoldable pub judge_method : ℕ → List ℕ → ℕ → ℕ → Passed
judge_method d = λ t p w. then_judge (judge_head t p w) (λ m v. judge_block false d t m v)

unfoldable pub judge_class : ℕ → List ℕ → ℕ → ℕ → Passed
judge_class d = λ t p w. then_judge (judge_name t p w) (λ m v. with_number (judged_number_at t m) (λ n k. then_judge (judge_methods d t n k v) (λ j u. judge_attribute_list d t j u)))

-- a name and a value
unfoldable pub judge_attribute_value : ℕ → List ℕ → ℕ → ℕ → Passed
judge_attribute_value d = λ t p w. then_judge (judge_name t p w) (λ m v. judge_expr Value d t m v)
