-- A reader of a tree's bytes fails by question 5 or by question 6.
use mathlib.Core.Path.{◌≡◌, refl}
use mathlib.Core.List.{List, [], ◌∷◌, map}
use Prim.Native.Nat.{ℕ, zero, suc, ◌*◌}
use native.Mathlib.Omega.{arith}
use lib.ListN.{get_or}
use Rattle.definitions.specs.Bytes.{Parsed, got, failed, Parser, ◌>>=◌, give, unread, byte, field, counted, list_of, name, text}
use Rattle.definitions.specs.Tree.{Display, list_d, tuple_d, set_d, tree_set_d, Expr, Stmt}
use Rattle.definitions.specs.Parse.{by_kind, choice, too_deep, params, exprs_of, display_of, expr_kinds, parse_expr, block_of, branches, methods, attribute, stmt_kinds, parse_stmt}
use Rattle.definitions.proofs.Every.{Every, no_every, every}

pub data FiveOrSix : ℕ → Type 0 where
  five : FiveOrSix 5
  six : FiveOrSix 6

pub record Fails {A : Type 0} (p : Parser A) : Type 0 where
  pub at : (bs : List ℕ) (q : ℕ) → p bs ≡ failed q → FiveOrSix q

-- ---- one law a combinator

fails-5 : {A : Type 0} (q : ℕ) → ◌≡◌ {A = Parsed A} (failed 5) (failed q) → FiveOrSix q
fails-5 q e = let z : 5 ≡ q = cc in rw (← z) five

fails-6 : {A : Type 0} (q : ℕ) → ◌≡◌ {A = Parsed A} (failed 6) (failed q) → FiveOrSix q
fails-6 q e = let z : 6 ≡ q = cc in rw (← z) six

fails-not : {A : Type 0} (a : A) (rest : List ℕ) (q : ℕ) → got a rest ≡ failed q → FiveOrSix q
fails-not a rest q e = let z : ◌≡◌ {A = ℕ} 0 1 = cc in absurd (omega arith)

fails-give : {A : Type 0} (a : A) → Fails (give a)
unfolding give
fails-give a = record { at = λ bs q e. fails-not a bs q e }

fails-unread : {A : Type 0} → Fails (unread {A = A})
unfolding unread
fails-unread = record { at = λ bs q e. fails-5 q e }

fails-byte : Fails byte
unfolding byte
fails-byte = record { at = go }
  where
    go : (bs : List ℕ) (q : ℕ) → byte bs ≡ failed q → FiveOrSix q
    go [] q e = fails-5 q e
    go (b ∷ bs) q e = fails-not b bs q e

fails-deep : {A : Type 0} → Fails (too_deep {A = A})
unfolding too_deep
fails-deep {A} = record { at = go }
  where
    go : (bs : List ℕ) (q : ℕ) → too_deep {A = A} bs ≡ failed q → FiveOrSix q
    go [] q e = fails-5 q e
    go (b ∷ bs) q e = fails-6 q e

fails-bind : {A B : Type 0} {p : Parser A} (f : A → Parser B) → Fails p → ((a : A) → Fails (f a)) → Fails (p >>= f)
unfolding ◌>>=◌
fails-bind {A} {B} {p} f P F = record { at = λ bs q e. go bs q (p bs) refl e }
  where
    go : (bs : List ℕ) (q : ℕ) (r : Parsed A) → p bs ≡ r → ◌≡◌ {A = Parsed B} (elim r as (λ z. Parsed B) [ got a more ↦ f a more | failed k ↦ failed k ]) (failed q) → FiveOrSix q
    go bs q (got a more) h e = (F a).at more q e
    go bs q (failed k) h e = let z : k ≡ q = cc in P.at bs q (rw z at h)

fails-field : (w : ℕ) → Fails (field w)
unfolding field
fails-field zero = fails-give 0
fails-field (suc w) = fails-bind _ fails-byte (λ b. fails-bind _ (fails-field w) (λ n. fails-give _))

fails-get_d : {A : Type 0} {ps : List (Parser A)} → Every Fails ps → (k : ℕ) → Fails (get_or ps k unread)
fails-get_d no_every k = fails-unread
fails-get_d (every p r) zero = p
fails-get_d (every p r) (suc k) = fails-get_d r k

fails-kinds : {A : Type 0} {ps : List (Parser A)} → Every Fails ps → Fails (by_kind ps)
unfolding by_kind
fails-kinds K = fails-bind _ fails-byte (fails-get_d K)

fails-gives : {A : Type 0} (xs : List A) → Every Fails (map give xs)
fails-gives [] = no_every
fails-gives (x ∷ xs) = every (fails-give x) (fails-gives xs)

fails-choice : {A : Type 0} (xs : List A) → Fails (choice xs)
unfolding choice
fails-choice xs = fails-kinds (fails-gives xs)

fails-counted : {A B : Type 0} (z : B) (c : A → B → B) {p : Parser A} → Fails p → (n : ℕ) → Fails (counted z c p n)
unfolding counted
fails-counted z c P zero = fails-give z
fails-counted z c P (suc n) = fails-bind _ P (λ a. fails-bind _ (fails-counted z c P n) (λ b. fails-give _))

fails-list : {A : Type 0} (w : ℕ) {p : Parser A} → Fails p → Fails (list_of w p)
unfolding list_of
fails-list w P = fails-bind _ (fails-field w) (fails-counted [] ◌∷◌ P)

fails-name : Fails name
unfolding name
fails-name = fails-list 1 fails-byte

fails-text : Fails text
unfolding text
fails-text = fails-list 2 fails-byte

fails-params : Fails params
unfolding params
fails-params = fails-list 2 fails-name

-- ---- expressions

fails-exprs : {e : Parser Expr} → Fails e → (n : ℕ) → Fails (exprs_of e n)
unfolding exprs_of
fails-exprs E n = fails-counted _ _ E n

fails-display : {e : Parser Expr} → Fails e → (k : Display) → Fails (display_of e k)
unfolding display_of
fails-display E k = fails-bind _ (fails-field 2) (λ n. fails-bind _ (fails-exprs E n) (λ es. fails-give _))

fails-expr_kinds : {e : Parser Expr} → Fails e → Every Fails (expr_kinds e)
unfolding expr_kinds
fails-expr_kinds E =
    every (fails-give _)
    (every (fails-give _)
    (every (fails-give _)
    (every (fails-bind _ (fails-field 8) (λ n. fails-give _))
    (every (fails-bind _ (fails-field 8) (λ n. fails-give _))
    (every (fails-bind _ fails-text (λ s. fails-give _))
    (every (fails-bind _ fails-name (λ x. fails-give _))
    (every (fails-bind _ (fails-choice _) (λ op. fails-bind _ E (λ x. fails-give _)))
    (every (fails-bind _ (fails-choice _) (λ op. fails-bind _ E (λ l. fails-bind _ E (λ r. fails-give _))))
    (every (fails-bind _ E (λ f. fails-bind _ (fails-field 2) (λ n. fails-bind _ (fails-exprs E n) (λ es. fails-give _))))
    (every (fails-bind _ E (λ o. fails-bind _ fails-name (λ x. fails-give _)))
    (every (fails-display E list_d)
    (every (fails-bind _ (fails-field 2) (λ n. fails-bind _ (fails-exprs E (2 * n)) (λ es. fails-give _)))
    (every (fails-display E tuple_d)
    (every (fails-display E set_d)
    (every (fails-display E tree_set_d)
    (every (fails-bind _ E (λ o. fails-bind _ E (λ i. fails-give _)))
    (every (fails-bind _ fails-params (λ ps. fails-bind _ E (λ b. fails-give _)))
    no_every)))))))))))))))))

fails-expr : (d : ℕ) → Fails (parse_expr d)
unfolding parse_expr
fails-expr zero = fails-deep
fails-expr (suc d) = fails-kinds (fails-expr_kinds (fails-expr d))

-- ---- statements

fails-block : {s : Parser Stmt} → Fails s → Fails (block_of s)
unfolding block_of
fails-block S = fails-bind _ (fails-field 2) (fails-counted _ _ S)

fails-branches : {e : Parser Expr} {s : Parser Stmt} → Fails e → Fails s → (n : ℕ) → Fails (branches e s n)
unfolding branches
fails-branches E S zero = fails-kinds (every (fails-give _) (every (fails-bind _ (fails-block S) (λ b. fails-give _)) no_every))
fails-branches E S (suc n) = fails-bind _ E (λ c. fails-bind _ (fails-block S) (λ b. fails-bind _ (fails-branches E S n) (λ r. fails-give _)))

fails-methods : {s : Parser Stmt} → Fails s → (n : ℕ) → Fails (methods s n)
unfolding methods
fails-methods S zero = fails-give _
fails-methods S (suc n) =
    fails-bind _ fails-name (λ x. fails-bind _ fails-params (λ ps. fails-bind _ (fails-block S) (λ b. fails-bind _ (fails-methods S n) (λ ms. fails-give _))))

fails-attribute : {e : Parser Expr} → Fails e → Fails (attribute e)
unfolding attribute
fails-attribute E = fails-bind _ fails-name (λ x. fails-bind _ E (λ v. fails-give _))

fails-stmt_kinds : {e : Parser Expr} {s : Parser Stmt} → Fails e → Fails s → Every Fails (stmt_kinds e s)
unfolding stmt_kinds
fails-stmt_kinds E S =
    every (fails-give _)
    (every (fails-give _)
    (every (fails-give _)
    (every (fails-bind _ E (λ x. fails-give _))
    (every (fails-bind _ E (λ x. fails-give _))
    (every (fails-bind _ E (λ t. fails-bind _ E (λ v. fails-give _)))
    (every (fails-bind _ E (λ c. fails-bind _ (fails-block S) (λ b. fails-bind _ (fails-field 2) (λ n. fails-bind _ (fails-branches E S n) (λ r. fails-give _)))))
    (every (fails-bind _ E (λ c. fails-bind _ (fails-block S) (λ b. fails-give _)))
    (every (fails-bind _ fails-name (λ x. fails-bind _ E (λ i. fails-bind _ (fails-block S) (λ b. fails-give _))))
    (every (fails-bind _ fails-name (λ x. fails-bind _ fails-params (λ ps. fails-bind _ (fails-block S) (λ b. fails-give _))))
    (every (fails-bind _ fails-name (λ x. fails-bind _ (fails-field 2) (λ n. fails-bind _ (fails-methods S n) (λ ms. fails-bind _ (fails-list 2 (fails-attribute E)) (λ vs. fails-give _)))))
    no_every))))))))))

fails-stmt : (d : ℕ) → Fails (parse_stmt d)
unfolding parse_stmt
fails-stmt zero = fails-deep
fails-stmt (suc d) = fails-kinds (fails-stmt_kinds (fails-expr d) (fails-stmt d))

pub fails-tree : (d : ℕ) → Fails (block_of (parse_stmt d))
fails-tree d = fails-block (fails-stmt d)
