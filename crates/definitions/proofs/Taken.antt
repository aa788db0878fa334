-- R-11: the bytes of a rest are as many fewer as are taken out, so the header of a rest needs no copy of it.
use mathlib.Core.Path.{◌≡◌, refl, ap, ◌∙◌}
use mathlib.Core.List.{List, [], ◌∷◌, ◌++◌}
use Prim.Native.Nat.{ℕ, suc, ◌+◌}
use native.Mathlib.Omega.{arith}
use lib.ListN.{length, length-append}
use Rattle.definitions.specs.Bytes.{be, concat, list_bytes, housed}
use Rattle.definitions.specs.Tree.{Attribute, Stmt, break, continue, pass, expr, return, assign, if, while, for, def, class}
use Rattle.definitions.specs.Tree.{Block, []ᵇ, ◌∷ᵇ◌, Branches, done, else, when, Methods, []ᵐ, method}
use Rattle.definitions.specs.Parse.{tree_version}
use Rattle.definitions.specs.Module.{name_bytes}
use Rattle.definitions.specs.TreeBytes.{size, elifs, method_count, expr_bytes, params_bytes, attribute_bytes, stmt_bytes, block_bytes, stmts_bytes, if_bytes, branches_bytes, methods_bytes, tree_bytes}
use Rattle.definitions.specs.Rests.{is_pass, joined, rest_stmt, rest, rest_branches, rest_methods, taken_stmt, taken, taken_branches, taken_methods}
use Rattle.definitions.specs.Statements.{TreeTaken}
use Rattle.definitions.proofs.BytesWritten.{length-be, length-list}
use Rattle.definitions.proofs.TreeStmts.{block-is}

pub length-housed : (v : ℕ) (bs : List ℕ) → length (housed v bs) ≡ 5 + length bs
unfolding housed
length-housed v bs = let l = length-append (be 4 (suc (length bs))) (v ∷ bs) in let m = length-be 4 (suc (length bs)) in omega arith

pub length-block : (b : Block) → length (block_bytes b) ≡ 2 + length (stmts_bytes b)
length-block b =
    let l = length-append (be 2 (size b)) (stmts_bytes b) in
    let m = length-be 2 (size b) in
    let z : length (be 2 (size b) ++ stmts_bytes b) ≡ 2 + length (stmts_bytes b) = omega arith in
    ap length (block-is b) ∙ z

-- what is left of a statement in its block
kept : Stmt → ℕ
kept break = 1
kept continue = 1
kept pass = 0
kept (expr e) = length (stmt_bytes (expr e))
kept (return e) = length (stmt_bytes (return e))
kept (assign t v) = length (stmt_bytes (assign t v))
kept (if bs) = length (stmt_bytes (rest_stmt (if bs)))
kept (while c b) = length (stmt_bytes (rest_stmt (while c b)))
kept (for x e b) = length (stmt_bytes (rest_stmt (for x e b)))
kept (def x ps b) = length (stmt_bytes (rest_stmt (def x ps b)))
kept (class x ms vs) = length (stmt_bytes (rest_stmt (class x ms vs)))

kept-joined : (s : Stmt) (b : Block) → length (stmts_bytes (joined (rest_stmt s) b)) ≡ kept s + length (stmts_bytes b)
unfolding kept joined is_pass rest_stmt stmts_bytes stmt_bytes
kept-joined break b = omega arith
kept-joined continue b = omega arith
kept-joined pass b = omega arith
kept-joined (expr e) b = length-append (stmt_bytes (expr e)) (stmts_bytes b)
kept-joined (return e) b = length-append (stmt_bytes (return e)) (stmts_bytes b)
kept-joined (assign t v) b = length-append (stmt_bytes (assign t v)) (stmts_bytes b)
kept-joined (if bs) b = length-append (stmt_bytes (rest_stmt (if bs))) (stmts_bytes b)
kept-joined (while c d) b = length-append (stmt_bytes (rest_stmt (while c d))) (stmts_bytes b)
kept-joined (for x e d) b = length-append (stmt_bytes (rest_stmt (for x e d))) (stmts_bytes b)
kept-joined (def x ps d) b = length-append (stmt_bytes (rest_stmt (def x ps d))) (stmts_bytes b)
kept-joined (class x ms vs) b = length-append (stmt_bytes (rest_stmt (class x ms vs))) (stmts_bytes b)

-- two, three or four parts after a kind byte, of which the last ones lose bytes
two : (xs ys zs : List ℕ) (k : ℕ) → length ys + k ≡ length zs → length (xs ++ ys) + k ≡ length (xs ++ zs)
two xs ys zs k h = let a = length-append xs ys in let b = length-append xs zs in omega arith

both : (ys zs us vs : List ℕ) (k l : ℕ) → length ys + k ≡ length zs → length us + l ≡ length vs → length (ys ++ us) + (k + l) ≡ length (zs ++ vs)
both ys zs us vs k l h g = let a = length-append ys us in let b = length-append zs vs in omega arith

after : (x : ℕ) (xs ys : List ℕ) (k : ℕ) → length xs + k ≡ length ys → length (x ∷ xs) + k ≡ length (x ∷ ys)
after x xs ys k h = omega arith

block-taken : (b c : Block) (k : ℕ) → length (stmts_bytes b) + k ≡ length (stmts_bytes c) → length (block_bytes b) + k ≡ length (block_bytes c)
block-taken b c k h = let x = length-block b in let y = length-block c in omega arith

attributes-taken : (vs : List Attribute) → length (list_bytes 2 attribute_bytes []) + length (concat attribute_bytes vs) ≡ length (list_bytes 2 attribute_bytes vs)
unfolding concat
attributes-taken vs = let l = length-list 2 attribute_bytes [] in let m = length-list 2 attribute_bytes vs in omega arith

-- the counts of a rest take as many bytes
counted : (m n : ℕ) (ys zs : List ℕ) (k : ℕ) → length ys + k ≡ length zs → length (be 2 m ++ ys) + k ≡ length (be 2 n ++ zs)
counted m n ys zs k h = let a = length-append (be 2 m) ys in let b = length-append (be 2 n) zs in let c = length-be 2 m in let d = length-be 2 n in omega arith

mutual
  unfolding kept taken_stmt taken taken_branches taken_methods rest_stmt rest rest_branches rest_methods stmt_bytes stmts_bytes if_bytes branches_bytes methods_bytes

  stmt-taken : (s : Stmt) → kept s + taken_stmt s ≡ length (stmt_bytes s)
  stmt-taken break = refl
  stmt-taken continue = refl
  stmt-taken pass = refl
  stmt-taken (expr e) = omega arith
  stmt-taken (return e) = omega arith
  stmt-taken (assign t v) = omega arith
  stmt-taken (if bs) = after 6 (if_bytes (rest_branches bs)) (if_bytes bs) (taken_branches bs) (if-taken bs)
  stmt-taken (while c b) =
      after 7 (expr_bytes c ++ block_bytes (rest b)) (expr_bytes c ++ block_bytes b) (taken b)
      (two (expr_bytes c) (block_bytes (rest b)) (block_bytes b) (taken b) (block-taken (rest b) b (taken b) (stmts-taken b)))
  stmt-taken (for x e b) =
      after 8 (name_bytes x ++ (expr_bytes e ++ block_bytes (rest b))) (name_bytes x ++ (expr_bytes e ++ block_bytes b)) (taken b)
      (two (name_bytes x) (expr_bytes e ++ block_bytes (rest b)) (expr_bytes e ++ block_bytes b) (taken b) (two (expr_bytes e) (block_bytes (rest b)) (block_bytes b) (taken b) (block-taken (rest b) b (taken b) (stmts-taken b))))
  stmt-taken (def x ps b) =
      after 9 (name_bytes x ++ (params_bytes ps ++ block_bytes (rest b))) (name_bytes x ++ (params_bytes ps ++ block_bytes b)) (taken b)
      (two (name_bytes x) (params_bytes ps ++ block_bytes (rest b)) (params_bytes ps ++ block_bytes b) (taken b) (two (params_bytes ps) (block_bytes (rest b)) (block_bytes b) (taken b) (block-taken (rest b) b (taken b) (stmts-taken b))))
  stmt-taken (class x ms vs) =
      let a = length (concat attribute_bytes vs) in
      let us = be 2 (method_count (rest_methods ms)) ++ (methods_bytes (rest_methods ms) ++ list_bytes 2 attribute_bytes []) in
      let ws = be 2 (method_count ms) ++ (methods_bytes ms ++ list_bytes 2 attribute_bytes vs) in
      let y = both (methods_bytes (rest_methods ms)) (methods_bytes ms) (list_bytes 2 attribute_bytes []) (list_bytes 2 attribute_bytes vs) (taken_methods ms) a (methods-taken ms) (attributes-taken vs) in
      after 10 (name_bytes x ++ us) (name_bytes x ++ ws) (taken_methods ms + a)
      (two (name_bytes x) us ws (taken_methods ms + a)
      (counted (method_count (rest_methods ms)) (method_count ms) (methods_bytes (rest_methods ms) ++ list_bytes 2 attribute_bytes []) (methods_bytes ms ++ list_bytes 2 attribute_bytes vs) (taken_methods ms + a) y))

  pub stmts-taken : (b : Block) → length (stmts_bytes (rest b)) + taken b ≡ length (stmts_bytes b)
  stmts-taken []ᵇ = refl
  stmts-taken (s ∷ᵇ b) =
      let x = kept-joined s (rest b) in
      let y = stmt-taken s in
      let z = stmts-taken b in
      let l = length-append (stmt_bytes s) (stmts_bytes b) in
      omega arith

  if-taken : (r : Branches) → length (if_bytes (rest_branches r)) + taken_branches r ≡ length (if_bytes r)
  if-taken done = refl
  if-taken (else b) = after 1 (block_bytes (rest b)) (block_bytes b) (taken b) (block-taken (rest b) b (taken b) (stmts-taken b))
  if-taken (when c b r) =
      let us = be 2 (elifs (rest_branches r)) ++ branches_bytes (rest_branches r) in
      let ws = be 2 (elifs r) ++ branches_bytes r in
      two (expr_bytes c) (block_bytes (rest b) ++ us) (block_bytes b ++ ws) (taken b + taken_branches r)
      (both (block_bytes (rest b)) (block_bytes b) us ws (taken b) (taken_branches r) (block-taken (rest b) b (taken b) (stmts-taken b))
      (counted (elifs (rest_branches r)) (elifs r) (branches_bytes (rest_branches r)) (branches_bytes r) (taken_branches r) (branches-taken r)))

  branches-taken : (r : Branches) → length (branches_bytes (rest_branches r)) + taken_branches r ≡ length (branches_bytes r)
  branches-taken done = refl
  branches-taken (else b) = after 1 (block_bytes (rest b)) (block_bytes b) (taken b) (block-taken (rest b) b (taken b) (stmts-taken b))
  branches-taken (when c b r) =
      two (expr_bytes c) (block_bytes (rest b) ++ branches_bytes (rest_branches r)) (block_bytes b ++ branches_bytes r) (taken b + taken_branches r)
      (both (block_bytes (rest b)) (block_bytes b) (branches_bytes (rest_branches r)) (branches_bytes r) (taken b) (taken_branches r) (block-taken (rest b) b (taken b) (stmts-taken b)) (branches-taken r))

  methods-taken : (ms : Methods) → length (methods_bytes (rest_methods ms)) + taken_methods ms ≡ length (methods_bytes ms)
  methods-taken []ᵐ = refl
  methods-taken (method x ps b ms) =
      two (name_bytes x) (params_bytes ps ++ (block_bytes (rest b) ++ methods_bytes (rest_methods ms))) (params_bytes ps ++ (block_bytes b ++ methods_bytes ms)) (taken b + taken_methods ms)
      (two (params_bytes ps) (block_bytes (rest b) ++ methods_bytes (rest_methods ms)) (block_bytes b ++ methods_bytes ms) (taken b + taken_methods ms)
      (both (block_bytes (rest b)) (block_bytes b) (methods_bytes (rest_methods ms)) (methods_bytes ms) (taken b) (taken_methods ms) (block-taken (rest b) b (taken b) (stmts-taken b)) (methods-taken ms)))

pub tree_taken : TreeTaken
unfolding tree_bytes
tree_taken b =
    let x = block-taken (rest b) b (taken b) (stmts-taken b) in
    let y = length-housed tree_version (block_bytes (rest b)) in
    let z = length-housed tree_version (block_bytes b) in
    omega arith
