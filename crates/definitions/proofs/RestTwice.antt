-- Of a rest nothing is left to take out.
use mathlib.Core.Path.{◌≡◌, refl, ap, ◌∙◌}
use mathlib.Core.List.{[]}
use Rattle.definitions.specs.Tree.{Stmt, break, continue, pass, expr, return, assign, if, while, for, def, class}
use Rattle.definitions.specs.Tree.{Block, []ᵇ, ◌∷ᵇ◌, Branches, done, else, when, Methods, []ᵐ, method}
use Rattle.definitions.specs.Rests.{is_pass, joined, rest_stmt, rest, rest_branches, rest_methods}
use Rattle.definitions.specs.Statements.{RestTwice}

rest-joined : (s : Stmt) (b : Block) → rest (joined s b) ≡ joined (rest_stmt s) (rest b)
unfolding joined is_pass rest rest_stmt
rest-joined break b = refl
rest-joined continue b = refl
rest-joined pass b = refl
rest-joined (expr e) b = refl
rest-joined (return e) b = refl
rest-joined (assign t v) b = refl
rest-joined (if bs) b = refl
rest-joined (while c d) b = refl
rest-joined (for x e d) b = refl
rest-joined (def x ps d) b = refl
rest-joined (class x ms vs) b = refl

mutual
  unfolding rest_stmt rest rest_branches rest_methods

  rest-stmt-twice : (s : Stmt) → rest_stmt (rest_stmt s) ≡ rest_stmt s
  rest-stmt-twice break = refl
  rest-stmt-twice continue = refl
  rest-stmt-twice pass = refl
  rest-stmt-twice (expr e) = refl
  rest-stmt-twice (return e) = refl
  rest-stmt-twice (assign t v) = refl
  rest-stmt-twice (if bs) = ap if (rest-branches-twice bs)
  rest-stmt-twice (while c b) = ap (while c) (rest-twice b)
  rest-stmt-twice (for x e b) = ap (for x e) (rest-twice b)
  rest-stmt-twice (def x ps b) = ap (def x ps) (rest-twice b)
  rest-stmt-twice (class x ms vs) = ap (λ (z : Methods). class x z []) (rest-methods-twice ms)

  rest-twice : (b : Block) → rest (rest b) ≡ rest b
  rest-twice []ᵇ = refl
  rest-twice (s ∷ᵇ b) = rest-joined (rest_stmt s) (rest b) ∙ ap (λ (z : Stmt). joined z (rest (rest b))) (rest-stmt-twice s) ∙ ap (joined (rest_stmt s)) (rest-twice b)

  rest-branches-twice : (r : Branches) → rest_branches (rest_branches r) ≡ rest_branches r
  rest-branches-twice done = refl
  rest-branches-twice (else b) = ap else (rest-twice b)
  rest-branches-twice (when c b r) = ap (λ (z : Block). when c z (rest_branches (rest_branches r))) (rest-twice b) ∙ ap (when c (rest b)) (rest-branches-twice r)

  rest-methods-twice : (ms : Methods) → rest_methods (rest_methods ms) ≡ rest_methods ms
  rest-methods-twice []ᵐ = refl
  rest-methods-twice (method x ps b ms) = ap (λ (z : Block). method x ps z (rest_methods (rest_methods ms))) (rest-twice b) ∙ ap (method x ps (rest b)) (rest-methods-twice ms)

pub rest_twice : RestTwice
rest_twice b = rest-twice b
