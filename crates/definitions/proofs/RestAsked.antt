-- The rest of a tree (R-11): it has the tree's slots and loops, and answers each question of a block yes where the tree does.
use mathlib.Core.Path.{◌≡◌, refl, ap, ◌∙◌}
use mathlib.Core.Bool.{Bool, true, false, ◌&&◌}
use mathlib.Core.Option.{Option, none, some}
use mathlib.Core.List.{List, [], ◌∷◌}
use Prim.Native.Nat.{ℕ, ◌+◌}
use native.Mathlib.Omega.{arith}
use Rattle.definitions.specs.Bytes.{Name, Answer, refused, accepted, all}
use Rattle.definitions.specs.Tree.{Stmt, break, continue, pass, expr, return, assign, if, while, for, def, class}
use Rattle.definitions.specs.Tree.{Block, []ᵇ, ◌∷ᵇ◌, Branches, done, else, when, Methods, []ᵐ, method}
use Rattle.definitions.specs.Slots.{locals_stmt, locals_block, locals_branches, loops_stmt, loops_block, loops_branches}
use Rattle.definitions.specs.Wellformed.{ask_name, ask_params, ask_method, ask_expr, ask_attribute, ask_stmt, ask_block, ask_branches, ask_methods, block_questions, first_no, refused_by, well_formed}
use Rattle.definitions.specs.Bytes.{when_accepted}
use Rattle.definitions.specs.Tables.{Tables}
use Rattle.definitions.specs.Lower.{compile}
use Rattle.definitions.specs.Module.{Limits, fits, lower_formed, lower_block}
use Rattle.definitions.specs.Rests.{is_pass, joined, rest_stmt, rest, rest_branches, rest_methods}
use Rattle.definitions.proofs.Truth.{left, right, both, and}

-- ---- slots

locals-joined : (s : Stmt) (b : Block) (xs : List Name) → locals_block (joined s b) xs ≡ locals_block b (locals_stmt s xs)
unfolding joined is_pass locals_block locals_stmt
locals-joined break b xs = refl
locals-joined continue b xs = refl
locals-joined pass b xs = refl
locals-joined (expr e) b xs = refl
locals-joined (return e) b xs = refl
locals-joined (assign t v) b xs = refl
locals-joined (if bs) b xs = refl
locals-joined (while c d) b xs = refl
locals-joined (for x e d) b xs = refl
locals-joined (def x ps d) b xs = refl
locals-joined (class x ms vs) b xs = refl

mutual
  unfolding rest_stmt rest rest_branches locals_stmt locals_block locals_branches

  pub locals-stmt : (s : Stmt) (xs : List Name) → locals_stmt (rest_stmt s) xs ≡ locals_stmt s xs
  locals-stmt break xs = refl
  locals-stmt continue xs = refl
  locals-stmt pass xs = refl
  locals-stmt (expr e) xs = refl
  locals-stmt (return e) xs = refl
  locals-stmt (assign t v) xs = refl
  locals-stmt (if bs) xs = locals-branches bs xs
  locals-stmt (while c b) xs = locals-block b xs
  locals-stmt (for x e b) xs = locals-block b _
  locals-stmt (def x ps b) xs = refl
  locals-stmt (class x ms vs) xs = refl

  pub locals-block : (b : Block) (xs : List Name) → locals_block (rest b) xs ≡ locals_block b xs
  locals-block []ᵇ xs = refl
  locals-block (s ∷ᵇ b) xs = locals-joined (rest_stmt s) (rest b) xs ∙ locals-block b (locals_stmt (rest_stmt s) xs) ∙ ap (locals_block b) (locals-stmt s xs)

  pub locals-branches : (r : Branches) (xs : List Name) → locals_branches (rest_branches r) xs ≡ locals_branches r xs
  locals-branches done xs = refl
  locals-branches (else b) xs = locals-block b xs
  locals-branches (when c b r) xs = locals-branches r (locals_block (rest b) xs) ∙ ap (locals_branches r) (locals-block b xs)

loops-joined : (s : Stmt) (b : Block) → loops_block (joined s b) ≡ loops_stmt s + loops_block b
unfolding joined is_pass loops_block loops_stmt
loops-joined break b = refl
loops-joined continue b = refl
loops-joined pass b = omega arith
loops-joined (expr e) b = refl
loops-joined (return e) b = refl
loops-joined (assign t v) b = refl
loops-joined (if bs) b = refl
loops-joined (while c d) b = refl
loops-joined (for x e d) b = refl
loops-joined (def x ps d) b = refl
loops-joined (class x ms vs) b = refl

mutual
  unfolding rest_stmt rest rest_branches loops_stmt loops_block loops_branches

  pub loops-stmt : (s : Stmt) → loops_stmt (rest_stmt s) ≡ loops_stmt s
  loops-stmt break = refl
  loops-stmt continue = refl
  loops-stmt pass = refl
  loops-stmt (expr e) = refl
  loops-stmt (return e) = refl
  loops-stmt (assign t v) = refl
  loops-stmt (if bs) = loops-branches bs
  loops-stmt (while c b) = loops-block b
  loops-stmt (for x e b) = ap (λ (n : ℕ). 1 + n) (loops-block b)
  loops-stmt (def x ps b) = refl
  loops-stmt (class x ms vs) = refl

  pub loops-block : (b : Block) → loops_block (rest b) ≡ loops_block b
  loops-block []ᵇ = refl
  loops-block (s ∷ᵇ b) = loops-joined (rest_stmt s) (rest b) ∙ rw (loops-stmt s, loops-block b)

  pub loops-branches : (r : Branches) → loops_branches (rest_branches r) ≡ loops_branches r
  loops-branches done = refl
  loops-branches (else b) = loops-block b
  loops-branches (when c b r) = rw (loops-block b, loops-branches r)

-- ---- questions

ask-joined : (q : ℕ) (l : Bool) (s : Stmt) (b : Block) → ask_stmt q l s ≡ true → ask_block q l b ≡ true → ask_block q l (joined s b) ≡ true
unfolding joined is_pass ask_block
ask-joined q l break b e f = and e f
ask-joined q l continue b e f = and e f
ask-joined q l pass b e f = f
ask-joined q l (expr x) b e f = and e f
ask-joined q l (return x) b e f = and e f
ask-joined q l (assign t v) b e f = and e f
ask-joined q l (if bs) b e f = and e f
ask-joined q l (while c d) b e f = and e f
ask-joined q l (for x c d) b e f = and e f
ask-joined q l (def x ps d) b e f = and e f
ask-joined q l (class x ms vs) b e f = and e f

mutual
  unfolding rest_stmt rest rest_branches rest_methods ask_stmt ask_block ask_branches ask_methods all

  ask-stmt : (s : Stmt) (q : ℕ) (l : Bool) → ask_stmt q l s ≡ true → ask_stmt q l (rest_stmt s) ≡ true
  ask-stmt break q l e = e
  ask-stmt continue q l e = e
  ask-stmt pass q l e = e
  ask-stmt (expr x) q l e = e
  ask-stmt (return x) q l e = e
  ask-stmt (assign t v) q l e = e
  ask-stmt (if bs) q l e = ask-branches bs q l e
  ask-stmt (while c b) q l e = and (left (ask_expr q c) _ e) (ask-block b q true (right (ask_expr q c) _ e))
  ask-stmt (for x c b) q l e = and (left (ask_name q x && ask_expr q c) _ e) (ask-block b q true (right (ask_name q x && ask_expr q c) _ e))
  ask-stmt (def x ps b) q l e = and (left (ask_name q x && ask_params q ps) _ e) (ask-block b q false (right (ask_name q x && ask_params q ps) _ e))
  ask-stmt (class x ms vs) q l e =
      let u = both (ask_name q x) (ask_methods q ms) (left (ask_name q x && ask_methods q ms) (all (ask_attribute q) vs) e) in
      and (and u.0 (ask-methods ms q u.1)) refl

  pub ask-block : (b : Block) (q : ℕ) (l : Bool) → ask_block q l b ≡ true → ask_block q l (rest b) ≡ true
  ask-block []ᵇ q l e = e
  ask-block (s ∷ᵇ b) q l e = ask-joined q l (rest_stmt s) (rest b) (ask-stmt s q l (left (ask_stmt q l s) _ e)) (ask-block b q l (right (ask_stmt q l s) _ e))

  ask-branches : (r : Branches) (q : ℕ) (l : Bool) → ask_branches q l r ≡ true → ask_branches q l (rest_branches r) ≡ true
  ask-branches done q l e = e
  ask-branches (else b) q l e = ask-block b q l e
  ask-branches (when c b r) q l e =
      let u = both (ask_expr q c && ask_block q l b) (ask_branches q l r) e in
      and (and (left (ask_expr q c) _ u.0) (ask-block b q l (right (ask_expr q c) _ u.0))) (ask-branches r q l u.1)

  ask-methods : (ms : Methods) (q : ℕ) → ask_methods q ms ≡ true → ask_methods q (rest_methods ms) ≡ true
  ask-methods []ᵐ q e = e
  ask-methods (method x ps b ms) q e =
      let u = both (ask_method q x ps && ask_block q false b) (ask_methods q ms) e in
      and (and (left (ask_method q x ps) _ u.0) (ask-block b q false (right (ask_method q x ps) _ u.0))) (ask-methods ms q u.1)

-- where no question is answered no, and each is answered yes that was, none is
pub none-no : (f g : ℕ → Bool) → ((q : ℕ) → f q ≡ true → g q ≡ true) → (qs : List ℕ) → first_no f qs ≡ none → first_no g qs ≡ none
unfolding first_no
none-no f g h [] e = refl
none-no f g h (q ∷ qs) e = go (f q) (g q) (h q) (none-no f g h qs) e
  where
    go : (c d : Bool) → (c ≡ true → d ≡ true) → (first_no f qs ≡ none → first_no g qs ≡ none)
        → ◌≡◌ {A = Option ℕ} (elim c as (λ z. Option ℕ) [ true ↦ first_no f qs | false ↦ some q ]) none
        → ◌≡◌ {A = Option ℕ} (elim d as (λ z. Option ℕ) [ true ↦ first_no g qs | false ↦ some q ]) none
    go false d k r e = let z : ◌≡◌ {A = ℕ} 0 1 = cc in absurd (omega arith)
    go true true k r e = r e
    go true false k r e = let z : ◌≡◌ {A = ℕ} 0 1 = let w = k refl in cc in absurd (omega arith)

-- ---- the verdict on a block

-- the refusal by the first no, if any; else what follows
unfoldable pub verdict : Option ℕ → Answer Tables → Answer Tables
verdict none a = a
verdict (some q) a = refused q

unfoldable pub first_of : Block → Option ℕ
first_of b = first_no (λ q. ask_block q false b) block_questions

verdict-is : (l : Limits) (o : Option ℕ) (b : Block) → when_accepted (refused_by o b) (lower_formed l) ≡ verdict o (fits l (compile b).tables)
unfolding refused_by when_accepted lower_formed verdict
verdict-is l none b = refl
verdict-is l (some q) b = refl

pub lower-is : (l : Limits) (b : Block) → lower_block l b ≡ verdict (first_of b) (fits l (compile b).tables)
unfolding lower_block well_formed first_of
lower-is l b = verdict-is l (first_no (λ q. ask_block q false b) block_questions) b

-- an accepted block answers questions 7 to 13 yes, and its tables fit
pub verdict-accepted : (o : Option ℕ) (a : Answer Tables) (t : Tables) → verdict o a ≡ accepted t → (o ≡ none) × (a ≡ accepted t)
unfolding verdict
verdict-accepted none a t e = (refl, e)
verdict-accepted (some q) a t e = let z : ◌≡◌ {A = ℕ} 0 1 = cc in absurd (omega arith)

-- questions 7 to 13 of the rest
pub rest-none : (b : Block) → first_of b ≡ none → first_of (rest b) ≡ none
unfolding first_of
rest-none b e = none-no (λ q. ask_block q false b) (λ q. ask_block q false (rest b)) (λ q. ask-block b q false) block_questions e
