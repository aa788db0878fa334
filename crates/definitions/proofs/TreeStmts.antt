-- The bytes of a statement that was read are the writer's, and read back; so do those of its rest.
use mathlib.Core.Path.{◌≡◌, refl, sym, ap}
use mathlib.Core.List.{List, [], ◌∷◌, ◌++◌, append-nil}
use Prim.Native.Nat.{ℕ, zero, suc, ◌<◌, ◌≤◌}
use native.Mathlib.Omega.{arith}
use Rattle.definitions.specs.Bytes.{Name, name, Parser, ◌>>=◌, give, counted, list_of, be, list_bytes}
use Rattle.definitions.specs.Tree.{Expr, Attribute, Stmt, break, continue, pass, expr, return, assign, if, while, for, def, class}
use Rattle.definitions.specs.Tree.{Block, []ᵇ, ◌∷ᵇ◌, Branches, done, else, when, Methods, []ᵐ, method}
use Rattle.definitions.specs.Parse.{by_kind, params, block_of, branches, methods, attribute, stmt_kinds, parse_expr, parse_stmt}
use Rattle.definitions.specs.Module.{name_bytes}
use Rattle.definitions.specs.TreeBytes.{size, elifs, method_count, expr_bytes, params_bytes, attribute_bytes, stmt_bytes, block_bytes, stmts_bytes, if_bytes, branches_bytes, methods_bytes}
use Rattle.definitions.specs.Rests.{is_pass, joined, rest_stmt, rest, rest_branches, rest_methods}
use Rattle.definitions.proofs.Writes.{Writes, writes-give, writes-bind, writes-weak, writes-field}
use Rattle.definitions.proofs.Readback.{Reads, no_back, reads-give, reads-bind, reads-last, reads-list, reads-field}
use Rattle.definitions.proofs.TreeReads.{Both, Kinds, no_kinds, kind, writes-kinds, reads-kind, writes-deep, both-list, both-name, both-params}
use Rattle.definitions.proofs.TreeExprs.{both-expr}

-- ---- each statement of a block

pub data Each (P : Stmt → Type 0) : Block → Type 0 where
  no_each : Each P []ᵇ
  each : {s : Stmt} {b : Block} → P s → Each P b → Each P (s ∷ᵇ b)

pub each-joined : {P : Stmt → Type 0} (s : Stmt) {b : Block} → P s → Each P b → Each P (joined s b)
unfolding joined is_pass
each-joined break p r = each p r
each-joined continue p r = each p r
each-joined pass p r = r
each-joined (expr e) p r = each p r
each-joined (return e) p r = each p r
each-joined (assign t v) p r = each p r
each-joined (if bs) p r = each p r
each-joined (while c d) p r = each p r
each-joined (for x e d) p r = each p r
each-joined (def x ps d) p r = each p r
each-joined (class x ms vs) p r = each p r

pub size-joined : (s : Stmt) (b : Block) → size (joined s b) ≤ suc (size b)
unfolding joined is_pass size
size-joined break b = omega arith
size-joined continue b = omega arith
size-joined pass b = omega arith
size-joined (expr e) b = omega arith
size-joined (return e) b = omega arith
size-joined (assign t v) b = omega arith
size-joined (if bs) b = omega arith
size-joined (while c d) b = omega arith
size-joined (for x e d) b = omega arith
size-joined (def x ps d) b = omega arith
size-joined (class x ms vs) b = omega arith

pub size-rest : (b : Block) → size (rest b) ≤ size b
unfolding size rest
size-rest []ᵇ = omega arith
size-rest (s ∷ᵇ b) = let z = size-rest b in let y = size-joined (rest_stmt s) (rest b) in omega arith

-- a block is its count and its statements
pub block-is : (b : Block) → block_bytes b ≡ be 2 (size b) ++ stmts_bytes b
unfolding block_bytes stmts_bytes size
block-is []ᵇ = sym (append-nil (be 2 0))
block-is (s ∷ᵇ b) = refl

-- ---- what is written reads back

pub record Legible (p : Parser Stmt) (s : Stmt) : Type 0 where
  pub back : Reads p (stmt_bytes s) s

reads-stmts : {p : Parser Stmt} {b : Block} → Each (Legible p) b → Reads (counted []ᵇ ◌∷ᵇ◌ p (size b)) (stmts_bytes b) b
unfolding counted stmts_bytes size
reads-stmts no_each = reads-give []ᵇ
reads-stmts (each l r) = reads-bind _ l.back (reads-last _ (reads-stmts r) (reads-give _))

pub reads-block : {p : Parser Stmt} (b : Block) → size b < 65536 → Each (Legible p) b → Reads (block_of p) (block_bytes b) b
unfolding block_of
reads-block b h r = rw (block-is b) (reads-bind _ (reads-field 2 (size b) h) (reads-stmts r))

-- ---- what is read

pub record StmtIs (p : Parser Stmt) (s : Stmt) (xs : List ℕ) : Type 0 where
  pub bytes : xs ≡ stmt_bytes s
  pub back : Reads p (stmt_bytes s) s
  pub rest_back : Reads p (stmt_bytes (rest_stmt s)) (rest_stmt s)

pub record StmtsIs (p : Parser Stmt) (n : ℕ) (b : Block) (xs : List ℕ) : Type 0 where
  pub bytes : xs ≡ stmts_bytes b
  pub counts : size b ≡ n
  pub reads : Each (Legible p) b
  pub rest_reads : Each (Legible p) (rest b)

pub record BlockIs (p : Parser Stmt) (b : Block) (xs : List ℕ) : Type 0 where
  pub bytes : xs ≡ block_bytes b
  pub few : size b < 65536
  pub reads : Each (Legible p) b
  pub rest_reads : Each (Legible p) (rest b)
  pub back : Reads (block_of p) (block_bytes b) b
  pub rest_back : Reads (block_of p) (block_bytes (rest b)) (rest b)

pub writes-stmts : {p : Parser Stmt} → Writes (StmtIs p) p → (n : ℕ) → Writes (StmtsIs p n) (counted []ᵇ ◌∷ᵇ◌ p n)
unfolding counted stmts_bytes size rest
writes-stmts P zero = writes-give []ᵇ (record { bytes = refl; counts = refl; reads = no_each; rest_reads = no_each })
writes-stmts P (suc n) =
    writes-bind _ P (λ s xs h.
    writes-bind _ (writes-stmts P n) (λ b ys k.
    writes-give _ (record {
      bytes = rw (h.bytes, k.bytes, append-nil);
      counts = ap suc k.counts;
      reads = each (record { back = h.back }) k.reads;
      rest_reads = each-joined (rest_stmt s) (record { back = h.rest_back }) k.rest_reads;
    })))

pub writes-block : {p : Parser Stmt} → Writes (StmtIs p) p → Writes (BlockIs p) (block_of p)
unfolding block_of
writes-block P =
    writes-bind _ (writes-field 2) (λ n xs h.
    writes-weak (λ b ys k.
    let few : size b < 65536 = rw k.counts h.1 in
    let z = size-rest b in
    record {
      bytes = rw (h.0, k.bytes, ← k.counts, ← block-is b);
      few = few;
      reads = k.reads;
      rest_reads = k.rest_reads;
      back = reads-block b few k.reads;
      rest_back = reads-block (rest b) (omega arith) k.rest_reads;
    }) (writes-stmts P n))

-- ---- branches

record ChainIs (e : Parser Expr) (p : Parser Stmt) (n : ℕ) (r : Branches) (xs : List ℕ) : Type 0 where
  bytes : xs ≡ branches_bytes r
  counts : elifs r ≡ n
  rest_counts : elifs (rest_branches r) ≡ n
  back : Reads (branches e p n) (branches_bytes r) r
  rest_back : Reads (branches e p n) (branches_bytes (rest_branches r)) (rest_branches r)

-- ---- methods

record MethodsIs (p : Parser Stmt) (n : ℕ) (ms : Methods) (xs : List ℕ) : Type 0 where
  bytes : xs ≡ methods_bytes ms
  counts : method_count ms ≡ n
  rest_counts : method_count (rest_methods ms) ≡ n
  back : Reads (methods p n) (methods_bytes ms) ms
  rest_back : Reads (methods p n) (methods_bytes (rest_methods ms)) (rest_methods ms)

module _ (e : Parser Expr) (E : Writes (Both e expr_bytes) e) (p : Parser Stmt) (P : Writes (StmtIs p) p) where
  reads-when : (n : ℕ) (c : Expr) (b : Block) (r : Branches) → Reads e (expr_bytes c) c → Reads (block_of p) (block_bytes b) b → Reads (branches e p n) (branches_bytes r) r
      → Reads (branches e p (suc n)) (branches_bytes (when c b r)) (when c b r)
  unfolding branches branches_bytes
  reads-when n c b r C B R = reads-bind _ C (reads-bind _ B (reads-last _ R (reads-give _)))

  ends : List (Parser Branches)
  ends = give done ∷ (block_of p >>= (λ b. give (else b))) ∷ []

  reads-done : Reads (branches e p 0) (branches_bytes done) done
  unfolding branches branches_bytes ends
  reads-done = reads-kind ends 0 (reads-give done)

  reads-else : (b : Block) → Reads (block_of p) (block_bytes b) b → Reads (branches e p 0) (branches_bytes (else b)) (else b)
  unfolding branches branches_bytes ends
  reads-else b B = reads-kind ends 1 (reads-last _ B (reads-give _))

  writes-ends : Kinds (λ k r ys. ChainIs e p 0 r (k ∷ ys)) 0 ends
  unfolding ends branches_bytes elifs rest_branches
  writes-ends =
      kind 0 (writes-give done (record { bytes = refl; counts = refl; rest_counts = refl; back = reads-done; rest_back = reads-done }))
      (kind 1 (writes-bind _ (writes-block P) (λ b xs h.
      writes-give (else b) (record { bytes = rw (h.bytes, append-nil); counts = refl; rest_counts = refl; back = reads-else b h.back; rest_back = reads-else (rest b) h.rest_back })))
      no_kinds)

  writes-branches : (n : ℕ) → Writes (ChainIs e p n) (branches e p n)
  unfolding branches ends branches_bytes elifs rest_branches
  writes-branches zero = writes-kinds writes-ends
  writes-branches (suc n) =
      writes-bind _ E (λ c xs h.
      writes-bind _ (writes-block P) (λ b ys k.
      writes-bind _ (writes-branches n) (λ r zs l.
      writes-give (when c b r) (record {
        bytes = rw (h.bytes, k.bytes, l.bytes, append-nil);
        counts = ap suc l.counts;
        rest_counts = ap suc l.rest_counts;
        back = reads-when n c b r h.back k.back l.back;
        rest_back = reads-when n c (rest b) (rest_branches r) h.back k.rest_back l.rest_back;
      }))))

  -- ---- methods

  reads-method : (n : ℕ) (x : Name) (ps : List Name) (b : Block) (ms : Methods) → Reads name (name_bytes x) x → Reads params (params_bytes ps) ps
      → Reads (block_of p) (block_bytes b) b → Reads (methods p n) (methods_bytes ms) ms → Reads (methods p (suc n)) (methods_bytes (method x ps b ms)) (method x ps b ms)
  unfolding methods methods_bytes
  reads-method n x ps b ms X Q B M = reads-bind _ X (reads-bind _ Q (reads-bind _ B (reads-last _ M (reads-give _))))

  writes-methods : (n : ℕ) → Writes (MethodsIs p n) (methods p n)
  unfolding methods methods_bytes method_count rest_methods
  writes-methods zero = writes-give []ᵐ (record { bytes = refl; counts = refl; rest_counts = refl; back = reads-give []ᵐ; rest_back = reads-give []ᵐ })
  writes-methods (suc n) =
      writes-bind _ both-name (λ x xs h.
      writes-bind _ both-params (λ ps ys g.
      writes-bind _ (writes-block P) (λ b zs k.
      writes-bind _ (writes-methods n) (λ ms us l.
      writes-give (method x ps b ms) (record {
        bytes = rw (h.bytes, g.bytes, k.bytes, l.bytes, append-nil);
        counts = ap suc l.counts;
        rest_counts = ap suc l.rest_counts;
        back = reads-method n x ps b ms h.back g.back k.back l.back;
        rest_back = reads-method n x ps (rest b) (rest_methods ms) h.back g.back k.rest_back l.rest_back;
      })))))

  both-attribute : Writes (Both (attribute e) attribute_bytes) (attribute e)
  unfolding attribute attribute_bytes
  both-attribute =
      writes-bind _ both-name (λ x xs h.
      writes-bind _ E (λ v ys k.
      writes-give (record { name = x; value = v }) (record { bytes = rw (h.bytes, k.bytes, append-nil); back = reads-bind _ h.back (reads-last _ k.back (reads-give _)) })))

  -- ---- the kinds

  kinds : List (Parser Stmt)
  kinds = stmt_kinds e p

  reads-if : (c : Expr) (b : Block) (r : Branches) → elifs r < 65536 → Reads e (expr_bytes c) c → Reads (block_of p) (block_bytes b) b → Reads (branches e p (elifs r)) (branches_bytes r) r
      → Reads (by_kind kinds) (stmt_bytes (if (when c b r))) (if (when c b r))
  unfolding kinds stmt_kinds stmt_bytes if_bytes
  reads-if c b r h C B R = reads-kind kinds 6 (reads-bind _ C (reads-bind _ B (reads-bind _ (reads-field 2 (elifs r) h) (reads-last _ R (reads-give _)))))

  reads-while : (c : Expr) (b : Block) → Reads e (expr_bytes c) c → Reads (block_of p) (block_bytes b) b → Reads (by_kind kinds) (stmt_bytes (while c b)) (while c b)
  unfolding kinds stmt_kinds stmt_bytes
  reads-while c b C B = reads-kind kinds 7 (reads-bind _ C (reads-last _ B (reads-give _)))

  reads-for : (x : Name) (c : Expr) (b : Block) → Reads name (name_bytes x) x → Reads e (expr_bytes c) c → Reads (block_of p) (block_bytes b) b → Reads (by_kind kinds) (stmt_bytes (for x c b)) (for x c b)
  unfolding kinds stmt_kinds stmt_bytes
  reads-for x c b X C B = reads-kind kinds 8 (reads-bind _ X (reads-bind _ C (reads-last _ B (reads-give _))))

  reads-def : (x : Name) (ps : List Name) (b : Block) → Reads name (name_bytes x) x → Reads params (params_bytes ps) ps → Reads (block_of p) (block_bytes b) b → Reads (by_kind kinds) (stmt_bytes (def x ps b)) (def x ps b)
  unfolding kinds stmt_kinds stmt_bytes
  reads-def x ps b X Q B = reads-kind kinds 9 (reads-bind _ X (reads-bind _ Q (reads-last _ B (reads-give _))))

  reads-class : (x : Name) (ms : Methods) (vs : List Attribute) → method_count ms < 65536 → Reads name (name_bytes x) x → Reads (methods p (method_count ms)) (methods_bytes ms) ms
      → Reads (list_of 2 (attribute e)) (list_bytes 2 attribute_bytes vs) vs → Reads (by_kind kinds) (stmt_bytes (class x ms vs)) (class x ms vs)
  unfolding kinds stmt_kinds stmt_bytes
  reads-class x ms vs h X M W = reads-kind kinds 10 (reads-bind _ X (reads-bind _ (reads-field 2 (method_count ms) h) (reads-bind _ M (reads-last _ W (reads-give _)))))

  no-attributes : Reads (list_of 2 (attribute e)) (list_bytes 2 attribute_bytes []) []
  no-attributes = reads-list 2 (omega arith) no_back

  OfKind : ℕ → Stmt → List ℕ → Type 0
  OfKind k s ys = StmtIs (by_kind kinds) s (k ∷ ys)

  plain : (s : Stmt) (xs : List ℕ) → rest_stmt s ≡ s → xs ≡ stmt_bytes s → Reads (by_kind kinds) (stmt_bytes s) s → StmtIs (by_kind kinds) s xs
  plain s xs r e h = record { bytes = e; back = h; rest_back = rw r h }

  writes-stmt_kinds : Kinds OfKind 0 kinds
  unfolding OfKind kinds stmt_kinds stmt_bytes if_bytes rest_stmt rest_branches
  writes-stmt_kinds =
      kind 0 (writes-give break (plain break _ refl refl (reads-kind kinds 0 (reads-give _))))
      (kind 1 (writes-give continue (plain continue _ refl refl (reads-kind kinds 1 (reads-give _))))
      (kind 2 (writes-give pass (plain pass _ refl refl (reads-kind kinds 2 (reads-give _))))
      (kind 3 (writes-bind _ E (λ x xs h. writes-give (expr x) (plain (expr x) _ refl (rw (h.bytes, append-nil)) (reads-kind kinds 3 (reads-last _ h.back (reads-give _))))))
      (kind 4 (writes-bind _ E (λ x xs h. writes-give (return x) (plain (return x) _ refl (rw (h.bytes, append-nil)) (reads-kind kinds 4 (reads-last _ h.back (reads-give _))))))
      (kind 5 (writes-bind _ E (λ t xs h. writes-bind _ E (λ v ys k.
      writes-give (assign t v) (plain (assign t v) _ refl (rw (h.bytes, k.bytes, append-nil)) (reads-kind kinds 5 (reads-bind _ h.back (reads-last _ k.back (reads-give _))))))))
      (kind 6 (writes-bind _ E (λ c xs h. writes-bind _ (writes-block P) (λ b ys k. writes-bind _ (writes-field 2) (λ n zs f. writes-bind _ (writes-branches n) (λ r us l.
      let few : elifs r < 65536 = rw l.counts f.1 in
      let fewer : elifs (rest_branches r) < 65536 = rw l.rest_counts f.1 in
      writes-give (if (when c b r)) (record {
        bytes = rw (h.bytes, k.bytes, f.0, l.bytes, append-nil, l.counts);
        back = reads-if c b r few h.back k.back (rw l.counts l.back);
        rest_back = reads-if c (rest b) (rest_branches r) fewer h.back k.rest_back (rw l.rest_counts l.rest_back);
      }))))))
      (kind 7 (writes-bind _ E (λ c xs h. writes-bind _ (writes-block P) (λ b ys k.
      writes-give (while c b) (record { bytes = rw (h.bytes, k.bytes, append-nil); back = reads-while c b h.back k.back; rest_back = reads-while c (rest b) h.back k.rest_back }))))
      (kind 8 (writes-bind _ both-name (λ x xs h. writes-bind _ E (λ c ys g. writes-bind _ (writes-block P) (λ b zs k.
      writes-give (for x c b) (record { bytes = rw (h.bytes, g.bytes, k.bytes, append-nil); back = reads-for x c b h.back g.back k.back; rest_back = reads-for x c (rest b) h.back g.back k.rest_back })))))
      (kind 9 (writes-bind _ both-name (λ x xs h. writes-bind _ both-params (λ ps ys g. writes-bind _ (writes-block P) (λ b zs k.
      writes-give (def x ps b) (record { bytes = rw (h.bytes, g.bytes, k.bytes, append-nil); back = reads-def x ps b h.back g.back k.back; rest_back = reads-def x ps (rest b) h.back g.back k.rest_back })))))
      (kind 10 (writes-bind _ both-name (λ x xs h. writes-bind _ (writes-field 2) (λ n ys f. writes-bind _ (writes-methods n) (λ ms zs l. writes-bind _ (both-list 2 both-attribute) (λ vs us v.
      let few : method_count ms < 65536 = rw l.counts f.1 in
      let fewer : method_count (rest_methods ms) < 65536 = rw l.rest_counts f.1 in
      writes-give (class x ms vs) (record {
        bytes = rw (h.bytes, f.0, l.bytes, v.bytes, append-nil, l.counts);
        back = reads-class x ms vs few h.back (rw l.counts l.back) v.back;
        rest_back = reads-class x (rest_methods ms) [] fewer h.back (rw l.rest_counts l.rest_back) no-attributes;
      }))))))
      no_kinds))))))))))

  writes-kind_s : Writes (StmtIs (by_kind kinds)) (by_kind kinds)
  unfolding OfKind
  writes-kind_s = writes-kinds writes-stmt_kinds

-- a statement with d levels left
pub writes-stmt : (d : ℕ) → Writes (StmtIs (parse_stmt d)) (parse_stmt d)
unfolding parse_stmt kinds
writes-stmt zero = writes-deep
writes-stmt (suc d) = writes-kind_s (parse_expr d) (both-expr d) (parse_stmt d) (writes-stmt d)

-- the attributes of a class
pub both-attributes : (d : ℕ) → Writes (Both (list_of 2 (attribute (parse_expr d))) (list_bytes 2 attribute_bytes)) (list_of 2 (attribute (parse_expr d)))
both-attributes d = both-list 2 (both-attribute (parse_expr d) (both-expr d) (parse_stmt d) (writes-stmt d))
