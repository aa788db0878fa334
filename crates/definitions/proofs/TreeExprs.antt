-- The bytes of an expression that was read are the writer's, and read back.
use mathlib.Core.Path.{◌≡◌, refl, ap}
use mathlib.Core.Bool.{true, false}
use mathlib.Core.List.{List, [], ◌∷◌, ◌++◌, append-nil, map}
use Prim.Native.Nat.{ℕ, zero, suc, ◌*◌, ◌/◌}
use native.Mathlib.Omega.{arith}
use Rattle.definitions.specs.Bytes.{Parser, give, counted}
use Rattle.definitions.specs.Tree.{binary_number, none_l, bool_l, int_l, float_l, string_l}
use Rattle.definitions.specs.Tree.{Display, list_d, tuple_d, dict_d, set_d, tree_set_d, Expr, lit, var, call, attr, display, index, lambda}
use Rattle.definitions.specs.Tree.{Exprs, []ᵉ, count}
use Rattle.definitions.specs.Parse.{by_kind, choice, exprs_of, display_of, unary_kinds, binary_kinds, expr_kinds, parse_expr}
use Rattle.definitions.specs.Lower.{display_size}
use Rattle.definitions.specs.TreeBytes.{unary_number, logical_number, display_kind, literal_bytes, expr_bytes, exprs_bytes}
use Rattle.definitions.proofs.Writes.{Writes, writes-give, writes-bind, writes-field}
use Rattle.definitions.proofs.Readback.{Reads, reads-give, reads-bind, reads-last, reads-field}
use Rattle.definitions.proofs.TreeReads.{Both, Kinds, no_kinds, kind, writes-kinds, reads-kind, writes-deep, both-name, both-text, both-params}

-- ---- operators

record UnaryIs (op : Expr → Expr) (xs : List ℕ) : Type 0 where
  number : ℕ
  bytes : xs ≡ number ∷ []
  back : Reads (choice unary_kinds) (number ∷ []) op
  joins : (e : Expr) → expr_bytes (op e) ≡ 7 ∷ number ∷ expr_bytes e

writes-unary : Writes UnaryIs (choice unary_kinds)
unfolding choice unary_kinds expr_bytes unary_number
writes-unary = writes-kinds
    (kind 0 (writes-give _ (record { number = 0; bytes = refl; back = reads-kind (map give unary_kinds) 0 (reads-give _); joins = λ e. refl }))
    (kind 1 (writes-give _ (record { number = 1; bytes = refl; back = reads-kind (map give unary_kinds) 1 (reads-give _); joins = λ e. refl }))
    (kind 2 (writes-give _ (record { number = 2; bytes = refl; back = reads-kind (map give unary_kinds) 2 (reads-give _); joins = λ e. refl }))
    no_kinds)))

record BinaryIs (op : Expr → Expr → Expr) (xs : List ℕ) : Type 0 where
  number : ℕ
  bytes : xs ≡ number ∷ []
  back : Reads (choice binary_kinds) (number ∷ []) op
  joins : (l r : Expr) → expr_bytes (op l r) ≡ 8 ∷ number ∷ expr_bytes l ++ expr_bytes r

writes-binary : Writes BinaryIs (choice binary_kinds)
unfolding choice binary_kinds expr_bytes binary_number logical_number
writes-binary = writes-kinds
    (kind 0 (writes-give _ (record { number = 0; bytes = refl; back = reads-kind (map give binary_kinds) 0 (reads-give _); joins = λ l r. refl }))
    (kind 1 (writes-give _ (record { number = 1; bytes = refl; back = reads-kind (map give binary_kinds) 1 (reads-give _); joins = λ l r. refl }))
    (kind 2 (writes-give _ (record { number = 2; bytes = refl; back = reads-kind (map give binary_kinds) 2 (reads-give _); joins = λ l r. refl }))
    (kind 3 (writes-give _ (record { number = 3; bytes = refl; back = reads-kind (map give binary_kinds) 3 (reads-give _); joins = λ l r. refl }))
    (kind 4 (writes-give _ (record { number = 4; bytes = refl; back = reads-kind (map give binary_kinds) 4 (reads-give _); joins = λ l r. refl }))
    (kind 5 (writes-give _ (record { number = 5; bytes = refl; back = reads-kind (map give binary_kinds) 5 (reads-give _); joins = λ l r. refl }))
    (kind 6 (writes-give _ (record { number = 6; bytes = refl; back = reads-kind (map give binary_kinds) 6 (reads-give _); joins = λ l r. refl }))
    (kind 7 (writes-give _ (record { number = 7; bytes = refl; back = reads-kind (map give binary_kinds) 7 (reads-give _); joins = λ l r. refl }))
    (kind 8 (writes-give _ (record { number = 8; bytes = refl; back = reads-kind (map give binary_kinds) 8 (reads-give _); joins = λ l r. refl }))
    (kind 9 (writes-give _ (record { number = 9; bytes = refl; back = reads-kind (map give binary_kinds) 9 (reads-give _); joins = λ l r. refl }))
    (kind 10 (writes-give _ (record { number = 10; bytes = refl; back = reads-kind (map give binary_kinds) 10 (reads-give _); joins = λ l r. refl }))
    (kind 11 (writes-give _ (record { number = 11; bytes = refl; back = reads-kind (map give binary_kinds) 11 (reads-give _); joins = λ l r. refl }))
    (kind 12 (writes-give _ (record { number = 12; bytes = refl; back = reads-kind (map give binary_kinds) 12 (reads-give _); joins = λ l r. refl }))
    (kind 13 (writes-give _ (record { number = 13; bytes = refl; back = reads-kind (map give binary_kinds) 13 (reads-give _); joins = λ l r. refl }))
    no_kinds))))))))))))))

-- ---- n expressions

record Several (p : Parser Expr) (n : ℕ) (es : Exprs) (xs : List ℕ) : Type 0 where
  bytes : xs ≡ exprs_bytes es
  counts : count es ≡ n
  back : Reads (exprs_of p n) (exprs_bytes es) es

writes-several : {p : Parser Expr} → Writes (Both p expr_bytes) p → (n : ℕ) → Writes (Several p n) (exprs_of p n)
unfolding exprs_of counted exprs_bytes count
writes-several P zero = writes-give []ᵉ (record { bytes = refl; counts = refl; back = reads-give []ᵉ })
writes-several P (suc n) =
    writes-bind _ P (λ e xs h.
    writes-bind _ (writes-several P n) (λ es ys k.
    writes-give _ (record {
      bytes = rw (h.bytes, k.bytes, append-nil);
      counts = ap suc k.counts;
      back = reads-bind _ h.back (reads-last _ k.back (reads-give _));
    })))

-- ---- the kinds

module _ (p : Parser Expr) (P : Writes (Both p expr_bytes) p) where
  -- what kind k reads
  OfKind : ℕ → Expr → List ℕ → Type 0
  OfKind k a ys = Both (by_kind (expr_kinds p)) expr_bytes a (k ∷ ys)

  writes-display : (k : Display) (m : ℕ) → display_kind k ≡ m → ((es : Exprs) → display_size k es ≡ count es)
      → ((bs : List ℕ) (a : Expr) → Reads (display_of p k) bs a → Reads (by_kind (expr_kinds p)) (m ∷ bs) a) → Writes (OfKind m) (display_of p k)
  unfolding OfKind display_of expr_bytes
  writes-display k m d c r =
      writes-bind _ (writes-field 2) (λ n xs h.
      writes-bind _ (writes-several P n) (λ es ys g.
      writes-give (display k es) (record {
        bytes = rw (h.0, g.bytes, append-nil, d, c, g.counts);
        back = rw (d, c, g.counts) (r _ _ (reads-bind _ (reads-field 2 n h.1) (reads-last _ g.back (reads-give _))));
      })))

  writes-expr_kinds : Kinds OfKind 0 (expr_kinds p)
  unfolding OfKind expr_kinds expr_bytes literal_bytes display_kind display_size
  writes-expr_kinds =
      let ks = expr_kinds p in
      kind 0 (writes-give (lit none_l) (record { bytes = refl; back = reads-kind ks 0 (reads-give _) }))
      (kind 1 (writes-give (lit (bool_l false)) (record { bytes = refl; back = reads-kind ks 1 (reads-give _) }))
      (kind 2 (writes-give (lit (bool_l true)) (record { bytes = refl; back = reads-kind ks 2 (reads-give _) }))
      (kind 3 (writes-bind _ (writes-field 8) (λ n xs h.
      writes-give (lit (int_l n)) (record { bytes = rw (h.0, append-nil); back = reads-kind ks 3 (reads-last _ (reads-field 8 n h.1) (reads-give _)) })))
      (kind 4 (writes-bind _ (writes-field 8) (λ n xs h.
      writes-give (lit (float_l n)) (record { bytes = rw (h.0, append-nil); back = reads-kind ks 4 (reads-last _ (reads-field 8 n h.1) (reads-give _)) })))
      (kind 5 (writes-bind _ both-text (λ s xs h.
      writes-give (lit (string_l s)) (record { bytes = rw (h.bytes, append-nil); back = reads-kind ks 5 (reads-last _ h.back (reads-give _)) })))
      (kind 6 (writes-bind _ both-name (λ x xs h.
      writes-give (var x) (record { bytes = rw (h.bytes, append-nil); back = reads-kind ks 6 (reads-last _ h.back (reads-give _)) })))
      (kind 7 (writes-bind _ writes-unary (λ op xs h. writes-bind _ P (λ e ys g.
      writes-give (op e) (record {
        bytes = rw (h.bytes, g.bytes, append-nil, h.joins e);
        back = rw (h.joins e) (reads-kind ks 7 (reads-bind _ h.back (reads-last _ g.back (reads-give _))));
      }))))
      (kind 8 (writes-bind _ writes-binary (λ op xs h. writes-bind _ P (λ l ys g. writes-bind _ P (λ r zs f.
      writes-give (op l r) (record {
        bytes = rw (h.bytes, g.bytes, f.bytes, append-nil, h.joins l r);
        back = rw (h.joins l r) (reads-kind ks 8 (reads-bind _ h.back (reads-bind _ g.back (reads-last _ f.back (reads-give _)))));
      })))))
      (kind 9 (writes-bind _ P (λ f xs h. writes-bind _ (writes-field 2) (λ n ys g. writes-bind _ (writes-several P n) (λ es zs k.
      writes-give (call f es) (record {
        bytes = rw (h.bytes, g.0, k.bytes, append-nil, k.counts);
        back = rw k.counts (reads-kind ks 9 (reads-bind _ h.back (reads-bind _ (reads-field 2 n g.1) (reads-last _ k.back (reads-give _)))));
      })))))
      (kind 10 (writes-bind _ P (λ o xs h. writes-bind _ both-name (λ x ys g.
      writes-give (attr o x) (record { bytes = rw (h.bytes, g.bytes, append-nil); back = reads-kind ks 10 (reads-bind _ h.back (reads-last _ g.back (reads-give _))) }))))
      (kind 11 (writes-display list_d 11 refl (λ es. refl) (λ bs a. reads-kind ks 11))
      (kind 12 (writes-bind _ (writes-field 2) (λ n xs h. writes-bind _ (writes-several P (2 * n)) (λ es ys k.
      let z : count es / 2 ≡ n = omega (arith, k.counts) in
      writes-give (display dict_d es) (record {
        bytes = rw (h.0, k.bytes, append-nil, z);
        back = rw z (reads-kind ks 12 (reads-bind _ (reads-field 2 n h.1) (reads-last _ k.back (reads-give _))));
      }))))
      (kind 13 (writes-display tuple_d 13 refl (λ es. refl) (λ bs a. reads-kind ks 13))
      (kind 14 (writes-display set_d 14 refl (λ es. refl) (λ bs a. reads-kind ks 14))
      (kind 15 (writes-display tree_set_d 15 refl (λ es. refl) (λ bs a. reads-kind ks 15))
      (kind 16 (writes-bind _ P (λ o xs h. writes-bind _ P (λ i ys g.
      writes-give (index o i) (record { bytes = rw (h.bytes, g.bytes, append-nil); back = reads-kind ks 16 (reads-bind _ h.back (reads-last _ g.back (reads-give _))) }))))
      (kind 17 (writes-bind _ both-params (λ ps xs h. writes-bind _ P (λ b ys g.
      writes-give (lambda ps b) (record { bytes = rw (h.bytes, g.bytes, append-nil); back = reads-kind ks 17 (reads-bind _ h.back (reads-last _ g.back (reads-give _))) }))))
      no_kinds)))))))))))))))))

  both-kinds : Writes (Both (by_kind (expr_kinds p)) expr_bytes) (by_kind (expr_kinds p))
  unfolding OfKind
  both-kinds = writes-kinds writes-expr_kinds

-- an expression with d levels left
pub both-expr : (d : ℕ) → Writes (Both (parse_expr d) expr_bytes) (parse_expr d)
unfolding parse_expr
both-expr zero = writes-deep
both-expr (suc d) = both-kinds (parse_expr d) (both-expr d)
