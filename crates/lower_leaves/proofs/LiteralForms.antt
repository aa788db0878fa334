-- A literal's end and code, by what it is.
use Prim.Native.Nat.{ℕ, zero, suc, ◌+◌, ◌-◌, ◌<◌, ◌≤◌}
use mathlib.Core.Path.{◌≡◌, refl, ap, ◌∙◌, subst}
use mathlib.Core.Bool.{Bool, true, false}
use mathlib.Core.Logic.{◌⊎◌, inl, inr}
use mathlib.Core.List.{List}
use native.Mathlib.Omega.{arith}
use lib.ListN.{length, get_or}
use Rattle.definitions.specs.Bytes.{Text}
use Rattle.definitions.specs.Tree as Tree
use Rattle.definitions.specs.Tree.{none_l, bool_l, int_l, float_l, string_l, Expr, lit}
use Rattle.definitions.specs.Instruction.{instr, ConstStr}
use lib.IntN.{ℤ}
use lib.Ieee.{Float}
use Rattle.definitions.specs.Tables.{Emit, one, get_or_add_string}
use Rattle.definitions.specs.Lower.{literal}
use Rattle.tree_view.specs.Places as Places
use Rattle.tree_view.specs.Places.{Node, node, count_at, CountThere}
use Rattle.tree_view.specs.ExprAt.{expr_at, int_at, float_at, string_at}
use Rattle.exprs.specs.Literals.{literal_of, kind_byte, TextPlace, LiteralAt}
use Rattle.exprs.specs.declared.literals.Literal.{Literal}
use Rattle.exprs.specs.declared.literals.Literal.TheVariants.{None, Bool as Truth, Int, Float as Double, Nan, Text as Bytestring}
use Rattle.tree_view.proofs.ExprViews.{expr-within, view-none, view-false, view-true, view-int, view-float, view-string}
use Rattle.state.specs.Words.{big_endian_at, text_at}
use Rattle.lower_forms.proofs.Constants.{text_same, eight-same}

-- ---- the literal l stands at p

pub record Stands (t : List ℕ) (p : ℕ) (l : Tree.Literal) : Type 0 where
  pub at : LiteralAt t p
  pub is : lit l ≡ (expr_at 1 t p).value

-- what the literal's bytes are, and where it ends
unfoldable pub Bytes : List ℕ → ℕ → Tree.Literal → Type 0
Bytes t p none_l = (expr_at 1 t p).end ≡ p + 1
Bytes t p (bool_l b) = (expr_at 1 t p).end ≡ p + 1
Bytes t p (int_l n) = ((expr_at 1 t p).end ≡ p + 9) × (n ≡ big_endian_at 8 t (p + 1))
Bytes t p (float_l n) = ((expr_at 1 t p).end ≡ p + 9) × (n ≡ big_endian_at 8 t (p + 1))
Bytes t p (string_l s) = CountThere t (p + 1) × ((expr_at 1 t p).end ≡ p + 3 + count_at t (p + 1)) × (s ≡ text_at t (p + 1))

module _ (t : List ℕ) (p : ℕ) (l : Tree.Literal) (h : Stands t p l) where
  -- by its node
  is-node : (m : Tree.Literal) (q : ℕ) → expr_at 1 t p ≡ node (lit m) q → l ≡ m
  is-node m q e = let z : lit l ≡ lit m = h.is ∙ ap (λ (x : Node Expr). x.value) e in cc

  ends : (m : Tree.Literal) (q : ℕ) → expr_at 1 t p ≡ node (lit m) q → (expr_at 1 t p).end ≡ q
  ends m q e = ap (λ (x : Node Expr). x.end) e

  pub literal-bytes : Bytes t p l
  unfolding Bytes int_at float_at string_at Places.text_node_at
  literal-bytes = go (get_or t p 0) refl h.at.kind
    where
      nine : p + 1 + 8 ≡ p + 9
      nine = omega arith

      three : p + 1 + 2 + count_at t (p + 1) ≡ p + 3 + count_at t (p + 1)
      three = omega arith

      go : (k : ℕ) → get_or t p 0 ≡ k → k < 6 → Bytes t p l
      go zero e k = let v = view-none 1 t p h.at.reads e in rw (is-node _ _ v) (ends _ _ v)
      go (suc zero) e k = let v = view-false 1 t p h.at.reads e in rw (is-node _ _ v) (ends _ _ v)
      go (suc (suc zero)) e k = let v = view-true 1 t p h.at.reads e in rw (is-node _ _ v) (ends _ _ v)
      go (suc (suc (suc zero))) e k = let v = view-int 1 t p h.at.reads e in rw (is-node _ _ v.is) (ends _ _ v.is ∙ nine, eight-same t (p + 1) v.parts)
      go (suc (suc (suc (suc zero)))) e k = let v = view-float 1 t p h.at.reads e in rw (is-node _ _ v.is) (ends _ _ v.is ∙ nine, eight-same t (p + 1) v.parts)
      go (suc (suc (suc (suc (suc zero))))) e k =
          let v = view-string 1 t p h.at.reads e in rw (is-node _ _ v.is) (v.parts.count, ends _ _ v.is ∙ three, text_same t (p + 1))
      go (suc (suc (suc (suc (suc (suc k)))))) e z = absurd (omega arith)

-- ---- the code of each case

pub constant_kind : (x : Literal) → (x ≡ None) ⊎ ((b : Bool) × (x ≡ Truth b)) → kind_byte x < 3
unfolding kind_byte
constant_kind x (inl z) = let e = ap kind_byte z in omega arith
constant_kind x (inr (false, z)) = let e = ap kind_byte z in omega arith
constant_kind x (inr (true, z)) = let e = ap kind_byte z in omega arith

module _ (t : List ℕ) (p : ℕ) (x : Literal) (h : LiteralAt t p) (e : lit (literal_of t x) ≡ (expr_at 1 t p).value) where
  bytes : Bytes t p (literal_of t x)
  bytes = literal-bytes t p (literal_of t x) (record { at = h; is = e })

  -- the case's code and end
  abbrev Is : Emit → ℕ → Type 0
  Is f q = (literal (literal_of t x) ≡ f) × ((expr_at 1 t p).end ≡ q)

  -- None, False or True: the opcode goes by the byte of the kind
  constant-at : (y : Literal) → x ≡ y → kind_byte y < 3 → Is (one (instr (5 - kind_byte y) 0 0)) (p + 1)
  unfolding literal_of literal kind_byte Bytes
  constant-at None z k = (ap (λ (y : Literal). literal (literal_of t y)) z, subst (λ (y : Literal). Bytes t p (literal_of t y)) z bytes)
  constant-at (Truth false) z k = (ap (λ (y : Literal). literal (literal_of t y)) z, subst (λ (y : Literal). Bytes t p (literal_of t y)) z bytes)
  constant-at (Truth true) z k = (ap (λ (y : Literal). literal (literal_of t y)) z, subst (λ (y : Literal). Bytes t p (literal_of t y)) z bytes)
  constant-at (Int n) z k = absurd (omega arith)
  constant-at (Double n) z k = absurd (omega arith)
  constant-at (Nan n) z k = absurd (omega arith)
  constant-at (Bytestring a n) z k = absurd (omega arith)

  pub constant-is : kind_byte x < 3 → Is (one (instr (5 - kind_byte x) 0 0)) (p + 1)
  constant-is k = constant-at x refl k

  pub int_is : (z : ℤ) → x ≡ Int z → Is (one (instr 0 (big_endian_at 8 t (p + 1)) 0)) (p + 9)
  unfolding literal_of literal Bytes
  int_is z w =
      let b = subst (λ (y : Literal). Bytes t p (literal_of t y)) w bytes in
      (ap (λ (y : Literal). literal (literal_of t y)) w ∙ ap (λ (n : ℕ). one (instr 0 n 0)) b.1, b.0)

  float_is : (z : Float) → x ≡ Double z → Is (one (instr 1 (big_endian_at 8 t (p + 1)) 0)) (p + 9)
  unfolding literal_of literal Bytes
  float_is z w =
      let b = subst (λ (y : Literal). Bytes t p (literal_of t y)) w bytes in
      (ap (λ (y : Literal). literal (literal_of t y)) w ∙ ap (λ (n : ℕ). one (instr 1 n 0)) b.1, b.0)

  nan_is : (n : ℕ) → x ≡ Nan n → Is (one (instr 1 (big_endian_at 8 t (p + 1)) 0)) (p + 9)
  unfolding literal_of literal Bytes
  nan_is n w =
      let b = subst (λ (y : Literal). Bytes t p (literal_of t y)) w bytes in
      (ap (λ (y : Literal). literal (literal_of t y)) w ∙ ap (λ (n : ℕ). one (instr 1 n 0)) b.1, b.0)

  -- a float that is a NaN or not
  pub double_is : ((z : Float) × (x ≡ Double z)) ⊎ ((n : ℕ) × (x ≡ Nan n)) → Is (one (instr 1 (big_endian_at 8 t (p + 1)) 0)) (p + 9)
  double_is (inl h) = float_is h.0 h.1
  double_is (inr h) = nan_is h.0 h.1

  pub text-is : (a n : ℕ) → x ≡ Bytestring a n → TextPlace t p x → (a ≡ p + 3) × (a + n ≤ length t) × Is (get_or_add_string (text_at t (a - 2)) (λ k. one (ConstStr k))) (a + n)
  unfolding literal_of literal Bytes TextPlace
  text-is a n w q =
      let b = subst (λ (y : Literal). Bytes t p (literal_of t y)) w bytes in
      let s = subst (λ (y : Literal). TextPlace t p y) w q in
      let from = s.0 in
      let long = s.1 in
      let u : p + 1 ≡ a - 2 = omega arith in
      let v : p + 3 + count_at t (p + 1) ≡ a + n = omega arith in (
        from,
        subst (λ (m : ℕ). m ≤ length t) (b.1 ∙ v) (expr-within 1 t p h.reads),
        (ap (λ (y : Literal). literal (literal_of t y)) w ∙ ap (λ (z : Text). get_or_add_string z (λ k. one (ConstStr k))) (b.2 ∙ ap (text_at t) u), b.1 ∙ v),
      )
