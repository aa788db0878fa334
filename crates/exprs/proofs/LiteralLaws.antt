-- Literals by their kind bytes, and numbers of eight bytes. Assumes nothing.
use Prim.Native.Nat.{ℕ, zero, suc, ◌+◌, ◌*◌, ◌-◌, ◌%◌, ◌<◌, ◌≤◌}
use mathlib.Core.Path.{◌≡◌, refl, sym, ap, ◌∙◌}
use mathlib.Core.Bool.{Bool, true, false, not}
use mathlib.Core.List.{List, [], ◌∷◌}
use mathlib.Core.Logic.{◌⊎◌, inl, inr}
use native.Mathlib.Omega.{arith}
use lib.Dec.{T}
use lib.Ieee.{binary64, is_nan, of_bits}
use lib.ListN.{length, take, drop, get_or}
use borrow.Author.Rules.{const_no_nan}
use borrow.Author.Tests.{le-ltb}
use Rattle.std.specs.Int.{w64, from_be_bytes}
use Rattle.definitions.specs.Bytes.{Parser, got, give, unread, byte, field, ◌>>=◌}
use Rattle.definitions.specs.Parse.{by_kind, expr_kinds, parse_expr}
use Rattle.definitions.specs.Tree.{none_l, int_l, float_l, string_l, Expr, lit}
use Rattle.numerals.specs.Kinds.{expr_byte}
use Rattle.numerals.specs.declared.kinds.ExprKind.{ExprKind}
use Rattle.numerals.specs.declared.kinds.ExprKind.TheVariants.{Int as IntKind, Float as FloatKind}
use Rattle.tree_view.specs.Places.{Node, node_of, node_at, is_got, count_at, CountThere, eight_at, text_node_at}
use Rattle.tree_view.proofs.Laws.{at_byte, kind-of}
use Rattle.tree_view.proofs.Nodes.{Seen, got-node}
use Rattle.tree_view.specs.ExprAt.{expr_at, ExprReads, int_at, float_at, string_at}
use Rattle.exprs.specs.Literals.{literal_of, kind_byte, PlainLiteral, TextPlace, bits_of, LiteralAt, LiteralStands}
use Rattle.exprs.specs.declared.literals.Literal.{Literal}
use Rattle.exprs.specs.declared.literals.Literal.TheVariants.{None, Bool as Truth, Int, Float, Nan, Text}
use Rattle.tree_view.proofs.ExprLaws.{deep-E}
use Rattle.tree_view.proofs.ExprViews.{expr-deep, expr-inside, view-none, view-false, view-true, view-int, view-float, view-string}

-- ---- a number of eight bytes, two at a time

next : (p k : ℕ) → p + k + 1 ≡ p + (k + 1)
next p k = omega arith

field-eight : (a b c d e f g h : ℕ) (bs : List ℕ) → field 8 (a ∷ b ∷ c ∷ d ∷ e ∷ f ∷ g ∷ h ∷ bs)
    ≡ got ((((a * 256 + b) * 65536 + (c * 256 + d)) * 65536 + (e * 256 + f)) * 65536 + (g * 256 + h)) bs
unfolding field byte ◌>>=◌ give
field-eight a b c d e f g h bs = ap (λ (n : ℕ). got n bs) (omega arith)

byte_at : (t : List ℕ) (p k : ℕ) → p + k < length t → drop (p + k) t ≡ get_or t (p + k) 0 ∷ drop (p + (k + 1)) t
byte_at t p k h = at_byte t (p + k) h ∙ ap (λ (m : ℕ). get_or t (p + k) 0 ∷ drop m t) (next p k)

eight-bytes : (t : List ℕ) (p : ℕ) → p + 8 ≤ length t → drop p t
    ≡ get_or t p 0 ∷ get_or t (p + 1) 0 ∷ get_or t (p + 2) 0 ∷ get_or t (p + 3) 0 ∷ get_or t (p + 4) 0 ∷ get_or t (p + 5) 0 ∷ get_or t (p + 6) 0 ∷ get_or t (p + 7) 0 ∷ drop (p + 8) t
eight-bytes t p h =
    at_byte t p (omega arith) ∙ ap (λ (x : List ℕ). get_or t p 0 ∷ x) (byte_at t p 1 (omega arith) ∙ ap (λ (x : List ℕ). get_or t (p + 1) 0 ∷ x) (byte_at t p 2 (omega arith)
    ∙ ap (λ (x : List ℕ). get_or t (p + 2) 0 ∷ x) (byte_at t p 3 (omega arith) ∙ ap (λ (x : List ℕ). get_or t (p + 3) 0 ∷ x) (byte_at t p 4 (omega arith)
    ∙ ap (λ (x : List ℕ). get_or t (p + 4) 0 ∷ x) (byte_at t p 5 (omega arith) ∙ ap (λ (x : List ℕ). get_or t (p + 5) 0 ∷ x) (byte_at t p 6 (omega arith)
    ∙ ap (λ (x : List ℕ). get_or t (p + 6) 0 ∷ x) (byte_at t p 7 (omega arith))))))))

-- eight bytes, the greatest first
big : (a b c d e f g h : ℕ) → from_be_bytes w64 (a ∷ b ∷ c ∷ d ∷ e ∷ f ∷ g ∷ h ∷ []) ≡ (((a * 256 + b) * 65536 + (c * 256 + d)) * 65536 + (e * 256 + f)) * 65536 + (g * 256 + h)
big a b c d e f g h = omega arith

pub eight_is : (t xs : List ℕ) (p n : ℕ) → p + 8 ≤ length t → xs ≡ take (p + 8 - p) (drop p t) → n ≡ from_be_bytes w64 xs → n ≡ eight_at t p
unfolding eight_at
eight_is t xs p n h e f =
    let part : xs ≡ get_or t p 0 ∷ get_or t (p + 1) 0 ∷ get_or t (p + 2) 0 ∷ get_or t (p + 3) 0 ∷ get_or t (p + 4) 0 ∷ get_or t (p + 5) 0 ∷ get_or t (p + 6) 0 ∷ get_or t (p + 7) 0 ∷ [] =
    e ∙ ap (λ (k : ℕ). take k (drop p t)) (let z : p + 8 - p ≡ 8 = omega arith in z) ∙ ap (take 8) (eight-bytes t p h) in
    f ∙ ap (from_be_bytes w64) part ∙ big _ _ _ _ _ _ _ _
    ∙ sym (ap (λ (x : Node ℕ). x.value) (got-node 0 (field 8) t p _ (p + 8) h (ap (field 8) (eight-bytes t p h) ∙ field-eight _ _ _ _ _ _ _ _ (drop (p + 8) t))))

-- no number's bits
pub no-bits : (x : Literal) → (x ≡ None) ⊎ (((b : Bool) × (x ≡ Truth b)) ⊎ ((s : ℕ) × (n : ℕ) × (x ≡ Text s n))) → 0 ≡ bits_of x
unfolding bits_of
no-bits x (inl e) = sym (ap bits_of e)
no-bits x (inr (inl e)) = sym (ap bits_of e.1)
no-bits x (inr (inr e)) = sym (ap bits_of e.2)

-- ---- a pattern whose bits but the sign's are not above an infinity's is no NaN's

pub no_nan : (n : ℕ) → n % 0x8000_0000_0000_0000 ≤ 0x7ff0_0000_0000_0000 → T (not (is_nan (of_bits binary64 n)))
no_nan n h = const_no_nan binary64 n (rw (le-ltb 0x7ff0_0000_0000_0000 (n % 0x8000_0000_0000_0000) h) tt)

-- ---- the kinds

module _ (t : List ℕ) (p : ℕ) (h : LiteralAt t p) where
  pub literal-inside : p < length t
  literal-inside = expr-inside 1 t p h.reads

  pub eight-of-int : get_or t p 0 ≡ 3 → p + 1 + 8 ≤ length t
  eight-of-int e = (view-int 1 t p h.reads e).parts

  pub eight-of-float : get_or t p 0 ≡ 4 → p + 1 + 8 ≤ length t
  eight-of-float e = (view-float 1 t p h.reads e).parts

  no-text-int : (l : Literal) (n : ℕ) → literal_of t l ≡ int_l n → TextPlace t p l
  unfolding literal_of TextPlace
  no-text-int None n e = tt
  no-text-int (Truth b) n e = tt
  no-text-int (Int z) n e = tt
  no-text-int (Float x) n e = tt
  no-text-int (Nan bits) n e = tt
  no-text-int (Text start len) n e = let z : ◌≡◌ {A = ℕ} 0 1 = cc in absurd (omega arith)

  no-text-float : (l : Literal) (n : ℕ) → literal_of t l ≡ float_l n → TextPlace t p l
  unfolding literal_of TextPlace
  no-text-float None n e = tt
  no-text-float (Truth b) n e = tt
  no-text-float (Int z) n e = tt
  no-text-float (Float x) n e = tt
  no-text-float (Nan bits) n e = tt
  no-text-float (Text start len) n e = let z : ◌≡◌ {A = ℕ} 0 1 = cc in absurd (omega arith)

  -- None, False or True, by the byte of its kind
  pub is-constant : (x : Literal) → kind_byte x ≡ get_or t p 0 → get_or t p 0 < 3 → (lit (literal_of t x) ≡ (expr_at 1 t p).value) × PlainLiteral x × TextPlace t p x
  unfolding kind_byte literal_of PlainLiteral TextPlace
  is-constant None e k = (sym (ap (λ (x : Node Expr). x.value) (view-none 1 t p h.reads (sym e))), tt, tt)
  is-constant (Truth false) e k = (sym (ap (λ (x : Node Expr). x.value) (view-false 1 t p h.reads (sym e))), tt, tt)
  is-constant (Truth true) e k = (sym (ap (λ (x : Node Expr). x.value) (view-true 1 t p h.reads (sym e))), tt, tt)
  is-constant (Int z) e k = absurd (omega arith)
  is-constant (Float x) e k = absurd (omega arith)
  is-constant (Nan bits) e k = absurd (omega arith)
  is-constant (Text start len) e k = absurd (omega arith)

  pub is-int : (l : Literal) (n : ℕ) → get_or t p 0 ≡ 3 → n ≡ eight_at t (p + 1) → ((t : List ℕ) → LiteralStands t l (int_l n)) → (lit (literal_of t l) ≡ (expr_at 1 t p).value) × PlainLiteral l × TextPlace t p l
  unfolding int_at
  is-int l n e f s = (ap lit ((s t).is ∙ ap int_l f) ∙ sym (ap (λ (x : Node Expr). x.value) (view-int 1 t p h.reads e).is), (s t).plain, no-text-int l n (s t).is)

  pub is-float : (l : Literal) (n : ℕ) → get_or t p 0 ≡ 4 → n ≡ eight_at t (p + 1) → ((t : List ℕ) → LiteralStands t l (float_l n)) → (lit (literal_of t l) ≡ (expr_at 1 t p).value) × PlainLiteral l × TextPlace t p l
  unfolding float_at
  is-float l n e f s = (ap lit ((s t).is ∙ ap float_l f) ∙ sym (ap (λ (x : Node Expr). x.value) (view-float 1 t p h.reads e).is), (s t).plain, no-text-float l n (s t).is)

  pub text-kind : (k : ExprKind) → expr_byte k ≡ get_or t p 0 → 2 < expr_byte k → (k ≡ IntKind → ⊥) → (k ≡ FloatKind → ⊥) → get_or t p 0 ≡ 5
  unfolding expr_byte
  text-kind k i a d e = let l = h.kind in grind arith

  module _ (e : get_or t p 0 ≡ 5) where
    pub text-counted : CountThere t (p + 1)
    text-counted = (view-string 1 t p h.reads e).parts.count

    pub is-text : (n : ℕ) → n ≡ count_at t (p + 1) → (lit (literal_of t (Text (p + 3) n)) ≡ (expr_at 1 t p).value) × PlainLiteral (Text (p + 3) n) × TextPlace t p (Text (p + 3) n)
    unfolding literal_of PlainLiteral TextPlace string_at text_node_at
    is-text n f = (
      ap (λ (k : ℕ). lit (string_l (take k (drop (p + 3) t)))) f
          ∙ ap (λ (k : ℕ). lit (string_l (take (count_at t (p + 1)) (drop k t)))) (let z : p + 3 ≡ p + 1 + 2 = omega arith in z)
          ∙ sym (ap (λ (x : Node Expr). x.value) (view-string 1 t p h.reads e).is),
      tt,
      (refl, f),
    )

-- ---- an expression whose kind is a literal's, with any number of levels left

same_kind : (e f : Parser Expr) (k : ℕ) → k < 6 → get_or (expr_kinds e) k unread ≡ get_or (expr_kinds f) k unread
unfolding expr_kinds
same_kind e f zero h = refl
same_kind e f (suc zero) h = refl
same_kind e f (suc (suc zero)) h = refl
same_kind e f (suc (suc (suc zero))) h = refl
same_kind e f (suc (suc (suc (suc zero)))) h = refl
same_kind e f (suc (suc (suc (suc (suc zero))))) h = refl
same_kind e f (suc (suc (suc (suc (suc (suc k)))))) h = absurd (omega arith)

module _ (d : ℕ) (t : List ℕ) (p : ℕ) (r : ExprReads d t p) (h : get_or t p 0 < 6) where
  one-level : parse_expr d (drop p t) ≡ parse_expr 1 (drop p t)
  unfolding parse_expr
  one-level =
      ap (λ (P : Parser Expr). P (drop p t)) (deep-E d (expr-deep d t p r))
      ∙ ap (by_kind (expr_kinds (parse_expr (d - 1)))) (at_byte t p (expr-inside d t p r)) ∙ kind-of (expr_kinds (parse_expr (d - 1))) (get_or t p 0) (drop (p + 1) t)
      ∙ ap (λ (P : Parser Expr). P (drop (p + 1) t)) (same_kind (parse_expr (d - 1)) (parse_expr 0) (get_or t p 0) h)
      ∙ sym (ap (by_kind (expr_kinds (parse_expr 0))) (at_byte t p (expr-inside d t p r)) ∙ kind-of (expr_kinds (parse_expr 0)) (get_or t p 0) (drop (p + 1) t))

  pub view-literal : Seen (LiteralAt t p) (expr_at d t p) (expr_at 1 t p)
  unfolding node_at
  view-literal = record {
    parts = record { reads = record { start = r.start; read = ap is_got (sym one-level) ∙ r.read }; kind = h };
    is = ap (node_of (lit none_l) t) one-level;
  }

-- ---- the bits of a number's literal

pub int-bits : (x : Literal) (n : ℕ) (t : List ℕ) → LiteralStands t x (int_l n) → bits_of x ≡ n
unfolding literal_of bits_of
int-bits None n t h = let k = h.is in let z : ◌≡◌ {A = ℕ} 0 1 = cc in absurd (omega arith)
int-bits (Truth b) n t h = let k = h.is in let z : ◌≡◌ {A = ℕ} 0 1 = cc in absurd (omega arith)
int-bits (Int z) n t h = let k = h.is in cc
int-bits (Float z) n t h = let k = h.is in let z : ◌≡◌ {A = ℕ} 0 1 = cc in absurd (omega arith)
int-bits (Nan b) n t h = let k = h.is in let z : ◌≡◌ {A = ℕ} 0 1 = cc in absurd (omega arith)
int-bits (Text s l) n t h = let k = h.is in let z : ◌≡◌ {A = ℕ} 0 1 = cc in absurd (omega arith)

pub float-bits : (x : Literal) (n : ℕ) (t : List ℕ) → LiteralStands t x (float_l n) → bits_of x ≡ n
unfolding literal_of bits_of
float-bits None n t h = let k = h.is in let z : ◌≡◌ {A = ℕ} 0 1 = cc in absurd (omega arith)
float-bits (Truth b) n t h = let k = h.is in let z : ◌≡◌ {A = ℕ} 0 1 = cc in absurd (omega arith)
float-bits (Int z) n t h = let k = h.is in let z : ◌≡◌ {A = ℕ} 0 1 = cc in absurd (omega arith)
float-bits (Float z) n t h = let k = h.is in cc
float-bits (Nan b) n t h = let k = h.is in cc
float-bits (Text s l) n t h = let k = h.is in let z : ◌≡◌ {A = ℕ} 0 1 = cc in absurd (omega arith)
