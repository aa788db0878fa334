-- What the code's literals stand for.
use Rattle.std.specs.Prelude.{ℕ, ◌+◌, ◌%◌, ◌<◌, ◌≡◌, not, cond, List, T, take, drop, get_or}
use Rattle.std.specs.Float.{binary64}
use Rattle.std.specs.Float.Ieee.{to_bits, is_nan}
use Rattle.std.specs.Int.{w64}
use Rattle.std.proofs.Common.{of_z}
use Rattle.definitions.specs.Tree
use Rattle.definitions.specs.Tree.{none_l, bool_l, int_l, float_l, string_l}
use Rattle.tree_view.specs.Places.{count_at}
use Rattle.tree_view.specs.ExprAt.{ExprReads}
use Rattle.exprs.specs.declared.literals.Literal.{Literal}
use Rattle.exprs.specs.declared.literals.Literal.TheVariants.{None, Bool as Truth, Int, Float, Nan, Text}

-- the paper's literal for each case: an integer's and a float's 64 bits, and of a string the bytes at its place in the tree t
unfoldable pub literal_of : List ℕ → Literal → Tree.Literal
literal_of t None = none_l
literal_of t (Truth b) = bool_l b
literal_of t (Int z) = int_l (of_z w64 z)
literal_of t (Float x) = float_l (to_bits binary64 x)
literal_of t (Nan bits) = float_l bits
literal_of t (Text start len) = string_l (take len (drop start t))

-- the byte of a literal's kind
unfoldable pub kind_byte : Literal → ℕ
kind_byte None = 0
kind_byte (Truth b) = cond b 2 1
kind_byte (Int z) = 3
kind_byte (Float x) = 4
kind_byte (Nan bits) = 4
kind_byte (Text start len) = 5

-- a float in the case `Float` is no NaN, and the bits in the case `Nan` are a NaN's: above those of infinity, but for the sign
unfoldable pub PlainLiteral : Literal → Type 0
PlainLiteral None = Unit {0}
PlainLiteral (Truth b) = Unit {0}
PlainLiteral (Int z) = Unit {0}
PlainLiteral (Float x) = T (not (is_nan x))
PlainLiteral (Nan bits) = 9218868437227405312 < bits % 9223372036854775808
PlainLiteral (Text start len) = Unit {0}

-- a string's place in the tree: its bytes stand behind the kind byte at p and the count, and are as many as it counts
unfoldable pub TextPlace : List ℕ → ℕ → Literal → Type 0
TextPlace t p None = Unit {0}
TextPlace t p (Truth b) = Unit {0}
TextPlace t p (Int z) = Unit {0}
TextPlace t p (Float x) = Unit {0}
TextPlace t p (Nan bits) = Unit {0}
TextPlace t p (Text start len) = (start ≡ p + 3) × (len ≡ count_at t (p + 1))

-- the 64 bits of an integer or a float; 0 for the others
unfoldable pub bits_of : Literal → ℕ
bits_of None = 0
bits_of (Truth b) = 0
bits_of (Int z) = of_z w64 z
bits_of (Float x) = to_bits binary64 x
bits_of (Nan bits) = bits
bits_of (Text start len) = 0

-- a literal stands at p: it holds no expression, so one level is enough to read it
pub record LiteralAt (t : List ℕ) (p : ℕ) : Type 0 where
  pub reads : ExprReads 1 t p
  pub kind : get_or t p 0 < 6

-- the code's literal l is the paper's x, and plain
pub record LiteralStands (t : List ℕ) (l : Literal) (x : Tree.Literal) : Type 0 where
  pub is : literal_of t l ≡ x
  pub plain : PlainLiteral l
