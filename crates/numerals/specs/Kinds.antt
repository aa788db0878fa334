-- The kinds of a tree's expressions and statements by their bytes.
use Rattle.std.specs.Prelude.{◌≡◌, ◌<◌, ℕ, Result, MatchResult}
use Rattle.numerals.specs.declared.kinds.ExprKind.{ExprKind}
use Rattle.numerals.specs.declared.kinds.ExprKind.TheVariants.{NoneLiteral, False, True, Int, Float, Text, Variable, Unary, Binary, Call, Attribute, List, Dict, Tuple, Set, TreeSet, Index, Lambda}
use Rattle.numerals.specs.declared.kinds.StmtKind.{StmtKind}
use Rattle.numerals.specs.declared.kinds.StmtKind.TheVariants.{Break, Continue, Pass, Expr, Return, Assign, If, While, For, Def, Class}
use Rattle.numerals.specs.declared.kinds.NoKind.{NoKind}

-- the byte of each kind
unfoldable pub expr_byte : ExprKind → ℕ
expr_byte NoneLiteral = 0
expr_byte False = 1
expr_byte True = 2
expr_byte Int = 3
expr_byte Float = 4
expr_byte Text = 5
expr_byte Variable = 6
expr_byte Unary = 7
expr_byte Binary = 8
expr_byte Call = 9
expr_byte Attribute = 10
expr_byte List = 11
expr_byte Dict = 12
expr_byte Tuple = 13
expr_byte Set = 14
expr_byte TreeSet = 15
expr_byte Index = 16
expr_byte Lambda = 17

unfoldable pub stmt_byte : StmtKind → ℕ
stmt_byte Break = 0
stmt_byte Continue = 1
stmt_byte Pass = 2
stmt_byte Expr = 3
stmt_byte Return = 4
stmt_byte Assign = 5
stmt_byte If = 6
stmt_byte While = 7
stmt_byte For = 8
stmt_byte Def = 9
stmt_byte Class = 10

-- the kind of a byte, or the byte where no kind has it
abbrev pub ReadsExpr : ℕ → Result ExprKind NoKind → Type 0
ReadsExpr b r = MatchResult r (λ k. expr_byte k ≡ b) (λ e. (e.0 ≡ b) × (17 < b))

abbrev pub ReadsStmt : ℕ → Result StmtKind NoKind → Type 0
ReadsStmt b r = MatchResult r (λ k. stmt_byte k ≡ b) (λ e. (e.0 ≡ b) × (10 < b))
