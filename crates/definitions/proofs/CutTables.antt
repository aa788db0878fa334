-- R-13 and question 15: a stretch that it refuses stays so with more statements at its end.
use mathlib.Core.Path.{◌≡◌, refl, sym, ap, ◌∙◌}
use mathlib.Core.Bool.{Bool, true, false, not}
use mathlib.Core.Option.{Option, none, some}
use mathlib.Core.List.{List, [], ◌∷◌, ◌++◌, append_assoc}
use Prim.Native.Nat.{ℕ, zero, suc, ◌+◌, ◌≤◌}
use native.Mathlib.Omega.{arith}
use lib.ListN.{length, length-append}
use borrow.Author.Tests.{eqb-true}
use Rattle.definitions.specs.Bytes.{Answer, refused, accepted, position}
use Rattle.definitions.specs.Tree.{Block, []ᵇ, ◌∷ᵇ◌}
use Rattle.definitions.specs.Instruction.{Instr, Return}
use Rattle.definitions.specs.Wellformed.{ask_block}
use Rattle.definitions.specs.Slots.{in_globals, past, names_only}
use Rattle.definitions.specs.Tables.{Function, Tables, Emit, emits, ◌⨟◌, add_symbol, with_functions, intern, begin, set_code, enclose, function}
use Rattle.definitions.specs.Lower.{emit_stmt, emit_block, main, no_tables, compile}
use Rattle.definitions.specs.Module.{Limits, instructions, slots_fit, tables_fit, fits, lower_block}
use Rattle.definitions.specs.Cut.{skip, front, stretch_of, refused_with, refused_stretch, over_stretch}
use Rattle.definitions.specs.Statements.{ShorterFits}
use Rattle.definitions.proofs.Truth.{true-false}
use Rattle.definitions.proofs.Accepted.{within, within-fits}
use Rattle.definitions.proofs.RestAsked.{verdict, first_of, lower-is}
use Rattle.definitions.proofs.RestLowered.{Same, same_self, same_then, same-seq}
use Rattle.definitions.proofs.Growth.{instructions-append, lengthens-block}
use Rattle.definitions.proofs.CutSingle.{apart, none-stretch, slots-stretch, tree-slots}
use Rattle.definitions.proofs.CutShape.{true-refused}

-- ---- more statements at the end

pub record Smaller (t u : Tables) : Type 0 where
  pub functions : length t.functions ≤ length u.functions
  pub symbols : length t.symbols ≤ length u.symbols
  pub strings : length t.strings ≤ length u.strings
  pub classes : length t.classes ≤ length u.classes
  pub instructions : instructions t.functions ≤ instructions u.functions

pub smaller-fits : (l : Limits) (t u : Tables) → Smaller t u → tables_fit l u ≡ true → tables_fit l t ≡ true
smaller-fits l t u S e =
    let W = within l u e in
    within-fits l t (record {
      functions = omega (arith, S.functions, W.functions);
      symbols = omega (arith, S.symbols, W.symbols);
      strings = omega (arith, S.strings, W.strings);
      classes = omega (arith, S.classes, W.classes);
      instructions = omega (arith, S.instructions, W.instructions);
    })

-- a block is its front and what follows
same-skip : (e : Emit) → Same e (emits [] ⨟ e)
unfolding ◌⨟◌ emits
same-skip e = record {
  at = λ p t.
      let z : p ≡ p + 0 = omega arith in
      record { code = ap (λ (q : ℕ). (e q t).code) z; tables = ap (λ (q : ℕ). (e q t).tables) z };
}

same-assoc : (e f g : Emit) → Same (e ⨟ (f ⨟ g)) ((e ⨟ f) ⨟ g)
unfolding ◌⨟◌
same-assoc e f g = record {
  at = λ p t.
      let o = e p t in
      let r = f (p + length o.code) o.tables in
      let z : p + length o.code + length r.code ≡ p + length (o.code ++ r.code) = omega (arith, length-append o.code r.code) in
      record {
        code = ap (λ (q : ℕ). o.code ++ (r.code ++ (g q r.tables).code)) z ∙ sym (append_assoc o.code r.code _);
        tables = ap (λ (q : ℕ). (g q r.tables).tables) z;
      };
}

-- main's block
abbrev pub code : Block → Emit
code b = emit_block [] in_globals b

same-split : (n : ℕ) (b : Block) → Same (code b) (code (front n b) ⨟ code (skip n b))
unfolding front skip emit_block past
same-split zero b = same-skip (code b)
same-split (suc n) []ᵇ = same-skip (emits [])
same-split (suc n) (s ∷ᵇ b) = same_then (same-seq same_self (same-split n b)) (same-assoc (emit_stmt [] in_globals s) (code (front n b)) (code (skip n b)))

-- the tables when main's block begins
unfoldable pub begun : Tables
begun = begin 0 0 (names_only []) (add_symbol main no_tables)

-- the tables of a whole tree, from what its block gives
unfoldable pub whole : List Instr → Tables → Tables
whole is t = with_functions (set_code t.functions 0 (is ++ (Return ∷ []))) t

pub compiled : (b : Block) → (compile b).tables ≡ whole (code b 0 begun).code (code b 0 begun).tables
unfolding compile function intern no_tables position enclose whole begun ◌⨟◌ emits
compiled b = refl

whole-smaller : (is js : List Instr) (t u : Tables) (f : Function) (fs gs : List Function) → t.functions ≡ f ∷ fs → u.functions ≡ t.functions ++ gs
    → length t.symbols ≤ length u.symbols → length t.strings ≤ length u.strings → length t.classes ≤ length u.classes → Smaller (whole is t) (whole (is ++ js) u)
unfolding whole set_code instructions
whole-smaller is js t u f fs gs e d s g c =
    let z : u.functions ≡ f ∷ (fs ++ gs) = rw e at d in
    let a = length-append is (Return ∷ []) in
    let b = length-append (is ++ js) (Return ∷ []) in
    let k = length-append is js in
    let w = instructions-append fs gs in
    let v = length-append fs gs in
    record {
      functions = rw (e, z) (omega arith);
      symbols = s;
      strings = g;
      classes = c;
      instructions = rw (e, z) (omega arith);
    }

pub front-smaller : (n : ℕ) (b : Block) → Smaller (compile (front n b)).tables (compile b).tables
unfolding ◌⨟◌ begun begin no_tables
front-smaller n b =
    let o = code (front n b) 0 begun in
    let q = 0 + length o.code in
    let r = code (skip n b) q o.tables in
    let S = (same-split n b).at 0 begun in
    let A = (lengthens-block [] in_globals (front n b)).at 0 begun in
    let B = (lengthens-block [] in_globals (skip n b)).at q o.tables in
    rw (compiled (front n b), compiled b, S.code, S.tables)
    (whole-smaller o.code r.code o.tables r.tables _ A.new B.new A.functions B.functions B.symbols B.strings B.classes)

pub front-front : (m n : ℕ) (b : Block) → m ≤ n → front m (front n b) ≡ front m b
unfolding front
front-front zero n b h = refl
front-front (suc m) zero b h = absurd (omega arith)
front-front (suc m) (suc n) []ᵇ h = refl
front-front (suc m) (suc n) (s ∷ᵇ b) h = ap (λ (z : Block). s ∷ᵇ z) (front-front m n b (omega arith))

stretch-smaller : (l : Limits) (b : Block) (i m n : ℕ) → m ≤ n → tables_fit l (compile (stretch_of i n b)).tables ≡ true → tables_fit l (compile (stretch_of i m b)).tables ≡ true
unfolding stretch_of
stretch-smaller l b i m n h e = smaller-fits l _ _ (rw (front-front m n (skip i b) h) at (front-smaller m (front n (skip i b)))) e

-- a stretch that passes 15 passes it with fewer statements
pub shorter_fits : ShorterFits
unfolding over_stretch
shorter_fits l b i m n h e = go (tables_fit l (compile (stretch_of i n b)).tables) refl e
  where
    go : (c : Bool) → tables_fit l (compile (stretch_of i n b)).tables ≡ c → not c ≡ false → not (tables_fit l (compile (stretch_of i m b)).tables) ≡ false
    go true f e = rw (stretch-smaller l b i m n h f)
    go false f e = true-false refl e

-- ---- refusal by 15

fits-tables : (l : Limits) (t : Tables) (c : Bool) → slots_fit t ≡ true → tables_fit l t ≡ c → refused_with 15 (fits l t) ≡ not c
unfolding fits refused_with
fits-tables l t true e f = rw (e, fits) (rw (f))
fits-tables l t false e f = rw (e, fits) (rw (f))

refused-is : (k : ℕ) → refused_with {A = Tables} 15 (refused k) ≡ true → k ≡ 15
unfolding refused_with
refused-is k e = eqb-true k 15 e

not-other : (l : Limits) (t : Tables) → refused_with 15 (fits l t) ≡ true → (slots_fit t ≡ true) × (tables_fit l t ≡ false)
unfolding fits refused_with
not-other l t e = go (slots_fit t) (tables_fit l t) refl refl e
  where
    go : (c d : Bool) → slots_fit t ≡ c → tables_fit l t ≡ d
        → refused_with {A = Tables} 15 (elim c as (λ z. Answer Tables) [ false ↦ refused 14 | true ↦ elim d as (λ z. Answer Tables) [ false ↦ refused 15 | true ↦ accepted t ] ]) ≡ true
        → (slots_fit t ≡ true) × (tables_fit l t ≡ false)
    go true false x y e = (x, y)
    go true true x y e = true-false e refl
    go false d x y e = true-false e refl

-- a tree refused by 15 answers all before it yes
pub record ByTables (l : Limits) (b : Block) : Type 0 where
  pub asked : first_of b ≡ none
  pub slots : slots_fit (compile b).tables ≡ true
  pub over : tables_fit l (compile b).tables ≡ false

pub by-tables : (l : Limits) (b : Block) → lower_block l b ≡ refused 15 → ByTables l b
unfolding verdict first_of
by-tables l b e = go (first_of b) refl (true-refused 15 (verdict (first_of b) (fits l (compile b).tables)) (sym (lower-is l b) ∙ e))
  where
    go : (o : Option ℕ) → first_of b ≡ o → refused_with 15 (verdict o (fits l (compile b).tables)) ≡ true → ByTables l b
    go none h r = let z = not-other l (compile b).tables r in record { asked = h; slots = z.0; over = z.1 }
    go (some k) h r = absurd ((apart (λ q. ask_block q false b) k h).tables (refused-is k r))

-- so do its stretches
pub stretch-slots : (l : Limits) (b : Block) → lower_block l b ≡ refused 15 → (i n : ℕ) → slots_fit (compile (stretch_of i n b)).tables ≡ true
stretch-slots l b e i n =
    let T = by-tables l b e in
    tree-slots (stretch_of i n b) (none-stretch i n b T.asked) ∙ slots-stretch i n b (sym (tree-slots b T.asked) ∙ T.slots)

-- so a stretch of it is refused by 15 exactly where it is too large
pub stretch-over : (l : Limits) (b : Block) → lower_block l b ≡ refused 15 → (i n : ℕ) → refused_stretch l 15 b n i ≡ over_stretch l b i n
unfolding refused_stretch over_stretch verdict
stretch-over l b e i n =
    let T = by-tables l b e in
    let r = stretch_of i n b in
    rw (lower-is l r, none-stretch i n b T.asked)
    (fits-tables l (compile r).tables (tables_fit l (compile r).tables) (stretch-slots l b e i n) refl)
