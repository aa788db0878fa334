-- Literals by their kind bytes: their code, and where they end.
use Prim.Native.Nat.{ℕ, zero, suc, ◌+◌, ◌-◌, ◌<◌, ◌≤◌}
use mathlib.Core.Path.{◌≡◌, refl, sym, ap, ◌∙◌}
use mathlib.Core.List.{List, [], ◌∷◌}
use native.Mathlib.Omega.{arith}
use lib.ListN.{length, take, drop, get_or}
use Rattle.std.specs.Int.{w64, from_be_bytes}
use Rattle.definitions.specs.Tree.{Expr}
use Rattle.definitions.specs.Instruction.{instr}
use Rattle.definitions.specs.Tables.{one}
use Rattle.definitions.specs.Lower.{literal, emit_expr}
use Rattle.tree_view.specs.Places as Places
use Rattle.tree_view.specs.Places.{Node, count_at, eight_at}
use Rattle.tree_view.proofs.Laws.{at_byte}
use Rattle.tree_view.proofs.ExprViews.{view-none, view-false, view-true}
use Rattle.exprs.proofs.LiteralLaws.{eight_is}
use Rattle.state.specs.Words.{big_endian_at, text_at}
use Rattle.lower_forms.specs.Lowerable.{Lowerable}
use Rattle.lower_forms.proofs.ExprArms.{Arm}

-- ---- numbers and texts are the same in both views

count_same : (t : List ℕ) (p : ℕ) → big_endian_at 2 t p ≡ count_at t p
unfolding big_endian_at count_at
count_same t p = omega arith

pub text_same : (t : List ℕ) (p : ℕ) → (Places.text_node_at t p).value ≡ text_at t p
unfolding Places.text_node_at text_at
text_same t p = ap (λ (n : ℕ). take n (drop (p + 2) t)) (sym (count_same t p))

-- so many bytes from p on
unfoldable bytes_from : ℕ → List ℕ → ℕ → List ℕ
bytes_from zero t p = []
bytes_from (suc n) t p = get_or t p 0 ∷ bytes_from n t (p + 1)

bytes-taken : (n : ℕ) (t : List ℕ) (p : ℕ) → p + n ≤ length t → take n (drop p t) ≡ bytes_from n t p
unfolding bytes_from
bytes-taken zero t p h = refl
bytes-taken (suc n) t p h = ap (take (suc n)) (at_byte t p (omega arith)) ∙ ap (λ (bs : List ℕ). get_or t p 0 ∷ bs) (bytes-taken n t (p + 1) (omega arith))

eight-of : (t : List ℕ) (p : ℕ) → from_be_bytes w64 (bytes_from 8 t p) ≡ big_endian_at 8 t p
unfolding big_endian_at bytes_from
eight-of t p = omega arith

pub eight-same : (t : List ℕ) (p : ℕ) → p + 8 ≤ length t → eight_at t p ≡ big_endian_at 8 t p
eight-same t p h =
    let size : p + 8 - p ≡ 8 = omega arith in
    sym (sym (eight-of t p) ∙ eight_is t _ p _ h (sym (ap (λ (n : ℕ). take n (drop p t)) size ∙ bytes-taken 8 t p h)) refl)

-- ---- by the kind byte

module _ (d : ℕ) (t : List ℕ) (p : ℕ) (r : Lowerable d t p) where
  pub arm-constant : (k : ℕ) → get_or t p 0 ≡ k → k < 3 → Arm (Unit {0}) d t p (λ names. one (instr (5 - k) 0 0)) (p + 1)
  unfolding emit_expr literal
  arm-constant zero e h = let v = view-none d t p r.reads e in record { parts = tt; code = λ names. ap (λ (x : Node Expr). emit_expr names x.value) v; end = ap (λ (x : Node Expr). x.end) v }
  arm-constant (suc zero) e h = let v = view-false d t p r.reads e in record { parts = tt; code = λ names. ap (λ (x : Node Expr). emit_expr names x.value) v; end = ap (λ (x : Node Expr). x.end) v }
  arm-constant (suc (suc zero)) e h = let v = view-true d t p r.reads e in record { parts = tt; code = λ names. ap (λ (x : Node Expr). emit_expr names x.value) v; end = ap (λ (x : Node Expr). x.end) v }
  arm-constant (suc (suc (suc k))) e h = absurd (omega arith)
