use mathlib.Core.Path.{sym, ap, ◌∙◌, subst}
use native.Mathlib.Omega.{arith}
use Prim.Native.Nat.{ℕ, ◌+◌, ◌≤◌}
use mathlib.Core.List.{List, [], ◌∷◌}
use lib.ListN.{length}
use Rattle.definitions.specs.Bytes.{counted, checked}
use Rattle.definitions.specs.Reader.{instruction}
use Rattle.reader.specs.View.{skip_at, found_at}
use Rattle.reader.specs.Asks.{ask_code}
use Rattle.reader.proofs.Cursoring.{none-steps}
use Rattle.reader.proofs.FunctionLaws.{code_from, code-all, code-next, code-fail, code-cut, code-end}
use Rattle.reader.proofs.cursor.Cursor.code.Goals as goal

pub returns-in_err-instruction : goal.returns-in_err-instruction
returns-in_err-instruction c =
    let s = c.args.self.now in let t = s.bytes.now in let q = c.args.asked in let h = c.args.head in let l = c.loop-place in
    let inside = subst (λ (u : List ℕ). l.c.at ≤ length u) l.invariant.0 l.c.inside in
    none-steps (skip_at (checked (ask_code q h.count h.slots 0) (counted [] ◌∷◌ instruction h.count))) c.from_residual.result s s c.from_residual.ensures
    (code-all t q h.count h.slots s.at ∙ l.invariant.1
    ∙ code-cut t q h.count h.slots l.place l.c.at c.loop-place-test.true inside (ap (λ (u : List ℕ). found_at u l.c.at) (sym l.invariant.0) ∙ c.in_err-instruction.ensures))

pub ask_op-requires : goal.ask_op-requires
ask_op-requires c =
    let l = c.loop-place in let f = c.args.head.few in let m = c.loop-place-test.true in
    omega arith

pub returns-then-not-ask_op : goal.returns-then-not-ask_op
returns-then-not-ask_op c =
    let s = c.args.self.now in let t = s.bytes.now in let q = c.args.asked in let h = c.args.head in let l = c.loop-place in
    let inside = subst (λ (u : List ℕ). l.c.at ≤ length u) l.invariant.0 l.c.inside in
    code-all t q h.count h.slots s.at ∙ l.invariant.1
    ∙ code-fail t q h.count h.slots l.place l.c.at c.loop-place-test.true inside _ _ _ _ (ap (λ (u : List ℕ). found_at u l.c.at) (sym l.invariant.0) ∙ c.in_ok-instruction.ensures.0) (sym c.if-not-ask_op.ensures)

pub loop-place-preserved : goal.loop-place-preserved
loop-place-preserved c =
    let s = c.args.self.now in let t = s.bytes.now in let q = c.args.asked in let h = c.args.head in let l = c.loop-place in let k = c.in_ok-instruction.ensures in
    let inside = subst (λ (u : List ℕ). l.c.at ≤ length u) l.invariant.0 l.c.inside in (
      k.1 ∙ l.invariant.0,
      l.invariant.1
          ∙ code-next t q h.count h.slots l.place l.c.at c.loop-place-test.true inside _ _ _ _ (ap (λ (u : List ℕ). found_at u l.c.at) (sym l.invariant.0) ∙ k.0) (sym c.if-not-ask_op.ensures)
          ∙ ap (λ (m : ℕ). code_from t q h.count h.slots (l.place + 1) m) (sym k.2),
    )

pub returns : goal.returns
returns c =
    let s = c.args.self.now in let t = s.bytes.now in let q = c.args.asked in let h = c.args.head in let l = c.loop-place in
    let inside = subst (λ (u : List ℕ). l.c.at ≤ length u) l.invariant.0 l.c.inside in
    record { bytes = l.invariant.0; to = code-all t q h.count h.slots s.at ∙ l.invariant.1 ∙ code-end t q h.count h.slots l.place l.c.at c.loop-place-test.false inside }
