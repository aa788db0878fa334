use mathlib.Core.Path.{◌≡◌, sym, ap, ◌∙◌, subst}
use native.Mathlib.Omega.{arith}
use Prim.Native.Nat.{ℕ, ◌+◌, ◌-◌, ◌<◌, ◌≤◌}
use mathlib.Core.List.{List, []}
use lib.ListN.{length}
use Rattle.definitions.specs.Bytes.{name, checked, list_of}
use Rattle.definitions.specs.Wellformed.{is_name}
use Rattle.definitions.specs.Reader.{method_record}
use Rattle.reader.specs.View.{skip_at, number_at, Got}
use Rattle.reader.specs.Asks.{ask_methods}
use Rattle.reader.proofs.ClassLaws.{methods_from, methods-short, methods-begin, methods-end, methods-cut, methods-no-number, methods-next, methods-fail}
use Rattle.reader.proofs.Cursoring.{none-steps}
use Rattle.reader.proofs.cursor.Cursor.methods.Goals as goal

pub returns-in_err-count : goal.returns-in_err-count
returns-in_err-count c =
    let s = c.args.self.now in
    none-steps (skip_at (checked (ask_methods c.args.asked []) (list_of 2 method_record))) c.from_residual.result s c.number.new.self c.from_residual.ensures
    (methods-short s.bytes.now c.args.asked s.at s.inside c.in_err-count.ensures)

pub returns-in_err-name : goal.returns-in_err-name
returns-in_err-name c =
    let s = c.args.self.now in let t = s.bytes.now in let q = c.args.asked in let l = c.loop in let k = c.in_ok-count.ensures in
    none-steps (skip_at (checked (ask_methods q []) (list_of 2 method_record))) c.from_residual-in_err-name.result s c.number.new.self c.from_residual-in_err-name.ensures
    (methods-begin t q s.at c.in_ok-count.count k.0.room k.1 ∙ l.invariant.1
    ∙ methods-cut t q l.before.now _ l.c.at (let m = c.loop-test.true in omega arith) (ap (λ (u : List ℕ). skip_at (checked is_name name) u l.c.at) (sym l.invariant.0) ∙ c.in_err-name.ensures))

pub returns-in_err-function : goal.returns-in_err-function
returns-in_err-function c =
    let s = c.args.self.now in let t = s.bytes.now in let q = c.args.asked in let l = c.loop in let k = c.in_ok-count.ensures in
    let r = c.in_ok-name.ensures in let y = c.in_ok-name.name.now in let d = c.proper.new.self in
    let got = subst (λ (u : List ℕ). Got (checked is_name name) u l.c.at y d.at) l.invariant.0 r.got in
    let short = subst (λ (u : List ℕ). length u < d.at + 2) (r.bytes ∙ l.invariant.0) c.in_err-function.ensures in
    none-steps (skip_at (checked (ask_methods q []) (list_of 2 method_record))) c.from_residual-in_err-function.result s c.number.new.self c.from_residual-in_err-function.ensures
    (methods-begin t q s.at c.in_ok-count.count k.0.room k.1 ∙ l.invariant.1
    ∙ methods-no-number t q l.before.now _ l.c.at (let m = c.loop-test.true in omega arith) y d.at got short)

pub returns-then-not-ask_next : goal.returns-then-not-ask_next
returns-then-not-ask_next c =
    let s = c.args.self.now in let t = s.bytes.now in let q = c.args.asked in let l = c.loop in let k = c.in_ok-count.ensures in
    let r = c.in_ok-name.ensures in let y = c.in_ok-name.name.now in let d = c.proper.new.self in let b = r.bytes ∙ l.invariant.0 in let f = c.in_ok-function.ensures in
    let got = subst (λ (u : List ℕ). Got (checked is_name name) u l.c.at y d.at) l.invariant.0 r.got in
    let room = subst (λ (u : List ℕ). d.at + 2 ≤ length u) b f.0.room in
    methods-begin t q s.at c.in_ok-count.count k.0.room k.1 ∙ l.invariant.1
    ∙ methods-fail t q l.before.now _ l.c.at (let m = c.loop-test.true in omega arith) y d.at got room c.in_ok-function.function (f.1 ∙ ap (λ (u : List ℕ). number_at 2 u d.at) b) (sym c.if-not-ask_next.ensures)

pub loop-preserved : goal.loop-preserved
loop-preserved c =
    let s = c.args.self.now in let t = s.bytes.now in let q = c.args.asked in let l = c.loop in
    let r = c.in_ok-name.ensures in let y = c.in_ok-name.name.now in let d = c.proper.new.self in let b = r.bytes ∙ l.invariant.0 in let f = c.in_ok-function.ensures in
    let got = subst (λ (u : List ℕ). Got (checked is_name name) u l.c.at y d.at) l.invariant.0 r.got in
    let room = subst (λ (u : List ℕ). d.at + 2 ≤ length u) b f.0.room in (
      f.0.bytes ∙ b,
      l.invariant.1
          ∙ methods-next t q l.before.now _ l.c.at (let m = c.loop-test.true in omega arith) y d.at got room c.in_ok-function.function (f.1 ∙ ap (λ (u : List ℕ). number_at 2 u d.at) b) (sym c.if-not-ask_next.ensures)
          ∙ ap (λ (k : ℕ). methods_from t q y (c.in_ok-count.count - l.counter - 1) k) (sym f.0.at)
          ∙ ap (λ (n : ℕ). methods_from t q y n c.number-in-loop.new.self.at) (let z : c.in_ok-count.count - l.counter - 1 ≡ c.in_ok-count.count - (l.counter + 1) = omega arith in z),
    )

pub returns : goal.returns
returns c =
    let s = c.args.self.now in let t = s.bytes.now in let q = c.args.asked in let l = c.loop in let k = c.in_ok-count.ensures in
    let inside = subst (λ (u : List ℕ). l.c.at ≤ length u) l.invariant.0 l.c.inside in
    record { bytes = l.invariant.0; to = methods-begin t q s.at c.in_ok-count.count k.0.room k.1 ∙ l.invariant.1 ∙ methods-end t q l.before.now _ l.c.at (let m = c.loop-test.false in omega arith) inside }
