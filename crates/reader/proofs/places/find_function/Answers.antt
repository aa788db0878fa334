use mathlib.Core.Path.{◌≡◌, sym, subst}
use native.Mathlib.Omega.{arith}
use Prim.Native.Nat.{ℕ, ◌<◌}
use lib.ListN.{length}
use Rattle.std.specs.Prelude.{Some}
use Rattle.definitions.specs.Bytes.{checked}
use Rattle.definitions.specs.Reader.{function_record}
use Rattle.reader.specs.Asks.{ask_function}
use Rattle.reader.specs.View.{skip_at, module_tables, FoundAt}
use Rattle.reader.specs.declared.Asked.TheVariants.{Layout}
use Rattle.reader.proofs.Finding.{FunctionsFrom, functions-begin, functions-number, past-functions, function-placed, function-ends, function-next}
use Rattle.reader.proofs.Cursoring.{steps-to, cut-to}
use Rattle.reader.proofs.places.find_function.Goals as goal

pub returns-then-functions-f : goal.returns-then-functions-f
returns-then-functions-f c = past-functions _ _ c.requires.functions _ _ c.requires.count c.if-functions-f.true

pub new-c-requires : goal.new-c-requires
new-c-requires c = (functions-number _ _ c.requires.functions).0

pub loop-init : goal.loop-init
loop-init c =
    let t = c.args.bytes.now in let s = c.args.functions.start in
    (c.new-c.ensures.bytes, subst (λ (p : ℕ). FunctionsFrom t s 0 p) (sym c.new-c.ensures.at) (functions-begin t s c.requires.functions))

pub returns-in_err-function : goal.returns-in_err-function
returns-in_err-function c =
    let t = c.args.bytes.now in let l = c.loop in let k = c.requires.count in
    let inside : l.counter < length (module_tables t).functions = (let m = c.loop-test.true in let n = c.if-functions-f.false in omega arith) in
    absurd (function-ends _ _ l.counter l.c.at inside l.invariant.1 (cut-to t (skip_at (checked (ask_function Layout) function_record)) l.c l.invariant.0 c.in_err-function.ensures))

pub loop-preserved : goal.loop-preserved
loop-preserved c =
    let t = c.args.bytes.now in let l = c.loop in let k = c.requires.count in
    let inside : l.counter < length (module_tables t).functions = (let m = c.loop-test.true in let n = c.if-functions-f.false in omega arith) in
    let s = steps-to t (skip_at (checked (ask_function Layout) function_record)) l.c c.function.new.self l.invariant.0 c.in_ok-function.ensures in
    (s.0, function-next _ _ l.counter l.c.at inside l.invariant.1 _ s.1)

pub returns : goal.returns
returns c =
    let l = c.loop in let k = c.requires.count in let e : l.counter ≡ c.args.f = (let m = c.loop-test.false in omega arith) in
    subst (λ (j : ℕ). FoundAt (Some l.c.at) c.args.bytes.now c.args.functions.start j) e (function-placed _ _ l.counter l.c.at (let n = c.if-functions-f.false in omega arith) l.invariant.1)
