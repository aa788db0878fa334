use mathlib.Core.Path.{sym, subst}
use Rattle.std.specs.Prelude.{Option}
use Prim.Native.Nat.{ℕ}
use native.Mathlib.Omega.{arith}
use Rattle.reader.specs.View.{skip_at, Lays, Lists}
use Rattle.reader.specs.declared.Sections.{Sections}
use Rattle.reader.specs.declared.Asked.TheVariants.{Layout}
use Rattle.reader.proofs.Question19.{symbols_read, strings_read, functions_read, classes_read, constants_read, no-symbols, no-strings, no-functions, no-classes, no-constants, laid, over}
use Rattle.reader.proofs.Questions.{lists-in, sectioned}
use Rattle.reader.proofs.Deciding.{sections-laid}
use Rattle.reader.proofs.Cursoring.{steps-to, begins-to, cut-to, begins-cut}
use Rattle.reader.proofs.layout.lay.Goals as goal

pub returns-in_err-symbols : goal.returns-in_err-symbols
returns-in_err-symbols c =
    let t = c.args.bytes.now in let b = c.new-c.ensures in
    subst (λ (x : Option Sections). Lays x t) (sym c.from_residual.ensures) (no-symbols t c.requires (begins-cut t 5 (skip_at symbols_read) c.new-c.result b c.in_err-symbols.ensures))

pub returns-in_err-strings : goal.returns-in_err-strings
returns-in_err-strings c =
    let t = c.args.bytes.now in let b = c.new-c.ensures in
    let k1 = begins-to t 5 (skip_at symbols_read) c.new-c.result c.symbols.new.self b c.in_ok-symbols.ensures in
    subst (λ (x : Option Sections). Lays x t) (sym c.from_residual-in_err-strings.ensures) (no-strings t c.requires _ k1.1 (cut-to t (skip_at strings_read) c.symbols.new.self k1.0 c.in_err-strings.ensures))

pub returns-in_err-functions : goal.returns-in_err-functions
returns-in_err-functions c =
    let t = c.args.bytes.now in let b = c.new-c.ensures in
    let k1 = begins-to t 5 (skip_at symbols_read) c.new-c.result c.symbols.new.self b c.in_ok-symbols.ensures in
    let k2 = steps-to t (skip_at strings_read) c.symbols.new.self c.strings.new.self k1.0 c.in_ok-strings.ensures in
    subst (λ (x : Option Sections). Lays x t) (sym c.from_residual-in_err-functions.ensures)
    (no-functions t c.requires _ k1.1 _ k2.1 (cut-to t (skip_at (functions_read Layout)) c.strings.new.self k2.0 c.in_err-functions.ensures))

pub returns-in_err-classes : goal.returns-in_err-classes
returns-in_err-classes c =
    let t = c.args.bytes.now in let b = c.new-c.ensures in
    let k1 = begins-to t 5 (skip_at symbols_read) c.new-c.result c.symbols.new.self b c.in_ok-symbols.ensures in
    let k2 = steps-to t (skip_at strings_read) c.symbols.new.self c.strings.new.self k1.0 c.in_ok-strings.ensures in
    let k3 = steps-to t (skip_at (functions_read Layout)) c.strings.new.self c.functions.new.self k2.0 c.in_ok-functions.ensures in
    subst (λ (x : Option Sections). Lays x t) (sym c.from_residual-in_err-classes.ensures)
    (no-classes t c.requires _ k1.1 _ k2.1 _ k3.1 (cut-to t (skip_at (classes_read Layout)) c.functions.new.self k3.0 c.in_err-classes.ensures))

pub returns-in_err-constants : goal.returns-in_err-constants
returns-in_err-constants c =
    let t = c.args.bytes.now in let b = c.new-c.ensures in
    let k1 = begins-to t 5 (skip_at symbols_read) c.new-c.result c.symbols.new.self b c.in_ok-symbols.ensures in
    let k2 = steps-to t (skip_at strings_read) c.symbols.new.self c.strings.new.self k1.0 c.in_ok-strings.ensures in
    let k3 = steps-to t (skip_at (functions_read Layout)) c.strings.new.self c.functions.new.self k2.0 c.in_ok-functions.ensures in
    let k4 = steps-to t (skip_at (classes_read Layout)) c.functions.new.self c.classes.new.self k3.0 c.in_ok-classes.ensures in
    subst (λ (x : Option Sections). Lays x t) (sym c.from_residual-in_err-constants.ensures)
    (no-constants t c.requires _ k1.1 _ k2.1 _ k3.1 _ k4.1 (cut-to t (skip_at (constants_read Layout)) c.classes.new.self k4.0 c.in_err-constants.ensures))

pub returns-then-c-bytes : goal.returns-then-c-bytes
returns-then-c-bytes c =
    let t = c.args.bytes.now in let b = c.new-c.ensures in
    let k1 = begins-to t 5 (skip_at symbols_read) c.new-c.result c.symbols.new.self b c.in_ok-symbols.ensures in
    let k2 = steps-to t (skip_at strings_read) c.symbols.new.self c.strings.new.self k1.0 c.in_ok-strings.ensures in
    let k3 = steps-to t (skip_at (functions_read Layout)) c.strings.new.self c.functions.new.self k2.0 c.in_ok-functions.ensures in
    let k4 = steps-to t (skip_at (classes_read Layout)) c.functions.new.self c.classes.new.self k3.0 c.in_ok-classes.ensures in
    let k5 = steps-to t (skip_at (constants_read Layout)) c.classes.new.self c.constants.new.self k4.0 c.in_ok-constants.ensures in
    over t c.requires _ k1.1 _ k2.1 _ k3.1 _ k4.1 _ k5.1 c.if-c-bytes.true

pub list_in-requires : goal.list_in-requires
list_in-requires c =
    let t = c.args.bytes.now in let b = c.new-c.ensures in
    let k1 = begins-to t 5 (skip_at symbols_read) c.new-c.result c.symbols.new.self b c.in_ok-symbols.ensures in
    let k2 = steps-to t (skip_at strings_read) c.symbols.new.self c.strings.new.self k1.0 c.in_ok-strings.ensures in
    let k3 = steps-to t (skip_at (functions_read Layout)) c.strings.new.self c.functions.new.self k2.0 c.in_ok-functions.ensures in
    let k4 = steps-to t (skip_at (classes_read Layout)) c.functions.new.self c.classes.new.self k3.0 c.in_ok-classes.ensures in
    let k5 = steps-to t (skip_at (constants_read Layout)) c.classes.new.self c.constants.new.self k4.0 c.in_ok-constants.ensures in
    let l = laid t c.requires _ k1.1 _ k2.1 _ k3.1 _ k4.1 _ k5.1 c.if-c-bytes.false in let k = lists-in _ _ _ _ _ l in
    (k.0, l.strings_at.to)

pub list_in-requires-2 : goal.list_in-requires-2
list_in-requires-2 c =
    let t = c.args.bytes.now in let b = c.new-c.ensures in
    let k1 = begins-to t 5 (skip_at symbols_read) c.new-c.result c.symbols.new.self b c.in_ok-symbols.ensures in
    let k2 = steps-to t (skip_at strings_read) c.symbols.new.self c.strings.new.self k1.0 c.in_ok-strings.ensures in
    let k3 = steps-to t (skip_at (functions_read Layout)) c.strings.new.self c.functions.new.self k2.0 c.in_ok-functions.ensures in
    let k4 = steps-to t (skip_at (classes_read Layout)) c.functions.new.self c.classes.new.self k3.0 c.in_ok-classes.ensures in
    let k5 = steps-to t (skip_at (constants_read Layout)) c.classes.new.self c.constants.new.self k4.0 c.in_ok-constants.ensures in
    let l = laid t c.requires _ k1.1 _ k2.1 _ k3.1 _ k4.1 _ k5.1 c.if-c-bytes.false in let k = lists-in _ _ _ _ _ l in
    (k.1, l.functions_at.to)

pub list_in-requires-3 : goal.list_in-requires-3
list_in-requires-3 c =
    let t = c.args.bytes.now in let b = c.new-c.ensures in
    let k1 = begins-to t 5 (skip_at symbols_read) c.new-c.result c.symbols.new.self b c.in_ok-symbols.ensures in
    let k2 = steps-to t (skip_at strings_read) c.symbols.new.self c.strings.new.self k1.0 c.in_ok-strings.ensures in
    let k3 = steps-to t (skip_at (functions_read Layout)) c.strings.new.self c.functions.new.self k2.0 c.in_ok-functions.ensures in
    let k4 = steps-to t (skip_at (classes_read Layout)) c.functions.new.self c.classes.new.self k3.0 c.in_ok-classes.ensures in
    let k5 = steps-to t (skip_at (constants_read Layout)) c.classes.new.self c.constants.new.self k4.0 c.in_ok-constants.ensures in
    let l = laid t c.requires _ k1.1 _ k2.1 _ k3.1 _ k4.1 _ k5.1 c.if-c-bytes.false in let k = lists-in _ _ _ _ _ l in
    (k.2, l.classes_at.to)

pub list_in-requires-4 : goal.list_in-requires-4
list_in-requires-4 c =
    let t = c.args.bytes.now in let b = c.new-c.ensures in
    let k1 = begins-to t 5 (skip_at symbols_read) c.new-c.result c.symbols.new.self b c.in_ok-symbols.ensures in
    let k2 = steps-to t (skip_at strings_read) c.symbols.new.self c.strings.new.self k1.0 c.in_ok-strings.ensures in
    let k3 = steps-to t (skip_at (functions_read Layout)) c.strings.new.self c.functions.new.self k2.0 c.in_ok-functions.ensures in
    let k4 = steps-to t (skip_at (classes_read Layout)) c.functions.new.self c.classes.new.self k3.0 c.in_ok-classes.ensures in
    let k5 = steps-to t (skip_at (constants_read Layout)) c.classes.new.self c.constants.new.self k4.0 c.in_ok-constants.ensures in
    let l = laid t c.requires _ k1.1 _ k2.1 _ k3.1 _ k4.1 _ k5.1 c.if-c-bytes.false in let k = lists-in _ _ _ _ _ l in
    (let e = c.if-c-bytes.false in let m = k.3 in (omega arith, omega arith))

pub returns : goal.returns
returns c =
    let t = c.args.bytes.now in let b = c.new-c.ensures in
    let k1 = begins-to t 5 (skip_at symbols_read) c.new-c.result c.symbols.new.self b c.in_ok-symbols.ensures in
    let k2 = steps-to t (skip_at strings_read) c.symbols.new.self c.strings.new.self k1.0 c.in_ok-strings.ensures in
    let k3 = steps-to t (skip_at (functions_read Layout)) c.strings.new.self c.functions.new.self k2.0 c.in_ok-functions.ensures in
    let k4 = steps-to t (skip_at (classes_read Layout)) c.functions.new.self c.classes.new.self k3.0 c.in_ok-classes.ensures in
    let k5 = steps-to t (skip_at (constants_read Layout)) c.classes.new.self c.constants.new.self k4.0 c.in_ok-constants.ensures in
    let l = laid t c.requires _ k1.1 _ k2.1 _ k3.1 _ k4.1 _ k5.1 c.if-c-bytes.false in let k = lists-in _ _ _ _ _ l in
    sections-laid _ _ (sectioned _ _ _ _ _ l _ c.list_in.ensures c.list_in-2.ensures c.list_in-3.ensures (subst (λ (n : ℕ). Lists c.list_in-4.result t c.classes.new.self.at n) c.if-c-bytes.false c.list_in-4.ensures))
