use mathlib.Core.Path.{◌≡◌, sym, ap, ◌∙◌, subst}
use mathlib.Core.Bool.{true, false}
use Rattle.std.specs.Prelude.{Option, MatchOption}
use Rattle.definitions.specs.Bytes.{list_of, all}
use Rattle.definitions.specs.Reader.{function_record, class_record, numbers_exist}
use Rattle.definitions.proofs.Begins.{takes-list, takes-function, takes-class}
use Rattle.reader.specs.Asks.{ask_function, ask_class}
use Rattle.reader.specs.View.{skip_at, module_tables}
use Rattle.reader.specs.declared.Asked.TheVariants.{Numbers}
use Rattle.reader.proofs.Question19.{functions_read, classes_read, constants_read}
use Rattle.reader.proofs.Questions.{functions-lack, classes-lack, constants-lack, all-exist}
use Rattle.reader.proofs.Cursoring.{match-map, steps-to, begins-to, cut-to, begins-cut, ends-there}
use Rattle.reader.proofs.layout.ask_numbers.Goals as goal

pub returns-in_err-functions : goal.returns-in_err-functions
returns-in_err-functions c =
    let t = c.args.bytes.now in let f = c.args.sections.functions.start in let q = Numbers c.counts_of.result in
    subst (λ (x : Option (Unit {0})). MatchOption x (numbers_exist (module_tables t) ≡ false) (λ y. numbers_exist (module_tables t) ≡ true)) (sym c.from_residual.ensures)
    (functions-lack _ _ _ _ _ c.requires.laid _ c.counts_of.ensures (begins-cut t f (skip_at (functions_read q)) c.new-c.result c.new-c.ensures c.in_err-functions.ensures))

pub returns-in_err-classes : goal.returns-in_err-classes
returns-in_err-classes c =
    let t = c.args.bytes.now in let f = c.args.sections.functions.start in let q = Numbers c.counts_of.result in let l = c.requires.laid in
    let k1 = begins-to t f (skip_at (functions_read q)) c.new-c.result c.functions.new.self c.new-c.ensures c.in_ok-functions.ensures in
    let e1 = ends-there (all (ask_function q)) (list_of 2 function_record) (takes-list 2 function_record takes-function) t f _ _ c.functions.new.self.at l.strings_at.to l.functions_at k1.1 in
    subst (λ (x : Option (Unit {0})). MatchOption x (numbers_exist (module_tables t) ≡ false) (λ y. numbers_exist (module_tables t) ≡ true)) (sym c.from_residual-in_err-classes.ensures)
    (classes-lack _ _ _ _ _ l _ c.counts_of.ensures _ k1.1 (ap (skip_at (classes_read q) t) (sym e1) ∙ cut-to t (skip_at (classes_read q)) c.functions.new.self k1.0 c.in_err-classes.ensures))

pub returns : goal.returns
returns c =
    let t = c.args.bytes.now in let f = c.args.sections.functions.start in let q = Numbers c.counts_of.result in let l = c.requires.laid in
    let k1 = begins-to t f (skip_at (functions_read q)) c.new-c.result c.functions.new.self c.new-c.ensures c.in_ok-functions.ensures in
    let e1 = ends-there (all (ask_function q)) (list_of 2 function_record) (takes-list 2 function_record takes-function) t f _ _ c.functions.new.self.at l.strings_at.to l.functions_at k1.1 in
    let k2 = steps-to t (skip_at (classes_read q)) c.functions.new.self c.classes.new.self k1.0 c.in_ok-classes.ensures in
    let r2 = ap (skip_at (classes_read q) t) (sym e1) ∙ k2.1 in
    let e2 = ends-there (all (ask_class q)) (list_of 2 class_record) (takes-list 2 class_record takes-class) t c.args.sections.classes.start _ _ c.classes.new.self.at l.functions_at.to l.classes_at r2 in
    match-map c.constants.result
    (λ n. constants-lack _ _ _ _ _ l _ c.counts_of.ensures _ k1.1 _ r2 (ap (skip_at (constants_read q) t) (sym e2) ∙ cut-to t (skip_at (constants_read q)) c.classes.new.self k2.0 n))
    (λ u n. let k3 = steps-to t (skip_at (constants_read q)) c.classes.new.self c.constants.new.self k2.0 n in all-exist _ _ _ _ _ l _ c.counts_of.ensures _ k1.1 _ r2 _ (ap (skip_at (constants_read q) t) (sym e2) ∙ k3.1))
    c.constants.ensures
