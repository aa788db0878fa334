use Prim.Native.Nat.{ℕ}
use mathlib.Core.List.{List}
use mathlib.Core.Path.{◌≡◌, sym, ap, ◌∙◌, subst}
use Rattle.std.specs.Prelude.{Option, Result, Err}
use Rattle.std.proofs.Common.{rules}
use Rattle.questions.specs.declared.Question.{Question}
use Rattle.reader.specs.View.{Opens, Lays}
use Rattle.reader.specs.declared.Sections.{Sections}
use Rattle.reader.proofs.Answered.{refused-none, passed-some}
use Rattle.reader.proofs.Deciding.{head_passed, head-closes, layout-closes, lists-known, verdict-closes, verdict-opens, opens-says}
use Rattle.reader.proofs.layout.read_module.Goals as goal

-- the answer of a call that hands a refusal on
opens-as : (t : List ℕ) {r o : Result Sections Question} → r ≡ o → Opens o t → Opens r t
opens-as t e h = subst (λ (x : Result Sections Question). Opens x t) (sym e) h

lays-as : (t : List ℕ) {r o : Option Sections} → r ≡ o → Lays r t → Lays o t
lays-as t e h = subst (λ (x : Option Sections). Lays x t) e h

pub returns-in_err-read_head-clause-answer : goal.returns-in_err-read_head-clause-answer
returns-in_err-read_head-clause-answer c = opens-says _ _ (opens-as _ (search rules) (head-closes (Unit {0}) _ _ c.in_err-read_head.ensures))

pub returns-in_err-read_head-clause-sections : goal.returns-in_err-read_head-clause-sections
returns-in_err-read_head-clause-sections c = opens-as _ (search rules) (head-closes (Unit {0}) _ _ c.in_err-read_head.ensures)

pub lay-requires : goal.lay-requires
lay-requires c = (head_passed _ _ c.in_ok-read_head.ensures).0

pub returns-in_err-sections-clause-answer : goal.returns-in_err-sections-clause-answer
returns-in_err-sections-clause-answer c =
    let e : c.from_residual-in_err-sections.result ≡ Err c.in_err-sections.field-0.0 = search rules in
    let p = head_passed _ _ c.in_ok-read_head.ensures in
    let k = refused-none c.lay.result _ _ c.in_err-sections.ensures.value in
    opens-says _ _ (opens-as _ (e ∙ ap Err k.1) (layout-closes _ p.1 (lays-as _ k.0 c.lay.ensures)))

pub returns-in_err-sections-clause-sections : goal.returns-in_err-sections-clause-sections
returns-in_err-sections-clause-sections c =
    let e : c.from_residual-in_err-sections.result ≡ Err c.in_err-sections.field-0.0 = search rules in
    let p = head_passed _ _ c.in_ok-read_head.ensures in
    let k = refused-none c.lay.result _ _ c.in_err-sections.ensures.value in
    opens-as _ (e ∙ ap Err k.1) (layout-closes _ p.1 (lays-as _ k.0 c.lay.ensures))

pub judge-requires : goal.judge-requires
judge-requires c = lists-known _ _ (lays-as _ (passed-some c.lay.result _ _ c.in_ok-sections.ensures.value) c.lay.ensures)

pub returns-in_err-judge-clause-answer : goal.returns-in_err-judge-clause-answer
returns-in_err-judge-clause-answer c =
    let p = head_passed _ _ c.in_ok-read_head.ensures in
    opens-says _ _ (opens-as _ (search rules) (verdict-closes (Unit {0}) _ _ p.1 c.in_err-judge.ensures))

pub returns-in_err-judge-clause-sections : goal.returns-in_err-judge-clause-sections
returns-in_err-judge-clause-sections c =
    let p = head_passed _ _ c.in_ok-read_head.ensures in
    opens-as _ (search rules) (verdict-closes (Unit {0}) _ _ p.1 c.in_err-judge.ensures)

pub returns-clause-answer : goal.returns-clause-answer
returns-clause-answer c =
    let p = head_passed _ _ c.in_ok-read_head.ensures in
    let l = lists-known _ _ (lays-as _ (passed-some c.lay.result _ _ c.in_ok-sections.ensures.value) c.lay.ensures) in
    opens-says _ _ (verdict-opens _ _ _ l p.1 c.in_ok-judge.ensures)

pub returns-clause-sections : goal.returns-clause-sections
returns-clause-sections c =
    let p = head_passed _ _ c.in_ok-read_head.ensures in
    let l = lists-known _ _ (lays-as _ (passed-some c.lay.result _ _ c.in_ok-sections.ensures.value) c.lay.ensures) in
    verdict-opens _ _ _ l p.1 c.in_ok-judge.ensures
