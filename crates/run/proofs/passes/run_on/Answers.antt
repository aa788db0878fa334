use mathlib.Core.Path.{◌≡◌, sym, ap, subst, ◌∙◌}
use mathlib.Core.List.{◌++◌}
use lib.ListN.{length}
use Rattle.std.proofs.Common.{Result, None, Err, rules}
use Rattle.std.specs.Result.{result_ok}
use Rattle.definitions.specs.Run.{run}
use Rattle.definitions.specs.Calls.{events_fit, ran_call}
use Rattle.questions.specs.declared.Question.{Question}
use Rattle.questions.specs.declared.Question.TheVariants.{EventRoom}
use Rattle.reader.specs.View.{instructions_of}
use Rattle.run.specs.declared.Ran.{Ran}
use Rattle.run.specs.Pass.{Called}
use Rattle.run.proofs.Calling.{measured-full, full-called, twice, nil-front}
use Rattle.run.proofs.passes.run_on.Goals as goal

pub returns-in_err-ok_or : goal.returns-in_err-ok_or
returns-in_err-ok_or c =
    let xs = c.args.events.now in let r = c.args.course.now in let p = c.pass in
    let e : c.from_residual.result ≡ Err EventRoom = search rules in
    let n : p.result ≡ None = c.ok_or.ensures.ok_part ∙ ap result_ok c.in_err-ok_or.was in
    subst (λ (o : Result Ran Question). Called o (ran_call (events_fit (length xs) (run r.budget (instructions_of r.code.now) 0 r.answers.now)) xs) (p.new.events ++ xs)) (sym e)
    (full-called _ _ _ (measured-full _ _ _ _ _ (rw c.requires at p.ensures) n) (nil-front p.new.events xs p.auto.events))

pub returns : goal.returns
returns c =
    let xs = c.args.events.now in let r = c.args.course.now in let p = c.pass in let q = c.pass-2 in
    subst (λ (o : Result Ran Question). Called o (ran_call (events_fit (length xs) (run r.budget (instructions_of r.code.now) 0 r.answers.now)) xs) q.new.events) (sym c.ok_or-2.ensures.value)
    (twice p.result q.result c.in_ok-ok_or.field-0 _ xs _ _ _ _ (c.ok_or.ensures.ok_part ∙ ap result_ok c.in_ok-ok_or.was) (rw c.requires at p.ensures) (nil-front p.new.events xs p.auto.events) (rw c.requires at q.ensures))
