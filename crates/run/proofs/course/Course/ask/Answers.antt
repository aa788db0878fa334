use Rattle.run.proofs.Turning.{ask-starved, ask-full, ask-on}
use Rattle.run.proofs.course.Course.ask.Goals as goal

pub returns-then-self-s : goal.returns-then-self-s
returns-then-self-s c = ask-starved _ _ _ _ _ _ c.if-self-s.true

pub returns-then-self-s-lt2 : goal.returns-then-self-s-lt2
returns-then-self-s-lt2 c = ask-full _ _ _ _ _ _ _ c.if-self-s.false c.requires.2 c.if-self-s-lt2.true

pub returns : goal.returns
returns c = ask-on _ _ _ _ _ _ _ _ _ c.if-self-s.false c.requires.2 c.if-self-s-lt2.false c.put.ensures c.put-2.ensures c.question_way-place.ensures
