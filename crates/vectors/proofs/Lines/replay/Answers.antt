use mathlib.Core.Path.{sym, subst}
use denote.Param.Always.{always_fn, mut_by}
use Rattle.vectors.proofs.Lines.replay.Goals as goal

pub each_case-requires : goal.each_case-requires
each_case-requires g c = mut_by _ (λ s. always_fn g.F.Fn s.1.now) (λ s a i. i) (λ s a r t i e. subst (λ x. always_fn g.F.Fn x.now) (sym e.met.1.1) i) _ c.requires
