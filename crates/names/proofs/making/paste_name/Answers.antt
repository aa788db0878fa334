use mathlib.Core.Path.{sym, ap}
use Rattle.definitions.specs.Lower.{iter_name, lambda_name}
use Rattle.names.specs.Made.{made_name}
use Rattle.names.proofs.Pasting.{fits-as, paste-as}
use Rattle.names.proofs.making.paste_name.Goals as goal

pub paste-requires : goal.paste-requires
unfolding made_name iter_name lambda_name
paste-requires c = fits-as _ _ c.args.at c.args.bytes.now (sym (ap made_name c.in-Main.is)) c.requires

pub paste-requires-in-Iter : goal.paste-requires-in-Iter
unfolding made_name iter_name lambda_name
paste-requires-in-Iter c = fits-as _ _ c.args.at c.args.bytes.now (sym (ap made_name c.in-Iter.is)) c.requires

pub paste-requires-in-HasNext : goal.paste-requires-in-HasNext
unfolding made_name iter_name lambda_name
paste-requires-in-HasNext c = fits-as _ _ c.args.at c.args.bytes.now (sym (ap made_name c.in-HasNext.is)) c.requires

pub paste-requires-in-Next : goal.paste-requires-in-Next
unfolding made_name iter_name lambda_name
paste-requires-in-Next c = fits-as _ _ c.args.at c.args.bytes.now (sym (ap made_name c.in-Next.is)) c.requires

pub paste_numbered-requires : goal.paste_numbered-requires
unfolding made_name iter_name lambda_name
paste_numbered-requires c = fits-as _ _ c.args.at c.args.bytes.now (sym (ap made_name c.in-Iterator.is)) c.requires

pub paste_numbered-requires-in-Lambda : goal.paste_numbered-requires-in-Lambda
unfolding made_name iter_name lambda_name
paste_numbered-requires-in-Lambda c = fits-as _ _ c.args.at c.args.bytes.now (sym (ap made_name c.in-Lambda.is)) c.requires

pub returns-in-Main : goal.returns-in-Main
unfolding made_name iter_name lambda_name
returns-in-Main c = paste-as _ _ c.args.at _ c.args.bytes.now _ (sym (ap made_name c.in-Main.is)) c.paste.ensures

pub returns-in-Iter : goal.returns-in-Iter
unfolding made_name iter_name lambda_name
returns-in-Iter c = paste-as _ _ c.args.at _ c.args.bytes.now _ (sym (ap made_name c.in-Iter.is)) c.paste-in-Iter.ensures

pub returns-in-HasNext : goal.returns-in-HasNext
unfolding made_name iter_name lambda_name
returns-in-HasNext c = paste-as _ _ c.args.at _ c.args.bytes.now _ (sym (ap made_name c.in-HasNext.is)) c.paste-in-HasNext.ensures

pub returns-in-Next : goal.returns-in-Next
unfolding made_name iter_name lambda_name
returns-in-Next c = paste-as _ _ c.args.at _ c.args.bytes.now _ (sym (ap made_name c.in-Next.is)) c.paste-in-Next.ensures

pub returns-in-Iterator : goal.returns-in-Iterator
unfolding made_name iter_name lambda_name
returns-in-Iterator c = paste-as _ _ c.args.at _ c.args.bytes.now _ (sym (ap made_name c.in-Iterator.is)) c.paste_numbered.ensures

pub returns-in-Lambda : goal.returns-in-Lambda
unfolding made_name iter_name lambda_name
returns-in-Lambda c = paste-as _ _ c.args.at _ c.args.bytes.now _ (sym (ap made_name c.in-Lambda.is)) c.paste_numbered-in-Lambda.ensures
