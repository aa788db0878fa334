use mathlib.Core.Path.{refl, sym, subst, ◌∙◌}
use Rattle.std.specs.Prelude.{Option}
use Rattle.std.proofs.lemmas.Option.{none-some}
use Rattle.state.specs.Words.{word}
use Rattle.lower_emit.specs.Emitting.{Puts}
use Rattle.lower_leaves.proofs.closures.end_lambda.Goals as goal

pub returns-in_err-put_op : goal.returns-in_err-put_op
returns-in_err-put_op c =
    let e = c.from_residual.ensures in
    record {
      last = c.put_op.new.self;
      puts = subst (λ (r : Option (Unit {0})). Puts r (word 33 0 0) c.args.code.now c.put_op.new.self) (c.in_err-put_op.was ∙ sym e) c.put_op.ensures;
      finishes = λ x q. absurd (none-some x (sym e ∙ q));
      codes = λ x q. absurd (none-some x (sym e ∙ q));
      limit = c.put_op.ensures.kept.limit;
      area = c.put_op.ensures.kept.area;
      entries = refl;
    }

pub returns : goal.returns
returns c =
    let k = c.put_op.ensures.kept in
    record {
      last = c.put_op.new.self;
      puts = c.in_ok-put_op.ensures;
      finishes = λ x q. c.end_function.ensures.code;
      codes = λ x q. c.end_function.ensures.entries;
      limit = c.end_function.ensures.code.limit ∙ k.limit;
      area = c.end_function.ensures.code.area ∙ k.area;
      entries = c.end_function.ensures.entries.area;
    }
