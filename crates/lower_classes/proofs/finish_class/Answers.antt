use native.Mathlib.Omega.{arith}
use Rattle.lower_names.proofs.Symbols.{naming-sound}
use Rattle.lower_classes.proofs.Ending.{ended-sound, finish-over, finish-sound, finish-constants, finish-done}
use Rattle.lower_classes.proofs.finish_class.Goals as goal

pub end_class-requires : goal.end_class-requires
end_class-requires c =
    let S = c.requires.0.sound in
    (omega (arith, c.requires.2, S.classes, S.limited.classes), omega (arith, c.requires.1), omega (arith, c.requires.3, S.functions, S.limited.functions))

pub intern-requires : goal.intern-requires
intern-requires c = (naming-sound (ended-sound c.requires.0 c.requires.1 c.requires.2 c.requires.3 (c.end_class.ensures.tables c.args.e.now.tables)), (λ z. absurd (omega (arith, c.requires.1))), omega arith)

pub returns-in_err-symbol : goal.returns-in_err-symbol
returns-in_err-symbol c = finish-over c.requires.0 c.requires.1 c.requires.2 c.requires.3 (c.end_class.ensures.tables c.args.e.now.tables) c.intern.ensures c.in_err-symbol.was c.from_residual.ensures

pub store_class-requires : goal.store_class-requires
store_class-requires c =
    let z = c.in_ok-symbol.was in
    let S = (finish-sound c.requires.0 c.requires.1 c.requires.2 c.requires.3 (c.end_class.ensures.tables c.args.e.now.tables) c.intern.ensures z).sound in
    let more = finish-constants c.requires.0 c.requires.1 c.requires.2 c.requires.3 (c.end_class.ensures.tables c.args.e.now.tables) c.intern.ensures z c.requires.4 in
    (omega (arith, more, S.classes, S.limited.classes), omega (arith, c.intern.ensures.below _ z))

pub returns : goal.returns
returns c = finish-done c.requires.0 c.requires.1 c.requires.2 c.requires.3 (c.end_class.ensures.tables c.args.e.now.tables) c.intern.ensures c.in_ok-symbol.was c.requires.4 c.store_class.ensures
