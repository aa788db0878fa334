use mathlib.Core.Path.{refl}
use native.Mathlib.Omega.{arith}
use Rattle.definitions.specs.Instruction.{first_width, row_of, instruction_table}
use Rattle.definitions.proofs.Listing.{is-jump, jump-below}
use Rattle.listing.proofs.Fields.{no-jump, wide-at, wide-jump, first-blank, first-long, first-bits, first-jump, first_plain}
use Rattle.listing.proofs.lines.first_shown.Goals as goal

pub returns-in-0 : goal.returns-in-0
unfolding first_width row_of instruction_table
returns-in-0 c = let a = c.args in first-long a.op a.a (first_width a.op) refl (wide-at a.op 0 7 c.in-0.is refl) _ c.in-0.is c.signed_long.ensures

pub returns-in-1 : goal.returns-in-1
unfolding first_width row_of instruction_table
returns-in-1 c = let a = c.args in first-bits a.op a.a (first_width a.op) refl (wide-at a.op 1 7 c.in-1.is refl) (λ e. omega arith) c.in-1.is

pub signed_short-requires : goal.signed_short-requires
signed_short-requires c = jump-below c.args.op c.args.a c.requires (is-jump c.args.op (omega arith) (omega arith))

pub returns-in-28 : goal.returns-in-28
returns-in-28 c =
    let a = c.args in
    first-jump a.op a.a (first_width a.op) refl (wide-jump a.op (omega arith) (omega arith)) _ (λ e. omega arith) (λ e. omega arith) (omega arith) (omega arith) c.signed_short.ensures

pub returns-in_default : goal.returns-in_default
returns-in_default c = let a = c.args in first-blank a.op a.a _ c.first_width.ensures.0 c.if-first_width-eq0.true

pub returns-in_default-2 : goal.returns-in_default-2
returns-in_default-2 c =
    let a = c.args in
    first_plain a.op a.a _ c.first_width.ensures.0 c.if-first_width-eq0.false (λ e. grind arith) (λ e. grind arith) (no-jump a.op (λ e. grind arith) (λ e. grind arith) (λ e. grind arith))
