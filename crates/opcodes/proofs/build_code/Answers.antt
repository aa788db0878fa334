-- The opcode of each display, by its kind's byte.
use native.Mathlib.Omega.{arith}
use Rattle.definitions.specs.Instruction.{build_code}
use Rattle.numerals.specs.Kinds.{expr_byte}
use Rattle.opcodes.specs.Codes.{display_by_kind}
use Rattle.numerals.specs.declared.kinds.ExprKind.TheVariants.{List as list_kind, Dict, Tuple, Set}
use Rattle.opcodes.proofs.KindBytes.{other-kind}
use Rattle.opcodes.proofs.Opcodes.{build-of, build-last}
use Rattle.opcodes.proofs.build_code.Goals as goal

pub returns-in-List : goal.returns-in-List
unfolding expr_byte display_by_kind build_code
returns-in-List c = (build-of c.of.ensures c.in-List.is, omega arith, omega arith)

pub returns-in-Dict : goal.returns-in-Dict
unfolding expr_byte display_by_kind build_code
returns-in-Dict c = (build-of c.of.ensures c.in-Dict.is, omega arith, omega arith)

pub returns-in-Tuple : goal.returns-in-Tuple
unfolding expr_byte display_by_kind build_code
returns-in-Tuple c = (build-of c.of.ensures c.in-Tuple.is, omega arith, omega arith)

pub returns-in-Set : goal.returns-in-Set
unfolding expr_byte display_by_kind build_code
returns-in-Set c = (build-of c.of.ensures c.in-Set.is, omega arith, omega arith)

pub returns-in_default : goal.returns-in_default
unfolding expr_byte
returns-in_default c =
    let o = c.in_default in let e = c.of.ensures in
    (build-last (omega (arith, other-kind list_kind e o.not-List, other-kind Dict e o.not-Dict, other-kind Tuple e o.not-Tuple, other-kind Set e o.not-Set)), omega arith, omega arith)
