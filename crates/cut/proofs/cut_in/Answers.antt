use mathlib.Core.Path.{refl}
use native.Mathlib.Omega.{arith}
use Rattle.definitions.proofs.ReadFits.{small_bytes}
use Rattle.questions.specs.Numbers.{number}
use Rattle.cut.proofs.Answering.{cut-no-room, cut-none, cut-refused, cut-later, cut-large, cut-least, cut-single, cut-fits, cut-written}
use Rattle.cut.proofs.cut_in.Goals as goal
use Rattle.cut.proofs.cut_in.Goals.{in-Limits, in_default-question}

pub returns-then-out-tree : goal.returns-then-out-tree
returns-then-out-tree c = cut-no-room _ _ _ _ _ c.requires.0 c.requires.1 c.if-out-tree.true

pub returns-in_default : goal.returns-in_default
returns-in_default c = cut-none _ _ _ _ _ c.requires.0 c.requires.1 c.if-out-tree.false refl c.accept.ensures c.in_default.is

pub returns-then-number : goal.returns-then-number
unfolding number
returns-then-number c =
    cut-refused _ _ _ _ _ c.requires.0 c.requires.1 c.if-out-tree.false refl c.accept.ensures c.in-Err.is refl (omega (arith, c.if-number.true, c.number.ensures, c.number-2.ensures))

pub shortest-stretch-requires : goal.shortest-stretch-requires
unfolding number
shortest-stretch-requires c =
    let R = cut-later _ _ _ _ _ c.requires.0 c.requires.1 c.if-out-tree.false refl c.accept.ensures c.in-Err.is (omega (arith, c.if-number.false, c.number.ensures, c.number-2.ensures)) in (
      omega (arith, c.accept.auto.code, c.requires.0),
      omega (arith, c.accept.auto.tables, c.requires.1),
      c.requires.2,
      cut-large c.in-Limits.is R c.requires.3,
    )

pub first_failing-requires : goal.first_failing-requires
unfolding number
first_failing-requires c =
    let R = cut-later _ _ _ _ _ c.requires.0 c.requires.1 c.if-out-tree.false refl c.accept.ensures c.in-Err.is (omega (arith, c.if-number.false, c.number.ensures, c.number-2.ensures)) in
    (R.at.small, R.at.block)

pub write_stretch-requires : goal.write_stretch-requires
unfolding number
write_stretch-requires c =
    let R = cut-later _ _ _ _ _ c.requires.0 c.requires.1 c.if-out-tree.false refl c.accept.ensures c.in-Err.is (omega (arith, c.if-number.false, c.number.ensures, c.number-2.ensures)) in
    let o = small_bytes c.args.tree.now (λ i. (c.type_inv.tree i).fits) in
    elim c.match-question.branch [
      | in-Limits w ↦ cut-fits _ _ _ _ _ c.requires.0 c.requires.1 c.if-out-tree.false R (cut-least R w.in-Limits.is w.stretch-is w.shortest-stretch.ensures) o
      | in_default-question w ↦
          cut-fits _ _ _ _ _ c.requires.0 c.requires.1 c.if-out-tree.false R (cut-single R w.in_default-question.not-Limits w.stretch-is w.first_failing.ensures) o
    ]

pub returns : goal.returns
unfolding number
returns c =
    let R = cut-later _ _ _ _ _ c.requires.0 c.requires.1 c.if-out-tree.false refl c.accept.ensures c.in-Err.is (omega (arith, c.if-number.false, c.number.ensures, c.number-2.ensures)) in
    elim c.match-question.branch [
      | in-Limits w ↦ cut-written _ _ _ _ _ c.requires.0 c.requires.1 c.if-out-tree.false R (cut-least R w.in-Limits.is w.stretch-is w.shortest-stretch.ensures) c.write_stretch.ensures
      | in_default-question w ↦
          cut-written _ _ _ _ _ c.requires.0 c.requires.1 c.if-out-tree.false R (cut-single R w.in_default-question.not-Limits w.stretch-is w.first_failing.ensures) c.write_stretch.ensures
    ]
