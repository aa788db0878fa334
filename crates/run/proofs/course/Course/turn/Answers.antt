use Prim.Native.Nat.{ℕ, ◌+◌}
use mathlib.Core.Path.{ap, ◌∙◌}
use native.Mathlib.Omega.{arith}
use lib.ListN.{get_or}
use Rattle.reader.specs.View.{number_at}
use Rattle.run.proofs.Coding.{op-here}
use Rattle.run.proofs.Turning.{spent, return-full, returned, operand_in, jumped, questioned}
use Rattle.run.proofs.course.Course.turn.Goals as goal

pub returns-then-s-self : goal.returns-then-s-self
returns-then-s-self c = spent _ _ _ _ _ c.requires.0.written c.if-s-self.true _

pub bounds-self-at : goal.bounds-self-at
bounds-self-at c = let s = c.args.self.now in let e = s.begins.at _ c.requires.0.place in let h = (op-here _ s.coded _ c.requires.0.place).0 in omega arith

pub returns-then-self-s : goal.returns-then-self-s
returns-then-self-s c =
    let s = c.args.self.now in
    let e = s.begins.at _ c.requires.0.place in
    let op = ap (λ (x : ℕ). get_or s.code.now x 0) e in
    return-full _ s.answers.now _ _ _ s.coded c.requires.0 c.if-s-self.false _ op c.if-op-eq-RETURN.true _ _ c.if-self-s.true

pub returns-then-op-eq-RETURN : goal.returns-then-op-eq-RETURN
returns-then-op-eq-RETURN c =
    let s = c.args.self.now in
    let e = s.begins.at _ c.requires.0.place in
    let op = ap (λ (x : ℕ). get_or s.code.now x 0) e in
    returned _ s.answers.now _ _ _ s.coded c.requires.0 c.if-s-self.false _ op c.if-op-eq-RETURN.true _ _ c.if-self-s.false c.put.ensures

pub number_at-a-requires : goal.number_at-a-requires
number_at-a-requires c =
    let s = c.args.self.now in
    let e = s.begins.at _ c.requires.0.place in
    let op = ap (λ (x : ℕ). get_or s.code.now x 0) e in
    let o = operand_in _ s.answers.now _ _ _ s.coded c.requires.0 c.if-s-self.false _ op c.if-op-eq-RETURN.false c.requires.1 in
    (omega arith, omega arith)

pub returns-then-op-eq-JUMP : goal.returns-then-op-eq-JUMP
returns-then-op-eq-JUMP c =
    let s = c.args.self.now in
    let e = s.begins.at _ c.requires.0.place in
    let op = ap (λ (x : ℕ). get_or s.code.now x 0) e in
    let a = c.number_at-a.ensures.0 ∙ ap (λ (x : ℕ). number_at 4 s.code.now (x + 1)) e in
    jumped _ s.answers.now _ _ _ s.coded c.requires.0 c.if-s-self.false _ op c.if-op-eq-RETURN.false c.requires.1 _ a _ c.if-op-eq-JUMP.true _ c.jump_target-to.ensures

pub returns : goal.returns
returns c =
    let s = c.args.self.now in
    let e = s.begins.at _ c.requires.0.place in
    let op = ap (λ (x : ℕ). get_or s.code.now x 0) e in
    let a = c.number_at-a.ensures.0 ∙ ap (λ (x : ℕ). number_at 4 s.code.now (x + 1)) e in
    questioned _ s.answers.now _ _ _ s.coded c.requires.0 c.if-s-self.false _ op c.if-op-eq-RETURN.false c.requires.1 _ a c.if-op-eq-JUMP.false _ _ _ c.ask.ensures
