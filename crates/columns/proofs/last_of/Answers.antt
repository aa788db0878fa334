use native.Mathlib.Omega.{arith}
use Rattle.columns.proofs.Splitting.{splits-blank, splits-digit, splits-digits, splits-negative, splits-negatives, splits-minus, splits-no-bits, splits-bits}
use Rattle.columns.proofs.last_of.Goals as goal

pub returns-then-n-lt10 : goal.returns-then-n-lt10
returns-then-n-lt10 c = splits-digit _ _ c.in-Digits.is c.if-n-lt10.true

pub returns-then-n-lt10-2 : goal.returns-then-n-lt10-2
returns-then-n-lt10-2 c = splits-negative _ _ c.in-Negative.is c.if-n-lt10-2.true

pub returns-then-w-eq0 : goal.returns-then-w-eq0
returns-then-w-eq0 c = splits-no-bits _ _ _ c.in-Bits.is c.if-w-eq0.true

pub returns-in-Blank : goal.returns-in-Blank
returns-in-Blank c = splits-blank _ c.in-Blank.is

pub returns-else-n-lt10 : goal.returns-else-n-lt10
returns-else-n-lt10 c = splits-digits _ _ c.in-Digits.is c.if-n-lt10.false

pub returns-else-n-lt10-2 : goal.returns-else-n-lt10-2
returns-else-n-lt10-2 c = splits-negatives _ _ c.in-Negative.is c.if-n-lt10-2.false

pub returns-in-Minus : goal.returns-in-Minus
returns-in-Minus c = splits-minus _ c.in-Minus.is

pub returns-else-w-eq0 : goal.returns-else-w-eq0
returns-else-w-eq0 c = splits-bits _ _ _ _ c.in-Bits.is (let h = c.if-w-eq0.false in omega arith) c.hex_digit.ensures
