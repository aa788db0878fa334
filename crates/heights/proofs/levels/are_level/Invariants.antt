use mathlib.Core.Path.{◌≡◌}
use Rattle.heights.proofs.Marked.{level_from}
use Rattle.heights.proofs.levels.are_level.Given as goal

abbrev pub invariant-loop-p : goal.invariant-loop-p
invariant-loop-p l = level_from l.code l.area l.number 0 ≡ level_from l.code l.area l.number l.p
