-- The questions of a block: their numbers, and their places in the order in which they are asked.
use Rattle.std.specs.Prelude.{ℕ, Option, None, Some}
use Rattle.parts.specs.declared.asked.BlockQuestion.{BlockQuestion}
use Rattle.parts.specs.declared.asked.BlockQuestion.TheVariants.{Names, IteratorNames, Strings, Loops, Targets, EmptyTargets, Parameters, Init, ListLengths}

unfoldable pub number_asked : BlockQuestion → ℕ
number_asked Names = 7
number_asked IteratorNames = 33
number_asked Strings = 8
number_asked Loops = 9
number_asked Targets = 10
number_asked EmptyTargets = 36
number_asked Parameters = 11
number_asked Init = 12
number_asked ListLengths = 13

unfoldable pub question_place : BlockQuestion → ℕ
question_place Names = 0
question_place IteratorNames = 1
question_place Strings = 2
question_place Loops = 3
question_place Targets = 4
question_place EmptyTargets = 5
question_place Parameters = 6
question_place Init = 7
question_place ListLengths = 8

-- how many stand, by the first that is answered no
unfoldable pub stand : Option BlockQuestion → ℕ
stand None = 9
stand (Some q) = question_place q
