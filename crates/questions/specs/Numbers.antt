-- The questions by their numbers.
use Rattle.std.specs.Prelude.{ℕ}
use Rattle.questions.specs.declared.Question.{Question}
use Rattle.questions.specs.declared.Question.TheVariants.{WorkAreas, TreeSize, TreeCount, TreeVersion, TreeLayout, Depth, Names, Strings, Loops}
use Rattle.questions.specs.declared.Question.TheVariants.{Targets, Parameters, Init, ListLengths, Slots, Limits, ModuleRoom, ModuleSize}
use Rattle.questions.specs.declared.Question.TheVariants.{ModuleVersion, ModuleLayout, Numbers, Jumps, Function, Answers, EventRoom, ListingRoom}
use Rattle.questions.specs.declared.Question.TheVariants.{SheetRoom, IteratorNames, Place, AnswerRoom, EmptyTargets, Heights, CutRoom}

-- the number of each question
unfoldable pub number : Question → ℕ
number WorkAreas = 1
number TreeSize = 2
number TreeCount = 3
number TreeVersion = 4
number TreeLayout = 5
number Depth = 6
number Names = 7
number Strings = 8
number Loops = 9
number Targets = 10
number Parameters = 11
number Init = 12
number ListLengths = 13
number Slots = 14
number Limits = 15
number ModuleRoom = 16
number ModuleSize = 17
number ModuleVersion = 18
number ModuleLayout = 19
number Numbers = 20
number Jumps = 21
number Function = 22
number Answers = 23
number EventRoom = 24
number ListingRoom = 31
number SheetRoom = 32
number IteratorNames = 33
number Place = 34
number AnswerRoom = 35
number EmptyTargets = 36
number Heights = 37
number CutRoom = 38
