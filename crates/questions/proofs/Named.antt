-- A question is known by its number.
use Prim.Native.Nat.{ℕ}
use mathlib.Core.Path.{◌≡◌, refl, sym, ap, ◌∙◌}
use mathlib.Core.List.{List, [], ◌∷◌}
use lib.ListN.{get_or}
use Rattle.questions.specs.declared.Question.{Question}
use Rattle.questions.specs.declared.Question.TheVariants.{WorkAreas, TreeSize, TreeCount, TreeVersion, TreeLayout, Depth, Names, Strings, Loops}
use Rattle.questions.specs.declared.Question.TheVariants.{Targets, Parameters, Init, ListLengths, Slots, Limits, ModuleRoom, ModuleSize}
use Rattle.questions.specs.declared.Question.TheVariants.{ModuleVersion, ModuleLayout, Numbers, Jumps, Function, Answers, EventRoom, ListingRoom}
use Rattle.questions.specs.declared.Question.TheVariants.{SheetRoom, IteratorNames, Place, AnswerRoom, EmptyTargets, Heights, CutRoom}
use Rattle.questions.specs.Numbers.{number}

-- the questions at their numbers; the first where no question has the number
by_number : List Question
by_number =
    WorkAreas ∷ WorkAreas ∷ TreeSize ∷ TreeCount ∷ TreeVersion ∷ TreeLayout
    ∷ Depth ∷ Names ∷ Strings ∷ Loops ∷ Targets ∷ Parameters
    ∷ Init ∷ ListLengths ∷ Slots ∷ Limits ∷ ModuleRoom ∷ ModuleSize
    ∷ ModuleVersion ∷ ModuleLayout ∷ Numbers ∷ Jumps ∷ Function ∷ Answers
    ∷ EventRoom ∷ WorkAreas ∷ WorkAreas ∷ WorkAreas ∷ WorkAreas ∷ WorkAreas
    ∷ WorkAreas ∷ ListingRoom ∷ SheetRoom ∷ IteratorNames ∷ Place ∷ AnswerRoom
    ∷ EmptyTargets ∷ Heights ∷ CutRoom ∷ []

named : (q : Question) → get_or by_number (number q) WorkAreas ≡ q
unfolding by_number number
named WorkAreas = refl
named TreeSize = refl
named TreeCount = refl
named TreeVersion = refl
named TreeLayout = refl
named Depth = refl
named Names = refl
named Strings = refl
named Loops = refl
named Targets = refl
named Parameters = refl
named Init = refl
named ListLengths = refl
named Slots = refl
named Limits = refl
named ModuleRoom = refl
named ModuleSize = refl
named ModuleVersion = refl
named ModuleLayout = refl
named Numbers = refl
named Jumps = refl
named Function = refl
named Answers = refl
named EventRoom = refl
named ListingRoom = refl
named SheetRoom = refl
named IteratorNames = refl
named Place = refl
named AnswerRoom = refl
named EmptyTargets = refl
named Heights = refl
named CutRoom = refl

pub number-same : (p q : Question) → number p ≡ number q → p ≡ q
number-same p q e = sym (named p) ∙ ap (λ (n : ℕ). get_or by_number n WorkAreas) e ∙ named q
