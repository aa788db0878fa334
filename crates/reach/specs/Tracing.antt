-- The way that the marks of a search show, back from a place. Assumes nothing: these are definitions.
use Rattle.std.specs.Prelude.{ℕ, zero, suc, ◌≡◌, ◌+◌, ◌-◌, ◌/◌, ◌%◌, ◌≤◌, ◌<◌, true, false, List, [], ◌∷◌, ◌++◌, length, get_or, set, take, drop, eqb, MatchOption}
use Rattle.std.specs.Prelude.{Some, None}
use Rattle.std.specs.Prelude.{Option as Opt}
use Rattle.definitions.specs.Instruction.{Instr}
use Rattle.definitions.specs.Search.{answers_of, Way, Chain, by_link}
use Rattle.search.specs.View.{marks_of}
use Rattle.reach.specs.declared.trace.Steps.{Steps}

-- of a mark: the place before, and the tag
unfoldable pub before_of : ℕ → ℕ
before_of m = (m - 1) / 4

unfoldable pub tag_of : ℕ → ℕ
tag_of m = (m - 1) % 4

-- the answer of a tag, and an answer as a list
unfoldable pub answer_by : ℕ → Opt ℕ
answer_by zero = None
answer_by (suc k) = Some k

unfoldable pub listed : Opt ℕ → List ℕ
listed None = []
listed (Some a) = a ∷ []

-- the answers on the way to a place, of fewer than n steps
unfoldable pub trace : ℕ → List ℕ → ℕ → List ℕ
trace zero marks q = []
trace (suc n) marks q =
    elim (eqb (get_or marks q 0) 4) [ true ↦ [] | false ↦ trace n marks (before_of (get_or marks q 0)) ++ answers_of (tag_of (get_or marks q 0)) ]

-- by the marks in an area
unfoldable pub way_to : List ℕ → ℕ → List ℕ
way_to area place = trace 65536 (drop 65536 area) place

-- the marks of some code show a way to the place
pub record Traceable (area : List ℕ) (place : ℕ) : Type 0 where
  pub code : List Instr
  pub few : length code < 65536
  pub long : 131072 ≤ length area
  pub way : Way by_link code (marks_of (length code) area) place

-- a place on a way, by the marks of the first n places
pub record Onward (code : List Instr) (n : ℕ) (all : List ℕ) (p : ℕ) : Type 0 where
  pub answers : List ℕ
  pub steps : ℕ
  pub chain : Chain by_link code (take n all) p answers steps
  pub soon : steps < 65536

-- by the marks in an area
pub record Going (area : List ℕ) (p : ℕ) : Type 0 where
  pub code : List Instr
  pub few : length code < 65536
  pub long : 131072 ≤ length area
  pub on : Onward code (length code) (drop 65536 area) p

-- the steps back from a place, fewer than n; and by the marks in an area
unfoldable pub hops : ℕ → List ℕ → ℕ → ℕ
hops zero marks q = 0
hops (suc n) marks q = elim (eqb (get_or marks q 0) 4) [ true ↦ 0 | false ↦ suc (hops n marks (before_of (get_or marks q 0))) ]

unfoldable pub steps_to : List ℕ → ℕ → ℕ
steps_to area place = hops 65536 (drop 65536 area) place

-- an iteration may go on from a place on a way
abbrev pub OnWay : Steps → Type 0
OnWay s = Going s.area.now s.place

abbrev pub steps_left : Steps → ℕ
steps_left s = steps_to s.area.now s.place

abbrev pub mark_at : Steps → ℕ
mark_at s = get_or s.area.now (65536 + s.place) 0

-- each call gives the answer of a step and goes to the place before it; none at place 0
abbrev pub Backs : Steps → Opt (Opt ℕ) → Steps → Type 0
Backs s r t = MatchOption r (mark_at s ≡ 4) (λ a. (mark_at s ≡ 4 → ⊥) × (a ≡ answer_by (tag_of (mark_at s))) × (t.area ≡ s.area) × (t.place ≡ before_of (mark_at s)))

-- an answer before `at`, if there is one; and by its tag
unfoldable pub put_by : Opt ℕ → ℕ → List ℕ → List ℕ
put_by None at out = out
put_by (Some a) at out = set out (at - 1) a

unfoldable pub put_back : ℕ → ℕ → List ℕ → List ℕ
put_back zero at out = out
put_back (suc k) at out = set out (at - 1) k
