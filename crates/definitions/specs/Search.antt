-- A search of the places of a function's code that some answers bring a run to: a queue of places, and a mark for each place, which says how it was met
-- first. A means of proof and of the code's promises (R-8, R-10), nothing that has to be believed: SearchTells (Statements) says what marks tell.
use Rattle.std.specs.Prelude.{ℕ, zero, suc, ◌+◌, ◌*◌, ◌≤◌, ◌<◌, ◌≡◌, Bool, true, false, List, [], ◌∷◌, ◌++◌, length, get_or, set, eqb}
use Rattle.std.proofs.Common.{arith}
use Rattle.definitions.specs.Instruction.{Instr, Return, Flow, straight, jump, returns, question, flow}
use Rattle.definitions.specs.Reader.{landing}
use Rattle.definitions.specs.Run.{way}
use Rattle.definitions.specs.Sheet.{is_question, one_if, tally}

-- ---- from place to place

-- where an instruction goes on, by its flow: from place p with the operand a, on the answer of tag k (0 none, 1 a no, 2 a yes), to q
pub data Next : Flow → ℕ → ℕ → ℕ → ℕ → Type 0 where
  straight_on : {p a : ℕ} → Next straight p a 0 (suc p)
  jumps_to : {p a : ℕ} → Next jump p a 0 (landing p a)
  on_no : {b : Bool} {p a : ℕ} → Next (question b) p a 1 (way b false p a)
  on_yes : {b : Bool} {p a : ℕ} → Next (question b) p a 2 (way b true p a)

-- the instruction at place p does
abbrev pub Step : List Instr → ℕ → ℕ → ℕ → Type 0
Step code p k q = Next (flow (get_or code p Return).op) p (get_or code p Return).a k q

-- the answers of a tag
unfoldable pub answers_of : ℕ → List ℕ
answers_of zero = []
answers_of (suc k) = k ∷ []

-- how many answers the instruction at p takes
unfoldable pub asks : List Instr → ℕ → ℕ
asks code p = one_if (is_question (get_or code p Return).op)

-- ---- the search

-- the queue, of which the first `tail` places are used, and the marks: 0 for a place that was not met
pub record Table : Type 0 where
  pub queue : List ℕ
  pub marks : List ℕ
  pub tail : ℕ

-- a place q is met: where it has no mark yet, it gets the mark m and stands in the queue
unfoldable pub meet : ℕ → ℕ → Table → Table
meet m q s =
    elim (eqb (get_or s.marks q 0) 0) [
      | true ↦ record { queue = set s.queue s.tail q; marks = set s.marks q m; tail = s.tail + 1 }
      | false ↦ s
    ]

-- the marks that an instruction gives: straight on or by a jump, on a no, on a yes
pub record Marks : Type 0 where
  pub on : ℕ
  pub no₀ : ℕ
  pub yes₁ : ℕ

-- the places after p are met
unfoldable pub expand_by : Flow → Marks → ℕ → ℕ → Table → Table
expand_by straight m p a s = meet m.on (suc p) s
expand_by jump m p a s = meet m.on (landing p a) s
expand_by returns m p a s = s
expand_by (question b) m p a s = meet m.yes₁ (way b true p a) (meet m.no₀ (way b false p a) s)

unfoldable pub expand : List Instr → Marks → ℕ → Table → Table
expand code m p s = let i = get_or code p Return in expand_by (flow i.op) m p i.a s

-- ---- what the marks tell

-- what marks say: that of place 0; and that of a place q which was met from p by the tag k: link says how it follows from p's mark. No mark is 0
pub record Rule : Type 1 where
  pub root : ℕ
  pub link : ℕ → ℕ → ℕ → ℕ → Type 0
  pub some₀ : root ≡ 0 → ⊥
  pub some : (m p k v : ℕ) → link m p k v → v ≡ 0 → ⊥

-- the marks lead from q back to place 0: the answers that bring a run to q, and the steps before it
pub data Chain (R : Rule) (code : List Instr) (marks : List ℕ) : ℕ → List ℕ → ℕ → Type 0 where
  begins : get_or marks 0 0 ≡ R.root → Chain R code marks 0 [] 0
  goes : {p q k n : ℕ} {ys : List ℕ} → Step code p k q → R.link (get_or marks p 0) p k (get_or marks q 0) → Chain R code marks p ys n → Chain R code marks q (ys ++ answers_of k) (suc n)

-- a way to q that takes no more answers than the code has questions, q's own answer included, and fewer steps than the code has instructions
pub record Way (R : Rule) (code : List Instr) (marks : List ℕ) (q : ℕ) : Type 0 where
  pub answers : List ℕ
  pub steps : ℕ
  pub chain : Chain R code marks q answers steps
  pub short : length answers + asks code q ≤ tally is_question code
  pub soon : steps < length code

-- a search that is done: place 0 is marked, the places after a marked one are, and each marked one has a way
pub record Swept (R : Rule) (code : List Instr) (marks : List ℕ) : Type 0 where
  pub long : length marks ≡ length code
  pub root : get_or marks 0 0 ≡ R.root
  pub closed : (p k q : ℕ) → (get_or marks p 0 ≡ 0 → ⊥) → Step code p k q → get_or marks q 0 ≡ 0 → ⊥
  pub ways : (q : ℕ) → (get_or marks q 0 ≡ 0 → ⊥) → Way R code marks q

-- ---- a table of n places

-- the weights of the marked places, from place p on
unfoldable pub weigh : (ℕ → ℕ) → ℕ → List ℕ → ℕ
weigh f p [] = 0
weigh f p (m ∷ ms) = elim (eqb m 0) [ true ↦ weigh f (suc p) ms | false ↦ f p + weigh f (suc p) ms ]

-- as many places are in the queue as are marked, so there is room for the others
pub record Tabled (n : ℕ) (s : Table) : Type 0 where
  pub queue_long : length s.queue ≡ n
  pub marks-long : length s.marks ≡ n
  pub within : s.tail ≤ n
  pub counts : weigh (λ x. 1) 0 s.marks ≡ s.tail

-- ---- R-8: a mark tells the place before and the tag

unfoldable pub link_mark : ℕ → ℕ → ℕ
link_mark p k = 1 + (4 * p + k)

pub link_some : (p k v : ℕ) → v ≡ link_mark p k → v ≡ 0 → ⊥
unfolding link_mark
link_some p k v h e = omega arith

-- place 0 has the mark 4, which is no link: its tag would be 3
abbrev pub by_link : Rule
by_link = record { root = 4; link = λ m p k v. v ≡ link_mark p k; some₀ = λ e. omega arith; some = λ m p k v h e. link_some p k v h e }
