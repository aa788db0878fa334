-- What R-8's tool can give: a search finds short answers for each place that some answers reach.
use mathlib.Core.Path.{◌≡◌, refl, sym, ap, ◌∙◌}
use mathlib.Core.Bool.{Bool, true, false}
use mathlib.Core.Option.{Option, none, some}
use mathlib.Core.List.{List}
use Prim.Native.Nat.{ℕ, zero, suc, ◌+◌, ◌*◌, ◌≤◌, ◌<◌}
use native.Mathlib.Omega.{arith}
use lib.ListN.{length, get_or, replicate, length-replicate}
use lib.Dec.{eqb, leb, ltb}
use borrow.Author.Tests.{eqb-true, leb-true, leb-false, le-leb}
use Rattle.definitions.specs.Bytes.{Answer, refused, accepted, when_accepted}
use Rattle.definitions.specs.Instruction.{Instr, Return, Flow, straight, jump, returns, question, flow}
use Rattle.definitions.specs.Tables.{Function, Tables}
use Rattle.definitions.specs.Reader.{code_stands, read_module}
use Rattle.definitions.specs.Run.{Ran, run}
use Rattle.definitions.specs.Calls.{function_of, events_fit, run_function, run_answer}
use Rattle.definitions.specs.Sheet.{tally, is_question}
use Rattle.definitions.specs.Reach.{Brings, wide_area, room_asked, place_asked, sought, Finds}
use Rattle.definitions.specs.Search.{Next, straight_on, jumps_to, on_no, on_yes, Table, Marks, expand, Swept, link_mark, by_link}
use Rattle.definitions.specs.Statements.{AlwaysFound, ShortAnswers, NoneExactly, FoundRuns}
use Rattle.definitions.proofs.Truth.{not_equal}
use Rattle.definitions.proofs.Lowered.{when-accepted}
use Rattle.definitions.proofs.Stays.{Lands, ends_some, function-ends, function-lands}
use Rattle.definitions.proofs.Trails.{search_tells, nowhere}
use Rattle.definitions.proofs.Sweeping.{Sweeping, mark_of, Given, sweep-on, swept, sweep-start}

-- ---- marks that tell the way

-- those of the places after x
abbrev pub links_from : ℕ → Marks
links_from x = record { on = 1 + 4 * x; no₀ = 1 + 4 * x + 1; yes₁ = 1 + 4 * x + 2 }

links-by : (f : Flow) (x a k q : ℕ) → Next f x a k q → mark_of (links_from x) k ≡ link_mark x k
unfolding mark_of link_mark
links-by straight x a k q straight_on = omega arith
links-by jump x a k q jumps_to = omega arith
links-by (question b) x a k q on_no = omega arith
links-by (question b) x a k q on_yes = omega arith
links-by returns x a k q x3 = elim x3 [ ]

pub links-given : (code : List Instr) (v x : ℕ) → Given by_link code (links_from x) v x
links-given code v x = record { links = λ k q y. links-by (flow (get_or code x Return).op) x (get_or code x Return).a k q y }

-- ---- a search ends

choose : {C : Type 0} (m n : ℕ) (b : Bool) → leb m n ≡ b → (m ≤ n → C) → (n < m → C) → C
choose m n true e f g = f (leb-true m n e)
choose m n false e f g = g (leb-false m n e)

sweep-from : (code : List Instr) → Lands code → (fuel head : ℕ) (s : Table) → Sweeping by_link code head s → length code ≤ fuel + head → (marks : List ℕ) × Swept by_link code marks
sweep-from code L zero head s W l = (s.marks, swept by_link code head s W (let w = W.searching.within in omega arith))
sweep-from code L (suc n) head s W l =
    let p = get_or s.queue head 0 in
    choose s.tail head (leb s.tail head) refl
    (λ h. (s.marks, swept by_link code head s W h))
    (λ h. sweep-from code L n (head + 1) (expand code (links_from p) p s) (sweep-on by_link code L head s W h (links_from p) (links-given code (get_or s.marks p 0) p)) (omega arith))

pub zeros-at : (n i : ℕ) → get_or (replicate {A = ℕ} n 0) i 0 ≡ 0
zeros-at zero i = refl
zeros-at (suc n) zero = refl
zeros-at (suc n) (suc i) = zeros-at n i

swept-code : (g : Function) → code_stands g ≡ true → (marks : List ℕ) × Swept by_link g.code marks
swept-code g e =
    let n = length g.code in
    let z = replicate {A = ℕ} n 0 in
    sweep-from g.code (function-lands g e) n 0 _
    (sweep-start by_link g.code z z (length-replicate n 0) (length-replicate n 0) (ends_some g.code (function-ends g e)) (zeros-at n)) (omega arith)

-- ---- what is found

pub always_found : AlwaysFound
unfolding Finds
always_found g e place = go (eqb (get_or S.0 place 0) 0) refl
  where
    S : (marks : List ℕ) × Swept by_link g.code marks
    S = swept-code g e

    go : (b : Bool) → eqb (get_or S.0 place 0) 0 ≡ b → (found : Option (List ℕ)) × Finds (accepted g.code) place found
    go true h = (none, nowhere by_link g.code S.0 S.1 place (eqb-true (get_or S.0 place 0) 0 h))
    go false h = let B = (search_tells by_link g.code S.0 S.1).sound place (not_equal (get_or S.0 place 0) 0 h) in (some B.0, B.1)

pub short_answers : ShortAnswers
unfolding Finds
short_answers g e place r = go (always_found g e place).0 (always_found g e place).1
  where
    go : (found : Option (List ℕ)) → Finds (accepted g.code) place found → (answers : List ℕ) × Brings g.code place answers
    go none F = absurd (F r)
    go (some ys) F = (ys, F)

pub none_exactly : NoneExactly
unfolding Finds
none_exactly code place none F = (λ e. F, λ N. refl)
none_exactly code place (some ys) F = (
  λ e. let z : ◌≡◌ {A = ℕ} 0 1 = cc in absurd (omega arith),
  λ N. absurd (N (record { answers = ys; budget = length code; met = F.met (length code) (omega arith) })),
)

-- ---- the run takes the answers

asked-code : (place room : ℕ) (g : Function) (code : List Instr) → place_asked place room g ≡ accepted code → code ≡ g.code
unfolding place_asked room_asked
asked-code place room g code e = go (ltb place (length g.code)) (leb (tally is_question g.code) room) e
  where
    go : (b c : Bool) → (elim b as (λ z. Answer (List Instr)) [ false ↦ refused 34 | true ↦ elim c as (λ z. Answer (List Instr)) [ false ↦ refused 35 | true ↦ accepted g.code ] ]) ≡ accepted code → code ≡ g.code
    go false c h = let z : ◌≡◌ {A = ℕ} 0 1 = cc in absurd (omega arith)
    go true false h = let z : ◌≡◌ {A = ℕ} 0 1 = cc in absurd (omega arith)
    go true true h = let z : g.code ≡ code = cc in sym z

sought-module : (n : ℕ) (m : List ℕ) (f place room : ℕ) (code : List Instr) → sought n m f place room ≡ accepted code
    → when_accepted (read_module m) (λ t. when_accepted (function_of t f) (place_asked place room)) ≡ accepted code
unfolding sought
sought-module n m f place room code e = go (wide_area n) e
  where
    go : (b : Bool) → (elim b as (λ z. Answer (List Instr)) [ false ↦ refused 1 | true ↦ when_accepted (read_module m) (λ t. when_accepted (function_of t f) (place_asked place room)) ]) ≡ accepted code
        → when_accepted (read_module m) (λ t. when_accepted (function_of t f) (place_asked place room)) ≡ accepted code
    go false h = let z : ◌≡◌ {A = ℕ} 0 1 = cc in absurd (omega arith)
    go true h = h

pub found_runs : FoundRuns
unfolding run_answer run_function events_fit when_accepted
found_runs n m f place room code e answers B budget buffer l =
    let M = when-accepted (read_module m) _ code (sought-module n m f place room code e) in
    let F = when-accepted (function_of M.0 f) _ code M.2 in
    let c = asked-code place room F.0 code F.2 in
    let r = run budget code 0 answers in
    ap (λ (x : Answer Tables). when_accepted x (λ t. when_accepted (function_of t f) (run_function answers budget buffer))) M.1
    ∙ ap (λ (x : Answer Function). when_accepted x (run_function answers budget buffer)) F.1
    ∙ ap (λ (x : Bool). elim x as (λ z. Answer Ran) [ false ↦ refused 23 | true ↦ events_fit buffer (run budget F.0.code 0 answers) ]) B.are
    ∙ ap (λ (is : List Instr). events_fit buffer (run budget is 0 answers)) (sym c)
    ∙ ap (λ (x : Bool). elim x as (λ z. Answer Ran) [ true ↦ accepted r | false ↦ refused 24 ]) (le-leb (length r.events) buffer l)
