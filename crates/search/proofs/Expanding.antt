-- The places after one place, by its instruction. Assumes nothing.
use Prim.Native.Nat.{ℕ, ◌+◌, ◌<◌, ◌≤◌}
use mathlib.Core.Path.{◌≡◌, sym, ap, ap₂, ◌∙◌, subst}
use mathlib.Core.Bool.{true, false}
use mathlib.Core.List.{List}
use native.Mathlib.Omega.{arith}
use native.Mathlib.Numerals.{add-one}
use lib.Dec.{eqb}
use lib.ListN.{length, get_or}
use Rattle.definitions.specs.Instruction.{Instr, Return, first_width}
use Rattle.definitions.specs.Reader.{landing}
use Rattle.definitions.specs.Instruction.{Flow, straight, jump, returns, question, flow}
use Rattle.definitions.specs.Run.{way}
use Rattle.definitions.specs.Search.{Next, straight_on, jumps_to, on_no, on_yes, Step, Table, Marks, meet, expand_by, expand, Tabled}
use Rattle.definitions.proofs.Flows.{stop-jumps, jump-width, flow-jump, flow-returns, flow-question}
use Rattle.definitions.proofs.Stays.{Lands, code-lands}
use Rattle.definitions.proofs.Sweeping.{tabled-room, tabled-meet}
use Rattle.reader.specs.View.{number_at, instructions_of, start_of}
use Rattle.run.specs.Tables.{Coded}
use Rattle.run.proofs.Coding.{op-here, operand-here}
use Rattle.search.specs.View.{table_in, Meetable, Meets, Expandable}
use Rattle.search.proofs.Viewing.{mark-at}

pub coded-lands : (c : List ℕ) → Coded c → Lands (instructions_of c)
coded-lands c h = code-lands (instructions_of c) h.ends h.land

-- the instruction at place p; the table of a function's places
abbrev here : List ℕ → ℕ → Instr
here c p = get_or (instructions_of c) p Return

abbrev seen : List ℕ → List ℕ → ℕ → Table
seen c area tail = table_in (length (instructions_of c)) area tail

-- the instruction at place p begins at `at` and has the opcode o
pub record Found (c table area : List ℕ) (tail p : ℕ) (m : Marks) (at o : ℕ) : Type 0 where
  pub can : Expandable c table area tail p m
  pub starts : at ≡ start_of (instructions_of c) p
  pub op : o ≡ (here c p).op

-- it is a jump or a question with the operand a
pub record Turning (c table area : List ℕ) (tail p : ℕ) (m : Marks) (at o a : ℕ) : Type 0 where
  pub found : Found c table area tail p m at o
  pub stops : flow o ≡ straight → ⊥
  pub goes-on : o ≡ 33 → ⊥
  pub operand : a ≡ (here c p).a

module _ {c table area : List ℕ} {tail p : ℕ} {m : Marks} where
  -- ---- at the place p

  pub place-small : Expandable c table area tail p m → p < 65536
  place-small E = let a = E.place in let b = E.coded.few in omega arith

  pub in_table : Expandable c table area tail p m → p < length table
  in_table E = let a = E.place in let b = E.starts.long in omega arith

  pub begins-in : Expandable c table area tail p m → (at : ℕ) → at ≡ get_or table p 0 → at < length c
  begins-in E at e = subst (λ (x : ℕ). x < length c) (sym (e ∙ E.starts.at p E.place)) (op-here c E.coded p E.place).0

  pub found : Expandable c table area tail p m → (at : ℕ) → at ≡ get_or table p 0 → Found c table area tail p m at (get_or c at 0)
  found E at e =
      let s = e ∙ E.starts.at p E.place in
      record { can = E; starts = s; op = ap (λ (x : ℕ). get_or c x 0) s ∙ (op-here c E.coded p E.place).1 }

  -- ---- what is asked of a place that is met

  inside : Expandable c table area tail p m → (k q : ℕ) → Step (instructions_of c) p k q → q < length (instructions_of c)
  inside E k q x = (coded-lands c E.coded).at p E.place k q x

  free : Expandable c table area tail p m → (k q : ℕ) → Step (instructions_of c) p k q → get_or area (65536 + q) 0 ≡ 0 → tail < length (instructions_of c)
  unfolding table_in
  free E k q x e = let to = inside E k q x in tabled-room (length (instructions_of c)) (seen c area tail) E.tabled q to (mark-at (length (instructions_of c)) area q to ∙ e)

  pub meetable : {k q : ℕ} → Expandable c table area tail p m → Step (instructions_of c) p k q → Meetable area tail q
  meetable {k} {q} E x =
      let to = inside E k q x in let few = E.coded.few in
      record { long = E.long; to = omega arith; room = λ e. let t = free E k q x e in omega arith }

  -- it is met in the table
  met : {k q v r : ℕ} {area' : List ℕ} → Expandable c table area tail p m → Step (instructions_of c) p k q → Meets r area area' tail v q → seen c area' r ≡ meet v q (seen c area tail)
  met {k} {q} E x M = M.in_table (length (instructions_of c)) E.coded.few (inside E k q x) (free E k q x)

  -- and after a no another place may be met
  pub again : {k q r : ℕ} {area' : List ℕ} → Expandable c table area tail p m → Step (instructions_of c) p k q → length area' ≡ length area → Meets r area area' tail m.no₀ q
      → Expandable c table area' r p m
  again {k} {q} {r} {area'} E x l M = record {
    coded = E.coded;
    starts = E.starts;
    long = let z = E.long in omega arith;
    tabled = subst (λ (t : Table). Tabled (length (instructions_of c)) t) (sym (met E x M)) (tabled-meet (length (instructions_of c)) (seen c area tail) E.tabled q (inside E k q x) m.no₀ E.some);
    place = E.place;
    some = E.some;
  }

  -- ---- by the flow of the instruction

  by : {at o : ℕ} → Found c table area tail p m at o → (f : Flow) → flow o ≡ f → expand (instructions_of c) m p (seen c area tail) ≡ expand_by f m p (here c p).a (seen c area tail)
  unfolding expand
  by F f e = ap (λ (g : Flow). expand_by g m p (here c p).a (seen c area tail)) (ap flow (sym F.op) ∙ e)

  goes_by : {at o k q : ℕ} → Found c table area tail p m at o → (f : Flow) → flow o ≡ f → Next f p (here c p).a k q → Step (instructions_of c) p k q
  goes_by {k = k} {q} F f e x = subst (λ (g : Flow). Next g p (here c p).a k q) (sym (ap flow (sym F.op) ∙ e)) x

  -- a Return: nothing more
  pub at_return : {at o : ℕ} → Found c table area tail p m at o → o ≡ 33 → (seen c area tail) ≡ expand (instructions_of c) m p (seen c area tail)
  unfolding expand_by
  at_return {o = o} F e = sym (by F returns (flow-returns o e))

  -- straight on
  pub straight-goes : {at o : ℕ} → Found c table area tail p m at o → flow o ≡ straight → Step (instructions_of c) p 0 (p + 1)
  straight-goes F e = subst (λ (q : ℕ). Step (instructions_of c) p 0 q) (sym (add-one p)) (goes_by F straight e straight_on)

  pub at-straight : {at o r : ℕ} {area' : List ℕ} → Found c table area tail p m at o → flow o ≡ straight → Meets r area area' tail m.on (p + 1) → seen c area' r ≡ expand (instructions_of c) m p (seen c area tail)
  unfolding expand_by
  at-straight F e M = met F.can (straight-goes F e) M ∙ ap (λ (q : ℕ). meet m.on q (seen c area tail)) (add-one p) ∙ sym (by F straight e)

  -- ---- a jump or a question, with its operand

  operand : {at o : ℕ} → Found c table area tail p m at o → (flow o ≡ straight → ⊥) → (o ≡ 33 → ⊥) → (start_of (instructions_of c) p + 1 + 4 ≤ length c) × (number_at 4 c (start_of (instructions_of c) p + 1) ≡ (here c p).a)
  operand {o = o} F s r =
      let w = stop-jumps o s r in
      operand-here c F.can.coded p F.can.place (ap first_width (sym F.op) ∙ jump-width o w.0 w.1)

  pub operand_in : {at o : ℕ} → Found c table area tail p m at o → (flow o ≡ straight → ⊥) → (o ≡ 33 → ⊥) → at + 1 + 4 ≤ length c
  operand_in F s r = subst (λ (x : ℕ). x + 1 + 4 ≤ length c) (sym F.starts) (operand F s r).0

  pub turning : {at o a : ℕ} → Found c table area tail p m at o → (flow o ≡ straight → ⊥) → (o ≡ 33 → ⊥) → a ≡ number_at 4 c (at + 1) → Turning c table area tail p m at o a
  turning {at} {o} {a} F s r e = record {
    found = F;
    stops = s;
    goes-on = r;
    operand = e ∙ ap (λ (x : ℕ). number_at 4 c (x + 1)) F.starts ∙ (operand F s r).1;
  }

  pub jump_goes : {at o a q : ℕ} → Turning c table area tail p m at o a → o ≡ 28 → q ≡ landing p a → Step (instructions_of c) p 0 q
  jump_goes {o = o} T e f =
      subst (λ (r : ℕ). Step (instructions_of c) p 0 r) (ap (landing p) (sym T.operand) ∙ sym f) (goes_by T.found jump (flow-jump o e) jumps_to)

  pub at-jump : {at o a q r : ℕ} {area' : List ℕ} → Turning c table area tail p m at o a → o ≡ 28 → q ≡ landing p a → Meets r area area' tail m.on q → seen c area' r ≡ expand (instructions_of c) m p (seen c area tail)
  unfolding expand_by
  at-jump {o = o} T e f M =
      met T.found.can (jump_goes T e f) M ∙ ap (λ (r : ℕ). meet m.on r (seen c area tail)) (f ∙ ap (landing p) T.operand) ∙ sym (by T.found jump (flow-jump o e))

  asks : {at o a : ℕ} → Turning c table area tail p m at o a → (o ≡ 28 → ⊥) → flow o ≡ question (eqb o 30)
  asks {o = o} T j = let w = stop-jumps o T.stops T.goes-on in flow-question o w.0 w.1 j

  pub no-goes : {at o a q : ℕ} → Turning c table area tail p m at o a → (o ≡ 28 → ⊥) → q ≡ way (eqb o 30) (eqb 0 1) p a → Step (instructions_of c) p 1 q
  no-goes {o = o} T j f =
      subst (λ (x : ℕ). Step (instructions_of c) p 1 x) (ap (way (eqb o 30) false p) (sym T.operand) ∙ sym f) (goes_by T.found (question (eqb o 30)) (asks T j) on_no)

  pub yes-goes : {at o a q : ℕ} → Turning c table area tail p m at o a → (o ≡ 28 → ⊥) → q ≡ way (eqb o 30) (eqb 1 1) p a → Step (instructions_of c) p 2 q
  yes-goes {o = o} T j f =
      subst (λ (x : ℕ). Step (instructions_of c) p 2 x) (ap (way (eqb o 30) true p) (sym T.operand) ∙ sym f) (goes_by T.found (question (eqb o 30)) (asks T j) on_yes)

-- both ways of a question
pub at-question : {c table area mid area' : List ℕ} {tail p at o a q t more r : ℕ} {m : Marks} → Turning c table area tail p m at o a → (o ≡ 28 → ⊥)
    → q ≡ way (eqb o 30) (eqb 0 1) p a → t ≡ way (eqb o 30) (eqb 1 1) p a → length mid ≡ length area → Meets more area mid tail m.no₀ q → Meets r mid area' more m.yes₁ t
    → seen c area' r ≡ expand (instructions_of c) m p (seen c area tail)
unfolding expand_by
at-question {c} {area = area} {tail = tail} {p} {o = o} {q = q} {m = m} T j f g l M N =
    met (again T.found.can (no-goes T j f) l M) (yes-goes T j g) N
    ∙ ap₂ (λ (x : ℕ) (y : Table). meet m.yes₁ x y) (g ∙ ap (way (eqb o 30) true p) T.operand)
    (met T.found.can (no-goes T j f) M ∙ ap (λ (x : ℕ). meet m.no₀ x (seen c area tail)) (f ∙ ap (way (eqb o 30) false p) T.operand))
    ∙ sym (by T.found (question (eqb o 30)) (asks T j))
