-- What the marks of a search tell of runs: the marked places are those that some answers bring a run to.
use mathlib.Core.Path.{◌≡◌, refl, sym, ap, ◌∙◌, subst}
use mathlib.Core.Bool.{Bool, true, false, ◌&&◌, ◌||◌}
use mathlib.Core.List.{List, [], ◌∷◌, ◌++◌, append_assoc}
use Prim.Native.Nat.{ℕ, zero, suc, ◌+◌, ◌-◌}
use native.Mathlib.Nat.{zero-add}
use native.Mathlib.Omega.{arith}
use lib.ListN.{length, get_or, length-append}
use lib.Dec.{eqb, leb}
use borrow.Author.Tests.{eq-eqb, eqb-true}
use Rattle.definitions.specs.Bytes.{all}
use Rattle.definitions.specs.Instruction.{Instr, Return, Flow, straight, jump, returns, question, flow}
use Rattle.definitions.specs.Reader.{landing}
use Rattle.definitions.specs.Run.{way}
use Rattle.definitions.specs.Calls.{are_answers}
use Rattle.definitions.specs.Sheet.{is_question, one_if}
use Rattle.definitions.specs.Reach.{passing, places_met, is_among, meets, Reachable, Brings, Nowhere}
use Rattle.definitions.specs.Search.{Next, straight_on, jumps_to, on_no, on_yes, Step, answers_of, asks, Rule, Chain, begins, goes, Way, Swept}
use Rattle.definitions.specs.Statements.{SearchTells}
use Rattle.definitions.specs.Open.{flows}
use Rattle.definitions.proofs.Rows.{chosen, flow-is}

-- ---- membership

among_self : (xs : List ℕ) (n : ℕ) → is_among (n ∷ xs) n ≡ true
unfolding is_among
among_self xs n = ap (λ (b : Bool). elim b as (λ z. Bool) [ true ↦ true | false ↦ is_among xs n ]) (eq-eqb n n refl)

among-more : (x : ℕ) (xs : List ℕ) (n : ℕ) → is_among xs n ≡ true → is_among (x ∷ xs) n ≡ true
unfolding is_among
among-more x xs n h = go (eqb x n)
  where
    go : (b : Bool) → (elim b as (λ z. Bool) [ true ↦ true | false ↦ is_among xs n ]) ≡ true
    go true = refl
    go false = h

-- the first, or one of the others
pub among_cases : {C : Type 0} (x : ℕ) (xs : List ℕ) (n : ℕ) → (x ≡ n → C) → (is_among xs n ≡ true → C) → is_among (x ∷ xs) n ≡ true → C
unfolding is_among
among_cases {C} x xs n f g h = go (eqb x n) refl h
  where
    go : (b : Bool) → eqb x n ≡ b → (elim b as (λ z. Bool) [ true ↦ true | false ↦ is_among xs n ]) ≡ true → C
    go true e k = f (eqb-true x n e)
    go false e k = g k

-- ---- steps of a run

-- an instruction goes on as its flow says
on-by : (f : Flow) (i : Instr) (p a k q : ℕ) (zs : List ℕ) (go : ℕ → List ℕ → List ℕ) → i.a ≡ a → Next f p a k q → passing f i p (answers_of k ++ zs) go ≡ p ∷ go q zs
unfolding passing answers_of
on-by straight i p a k q zs go e straight_on = refl
on-by jump i p a k q zs go e jumps_to = ap (λ (b : ℕ). p ∷ go (landing p b) zs) e
on-by (question c) i p a k q zs go e on_no = ap (λ (b : ℕ). p ∷ go (way c false p b) zs) e
on-by (question c) i p a k q zs go e on_yes = ap (λ (b : ℕ). p ∷ go (way c true p b) zs) e
on-by returns i p a k q zs go e x'' = elim x'' [ ]

module _ (code : List Instr) where
  one_on : (m p k q : ℕ) (zs : List ℕ) → Step code p k q → places_met (suc m) code p (answers_of k ++ zs) ≡ p ∷ places_met m code q zs
  unfolding places_met
  one_on m p k q zs x = on-by (flow (get_or code p Return).op) (get_or code p Return) p (get_or code p Return).a k q zs (places_met m code) refl x

  module _ (R : Rule) (marks : List ℕ) where
    -- the way that the marks show is one of the run
    pub along : {q n : ℕ} {ys : List ℕ} → Chain R code marks q ys n → (m : ℕ) (zs : List ℕ) (t : ℕ) → is_among (places_met m code q zs) t ≡ true → is_among (places_met (n + m) code 0 (ys ++ zs)) t ≡ true
    along (begins e) m zs t h = subst (λ (k : ℕ). is_among (places_met k code 0 zs) t ≡ true) (sym (zero-add m)) h
    along (goes {p} {q} {k} {n} {ys} x e c) m zs t h =
        let u : is_among (places_met (suc m) code p (answers_of k ++ zs)) t ≡ true = subst (λ (l : List ℕ). is_among l t ≡ true) (sym (one_on m p k q zs x)) (among-more p (places_met m code q zs) t h) in
        let v = along c (suc m) (answers_of k ++ zs) t u in
        let w : n + suc m ≡ suc n + m = omega arith in
        subst (λ (l : List ℕ). is_among (places_met (suc n + m) code 0 l) t ≡ true) (sym (append_assoc ys (answers_of k) zs)) (subst (λ (j : ℕ). is_among (places_met j code 0 (ys ++ (answers_of k ++ zs))) t ≡ true) w v)

-- ---- questions

unfoldable pub asks_by : Flow → Bool
asks_by straight = false
asks_by jump = false
asks_by returns = false
asks_by (question b) = true

other-asks : (b c d : Bool) → (b || c) ≡ asks_by (chosen false b c d)
unfolding asks_by chosen
other-asks true c d = refl
other-asks false true d = refl
other-asks false false true = refl
other-asks false false false = refl

pub question-flow : (op : ℕ) → is_question op ≡ asks_by (flow op)
unfolding is_question flows asks_by
question-flow op = go (eqb op 28) refl
  where
    go : (a : Bool) → eqb op 28 ≡ a → is_question op ≡ asks_by (flow op)
    go true e = subst (λ (k : ℕ). is_question k ≡ asks_by (flow k)) (sym (eqb-true op 28 e)) refl
    go false e =
        other-asks (eqb op 29) (eqb op 30) (eqb op 33)
        ∙ ap (λ (a : Bool). asks_by (chosen a (eqb op 29) (eqb op 30) (eqb op 33))) (sym e) ∙ ap asks_by (sym (flow-is op))

-- an answer where there is a question, any one
unfoldable pub own : Bool → List ℕ
own true = 0 ∷ []
own false = []

unfoldable pub own_answers : List Instr → ℕ → List ℕ
own_answers code p = own (is_question (get_or code p Return).op)

-- a place is met at once, with an answer where it is a question
self-by : (f : Flow) (i : Instr) (p : ℕ) (go : ℕ → List ℕ → List ℕ) → is_among (passing f i p (own (asks_by f)) go) p ≡ true
unfolding passing own asks_by
self-by straight i p go = among_self _ p
self-by jump i p go = among_self _ p
self-by returns i p go = among_self _ p
self-by (question b) i p go = among_self _ p

-- the answers of a tag are answers, and as many as the instruction takes
tag-answers : (f : Flow) (p a k q : ℕ) → Next f p a k q → (are_answers (answers_of k) ≡ true) × (length (answers_of k) ≡ one_if (asks_by f))
unfolding answers_of are_answers all one_if asks_by
tag-answers straight p a k q straight_on = (refl, refl)
tag-answers jump p a k q jumps_to = (refl, refl)
tag-answers (question b) p a k q on_no = (refl, refl)
tag-answers (question b) p a k q on_yes = (refl, refl)
tag-answers returns p a k q x' = elim x' [ ]

answers-append : (xs ys : List ℕ) → are_answers xs ≡ true → are_answers ys ≡ true → are_answers (xs ++ ys) ≡ true
unfolding are_answers all
answers-append [] ys h k = k
answers-append (x ∷ xs) ys h k = go (leb x 1) h (λ e. answers-append xs ys e k)
  where
    go : (b : Bool) → (b && are_answers xs) ≡ true → (are_answers xs ≡ true → are_answers (xs ++ ys) ≡ true) → (b && are_answers (xs ++ ys)) ≡ true
    go true e f = f e
    go false e f = e

own-answers : (b : Bool) → (are_answers (own b) ≡ true) × (length (own b) ≡ one_if b)
unfolding own are_answers all one_if
own-answers true = (refl, refl)
own-answers false = (refl, refl)

module _ (code : List Instr) where
  self : (m p : ℕ) → is_among (places_met (suc m) code p (own_answers code p)) p ≡ true
  unfolding places_met own_answers
  self m p =
      let i = get_or code p Return in
      subst (λ (b : Bool). is_among (places_met (suc m) code p (own b)) p ≡ true) (sym (question-flow i.op)) (self-by (flow i.op) i p (places_met m code))

  -- how many answers a way from p takes
  pub takes : (p k q : ℕ) → Step code p k q → length (answers_of k) ≡ asks code p
  unfolding asks
  takes p k q x = (tag-answers (flow (get_or code p Return).op) p (get_or code p Return).a k q x).1 ∙ ap one_if (sym (question-flow (get_or code p Return).op))

  module _ (R : Rule) (marks : List ℕ) where
    chain-answers : {q n : ℕ} {ys : List ℕ} → Chain R code marks q ys n → are_answers ys ≡ true
    unfolding are_answers all
    chain-answers (begins e) = refl
    chain-answers (goes {p} {q} {k} {n} {ys} x e c) = answers-append ys (answers_of k) (chain-answers c) (tag-answers (flow (get_or code p Return).op) p (get_or code p Return).a k q x).0

    -- a marked place: its way, with its own answer, brings a run there
    pub brings : (q : ℕ) (w : Way R code marks q) → Brings code q (w.answers ++ own_answers code q)
    unfolding own_answers asks meets
    brings q w =
        let b = is_question (get_or code q Return).op in
        let l = length-append w.answers (own b) in let o = own-answers b in let s = w.short in let z = w.soon in
        record {
          are = answers-append w.answers (own b) (chain-answers w.chain) o.0;
          short = omega (arith, o.1);
          met = λ budget h.
              let m = budget - suc w.steps in
              let e : w.steps + suc m ≡ budget = omega arith in
              subst (λ (n : ℕ). is_among (places_met n code 0 (w.answers ++ own b)) q ≡ true) e (along code R marks w.chain (suc m) (own b) q (self m q));
        }

-- ---- a place that is met is marked

module _ (R : Rule) (code : List Instr) (marks : List ℕ) (s : Swept R code marks) where
  abbrev Marked : ℕ → Type 0
  Marked p = get_or marks p 0 ≡ 0 → ⊥

  stays_by : (f : Flow) (i : Instr) (p : ℕ) (answers : List ℕ) (go : ℕ → List ℕ → List ℕ) (t : ℕ) → Marked p → ((k q : ℕ) → Next f p i.a k q → Marked q)
      → ((q : ℕ) (rest : List ℕ) → Marked q → is_among (go q rest) t ≡ true → Marked t) → is_among (passing f i p answers go) t ≡ true → Marked t
  unfolding passing is_among
  stays_by straight i p xs go t h n r e = among_cases p (go (suc p) xs) t (λ z. subst Marked z h) (r (suc p) xs (n 0 (suc p) straight_on)) e
  stays_by jump i p xs go t h n r e = among_cases p (go (landing p i.a) xs) t (λ z. subst Marked z h) (r (landing p i.a) xs (n 0 (landing p i.a) jumps_to)) e
  stays_by returns i p xs go t h n r e = among_cases p [] t (λ z. subst Marked z h) (λ z. let y : ◌≡◌ {A = ℕ} 0 1 = cc in absurd (omega arith)) e
  stays_by (question b) i p [] go t h n r e = let y : ◌≡◌ {A = ℕ} 0 1 = cc in absurd (omega arith)
  stays_by (question b) i p (x ∷ xs) go t h n r e =
      among_cases p (go (way b (eqb x 1) p i.a) xs) t (λ z. subst Marked z h) (r (way b (eqb x 1) p i.a) xs (by (eqb x 1))) e
    where
      by : (y : Bool) → Marked (way b y p i.a)
      by false = n 1 (way b false p i.a) on_no
      by true = n 2 (way b true p i.a) on_yes

  stays : (budget p : ℕ) (answers : List ℕ) (t : ℕ) → Marked p → is_among (places_met budget code p answers) t ≡ true → Marked t
  unfolding places_met is_among
  stays zero p xs t h e = let y : ◌≡◌ {A = ℕ} 0 1 = cc in absurd (omega arith)
  stays (suc n) p xs t h e =
      stays_by (flow (get_or code p Return).op) (get_or code p Return) p xs (places_met n code) t h (λ k q x. s.closed p k q h x) (λ q rest g f. stays n q rest t g f) e

  -- a place that is met is marked
  pub marked : (place : ℕ) → Reachable code place → get_or marks place 0 ≡ 0 → ⊥
  unfolding meets
  marked place r = stays r.budget 0 r.answers place (λ z. R.some₀ (sym s.root ∙ z)) r.met

  -- so one without a mark is nowhere met
  pub nowhere : (place : ℕ) → get_or marks place 0 ≡ 0 → Nowhere code place
  nowhere place e r = marked place r e

pub search_tells : SearchTells
search_tells R code marks s = record {
  sound = λ q h. ((s.ways q h).answers ++ own_answers code q, brings code R marks q (s.ways q h));
  complete = λ q r. marked R code marks s q r;
}
