-- A search keeps what its table says: each marked place has a way, each place in the queue is marked, and no place stands there twice.
use mathlib.Core.Path.{◌≡◌, refl, sym, ap, ◌∙◌, subst}
use mathlib.Core.Bool.{Bool, true, false}
use mathlib.Core.Logic.{◌⊎◌, inl, inr, ⊎_elim}
use mathlib.Core.List.{List, [], ◌∷◌, ◌++◌}
use Prim.Native.Nat.{ℕ, suc, ◌+◌, ◌≤◌, ◌<◌}
use native.Mathlib.Nat.{zero-add}
use native.Mathlib.Numerals.{add-one}
use native.Mathlib.Omega.{arith}
use lib.ListN.{length, get_or, set, take, length-append, length-set, get_or-eq_default}
use lib.Seq.{get_or-set_same, get_or-set_other, take-set-le, take-suc, take-suc-set, length-take-le}
use lib.Dec.{eqb}
use borrow.Author.Tests.{eqb-true}
use Rattle.definitions.specs.Instruction.{Instr, Return, Flow, straight, jump, returns, question, flow}
use Rattle.definitions.specs.Reader.{landing}
use Rattle.definitions.specs.Run.{way}
use Rattle.definitions.specs.Sheet.{tally, is_question}
use Rattle.definitions.specs.Search.{Next, straight_on, jumps_to, on_no, on_yes, Step, answers_of, asks, Table, meet, Marks, expand_by, expand, Rule, Chain, begins, goes, Swept, weigh, Tabled}
use Rattle.definitions.proofs.Truth.{not_equal}
use Rattle.definitions.proofs.Stays.{Lands}
use Rattle.definitions.proofs.Trails.{takes}
use Rattle.definitions.proofs.Weights.{total, total-more, total-take, weigh-set, weigh-length, total-length, weigh-questions, weigh-zeros}

-- ---- what a search keeps

-- how a marked place was met: its place in the queue, and the answers and steps that it takes
pub record Route (R : Rule) (code : List Instr) (s : Table) (q : ℕ) : Type 0 where
  pub index : ℕ
  pub listed : index < s.tail
  pub at : get_or s.queue index 0 ≡ q
  pub answers : List ℕ
  pub steps : ℕ
  pub chain : Chain R code s.marks q answers steps
  pub short : length answers ≤ total (asks code) (take index s.queue)
  pub soon : steps ≤ index

-- each marked place has a route, each place in the queue is marked; and the two weigh the same, so no place stands in the queue twice
pub record Searching (R : Rule) (code : List Instr) (s : Table) : Type 0 where
  pub queue_long : length s.queue ≡ length code
  pub marks-long : length s.marks ≡ length code
  pub within : s.tail ≤ length code
  pub root : get_or s.marks 0 0 ≡ R.root
  pub weighs : (f : ℕ → ℕ) → weigh f 0 s.marks ≡ total f (take s.tail s.queue)
  pub listed : (i : ℕ) → i < s.tail → get_or s.marks (get_or s.queue i 0) 0 ≡ 0 → ⊥
  pub routes : (q : ℕ) → (get_or s.marks q 0 ≡ 0 → ⊥) → Route R code s q

-- the first `head` places of the queue are done: the places after them are marked
pub record Sweeping (R : Rule) (code : List Instr) (head : ℕ) (s : Table) : Type 0 where
  pub searching : Searching R code s
  pub behind : head ≤ s.tail
  pub done : (i : ℕ) → i < head → (k q : ℕ) → Step code (get_or s.queue i 0) k q → get_or s.marks q 0 ≡ 0 → ⊥

-- ---- chains when a place more is marked

module _ (R : Rule) (code : List Instr) (marks : List ℕ) (q v : ℕ) (free : get_or marks q 0 ≡ 0) where
  other-mark : (p : ℕ) → (get_or marks p 0 ≡ 0 → ⊥) → get_or (set marks q v) p 0 ≡ get_or marks p 0
  other-mark p h = get_or-set_other marks q p v 0 (λ e. h (ap (λ (x : ℕ). get_or marks x 0) e ∙ free))

  chain-marked : {p n : ℕ} {ys : List ℕ} → Chain R code marks p ys n → get_or marks p 0 ≡ 0 → ⊥
  chain-marked (begins e) z = R.some₀ (sym e ∙ z)
  chain-marked (goes {p} {q = r} {k} x e c) z = R.some _ p k _ e z

  chain-set : {p n : ℕ} {ys : List ℕ} → Chain R code marks p ys n → Chain R code (set marks q v) p ys n
  chain-set (begins e) = begins (other-mark 0 (λ z. R.some₀ (sym e ∙ z)) ∙ e)
  chain-set (goes {p} {q = r} {k} x e c) =
      goes x (subst (λ (m : ℕ). R.link m p k (get_or (set marks q v) r 0)) (sym (other-mark p (chain-marked c))) (subst (λ (m : ℕ). R.link (get_or marks p 0) p k m) (sym (other-mark r (λ z. R.some _ p k _ e z))) e)) (chain-set c)

-- ---- the invariant

-- what was there is there
pub record Grown (s u : Table) : Type 0 where
  pub tail : s.tail ≤ u.tail
  pub queue : (i : ℕ) → i < s.tail → get_or u.queue i 0 ≡ get_or s.queue i 0
  pub same : (q : ℕ) → (get_or s.marks q 0 ≡ 0 → ⊥) → get_or u.marks q 0 ≡ get_or s.marks q 0
  pub marks : (q : ℕ) → (get_or s.marks q 0 ≡ 0 → ⊥) → get_or u.marks q 0 ≡ 0 → ⊥

pub grown-none : (s : Table) → Grown s s
grown-none s = record { tail = omega arith; queue = λ i h. refl; same = λ q h. refl; marks = λ q h. h }

pub grown-more : (s u v : Table) → Grown s u → Grown u v → Grown s v
grown-more s u v A B =
    let a = A.tail in let b = B.tail in
    record {
      tail = omega arith;
      queue = λ i h. B.queue i (omega arith) ∙ A.queue i h;
      same = λ q h. B.same q (A.marks q h) ∙ A.same q h;
      marks = λ q h. B.marks q (A.marks q h);
    }

-- a place after p is met
module _ (R : Rule) (code : List Instr) (s : Table) (S : Searching R code s) (p k q : ℕ) (from : get_or s.marks p 0 ≡ 0 → ⊥) (way-to : Step code p k q) (inside : q < length code) (v : ℕ) (linked : R.link (get_or s.marks p 0) p k v) where
  module _ (free : get_or s.marks q 0 ≡ 0) where
    added : Table
    added = record { queue = set s.queue s.tail q; marks = set s.marks q v; tail = s.tail + 1 }

    -- fewer places are in the queue than there are
    pub room : s.tail < length code
    room =
        let l = length-take-le s.tail s.queue (let a = S.within in let b = S.queue_long in omega arith) in
        let a = S.weighs (λ x. 1) in let b = total-length (take s.tail s.queue) in
        let c = weigh-set (λ x. 1) s.marks 0 q 1 (let m = S.marks-long in omega arith) free (λ z. omega arith) in
        let d = weigh-length (set s.marks q 1) 0 in let e = length-set s.marks q 1 in let m = S.marks-long in
        omega arith

    tail-in : s.tail < length s.queue
    tail-in = let a = room in let b = S.queue_long in omega arith

    new-mark : get_or (set s.marks q v) q 0 ≡ v
    new-mark = get_or-set_same s.marks q v 0 (let m = S.marks-long in omega arith)

    old-mark : (r : ℕ) → (get_or s.marks r 0 ≡ 0 → ⊥) → get_or (set s.marks q v) r 0 ≡ get_or s.marks r 0
    old-mark r h = other-mark R code s.marks q v free r h

    old-queue : (i : ℕ) → i < s.tail → get_or (set s.queue s.tail q) i 0 ≡ get_or s.queue i 0
    old-queue i h = get_or-set_other s.queue s.tail i q 0 (λ e. omega arith)

    before : (i : ℕ) → i ≤ s.tail → take i (set s.queue s.tail q) ≡ take i s.queue
    before i h = take-set-le i s.queue s.tail q h

    new-link : R.link (get_or (set s.marks q v) p 0) p k (get_or (set s.marks q v) q 0)
    new-link =
        subst (λ (m : ℕ). R.link m p k (get_or (set s.marks q v) q 0)) (sym (old-mark p from))
        (subst (λ (m : ℕ). R.link (get_or s.marks p 0) p k m) (sym new-mark) linked)

    -- a route stands
    old-route : (r : ℕ) → Route R code s r → Route R code added r
    unfolding added
    old-route r T =
        let l = T.listed in
        record {
          index = T.index;
          listed = omega arith;
          at = old-queue T.index l ∙ T.at;
          answers = T.answers;
          steps = T.steps;
          chain = chain-set R code s.marks q v free T.chain;
          short = subst (λ (xs : List ℕ). length T.answers ≤ total (asks code) xs) (sym (before T.index (omega arith))) T.short;
          soon = T.soon;
        }

    -- the new one goes over p
    new-route : Route R code s p → Route R code added q
    unfolding added
    new-route T =
        let l = T.listed in let o = T.soon in let h = T.short in
        let t = takes code p k q way-to in
        let a = length-append T.answers (answers_of k) in
        let b = take-suc s.queue T.index 0 (let z = tail-in in omega arith) in
        let c = ap (total (asks code)) b ∙ total-more (asks code) (take T.index s.queue) (get_or s.queue T.index 0) in
        let d = ap (asks code) T.at in
        let e = total-take (asks code) s.queue (suc T.index) s.tail (omega arith) in
        record {
          index = s.tail;
          listed = omega arith;
          at = get_or-set_same s.queue s.tail q 0 tail-in;
          answers = T.answers ++ answers_of k;
          steps = suc T.steps;
          chain = goes way-to new-link (chain-set R code s.marks q v free T.chain);
          short = subst (λ (xs : List ℕ). length (T.answers ++ answers_of k) ≤ total (asks code) xs) (sym (before s.tail (omega arith))) (omega arith);
          soon = omega arith;
        }

    nonzero : v ≡ 0 → ⊥
    nonzero z = R.some (get_or s.marks p 0) p k v linked z

    added-grown : Grown s added
    unfolding added
    added-grown = record { tail = omega arith; queue = old-queue; same = old-mark; marks = λ r h z. h (sym (old-mark r h) ∙ z) }

    added-met : get_or added.marks q 0 ≡ 0 → ⊥
    unfolding added
    added-met z = nonzero (sym new-mark ∙ z)

    added-listed : (i : ℕ) → i < added.tail → get_or added.marks (get_or added.queue i 0) 0 ≡ 0 → ⊥
    unfolding added
    added-listed i h = go (eqb i s.tail) refl
      where
        go : (b : Bool) → eqb i s.tail ≡ b → get_or (set s.marks q v) (get_or (set s.queue s.tail q) i 0) 0 ≡ 0 → ⊥
        go true e z =
            let t = eqb-true i s.tail e in
            let y : get_or (set s.queue s.tail q) i 0 ≡ q = ap (λ (j : ℕ). get_or (set s.queue s.tail q) j 0) t ∙ get_or-set_same s.queue s.tail q 0 tail-in in
            nonzero (sym new-mark ∙ ap (λ (r : ℕ). get_or (set s.marks q v) r 0) (sym y) ∙ z)
        go false e z =
            let f = not_equal i s.tail e in
            let l : i < s.tail = below f in
            let m = S.listed i l in
            m (sym (old-mark (get_or s.queue i 0) m) ∙ ap (λ (r : ℕ). get_or (set s.marks q v) r 0) (sym (old-queue i l)) ∙ z)
          where
            below : (i ≡ s.tail → ⊥) → i < s.tail
            below f = omega arith

    added-searching : Searching R code added
    unfolding added
    added-searching = record {
      queue_long = length-set s.queue s.tail q ∙ S.queue_long;
      marks-long = length-set s.marks q v ∙ S.marks-long;
      within = let r = room in omega arith;
      root = old-mark 0 (λ z. R.some₀ (sym S.root ∙ z)) ∙ S.root;
      weighs = λ f.
          let a = weigh-set f s.marks 0 q v (let m = S.marks-long in omega arith) free nonzero in
          let b : take (s.tail + 1) (set s.queue s.tail q) ≡ take s.tail s.queue ++ (q ∷ []) = ap (λ (j : ℕ). take j (set s.queue s.tail q)) (add-one s.tail) ∙ take-suc-set s.queue s.tail q tail-in in
          let c = ap (total f) b ∙ total-more f (take s.tail s.queue) q in
          let d = S.weighs f in
          let e : f (0 + q) ≡ f q = ap f (zero-add q) in
          omega arith;
      listed = added-listed;
      routes = λ r h. go r h (eqb r q) refl;
    }
      where
        go : (r : ℕ) → (get_or (set s.marks q v) r 0 ≡ 0 → ⊥) → (b : Bool) → eqb r q ≡ b → Route R code added r
        go r h true e = subst (λ (x : ℕ). Route R code added x) (sym (eqb-true r q e)) (new-route (S.routes p from))
        go r h false e = old-route r (S.routes r (λ z. h (get_or-set_other s.marks q r v 0 (not_equal r q e) ∙ z)))

  -- whether it is new or not
  pub record Met (u : Table) : Type 0 where
    pub searching : Searching R code u
    pub grown : Grown s u
    pub met : get_or u.marks q 0 ≡ 0 → ⊥

  pub met : Met (meet v q s)
  unfolding meet added
  met = go (eqb (get_or s.marks q 0) 0) refl
    where
      go : (b : Bool) → eqb (get_or s.marks q 0) 0 ≡ b
          → Met (elim b as (λ z. Table) [ true ↦ record { queue = set s.queue s.tail q; marks = set s.marks q v; tail = s.tail + 1 } | false ↦ s ])
      go true e = let f = eqb-true (get_or s.marks q 0) 0 e in record { searching = added-searching f; grown = added-grown f; met = added-met f }
      go false e = record { searching = S; grown = grown-none s; met = not_equal (get_or s.marks q 0) 0 e }

-- ---- the places after one place

only-straight : {p a k q : ℕ} → Next straight p a k q → q ≡ suc p
only-straight straight_on = refl

only-jump : {p a k q : ℕ} → Next jump p a k q → q ≡ landing p a
only-jump jumps_to = refl

only-returns : {f : Flow} {p a k q : ℕ} → Next f p a k q → f ≡ returns → ⊥
only-returns straight_on e = let z : ◌≡◌ {A = ℕ} 0 1 = cc in omega arith
only-returns jumps_to e = let z : ◌≡◌ {A = ℕ} 0 1 = cc in omega arith
only-returns on_no e = let z : ◌≡◌ {A = ℕ} 0 1 = cc in omega arith
only-returns on_yes e = let z : ◌≡◌ {A = ℕ} 0 1 = cc in omega arith

only-question : {b : Bool} {p a k q : ℕ} → Next (question b) p a k q → (q ≡ way b false p a) ⊎ (q ≡ way b true p a)
only-question on_no = inl refl
only-question on_yes = inr refl

pub record Expanded (R : Rule) (code : List Instr) (p : ℕ) (s u : Table) : Type 0 where
  pub searching : Searching R code u
  pub grown : Grown s u
  pub all : (k q : ℕ) → Step code p k q → get_or u.marks q 0 ≡ 0 → ⊥

-- the mark that an instruction gives, by the tag
unfoldable pub mark_of : Marks → ℕ → ℕ
mark_of m k = get_or (m.on ∷ m.no₀ ∷ m.yes₁ ∷ []) k 0

-- the marks are such as the rule says, of what is met from p
pub record Given (R : Rule) (code : List Instr) (m : Marks) (v p : ℕ) : Type 0 where
  pub links : (k q : ℕ) → Step code p k q → R.link v p k (mark_of m k)

module _ (R : Rule) (code : List Instr) (p : ℕ) (s : Table) (S : Searching R code s) (from : get_or s.marks p 0 ≡ 0 → ⊥) (inside : (k q : ℕ) → Step code p k q → q < length code)
    (m : Marks) (G : Given R code m (get_or s.marks p 0) p) where
  module _ (f : Flow) (e : flow (get_or code p Return).op ≡ f) where
    here : {k q : ℕ} → Next f p (get_or code p Return).a k q → Step code p k q
    here {k} {q} x = subst (λ (g : Flow). Next g p (get_or code p Return).a k q) (sym e) x

    back : {k q : ℕ} → Step code p k q → Next f p (get_or code p Return).a k q
    back {k} {q} x = subst (λ (g : Flow). Next g p (get_or code p Return).a k q) e x

  expanded-by : (f : Flow) → flow (get_or code p Return).op ≡ f → Expanded R code p s (expand_by f m p (get_or code p Return).a s)
  unfolding expand_by mark_of
  expanded-by straight e =
      let x = here straight e straight_on in
      let M = met R code s S p 0 (suc p) from x (inside 0 (suc p) x) m.on (G.links 0 (suc p) x) in
      record { searching = M.searching; grown = M.grown; all = λ k q y. subst (λ (r : ℕ). get_or (meet m.on (suc p) s).marks r 0 ≡ 0 → ⊥) (sym (only-straight (back straight e y))) M.met }
  expanded-by jump e =
      let t = landing p (get_or code p Return).a in
      let x = here jump e jumps_to in
      let M = met R code s S p 0 t from x (inside 0 t x) m.on (G.links 0 t x) in
      record { searching = M.searching; grown = M.grown; all = λ k q y. subst (λ (r : ℕ). get_or (meet m.on t s).marks r 0 ≡ 0 → ⊥) (sym (only-jump (back jump e y))) M.met }
  expanded-by returns e = record { searching = S; grown = grown-none s; all = λ k q y. absurd (only-returns y e) }
  expanded-by (question b) e =
      let t = way b false p (get_or code p Return).a in
      let u = way b true p (get_or code p Return).a in
      let x = here (question b) e on_no in
      let y = here (question b) e on_yes in
      let M = met R code s S p 1 t from x (inside 1 t x) m.no₀ (G.links 1 t x) in
      let v = meet m.no₀ t s in
      let N = met R code v M.searching p 2 u (M.grown.marks p from) y (inside 2 u y) m.yes₁ (subst (λ (z : ℕ). R.link z p 2 m.yes₁) (sym (M.grown.same p from)) (G.links 2 u y)) in
      let w = meet m.yes₁ u v in
      record {
        searching = N.searching;
        grown = grown-more s v w M.grown N.grown;
        all = λ k q z.
            ⊎_elim (λ (h : q ≡ t). subst (λ (r : ℕ). get_or w.marks r 0 ≡ 0 → ⊥) (sym h) (N.grown.marks t M.met))
            (λ (h : q ≡ u). subst (λ (r : ℕ). get_or w.marks r 0 ≡ 0 → ⊥) (sym h) N.met) (only-question (back (question b) e z));
      }

  pub expanded : Expanded R code p s (expand code m p s)
  unfolding expand
  expanded = expanded-by (flow (get_or code p Return).op) refl

-- ---- the loop

-- a marked place is one of the code
pub marked-in : (R : Rule) (code : List Instr) (s : Table) → Searching R code s → (p : ℕ) → (get_or s.marks p 0 ≡ 0 → ⊥) → p < length code
marked-in R code s S p h = go S.marks-long
  where
    outside : length s.marks ≤ p → ⊥
    outside l = h (get_or-eq_default s.marks 0 l)

    go : length s.marks ≡ length code → p < length code
    go e = let f = outside in omega arith

module _ (R : Rule) (code : List Instr) (L : Lands code) (head : ℕ) (s : Table) (W : Sweeping R code head s) (l : head < s.tail) (m : Marks)
    (G : Given R code m (get_or s.marks (get_or s.queue head 0) 0) (get_or s.queue head 0)) where
  from : get_or s.marks (get_or s.queue head 0) 0 ≡ 0 → ⊥
  from = W.searching.listed head l

  onward : Expanded R code (get_or s.queue head 0) s (expand code m (get_or s.queue head 0) s)
  onward = expanded R code (get_or s.queue head 0) s W.searching from (λ k q x. L.at (get_or s.queue head 0) (marked-in R code s W.searching (get_or s.queue head 0) from) k q x) m G

  done_more : (i : ℕ) → i < head + 1 → (b : Bool) → eqb i head ≡ b → (k q : ℕ) → Step code (get_or (expand code m (get_or s.queue head 0) s).queue i 0) k q
      → get_or (expand code m (get_or s.queue head 0) s).marks q 0 ≡ 0 → ⊥
  done_more i h true e k q x =
      let y : get_or (expand code m (get_or s.queue head 0) s).queue i 0 ≡ get_or s.queue head 0 = ap (λ (j : ℕ). get_or (expand code m (get_or s.queue head 0) s).queue j 0) (eqb-true i head e) ∙ onward.grown.queue head l in
      onward.all k q (subst (λ (r : ℕ). Step code r k q) y x)
  done_more i h false e k q x =
      let f = not_equal i head e in
      let n = less f in
      let y : get_or (expand code m (get_or s.queue head 0) s).queue i 0 ≡ get_or s.queue i 0 = onward.grown.queue i (omega arith) in
      onward.grown.marks q (W.done i n k q (subst (λ (r : ℕ). Step code r k q) y x))
    where
      less : (i ≡ head → ⊥) → i < head
      less f = omega arith

  pub sweep-on : Sweeping R code (head + 1) (expand code m (get_or s.queue head 0) s)
  sweep-on = record { searching = onward.searching; behind = let t = onward.grown.tail in omega arith; done = λ i h k q x. done_more i h (eqb i head) refl k q x }

-- all are done: the marks tell what they should
pub swept : (R : Rule) (code : List Instr) (head : ℕ) (s : Table) → Sweeping R code head s → s.tail ≤ head → Swept R code s.marks
unfolding asks
swept R code head s W l = record {
  long = W.searching.marks-long;
  root = W.searching.root;
  closed = λ p k q h x.
      let T = W.searching.routes p h in
      let i = T.listed in
      W.done T.index (omega arith) k q (subst (λ (r : ℕ). Step code r k q) (sym T.at) x);
  ways = λ q h.
      let S = W.searching in
      let T = S.routes q h in
      let i = T.listed in let o = T.soon in let sh = T.short in let wi = S.within in let ql = S.queue_long in let ml = S.marks-long in
      let b = take-suc s.queue T.index 0 (omega arith) in
      let c = ap (total (asks code)) b ∙ total-more (asks code) (take T.index s.queue) (get_or s.queue T.index 0) in
      let d = ap (asks code) T.at in
      let e = total-take (asks code) s.queue (suc T.index) s.tail (omega arith) in
      let f = S.weighs (asks code) in
      let g = questions in
      record { answers = T.answers; steps = T.steps; chain = T.chain; short = omega arith; soon = omega arith };
}
  where
    questions : weigh (asks code) 0 s.marks ≤ tally is_question code
    questions = weigh-questions (asks code) code s.marks 0 (λ j. ap (asks code) (zero-add j)) (let m = W.searching.marks-long in omega arith)

-- ---- the start

-- place 0 stands in the queue and is marked, nothing else is
module _ (R : Rule) (code : List Instr) (queue marks : List ℕ) (ql : length queue ≡ length code) (ml : length marks ≡ length code) (some : 0 < length code) (zero₀ : (q : ℕ) → get_or marks q 0 ≡ 0) where
  mark : get_or (set marks 0 R.root) 0 0 ≡ R.root
  mark = get_or-set_same marks 0 R.root 0 (omega arith)

  start-route : (q : ℕ) → (get_or (set marks 0 R.root) q 0 ≡ 0 → ⊥) → (b : Bool) → eqb q 0 ≡ b → Route R code (record { queue = set queue 0 0; marks = set marks 0 R.root; tail = 1 }) q
  start-route q h true e = subst (λ (r : ℕ). Route R code (record { queue = set queue 0 0; marks = set marks 0 R.root; tail = 1 }) r) (sym (eqb-true q 0 e)) (record {
    index = 0;
    listed = omega arith;
    at = get_or-set_same queue 0 0 0 (omega arith);
    answers = [];
    steps = 0;
    chain = begins mark;
    short = omega arith;
    soon = omega arith;
  })
  start-route q h false e = absurd (h (get_or-set_other marks 0 q R.root 0 (not_equal q 0 e) ∙ zero₀ q))

  pub sweep-start : Sweeping R code 0 (record { queue = set queue 0 0; marks = set marks 0 R.root; tail = 1 })
  unfolding total
  sweep-start =
      let first : take 1 (set queue 0 0) ≡ 0 ∷ [] = take-suc-set queue 0 0 (omega arith) in
      record {
        searching = record {
          queue_long = length-set queue 0 0 ∙ ql;
          marks-long = length-set marks 0 R.root ∙ ml;
          within = omega arith;
          root = mark;
          weighs = λ f.
              let a = weigh-set f marks 0 0 R.root (omega arith) (zero₀ 0) R.some₀ in
              let b = weigh-zeros f marks 0 zero₀ in
              let c = ap (total f) first in
              let d : f (0 + 0) ≡ f 0 = ap f (zero-add 0) in
              omega arith;
          listed = λ i h z.
              let e : i ≡ 0 = omega arith in
              let y : get_or (set queue 0 0) i 0 ≡ 0 = ap (λ (j : ℕ). get_or (set queue 0 0) j 0) e ∙ get_or-set_same queue 0 0 0 (omega arith) in
              R.some₀ (sym mark ∙ ap (λ (r : ℕ). get_or (set marks 0 R.root) r 0) (sym y) ∙ z);
          routes = λ q h. start-route q h (eqb q 0) refl;
        };
        behind = omega arith;
        done = λ i h. absurd (omega arith);
      }

-- ---- a table alone

pub tabled : (R : Rule) (code : List Instr) (s : Table) → Searching R code s → Tabled (length code) s
tabled R code s S =
    let a = S.weighs (λ x. 1) in let b = total-length (take s.tail s.queue) in let w = S.within in let q = S.queue_long in
    let l = length-take-le s.tail s.queue (omega arith) in
    record { queue_long = S.queue_long; marks-long = S.marks-long; within = S.within; counts = omega arith }

module _ (n : ℕ) (s : Table) (T : Tabled n s) (q : ℕ) (inside : q < n) where
  pub tabled-room : get_or s.marks q 0 ≡ 0 → s.tail < n
  tabled-room free =
      let c = weigh-set (λ x. 1) s.marks 0 q 1 (let m = T.marks-long in omega arith) free (λ z. omega arith) in
      let d = weigh-length (set s.marks q 1) 0 in let e = length-set s.marks q 1 in let m = T.marks-long in let a = T.counts in
      omega arith

  pub tabled-meet : (v : ℕ) → (v ≡ 0 → ⊥) → Tabled n (meet v q s)
  unfolding meet
  tabled-meet v some = go (eqb (get_or s.marks q 0) 0) refl
    where
      go : (b : Bool) → eqb (get_or s.marks q 0) 0 ≡ b → Tabled n (elim b as (λ z. Table) [ true ↦ record { queue = set s.queue s.tail q; marks = set s.marks q v; tail = s.tail + 1 } | false ↦ s ])
      go true e =
          let free = eqb-true (get_or s.marks q 0) 0 e in
          let c = weigh-set (λ x. 1) s.marks 0 q v (let m = T.marks-long in omega arith) free some in let a = T.counts in
          record {
            queue_long = length-set s.queue s.tail q ∙ T.queue_long;
            marks-long = length-set s.marks q v ∙ T.marks-long;
            within = let r = tabled-room free in omega arith;
            counts = omega arith;
          }
      go false e = T
