-- Reads of a cursor, one after another. Assumes nothing.
use Prim.Native.Nat.{ℕ, ◌+◌, ◌-◌, ◌<◌, ◌≤◌}
use mathlib.Core.Path.{◌≡◌, sym, ap, ◌∙◌, subst}
use mathlib.Core.Bool.{Bool, true, false}
use mathlib.Core.List.{List, [], ◌∷◌}
use native.Mathlib.Omega.{arith}
use lib.Dec.{ltb}
use lib.ListN.{length, take, drop}
use Rattle.std.specs.Prelude.{Option, Some, None, MatchOption}
use Rattle.definitions.specs.Bytes.{Parser, byte, field, counted, list_of, checked, all}
use Rattle.definitions.proofs.Begins.{Takes, takes-checked}
use Rattle.reader.specs.View.{skip_at, number_at, list_by, Got}
use Rattle.reader.specs.Cursors.{CursorStands, CursorWent, CursorShort, Read, CutOff, Stepped, CursorSteps}
use Rattle.reader.specs.Asks.{counts_asked, has_function, ask_constant}
use Rattle.reader.specs.declared.cursor.Cursor.{Cursor}
use Rattle.reader.specs.declared.Counts.{Counts}
use Rattle.reader.specs.declared.Asked.{Asked}
use Rattle.reader.specs.declared.Asked.TheVariants.{Layout, Numbers, Jumps}
use Rattle.reader.proofs.Taken.{count_cut, count-at, bytes_cut, got-bind, got-field, got-at, skip-field, skipped-got}
use Rattle.reader.proofs.NameLaws.{part_slice, got-bytes, same_read}
use Rattle.reader.proofs.InstructionLaws.{got-checked, cut-checked, cut-unchecked}
use Rattle.reader.proofs.Checked.{got-tested}
use Rattle.reader.proofs.ListLaws.{plain-list, tested-list}

-- ---- answers

pub none-steps : {B : Type 0} (step : List ℕ → ℕ → Option ℕ) (r : Option B) (c d : Cursor) → r ≡ None → step c.bytes.now c.at ≡ None → CursorSteps step r c d
none-steps step r c d e p = subst (λ (x : Option _). CursorSteps step x c d) (sym e) p

pub none-read : {A B : Type 0} (p : Parser A) (view : B → A) (r : Option B) (c d : Cursor) → r ≡ None → CutOff p c → MatchOption r (CutOff p c) (λ b. Read p (view b) c d)
none-read p view r c d e h = subst (λ (x : Option _). MatchOption x (CutOff p c) (λ b. Read p (view b) c d)) (sym e) h

pub match-map : {B : Type 0} {P P' : Type 0} {Q Q' : B → Type 0} (r : Option B) → (P → P') → ((b : B) → Q b → Q' b) → MatchOption r P Q → MatchOption r P' Q'
match-map None f g m = f m
match-map (Some b) f g m = g b m

-- what holds where a cursor stands, by where it came from
pub there : {n : ℕ} {c d : Cursor} (P : List ℕ → ℕ → Type 0) → CursorWent n c d → P d.bytes.now d.at → P c.bytes.now (c.at + n)
there {c = c} {d = d} P w x = subst (λ (k : ℕ). P c.bytes.now k) w.at (subst (λ (t : List ℕ). P t d.at) w.bytes x)

-- a last step after what was read
pub goes-on : {B : Type 0} (step next : List ℕ → ℕ → Option ℕ) (r : Option B) (c d e : Cursor) → d.bytes.now ≡ c.bytes.now → step c.bytes.now c.at ≡ next c.bytes.now d.at → CursorSteps next r d e → CursorSteps step r c e
goes-on step next r c d e s k m = match-map r
    (λ n. k ∙ ap (λ (t : List ℕ). next t d.at) (sym s) ∙ n)
    (λ b n. record { bytes = n.bytes ∙ s; to = k ∙ ap (λ (t : List ℕ). next t d.at) (sym s) ∙ n.to })
    m

-- ---- bytes with their count before them

pub text-short : (w : ℕ) (c : Cursor) → CursorShort w c → CutOff (list_of w byte) c
text-short w c s = let h = c.inside in count_cut byte c.bytes.now w c.at h (omega arith)

module _ (w : ℕ) (c d : Cursor) (n : ℕ) (g : CursorWent w c d) (e : n ≡ number_at w c.bytes.now c.at) where
  pub text-cut : CursorShort n d → CutOff (list_of w byte) c
  text-cut s =
      let k : length c.bytes.now < c.at + w + n = there (λ (t : List ℕ) (p : ℕ). length t < p + n) g s in
      let r = g.room in
      count-at byte c.bytes.now w c.at n c.inside (omega arith) e ∙ bytes_cut c.bytes.now n (c.at + w) (omega arith) (omega arith)

  pub text-read : (x : List ℕ) (f : Cursor) → CursorWent n d f → x ≡ take n (drop d.at d.bytes.now) → Read (list_of w byte) x c f
  unfolding list_of
  text-read x f h i =
      let t = c.bytes.now in let p = c.at + w in
      let room : p + n ≤ length t = there (λ (t : List ℕ) (p : ℕ). p + n ≤ length t) g h.room in
      let part : x ≡ take n (drop p t) = there (λ (t : List ℕ) (p : ℕ). x ≡ take n (drop p t)) g i in
      let one : n ≡ p + n - p = omega arith in
      let end : p + n ≡ f.at = sym (h.at ∙ ap (λ (k : ℕ). k + n) g.at) in
      let is = sym (part ∙ ap (λ (k : ℕ). take k (drop p t)) one ∙ part_slice t p (p + n)) in
      let all = got-bind (field w) (λ n. counted [] ◌∷◌ byte n) t c.at n p _ (p + n) (subst (λ (j : ℕ). Got (field w) t c.at j p) (sym e) (got-field w t c.at g.room)) (got-bytes t n p room) in
      record { bytes = h.bytes ∙ g.bytes; got = subst (λ (m : ℕ). Got (list_of w byte) t c.at x m) end (subst (λ (y : List ℕ). Got (list_of w byte) t c.at y (p + n)) is all) }

-- ---- tested reads

module _ {A : Type 0} (test : A → Bool) (p : Parser A) (c : Cursor) where
  pub tested-cut : CutOff p c → CutOff (checked test p) c
  tested-cut e = cut-unchecked test p c.bytes.now c.at e

  module _ (a : A) (d : Cursor) (r : Read p a c d) where
    pub tested-read : test a ≡ true → Read (checked test p) a c d
    tested-read e = record { bytes = r.bytes; got = got-checked test p c.bytes.now c.at a d.at r.got e }

    pub tested-fails : test a ≡ false → CutOff (checked test p) c
    tested-fails e = cut-checked test p c.bytes.now c.at a d.at r.got e

pub passed : {A : Type 0} (p : Parser A) (a : A) (c d : Cursor) → Read p a c d → Stepped (skip_at p c.bytes.now) c d
passed p a c d r = record { bytes = r.bytes; to = skipped-got p c.bytes.now c.at a d.at r.got }

-- ---- numbers

pub number-short : (w : ℕ) (c : Cursor) → CursorShort w c → CutOff (field w) c
number-short w c s = skip-field w c.bytes.now c.at c.inside s

pub number-read : (w : ℕ) (n : ℕ) (c d : Cursor) → CursorWent w c d → n ≡ number_at w c.bytes.now c.at → Read (field w) n c d
number-read w n c d g e =
    record { bytes = g.bytes; got = subst (λ (m : ℕ). Got (field w) c.bytes.now c.at n m) (sym g.at) (subst (λ (k : ℕ). Got (field w) c.bytes.now c.at k (c.at + w)) (sym e) (got-field w c.bytes.now c.at g.room)) }

-- ---- lists

module _ {A B : Type 0} (p : Parser A) (tp : Takes p) (r : Option B) (c d : Cursor) where
  list-step : (step : List ℕ → ℕ → Option ℕ) → step c.bytes.now c.at ≡ list_by (skip_at p c.bytes.now) c.bytes.now c.at → CursorSteps (λ t. list_by (skip_at p t) t) r c d → CursorSteps step r c d
  list-step step k m = match-map r (λ n. k ∙ n) (λ b n. record { bytes = n.bytes; to = k ∙ n.to }) m

  pub plain-steps : CursorSteps (λ t. list_by (skip_at p t) t) r c d → CursorSteps (skip_at (list_of 2 p)) r c d
  plain-steps m = list-step (skip_at (list_of 2 p)) (plain-list p tp c.bytes.now c.at c.inside) m

module _ {A B : Type 0} (e : A → Bool) (p : Parser A) (tp : Takes p) (r : Option B) (c d : Cursor) where
  pub tested-steps : CursorSteps (λ t. list_by (skip_at (checked e p) t) t) r c d → CursorSteps (skip_at (checked (all e) (list_of 2 p))) r c d
  tested-steps m = let k = tested-list e p tp c.bytes.now c.at c.inside in match-map r (λ n. k ∙ n) (λ b n. record { bytes = n.bytes; to = k ∙ n.to }) m

-- ---- by place

-- where a cursor that stands in t comes to
pub steps-to : (t : List ℕ) (step : List ℕ → ℕ → Option ℕ) (c d : Cursor) → c.bytes.now ≡ t → Stepped (step c.bytes.now) c d → (d.bytes.now ≡ t) × (step t c.at ≡ Some d.at)
steps-to t step c d e s = (s.bytes ∙ e, ap (λ (u : List ℕ). step u c.at) (sym e) ∙ s.to)

-- the same from its beginning on
pub begins-to : (t : List ℕ) (p : ℕ) (step : List ℕ → ℕ → Option ℕ) (c d : Cursor) → CursorStands t p c → Stepped (step c.bytes.now) c d → (d.bytes.now ≡ t) × (step t p ≡ Some d.at)
begins-to t p step c d b s = let k = steps-to t step c d b.bytes s in (k.0, ap (step t) (sym b.at) ∙ k.1)

-- where it is cut
pub cut-to : (t : List ℕ) (step : List ℕ → ℕ → Option ℕ) (c : Cursor) → c.bytes.now ≡ t → step c.bytes.now c.at ≡ None → step t c.at ≡ None
cut-to t step c e s = ap (λ (u : List ℕ). step u c.at) (sym e) ∙ s

pub begins-cut : (t : List ℕ) (p : ℕ) (step : List ℕ → ℕ → Option ℕ) (c : Cursor) → CursorStands t p c → step c.bytes.now c.at ≡ None → step t p ≡ None
begins-cut t p step c b s = ap (step t) (sym b.at) ∙ cut-to t step c b.bytes s

-- a tested read ends where the read does
pub ends-there : {A : Type 0} (e : A → Bool) (p : Parser A) → Takes p → (t : List ℕ) (at : ℕ) (a : A) (m x : ℕ) → at ≤ length t → Got p t at a m → skip_at (checked e p) t at ≡ Some x → x ≡ m
ends-there e p tp t at a m x h g r =
    let k = got-at (checked e p) (takes-checked e p tp) t at x h r in
    (same_read p t at k.0 x a m (got-tested e p t at k.0 x k.1).0 g).1

-- ---- numbers that are asked for

pub function-has : (q : Asked) (o : Option Counts) (r : Bool) (n : ℕ) → o ≡ counts_asked q → MatchOption o (r ≡ true) (λ k. r ≡ ltb n k.functions) → r ≡ has_function q n
unfolding counts_asked has_function
function-has Layout o r n e m = subst (λ (x : Option Counts). MatchOption x (r ≡ true) (λ k. r ≡ ltb n k.functions)) e m
function-has (Numbers k) o r n e m = subst (λ (x : Option Counts). MatchOption x (r ≡ true) (λ k. r ≡ ltb n k.functions)) e m
function-has Jumps o r n e m = subst (λ (x : Option Counts). MatchOption x (r ≡ true) (λ k. r ≡ ltb n k.functions)) e m

pub class-has : (q : Asked) (o : Option Counts) (r : Bool) (n : ℕ) → o ≡ counts_asked q → MatchOption o (r ≡ true) (λ k. r ≡ ltb n k.classes) → r ≡ ask_constant q n
unfolding counts_asked ask_constant
class-has Layout o r n e m = subst (λ (x : Option Counts). MatchOption x (r ≡ true) (λ k. r ≡ ltb n k.classes)) e m
class-has (Numbers k) o r n e m = subst (λ (x : Option Counts). MatchOption x (r ≡ true) (λ k. r ≡ ltb n k.classes)) e m
class-has Jumps o r n e m = subst (λ (x : Option Counts). MatchOption x (r ≡ true) (λ k. r ≡ ltb n k.classes)) e m
