-- A place is sought in a function's code. Assumes nothing.
use Prim.Native.Nat.{ℕ, suc, ◌+◌, ◌≤◌, ◌<◌}
use mathlib.Core.Path.{◌≡◌, refl, sym, ap, ap₂, ◌∙◌, subst}
use mathlib.Core.Bool.{Bool, true, false}
use mathlib.Core.Option.{none, some}
use mathlib.Core.List.{List, [], ◌∷◌, ◌++◌, append_assoc, append-nil}
use native.Mathlib.Omega.{arith}
use lib.ListN.{length, get_or, set, drop, length-append, length-drop}
use lib.Seq.{drop-cons, set-append_seam}
use Rattle.definitions.specs.Bytes.{accepted, when_accepted}
use Rattle.definitions.specs.Instruction.{Instr, Return}
use Rattle.definitions.specs.Calls.{written}
use Rattle.definitions.specs.Sheet.{is_question, one_if}
use Rattle.definitions.specs.Reach.{Brings, Finds, count_found, found_answer, buffer_after}
use Rattle.definitions.specs.Search.{asks, Way, Swept, by_link}
use Rattle.definitions.proofs.Trails.{own, own_answers, brings, nowhere}
use Rattle.std.proofs.Common.{Ok, Some, None}
use Rattle.reader.specs.View.{instructions_of, start_of}
use Rattle.run.specs.Tables.{Coded, PlacesFilled}
use Rattle.run.proofs.Coding.{op-here}
use Rattle.search.specs.View.{marks_of, Searchable}
use Rattle.search.proofs.Viewing.{mark-at}
use Rattle.reach.specs.Tracing.{way_to, Traceable}
use Rattle.reach.specs.Reaching.{reach_said, Says, Seekable, Tracked}
use Rattle.reach.proofs.Tracks.{way-is, traced-in}

-- the opcode at a place
module _ {c table : List ℕ} (h : Coded c) (P : PlacesFilled c table) {k : ℕ} (l : k < length (instructions_of c)) {at : ℕ} (e : at ≡ get_or table k 0) where
  starts : at ≡ start_of (instructions_of c) k
  starts = e ∙ P.at k l

  pub place_at : at < length c
  place_at = subst (λ (x : ℕ). x < length c) (sym starts) (op-here c h k l).0

  pub op-at : get_or c at 0 ≡ (get_or (instructions_of c) k Return).op
  op-at = ap (λ (x : ℕ). get_or c x 0) starts ∙ (op-here c h k l).1

-- ---- what is said of code in which a place is sought

-- answers that bring a run to the place
says-answers : {code : List Instr} {place : ℕ} {out out' : List ℕ} (ys : List ℕ) → Brings code place ys → (k : ℕ) → k ≡ length ys → out' ≡ written ys out → Says (Ok (Some k)) (accepted code) place out out'
unfolding Finds reach_said found_answer count_found buffer_after when_accepted
says-answers ys B k e f = record { found = some ys; finds = B; answer = ap (λ (j : ℕ). accepted (some j)) e; leaves = f }

-- ---- a marked place

own-none : (b : Bool) → b ≡ false → own b ≡ []
unfolding own
own-none true e = let z : ◌≡◌ {A = ℕ} 0 1 = cc in absurd (omega arith)
own-none false e = refl

own-some : (b : Bool) → b ≡ true → own b ≡ 0 ∷ []
unfolding own
own-some true e = refl
own-some false e = let z : ◌≡◌ {A = ℕ} 0 1 = cc in absurd (omega arith)

own-one : (b : Bool) → b ≡ true → one_if b ≡ 1
unfolding one_if
own-one b e = ap one_if e

module _ {c table area out : List ℕ} {place : ℕ} (M : Tracked c table place area out) where
  abbrev pub traceable : Traceable area place
  traceable = record { code = instructions_of c; few = M.coded.few; long = M.long; way = M.way }

  pub count_fits : (count : ℕ) → count ≡ length (way_to area place) → count ≤ length out
  count_fits count e = let a = ap length (way-is traceable) in let s = M.way.short in let f = M.fits in omega arith

  pub marked-in : place < length (instructions_of c)
  marked-in = traced-in traceable

  brought : Brings (instructions_of c) place (M.way.answers ++ own_answers (instructions_of c) place)
  brought = brings (instructions_of c) by_link (marks_of (length (instructions_of c)) area) place M.way

  module _ {op : ℕ} (eo : op ≡ (get_or (instructions_of c) place Return).op) {count : ℕ} (ec : count ≡ length (way_to area place)) {mid : List ℕ} (em : mid ≡ written (way_to area place) out) where
    counted : count ≡ length M.way.answers
    counted = ec ∙ ap length (way-is traceable)

    stored : mid ≡ written M.way.answers out
    stored = em ∙ ap (λ (l : List ℕ). written l out) (way-is traceable)

    here : is_question op ≡ is_question (get_or (instructions_of c) place Return).op
    here = ap is_question eo

    -- no question
    pub no_own : is_question op ≡ false → Says (Ok (Some count)) (accepted (instructions_of c)) place out mid
    unfolding own_answers
    no_own z =
        let o = own-none (is_question (get_or (instructions_of c) place Return).op) (sym here ∙ z) in
        let a = ap (λ (l : List ℕ). M.way.answers ++ l) o ∙ append-nil M.way.answers in
        says-answers M.way.answers (subst (λ (l : List ℕ). Brings (instructions_of c) place l) a brought) count counted stored

    -- a question, with its own answer
    module _ (z : is_question op ≡ true) where
      asked : is_question (get_or (instructions_of c) place Return).op ≡ true
      asked = sym here ∙ z

      room : length M.way.answers < length out
      unfolding asks
      room = let s = M.way.short in let f = M.fits in let b = own-one (is_question (get_or (instructions_of c) place Return).op) asked in omega arith

      pub own_room : count < length mid
      unfolding written
      own_room =
          let a = counted in let r = room in
          let l = ap length stored ∙ length-append M.way.answers (drop (length M.way.answers) out) in
          let d = length-drop (length M.way.answers) out in
          omega arith

      own-stored : {left : List ℕ} → left ≡ set mid count 0 → left ≡ written (M.way.answers ++ (0 ∷ [])) out
      unfolding written
      own-stored e =
          let ys = M.way.answers in
          let l = length-append ys (0 ∷ []) in
          e ∙ ap₂ (λ (l : List ℕ) (j : ℕ). set l j 0) (stored ∙ ap (λ (l : List ℕ). ys ++ l) (drop-cons out (length ys) 0 room)) counted
          ∙ set-append_seam ys (get_or out (length ys) 0) (drop (suc (length ys)) out) 0
          ∙ sym (append_assoc ys (0 ∷ []) (drop (suc (length ys)) out))
          ∙ ap (λ (j : ℕ). (ys ++ (0 ∷ [])) ++ drop j out) (let y : suc (length ys) ≡ length (ys ++ (0 ∷ [])) = omega arith in y)

      pub own-written : {left : List ℕ} → left ≡ set mid count 0 → Says (Ok (Some (count + 1))) (accepted (instructions_of c)) place out left
      unfolding own_answers
      own-written e =
          let ys = M.way.answers in
          let o = own-some (is_question (get_or (instructions_of c) place Return).op) asked in
          let l = length-append ys (0 ∷ []) in let k = counted in
          says-answers (ys ++ (0 ∷ [])) (subst (λ (l : List ℕ). Brings (instructions_of c) place (ys ++ l)) o brought) (count + 1) (omega arith) (own-stored e)

-- ---- before the search, and after it

module _ {c area out : List ℕ} {n place : ℕ} (S : Seekable c area n place out) where
  pub ready : {table : List ℕ} → PlacesFilled c table → Searchable c table area n
  ready P = record { coded = S.coded; starts = P; count = S.count; long = S.long }

  module _ (area' : List ℕ) (l : length area' ≡ length area) (W : Swept by_link (instructions_of c) (marks_of n area')) where
    pub no_way : get_or area' (65536 + place) 0 ≡ 0 → Says (Ok None) (accepted (instructions_of c)) place out out
    unfolding Finds reach_said found_answer count_found buffer_after when_accepted
    no_way e = record {
      found = none;
      finds = nowhere by_link (instructions_of c) (marks_of n area') W place (mark-at n area' place S.inside ∙ e);
      answer = refl;
      leaves = refl;
    }

    pub marked : {table : List ℕ} → PlacesFilled c table → (get_or area' (65536 + place) 0 ≡ 0 → ⊥) → Tracked c table place area' out
    marked P f = record {
      coded = S.coded;
      starts = P;
      long = let z = S.long in omega arith;
      way = subst (λ (k : ℕ). Way by_link (instructions_of c) (marks_of k area') place) S.count (W.ways place (λ z. f (sym (mark-at n area' place S.inside) ∙ z)));
      fits = S.fits;
    }
