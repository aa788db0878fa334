-- What the exported numbers say, by the cases of the answers.
use Prim.Native.Nat.{ℕ, ◌+◌, ◌*◌, ◌^◌, ◌≤◌, ◌<◌}
use mathlib.Core.Path.{◌≡◌, refl, sym, ap, ◌∙◌, subst}
use mathlib.Core.Bool.{Bool, true, false}
use mathlib.Core.Option.{Option, none, some}
use mathlib.Core.List.{List}
use native.Mathlib.Omega.{arith}
use lib.ListN.{length, drop, length-append}
use lib.Dec.{leb}
use borrow.Author.Tests.{leb-true}
use Rattle.definitions.specs.Bytes.{Answer, refused, accepted, when_accepted}
use Rattle.definitions.specs.Instruction.{Instr}
use Rattle.definitions.specs.Tables.{Tables}
use Rattle.definitions.specs.Reader.{read_module}
use Rattle.definitions.specs.Module.{Limits, lower_bytes}
use Rattle.definitions.specs.Calls.{Counts, Running, fits_room, areas_fit, lower_answer, count_answer, Lowering, lower_call, code_call, text_fits, text_answer, text_call, written}
use Rattle.definitions.proofs.ReadFits.{module-short}
use Rattle.definitions.specs.Reach.{sought, count_found, found_answer, buffer_after, Reaching, reach_call}
use Rattle.tree.specs.Settled.{tree_said, settled}
use Rattle.std.specs.Prelude.{Result, Ok, Err, Some, None}
use Rattle.std.specs.Prelude.{Option as Opt}
use Rattle.questions.specs.declared.Question.{Question}
use Rattle.questions.specs.Numbers.{number}
use Rattle.lowering.specs.Lowered.{lowering_said, Lowers}
use Rattle.reader.specs.View.{said, said_part, CodeAt, Known, Locates}
use Rattle.reader.specs.declared.Part.{Part}
use Rattle.tally.specs.Listed.{listed_said, Printed}
use Rattle.run.specs.Pass.{ran_said, Called}
use Rattle.run.specs.declared.Ran.{Ran as RanSo}
use Rattle.told.specs.Tells.{asked_as_number, counted_as_number, found, placed, RoomToTell, FewFound}
use Rattle.told.specs.Tells.{counts_in}
use Rattle.definitions.specs.Order.{Sorting, order_call}
use Rattle.order.specs.Ordered.{place, order_said, Sorts}
use Rattle.std.specs.declared.cmp.Ordering.{Ordering as Place}
use Rattle.std.specs.declared.cmp.Ordering.TheVariants.{Less, Equal, Greater}
use Rattle.exports.specs.Told.{told_question, told_count, told_part, answer_counts_in, TellsLowering, Prints, Runs, told_found, Seeks, told_order, Orders, told_cut, TellsCut}
use Rattle.definitions.specs.Cut.{Cut, not_refused, cut_to, cut_answer, count_cut, output_cut, Cutting, cut_call}
use Rattle.cut.specs.Answered.{cut_said, CutsDown}
use Rattle.reach.specs.Reaching.{reach_said, Gives}

-- ---- a tree

asked-said : (r : Result (Unit {0}) Question) → asked_as_number r ≡ told_question (tree_said r)
unfolding asked_as_number told_question tree_said
asked-said (Ok u) = refl
asked-said (Err q) = refl

pub check-told : (r : Result (Unit {0}) Question) (t : List ℕ) → tree_said r ≡ settled t → asked_as_number r ≡ told_question (settled t)
check-told r t e = asked-said r ∙ ap told_question e

-- ---- a tree's module

-- what is written fits the output
room-count : (q room : ℕ) (bs : List ℕ) (n : ℕ) (b : Bool) → leb (length bs) room ≡ b → count_answer (elim b as (λ z. Answer (List ℕ)) [ true ↦ accepted bs | false ↦ refused q ]) ≡ accepted n → n ≤ room
unfolding count_answer when_accepted
room-count q room bs n true h e = let x : length bs ≡ n = cc in omega (arith, leb-true (length bs) room h)
room-count q room bs n false h e = let z : ◌≡◌ {A = ℕ} 0 1 = cc in absurd (omega arith)

bytes_count : (room n : ℕ) (a : Answer (List ℕ)) → count_answer (when_accepted a (fits_room room)) ≡ accepted n → n ≤ room
unfolding fits_room count_answer when_accepted
bytes_count room n (refused q) e = let z : ◌≡◌ {A = ℕ} 0 1 = cc in absurd (omega arith)
bytes_count room n (accepted bs) e = room-count 16 room bs n (leb (length bs) room) refl e

answer-count : (l : Limits) (room n : ℕ) (tree : List ℕ) (b : Bool) → count_answer (elim b as (λ z. Answer (List ℕ)) [ false ↦ refused 1 | true ↦ when_accepted (lower_bytes l tree) (fits_room room) ]) ≡ accepted n → n ≤ room
unfolding count_answer when_accepted
answer-count l room n tree true e = bytes_count room n (lower_bytes l tree) e
answer-count l room n tree false e = let z : ◌≡◌ {A = ℕ} 0 1 = cc in absurd (omega arith)

counted-lowered : (r : Result ℕ Question) → counted_as_number r ≡ told_count (lowering_said r)
unfolding counted_as_number told_count lowering_said
counted-lowered (Ok n) = refl
counted-lowered (Err q) = refl

module _ (r : Result ℕ Question) (k l : Limits) (e : k ≡ l) (tree area₁ area₂ out area₁' area₂' out' : List ℕ) (L : Lowers r area₁' area₂' out' (lower_call k tree area₁ area₂ out)) where
  lowered-fits : (n : ℕ) → r ≡ Ok n → n ≤ length out
  unfolding lowering_said lower_call lower_answer
  lowered-fits n h = answer-count k (length out) n tree (areas_fit (length area₁) (length area₂)) (sym L.answer ∙ ap lowering_said h)

  pub lowered-few : length out < 2 ^ 63 → RoomToTell r
  lowered-few h n e = let k = lowered-fits n e in omega arith

  abbrev want : Lowering
  want = lower_call l tree area₁ area₂ out

  pub lowered-told : (x : ℕ) → x ≡ counted_as_number r → TellsLowering x want area₁' area₂' out'
  lowered-told x h =
      let w : lower_call k tree area₁ area₂ out ≡ want = ap (λ (m : Limits). lower_call m tree area₁ area₂ out) e in
      subst (λ (v : Lowering). TellsLowering x v area₁' area₂' out') w (record { answer = h ∙ counted-lowered r ∙ ap told_count L.answer; first = L.first; second = L.second; output = L.output })

-- ---- the order of two trees

placed-said : (r : Result Place Question) → placed r ≡ told_order (order_said r)
unfolding placed order_said place told_order
placed-said (Ok Less) = refl
placed-said (Ok Equal) = refl
placed-said (Ok Greater) = refl
placed-said (Err q) = refl

module _ (r : Result Place Question) (k l : Limits) (e : k ≡ l) (x y area₁ area₂ area₁' area₂' : List ℕ) (S : Sorts r area₁' area₂' (order_call k x y area₁ area₂)) where
  abbrev sorted : Sorting
  sorted = order_call l x y area₁ area₂

  pub orders-told : (n : ℕ) → n ≡ placed r → Orders n sorted area₁' area₂'
  orders-told n h =
      let w : order_call k x y area₁ area₂ ≡ sorted = ap (λ (m : Limits). order_call m x y area₁ area₂) e in
      subst (λ (v : Sorting). Orders n v area₁' area₂') w (record { answer = h ∙ placed-said r ∙ ap told_order S.answer; first = S.first; second = S.second })

-- ---- a tree cut down

found-cut : (r : Result (Opt ℕ) Question) → found r ≡ told_cut (cut_said r)
unfolding found cut_said told_cut
found-cut (Ok (Some n)) = refl
found-cut (Ok None) = refl
found-cut (Err q) = refl

-- what is written fits the output: it is as long as it was
cut-fits : (a : Answer (Cut (List ℕ))) (n : ℕ) (out out' : List ℕ) → accepted (cut_to n) ≡ when_accepted a (λ c. accepted (count_cut c)) → out' ≡ output_cut a out → length out' ≡ length out → n ≤ length out
unfolding when_accepted count_cut output_cut written
cut-fits (refused q) n out out' e f l = let z : ◌≡◌ {A = ℕ} 0 1 = cc in absurd (omega arith)
cut-fits (accepted not_refused) n out out' e f l = let z : ◌≡◌ {A = ℕ} 0 1 = cc in absurd (omega arith)
cut-fits (accepted (cut_to bs)) n out out' e f l =
    let x : n ≡ length bs = cc in let y = ap length f ∙ length-append bs (drop (length bs) out) in omega arith

module _ (r : Result (Opt ℕ) Question) (k l : Limits) (e : k ≡ l) (tree area₁ area₂ out area₁' area₂' out' : List ℕ) (C : CutsDown r area₁' area₂' out' (cut_call k tree area₁ area₂ out)) where
  pub cut-few : length out' ≡ length out → length out < 2 ^ 63 → FewFound r
  unfolding cut_said cut_call
  cut-few g h n i =
      let a = cut_answer k (length area₁) (length area₂) (length out) tree in
      let z = cut-fits a n out out' (sym (ap cut_said i) ∙ C.answer) C.output g in omega arith

  abbrev cut_down : Cutting
  cut_down = cut_call l tree area₁ area₂ out

  pub cut-told : (n : ℕ) → n ≡ found r → TellsCut n cut_down area₁' area₂' out'
  cut-told n h =
      let w : cut_call k tree area₁ area₂ out ≡ cut_down = ap (λ (m : Limits). cut_call m tree area₁ area₂ out) e in
      subst (λ (v : Cutting). TellsCut n v area₁' area₂' out') w (record { answer = h ∙ found-cut r ∙ ap told_cut C.answer; first = C.first; second = C.second; output = C.output })

-- ---- a module

asked-read : {A : Type 0} (r : Result A Question) → asked_as_number r ≡ told_question (said r)
unfolding asked_as_number told_question said
asked-read (Ok x) = refl
asked-read (Err q) = refl

pub read-told : {A : Type 0} (r : Result A Question) (a : Answer (Unit {0})) → said r ≡ a → asked_as_number r ≡ told_question a
read-told r a e = asked-read r ∙ ap told_question e

-- ---- a function's code

pub code-known : (r : Result Part Question) (t : List ℕ) (f : ℕ) (p : Part) → Locates r t f → r ≡ Ok p → CodeAt t f p.start p.size p.count
unfolding Known
code-known r t f p L e = rw e at L.known

-- it lies within the module, which is short
pub code-short : (t : List ℕ) (f p s n : ℕ) → CodeAt t f p s n → p + s ≤ 524288
code-short t f p s n C = omega (arith, C.read.to, module-short t C.tables C.module-is)

pub code-yes : (r : Result Part Question) (t : List ℕ) (f : ℕ) (p : Part) → Locates r t f → r ≡ Ok p → p.start * 4294967296 + p.size ≡ told_part (code_call t f)
unfolding told_part said_part
code-yes r t f p L e = ap told_part (sym (ap said_part e) ∙ L.is)

pub code-no : (r : Result Part Question) (t : List ℕ) (f : ℕ) (q : Question) → Locates r t f → r ≡ Err q → number q ≡ told_part (code_call t f)
unfolding told_part said_part
code-no r t f q L e = ap told_part (sym (ap said_part e) ∙ L.is)

-- ---- a text about a module

counted-text : (r : Result ℕ Question) → counted_as_number r ≡ told_count (listed_said r)
unfolding counted_as_number told_count listed_said
counted-text (Ok n) = refl
counted-text (Err q) = refl

-- what is written fits the output
module _ (q : ℕ) (f : Tables → List ℕ) (r : Result ℕ Question) (t out out' : List ℕ) (L : Printed r (text_call q f t out) out') where
  text-fits : (n : ℕ) → listed_said r ≡ accepted n → n ≤ length out
  unfolding text_call text_answer text_fits count_answer when_accepted
  text-fits n e = go (read_module t) (sym L.answer ∙ e)
    where
      go : (a : Answer Tables) → count_answer (when_accepted a (λ x. text_fits q (length out) (f x))) ≡ accepted n → n ≤ length out
      go (refused p) k = let z : ◌≡◌ {A = ℕ} 0 1 = cc in absurd (omega arith)
      go (accepted x) k = room-count q (length out) (f x) n (leb (length (f x)) (length out)) refl k

  pub text-few : length out < 2 ^ 63 → RoomToTell r
  unfolding listed_said
  text-few h n e = let k = text-fits n (ap listed_said e) in omega arith

  pub text-told : (a : ℕ) → a ≡ counted_as_number r → Prints a (text_call q f t out) out'
  text-told a e = record { answer = e ∙ counted-text r ∙ ap told_count L.answer; output = L.output }

-- ---- a run

asked-ran : (r : Result RanSo Question) → asked_as_number r ≡ told_question (ran_said r)
unfolding asked_as_number told_question ran_said
asked-ran (Ok n) = refl
asked-ran (Err q) = refl

counts-ran : (r : Result RanSo Question) (xs : List ℕ) → counts_in r xs ≡ answer_counts_in (ran_said r) xs
unfolding counts_in answer_counts_in ran_said
counts-ran (Ok n) xs = refl
counts-ran (Err q) xs = refl

pub runs-told : (r : Result RanSo Question) (want : Running) (left numbers numbers' : List ℕ) → Called r want left → {a : ℕ} → a ≡ asked_as_number r → numbers' ≡ counts_in r numbers → Runs a want left numbers numbers'
runs-told r want left numbers numbers' C f g =
    record { answer = f ∙ asked-ran r ∙ ap told_question C.says; buffer = C.leaves; counts = g ∙ counts-ran r numbers ∙ ap (λ (a : Answer Counts). answer_counts_in a numbers) C.says }

-- ---- a place

-- the answers that are found fit the buffer: it is as long as it was
found-fits : (s : Answer (List Instr)) (found : Option (List ℕ)) (n : ℕ) (out out' : List ℕ) → accepted (some n) ≡ found_answer s found → out' ≡ buffer_after s found out → length out' ≡ length out → n ≤ length out
unfolding found_answer count_found buffer_after when_accepted written
found-fits (refused q) found n out out' e f l = let z : ◌≡◌ {A = ℕ} 0 1 = cc in absurd (omega arith)
found-fits (accepted code) none n out out' e f l = let z : ◌≡◌ {A = ℕ} 0 1 = cc in absurd (omega arith)
found-fits (accepted code) (some ys) n out out' e f l =
    let x : n ≡ length ys = cc in let y = ap length f ∙ length-append ys (drop (length ys) out) in omega arith

found-said : (r : Result (Opt ℕ) Question) → found r ≡ told_found (reach_said r)
unfolding found told_found reach_said
found-said (Ok (Some n)) = refl
found-said (Ok None) = refl
found-said (Err q) = refl

module _ (r : Result (Opt ℕ) Question) {bytes : List ℕ} {function place : ℕ} {area area' out out' : List ℕ} (R : Gives r bytes function place area area' out out') where
  reached-fits : (n : ℕ) → r ≡ Ok (Some n) → length out' ≡ length out → n ≤ length out
  unfolding reach_said reach_call
  reached-fits n e l =
      found-fits (sought (length area) bytes function place (length out)) R.found n out out' (sym (ap reach_said e) ∙ ap (λ (x : Reaching). x.answer) R.is) (ap (λ (x : Reaching). x.buffer) R.is) l

  pub reached-few : length out' ≡ length out → length out < 2 ^ 63 → FewFound r
  reached-few l h n e = let k = reached-fits n e l in omega arith

  pub seeks-told : (m : ℕ) → m ≡ found r → Seeks m bytes function place area area' out out'
  seeks-told m e = record { given = record { answer = reach_said r; area = area'; buffer = out' }; call = R; answer = e ∙ found-said r; left = refl; buffer = refl }
