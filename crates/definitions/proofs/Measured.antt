-- The measured lowering gives what the lowering gives.
use mathlib.Core.Path.{◌≡◌, refl, sym, ap, ◌∙◌}
use mathlib.Core.Bool.{Bool, true, false}
use mathlib.Core.Option.{Option, none, some}
use mathlib.Core.List.{List, [], ◌∷◌}
use Prim.Native.Nat.{ℕ, ◌<◌}
use native.Mathlib.Omega.{arith}
use lib.ListN.{length}
use lib.Dec.{ltb, ltb→lt, lt→ltb}
use Rattle.definitions.specs.Bytes.{Name, Answer, refused, accepted, when_accepted, all, position, same}
use Rattle.definitions.specs.Tree.{Expr, Stmt, if, Block, Branches}
use Rattle.definitions.specs.Parse.{read_tree}
use Rattle.definitions.specs.Wellformed.{ask_expr, ask_stmt, ask_block, ask_branches, first_no, block_questions, refused_by, well_formed, check_tree}
use Rattle.definitions.specs.Slots.{Keeping, in_globals, Frame, names_only}
use Rattle.definitions.specs.Instruction.{Return}
use Rattle.definitions.specs.Tables.{Function, Tables, Source, Out, Emit, ◌⨟◌, add_symbol, intern, begin}
use Rattle.definitions.specs.Lower.{emit_expr, emit_stmt, main, no_tables, compile}
use Rattle.definitions.specs.Module.{Limits, fits, lower_formed, lower_tables, lower_bytes, module_bytes}
use Rattle.definitions.specs.Calls.{areas_fit, fits_room, count_answer, area_after, output_after, lower_answer, lower_call}
use Rattle.definitions.specs.Measured.{SoFar, so_far, measure_expr, measure_block, measure_hop, Loop, write_stmt}
use Rattle.definitions.specs.Measured.{compile_measured, measured_formed, measured_bytes, measured_answer, measured_call}
use Rattle.definitions.specs.Statements.{has_names, NamesStand, HasMeasure, Measures, WritesAs, WritesParts, patch_out, WritesPatched, WritesInLoop}
use Rattle.definitions.specs.Statements.{WritesMeasured, KeepsFunctions, LeavesBefore, CompilesAlike, MeasuredAgrees}
use Rattle.definitions.proofs.Truth.{left, right, holds, is_true}
use Rattle.definitions.proofs.Every.{Every, no_every, every, every-all, length-snoc}
use Rattle.definitions.proofs.Accepted.{AllYes, yes, all_yes}
use Rattle.definitions.proofs.Asked.{ok-S, ok-B, ok-M}
use Rattle.definitions.proofs.Resolve.{position-lt}
use Rattle.definitions.proofs.Shape.{length-patch}
use Rattle.definitions.proofs.Grows.{Grows}
use Rattle.definitions.proofs.PartExpr.{part-expr}
use Rattle.definitions.proofs.PartStmt.{part-stmt, part-block, part-blocks}
use Rattle.definitions.proofs.SoFarNames.{Spelled, Knows, knows-itself}
use Rattle.definitions.proofs.Counted.{Counted}
use Rattle.definitions.proofs.CountedExpr.{counted-expr, counted-exprs}
use Rattle.definitions.proofs.CountedStmt.{counted-target, counted-unpack, counted-stmt, counted-block, counted-branches}
use Rattle.definitions.proofs.Alike.{AllSpelled, spelled-after, spelled-symbol, spelled-begin, alike-expr, alike-exprs}
use Rattle.definitions.proofs.AlikeStmt.{AlikeIn, Final, final-part, spelled-class, alike-body, alike-stmt, alike-block, alike-methods}

-- ---- names

-- the test of a function's name
abbrev is_named : ℕ → Function → Bool
is_named n f = ltb f.symbol n

spelled-from : (n : ℕ) (fs : List Function) → all (is_named n) fs ≡ true → Every (Spelled n) fs
unfolding all
spelled-from n [] e = no_every
spelled-from n (f ∷ fs) e =
    every (record { symbol = ltb→lt f.symbol n (holds _ (left (is_named n f) (all (is_named n) fs) e)) }) (spelled-from n fs (right (is_named n f) (all (is_named n) fs) e))

pub all-spelled : (t : Tables) → has_names t ≡ true → AllSpelled t
unfolding has_names
all-spelled t e = record { spelled = spelled-from (length t.symbols) t.functions e }

has-names : (t : Tables) → AllSpelled t → has_names t ≡ true
unfolding has_names
has-names t N = every-all (is_named (length t.symbols)) (λ f s. is_true (is_named (length t.symbols) f) (lt→ltb f.symbol _ s.symbol)) N.spelled

knows-from : (t : Tables) → has_names t ≡ true → Knows (so_far t) t
knows-from t e = knows-itself t (all-spelled t e).spelled

-- where a function's body begins
body-begins : (x : Name) (arity : ℕ) (frame : Frame) (p : ℕ) (t : Tables) → has_names t ≡ true → intern x (λ k q u. has_names (begin k arity frame u)) p t ≡ true
unfolding intern
body-begins x arity frame p t s = go (position (same x) t.symbols) (position-lt (same x) t.symbols)
  where
    go : (o : Option ℕ) → ((j : ℕ) → o ≡ some j → j < length t.symbols)
        → ◌≡◌ {A = Bool} (elim o as (λ z. Bool) [ some j ↦ has_names (begin j arity frame t) | none ↦ has_names (begin (length t.symbols) arity frame (add_symbol x t)) ]) true
    go (some j) l = has-names _ (spelled-begin j arity frame t (l j refl) (all-spelled t s))
    go none l = has-names _ (spelled-begin (length t.symbols) arity frame (add_symbol x t) (omega (arith, length-snoc t.symbols x)) (spelled-symbol x t (all-spelled t s)))

no_names : has_names no_tables ≡ true
unfolding has_names no_tables all
no_names = refl

pub names_stand : NamesStand
names_stand = record {
  begins = no_names;
  body = body-begins;
  members = λ x t s. has-names _ (spelled-class x t (all-spelled t s));
  expression = λ slots e p t h s. has-names _ (spelled-after (counted-expr slots e h) p t (all-spelled t s));
  statement = λ l slots keep a p t h s. has-names _ (spelled-after (counted-stmt l slots keep a h) p t (all-spelled t s));
}

-- ---- measures

counts : {n : SoFar → ℕ} {f : SoFar → SoFar} {e : Emit} → Counted n f e → HasMeasure n e
counts E p t s = (E.at (so_far t) p t (knows-from t s)).count

pub measures : Measures
measures = record {
  expression = λ slots e h. counts (counted-expr slots e h);
  expressions = λ slots es h. counts (counted-exprs slots es h);
  target = λ slots e. counts (counted-target slots e);
  elements = λ slots es i. counts (counted-unpack slots es i);
  statement = λ l slots keep a h. counts (counted-stmt l slots keep a h);
  block = λ l slots keep b h. counts (counted-block l slots keep b h);
  branches = λ l slots keep r h p t s. ((counted-branches l slots keep r h).at (so_far t) p t (knows-from t s)).count;
  hop = λ l slots keep r h p t s. (counted-branches l slots keep r h).hops (so_far t) p t (knows-from t s);
}

-- what is known in any other way of the functions and classes so far measures the same
known_same : {n : SoFar → ℕ} {f : SoFar → SoFar} {e : Emit} → Counted n f e → (k : SoFar) (t : Tables) → Knows k t → n k ≡ n (so_far t)
known_same E k t K = sym (E.at k 0 t K).count ∙ (E.at (so_far t) 0 t (knows-itself t K.spelled)).count

pub expr-known : (slots : List Name) (e : Expr) (k : SoFar) (t : Tables) → ask_expr 7 e ≡ true → Knows k t → measure_expr slots k e ≡ measure_expr slots (so_far t) e
expr-known slots e k t h K = known_same (counted-expr slots e h) k t K

pub block-known : (l : Bool) (slots : List Name) (keep : Keeping) (b : Block) (k : SoFar) (t : Tables) → ask_block 7 l b ≡ true → Knows k t → measure_block slots k b ≡ measure_block slots (so_far t) b
block-known l slots keep b k t h K = known_same (counted-block l slots keep b h) k t K

pub hop-known : (l : Bool) (slots : List Name) (keep : Keeping) (r : Branches) (k : SoFar) (t : Tables) → ask_branches 7 l r ≡ true → Knows k t → measure_hop slots k r ≡ measure_hop slots (so_far t) r
hop-known l slots keep r k t h K = sym ((counted-branches l slots keep r h).hops k 0 t K) ∙ (counted-branches l slots keep r h).hops (so_far t) 0 t (knows-itself t K.spelled)

-- ---- parts

-- outside all loops
outside : {w : Loop → Emit} {e : Emit} → AlikeIn false w e → Final e → (v : Loop) → WritesAs (w v) e
outside W F v p t s = W.same v 0 0 0 p t (all-spelled t s) (λ x. absurd x) ∙ F.at 0 0 0 p t

-- in a loop
inside : {w : Loop → Emit} {e : Emit} → AlikeIn true w e → WritesPatched w e
inside W v h n i p t s L = W.same v h n i p t (all-spelled t s) (λ x. L)

writes-statement : (slots : List Name) (keep : Keeping) (v : Loop) (a : Stmt) → ask_stmt 7 false a ≡ true → ask_stmt 9 false a ≡ true → WritesAs (write_stmt slots keep v a) (emit_stmt slots keep a)
writes-statement slots keep v a h k = let o = ok-S false a k in outside (alike-stmt false slots keep a h o) (final-part (part-stmt false slots keep a o)) v

pub writes_parts : WritesParts
unfolding write_stmt emit_stmt ask_stmt
writes_parts = record {
  expression = λ slots e h p t s. (alike-expr slots e h).same p t (all-spelled t s);
  expressions = λ slots es h p t s. (alike-exprs slots es h).same p t (all-spelled t s);
  statement = writes-statement;
  block = λ slots keep v b h k. let o = ok-B false b k in outside (alike-block false slots keep b h o) (final-part (part-block (part-blocks false slots keep b o))) v;
  branches = λ slots keep v r h k. writes-statement slots keep v (if r) h k;
  methods = λ m h k ms t s. (alike-methods m h (ok-M m k)).same ms t (all-spelled t s);
}

in-loop : (slots : List Name) (keep : Keeping) (a : Stmt) → ask_stmt 7 true a ≡ true → ask_stmt 9 true a ≡ true → WritesPatched (λ v. write_stmt slots keep v a) (emit_stmt slots keep a)
in-loop slots keep a h k = inside (alike-stmt true slots keep a h (ok-S true a k))

pub writes_in_loop : WritesInLoop
unfolding write_stmt emit_stmt ask_stmt
writes_in_loop = record {
  statement = in-loop;
  block = λ slots keep b h k. inside (alike-block true slots keep b h (ok-B true b k));
  branches = λ slots keep r h k. in-loop slots keep (if r) h k;
}

pub writes_measured : WritesMeasured
writes_measured = record {
  expression = λ slots e h p t s. ap (λ (o : Out). length o.code) (writes_parts.expression slots e h p t s) ∙ measures.expression slots e h p t s;
  statement = λ slots keep v a h k p t s. ap (λ (o : Out). length o.code) (writes-statement slots keep v a h k p t s) ∙ measures.statement false slots keep a h p t s;
  in_loop = λ slots keep a v h n i p t e k s L.
      ap (λ (o : Out). length o.code) (in-loop slots keep a e k v h n i p t s L) ∙ length-patch h n i (emit_stmt slots keep a p t).code ∙ measures.statement true slots keep a e p t s;
}

-- what is added comes after what was there
keeps : (o r : Out) (t : Tables) (gs : List Source) → o ≡ r → Grows t.functions r.tables.functions gs → KeepsFunctions o t
keeps o r t gs e G = (G.new, ap (λ (z : Out). z.tables.functions) e ∙ G.functions)

pub leaves_before : LeavesBefore
unfolding ◌⨟◌
leaves_before = record {
  expression = λ slots e p t h s. keeps _ (emit_expr slots e p t) t _ (writes_parts.expression slots e h p t s) ((part-expr false slots e).grows p t);
  statement = λ slots keep v a p t h k s. keeps _ (emit_stmt slots keep a p t) t _ (writes-statement slots keep v a h k p t s) ((part-stmt false slots keep a (ok-S false a k)).grows p t);
  in_loop = λ slots keep a v h n i p t e k s L.
      keeps _ (patch_out h n i (emit_stmt slots keep a p t)) t _ (in-loop slots keep a e k v h n i p t s L) ((part-stmt true slots keep a (ok-S true a k)).grows p t);
  code = λ w v p t. (_, refl);
}

-- ---- the whole tree

pub compiles_alike : CompilesAlike
unfolding compile compile_measured
compiles_alike b h k =
    let o = ok-B false b k in
    (alike-body main 0 (names_only []) b (Return ∷ []) h o (alike-block false [] in_globals b h o)).same 0 no_tables (all-spelled no_tables no_names)

-- ---- the call

asked-alike : (l : Limits) (b : Block) → AllYes (λ q. ask_block q false b) (7 ∷ 33 ∷ 8 ∷ 9 ∷ 10 ∷ 36 ∷ 11 ∷ 12 ∷ 13 ∷ []) → fits l (compile_measured b).tables ≡ fits l (compile b).tables
asked-alike l b (yes q7 (yes q33 (yes q8 (yes q9 qs)))) = ap (λ (o : Out). fits l o.tables) (compiles_alike b q7 q9)

formed-alike : (l : Limits) (b : Block) → when_accepted (well_formed b) (measured_formed l) ≡ when_accepted (well_formed b) (lower_formed l)
unfolding measured_formed lower_formed well_formed refused_by when_accepted block_questions
formed-alike l b = go (first_no (λ q. ask_block q false b) block_questions) refl
  where
    go : (o : Option ℕ) → first_no (λ q. ask_block q false b) block_questions ≡ o
        → when_accepted (refused_by o b) (measured_formed l) ≡ when_accepted (refused_by o b) (lower_formed l)
    go none e = asked-alike l b (all_yes _ block_questions e)
    go (some q) e = refl

tables-alike : (l : Limits) (tree : List ℕ) → when_accepted (check_tree tree) (measured_formed l) ≡ lower_tables l tree
unfolding lower_tables check_tree when_accepted
tables-alike l tree = go (read_tree tree)
  where
    go : (r : Answer Block) → when_accepted (when_accepted r well_formed) (measured_formed l) ≡ when_accepted (when_accepted r well_formed) (lower_formed l)
    go (refused q) = refl
    go (accepted b) = formed-alike l b

-- the answer, by the tables
abbrev answer_by : ℕ → ℕ → ℕ → Answer Tables → Answer (List ℕ)
answer_by m n room a =
    elim (areas_fit m n) [ false ↦ refused 1 | true ↦ when_accepted (when_accepted a (λ t. accepted (module_bytes t))) (fits_room room) ]

answer-alike : (l : Limits) (m n room : ℕ) (tree : List ℕ) → measured_answer l m n room tree ≡ lower_answer l m n room tree
unfolding measured_answer lower_answer measured_bytes lower_bytes
answer-alike l m n room tree = ap (answer_by m n room) (tables-alike l tree)

pub measured_agrees : MeasuredAgrees
unfolding measured_call lower_call
measured_agrees l tree area₁ area₂ output =
    ap (λ (a : Answer (List ℕ)). record {
      answer = count_answer a;
      area₁ = area_after (length area₁) (length area₂) area₁;
      area₂ = area_after (length area₁) (length area₂) area₂;
      output = output_after a output;
    }) (answer-alike l (length area₁) (length area₂) (length output) tree)
