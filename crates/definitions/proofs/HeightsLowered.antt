-- The heights of every function of every accepted tree hold.
use mathlib.Core.Path.{◌≡◌, refl, sym, ◌∙◌}
use mathlib.Core.Bool.{Bool, true, false}
use mathlib.Core.Option.{some}
use mathlib.Core.List.{List, [], ◌∷◌}
use Prim.Native.Nat.{ℕ, zero, suc, ◌≤◌, ◌<◌, max}
use native.Mathlib.Omega.{arith}
use lib.ListN.{length, get_or, get_elem?}
use lib.Dec.{leb}
use lib.Pow.{are_bytes}
use Rattle.definitions.specs.Bytes.{accepted, all}
use Rattle.definitions.specs.Tree.{Block}
use Rattle.definitions.specs.Parse.{read_tree}
use Rattle.definitions.specs.Instruction.{Instr, Return, flow}
use Rattle.definitions.specs.Tables.{Function, Tables, Source}
use Rattle.definitions.specs.Module.{Limits, office, lower_block}
use Rattle.definitions.specs.Reader.{ends_in_return, jumps_land, code_stands}
use Rattle.definitions.specs.Stack.{height_after, following, tallest, height_number, height_at}
use Rattle.definitions.specs.Statements.{Under, LoweredHeights, LoweredStarts, NumberIsLargest, NumberFits}
use Rattle.definitions.specs.Starts.{starts_source}
use Rattle.definitions.specs.Lower.{compile, emit_body}
use Rattle.definitions.proofs.Truth.{left, right, both, at_most, not-most}
use Rattle.definitions.proofs.Every.{every-at}
use Rattle.definitions.proofs.Accepted.{tables-read, accepted-gives, length-code}
use Rattle.definitions.proofs.Asked.{ok-B}
use Rattle.definitions.proofs.TreeFits.{tree-fits}
use Rattle.definitions.proofs.Demand3.{sources, question21}
use Rattle.definitions.proofs.Lowered.{when-accepted}
use Rattle.definitions.proofs.Shape.{pend}
use Rattle.definitions.proofs.Stays.{ends_some}
use Rattle.definitions.proofs.Spots.{Settles, settles-met, settles-hold}
use Rattle.definitions.proofs.Scan.{Placed, height-next, height-most, level-settles}
use Rattle.definitions.proofs.Fine.{Fine}
use Rattle.definitions.proofs.Starts.{zeros-body}
use Rattle.definitions.proofs.Rise.{Rises}
use Rattle.definitions.proofs.RiseStmt.{all-fine, rise-body}
use Rattle.definitions.proofs.Full.{full-B}
use Rattle.definitions.proofs.Known.{known}
use Rattle.definitions.proofs.NumberFew.{number-few}

pub all-get : {A : Type 0} (f : A → Bool) (xs : List A) → all f xs ≡ true → (k : ℕ) (a : A) → get_elem? xs k ≡ some a → f a ≡ true
unfolding all
all-get f [] h k a e = let z : ◌≡◌ {A = ℕ} 0 1 = cc in absurd (omega arith)
all-get f (x ∷ xs) h zero a e = let q : x ≡ a = cc in rw q at (left (f x) (all f xs) h)
all-get f (x ∷ xs) h (suc k) a e = all-get f xs (right (f x) (all f xs) h) k a e

-- code with a level that passes question 21
rises-settles : (is : List Instr) (k : ℕ) → Rises false is 0 k → ends_in_return is ≡ true → jumps_land (length is) 0 is ≡ true → length is < 4294967296 → Settles (Placed is) (height_number is) is
rises-settles is k R = rw R.emitted (λ ends lands room. level-settles R.code R.ok k R.level ends lands (ends_some (pend R.code) ends) room)

-- a function of an accepted tree: its source, and its heights
record Founded (b : Block) (k : ℕ) (f : Function) : Type 0 where
  source : Source
  there : get_elem? (compile b).sources k ≡ some source
  fine : Fine source.body
  code : f.code ≡ (emit_body source.frame source.body 0 source.start).code
  number : f.height ≡ height_number f.code
  settles : Settles (Placed f.code) f.height f.code

founded : (l : Limits) → Under l office → (tree : List ℕ) (b : Block) (t : Tables) → are_bytes tree ≡ true → read_tree tree ≡ accepted b → lower_block l b ≡ accepted t
    → (k : ℕ) (f : Function) → get_elem? t.functions k ≡ some f → Founded b k f
unfolding office code_stands
founded l u tree b t o r e k f h =
    let A = accepted-gives l u b t e in
    let F = (tree-fits tree b o r).fit A.names A.strings A.inits A.args in
    let S = sources l u b t e k f h in
    let G = every-at _ (all-fine F (ok-B false b A.loops) (full-B false b A.targets A.full)) k S.0 S.1 in
    let Q = both (ends_in_return f.code) (jumps_land (length f.code) 0 f.code) (all-get code_stands t.functions (question21 l u b t e) k f h) in
    let n : f.height ≡ height_number f.code = (every-at _ (known b t A F).bounded.trim.functions k f h).height in
    let short : length f.code ≤ 8192 = omega (arith, length-code t.functions k f h, A.limits.instructions) in
    record {
      source = S.0;
      there = S.1;
      fine = G;
      code = S.3.code;
      number = n;
      settles = rw n (rises-settles f.code 0 (rw S.3.code ((rise-body S.0.frame G).at 0 S.0.start)) Q.0 Q.1 (omega arith));
    }

pub lowered_heights : LoweredHeights
lowered_heights l u tree t o e k f h =
    let B = when-accepted (read_tree tree) (lower_block l) t (sym (tables-read l tree) ∙ e) in
    let D = founded l u tree B.0 t o B.1 B.2 k f h in
    (D.number, settles-hold D.settles)

pub lowered_starts : LoweredStarts
unfolding starts_source
lowered_starts l u tree b t o r e k f h =
    let D = founded l u tree b t o r e k f h in
    let s = D.source in
    let Z = zeros-body f.code (height_at 0 f.code) (height-next 0 f.code) s.frame s.start D.fine D.code refl in (
      s,
      D.there,
      λ j q x p g m.
          let z = every-at _ Z j q x in
          let R = settles-met D.settles q p g (z.0, sym z.1) m in
          (R.1, D.settles.within p g R),
    )

-- ---- the number

pub number_fits : NumberFits
number_fits = number-few

-- ---- the number is the largest

attained : (h : ℕ) (is : List Instr) → 1 ≤ length is → (p : ℕ) × (p < length is) × (height_after (get_or is p Return) (height_at h is p) ≡ tallest h is)
unfolding tallest
attained h [] g = absurd (omega arith)
attained h (i ∷ []) g = (0, omega arith, omega arith)
attained h (i ∷ j ∷ is) g =
    let f = following (flow i.op) i h in
    let R = attained f (j ∷ is) (omega arith) in
    go (leb (height_after i h) (tallest f (j ∷ is))) refl R
  where
    go : (c : Bool) → leb (height_after i h) (tallest (following (flow i.op) i h) (j ∷ is)) ≡ c
        → (p : ℕ) × (p < length (j ∷ is)) × (height_after (get_or (j ∷ is) p Return) (height_at (following (flow i.op) i h) (j ∷ is) p) ≡ tallest (following (flow i.op) i h) (j ∷ is))
        → (p : ℕ) × (p < length (i ∷ j ∷ is)) × (height_after (get_or (i ∷ j ∷ is) p Return) (height_at h (i ∷ j ∷ is) p) ≡ max (height_after i h) (tallest (following (flow i.op) i h) (j ∷ is)))
    go true e R = (suc R.0, omega (arith, R.1), omega (arith, R.2, at_most (height_after i h) (tallest (following (flow i.op) i h) (j ∷ is)) e))
    go false e R = (0, omega arith, omega (arith, not-most (height_after i h) (tallest (following (flow i.op) i h) (j ∷ is)) e))

pub number_is_largest : NumberIsLargest
unfolding height_number
number_is_largest code = (λ p g. height-most 0 code p g, λ g. attained 0 code g)
