-- A whole function, whose body is in bounds, is in bounds.
use mathlib.Core.Path.{◌≡◌, refl, sym, ap, ◌∙◌, subst}
use mathlib.Core.Option.{Option, none, some}
use mathlib.Core.List.{List, ◌∷◌, ◌++◌, []}
use Prim.Native.Nat.{ℕ, ◌+◌, ◌≤◌, ◌<◌}
use native.Mathlib.Omega.{arith}
use lib.Seq.{append_snoc}
use lib.ListN.{length, length-append}
use Rattle.definitions.specs.Bytes.{Name, position, same}
use Rattle.definitions.specs.Slots.{Frame}
use Rattle.definitions.specs.Tables.{Function, Tables, Body, Out, Emit, add_symbol, coded, begin, set_code, intern, function, enclose}
use Rattle.definitions.specs.Open.{all_instruction}
use Rattle.definitions.proofs.Functions.{set_code-seam}
use Rattle.definitions.proofs.Every.{Every, no_every, every, every_append, every-mid, every-put, length-put, length-snoc}
use Rattle.definitions.proofs.Resolve.{position-lt}
use Rattle.definitions.proofs.Names.{Short}
use Rattle.definitions.proofs.Bounds.{Lean, Small, Tight, Trim}
use Rattle.definitions.proofs.LongerTables.{Longer, Sizes, longer-more, small-down, code_up, tight-up, ordered-up, constants-up}
use Rattle.definitions.proofs.BoundedPart.{Fits, Kept, Step}
use Rattle.definitions.proofs.BoundedNames.{symbol-longer, symbol-trim}

-- the function's slots are few where the tables are small; it gives no code in its parent, and its number exists
pub record Enclosed (n s p : ℕ) (t : Tables) (frame : Frame) (o : Out) : Type 0 where
  pub step : Step n s p t o
  pub few : (q : ℕ) → Small o.tables q → frame.locals ≤ 255
  pub silent : length o.code ≡ 0
  pub number : length t.functions < length o.tables.functions

module _ {n : ℕ} {b : Tables} (k arity : ℕ) (few : arity ≤ 255) (frame : Frame) (body : Body) (e : Emit) (E : Fits n frame.locals b e) (p : ℕ) (t : Tables) (bt : Longer b t) (has : k < length t.symbols) where
  fresh : Function
  fresh = coded k arity frame.locals []

  begun : Tables
  begun = begin k arity frame t

  begun-longer : Longer t begun
  unfolding begun begin
  begun-longer =
      let f : Function = coded k arity frame.locals [] in
      record { sizes = omega (arith, length-snoc t.functions f); new = f ∷ []; functions = refl; balance = omega arith }

  out : Out
  out = e 0 begun

  inside : Step n frame.locals 0 begun out
  unfolding out
  inside = E.at 0 begun (longer-more bt begun-longer)

  -- the function with its code
  made : Function
  made = coded k arity frame.locals out.code

  added : List Function
  added = inside.longer.new

  before : out.tables.functions ≡ t.functions ++ (fresh ∷ added)
  unfolding begun begin fresh added
  before = inside.longer.functions ∙ append_snoc t.functions fresh added

  after : (enclose k arity frame body e p t).tables.functions ≡ t.functions ++ (made ∷ added)
  unfolding enclose begun made out fresh
  after = ap (λ (fs : List Function). set_code fs (length t.functions) out.code) before ∙ set_code-seam t.functions added fresh out.code

  begun-trim : Trim t → Trim begun
  unfolding begun begin all_instruction
  begun-trim T =
      let L = begun-longer.sizes in
      record {
        symbols = T.symbols;
        strings = T.strings;
        functions = every_append (tight-up L T.functions) (every (record { symbol = has; arity = few; height = refl; code = no_every }) no_every);
        classes = ordered-up L T.classes;
        constants = constants-up L T.constants;
      }

  lengths : length out.tables.functions ≡ length (enclose k arity frame body e p t).tables.functions
  lengths = ap length before ∙ length-put t.functions added fresh made ∙ sym (ap length after)

  -- the code is set: all is as long as before
  ready : Sizes out.tables (enclose k arity frame body e p t).tables
  unfolding enclose begun out
  ready = omega (arith, lengths)

  made-lean : {q : ℕ} → Small (enclose k arity frame body e p t).tables q → Lean made
  made-lean S = every-mid t.functions added made (subst (λ (fs : List Function). Every Lean fs) after S.lean)

  inside-small : {q : ℕ} → Small (enclose k arity frame body e p t).tables q → Small out.tables (0 + length out.code)
  unfolding made fresh
  inside-small S =
      let L = made-lean S in
      record {
        place = omega (arith, L.code);
        count = omega (arith, S.count, lengths);
        lean = subst (λ (fs : List Function). Every Lean fs) (sym before)
            (every-put t.functions added made fresh (record { slots = L.slots; code = omega arith }) (subst (λ (fs : List Function). Every Lean fs) after S.lean));
      }

  tight : Trim t → Kept frame.locals out → Every (Tight (enclose k arity frame body e p t).tables) (enclose k arity frame body e p t).tables.functions
  unfolding made
  tight T K =
      let u = (enclose k arity frame body e p t).tables in
      subst (λ (fs : List Function). Every (Tight u) fs) (sym after)
      (every-put t.functions added fresh made (record { symbol = omega (arith, has, begun-longer.sizes.symbols, inside.longer.sizes.symbols, ready.symbols); arity = few; height = refl; code = code_up ready K.code })
      (subst (λ (fs : List Function). Every (Tight u) fs) before (tight-up ready K.trim.functions)))

  enclosed : (s : ℕ) → Enclosed n s p t frame (enclose k arity frame body e p t)
  unfolding enclose begun begin made out fresh
  enclosed s =
      let I = inside in
      record {
        step = record {
          longer = record { sizes = omega (arith, begun-longer.sizes, I.longer.sizes, ready); new = made ∷ added; functions = after; balance = I.longer.balance };
          weight = I.weight;
          keeps = λ S T.
              let K = I.keeps (inside-small S) (begun-trim T) in
              record {
                trim = record { symbols = K.trim.symbols; strings = K.trim.strings; functions = tight T K; classes = ordered-up ready K.trim.classes; constants = constants-up ready K.trim.constants };
                code = no_every;
              };
        };
        few = λ q S. (made-lean S).slots;
        silent = refl;
        number = omega (arith, ap length after, length-append t.functions (made ∷ added));
      }

pub function-in : {n s : ℕ} {b : Tables} {e : Emit} (x : Name) (arity : ℕ) (frame : Frame) (body : Body) (p : ℕ) (t : Tables)
    → Longer b t → (length t.functions ≤ 256 → Short x) → arity ≤ 255
    → Fits n frame.locals b e → Enclosed n s p t frame (function x arity frame body e p t)
unfolding function intern
function-in {n} {s} {e} x arity frame body p t u h few E = go (position (same x) t.symbols) (position-lt (same x) t.symbols)
  where
    go : (o : Option ℕ) → ((j : ℕ) → o ≡ some j → j < length t.symbols) → Enclosed n s p t frame (elim o as (λ z. Out) [ some j ↦ enclose j arity frame body e p t | none ↦ enclose (length t.symbols) arity frame body e p (add_symbol x t) ])
    go (some j) l = enclosed j arity few frame body e E p t u (l j refl) s
    go none l =
        let L = symbol-longer x t in
        let F = enclosed (length t.symbols) arity few frame body e E p (add_symbol x t) (longer-more u L) (omega (arith, length-snoc t.symbols x)) s in
        record {
          step = record {
            longer = longer-more L F.step.longer;
            weight = F.step.weight;
            keeps = λ m r. F.step.keeps m (symbol-trim x t (h (small-down {q = p} (longer-more L F.step.longer) (omega arith) m).count) r);
          };
          few = F.few;
          silent = F.silent;
          number = F.number;
        }

pub fits-function : {n s : ℕ} {b : Tables} {e : Emit} (x : Name) (arity : ℕ) (frame : Frame) (body : Body) → Short x → arity ≤ 255 → Fits n frame.locals b e → Fits n s b (function x arity frame body e)
fits-function x arity frame body h few E = record { at = λ p t u. (function-in x arity frame body p t u (λ c. h) few E).step }
