-- Functions that a part of the tree adds: each with the source that it comes from.
use mathlib.Core.Path.{◌≡◌, sym, ap, ◌∙◌}
use mathlib.Core.Bool.{false}
use mathlib.Core.List.{List, [], ◌∷◌, ◌++◌, append_assoc, append-nil}
use Prim.Native.Nat.{ℕ, ◌<◌}
use lib.Seq.{append_snoc}
use lib.ListN.{length}
use lib.Dec.{T}
use Rattle.definitions.specs.Instruction.{Instr}
use Rattle.definitions.specs.Tables.{Function, coded, Source, Tables, Emit, set_code}
use Rattle.definitions.specs.Walk.{walk_at}
use Rattle.definitions.specs.Reader.{code_stands}
use Rattle.definitions.specs.Statements.{ComesFrom}
use Rattle.definitions.proofs.Functions.{set_code-seam}
use Rattle.definitions.proofs.Demand.{Over}
use Rattle.definitions.proofs.Meaning.{Meaning}

-- a function is of its source; its code and its source's walk are of one structured code; the walk comes to an end, and question 21 holds of the code
pub record Good (f : Function) (g : Source) : Type 0 where
  pub source : ComesFrom f g
  pub meaning : Meaning false f.code (walk_at g g.body)
  pub over : (xs : List ℕ) → Over (walk_at g g.body xs).ending
  pub stands : length f.code < 4294967296 → T (code_stands f)

pub data Pairs : List Function → List Source → Type 0 where
  no_pairs : Pairs [] []
  pair : {f : Function} {g : Source} {fs : List Function} {gs : List Source} → Good f g → Pairs fs gs → Pairs (f ∷ fs) (g ∷ gs)

pub pairs-append : {fs fs' : List Function} {gs gs' : List Source} → Pairs fs gs → Pairs fs' gs' → Pairs (fs ++ fs') (gs ++ gs')
pairs-append no_pairs b = b
pairs-append (pair g a) b = pair g (pairs-append a b)

-- good functions are added, with these sources
pub record Grows (fs fs' : List Function) (gs : List Source) : Type 0 where
  pub new : List Function
  pub functions : fs' ≡ fs ++ new
  pub good : Pairs new gs

pub grow-none : {fs : List Function} → Grows fs fs []
grow-none {fs} = record { new = []; functions = sym (append-nil fs); good = no_pairs }

pub grow-more : {fs fs' fs'' : List Function} {gs gs' : List Source} → Grows fs fs' gs → Grows fs' fs'' gs' → Grows fs fs'' (gs ++ gs')
grow-more {fs} A B = record {
  new = A.new ++ B.new;
  functions = B.functions ∙ ap (λ (z : List Function). z ++ B.new) A.functions ∙ append_assoc fs A.new B.new;
  good = pairs-append A.good B.good;
}

pub grow-function : (fs fs' : List Function) (gs : List Source) (f : Function) (g : Source) (is : List Instr) → Grows (fs ++ (f ∷ [])) fs' gs
    → Good (coded f.symbol f.arity f.locals is) g → Grows fs (set_code fs' (length fs) is) (g ∷ gs)
grow-function fs fs' gs f g is G k = record {
  new = coded f.symbol f.arity f.locals is ∷ G.new;
  functions = ap (λ (z : List Function). set_code z (length fs) is) (G.functions ∙ append_snoc fs f G.new) ∙ set_code-seam fs G.new f is;
  good = pair k G.good;
}

abbrev pub Grown : Emit → ℕ → Tables → Type 0
Grown e p t = Grows t.functions (e p t).tables.functions (e p t).sources
