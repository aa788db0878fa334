-- Runs of None, False and True, by their words.
use Rattle.std.specs.Prelude.{ℕ, zero, suc, ◌+◌, ◌-◌, ◌≤◌, ◌<◌, ◌≡◌, List, get_or, set}
use Rattle.state.specs.Words.{word}
use Rattle.lower_forms.specs.Lowerable.{LowerableMany}
use Rattle.lower_emit.specs.declared.emitter.Code.{Code}
use Rattle.lower_emit.specs.Emitting.{CodeKept}

-- so many expressions, whatever their depth
pub record Several (n : ℕ) (t : List ℕ) (p : ℕ) : Type 0 where
  pub depth : ℕ
  pub elements : LowerableMany depth n t p

-- so many expressions or more
pub record Ahead (n : ℕ) (t : List ℕ) (p : ℕ) : Type 0 where
  pub count : ℕ
  pub enough : n ≤ count
  pub several : Several count t p

-- the words of n constants at p on, from the o-th word on
unfoldable pub constants_put : List ℕ → ℕ → List ℕ → ℕ → ℕ → List ℕ
constants_put code o t p zero = code
constants_put code o t p (suc n) = set (constants_put code o t p n) (o + n) (word (5 - get_or t (p + n) 0) 0 0)

pub record Run (r n : ℕ) (t : List ℕ) (p : ℕ) (code code' : List ℕ) (o room : ℕ) : Type 0 where
  pub few : r ≤ n
  pub small : (i : ℕ) → i < r → get_or t (p + i) 0 < 3
  pub inside : o + r ≤ room
  pub words : code' ≡ constants_put code o t p r

pub record Constants (r n : ℕ) (t : List ℕ) (p : ℕ) (a b : Code) : Type 0 where
  pub run : Run r n t p a.words.now b.words.now a.open (a.limit - a.done)
  pub size : b.open ≡ a.open + r
  pub kept : CodeKept a b
