-- Lines of fields: where a field or a line ends. Assumes nothing: these are definitions.
use denote.Ref.{MutBor}
use Rattle.std.specs.Prelude.{ℕ, ◌+◌, ◌≡◌, Bool, true, false, cond, eqb, Option, Some, None, is_none, Result, Ok, Err}
use Rattle.std.specs.Fn.{Mut, CalledAtMut}

-- a line ends with a line feed or with the input, where there is no byte; a field also with a tab
unfoldable pub is_end : Bool → Option ℕ → Bool
is_end at_tab None = true
is_end at_tab (Some c) = cond (eqb c 9) at_tab (eqb c 10)

-- another field follows a tab
unfoldable pub is_tab : Option ℕ → Bool
is_tab None = false
is_tab (Some c) = eqb c 9

module _ {L : Type 0} (last : L → Option ℕ) where
  -- from x to the end of the line: where x stands there, nothing is taken
  pub record Skipped (x y : L) : Type 0 where
    pub ends : is_end false (last y) ≡ true
    pub stays : is_end false (last x) ≡ true → y ≡ x

  -- how calls from f on read the lines from x on, up to z, after n of them and before `most`: where the input has ended, the reading is over, and nothing
  -- more is taken; else the next line's name is passed; where no field follows it, the line after that is next; where one does, there is a call, and the rest of
  -- its line is skipped. An error that a call answers is the answer. Where `most` lines are read, the input counts as ended
  pub data Cases {F E : Type 0} (g : Mut F (MutBor L × Unit {0}) (Result (Unit {0}) E × (MutBor L × Unit {0}))) (most : ℕ) : ℕ → F → L → Result (Unit {0}) E → L → Type 0 where
    over : {n : ℕ} {f : F} {x : L} → is_none (last x) ≡ true → Cases g most n f x (Ok tt) x
    spent : {f : F} {x z : L} → is_none (last z) ≡ true → Cases g most most f x (Ok tt) z
    bare : {n : ℕ} {f : F} {x z : L} {r : Result (Unit {0}) E} (y : L) → is_none (last x) ≡ false → is_end true (last y) ≡ true → is_tab (last y) ≡ false → Cases g most (n + 1) f y r z → Cases g most n f x r z
    reads : {n : ℕ} {f f' : F} {x z : L} {r : Result (Unit {0}) E} (y y' w : L) → is_none (last x) ≡ false → is_tab (last y) ≡ true → CalledAtMut g f y (Ok tt) f' y' → Skipped y' w → Cases g most (n + 1) f' w r z → Cases g most n f x r z
    fails : {n : ℕ} {f f' : F} {x z : L} {e : E} (y : L) → is_none (last x) ≡ false → is_tab (last y) ≡ true → CalledAtMut g f y (Err e) f' z → Cases g most n f x (Err e) z
