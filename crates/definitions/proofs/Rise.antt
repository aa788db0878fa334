-- Parts of the tree, their heights: what the lowering emits for one is structured code with a level; and the bodies of the functions in it are fine.
use mathlib.Core.Path.{◌≡◌, refl, ap, ◌∙◌}
use mathlib.Core.Bool.{Bool, true, false}
use mathlib.Core.Option.{Option, none as nothing, some}
use mathlib.Core.List.{List, [], ◌∷◌, ◌++◌}
use Prim.Native.Nat.{ℕ, suc, ◌+◌, ◌-◌, ◌≤◌}
use native.Mathlib.Omega.{arith}
use lib.ListN.{length}
use Rattle.definitions.specs.Bytes.{Name, Text, position, same}
use Rattle.definitions.specs.Instruction.{Instr, Jump, JumpIfFalse, Return, ConstBool, minus}
use Rattle.definitions.specs.Slots.{Frame}
use Rattle.definitions.specs.Tables.{Tables, Body, Emit, add_symbol, add_string, begin, enclose, function, emits, one, ◌⨟◌, here, intern, get_or_add_string}
use Rattle.definitions.specs.Lower
use Rattle.definitions.specs.Lower.{patch, jump_on, shortcut}
use Rattle.definitions.specs.Stack.{pops, height_after}
use Rattle.definitions.proofs.Shape.{Code, plain, ret, seq, choose, loop, size, hop, asks, pend, Plain, Each, none, more, Ok, length-pend}
use Rattle.definitions.proofs.Level.{Climbs, stay, move, Level}
use Rattle.definitions.proofs.Every.{Every, no_every, every, every_append}
use Rattle.definitions.proofs.Part.{found}
use Rattle.definitions.proofs.Fine.{Fine, FineSource}

-- ---- lists of instructions

-- instructions that are structured code, from height h to height k
pub record Rises (l : Bool) (is : List Instr) (h k : ℕ) : Type 0 where
  pub code : Code
  pub ok : Ok l code
  pub emitted : is ≡ pend code
  pub level : Level code h k

unfoldable pub rises-plain : {l : Bool} {is : List Instr} {h k : ℕ} → Each Plain is → Climbs is h k → Rises l is h k
rises-plain {is} o v = record { code = plain is; ok = o; emitted = refl; level = v }

module _ {l : Bool} {is js : List Instr} where
  unfoldable pub rises-seq : {h m k : ℕ} → Rises l is h m → Rises l js m k → Rises l (is ++ js) h k
  rises-seq {m} A B = record {
    code = seq A.code B.code;
    ok = (A.ok, B.ok);
    emitted = rw (A.emitted, B.emitted);
    level = (m, A.level, B.level);
  }

  unfoldable pub rises-choose : {ks : List Instr} {h m k : ℕ} (b : Bool) (n : ℕ) → Rises l is h (suc m) → Rises l js m k → (C : Rises l ks m k) → n ≡ hop C.code → k - 1 ≡ m
      → Rises l (is ++ (asks b (suc (length js)) ∷ (js ++ (Jump n ∷ ks)))) h k
  rises-choose {m} b n A B C e z = record {
    code = choose b A.code B.code C.code;
    ok = (A.ok, B.ok, C.ok);
    emitted = rw (A.emitted, B.emitted, C.emitted, e, length-pend B.code);
    level = (m, A.level, B.level, C.level, z);
  }

  pub rises-loop : Rises l is 0 1 → Rises true js 0 0
      → Rises l (is ++ (JumpIfFalse (suc (length js)) ∷ (patch (suc (length is)) (length js) 0 js ++ (Jump (minus (suc (suc (length is) + length js))) ∷ [])))) 0 0
  rises-loop A B = record {
    code = loop A.code B.code;
    ok = (A.ok, B.ok);
    emitted = rw (A.emitted, B.emitted, length-pend A.code, length-pend B.code);
    level = (refl, refl, A.level, B.level);
  }

pub rises-length : {l : Bool} {is : List Instr} {h k : ℕ} (A : Rises l is h k) → length is ≡ size A.code
rises-length A = ap length A.emitted ∙ length-pend A.code

-- ---- parts

-- a part of the tree goes from height h to height k; the functions that begin in it have fine bodies
pub record Rise (l : Bool) (e : Emit) (h k : ℕ) : Type 0 where
  pub at : (p : ℕ) (t : Tables) → Rises l (e p t).code h k
  pub sources : (p : ℕ) (t : Tables) → Every FineSource (e p t).sources

pub rise-emits : {l : Bool} {is : List Instr} {h k : ℕ} → Each Plain is → Climbs is h k → Rise l (emits is) h k
unfolding emits
rise-emits o v = record { at = λ p t. rises-plain o v; sources = λ p t. no_every }

pub rise-none : {l : Bool} {h : ℕ} → Rise l (emits []) h h
rise-none = rise-emits none stay

pub rise_one : {l : Bool} {i : Instr} {h k : ℕ} → Plain i → pops i ≤ h → height_after i h ≡ k → Rise l (one i) h k
rise_one o p e = rise-emits (more o none) (move p e stay)

pub rise-seq : {l : Bool} {e f : Emit} {h m k : ℕ} → Rise l e h m → Rise l f m k → Rise l (e ⨟ f) h k
unfolding ◌⨟◌
rise-seq {e} A B = record {
  at = λ p t. rises-seq (A.at p t) (B.at (p + length (e p t).code) (e p t).tables);
  sources = λ p t. every_append (A.sources p t) (B.sources (p + length (e p t).code) (e p t).tables);
}

-- `and`, `or`: either way one value more
pub rise-logical : {l : Bool} {e f : Emit} {h : ℕ} (b : Bool) → Rise l e h (suc h) → Rise l f h (suc h) → Plain (ConstBool b) → Climbs (ConstBool b ∷ []) h (suc h) → Rise l (e ⨟ shortcut b f) h (suc h)
unfolding ◌⨟◌ shortcut jump_on emits rises-plain
rise-logical {e} {h} false A B o v = record {
  at = λ p t. rises-choose false 1 (A.at p t) (B.at (suc (p + length (e p t).code)) (e p t).tables) (rises-plain (more o none) v) refl (omega arith);
  sources = λ p t. every_append (A.sources p t) (B.sources (suc (p + length (e p t).code)) (e p t).tables);
}
rise-logical {e} {h} true A B o v = record {
  at = λ p t. rises-choose true 1 (A.at p t) (B.at (suc (p + length (e p t).code)) (e p t).tables) (rises-plain (more o none) v) refl (omega arith);
  sources = λ p t. every_append (A.sources p t) (B.sources (suc (p + length (e p t).code)) (e p t).tables);
}

pub rise-loop : {l : Bool} {e f : Emit} → Rise l e 0 1 → Rise true f 0 0 → Rise l (Lower.loop e f) 0 0
unfolding Lower.loop
rise-loop {e} A B = record {
  at = λ p t. rises-loop (A.at p t) (B.at (suc (p + length (e p t).code)) (e p t).tables);
  sources = λ p t. every_append (A.sources p t) (B.sources (suc (p + length (e p t).code)) (e p t).tables);
}

pub rise-here : {l : Bool} {f : ℕ → Emit} {h k : ℕ} → ((q : ℕ) → Rise l (f q) h k) → Rise l (here f) h k
unfolding here
rise-here F = record { at = λ p t. (F p).at p t; sources = λ p t. (F p).sources p t }

-- a part that looks at the tables
pub rise-by : {l : Bool} {h k : ℕ} (g : Tables → Emit) → ((t : Tables) → Rise l (g t) h k) → Rise l (λ p t. g t p t) h k
rise-by g G = record { at = λ p t. (G t).at p t; sources = λ p t. (G t).sources p t }

rise-found : {l : Bool} {h k : ℕ} (new : Tables → Tables) {f : ℕ → Emit} → ((j : ℕ) → Rise l (f j) h k) → (o : Option ℕ) (n : ℕ) → Rise l (found new f o n) h k
rise-found new F (some j) n = F j
rise-found new F nothing n = record { at = λ p t. (F n).at p (new t); sources = λ p t. (F n).sources p (new t) }

pub rise-symbol : {l : Bool} {f : ℕ → Emit} {h k : ℕ} (x : Name) → ((j : ℕ) → Rise l (f j) h k) → Rise l (intern x f) h k
unfolding intern
rise-symbol {l} {f} {h} {k} x F = record { at = λ p t. (go t).at p t; sources = λ p t. (go t).sources p t }
  where
    go : (t : Tables) → Rise l (found (add_symbol x) f (position (same x) t.symbols) (length t.symbols)) h k
    go t = rise-found (add_symbol x) F (position (same x) t.symbols) (length t.symbols)

pub rise-string : {l : Bool} {f : ℕ → Emit} {h k : ℕ} (x : Text) → ((j : ℕ) → Rise l (f j) h k) → Rise l (get_or_add_string x f) h k
unfolding get_or_add_string
rise-string {l} {f} {h} {k} x F = record { at = λ p t. (go t).at p t; sources = λ p t. (go t).sources p t }
  where
    go : (t : Tables) → Rise l (found (add_string x) f (position (same x) t.strings) (length t.strings)) h k
    go t = rise-found (add_string x) F (position (same x) t.strings) (length t.strings)

-- a function gives no code in its parent
pub rise-function : {l : Bool} {e : Emit} {h k : ℕ} (x : Name) (arity : ℕ) (frame : Frame) (body : Body) → Fine body → Rise false e 0 k → Rise l (function x arity frame body e) h h
unfolding function enclose begin
rise-function x arity frame body F E = rise-symbol x (λ j. record { at = λ p t. rises-plain none stay; sources = λ p t. every F (E.sources 0 (begin j arity frame t)) })

pub rise-return : {l : Bool} {h : ℕ} → Rise l (one Return) h 0
unfolding emits
rise-return = record { at = λ p t. record { code = ret; ok = tt; emitted = refl; level = refl }; sources = λ p t. no_every }
