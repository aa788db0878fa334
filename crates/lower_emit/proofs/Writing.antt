-- Words one after the other, by the laws of the state.
use Prim.Native.Nat.{ℕ, ◌<◌}
use mathlib.Core.Path.{◌≡◌, refl}
use mathlib.Core.List.{List}
use Rattle.std.specs.Prelude.{Option, Some, None}
use Rattle.definitions.specs.Instruction.{Instr, instr, ConstI64}
use Rattle.definitions.specs.Tables.{Emit, one, ◌⨟◌}
use Rattle.state.specs.Words.{word, instr_of}
use Rattle.definitions.proofs.Growth.{Lengthens}
use Rattle.lower_emit.specs.Ops.{Plain}
use Rattle.lower_emit.specs.declared.emitter.Code.{Code}
use Rattle.lower_emit.specs.Emitting.{Puts, Writes}
use Rattle.lower_emit.proofs.Packing.{instr-plain, instr-small}
use Rattle.lower_emit.proofs.Steps.{code-after, put-lifts, sound-next, lowers_then, lowers-stopped}

-- one word, whose instruction doesn't depend on the tree
pub word-writes : {A : Type 0} {r : Option A} {w : ℕ} {i : Instr} {a b : Code} → ((t : List ℕ) → instr_of t w ≡ i) → Puts r w a b → Writes r (one i) a b
word-writes e h = record { lowers = λ t ts S. put-lifts S refl (e t) h; kept = h.kept }

module _ {A B : Type 0} {r : Option A} {a b : Code} {e : Emit} (h : Writes r e a b) where
  pub writes_then : {f : Emit} {x : A} {r₂ : Option B} {c : Code} → r ≡ Some x → Writes r₂ f b c → Writes r₂ (e ⨟ f) a c
  writes_then z g = record { lowers = λ t ts S. let k = h.lowers t ts S in lowers_then z S k (g.lowers t ts (sound-next z k.reaches)); kept = code-after h.kept g.kept }

  pub writes-stopped : {f : Emit} {q : Option B} → r ≡ None → q ≡ None → Lengthens f → Writes q (e ⨟ f) a b
  writes-stopped z n g = record { lowers = λ t ts S. lowers-stopped z n S g (h.lowers t ts S); kept = h.kept }

-- the number i
pub small-writes : {A : Type 0} {r : Option A} {i : ℕ} {a b : Code} → i < 65536 → Puts r (word 48 i 0) a b → Writes r (one (ConstI64 i)) a b
small-writes {i = i} b h = word-writes (λ t. instr-small t i b) h

pub plain-writes : {A : Type 0} {r : Option A} {op m n : ℕ} {a b : Code} → Plain op m n → Puts r (word op m n) a b → Writes r (one (instr op m n)) a b
plain-writes {op = op} {m = m} {n = n} p h = word-writes (λ t. instr-plain t op m n p) h
