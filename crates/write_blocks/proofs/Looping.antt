-- Loops: a head, the question over the inside and the jump back, the inside, which knows where the loop starts and ends, and the jump back.
use Prim.Native.Nat.{ℕ, suc, ◌+◌, ◌-◌, ◌≤◌}
use mathlib.Core.Path.{◌≡◌, refl, sym, subst, ◌∙◌}
use mathlib.Core.List.{List}
use native.Mathlib.Omega.{arith}
use lib.ListN.{length}
use Rattle.std.specs.Prelude.{Option, Some, None}
use Rattle.definitions.specs.Instruction.{JumpIfFalse}
use Rattle.definitions.specs.Tables.{Tables, Emit, one, ◌⨟◌, here}
use Rattle.definitions.specs.Measured as Measured
use Rattle.definitions.specs.Measured.{SoFar, so_far, knowing, measure_loop, back, write_loop}
use Rattle.definitions.proofs.SoFarNames.{Knows}
use Rattle.definitions.proofs.Counted.{CountedSame, counted-one}
use Rattle.definitions.proofs.Alike.{Alike}
use Rattle.state.specs.State.{State, emit_at}
use Rattle.definitions.proofs.Growth.{Lengthens, lengthens-one, lengthens-seq}
use Rattle.state.proofs.Within.{within-two}
use Rattle.lower_calls.proofs.Calls.{at_same}
use Rattle.lower_emit.specs.declared.emitter.Emitter.{Emitter}
use Rattle.lower_emit.specs.Emitting.{state_in, SoundIn, LowersIn}
use Rattle.lower_emit.proofs.Spelled.{spelled-in}
use Rattle.lower_emit.proofs.Steps.{sound-next, lowers_then, lowers-stopped, lowers-state}
use Rattle.lower_blocks.proofs.Between.{stack-long, stack-low}
use Rattle.write_blocks.specs.Sizes.{Fits}
use Rattle.write_blocks.proofs.Growing.{grows-back}
use Rattle.write_blocks.proofs.Counting.{Sizes}
use Rattle.write_blocks.proofs.Jumping.{first_as, known-after, longer-by, size-stops}

-- a loop where u are the tables: its head, e, which is written as e'; its inside, v, by where the loop starts and ends
pub record Parts (u : Tables) (m n : SoFar → ℕ) (f : SoFar → SoFar) (h : ℕ) (e' e : Emit) (v : Measured.Loop → Emit) : Type 0 where
  pub head : Alike e' e
  pub counted : CountedSame m e
  pub sizes : (w : Measured.Loop) → Sizes n f h (v w)
  pub grows : (w : Measured.Loop) → Lengthens (v w)
  -- the inside measures the same where the same is so far
  pub same : (t : Tables) → Knows (so_far u) t → n (so_far u) ≡ n (so_far t)

module _ {t : List ℕ} {a : Emitter} {m n : SoFar → ℕ} {f : SoFar → SoFar} {h : ℕ} {e' e : Emit} {v : Measured.Loop → Emit} (S : SoundIn t a) (L : Parts (state_in t a).tables m n f h e' e v) where
  abbrev s : State
  s = state_in t a

  abbrev base : ℕ
  base = a.code.base

  -- the place where it starts
  abbrev p : ℕ
  p = length s.stack - base

  abbrev written : Emit
  written = knowing (λ k. write_loop (m k) (n k) e' v)

  -- the inside's measure, and the place where the loop ends
  abbrev inside : ℕ
  inside = n (so_far s.tables)

  abbrev past : ℕ
  past = p + measure_loop (m (so_far s.tables)) inside

  -- with j as that measure, and z as that place
  abbrev by : ℕ → ℕ → Emit
  by j z = e ⨟ one (JumpIfFalse (suc j)) ⨟ v (record { start = p; end = z }) ⨟ back p

  loop-as : (j z : ℕ) → j ≡ inside → z ≡ past → emit_at base written s ≡ emit_at base (by j z) s
  unfolding knowing write_loop here
  loop-as j z g q =
      at_same base written (by j z) s
      (first_as e' e (one (JumpIfFalse (suc inside)) ⨟ v (record { start = p; end = past }) ⨟ back p) p s.tables (L.head.same p s.tables (spelled-in S))
      ∙ (λ i. by (sym g i) (sym q i) p s.tables))

  rests : (z : ℕ) → Lengthens (v (record { start = p; end = z }) ⨟ back p)
  rests z = lengthens-seq (L.grows _) (grows-back p)

  module _ {B : Type 0} {r : Option B} {a₁ : Emitter} (g : LowersIn r e t a a₁) where
    pub loop-stopped : {A : Type 0} {o : Option A} → r ≡ None → o ≡ None → LowersIn o written t a a₁
    loop-stopped z y = lowers-state (lowers-stopped z y S (lengthens-seq (lengthens-one (JumpIfFalse (suc inside))) (rests past)) g) (loop-as inside past refl refl)

    module _ {x : B} (z : r ≡ Some x) where
      abbrev S₁ : SoundIn t a₁
      S₁ = sound-next z g.reaches

      inside-same : inside ≡ n (so_far (state_in t a₁).tables)
      inside-same = L.same (state_in t a₁).tables (known-after S L.counted (g.reaches.done x z))

      after : {A : Type 0} {o : Option A} {b : Emitter} {j q : ℕ} → j ≡ n (so_far (state_in t a₁).tables) → q ≡ past
          → LowersIn o (one (JumpIfFalse (suc j)) ⨟ v (record { start = p; end = q }) ⨟ back p) t a₁ b → LowersIn o written t a b
      after {j = j} {q = q} u y i = lowers-state (lowers_then z S g i) (loop-as j q (u ∙ sym inside-same) y)

      pub loop-long : {A : Type 0} {o : Option A} {l : Option ℕ} {heads size limit : ℕ} → Fits l heads size limit → limit ≡ a₁.code.limit → heads ≤ h
          → size ≤ n (so_far (state_in t a₁).tables) → l ≡ None → o ≡ None → LowersIn o written t a a₁
      loop-long F u less few y d =
          after refl refl (size-stops (JumpIfFalse _) S₁ (L.sizes _) (L.grows _) F u less few y d
          (λ w. within-two a₁.code.base _ _ (state_in t a₁) (stack-low S₁) (grows-back p) w))

      module _ {j : ℕ} (u : j ≡ n (so_far (state_in t a₁).tables)) {D : Type 0} {y : Option D} {a₂ : Emitter} (i : LowersIn y (one (JumpIfFalse (suc j))) t a₁ a₂) where
        pub loop-full : {A : Type 0} {o : Option A} → y ≡ None → o ≡ None → LowersIn o written t a a₂
        loop-full d q = after u refl (lowers-stopped d q S₁ (rests _) i)

        module _ {k : D} (d : y ≡ Some k) (w : Measured.Loop) (is : w.start + base ≡ a.code.open) (to : w.end + base ≡ a₂.code.open + (j + 1)) where
          starts : w.start ≡ p
          starts = omega (arith, is, stack-long S)

          ends : w.end ≡ past
          unfolding measure_loop
          ends = omega (arith, to, is, stack-long S, longer-by S L.counted (g.reaches.done x z), longer-by S₁ (counted-one (JumpIfFalse (suc j))) (i.reaches.done k d), u, inside-same)

          module _ {F : Type 0} {q : Option F} {a₃ : Emitter} (b : LowersIn q (v w) t a₂ a₃) where
            S₂ : SoundIn t a₂
            S₂ = sound-next d i.reaches

            inner : LowersIn q (v (record { start = p; end = w.end })) t a₂ a₃
            inner = subst (λ (x : Emit). LowersIn q x t a₂ a₃) (λ l. v (record { start = starts l; end = w.end })) b

            pub loop-over : {A : Type 0} {o : Option A} → q ≡ None → o ≡ None → LowersIn o written t a a₃
            loop-over c f = after u ends (lowers_then d S₁ i (lowers-stopped c f S₂ (grows-back p) inner))

            pub loop-ends : {G : Type 0} {l : F} {o : Option G} {b' : Emitter} → q ≡ Some l → LowersIn o (back w.start) t a₃ b' → LowersIn o written t a b'
            loop-ends {o = o} {b' = b'} c f = after u ends (lowers_then d S₁ i (lowers_then c S₂ inner (subst (λ (x : ℕ). LowersIn o (back x) t a₃ b') starts f)))
