-- The iterator's steps.
use Prim.Native.Nat.{ℕ, ◌≤◌, ◌<◌}
use mathlib.Core.Path.{◌≡◌, refl, sym, ap, ◌∙◌}
use mathlib.Core.List.{List, ◌++◌}
use native.Mathlib.Omega.{arith}
use lib.ListN.{length, length-append}
use Rattle.definitions.specs.Bytes.{Name, ascii, decimal}
use Rattle.definitions.specs.Instruction.{CallMethod}
use Rattle.definitions.specs.Tables.{one, ◌⨟◌, intern}
use Rattle.definitions.specs.Lower.{Keeper, iter_name, make_iter, load_iter, ask_iter, take_iter, store}
use Rattle.definitions.specs.Reader.{jumps, is_jump}
use Rattle.definitions.specs.Open.{flows}
use Rattle.definitions.proofs.Decimals.{length-decimal}
use Rattle.state.specs.State.{State, emit_at}
use Rattle.state.proofs.Emission.{at-seq}
use Rattle.state.proofs.StmtEmission.{at-take_iter}
use Rattle.names.specs.Made.{made_name}
use Rattle.names.specs.declared.Made.TheVariants.{Iter, HasNext, Next, Iterator}
use Rattle.lower_emit.specs.Ops.{special, Plain}

-- ---- made names are short

pub short-iter : length (made_name Iter) < 20
unfolding made_name
short-iter = omega arith

pub short-has-next : length (made_name HasNext) < 20
unfolding made_name
short-has-next = omega arith

pub short-next : length (made_name Next) < 20
unfolding made_name
short-next = omega arith

-- the place of a store is one of at most 8,192 instructions
pub short-iterator : (n : ℕ) → n ≤ 8192 → length (made_name (Iterator n)) < 20
unfolding made_name iter_name
short-iterator n h = omega (arith, length-decimal 3 n (omega arith), length-append (ascii "__for_iter_") (decimal n ++ ascii "__"), length-append (decimal n) (ascii "__"))

-- ---- the code of an iterator's calls

pub make-is : make_iter ≡ intern (made_name Iter) (λ k. one (CallMethod k 0))
unfolding make_iter made_name
make-is = refl

pub ask-is : (g : Keeper) → ask_iter g ≡ one (load_iter g) ⨟ intern (made_name HasNext) (λ k. one (CallMethod k 0))
unfolding ask_iter made_name
ask-is g = refl

pub take-is : (base : ℕ) (slots : List Name) (x : Name) (g : Keeper) (s : State)
    → base ≤ length s.stack → emit_at base (take_iter slots x g) s ≡ emit_at base ((one (load_iter g) ⨟ intern (made_name Next) (λ k. one (CallMethod k 0))) ⨟ store slots x) s
unfolding made_name
take-is base slots x g s h =
    let next = one (load_iter g) ⨟ intern (ascii "__next__") (λ k. one (CallMethod k 0)) in
    at-take_iter base slots x g s h ∙ sym (ap (emit_at base (store slots x)) (at-seq base (one (load_iter g)) (intern (ascii "__next__") (λ k. one (CallMethod k 0))) s h)) ∙ sym (at-seq base next (store slots x) s h)

-- ---- the opcodes

pub plain-method : Plain 35 0 0
unfolding special is_jump jumps flows
plain-method = record { op-byte = omega arith; op-plain = refl; first_short = omega arith; second-byte = omega arith }
