-- A literal's word, by the laws of the state.
use Prim.Native.Nat.{ℕ}
use mathlib.Core.Path.{◌≡◌, refl}
use mathlib.Core.List.{List}
use Rattle.std.specs.Prelude.{Option, Some, None}
use Rattle.std.specs.Option.{is_some}
use Rattle.std.proofs.Common.{rules}
use Rattle.definitions.specs.Instruction.{Instr}
use Rattle.definitions.specs.Tables.{Emit, one}
use Rattle.state.specs.Words.{instr_of}
use Rattle.lower_emit.specs.declared.emitter.Code.{Code}
use Rattle.lower_emit.specs.declared.emitter.Used.{Used}
use Rattle.lower_emit.specs.declared.emitter.Entries.{Entries}
use Rattle.lower_emit.specs.Emitting.{Puts}
use Rattle.lower_emit.proofs.Steps.{put-lifts, lowers-by}
use Rattle.lower_leaves.specs.Literals.{QuotesTo}

-- an answer with another value in the place of (), as is_some tells
pub mapped-some : {r : Option (Unit {0})} {q : Option ℕ} {n : ℕ} → is_some q ≡ is_some r → q ≡ Some n → r ≡ Some tt
mapped-some e z = search rules

pub mapped-none : {r : Option (Unit {0})} {q : Option ℕ} → is_some q ≡ is_some r → q ≡ None → r ≡ None
mapped-none e z = search rules

pub word-quotes : {r : Option (Unit {0})} {q : Option ℕ} {w next : ℕ} {i : Instr} {x : Emit} {t : List ℕ} {n : Used 512} {a : Entries} {c d : Code}
    → is_some q ≡ is_some r → ((n : ℕ) → q ≡ Some n → n ≡ next) → instr_of t w ≡ i → Puts r w c d → x ≡ one i → QuotesTo q x next t n n a a c d
word-quotes same value is h e = record {
  place = value;
  quotes = record {
    lowers = λ ts S.
        let p = (put-lifts S refl is h).reaches in
        lowers-by (record { reaches = record { done = λ n z. p.done tt (mapped-some same z); full = λ z. p.full (mapped-none same z); limits = p.limits; areas = p.areas } }) e;
    kept = h.kept;
    limit = refl;
    entries = refl;
  };
}
