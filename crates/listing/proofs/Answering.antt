-- The call's answers.
use mathlib.Core.Path.{◌≡◌, sym, ap, ◌∙◌}
use mathlib.Core.List.{List}
use Prim.Native.Nat.{ℕ, ◌+◌, ◌*◌, ◌/◌, ◌≤◌, ◌<◌}
use native.Mathlib.Omega.{arith}
use lib.ListN.{length}
use Rattle.definitions.specs.Bytes.{refused}
use Rattle.definitions.specs.Calls.{written, list_call}
use Rattle.definitions.specs.Listing.{function_lines, listing}
use Rattle.definitions.specs.Module.{instructions}
use Rattle.definitions.specs.Reader.{read_module}
use Rattle.definitions.proofs.Listing.{listing_length}
use Rattle.definitions.proofs.ReadFits.{small_bytes}
use Rattle.reader.specs.View.{module_tables}
use Rattle.reader.proofs.Encoding.{Small}
use Rattle.writing.specs.Wrote.{Wrote}
use Rattle.tally.specs.Walk.{functions_from, FunctionsAt}
use Rattle.tally.specs.Listed.{Printed}
use Rattle.std.specs.Prelude.{Ok, Err}
use Rattle.questions.specs.declared.Question.{Question}
use Rattle.questions.specs.declared.Question.TheVariants.{ListingRoom}
use Rattle.questions.specs.Numbers.{number}
use Rattle.reader.specs.declared.Part.{Part}
use Rattle.tally.proofs.Calling.{functions-begin, lists-closed, lists-full, lists-written}

pub list-closed : (t out : List ℕ) (q : Question) → read_module t ≡ refused (number q) → Printed (Err q) (list_call t out) out
unfolding list_call number
list-closed t out q e = lists-closed ListingRoom listing t out q e

module _ {t : List ℕ} {p : Part} (F : FunctionsAt t p) (small : Small t) where
  functions-are : functions_from p.count t (p.start + 2) ≡ (module_tables t).functions
  functions-are = (functions-begin t p F).2

  listing-is : function_lines 0 0 (functions_from p.count t (p.start + 2)) ≡ listing (module_tables t)
  unfolding listing
  listing-is = ap (function_lines 0 0) functions-are

  module _ {lines size : ℕ} (s : lines ≡ instructions (functions_from p.count t (p.start + 2))) (z : size ≡ 53 * (lines + (lines + 49) / 50)) where
    long : length (listing (module_tables t)) ≡ size
    long =
        (listing_length t (module_tables t) (small_bytes t small) F.module-is).long
        ∙ ap (λ (k : ℕ). 53 * (k + (k + 49) / 50)) (sym (s ∙ ap instructions functions-are)) ∙ sym z

    pub listing-long : length (function_lines 0 0 (functions_from p.count t (p.start + 2))) ≡ size
    listing-long = ap length listing-is ∙ long

    pub list_full : {out : List ℕ} → length out < size → Printed (Err ListingRoom) (list_call t out) out
    unfolding list_call number
    list_full {out} h = let l = long in lists-full ListingRoom listing t out (module_tables t) F.module-is (omega arith)

    pub list_written : {out after : List ℕ} {put : ℕ} → size ≤ length out → Wrote put (function_lines 0 0 (functions_from p.count t (p.start + 2))) out after → Printed (Ok put) (list_call t out) after
    unfolding list_call number
    list_written {out} {after} {put} h w =
        let l = long in
        lists-written ListingRoom listing t out (module_tables t) F.module-is after put (omega arith) (w.count ∙ ap length listing-is) (w.out ∙ ap (λ (x : List ℕ). written x out) listing-is)
