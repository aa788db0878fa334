-- The call's answers.
use mathlib.Core.Path.{◌≡◌, sym, ap, ◌∙◌}
use mathlib.Core.List.{List}
use Prim.Native.Nat.{ℕ, ◌+◌, ◌*◌, ◌≤◌, ◌<◌}
use native.Mathlib.Omega.{arith}
use lib.ListN.{length}
use Rattle.definitions.specs.Bytes.{refused}
use Rattle.definitions.specs.Calls.{written, sheet_call}
use Rattle.definitions.specs.Module.{instructions}
use Rattle.definitions.specs.Reader.{read_module}
use Rattle.definitions.specs.Sheet.{sheet_of, sheet}
use Rattle.definitions.proofs.ReadFits.{small_bytes, functions-fit}
use Rattle.definitions.proofs.Sheet.{sheet_length}
use Rattle.reader.specs.View.{module_tables}
use Rattle.reader.proofs.Encoding.{Small}
use Rattle.writing.specs.Wrote.{Wrote}
use Rattle.tally.specs.Walk.{functions_from, FunctionsAt}
use Rattle.tally.specs.Listed.{Printed}
use Rattle.std.specs.Prelude.{Ok, Err}
use Rattle.questions.specs.declared.Question.{Question}
use Rattle.questions.specs.declared.Question.TheVariants.{SheetRoom}
use Rattle.questions.specs.Numbers.{number}
use Rattle.reader.specs.declared.Part.{Part}
use Rattle.tally.proofs.Calling.{functions-begin, lists-closed, lists-full, lists-written}

pub sheet-closed : (t out : List ℕ) (q : Question) → read_module t ≡ refused (number q) → Printed (Err q) (sheet_call t out) out
unfolding sheet_call number
sheet-closed t out q e = lists-closed SheetRoom sheet t out q e

module _ {t : List ℕ} {p : Part} (F : FunctionsAt t p) (small : Small t) where
  functions-are : functions_from p.count t (p.start + 2) ≡ (module_tables t).functions
  functions-are = (functions-begin t p F).2

  sheet-is : sheet_of (functions_from p.count t (p.start + 2)) ≡ sheet (module_tables t)
  unfolding sheet
  sheet-is = ap sheet_of functions-are

  pub few-instructions : instructions (functions_from p.count t (p.start + 2)) < 1000000
  few-instructions =
      let s = (functions-fit t (module_tables t) (small_bytes t small) F.module-is).short in
      let i = ap instructions functions-are in
      omega arith

  long : length (sheet (module_tables t)) ≡ 41 * (p.count + 1)
  long = (sheet_length t (module_tables t) (small_bytes t small) F.module-is).long ∙ ap (λ (k : ℕ). 41 * (k + 1)) (sym F.count)

  pub sheet-long : length (sheet_of (functions_from p.count t (p.start + 2))) ≡ 41 * (p.count + 1)
  sheet-long = ap length sheet-is ∙ long

  pub sheet-full : {out : List ℕ} → length out < 41 * (p.count + 1) → Printed (Err SheetRoom) (sheet_call t out) out
  unfolding sheet_call number
  sheet-full {out} h = let l = long in lists-full SheetRoom sheet t out (module_tables t) F.module-is (omega arith)

  pub sheet-written : {out after : List ℕ} {put : ℕ} → 41 * (p.count + 1) ≤ length out → Wrote put (sheet_of (functions_from p.count t (p.start + 2))) out after → Printed (Ok put) (sheet_call t out) after
  unfolding sheet_call number
  sheet-written {out} {after} {put} h w =
      let l = long in
      lists-written SheetRoom sheet t out (module_tables t) F.module-is after put (omega arith) (w.count ∙ ap length sheet-is) (w.out ∙ ap (λ (x : List ℕ). written x out) sheet-is)
