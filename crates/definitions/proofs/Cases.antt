-- Cases of the change requests, by computing.
use mathlib.Core.Path.{◌≡◌, refl}
use mathlib.Core.Bool.{Bool, true, false, not, ◌&&◌}
use mathlib.Core.List.{List, [], ◌∷◌, ◌++◌, map}
use Prim.Native.Nat.{ℕ}
use Prim.Native.String.{String}
use lib.Dec.{eqb}
use lib.ListN.{replicate}
use Rattle.definitions.specs.Bytes.{refused, accepted, all, ascii, concat, list_bytes}
use Rattle.definitions.specs.Module.{Limits, console, limits_by, name_bytes, module_bytes, lower_tables}
use Rattle.definitions.specs.Reader.{read_module}
use Rattle.definitions.specs.Samples.{Shown, Sample, sample, shows_answer, holds, passes, refusal, function_is, height_is, symbols_are}
use Rattle.definitions.specs.Samples.{tree, named, variable, none_e, expr_s, break_s, pass_s, while_s, if_s, for_s, def_s, def_with, return_s, class_s, method_of, assign_s, list_e, tuple_e, lambda_e, call_with}
use Rattle.definitions.specs.Tree.{list_d}
use Rattle.definitions.specs.Instruction.{Instr, ConstBool, ConstNone, Pop, LoadLocal, LoadGlobal, MakeClosure, Build, Return, ConstI64, ConstF64, Dup, LoadIndex, StoreLocal, minus}
use Rattle.definitions.specs.Instruction.{Jump, JumpIfFalse, JumpIfTrue, Call, CallBuiltin, CallValue, CallMethod}
use Rattle.definitions.specs.Tables.{Function, Tables}
use Rattle.definitions.specs.Heights.{heights_hold}
use Rattle.definitions.specs.Listing.{code_line, page_line, listing}
use Rattle.definitions.specs.Sheet.{sheet}
use Rattle.definitions.specs.Open.{everything}

abbrev iterator : String
iterator = "__for_iter_2__"

-- an iterator's name with n zeros
unfoldable zeros : ℕ → List ℕ
zeros n = 6 ∷ name_bytes (ascii "__for_iter_" ++ replicate n 48 ++ ascii "__")

-- an object's attribute; a class with an attribute
unfoldable attribute_e : String → List ℕ
attribute_e x = 10 ∷ variable "o" ++ named x

unfoldable attributed : String → List ℕ → List ℕ
attributed x v = 10 ∷ named "C" ++ (0 ∷ 0 ∷ 0 ∷ 1 ∷ named x ++ v)

unfoldable bad_string : List ℕ
bad_string = 5 ∷ 0 ∷ 1 ∷ 255 ∷ []

-- R-6: an iterator's name anywhere; names that are none; 33 after 7 and before 8
unfoldable r6 : List Sample
r6 =
    sample (tree (assign_s (variable iterator) none_e ∷ [])) (refusal 33)
    ∷ sample (tree (expr_s (attribute_e "__for_iter_07__") ∷ [])) (refusal 33)
    ∷ sample (tree (expr_s (lambda_e (iterator ∷ []) none_e) ∷ [])) (refusal 33)
    ∷ sample (tree (for_s iterator none_e (pass_s ∷ []) ∷ [])) (refusal 33)
    ∷ sample (tree (def_s iterator (pass_s ∷ []) ∷ [])) (refusal 33)
    ∷ sample (tree (def_with "f" ("a" ∷ iterator ∷ []) (pass_s ∷ []) ∷ [])) (refusal 33)
    ∷ sample (tree (class_s iterator [] ∷ [])) (refusal 33)
    ∷ sample (tree (class_s "C" (method_of iterator [] [] ∷ []) ∷ [])) (refusal 33)
    ∷ sample (tree (class_s "C" (method_of "m" (iterator ∷ []) [] ∷ []) ∷ [])) (refusal 33)
    ∷ sample (tree (attributed iterator none_e ∷ [])) (refusal 33)
    ∷ sample (tree (attributed "a" (variable iterator) ∷ [])) (refusal 33)
    ∷ sample (tree (expr_s (variable "__for_iter___") ∷ expr_s (variable "__for_iter_x__") ∷ expr_s (variable "__for_iter_2___") ∷ [])) passes
    ∷ sample (tree (expr_s (variable "__for_iter_2_") ∷ expr_s (variable "_for_iter_2__") ∷ expr_s (variable "__for_iter_2") ∷ [])) passes
    ∷ sample (tree (expr_s (zeros 51) ∷ [])) (refusal 33)
    ∷ sample (tree (expr_s (zeros 52) ∷ [])) (refusal 7)
    ∷ sample (tree (expr_s bad_string ∷ expr_s (variable iterator) ∷ [])) (refusal 33)
    ∷ sample (tree (expr_s (variable iterator) ∷ expr_s (variable "2") ∷ [])) (refusal 7)
    ∷ []

r6-holds : all holds r6 ≡ true
unfolding everything r6 zeros attribute_e attributed bad_string
r6-holds = refl

-- R-14: the boundaries of RFC 3629's table, as strings of trees and as strings of modules
unfoldable text : List ℕ → List ℕ
text bs = tree (expr_s (5 ∷ list_bytes 2 (λ (c : ℕ). c ∷ []) bs) ∷ [])

unfoldable well_formed_texts : List (List ℕ)
well_formed_texts =
    [] ∷ (0x00 ∷ 0x7F ∷ []) ∷ (0xC3 ∷ 0xA9 ∷ []) ∷ (0xC2 ∷ 0x80 ∷ 0xDF ∷ 0xBF ∷ []) ∷ (0xE0 ∷ 0xA0 ∷ 0x80 ∷ []) ∷ (0xED ∷ 0x9F ∷ 0xBF ∷ []) ∷ (0xEE ∷ 0x80 ∷ 0x80 ∷ [])
    ∷ (0xEF ∷ 0xBF ∷ 0xBF ∷ []) ∷ (0xF0 ∷ 0x90 ∷ 0x80 ∷ 0x80 ∷ []) ∷ (0xF4 ∷ 0x8F ∷ 0xBF ∷ 0xBF ∷ 0x41 ∷ []) ∷ []

-- a tail alone, overlong forms, surrogates, above U+10FFFF, cut characters
unfoldable ill_formed_texts : List (List ℕ)
ill_formed_texts =
    (0x80 ∷ []) ∷ (0xC0 ∷ 0xAF ∷ []) ∷ (0xC1 ∷ 0xBF ∷ []) ∷ (0xE0 ∷ 0x9F ∷ 0xBF ∷ []) ∷ (0xED ∷ 0xA0 ∷ 0x80 ∷ []) ∷ (0xED ∷ 0xBF ∷ 0xBF ∷ []) ∷ (0xF0 ∷ 0x8F ∷ 0xBF ∷ 0xBF ∷ [])
    ∷ (0xF4 ∷ 0x90 ∷ 0x80 ∷ 0x80 ∷ []) ∷ (0xF5 ∷ 0x80 ∷ 0x80 ∷ 0x80 ∷ []) ∷ (0xFF ∷ []) ∷ (0xC3 ∷ []) ∷ (0xE2 ∷ 0x82 ∷ []) ∷ (0xF0 ∷ 0x9F ∷ 0x98 ∷ []) ∷ (0xC3 ∷ 0x41 ∷ []) ∷ []

unfoldable r14 : List Sample
r14 = map (λ (s : List ℕ). sample (text s) passes) well_formed_texts ++ map (λ (s : List ℕ). sample (text s) (refusal 8)) ill_formed_texts

r14-holds : all holds r14 ≡ true
unfolding everything r14 text well_formed_texts ill_formed_texts
r14-holds = refl

-- a module of one string and nothing else: read, or refused by 19
unfoldable module_of_text : List ℕ → List ℕ
module_of_text s = module_bytes (record { symbols = []; strings = s ∷ []; functions = []; classes = []; constants = [] })

unfoldable reads : List ℕ → Bool
reads s = elim (read_module (module_of_text s)) [ accepted t ↦ true | refused q ↦ false ]

unfoldable refused19 : List ℕ → Bool
refused19 s = elim (read_module (module_of_text s)) [ accepted t ↦ false | refused q ↦ eqb q 19 ]

r14-reads : (all reads well_formed_texts && all refused19 ill_formed_texts) ≡ true
unfolding everything reads refused19 module_of_text well_formed_texts ill_formed_texts
r14-reads = refl

-- R-9, beside the samples: in a def with `x`, a lambda inside that captures; a parameter of the lambda itself; a name without a slot
unfoldable in_def : List ℕ → List ℕ
in_def e = tree (def_with "f" ("x" ∷ []) (return_s e ∷ []) ∷ [])

unfoldable r9 : List Sample
r9 =
    sample (in_def (lambda_e [] (list_e (lambda_e [] (variable "x") ∷ lambda_e ("x" ∷ []) none_e ∷ []))))
    (function_is 2 "<lambda#2>" 0 1 (LoadLocal 0 ∷ MakeClosure 3 1 ∷ MakeClosure 4 0 ∷ Build list_d 2 ∷ Return ∷ []))
    ∷ sample (in_def (lambda_e ("x" ∷ []) (lambda_e [] (variable "x"))))
    (function_is 2 "<lambda#2>" 1 1 (LoadLocal 0 ∷ MakeClosure 3 1 ∷ Return ∷ []))
    ∷ sample (in_def (lambda_e ("y" ∷ []) (variable "z"))) (function_is 2 "<lambda#2>" 1 1 (LoadGlobal 3 ∷ Return ∷ []))
    ∷ []

r9-holds : all holds r9 ≡ true
unfolding everything r9 in_def
r9-holds = refl

-- R-1: a tuple target in a def, nested: slots from left to right, unpacked from last to first; a parameter in a target, a name twice. Main's is a sample
unfoldable r1 : List Sample
r1 =
    sample (tree (def_with "f" ("t" ∷ []) (assign_s (tuple_e (variable "a" ∷ tuple_e (variable "b" ∷ variable "c" ∷ []) ∷ [])) (variable "t") ∷ []) ∷ []))
    (function_is 1 "f" 1 4 (LoadLocal 0 ∷ Dup ∷ ConstI64 1 ∷ LoadIndex ∷ Dup ∷ ConstI64 1 ∷ LoadIndex ∷ StoreLocal 3 ∷ ConstI64 0 ∷ LoadIndex ∷ StoreLocal 2
    ∷ ConstI64 0 ∷ LoadIndex ∷ StoreLocal 1 ∷ Return ∷ []))
    ∷ sample (tree (def_with "f" ("t" ∷ []) (assign_s (tuple_e (variable "b" ∷ variable "t" ∷ [])) (variable "t") ∷ assign_s (variable "b") (variable "t") ∷ []) ∷ []))
    (function_is 1 "f" 1 2 (LoadLocal 0 ∷ Dup ∷ ConstI64 1 ∷ LoadIndex ∷ StoreLocal 0 ∷ ConstI64 0 ∷ LoadIndex ∷ StoreLocal 1 ∷ LoadLocal 0 ∷ StoreLocal 1 ∷ Return ∷ []))
    ∷ []

r1-holds : all holds r1 ≡ true
unfolding everything r1
r1-holds = refl

-- R-2: the smallest and the largest integer, a float, a jump back and one ahead, two operands, CallValue's count in the first operand's columns, no operand;
-- the first line of a page. A module without functions has no page
unfoldable r2 : List (List ℕ)
r2 =
    code_line 0 0 (ConstI64 9223372036854775808)
    ∷ code_line 1 9 (ConstI64 9223372036854775807)
    ∷ code_line 255 31 (ConstF64 18442225394064168022)
    ∷ code_line 7 12 (JumpIfFalse (minus 5))
    ∷ code_line 7 13 (Jump 41)
    ∷ code_line 65534 65534 (MakeClosure 65534 255)
    ∷ code_line 2 3 (CallValue 255)
    ∷ code_line 2 4 Return
    ∷ page_line 10486
    ∷ []

unfoldable r2-lines : List String
r2-lines =
    "    0     0 ConstI64        -9223372036854775808    "
    ∷ "    1     9 ConstI64         9223372036854775807    "
    ∷ "  255    31 ConstF64            FFEFF248E8E21456    "
    ∷ "    7    12 JumpIfFalse                       -5    "
    ∷ "    7    13 Jump                              41    "
    ∷ "65534 65534 MakeClosure                    65534 255"
    ∷ "    2     3 CallValue                        255    "
    ∷ "    2     4 Return                                  "
    ∷ "PAGE  10486                                         "
    ∷ []

r2-holds : r2 ≡ map (λ (s : String). ascii s ++ 10 ∷ []) r2-lines
unfolding everything r2 r2-lines
r2-holds = refl

r2-empty : listing (record { symbols = []; strings = []; functions = []; classes = []; constants = [] }) ≡ []
unfolding everything
r2-empty = refl

-- R-5: every kind of jump and of call, MakeClosure and Return; a function's line and the totals; a module without functions
unfoldable r5 : List Instr
r5 = JumpIfFalse 0 ∷ JumpIfTrue 0 ∷ Jump 0 ∷ Call 0 0 ∷ CallBuiltin 0 0 ∷ CallValue 0 ∷ CallMethod 0 0 ∷ MakeClosure 0 0 ∷ Return ∷ []

unfoldable r5-module : List Function → Tables
r5-module fs = record { symbols = []; strings = []; functions = fs; classes = []; constants = [] }

unfoldable r5-function : List Instr → Function
r5-function is = record { symbol = 0; arity = 0; locals = 0; height = 0; code = is }

r5-holds : sheet (r5-module (r5-function r5 ∷ r5-function (Call 0 0 ∷ Return ∷ []) ∷ []))
    ≡ concat (λ (s : String). ascii s ++ 10 ∷ []) ("    0      9      2      4              " ∷ "    1      2      0      1              " ∷ "TOTAL     11      2      5              " ∷ [])
unfolding everything r5 r5-module r5-function
r5-holds = refl

r5-empty : sheet (r5-module []) ≡ ascii "TOTAL      0      0      0              " ++ 10 ∷ []
unfolding everything r5-module
r5-empty = refl

-- R-4: as many functions and instructions as the console takes, and one more; the sets that numbers name. Symbols are long to compute
unfoldable shown_by : Limits → List (List ℕ) → Shown → Bool
shown_by l ss s = shows_answer s (lower_tables l (tree ss))

-- so many functions besides main
unfoldable defs : ℕ → List (List ℕ)
defs n = replicate n (def_s "f" [])

-- so many instructions besides BuildList, Pop and Return
unfoldable nones : ℕ → List (List ℕ)
nones n = expr_s (list_e (replicate n none_e)) ∷ []

r4-holds : (
    shown_by console (defs 63) passes && shown_by console (defs 64) (refusal 15)
    && shown_by console (nones 2045) passes && shown_by console (nones 2046) (refusal 15)
    && shown_by (limits_by 0) (defs 64) passes && shown_by (limits_by 1) (defs 64) (refusal 15) && shown_by (limits_by 2) (defs 64) (refusal 15)
    ) ≡ true
unfolding everything shown_by defs nones
r4-holds = refl

-- R-7: a loop over the parameter `r`, in its place in a tree and in code: its iterator in the slot k, its variable in v, nothing inside
unfoldable loop_in : String → List (List ℕ) → List ℕ
loop_in x b = for_s x (variable "r") b

unfoldable loop_code : ℕ → ℕ → List Instr
loop_code k v =
    LoadLocal 0 ∷ CallMethod 2 0 ∷ StoreLocal k ∷ LoadLocal k ∷ CallMethod 3 0 ∷ JumpIfFalse 4 ∷ LoadLocal k ∷ CallMethod 4 0 ∷ StoreLocal v ∷ Jump (minus 7) ∷ []

-- two helpers with loops at the same place
unfoldable helpers : List ℕ
helpers = tree (def_with "f" ("r" ∷ []) (loop_in "i" (pass_s ∷ []) ∷ []) ∷ def_with "g" ("r" ∷ []) (loop_in "i" [] ∷ expr_s (call_with "f" 0) ∷ []) ∷ [])

-- a loop in a loop and one after it, with a lambda, which sees the names alone
unfoldable nested_loops : List ℕ
nested_loops = tree (def_with "f" ("r" ∷ []) (loop_in "i" (loop_in "j" [] ∷ []) ∷ loop_in "i" (return_s (lambda_e [] (variable "j")) ∷ []) ∷ []) ∷ [])

-- loops in different branches, and one after them
unfoldable branch_loops : List ℕ
branch_loops = tree (def_with "f" ("r" ∷ []) (if_s (variable "r") (loop_in "i" [] ∷ []) (variable "r") (loop_in "j" [] ∷ []) ∷ loop_in "i" [] ∷ []) ∷ [])

-- a loop in a method, with a def in it that has a loop of its own
unfoldable method_loops : List ℕ
method_loops = tree (class_s "C" (method_of "m" ("r" ∷ []) (loop_in "i" (def_with "g" ("r" ∷ []) (loop_in "j" [] ∷ []) ∷ []) ∷ []) ∷ []) ∷ [])

unfoldable r7 : List Sample
r7 =
    sample helpers (function_is 1 "f" 1 3 (loop_code 2 1 ++ Return ∷ []))
    ∷ sample helpers (function_is 2 "g" 1 3 (loop_code 2 1 ++ Call 1 0 ∷ Pop ∷ Return ∷ []))
    ∷ sample helpers (symbols_are (map ascii ("__main__" ∷ "f" ∷ "__iter__" ∷ "__has_next__" ∷ "__next__" ∷ "g" ∷ [])))
    ∷ sample nested_loops
    (function_is 1 "f" 1 6
    (LoadLocal 0 ∷ CallMethod 2 0 ∷ StoreLocal 3 ∷ LoadLocal 3 ∷ CallMethod 3 0 ∷ JumpIfFalse 14 ∷ LoadLocal 3 ∷ CallMethod 4 0 ∷ StoreLocal 1 ∷ loop_code 4 2 ++ Jump (minus 17)
    ∷ LoadLocal 0 ∷ CallMethod 2 0 ∷ StoreLocal 5 ∷ LoadLocal 5 ∷ CallMethod 3 0 ∷ JumpIfFalse 7 ∷ LoadLocal 5 ∷ CallMethod 4 0 ∷ StoreLocal 1 ∷ LoadLocal 2 ∷ MakeClosure 2 1 ∷ Return ∷ Jump (minus 10)
    ∷ Return ∷ []))
    ∷ sample nested_loops (function_is 2 "<lambda#2>" 0 1 (LoadLocal 0 ∷ Return ∷ []))
    ∷ sample branch_loops
    (function_is 1 "f" 1 6
    (LoadLocal 0 ∷ JumpIfFalse 11 ∷ loop_code 3 1 ++ Jump 12 ∷ LoadLocal 0 ∷ JumpIfFalse 11 ∷ loop_code 4 2 ++ Jump 0 ∷ loop_code 5 1 ++ Return ∷ []))
    ∷ sample method_loops (function_is 1 "m" 1 4 (loop_code 3 1 ++ Return ∷ []))
    ∷ sample method_loops (function_is 2 "g" 1 3 (loop_code 2 1 ++ Return ∷ []))
    -- main's are in globals
    ∷ sample (tree (loop_in "i" (pass_s ∷ []) ∷ [])) (symbols_are (map ascii ("__main__" ∷ "r" ∷ "__iter__" ∷ "__for_iter_2__" ∷ "__has_next__" ∷ "__next__" ∷ "i" ∷ [])))
    ∷ []

r7-holds : all holds r7 ≡ true
unfolding everything r7 loop_in loop_code helpers nested_loops branch_loops method_loops
r7-holds = refl

-- 14 counts them: a parameter, the loop variable and 253 loops make 255 slots; one loop more is too many
unfoldable loops_in : ℕ → List ℕ
loops_in n = tree (def_with "f" ("r" ∷ []) (replicate n (loop_in "i" [])) ∷ [])

r7-slots : all holds (sample (loops_in 253) passes ∷ sample (loops_in 254) (refusal 14) ∷ []) ≡ true
unfolding everything loop_in loops_in
r7-slots = refl

-- R-10: an empty tuple as a target or inside one gives 36, after 10 and before 11; as a value it passes
unfoldable binary_e : ℕ → List ℕ → List ℕ → List ℕ
binary_e op l r = 8 ∷ op ∷ l ++ r

unfoldable dict_e : List (List ℕ) → List ℕ
dict_e ps = 12 ∷ list_bytes 2 (λ (p : List ℕ). p) ps

unfoldable call_e : List ℕ → List (List ℕ) → List ℕ
call_e f es = 9 ∷ f ++ list_bytes 2 (λ (e : List ℕ). e) es

unfoldable emptied : List ℕ
emptied = assign_s (tuple_e (variable "a" ∷ tuple_e [] ∷ [])) (variable "t")

unfoldable r10 : List Sample
r10 =
    sample (tree (emptied ∷ [])) (refusal 36)
    ∷ sample (tree (assign_s (tuple_e (variable "a" ∷ tuple_e (tuple_e [] ∷ variable "b" ∷ []) ∷ [])) (variable "t") ∷ [])) (refusal 36)
    ∷ sample (tree (def_s "f" (while_s none_e (emptied ∷ []) ∷ []) ∷ [])) (refusal 36)
    ∷ sample (tree (emptied ∷ assign_s none_e none_e ∷ [])) (refusal 10)
    ∷ sample (tree (assign_s (tuple_e (tuple_e [] ∷ none_e ∷ [])) none_e ∷ [])) (refusal 10)
    ∷ sample (tree (def_with "f" ("x" ∷ "x" ∷ []) [] ∷ emptied ∷ [])) (refusal 36)
    ∷ sample (tree (assign_s (variable "v") (tuple_e []) ∷ assign_s (attribute_e "x") (tuple_e []) ∷ [])) passes
    -- heights: nothing, `a and (b or c)`, a dict, calls by value and of a method, a loop whose inside ends in a break, code behind a return
    ∷ sample (tree []) (height_is 0 0)
    ∷ sample (tree (expr_s (binary_e 12 (variable "a") (binary_e 13 (variable "b") (variable "c"))) ∷ [])) (height_is 0 1)
    ∷ sample (tree (expr_s (binary_e 0 (variable "a") (binary_e 12 (variable "b") (binary_e 0 (variable "c") (variable "d")))) ∷ [])) (height_is 0 3)
    ∷ sample (tree (expr_s (dict_e ((variable "a" ++ variable "b") ∷ (variable "c" ++ variable "d") ∷ [])) ∷ [])) (height_is 0 4)
    ∷ sample (tree (expr_s (call_e (variable "f") (none_e ∷ none_e ∷ [])) ∷ [])) (height_is 0 3)
    ∷ sample (tree (expr_s (call_e (attribute_e "m") (none_e ∷ [])) ∷ [])) (height_is 0 2)
    ∷ sample (tree (while_s none_e (break_s ∷ expr_s (list_e (none_e ∷ none_e ∷ [])) ∷ []) ∷ [])) (height_is 0 2)
    ∷ sample (tree (def_s "f" (return_s none_e ∷ expr_s (list_e (none_e ∷ none_e ∷ none_e ∷ [])) ∷ []) ∷ [])) (height_is 1 3)
    ∷ []

r10-holds : all holds r10 ≡ true
unfolding everything r10 emptied attribute_e binary_e dict_e call_e
r10-holds = refl

-- 37. Yes: `while True: break`; a fault that nothing reaches; two ways to two Returns. No: too few values; more than the number; two heights, by a question
-- and by a loop
r10-checks :
    (heights_hold 1 (ConstBool true ∷ JumpIfFalse 2 ∷ Jump 1 ∷ Jump (minus 4) ∷ Return ∷ [])
    && heights_hold 0 (Return ∷ Pop ∷ Return ∷ [])
    && heights_hold 1 (ConstNone ∷ JumpIfFalse 2 ∷ ConstNone ∷ Return ∷ Return ∷ [])
    && not (heights_hold 9 (Pop ∷ Return ∷ []))
    && not (heights_hold 9 (ConstNone ∷ CallValue 1 ∷ Return ∷ []))
    && not (heights_hold 0 (ConstNone ∷ Return ∷ []))
    && not (heights_hold 9 (ConstNone ∷ JumpIfFalse 1 ∷ ConstNone ∷ Return ∷ []))
    && not (heights_hold 9 (ConstNone ∷ Jump (minus 2) ∷ Return ∷ [])))
    ≡ true
unfolding everything
r10-checks = refl
