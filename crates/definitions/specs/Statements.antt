-- The theorems about the definitions, as statements. Each is proved, under the same name in small letters, in the module of proofs/ that is named here.
use Rattle.std.specs.Prelude.{ℕ, zero, suc, ◌+◌, ◌*◌, ◌/◌, ◌≤◌, ◌<◌, ◌≡◌, ◌⊎◌, Bool, true, false, not, ◌&&◌, ◌||◌, List, [], ◌∷◌, ◌++◌, map, length, get_or, take, drop, eqb, leb, ltb}
use Prim.Native.String.{String}
use Rattle.std.proofs.Math.Option.{Option, none, some}
use Rattle.std.proofs.Math.ListN.{get_elem?}
use Rattle.std.proofs.Math.Pow.{are_bytes}
use Rattle.definitions.specs.Bytes.{Name, ascii, decimal, member, Answer, refused, accepted, Parsed, got, failed, field, all, concat}
use Rattle.definitions.specs.Utf8.{Range, in_range, Octets, utf8_char, is_utf8, is_scalar, encode_char}
use Rattle.definitions.specs.Tree.{BinaryOp, add_op, subtract_op, multiply_op, divide_op, floor_divide_op, modulo_op, equal_op, not_equal_op, less_op, less_equal_op, greater_op, greater_equal_op}
use Rattle.definitions.specs.Tree.{binary_number, UnaryOp, LogicalOp, Display, Expr, lit, var, unary, binary, logical, call, attr, display, index, lambda, Exprs, []ᵉ, ◌∷ᵉ◌}
use Rattle.definitions.specs.Tree.{Stmt, break, continue, pass, expr, return, assign, if, while, for, def, class, Block, []ᵇ, ◌∷ᵇ◌, Branches, done, else, when, Methods, Attribute}
use Rattle.definitions.specs.Parse.{binary_kinds, block_of, parse_stmt, tree_version, read_tree}
use Rattle.definitions.specs.Wellformed.{is_name, is_tuple, is_iterator, distinct, ask_expr, ask_exprs, ask_stmt, ask_block, ask_branches, ask_methods}
use Rattle.definitions.specs.TreeNames.{names_block}
use Rattle.definitions.specs.Slots.{add, locals_block, captures, loops_block, Keeping, Frame}
use Rattle.definitions.specs.Instruction.{Numbers, nothing, a_string, a_constant, a_slot, a_symbol, a_function, a_builtin, numbers_of}
use Rattle.definitions.specs.Instruction.{Instr, LoadLocal, StoreLocal, StoreGlobal, Return, row_of, binary_code, encode, encodes}
use Rattle.definitions.specs.Instruction.{Flow, straight, jump, returns, question, flow}
use Rattle.definitions.specs.Tables.{Function, Method, Tables, Body, block_body, expr_body, Source, Out, Emit, ◌⨟◌, intern, begin}
use Rattle.definitions.specs.Lower.{emit_expr, emit_exprs, emit_target, unpack, patch, iter_name, begin_class, emit_stmt, emit_block, emit_branches, emit_methods, no_tables, compile, emit_body}
use Rattle.definitions.specs.Bodies.{bodies}
use Rattle.definitions.specs.Module.{Limits, office, console, limits_by, module_version, module_bytes, code_start, instructions, slots_fit, tables_fit, lower_block, lower_tables, lower_bytes}
use Rattle.definitions.specs.Reader.{module_record, numbers_exist, code_stands, read_module}
use Rattle.definitions.specs.Listing.{first_text, second_text, name_text, code_line, page_line, listing}
use Rattle.definitions.specs.Sheet.{any_op, is_question, is_call, tally, all_code, count_line, sheet}
use Rattle.definitions.specs.Run.{Ran, run}
use Rattle.definitions.specs.Walk.{Walked, ending_number, walk}
use Rattle.definitions.specs.Calls.{areas_fit, are_answers, lower_answer, lower_call, read_call, Part, part_of, code_call, text_answer, run_answer, walk_tree}
use Rattle.definitions.specs.Reach.{places_met, Reachable, Brings, Nowhere, wide_area, sought, Finds}
use Rattle.definitions.specs.Search.{Rule, Swept}
use Rattle.definitions.specs.Stack.{height_after, height_number, height_at}
use Rattle.definitions.specs.Heights.{Spot, spots_met, Met, Within, HeightsHold, heights_hold, function_holds, heights_answer}
use Rattle.definitions.specs.Starts.{starts_source}
use Rattle.definitions.specs.TreeBytes.{size, tree_bytes}
use Rattle.definitions.specs.Rests.{rest, taken}
use Rattle.definitions.specs.Order.{Ordering, less, equal, greater, order, accepted_tree, order_answer}
use Rattle.definitions.specs.Measured.{SoFar, so_far, measure_expr, measure_exprs, measure_target, measure_unpack, measure_stmt, measure_block, measure_branches, measure_hop}
use Rattle.definitions.specs.Measured.{Loop, write_expr, write_exprs, write_stmt, write_block, write_branches, write_methods, compile_measured, measured_call}
use Rattle.definitions.specs.Cut.{stretch_of, first_start, fewest, passes, failing, over_stretch, not_refused, cut_to, cut_by, cut_answer}
use Rattle.definitions.specs.Samples.{samples, holds}

-- ---- the starred samples: proofs/Samples

abbrev pub SamplesHold : Type 0
SamplesHold = all holds samples ≡ true

-- ---- the operators' sums give what 000 emits: proofs/Operators

-- an operator, and the instruction that 000 emits for it, by its name in 001
pub record Emitted : Type 0 where
  pub op : BinaryOp
  pub name : String

abbrev pub emitted : BinaryOp → String → Emitted
emitted o x = record { op = o; name = x }

-- the twelve: `/` is TrueDiv, `//` is Div
unfoldable pub emitted_for : List Emitted
emitted_for =
    emitted add_op "Add"
    ∷ emitted subtract_op "Sub"
    ∷ emitted multiply_op "Mul"
    ∷ emitted divide_op "TrueDiv"
    ∷ emitted floor_divide_op "Div"
    ∷ emitted modulo_op "Mod"
    ∷ emitted equal_op "Eq"
    ∷ emitted not_equal_op "Ne"
    ∷ emitted less_op "Lt"
    ∷ emitted less_equal_op "Le"
    ∷ emitted greater_op "Gt"
    ∷ emitted greater_equal_op "Ge"
    ∷ []

-- the operators in the order of their bytes in a tree; their numbers are these bytes; the sum of each is the place of its instruction in `enum Instruction`
pub record Operators : Type 0 where
  pub bytes : take 12 binary_kinds ≡ map (λ (e : Emitted). binary e.op) emitted_for
  pub numbers : map (λ (e : Emitted). binary_number e.op) emitted_for ≡ 0 ∷ 1 ∷ 2 ∷ 3 ∷ 4 ∷ 5 ∷ 6 ∷ 7 ∷ 8 ∷ 9 ∷ 10 ∷ 11 ∷ []
  pub sums : map (λ (e : Emitted). (row_of (binary_code e.op)).name) emitted_for ≡ map (λ (e : Emitted). e.name) emitted_for

-- ---- the shape of refusals: proofs/Refusals

-- what the bytes after a tree's head read as
unfoldable pub parsed : List ℕ → Parsed Block
parsed tree = block_of (parse_stmt 32) (drop 5 tree)

-- 3: four bytes are there, and they count the rest
unfoldable pub head_counts : List ℕ → Bool
head_counts tree = elim (field 4 tree) [ got n rest ↦ eqb n (length rest) | failed q ↦ false ]

-- 5: one block and nothing over, but for what 6 refuses; 6: nothing is too deep
unfoldable pub reads_whole : Parsed Block → Bool
reads_whole (got b rest) = eqb (length rest) 0
reads_whole (failed q) = eqb q 6

unfoldable pub not_too_deep : Parsed Block → Bool
not_too_deep (got b rest) = true
not_too_deep (failed q) = not (eqb q 6)

-- the block that was read; an empty one where none was
unfoldable pub block_read : Parsed Block → Block
block_read (got b rest) = b
block_read (failed q) = []ᵇ

-- the module of a tree, whatever the questions say
unfoldable pub module_of : List ℕ → List ℕ
module_of tree = module_bytes (compile (block_read (parsed tree))).tables

-- a question: its number, and whether it is answered yes, those before it being so
pub record Question : Type 0 where
  pub number : ℕ
  pub yes : Bool

abbrev pub asked : ℕ → Bool → Question
asked n b = record { number = n; yes = b }

-- a tree's questions in their order, by the limits: 2 to 15
unfoldable pub tree_questions : Limits → List ℕ → List Question
tree_questions l tree =
    let b = block_read (parsed tree) in
    let t = (compile b).tables in
    asked 2 (leb (length tree) 32768)
    ∷ asked 3 (head_counts tree)
    ∷ asked 4 (leb 5 (length tree) && eqb (get_or tree 4 0) tree_version)
    ∷ asked 5 (reads_whole (parsed tree))
    ∷ asked 6 (not_too_deep (parsed tree))
    ∷ asked 7 (ask_block 7 false b)
    ∷ asked 33 (ask_block 33 false b)
    ∷ asked 8 (ask_block 8 false b)
    ∷ asked 9 (ask_block 9 false b)
    ∷ asked 10 (ask_block 10 false b)
    ∷ asked 36 (ask_block 36 false b)
    ∷ asked 11 (ask_block 11 false b)
    ∷ asked 12 (ask_block 12 false b)
    ∷ asked 13 (ask_block 13 false b)
    ∷ asked 14 (slots_fit t)
    ∷ asked 15 (tables_fit l t)
    ∷ []

-- those of the lowering; by the limits, the lengths of the areas and of the output, and the tree
unfoldable pub lower_questions : Limits → ℕ → ℕ → ℕ → List ℕ → List Question
lower_questions l m n room tree = asked 1 (areas_fit m n) ∷ tree_questions l tree ++ asked 16 (leb (length (module_of tree)) room) ∷ []

-- the refusal by the first question that is answered no; where none is, the result
unfoldable pub first_refusal : {A : Type 0} → List Question → A → Answer A
first_refusal [] a = accepted a
first_refusal (q ∷ qs) a = elim q.yes [ true ↦ first_refusal qs a | false ↦ refused q.number ]

-- the lowering refuses by the first question answered no; where none is, it accepts with the module of the tree
abbrev pub Refusals : Type 0
Refusals =
    (l : Limits) (m n room : ℕ) (tree : List ℕ) → lower_answer l m n room tree ≡ first_refusal (lower_questions l m n room tree) (module_of tree)

-- those of the order of two trees: the areas', then the first tree's, then the second's
unfoldable pub order_questions : Limits → ℕ → ℕ → List ℕ → List ℕ → List Question
order_questions l m n first second = asked 1 (areas_fit m n) ∷ tree_questions l first ++ tree_questions l second

-- the order refuses by the first question answered no; where none is, it is that of the two blocks
abbrev pub OrderRefusals : Type 0
OrderRefusals =
    (l : Limits) (m n : ℕ) (first second : List ℕ)
    → order_answer l m n first second ≡ first_refusal (order_questions l m n first second) (order (block_read (parsed first)) (block_read (parsed second)))

-- those of the cut: the areas', the output's, and those of the tree that 7 doesn't follow
unfoldable pub cut_questions : Limits → ℕ → ℕ → ℕ → List ℕ → List Question
cut_questions l m n room tree = asked 1 (areas_fit m n) ∷ asked 38 (leb (length tree) room) ∷ take 5 (tree_questions l tree)

-- the cut refuses by the first question answered no; where none is, questions 7 to 15 of the block tell what is cut
abbrev pub CutRefusals : Type 0
CutRefusals =
    (l : Limits) (m n room : ℕ) (tree : List ℕ)
    → cut_answer l m n room tree
    ≡ first_refusal (cut_questions l m n room tree) (cut_by l (block_read (parsed tree)) (lower_block l (block_read (parsed tree))))

-- ---- the same of the reader, of the hand-back of code, of the run, of texts about a module, of R-8's tool and of the check of heights: proofs/ModuleRefusals

-- what the bytes after a module's head read as
unfoldable pub record_read : List ℕ → Parsed Tables
record_read m = module_record (drop 5 m)

-- 19: the rest follows the layout, with nothing over
unfoldable pub laid_out : Parsed Tables → Bool
laid_out (got t rest) = eqb (length rest) 0
laid_out (failed q) = false

-- the tables that were read; empty ones where none were
unfoldable pub tables_read : Parsed Tables → Tables
tables_read (got t rest) = t
tables_read (failed q) = no_tables

-- the tables of a module, whatever the questions say; the code of a function of tables, none where there is no such function
unfoldable pub tables_in : List ℕ → Tables
tables_in m = tables_read (record_read m)

unfoldable pub code_in : Tables → ℕ → List Instr
code_in t f = elim (get_elem? t.functions f) [ some g ↦ g.code | none ↦ [] ]

-- the questions of the reader
unfoldable pub read_questions : List ℕ → List Question
read_questions m =
    asked 17 (leb (length m) 524288 && head_counts m)
    ∷ asked 18 (leb 5 (length m) && eqb (get_or m 4 0) module_version)
    ∷ asked 19 (laid_out (record_read m))
    ∷ asked 20 (numbers_exist (tables_in m))
    ∷ asked 21 (all code_stands (tables_in m).functions)
    ∷ []

-- those of the call that hands back the code of function f
unfoldable pub code_questions : List ℕ → ℕ → List Question
code_questions m f = read_questions m ++ asked 22 (ltb f (length (tables_in m).functions)) ∷ []

-- what function f does on answers with a budget
unfoldable pub run_in : List ℕ → ℕ → List ℕ → ℕ → Ran
run_in m f answers budget = run budget (code_in (tables_in m) f) 0 answers

-- those of the run, by the length of the event buffer
unfoldable pub run_questions : List ℕ → ℕ → List ℕ → ℕ → ℕ → List Question
run_questions m f answers budget room =
    code_questions m f ++ asked 23 (are_answers answers) ∷ asked 24 (leb (length (run_in m f answers budget).events) room) ∷ []

-- the reader refuses by the first question answered no; where none is, it accepts the tables of the module
abbrev pub ReadRefusals : Type 0
ReadRefusals = (m : List ℕ) → (read_module m ≡ first_refusal (read_questions m) (tables_in m)) × (read_call m ≡ first_refusal (read_questions m) tt)

abbrev pub CodeRefusals : Type 0
CodeRefusals =
    (m : List ℕ) (f : ℕ)
    → code_call m f ≡ first_refusal (code_questions m f) (record { start = code_start (tables_in m) f; size = length (encodes (code_in (tables_in m) f)) })

abbrev pub RunRefusals : Type 0
RunRefusals =
    (m : List ℕ) (f : ℕ) (answers : List ℕ) (budget room : ℕ)
    → run_answer m f answers budget room ≡ first_refusal (run_questions m f answers budget room) (run_in m f answers budget)

-- those of a call that writes a text about a module, by the length of the output: 31 of the listing, 32 of the sheet
unfoldable pub text_questions : ℕ → (Tables → List ℕ) → List ℕ → ℕ → List Question
text_questions q f m room = read_questions m ++ asked q (leb (length (f (tables_in m))) room) ∷ []

abbrev pub TextRefusals : Type 0
TextRefusals = (q : ℕ) (f : Tables → List ℕ) (m : List ℕ) (room : ℕ) → text_answer q f m room ≡ first_refusal (text_questions q f m room) (f (tables_in m))

-- those of the tool that seeks a place, by the lengths of the area and of the buffer
unfoldable pub reach_questions : ℕ → List ℕ → ℕ → ℕ → ℕ → List Question
reach_questions n m f place room =
    let code = code_in (tables_in m) f in
    asked 1 (wide_area n) ∷ (code_questions m f ++ asked 34 (ltb place (length code)) ∷ asked 35 (leb (tally is_question code) room) ∷ [])

abbrev pub ReachRefusals : Type 0
ReachRefusals =
    (n : ℕ) (m : List ℕ) (f place room : ℕ) → sought n m f place room ≡ first_refusal (reach_questions n m f place room) (code_in (tables_in m) f)

-- those of the check of heights, by the length of the area
unfoldable pub heights_questions : ℕ → List ℕ → List Question
heights_questions n m = asked 1 (wide_area n) ∷ read_questions m ++ asked 37 (all function_holds (tables_in m).functions) ∷ []

abbrev pub HeightsRefusals : Type 0
HeightsRefusals = (n : ℕ) (m : List ℕ) → heights_answer n m ≡ first_refusal (heights_questions n m) tt

-- ---- two sets of limits: proofs/Narrower

-- limits none of which is above the other's. The theorems below about what is lowered hold for all limits under the office's
pub record Under (l w : Limits) : Type 0 where
  pub functions : l.functions ≤ w.functions
  pub symbols : l.symbols ≤ w.symbols
  pub strings : l.strings ≤ w.strings
  pub classes : l.classes ≤ w.classes
  pub instructions : l.instructions ≤ w.instructions

-- whichever set a number names
abbrev pub SetsUnder : Type 0
SetsUnder = (n : ℕ) → Under (limits_by n) office

-- what narrower limits answer beside wider ones: the same; or 15, where these accept or say 16
pub data Narrowed {A : Type 0} (narrow wide : Answer A) : Type 0 where
  alike : narrow ≡ wide → Narrowed narrow wide
  over : (a : A) → narrow ≡ refused 15 → wide ≡ accepted a → Narrowed narrow wide
  over_first : narrow ≡ refused 15 → wide ≡ refused 16 → Narrowed narrow wide

-- with the same areas and output length
abbrev pub Narrower : Type 0
Narrower = (l w : Limits) → Under l w → (m n room : ℕ) (tree : List ℕ) → Narrowed (lower_answer l m n room tree) (lower_answer w m n room tree)

-- so a script that the console takes gives the office the very same bytes
abbrev pub ConsoleTakes : Type 0
ConsoleTakes = (m n room : ℕ) (tree bytes : List ℕ) → lower_answer console m n room tree ≡ accepted bytes → lower_answer office m n room tree ≡ accepted bytes

-- and nothing that the office refuses passes at the console: the number is the office's, but that the console may say 15 already where the office says 16
abbrev pub OfficeRefuses : Type 0
OfficeRefuses =
    (m n room : ℕ) (tree : List ℕ) (q : ℕ) → lower_answer office m n room tree ≡ refused q
    → (lower_answer console m n room tree ≡ refused q) ⊎ ((q ≡ 16) × (lower_answer console m n room tree ≡ refused 15))

-- ---- 7 and 33 are asked of the names of a tree, of each and of nothing else: proofs/TreeNames

pub record NamesAsked (b : Block) : Type 0 where
  pub formed : ask_block 7 false b ≡ all is_name (names_block b)
  pub apart : ask_block 33 false b ≡ all (λ x. not (is_iterator x)) (names_block b)

abbrev pub TreeNames : Type 0
TreeNames = (b : Block) → NamesAsked b

-- ---- a loop's iterator is the loop's own: proofs/Iterators, proofs/LoopGlobals

-- the lowering's name for an iterator has the form that 33 asks for, and the place in it can be told from it
pub record IteratorNamed (n : ℕ) : Type 0 where
  pub form : is_iterator (iter_name n) ≡ true
  pub place : (m : ℕ) → iter_name m ≡ iter_name n → m ≡ n

abbrev pub Iterators : Type 0
Iterators = (n : ℕ) → IteratorNamed n

-- In an accepted tree no name is an iterator's. And an iterator's global is main's: it is stored at the place that its name tells and nowhere else, by
-- the code of main's loop that begins there; and each symbol of that form is one of these
pub record LoopsApart (b : Block) (t : Tables) : Type 0 where
  pub names : (n : ℕ) → member (iter_name n) (names_block b) ≡ false
  pub stores :
      (k : ℕ) (f : Function) → get_elem? t.functions k ≡ some f
      → (p a n : ℕ) → get_elem? f.code p ≡ some (StoreGlobal a) → get_elem? t.symbols a ≡ some (iter_name n) → (k ≡ 0) × (p ≡ n)
  pub symbols :
      (f : Function) → get_elem? t.functions 0 ≡ some f
      → (a : ℕ) (x : Name) → get_elem? t.symbols a ≡ some x → is_iterator x ≡ true → (p : ℕ) × (get_elem? f.code p ≡ some (StoreGlobal a)) × (x ≡ iter_name p)

abbrev pub LoopGlobals : Type 0
LoopGlobals = (l : Limits) → Under l office → (b : Block) (t : Tables) → lower_block l b ≡ accepted t → LoopsApart b t

-- ---- the test of strings is the grammar of RFC 3629: proofs/Utf8Grammar

-- as many bytes as ranges, each in its own
pub data Matches : List Range → List ℕ → Type 0 where
  no_byte : Matches [] []
  byte : {r : Range} {rs : List Range} {b : ℕ} {bs : List ℕ} → in_range r b ≡ true → Matches rs bs → Matches (r ∷ rs) (b ∷ bs)

-- UTF8-octets: characters one after the other, each by a line of UTF8-char
pub data Utf8Octets : List ℕ → Type 0 where
  no_char : Utf8Octets []
  char : {c : Octets} {bs rest : List ℕ} (line : ℕ) → get_elem? utf8_char line ≡ some c → Matches (c.first ∷ c.others) bs → Utf8Octets rest → Utf8Octets (bs ++ rest)

abbrev pub Utf8Grammar : Type 0
Utf8Grammar = (s : List ℕ) → (is_utf8 s ≡ true → Utf8Octets s) × (Utf8Octets s → is_utf8 s ≡ true)

-- ---- and what passes it are the encodings of the scalar values, one after the other: proofs/Utf8Scalars

pub record Utf8Scalars : Type 0 where
  pub decodes : (s : List ℕ) → is_utf8 s ≡ true → (cs : List ℕ) × (all is_scalar cs ≡ true) × (s ≡ concat encode_char cs)
  pub encodes : (cs : List ℕ) → all is_scalar cs ≡ true → is_utf8 (concat encode_char cs) ≡ true

-- ---- which names have a slot in a def or method: proofs/Named

-- the variables that a target assigns, as they stand: the target itself, or a tuple's elements from left to right, nested tuples too
unfoldable mutual
  pub assigned : Expr → List Name
  assigned (lit l) = []
  assigned (var x) = x ∷ []
  assigned (unary op e) = []
  assigned (binary op l r) = []
  assigned (logical op l r) = []
  assigned (call f es) = []
  assigned (attr o x) = []
  assigned (display k es) = elim (is_tuple k) [ true ↦ assigned_all es | false ↦ [] ]
  assigned (index o i) = []
  assigned (lambda ps b) = []

  pub assigned_all : Exprs → List Name
  assigned_all []ᵉ = []
  assigned_all (e ∷ᵉ es) = assigned e ++ assigned_all es

-- the names that a part binds, as they stand: variables assigned, loop variables, names of defs and classes; nothing inside a nested def or class
unfoldable mutual
  pub bound_stmt : Stmt → List Name
  bound_stmt break = []
  bound_stmt continue = []
  bound_stmt pass = []
  bound_stmt (expr e) = []
  bound_stmt (return e) = []
  bound_stmt (assign t v) = assigned t
  bound_stmt (if bs) = bound_branches bs
  bound_stmt (while c b) = bound_block b
  bound_stmt (for x e b) = x ∷ bound_block b
  bound_stmt (def x ps b) = x ∷ []
  bound_stmt (class x ms vs) = x ∷ []

  pub bound_block : Block → List Name
  bound_block []ᵇ = []
  bound_block (s ∷ᵇ b) = bound_stmt s ++ bound_block b

  pub bound_branches : Branches → List Name
  bound_branches done = []
  bound_branches (else b) = bound_block b
  bound_branches (when c b r) = bound_block b ++ bound_branches r

-- names one after the other, each unless it is there
unfoldable pub add_all : List Name → List Name → List Name
add_all [] xs = xs
add_all (y ∷ ys) xs = add_all ys (add y xs)

-- the slots are the parameters, then the names bound in the body, by first appearance
abbrev pub FirstAppearance : Type 0
FirstAppearance = (ps : List Name) (b : Block) → locals_block b ps ≡ add_all (bound_block b) ps

-- so just these names have a slot, each one where the parameters are distinct
abbrev pub Named : Type 0
Named = (ps : List Name) (b : Block) (x : Name) → member x (locals_block b ps) ≡ (member x ps || member x (bound_block b))

abbrev pub NamedOnce : Type 0
NamedOnce = (ps : List Name) (b : Block) → distinct ps ≡ true → distinct (locals_block b ps) ≡ true

-- ---- what a def or method stores in globals: proofs/GlobalStores

-- a statement is one of a part's own: in its loops and branches too, not in a nested def or class
mutual
  pub data OwnStmt (c : Stmt) : Stmt → Type 0 where
    itself : OwnStmt c c
    of_if : {r : Branches} → OwnBranches c r → OwnStmt c (if r)
    of_while : {e : Expr} {b : Block} → OwnBlock c b → OwnStmt c (while e b)
    of_for : {x : Name} {e : Expr} {b : Block} → OwnBlock c b → OwnStmt c (for x e b)

  pub data OwnBlock (c : Stmt) : Block → Type 0 where
    at_first : {s : Stmt} {b : Block} → OwnStmt c s → OwnBlock c (s ∷ᵇ b)
    at_later : {s : Stmt} {b : Block} → OwnBlock c b → OwnBlock c (s ∷ᵇ b)

  pub data OwnBranches (c : Stmt) : Branches → Type 0 where
    of_else : {b : Block} → OwnBlock c b → OwnBranches c (else b)
    of_then : {e : Expr} {b : Block} {r : Branches} → OwnBlock c b → OwnBranches c (when e b r)
    of_rest : {e : Expr} {b : Block} {r : Branches} → OwnBranches c r → OwnBranches c (when e b r)

-- the name of one of its own classes
pub data Global (b : Block) (x : Name) : Type 0 where
  of_class : {ms : Methods} {vs : List Attribute} → OwnBlock (class x ms vs) b → Global b x

-- In the code of a def or method StoreGlobal stores no other name. So no name of a target is stored by it, in tuples or not, but where a class of the
-- function has that name; and no loop's iterator is
abbrev pub GlobalStores : Type 0
GlobalStores =
    (l : Limits) → Under l office → (b : Block) (t : Tables) → lower_block l b ≡ accepted t
    → (k : ℕ) (f : Function) → get_elem? t.functions (suc k) ≡ some f
    → (d : Block) (end : List Instr) → get_elem? (bodies b) (suc k) ≡ some (block_body d end)
    → (i j : ℕ) → get_elem? f.code i ≡ some (StoreGlobal j)
    → (x : Name) → get_elem? t.symbols j ≡ some x → Global d x

-- ---- what a lambda captures: proofs/Captured

-- one of several expressions
pub data Among (e : Expr) : Exprs → Type 0 where
  first : {es : Exprs} → Among e (e ∷ᵉ es)
  later : {d : Expr} {es : Exprs} → Among e es → Among e (d ∷ᵉ es)

-- a part of an expression that is no lambda
pub data PartOf (e : Expr) : Expr → Type 0 where
  operand : {op : UnaryOp} → PartOf e (unary op e)
  left_of : {op : BinaryOp} {r : Expr} → PartOf e (binary op e r)
  right_of : {op : BinaryOp} {l : Expr} → PartOf e (binary op l e)
  left_logical : {op : LogicalOp} {r : Expr} → PartOf e (logical op e r)
  right_logical : {op : LogicalOp} {l : Expr} → PartOf e (logical op l e)
  callee : {es : Exprs} → PartOf e (call e es)
  argument : {f : Expr} {es : Exprs} → Among e es → PartOf e (call f es)
  object_of : {y : Name} → PartOf e (attr e y)
  element : {k : Display} {es : Exprs} → Among e es → PartOf e (display k es)
  indexed : {i : Expr} → PartOf e (index e i)
  index_of : {o : Expr} → PartOf e (index o e)

-- an occurrence of the variable x; around are the parameters of each lambda that it stands under, the outermost first
pub data Occurs (x : Name) : List (List Name) → Expr → Type 0 where
  here : Occurs x [] (var x)
  in_part : {around : List (List Name)} {e d : Expr} → PartOf e d → Occurs x around e → Occurs x around d
  in_lambda : {around : List (List Name)} {ps : List Name} {b : Expr} → Occurs x around b → Occurs x (ps ∷ around) (lambda ps b)

-- x occurs in the body b where no lambda inside b binds it, is none of the lambda's own parameters, and has a slot in the parent
pub record Captures (slots ps : List Name) (b : Expr) (x : Name) : Type 0 where
  pub around : List (List Name)
  pub occurs : Occurs x around b
  pub unbound : all (λ (qs : List Name). not (member x qs)) around ≡ true
  pub foreign : member x ps ≡ false
  pub slotted : member x slots ≡ true

-- a lambda captures exactly these names
abbrev pub Captured : Type 0
Captured =
    (slots ps : List Name) (b : Expr) (x : Name)
    → (member x (captures slots ps b) ≡ true → Captures slots ps b x) × (Captures slots ps b x → member x (captures slots ps b) ≡ true)

-- ---- every lowered module is one that the reader takes: proofs/Lowered

-- the module reads back as the very tables that were lowered, and is within the reader's limit
pub record ReadsBack (l : Limits) (tree m : List ℕ) : Type 0 where
  pub tables : Tables
  pub lowers : lower_tables l tree ≡ accepted tables
  pub bytes : m ≡ module_bytes tables
  pub reads : read_module m ≡ accepted tables
  pub short : length m ≤ 524288

abbrev pub LoweredReads : Type 0
LoweredReads = (l : Limits) → Under l office → (tree m : List ℕ) → are_bytes tree ≡ true → lower_bytes l tree ≡ accepted m → ReadsBack l tree m

-- ---- the k-th source of a tree is that of function k, and its body is the tree's: proofs/SourceBodies, proofs/Demand3

unfoldable pub body_of : Source → Body
body_of s = s.body

-- the bodies that the lowering lowered are those of the tree, in their order
abbrev pub SourceBodies : Type 0
SourceBodies = (b : Block) → ask_block 10 false b ≡ true → map body_of (compile b).sources ≡ bodies b

-- a function's slots and code are those of its source
pub record ComesFrom (f : Function) (s : Source) : Type 0 where
  pub locals : f.locals ≡ s.frame.locals
  pub code : f.code ≡ (emit_body s.frame s.body 0 s.start).code

abbrev pub Sources : Type 0
Sources =
    (l : Limits) → Under l office → (b : Block) (t : Tables) → lower_block l b ≡ accepted t
    → (k : ℕ) (f : Function) → get_elem? t.functions k ≡ some f
    → (s : Source) × (get_elem? (compile b).sources k ≡ some s) × (get_elem? (bodies b) k ≡ some s.body) × ComesFrom f s

-- ---- each loop of a def or method has a slot of its own: proofs/LoopSlots

unfoldable pub is_slot : Numbers → Bool
is_slot nothing = false
is_slot a_string = false
is_slot a_constant = false
is_slot a_slot = true
is_slot a_symbol = false
is_slot a_function = false
is_slot a_builtin = false

-- the instruction names a slot from n on
unfoldable pub is_beyond : ℕ → Instr → Bool
is_beyond n i = is_slot (numbers_of i.op) && leb n i.a

-- the instructions that do, in their order
unfoldable pub beyond : ℕ → List Instr → List Instr
beyond n [] = []
beyond n (i ∷ is) = elim (is_beyond n i) [ true ↦ i ∷ beyond n is | false ↦ beyond n is ]

-- what so many loops do with the slots from n on, in the order they stand: each has one slot, stores to it once, and loads it in two places
unfoldable pub iterator_code : ℕ → ℕ → List Instr
iterator_code n zero = []
iterator_code n (suc m) = StoreLocal n ∷ LoadLocal n ∷ LoadLocal n ∷ iterator_code (suc n) m

-- the loops of function k that keep their iterators in slots: those of its body, but none of main's, function 0
unfoldable pub loops_body : Body → ℕ
loops_body (block_body b end) = loops_block b
loops_body (expr_body e) = 0

unfoldable pub loops_of : ℕ → Body → ℕ
loops_of zero body = 0
loops_of (suc k) body = loops_body body

-- a function's slots are those of its names, then one for each loop; and what names a slot beyond those of the names is the loops' code, no other
pub record OwnSlots (f : Function) (names loops : ℕ) : Type 0 where
  pub locals : f.locals ≡ names + loops
  pub code : beyond names f.code ≡ iterator_code names loops

abbrev pub LoopSlots : Type 0
LoopSlots =
    (l : Limits) → Under l office → (b : Block) (t : Tables) → lower_block l b ≡ accepted t
    → (k : ℕ) (f : Function) → get_elem? t.functions k ≡ some f
    → (s : Source) × (get_elem? (compile b).sources k ≡ some s) × (get_elem? (bodies b) k ≡ some s.body) × OwnSlots f (length s.frame.names) (loops_of k s.body)

-- ---- demand 3: proofs/Demand3, proofs/Demand3Bytes

-- A run ends as a walk does: by a return (1) or for want of an answer (2), after as many answers, with the same events
pub record Agrees (r : Ran) (w : Walked) (answers : List ℕ) : Type 0 where
  pub ends : (1 ≤ r.ending) × (r.ending ≤ 2)
  pub ending : r.ending ≡ ending_number w.ending
  pub used : r.used + length w.left ≡ length answers
  pub events : r.events ≡ w.events

-- on code: every function of every accepted block, every list of answers, every budget of (answers + 1) × instructions or more
abbrev pub Demand3 : Type 0
Demand3 =
    (l : Limits) → Under l office → (b : Block) (t : Tables) → lower_block l b ≡ accepted t
    → (k : ℕ) (f : Function) → get_elem? t.functions k ≡ some f
    → (answers : List ℕ) (budget : ℕ) → (length answers + 1) * length f.code ≤ budget
    → (w : Walked) × (walk b k answers ≡ some w) × Agrees (run budget f.code 0 answers) w answers

-- the instructions of function k of a module
unfoldable pub instructions_in : List ℕ → ℕ → ℕ
instructions_in m k =
    elim (read_module m) [ refused q ↦ 0 | accepted t ↦ elim (get_elem? t.functions k) [ some f ↦ length f.code | none ↦ 0 ] ]

-- What the run answers, by what the walk gives: where there is no such function, refusal 22; where the walk's events fit the room, a run that agrees
-- with it; else refusal 24
abbrev pub Follows : List ℕ → ℕ → Option Walked → Answer Ran → Type 0
Follows answers room none a = a ≡ refused 22
Follows answers room (some w) a =
    (length w.events ≤ room → (r : Ran) × (a ≡ accepted r) × Agrees r w answers) × (room < length w.events → a ≡ refused 24)

-- on bytes: a lowered function follows its source
abbrev pub Demand3Bytes : Type 0
Demand3Bytes =
    (l : Limits) → Under l office → (tree m : List ℕ) → are_bytes tree ≡ true → lower_bytes l tree ≡ accepted m
    → (k : ℕ) (answers : List ℕ) → are_answers answers ≡ true
    → (budget room : ℕ) → (length answers + 1) * instructions_in m k ≤ budget
    → Follows answers room (walk_tree tree k answers) (run_answer m k answers budget room)

-- so with such a budget no run of a lowered function ends with the budget spent
abbrev pub NeverSpent : Type 0
NeverSpent =
    (l : Limits) → Under l office → (tree m : List ℕ) → are_bytes tree ≡ true → lower_bytes l tree ≡ accepted m
    → (k : ℕ) (answers : List ℕ) → are_answers answers ≡ true
    → (budget room : ℕ) → (length answers + 1) * instructions_in m k ≤ budget
    → (r : Ran) → run_answer m k answers budget room ≡ accepted r → (1 ≤ r.ending) × (r.ending ≤ 2)

-- ---- the steps of a run: proofs/Steps

-- A run has at most as many steps as its budget, and just as many where the budget is spent; where it ends otherwise, more budget changes nothing
pub record Budgeted (n : ℕ) (r : Ran) (more : ℕ → Ran) : Type 0 where
  pub most : r.steps ≤ n
  pub spent : r.ending ≡ 3 → r.steps ≡ n
  pub enough : (r.ending ≡ 3 → ⊥) → (m : ℕ) → more m ≡ r

abbrev pub Steps : Type 0
Steps = (n : ℕ) (code : List Instr) (p : ℕ) (answers : List ℕ) → Budgeted n (run n code p answers) (λ m. run (n + m) code p answers)

-- ---- R-8: the places met are the steps counted: proofs/PlacesMet

-- the events of steps at these places, on these answers
unfoldable pub events_by : Flow → Instr → List ℕ → (List ℕ → List ℕ) → List ℕ
events_by straight i answers go = encode i ++ go answers
events_by jump i answers go = go answers
events_by returns i answers go = encode i ++ go answers
events_by (question b) i [] go = []
events_by (question b) i (x ∷ xs) go = i.op ∷ x ∷ go xs

unfoldable pub events_at : List Instr → List ℕ → List ℕ → List ℕ
events_at code [] answers = []
events_at code (p ∷ ps) answers = let i = get_or code p Return in events_by (flow i.op) i answers (λ rest. events_at code ps rest)

-- there are as many as the run has steps, and the run's events are theirs
pub record Counted (places : List ℕ) (code : List Instr) (answers : List ℕ) (r : Ran) : Type 0 where
  pub steps : length places ≡ r.steps
  pub events : events_at code places answers ≡ r.events

abbrev pub MetAreSteps : Type 0
MetAreSteps = (n : ℕ) (code : List Instr) (p : ℕ) (answers : List ℕ) → Counted (places_met n code p answers) code answers (run n code p answers)

-- ---- what the marks of a search tell: proofs/Trails

-- a marked place is one that a short list brings every long enough run to (sound); each place that some list reaches is marked (complete)
pub record Tells (code : List Instr) (marks : List ℕ) : Type 0 where
  pub sound : (q : ℕ) → (get_or marks q 0 ≡ 0 → ⊥) → (answers : List ℕ) × Brings code q answers
  pub complete : (q : ℕ) → Reachable code q → get_or marks q 0 ≡ 0 → ⊥

abbrev pub SearchTells : Type 1
SearchTells = (R : Rule) (code : List Instr) (marks : List ℕ) → Swept R code marks → Tells code marks

-- ---- what R-8's tool can give: proofs/Reached

-- in a function that stands something is found for every place: answers, or none
abbrev pub AlwaysFound : Type 0
AlwaysFound = (g : Function) → code_stands g ≡ true → (place : ℕ) → (found : Option (List ℕ)) × Finds (accepted g.code) place found

-- whenever some list reaches the place, one does that is no longer than the number of conditional jumps
abbrev pub ShortAnswers : Type 0
ShortAnswers = (g : Function) → code_stands g ≡ true → (place : ℕ) → Reachable g.code place → (answers : List ℕ) × Brings g.code place answers

-- none is found exactly if no list reaches the place
abbrev pub NoneExactly : Type 0
NoneExactly =
    (code : List Instr) (place : ℕ) (found : Option (List ℕ)) → Finds (accepted code) place found
    → (found ≡ none → Nowhere code place) × (Nowhere code place → found ≡ none)

-- the run call takes the answers that are found, with room for its events
abbrev pub FoundRuns : Type 0
FoundRuns =
    (n : ℕ) (m : List ℕ) (f place room : ℕ) (code : List Instr) → sought n m f place room ≡ accepted code
    → (answers : List ℕ) → Brings code place answers
    → (budget buffer : ℕ) → length (run budget code 0 answers).events ≤ buffer
    → run_answer m f answers budget buffer ≡ accepted (run budget code 0 answers)

-- ---- the hand-back of code: proofs/Handed

-- a module that is read is the bytes of its tables
abbrev pub ReadIsWritten : Type 0
ReadIsWritten = (m : List ℕ) (t : Tables) → are_bytes m ≡ true → read_module m ≡ accepted t → m ≡ module_bytes t

-- the part that is handed back lies in the module, and is the function's code
pub record Handed (m : List ℕ) (k : ℕ) (p : Part) : Type 0 where
  pub tables : Tables
  pub function : Function
  pub reads : read_module m ≡ accepted tables
  pub found : get_elem? tables.functions k ≡ some function
  pub within : p.start + p.size ≤ length m
  pub code : part_of p m ≡ encodes function.code

abbrev pub HandedCode : Type 0
HandedCode = (m : List ℕ) (k : ℕ) (p : Part) → are_bytes m ≡ true → code_call m k ≡ accepted p → Handed m k p

-- ---- the code listing: proofs/Listing

-- the code lines of a function, from place p on; of functions, from number f on
unfoldable pub code_texts : ℕ → ℕ → List Instr → List (List ℕ)
code_texts f p [] = []
code_texts f p (i ∷ is) = code_line f p i ∷ code_texts f (suc p) is

unfoldable pub function_texts : ℕ → List Function → List (List ℕ)
function_texts f [] = []
function_texts f (g ∷ gs) = code_texts f 0 g.code ++ function_texts (suc f) gs

-- at most so many pages, from number n on: each its first line and the next 50 lines, or as many as are left
unfoldable pub pages : ℕ → ℕ → List (List ℕ) → List ℕ
pages zero n ls = []
pages (suc m) n [] = []
pages (suc m) n (l ∷ ls) = page_line n ++ (concat (λ (x : List ℕ). x) (take 50 (l ∷ ls)) ++ pages m (suc n) (drop 50 (l ∷ ls)))

-- The listing is the code lines of the functions in pages of 50. There are as many as instructions, and that of the instruction at place p of function f
-- stands after the lines of the functions before f and of the p instructions before it: so each instruction is listed once, in order
pub record InOrder (t : Tables) : Type 0 where
  pub paged : listing t ≡ pages (length (function_texts 0 t.functions)) 1 (function_texts 0 t.functions)
  pub lines : length (function_texts 0 t.functions) ≡ instructions t.functions
  pub line :
      (f p : ℕ) (g : Function) (i : Instr) → get_elem? t.functions f ≡ some g → get_elem? g.code p ≡ some i
      → get_elem? (function_texts 0 t.functions) (instructions (take f t.functions) + p) ≡ some (code_line f p i)

abbrev pub ListingLines : Type 0
ListingLines = (t : Tables) → InOrder t

-- each text of a line fits its columns
pub record LineFits (f p : ℕ) (i : Instr) : Type 0 where
  pub function : length (decimal f) ≤ 5
  pub place : length (decimal p) ≤ 5
  pub name : length (name_text i.op) ≤ 15
  pub first : length (first_text i.op i.a) ≤ 20
  pub second : length (second_text i.op i.b) ≤ 3

-- of every line and of every page's number; so the listing has 53 bytes for each code line and for each page, of which 50 lines or the last ones make one
pub record ListingFits (t : Tables) : Type 0 where
  pub line : (f p : ℕ) (g : Function) (i : Instr) → get_elem? t.functions f ≡ some g → get_elem? g.code p ≡ some i → LineFits f p i
  pub page : (k : ℕ) → k < instructions t.functions → length (decimal (suc (k / 50))) ≤ 6
  pub long : length (listing t) ≡ 53 * (instructions t.functions + (instructions t.functions + 49) / 50)

abbrev pub ListingLength : Type 0
ListingLength = (m : List ℕ) (t : Tables) → are_bytes m ≡ true → read_module m ≡ accepted t → ListingFits t

-- ---- the count sheet: proofs/Sheet

-- a column: what is counted, function by function; and its sum
unfoldable pub column : (ℕ → Bool) → List Function → List ℕ
column test fs = map (λ (f : Function). tally test f.code) fs

unfoldable pub sum : List ℕ → ℕ
sum [] = 0
sum (n ∷ ns) = n + sum ns

-- the lines of three columns, from function f on
unfoldable pub rows : ℕ → List ℕ → List ℕ → List ℕ → List ℕ
rows f (n ∷ ns) (q ∷ qs) (c ∷ cs) = count_line (decimal f) n q c ++ rows (suc f) ns qs cs
rows f [] qs cs = []
rows f (n ∷ ns) [] cs = []
rows f (n ∷ ns) (q ∷ qs) [] = []

-- The sheet is three columns and a last line with the sum of each. Each sum is also the count over the code of all of the module's functions, and the first
-- one the count of instructions
pub record Totalled (t : Tables) : Type 0 where
  pub shows :
      sheet t
      ≡ rows 0 (column any_op t.functions) (column is_question t.functions) (column is_call t.functions)
      ++ count_line (ascii "TOTAL") (sum (column any_op t.functions)) (sum (column is_question t.functions)) (sum (column is_call t.functions))
  pub counts : (test : ℕ → Bool) → sum (column test t.functions) ≡ tally test (all_code t.functions)
  pub all : sum (column any_op t.functions) ≡ instructions t.functions

abbrev pub SheetTotals : Type 0
SheetTotals = (t : Tables) → Totalled t

-- in an accepted module each number of the sheet fits its columns; so the sheet has 41 bytes for each function, and for the totals
pub record SheetFits (t : Tables) : Type 0 where
  pub function : (f : ℕ) → f < length t.functions → length (decimal f) ≤ 5
  pub line : (test : ℕ → Bool) (f : ℕ) (g : Function) → get_elem? t.functions f ≡ some g → length (decimal (tally test g.code)) ≤ 6
  pub total : (test : ℕ → Bool) → length (decimal (tally test (all_code t.functions))) ≤ 6
  pub long : length (sheet t) ≡ 41 * (length t.functions + 1)

abbrev pub SheetLength : Type 0
SheetLength = (m : List ℕ) (t : Tables) → are_bytes m ≡ true → read_module m ≡ accepted t → SheetFits t

-- ---- heights: proofs/Spots, proofs/HeightsLowered, proofs/HeightsDecided, proofs/Check

-- Every function of every accepted tree has the number of its code in its record, and its heights hold with it
abbrev pub LoweredHeights : Type 0
LoweredHeights =
    (l : Limits) → Under l office → (tree : List ℕ) (t : Tables) → are_bytes tree ≡ true → lower_tables l tree ≡ accepted t
    → (k : ℕ) (f : Function) → get_elem? t.functions k ≡ some f → (f.height ≡ height_number f.code) × HeightsHold f.height f.code

-- the same about the bytes: of every module that is lowered, as the reader reads it
abbrev pub LoweredHeightsBytes : Type 0
LoweredHeightsBytes =
    (l : Limits) → Under l office → (tree m : List ℕ) → are_bytes tree ≡ true → lower_bytes l tree ≡ accepted m
    → (t : Tables) → read_module m ≡ accepted t
    → (k : ℕ) (f : Function) → get_elem? t.functions k ≡ some f → (f.height ≡ height_number f.code) × HeightsHold f.height f.code

-- the number is the largest height that an instruction of the code leaves, each met at the height of its place
abbrev pub NumberIsLargest : Type 0
NumberIsLargest =
    (code : List Instr)
    → ((p : ℕ) → p < length code → height_after (get_or code p Return) (height_at 0 code p) ≤ height_number code)
    × (1 ≤ length code → (p : ℕ) × (p < length code) × (height_after (get_or code p Return) (height_at 0 code p) ≡ height_number code))

-- The number counts each statement, and a function's end, from height 0, those that no run reaches included: a run that began there at height 0 would
-- meet every place at the height that the number counts, with values enough and not above the number
abbrev pub LoweredStarts : Type 0
LoweredStarts =
    (l : Limits) → Under l office → (tree : List ℕ) (b : Block) (t : Tables) → are_bytes tree ≡ true → read_tree tree ≡ accepted b → lower_block l b ≡ accepted t
    → (k : ℕ) (f : Function) → get_elem? t.functions k ≡ some f
    → (s : Source) × (get_elem? (compile b).sources k ≡ some s)
    × ((j q : ℕ) → get_elem? (starts_source s) j ≡ some q
    → (p h : ℕ) → Met f.code q p h → (h ≡ height_at 0 f.code p) × Within f.height (get_or f.code p Return) h)

-- the number is at most one more than the count of instructions, which question 15 bounds: it fits its two bytes
abbrev pub NumberFits : Type 0
NumberFits = (code : List Instr) → height_number code ≤ suc (length code)

-- the places of a run's spots are those that it meets (MetAreSteps: those that it counts as steps)
abbrev pub SpotsArePlaces : Type 0
SpotsArePlaces = (n : ℕ) (code : List Instr) (p h : ℕ) (answers : List ℕ) → map (λ (s : Spot). s.place) (spots_met n code p h answers) ≡ places_met n code p answers

-- of code that passes question 21: the search says yes exactly if the heights hold
abbrev pub HeightsDecided : Type 0
HeightsDecided =
    (number : ℕ) (f : Function) → code_stands f ≡ true
    → (heights_hold number f.code ≡ true → HeightsHold number f.code) × (HeightsHold number f.code → heights_hold number f.code ≡ true)

-- the heights of every function of a module hold
abbrev pub EveryHolds : Tables → Type 0
EveryHolds t = (k : ℕ) (f : Function) → get_elem? t.functions k ≡ some f → HeightsHold f.height f.code

-- with an area long enough, a module that the reader takes passes the check exactly if all its heights hold; else the check refuses by 37
abbrev pub CheckAnswers : Type 0
CheckAnswers =
    (n : ℕ) (m : List ℕ) (t : Tables) → wide_area n ≡ true → read_module m ≡ accepted t
    → (EveryHolds t → heights_answer n m ≡ accepted tt) × ((EveryHolds t → ⊥) → heights_answer n m ≡ refused 37) × (heights_answer n m ≡ accepted tt → EveryHolds t)

-- every lowered module passes the check
abbrev pub LoweredPasses : Type 0
LoweredPasses =
    (l : Limits) → Under l office → (tree m : List ℕ) → are_bytes tree ≡ true → lower_bytes l tree ≡ accepted m → (n : ℕ) → wide_area n ≡ true → heights_answer n m ≡ accepted tt

-- ---- a tree's bytes: proofs/TreeWritten

-- a tree that is read is the bytes of its block
abbrev pub TreeWritten : Type 0
TreeWritten = (tree : List ℕ) (b : Block) → are_bytes tree ≡ true → read_tree tree ≡ accepted b → tree ≡ tree_bytes b

-- ---- the rest of a tree

-- taken out once, nothing is left to take out: proofs/RestTwice
abbrev pub RestTwice : Type 0
RestTwice = (b : Block) → rest (rest b) ≡ rest b

-- a rest has as many bytes fewer as are taken out: proofs/Taken
abbrev pub TreeTaken : Type 0
TreeTaken = (b : Block) → length (tree_bytes (rest b)) + taken b ≡ length (tree_bytes b)

-- it lowers to the tree's tables: proofs/RestLowered. Only the sources, which name the bodies, are others
abbrev pub RestCompiles : Type 0
RestCompiles = (b : Block) → (compile (rest b)).tables ≡ (compile b).tables

-- the bytes of a rest read as the rest: proofs/OrderLaws
abbrev pub RestReads : Type 0
RestReads = (tree : List ℕ) (b : Block) → are_bytes tree ≡ true → read_tree tree ≡ accepted b → read_tree (tree_bytes (rest b)) ≡ accepted (rest b)

-- the rest of an accepted tree is accepted, and has its module: proofs/Sorted
pub record Rested (l : Limits) (tree : List ℕ) (a : Block) : Type 0 where
  pub reads : accepted_tree l (tree_bytes (rest a)) ≡ accepted (rest a)
  pub lowers : lower_bytes l (tree_bytes (rest a)) ≡ lower_bytes l tree

abbrev pub RestAccepted : Type 0
RestAccepted = (l : Limits) (tree : List ℕ) (a : Block) → are_bytes tree ≡ true → accepted_tree l tree ≡ accepted a → Rested l tree a

-- ---- the order of trees: proofs/OrderLaws

abbrev pub OrderSame : Type 0
OrderSame = (a : Block) → order a a ≡ equal

-- the same two from the other side
unfoldable pub turned : Ordering → Ordering
turned less = greater
turned equal = equal
turned greater = less

abbrev pub OrderTurned : Type 0
OrderTurned = (a b : Block) → order b a ≡ turned (order a b)

-- not after the other
unfoldable pub at_most : Ordering → Bool
at_most less = true
at_most equal = true
at_most greater = false

abbrev pub OrderTotal : Type 0
OrderTotal = (a b : Block) → (at_most (order a b) ≡ true) ⊎ (at_most (order b a) ≡ true)

abbrev pub OrderTransitive : Type 0
OrderTransitive = (a b c : Block) → at_most (order a b) ≡ true → at_most (order b c) ≡ true → at_most (order a c) ≡ true

abbrev pub OrderAntisymmetric : Type 0
OrderAntisymmetric = (a b : Block) → at_most (order a b) ≡ true → at_most (order b a) ≡ true → order a b ≡ equal

-- two trees are equal in it exactly when their rests are
pub record EqualExactly (a b : Block) : Type 0 where
  pub rests : order a b ≡ equal → rest a ≡ rest b
  pub ordered : rest a ≡ rest b → order a b ≡ equal

abbrev pub EqualRests : Type 0
EqualRests =
    (x y : List ℕ) (a b : Block) → are_bytes x ≡ true → are_bytes y ≡ true → read_tree x ≡ accepted a → read_tree y ≡ accepted b → EqualExactly a b

-- equal scripts lower to equal modules, by the same limits
pub record SameModule (l : Limits) (x y : List ℕ) : Type 0 where
  pub bytes : List ℕ
  pub first : lower_bytes l x ≡ accepted bytes
  pub second : lower_bytes l y ≡ accepted bytes

abbrev pub EqualModules : Type 0
EqualModules =
    (l : Limits) (m n : ℕ) (x y : List ℕ) → are_bytes x ≡ true → are_bytes y ≡ true → order_answer l m n x y ≡ accepted equal → SameModule l x y

-- ---- the measured lowering: proofs/Measured

-- each function's name is a symbol
unfoldable pub has_names : Tables → Bool
has_names t = all (λ (f : Function). ltb f.symbol (length t.symbols)) t.functions

-- So it is where a lowering begins, where a function's body and where a class's methods begin, and after every part: at every place of a lowering
pub record NamesStand : Type 0 where
  pub begins : has_names no_tables ≡ true
  pub body :
      (x : Name) (arity : ℕ) (frame : Frame) (p : ℕ) (t : Tables) → has_names t ≡ true
      → intern x (λ k q u. has_names (begin k arity frame u)) p t ≡ true
  pub members : (x : Name) (t : Tables) → has_names t ≡ true → has_names (begin_class x t) ≡ true
  pub expression : (slots : List Name) (e : Expr) (p : ℕ) (t : Tables) → ask_expr 7 e ≡ true → has_names t ≡ true → has_names (emit_expr slots e p t).tables ≡ true
  pub statement :
      (l : Bool) (slots : List Name) (keep : Keeping) (a : Stmt) (p : ℕ) (t : Tables) → ask_stmt 7 l a ≡ true → has_names t ≡ true
      → has_names (emit_stmt slots keep a p t).tables ≡ true

-- a part has so many instructions, wherever it stands and whatever was lowered before it
abbrev pub HasMeasure : (SoFar → ℕ) → Emit → Type 0
HasMeasure n e = (p : ℕ) (t : Tables) → has_names t ≡ true → length (e p t).code ≡ n (so_far t)

-- each measure is the number of instructions that the part gives where it stands; and an end jump goes as far as was measured
pub record Measures : Type 0 where
  pub expression : (slots : List Name) (e : Expr) → ask_expr 7 e ≡ true → HasMeasure (λ k. measure_expr slots k e) (emit_expr slots e)
  pub expressions : (slots : List Name) (es : Exprs) → ask_exprs 7 es ≡ true → HasMeasure (λ k. measure_exprs slots k es) (emit_exprs slots es)
  pub target : (slots : List Name) (e : Expr) → HasMeasure (λ k. measure_target e) (emit_target slots e)
  pub elements : (slots : List Name) (es : Exprs) (i : ℕ) → HasMeasure (λ k. measure_unpack es i) (unpack slots es i)
  pub statement : (l : Bool) (slots : List Name) (keep : Keeping) (a : Stmt) → ask_stmt 7 l a ≡ true → HasMeasure (λ k. measure_stmt slots k a) (emit_stmt slots keep a)
  pub block : (l : Bool) (slots : List Name) (keep : Keeping) (b : Block) → ask_block 7 l b ≡ true → HasMeasure (λ k. measure_block slots k b) (emit_block slots keep b)
  pub branches :
      (l : Bool) (slots : List Name) (keep : Keeping) (r : Branches) → ask_branches 7 l r ≡ true → HasMeasure (λ k. measure_branches slots k r) (λ p t. (emit_branches slots keep r p t).out)
  pub hop :
      (l : Bool) (slots : List Name) (keep : Keeping) (r : Branches) → ask_branches 7 l r ≡ true
      → (p : ℕ) (t : Tables) → has_names t ≡ true → (emit_branches slots keep r p t).hop ≡ measure_hop slots (so_far t) r

-- w writes what e emits, wherever it stands: code, tables and sources
abbrev pub WritesAs : Emit → Emit → Type 0
WritesAs w e = (p : ℕ) (t : Tables) → has_names t ≡ true → w p t ≡ e p t

-- each part is written as it is emitted; a statement, if no loop is around it
pub record WritesParts : Type 0 where
  pub expression : (slots : List Name) (e : Expr) → ask_expr 7 e ≡ true → WritesAs (write_expr slots e) (emit_expr slots e)
  pub expressions : (slots : List Name) (es : Exprs) → ask_exprs 7 es ≡ true → WritesAs (write_exprs slots es) (emit_exprs slots es)
  pub statement :
      (slots : List Name) (keep : Keeping) (v : Loop) (a : Stmt) → ask_stmt 7 false a ≡ true → ask_stmt 9 false a ≡ true → WritesAs (write_stmt slots keep v a) (emit_stmt slots keep a)
  pub block :
      (slots : List Name) (keep : Keeping) (v : Loop) (b : Block) → ask_block 7 false b ≡ true → ask_block 9 false b ≡ true → WritesAs (write_block slots keep v b) (emit_block slots keep b)
  pub branches :
      (slots : List Name) (keep : Keeping) (v : Loop) (r : Branches) → ask_branches 7 false r ≡ true → ask_branches 9 false r ≡ true
      → WritesAs (write_branches slots keep v r) (λ p t. (emit_branches slots keep r p t).out)
  pub methods :
      (m : Methods) → ask_methods 7 m ≡ true → ask_methods 9 m ≡ true
      → (ms : List Method) (t : Tables) → has_names t ≡ true → write_methods m ms t ≡ emit_methods m ms t

-- The part of m instructions at place p is at index i of the inside of the loop v; the inside has n instructions, and h of the loop stand before it
pub record LiesIn (v : Loop) (h n i p m : ℕ) : Type 0 where
  pub place : p ≡ v.start + (h + i)
  pub end : v.end ≡ v.start + suc (h + n)
  pub fits : i + m ≤ n

-- a part once the loop around it is patched
abbrev pub patch_out : ℕ → ℕ → ℕ → Out → Out
patch_out h n i o = record { code = patch h n i o.code; tables = o.tables; sources = o.sources }

abbrev pub WritesPatched : (Loop → Emit) → Emit → Type 0
WritesPatched w e =
    (v : Loop) (h n i p : ℕ) (t : Tables) → has_names t ≡ true → LiesIn v h n i p (length (e p t).code) → w v p t ≡ patch_out h n i (e p t)

-- in a loop each part is written at once as the loop's end leaves what was emitted for it
pub record WritesInLoop : Type 0 where
  pub statement : (slots : List Name) (keep : Keeping) (a : Stmt) → ask_stmt 7 true a ≡ true → ask_stmt 9 true a ≡ true → WritesPatched (λ v. write_stmt slots keep v a) (emit_stmt slots keep a)
  pub block : (slots : List Name) (keep : Keeping) (b : Block) → ask_block 7 true b ≡ true → ask_block 9 true b ≡ true → WritesPatched (λ v. write_block slots keep v b) (emit_block slots keep b)
  pub branches :
      (slots : List Name) (keep : Keeping) (r : Branches) → ask_branches 7 true r ≡ true → ask_branches 9 true r ≡ true
      → WritesPatched (λ v. write_branches slots keep v r) (λ p t. (emit_branches slots keep r p t).out)

-- so what is written has as many instructions as were measured
pub record WritesMeasured : Type 0 where
  pub expression : (slots : List Name) (e : Expr) → ask_expr 7 e ≡ true → HasMeasure (λ k. measure_expr slots k e) (write_expr slots e)
  pub statement :
      (slots : List Name) (keep : Keeping) (v : Loop) (a : Stmt) → ask_stmt 7 false a ≡ true → ask_stmt 9 false a ≡ true → HasMeasure (λ k. measure_stmt slots k a) (write_stmt slots keep v a)
  pub in_loop :
      (slots : List Name) (keep : Keeping) (a : Stmt) (v : Loop) (h n i p : ℕ) (t : Tables) → ask_stmt 7 true a ≡ true → ask_stmt 9 true a ≡ true → has_names t ≡ true
      → LiesIn v h n i p (length (emit_stmt slots keep a p t).code) → length (write_stmt slots keep v a p t).code ≡ measure_stmt slots (so_far t) a

-- the functions that have begun keep their places and what code they have; new ones come after them
abbrev pub KeepsFunctions : Out → Tables → Type 0
KeepsFunctions o t = (new : List Function) × (o.tables.functions ≡ t.functions ++ new)

-- what writes a part leaves all code written before it unchanged; in its own function the part's code comes after what is there
pub record LeavesBefore : Type 0 where
  pub expression : (slots : List Name) (e : Expr) (p : ℕ) (t : Tables) → ask_expr 7 e ≡ true → has_names t ≡ true → KeepsFunctions (write_expr slots e p t) t
  pub statement :
      (slots : List Name) (keep : Keeping) (v : Loop) (a : Stmt) (p : ℕ) (t : Tables) → ask_stmt 7 false a ≡ true → ask_stmt 9 false a ≡ true → has_names t ≡ true
      → KeepsFunctions (write_stmt slots keep v a p t) t
  pub in_loop :
      (slots : List Name) (keep : Keeping) (a : Stmt) (v : Loop) (h n i p : ℕ) (t : Tables) → ask_stmt 7 true a ≡ true → ask_stmt 9 true a ≡ true → has_names t ≡ true
      → LiesIn v h n i p (length (emit_stmt slots keep a p t).code) → KeepsFunctions (write_stmt slots keep v a p t) t
  pub code : (w v : Emit) (p : ℕ) (t : Tables) → (more : List Instr) × (((w ⨟ v) p t).code ≡ (w p t).code ++ more)

-- the whole tree: code, tables and sources
abbrev pub CompilesAlike : Type 0
CompilesAlike = (b : Block) → ask_block 7 false b ≡ true → ask_block 9 false b ≡ true → compile_measured b ≡ compile b

-- the measured lowering answers and leaves what the lowering does, on every input and for every set of limits
abbrev pub MeasuredAgrees : Type 0
MeasuredAgrees = (l : Limits) (tree area₁ area₂ output : List ℕ) → measured_call l tree area₁ area₂ output ≡ lower_call l tree area₁ area₂ output

-- ---- a refused tree cut down: proofs/CutWritten

-- The bytes are those of the stretch of `count` top statements from the `start`-th on: refused with the tree's number; no shorter stretch is, and no earlier
-- one of its length
pub record CutIs (l : Limits) (tree bs : List ℕ) : Type 0 where
  pub number : ℕ
  pub block : Block
  pub start : ℕ
  pub count : ℕ
  pub reads : read_tree tree ≡ accepted block
  pub bytes : bs ≡ tree_bytes (stretch_of start count block)
  pub within : start + count ≤ size block
  pub refused_tree : lower_tables l tree ≡ refused number
  pub refused_cut : lower_tables l bs ≡ refused number
  pub fewest : (i n : ℕ) → i + n ≤ size block → n < count → lower_tables l (tree_bytes (stretch_of i n block)) ≡ refused number → ⊥
  pub earliest : (i : ℕ) → i < start → lower_tables l (tree_bytes (stretch_of i count block)) ≡ refused number → ⊥
  pub short : length bs ≤ length tree

abbrev pub Cuts : Type 0
Cuts = (l : Limits) (m n room : ℕ) (tree bs : List ℕ) → are_bytes tree ≡ true → cut_answer l m n room tree ≡ accepted (cut_to bs) → CutIs l tree bs

-- the answer that it is not refused is given of accepted trees alone
abbrev pub NoneRefused : Type 0
NoneRefused =
    (l : Limits) (m n room : ℕ) (tree : List ℕ) → cut_answer l m n room tree ≡ accepted not_refused → (t : Tables) × (lower_tables l tree ≡ accepted t)

-- a refusal by any question but 15 is cut down to one statement, the first that fails the question: proofs/CutSingle
pub record Single (l : Limits) (q : ℕ) (b : Block) : Type 0 where
  pub fewest : fewest l q b ≡ 1
  pub start : first_start l q b 1 ≡ failing (passes q) b

abbrev pub SingleEnough : Type 0
SingleEnough = (l : Limits) (q : ℕ) (b : Block) → lower_block l b ≡ refused q → (q ≡ 15 → ⊥) → Single l q b

-- 15: a stretch within the limits stays so with fewer statements at its end: proofs/CutTables. At its start it need not: a call has an instruction less
-- after the def
abbrev pub ShorterFits : Type 0
ShorterFits = (l : Limits) (b : Block) (i m n : ℕ) → m ≤ n → over_stretch l b i n ≡ false → over_stretch l b i m ≡ false
