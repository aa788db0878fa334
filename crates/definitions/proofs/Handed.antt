-- A module that is read is the bytes of its tables, and the part of it that is handed back is the function's code.
use mathlib.Core.Path.{◌≡◌, refl, sym, ap, ◌∙◌}
use mathlib.Core.Bool.{Bool, true, false}
use mathlib.Core.Option.{Option, none, some}
use mathlib.Core.List.{List, [], ◌∷◌, ◌++◌, append_assoc, append-nil}
use Prim.Native.Nat.{ℕ, zero, suc, ◌+◌, ◌≤◌}
use native.Mathlib.Omega.{arith}
use lib.ListN.{length, length-append, take, get_elem?}
use lib.Dec.{leb}
use lib.Seq.{take-append_seam, drop_at}
use lib.Pow.{are_bytes}
use Rattle.definitions.specs.Bytes.{Answer, refused, accepted, when_accepted, Parsed, got, failed, be, concat, all, list_bytes, housed, unhouse}
use Rattle.definitions.specs.Utf8.{is_utf8}
use Rattle.definitions.specs.Wellformed.{is_name}
use Rattle.definitions.specs.Instruction.{encode, encodes, first_width, second_width, is_instruction}
use Rattle.definitions.specs.Tables.{Function, Tables}
use Rattle.definitions.specs.Module.{name_bytes, text_bytes, function_bytes, method_bytes, class_bytes, table_bytes, module_bytes, code_start}
use Rattle.definitions.specs.Reader.{instruction, function_record, method_record, rising, class_record, module_record, numbers_exist, code_stands, whole_module, read_module}
use Rattle.definitions.specs.Calls.{Part, part_of, function_of, code_part, code_call}
use Rattle.definitions.specs.Statements.{ReadIsWritten, Handed, HandedCode}
use Rattle.definitions.proofs.BytesWritten.{length-be}
use Rattle.definitions.proofs.Writes.{Writes, writes-give, writes-bind, writes_byte, writes-number, writes-list, writes-name, writes-text, writes-checked, in-house}

-- ---- the module's records

writes-instruction : Writes (λ i xs. xs ≡ encode i) instruction
unfolding instruction encode
writes-instruction =
    writes-bind _ (writes-checked is_instruction writes_byte) (λ op xs h.
    writes-bind _ (writes-number (first_width op)) (λ a ys k.
    writes-bind _ (writes-number (second_width op)) (λ b zs l.
    writes-give _ (rw (h.0, k, l, append-nil)))))

writes-function : Writes (λ f xs. xs ≡ function_bytes f) function_record
unfolding function_record function_bytes
writes-function =
    writes-bind _ (writes-number 2) (λ k ks hk.
    writes-bind _ (writes-number 1) (λ n ns hn.
    writes-bind _ (writes-number 2) (λ l ls hl.
    writes-bind _ (writes-number 2) (λ g gs hg.
    writes-bind _ (writes-list 2 encode writes-instruction) (λ is xs h.
    writes-give _ (rw (hk, hn, hl, hg, h, append-nil)))))))

writes-method : Writes (λ m xs. xs ≡ method_bytes m) method_record
unfolding method_record method_bytes
writes-method =
    writes-bind _ (writes-checked is_name writes-name) (λ x xs h.
    writes-bind _ (writes-number 2) (λ f fs k.
    writes-give _ (rw (h, k, append-nil))))

pub writes-class : Writes (λ c xs. xs ≡ class_bytes c) class_record
unfolding class_record class_bytes
writes-class =
    writes-bind _ (writes-checked is_name writes-name) (λ x xs h.
    writes-bind _ (writes-checked rising (writes-list 2 method_bytes writes-method)) (λ ms ys k.
    writes-give _ (rw (h, k, append-nil))))

writes-tables : Writes (λ t xs. xs ≡ table_bytes t) module_record
unfolding module_record table_bytes
writes-tables =
    writes-bind _ (writes-list 2 name_bytes writes-name) (λ xs zs a.
    writes-bind _ (writes-list 2 text_bytes (writes-checked is_utf8 writes-text)) (λ ss bs b.
    writes-bind _ (writes-list 2 function_bytes writes-function) (λ fs cs c.
    writes-bind _ (writes-list 2 class_bytes writes-class) (λ ls ds d.
    writes-bind _ (writes-list 2 (be 2) (writes-number 2)) (λ ks es e.
    writes-give _ (rw (a, b, c, d, e, append-nil)))))))

-- ---- the whole module

whole-got : (r : Parsed Tables) (t : Tables) → whole_module r ≡ accepted t → r ≡ got t []
unfolding whole_module
whole-got (got u (x ∷ xs)) t e = let z : ◌≡◌ {A = ℕ} 0 1 = cc in absurd (omega arith)
whole-got (failed q) t e = let z : ◌≡◌ {A = ℕ} 0 1 = cc in absurd (omega arith)
whole-got (got u []) t e = go (numbers_exist u) (all code_stands u.functions) e
  where
    go : (c d : Bool) → (elim c as (λ z. Answer Tables) [ false ↦ refused 20 | true ↦ elim d as (λ z. Answer Tables) [ false ↦ refused 21 | true ↦ accepted u ] ]) ≡ accepted t
        → got u [] ≡ got t []
    go true true h = let z : u ≡ t = cc in rw z
    go true false h = let z : ◌≡◌ {A = ℕ} 0 1 = cc in absurd (omega arith)
    go false d h = let z : ◌≡◌ {A = ℕ} 0 1 = cc in absurd (omega arith)

house-is : (m rest : List ℕ) (t : Tables) → m ≡ housed 2 rest → rest ≡ table_bytes t → m ≡ module_bytes t
unfolding module_bytes
house-is m rest t h e = h ∙ ap (housed 2) e

-- the tables of an accepted module are read from the bytes after its head
pub record Within (m : List ℕ) (t : Tables) : Type 0 where
  pub rest : List ℕ
  pub whole : m ≡ housed 2 rest
  pub bytes : are_bytes rest ≡ true
  pub read : module_record rest ≡ got t []

pub within : (m : List ℕ) (t : Tables) → are_bytes m ≡ true → read_module m ≡ accepted t → Within m t
unfolding read_module
within m t o e = go (leb (length m) 524288) e
  where
    go : (c : Bool) → (elim c as (λ z. Answer Tables) [ true ↦ unhouse 2 17 18 (λ rest. whole_module (module_record rest)) m | false ↦ refused 17 ]) ≡ accepted t → Within m t
    go false h = let z : ◌≡◌ {A = ℕ} 0 1 = cc in absurd (omega arith)
    go true h =
        let I = in-house 2 17 18 (λ rest. whole_module (module_record rest)) m t o h in
        record { rest = I.rest; whole = I.whole; bytes = I.bytes; read = whole-got (module_record I.rest) t I.gives }

pub read_is_written : ReadIsWritten
read_is_written m t o e =
    let W = within m t o e in
    let K = writes-tables.at W.rest W.bytes t [] W.read in
    house-is m W.rest t W.whole (K.splits ∙ rw append-nil K.fact)

-- ---- where a part stands

-- the bytes xs stand at the place n of bs
record Stands (xs : List ℕ) (n : ℕ) (bs : List ℕ) : Type 0 where
  before : List ℕ
  after : List ℕ
  splits : bs ≡ before ++ (xs ++ after)
  place : length before ≡ n

stands-part : {xs bs : List ℕ} {n : ℕ} → Stands xs n bs → part_of (record { start = n; size = length xs }) bs ≡ xs
unfolding part_of
stands-part {xs} {bs} {n} S = rw (S.splits, drop_at S.before (xs ++ S.after) n S.place) (take-append_seam xs S.after)

stands-within : {xs bs : List ℕ} {n : ℕ} → Stands xs n bs → n + length xs ≤ length bs
stands-within {xs} S = rw S.splits (simp (length-append, S.place) (omega arith))

stands-all : (xs : List ℕ) → Stands xs 0 xs
stands-all xs = record { before = []; after = []; splits = sym (append-nil xs); place = refl }

stands_after : (ys : List ℕ) {xs bs : List ℕ} {n : ℕ} → Stands xs n bs → Stands xs (length ys + n) (ys ++ bs)
stands_after ys S = record {
  before = ys ++ S.before;
  after = S.after;
  splits = ap (λ (z : List ℕ). ys ++ z) S.splits ∙ sym (append_assoc ys S.before _);
  place = length-append ys S.before ∙ ap (λ (z : ℕ). length ys + z) S.place;
}

stands-before : (cs : List ℕ) {xs bs : List ℕ} {n : ℕ} → Stands xs n bs → Stands xs n (bs ++ cs)
stands-before cs {xs} S = record {
  before = S.before;
  after = S.after ++ cs;
  splits = rw S.splits (append_assoc S.before (xs ++ S.after) cs ∙ ap (λ (z : List ℕ). S.before ++ z) (append_assoc xs S.after cs));
  place = S.place;
}

-- the place by an equal number
stands_at : {xs bs : List ℕ} (n k : ℕ) → n ≡ k → Stands xs n bs → Stands xs k bs
stands_at n k e S = rw e at S

-- what the k-th of the elements writes
stands-element : {A : Type 0} (f : A → List ℕ) (zs : List A) (k : ℕ) (a : A) {xs : List ℕ} {n : ℕ}
    → get_elem? zs k ≡ some a → Stands xs n (f a) → Stands xs (length (concat f (take k zs)) + n) (concat f zs)
unfolding concat
stands-element f [] k a e S = let z : ◌≡◌ {A = ℕ} 0 1 = cc in absurd (omega arith)
stands-element f (b ∷ zs) zero a {xs} {n} e S = let z : b ≡ a = cc in rw z (stands_at n (0 + n) (omega arith) (stands-before (concat f zs) S))
stands-element f (b ∷ zs) (suc k) a {xs} {n} e S =
    stands_at _ _ (omega (arith, length-append (f b) (concat f (take k zs)))) (stands_after (f b) (stands-element f zs k a e S))

stands-code : (f : Function) → Stands (encodes f.code) 9 (function_bytes f)
unfolding function_bytes list_bytes encodes
stands-code f =
    stands_at _ 9
    (omega (arith, length-be 2 f.symbol, length-be 1 f.arity, length-be 2 f.locals, length-be 2 f.height, length-be 2 (length f.code)))
    (stands_after (be 2 f.symbol) (stands_after (be 1 f.arity) (stands_after (be 2 f.locals) (stands_after (be 2 f.height) (stands_after (be 2 (length f.code)) (stands-all (concat encode f.code)))))))

stands-list : {A : Type 0} (f : A → List ℕ) (zs : List A) (k : ℕ) (a : A) {xs : List ℕ} {n : ℕ}
    → get_elem? zs k ≡ some a → Stands xs n (f a) → Stands xs (2 + length (concat f (take k zs)) + n) (list_bytes 2 f zs)
unfolding list_bytes
stands-list f zs k a e S = stands_at _ _ (omega (arith, length-be 2 (length zs))) (stands_after (be 2 (length zs)) (stands-element f zs k a e S))

stands-tables : (t : Tables) (k : ℕ) (f : Function) → get_elem? t.functions k ≡ some f
    → Stands (encodes f.code)
    (length (list_bytes 2 name_bytes t.symbols) + (length (list_bytes 2 text_bytes t.strings) + (2 + length (concat function_bytes (take k t.functions)) + 9)))
    (table_bytes t)
unfolding table_bytes
stands-tables t k f e =
    stands_after (list_bytes 2 name_bytes t.symbols)
    (stands_after (list_bytes 2 text_bytes t.strings)
    (stands-before (list_bytes 2 class_bytes t.classes ++ list_bytes 2 (be 2) t.constants)
    (stands-list function_bytes t.functions k f e (stands-code f))))

stands-housed : {xs bs : List ℕ} {n : ℕ} → Stands xs n bs → Stands xs (5 + n) (housed 2 bs)
unfolding housed
stands-housed {bs} S = stands_at _ _ (omega (arith, length-be 4 (suc (length bs)))) (stands_after (be 4 (suc (length bs))) (stands_after (2 ∷ []) S))

stands-module : (t : Tables) (k : ℕ) (f : Function) → get_elem? t.functions k ≡ some f → Stands (encodes f.code) (code_start t k) (module_bytes t)
unfolding module_bytes code_start
stands-module t k f e = stands_at _ _ (omega arith) (stands-housed (stands-tables t k f e))

-- ---- the part that is handed back

handed-at : (m : List ℕ) (k : ℕ) (p : Part) (t : Tables) → are_bytes m ≡ true → read_module m ≡ accepted t → code_part t k ≡ accepted p → Handed m k p
unfolding code_part function_of when_accepted
handed-at m k p t o h e = go (get_elem? t.functions k) refl e
  where
    go : (s : Option Function) → get_elem? t.functions k ≡ s
        → when_accepted (elim s as (λ z. Answer Function) [ some f ↦ accepted f | none ↦ refused 22 ])
        (λ (f : Function). accepted (record { start = code_start t k; size = length (encodes f.code) })) ≡ accepted p
        → Handed m k p
    go none s g = let z : ◌≡◌ {A = ℕ} 0 1 = cc in absurd (omega arith)
    go (some f) s g =
        let z : record { start = code_start t k; size = length (encodes f.code) } ≡ p = cc in
        let S : Stands (encodes f.code) (code_start t k) m = rw (read_is_written m t o h) (stands-module t k f s) in
        record { tables = t; function = f; reads = h; found = s; within = rw (← z) (stands-within S); code = rw (← z) (stands-part S) }

pub handed_code : HandedCode
unfolding code_call when_accepted
handed_code m k p o e = go (read_module m) refl e
  where
    go : (a : Answer Tables) → read_module m ≡ a → when_accepted a (λ t. code_part t k) ≡ accepted p → Handed m k p
    go (refused q) h g = let z : ◌≡◌ {A = ℕ} 0 1 = cc in absurd (omega arith)
    go (accepted t) h g = handed-at m k p t o h g
