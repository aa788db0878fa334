-- A read takes as many bytes as what was read is written in.
use Prim.Native.Nat.{ℕ, zero, suc, ◌+◌}
use mathlib.Core.Path.{◌≡◌, refl, ap, ◌∙◌}
use mathlib.Core.Bool.{Bool, true, false}
use mathlib.Core.List.{List, [], ◌∷◌, ◌++◌}
use native.Mathlib.Omega.{arith}
use lib.ListN.{length, length-append}
use Rattle.definitions.specs.Bytes.{Parsed, got, failed, Parser, ◌>>=◌, give, unread, byte, field, counted, list_of, name, text, keep, checked, be, concat, list_bytes}
use Rattle.definitions.specs.Instruction.{Instr, first_width, second_width, encode, encodes, is_instruction}
use Rattle.definitions.specs.Tables.{Function}
use Rattle.definitions.specs.Module.{name_bytes, text_bytes, function_bytes}
use Rattle.definitions.specs.Reader.{instruction, function_record}
use Rattle.definitions.proofs.BytesWritten.{length-be}
use Rattle.definitions.proofs.Writes.{one, concat-one}

-- with k bytes taken before, a value a is n a bytes in all
pub record Spans {A : Type 0} (k : ℕ) (n : A → ℕ) (p : Parser A) : Type 0 where
  pub at : (bs : List ℕ) (a : A) (rest : List ℕ) → p bs ≡ got a rest → k + length bs ≡ n a + length rest

pub spans-give : {A : Type 0} (k : ℕ) (n : A → ℕ) (a : A) → k ≡ n a → Spans k n (give a)
unfolding give
spans-give {A} k n a e = record { at = λ bs b rest h. go bs b rest h }
  where
    go : (bs : List ℕ) (b : A) (rest : List ℕ) → got a bs ≡ got b rest → k + length bs ≡ n b + length rest
    go bs b rest h = let x : a ≡ b = cc in let y : bs ≡ rest = cc in let u = ap length y in let v = ap n x in omega arith

pub spans-bind : {A B : Type 0} (k : ℕ) (m : A → ℕ) (n : B → ℕ) (p : Parser A) (f : A → Parser B) → Spans 0 m p → ((a : A) → Spans (k + m a) n (f a)) → Spans k n (p >>= f)
unfolding ◌>>=◌
spans-bind {A} {B} k m n p f sp sf = record { at = λ bs b rest h. go bs b rest (p bs) refl h }
  where
    go : (bs : List ℕ) (b : B) (rest : List ℕ) (r : Parsed A) → p bs ≡ r → (elim r as (λ x. Parsed B) [ got a more ↦ f a more | failed q ↦ failed q ]) ≡ got b rest → k + length bs ≡ n b + length rest
    go bs b rest (got a more) i h = let x = sp.at bs a more i in let y = (sf a).at more b rest h in omega arith
    go bs b rest (failed q) i h = let z : ◌≡◌ {A = ℕ} 0 1 = cc in absurd (omega arith)

pub spans-byte : Spans 0 (λ b. 1) byte
unfolding byte
spans-byte = record { at = go }
  where
    go : (bs : List ℕ) (a : ℕ) (rest : List ℕ) → byte bs ≡ got a rest → 0 + length bs ≡ 1 + length rest
    go [] a rest h = let z : ◌≡◌ {A = ℕ} 0 1 = cc in absurd (omega arith)
    go (b ∷ bs) a rest h = let y : bs ≡ rest = cc in let u = ap length y in omega arith

pub spans-field : (w : ℕ) → Spans 0 (λ v. w) (field w)
unfolding field
spans-field zero = spans-give 0 _ 0 refl
spans-field (suc w) = spans-bind 0 (λ b. 1) _ byte _ spans-byte (λ b. spans-bind _ (λ v. w) _ (field w) _ (spans-field w) (λ v. spans-give _ _ _ (let z : 0 + 1 + w ≡ suc w = omega arith in z)))

pub spans-counted : {A : Type 0} (f : A → List ℕ) (p : Parser A) → Spans 0 (λ a. length (f a)) p → (n : ℕ) → Spans 0 (λ xs. length (concat f xs)) (counted [] ◌∷◌ p n)
unfolding counted concat
spans-counted f p sp zero = spans-give 0 _ [] refl
spans-counted {A} f p sp (suc n) =
    spans-bind 0 (λ a. length (f a)) _ p _ sp (λ a.
    spans-bind _ (λ xs. length (concat f xs)) _ (counted [] ◌∷◌ p n) _ (spans-counted f p sp n) (λ xs.
    spans-give _ _ (a ∷ xs) (let l = length-append (f a) (concat f xs) in let z : 0 + length (f a) + length (concat f xs) ≡ length (f a ++ concat f xs) = omega arith in z)))

pub spans-list : {A : Type 0} (w : ℕ) (f : A → List ℕ) (p : Parser A) → Spans 0 (λ a. length (f a)) p → Spans 0 (λ xs. length (list_bytes w f xs)) (list_of w p)
unfolding list_of list_bytes
spans-list w f p sp = spans-bind 0 (λ v. w) _ (field w) _ (spans-field w) (λ n. record { at = λ bs xs rest h. more n bs xs rest h })
  where
    more : (n : ℕ) (bs : List ℕ) (xs : List _) (rest : List ℕ) → counted [] ◌∷◌ p n bs ≡ got xs rest → 0 + w + length bs ≡ length (be w (length xs) ++ concat f xs) + length rest
    more n bs xs rest h = let x = (spans-counted f p sp n).at bs xs rest h in let l = length-append (be w (length xs)) (concat f xs) in let m = length-be w (length xs) in omega arith

spans-bytes : (w : ℕ) → Spans 0 (λ xs. length (be w (length xs) ++ xs)) (list_of w byte)
unfolding list_bytes
spans-bytes w = record { at = λ bs xs rest h. (spans-list w one byte spans-byte).at bs xs rest h ∙ ap (λ (ys : List ℕ). length (be w (length xs) ++ ys) + length rest) (concat-one xs) }

pub spans-name : Spans 0 (λ x. length (name_bytes x)) name
unfolding name name_bytes
spans-name = spans-bytes 1

pub spans-text : Spans 0 (λ x. length (text_bytes x)) text
unfolding text text_bytes
spans-text = spans-bytes 2

pub spans-keep : {A : Type 0} (k : ℕ) (n : A → ℕ) (b : Bool) (a : A) → k ≡ n a → Spans k n (keep b a)
unfolding keep unread
spans-keep k n true a e = spans-give k n a e
spans-keep k n false a e = record { at = λ bs a rest h. let z : ◌≡◌ {A = ℕ} 0 1 = cc in absurd (omega arith) }

pub spans-checked : {A : Type 0} (n : A → ℕ) (test : A → Bool) (p : Parser A) → Spans 0 n p → Spans 0 n (checked test p)
unfolding checked
spans-checked n test p sp = spans-bind 0 n n p _ sp (λ a. spans-keep _ n (test a) a (let z : 0 + n a ≡ n a = omega arith in z))

pub length-encode : (i : Instr) → length (encode i) ≡ 1 + first_width i.op + second_width i.op
unfolding encode
length-encode i =
    let l = length-append (be (first_width i.op) i.a) (be (second_width i.op) i.b) in
    let m = length-be (first_width i.op) i.a in let n = length-be (second_width i.op) i.b in omega arith

pub spans-instruction : Spans 0 (λ i. length (encode i)) instruction
unfolding instruction
spans-instruction =
    spans-bind 0 (λ op. 1) _ (checked is_instruction byte) _ (spans-checked (λ op. 1) is_instruction byte spans-byte) (λ op.
    spans-bind _ (λ a. first_width op) _ (field (first_width op)) _ (spans-field (first_width op)) (λ a.
    spans-bind _ (λ b. second_width op) _ (field (second_width op)) _ (spans-field (second_width op)) (λ b.
    spans-give _ _ (record { op = op; a = a; b = b }) (let l = length-encode (record { op = op; a = a; b = b }) in omega arith))))

pub length-function : (f : Function) → length (function_bytes f) ≡ 9 + length (encodes f.code)
unfolding function_bytes list_bytes encodes
length-function f =
    let c = be 2 (length f.code) ++ concat encode f.code in
    let a = length-append (be 2 f.symbol) (be 1 f.arity ++ (be 2 f.locals ++ (be 2 f.height ++ c))) in
    let b = length-append (be 1 f.arity) (be 2 f.locals ++ (be 2 f.height ++ c)) in
    let d = length-append (be 2 f.locals) (be 2 f.height ++ c) in
    let e = length-append (be 2 f.height) c in
    let g = length-append (be 2 (length f.code)) (concat encode f.code) in
    omega (arith, length-be 2 f.symbol, length-be 1 f.arity, length-be 2 f.locals, length-be 2 f.height, length-be 2 (length f.code))

pub spans-code : (n : ℕ) → Spans 0 (λ is. length (encodes is)) (counted [] ◌∷◌ instruction n)
unfolding encodes
spans-code n = spans-counted encode instruction spans-instruction n

spans-listed : Spans 0 (λ is. 2 + length (encodes is)) (list_of 2 instruction)
unfolding list_bytes encodes
spans-listed = record {
  at = λ bs is rest h. (let x = (spans-list 2 encode instruction spans-instruction).at bs is rest h in
      let l = length-append (be 2 (length is)) (concat encode is) in let m = length-be 2 (length is) in omega arith);
}

pub spans-function : Spans 0 (λ f. length (function_bytes f)) function_record
unfolding function_record
spans-function =
    spans-bind 0 (λ v. 2) _ (field 2) _ (spans-field 2) (λ k.
    spans-bind _ (λ v. 1) _ (field 1) _ (spans-field 1) (λ n.
    spans-bind _ (λ v. 2) _ (field 2) _ (spans-field 2) (λ l.
    spans-bind _ (λ v. 2) _ (field 2) _ (spans-field 2) (λ h.
    spans-bind _ (λ is. 2 + length (encodes is)) _ (list_of 2 instruction) _ spans-listed (λ is.
    spans-give _ _ (record { symbol = k; arity = n; locals = l; height = h; code = is }) (let e = length-function (record { symbol = k; arity = n; locals = l; height = h; code = is }) in omega arith))))))
