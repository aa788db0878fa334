-- A reader takes a beginning of its bytes: what it leaves is a rest of them, and what it reads does not depend on that rest.
use Prim.Native.Nat.{ℕ, zero, suc, ◌+◌, ◌*◌, ◌^◌, ◌<◌, ◌≤◌}
use mathlib.Core.Path.{◌≡◌, refl, sym, ap, ◌∙◌}
use mathlib.Core.Bool.{Bool, true, false}
use mathlib.Core.List.{List, [], ◌∷◌, ◌++◌, append_assoc}
use mathlib.Core.Logic.{◌⊎◌, inl, inr}
use native.Mathlib.Omega.{arith}
use lib.Dec.{leb}
use lib.ListN.{length, take, drop, length-drop}
use lib.Seq.{drop-drop, take-add}
use borrow.Author.Tests.{leb-true, leb-false}
use Rattle.definitions.specs.Bytes.{Parsed, got, failed, Parser, ◌>>=◌, give, unread, byte, field, counted, list_of, name, text, keep, checked}
use Rattle.definitions.specs.Instruction.{instr, first_width, second_width, is_instruction}
use Rattle.definitions.specs.Wellformed.{is_name}
use Rattle.definitions.specs.Reader.{instruction, function_record, method_record, rising, class_record}

pub le-or-gt : (a b : ℕ) → (a ≤ b) ⊎ (b < a)
le-or-gt a b = go (leb a b) refl
  where
    go : (x : Bool) → leb a b ≡ x → (a ≤ b) ⊎ (b < a)
    go true e = inl (leb-true a b e)
    go false e = inr (leb-false a b e)

-- what was read leaves a rest of the bytes, and does not depend on that rest
abbrev pub Rest : {A : Type 0} → Parser A → List ℕ → Parsed A → Type 0
Rest p bs (got a rest) = (k : ℕ) × (k ≤ length bs) × (rest ≡ drop k bs) × ((zs : List ℕ) → p (take k bs ++ zs) ≡ got a zs)
Rest p bs (failed why) = Unit {0}

pub record Takes {A : Type 0} (p : Parser A) : Type 0 where
  pub rest : (bs : List ℕ) → Rest p bs (p bs)

pub bind_is : {A B : Type 0} (p : Parser A) (f : A → Parser B) (bs : List ℕ) (a : A) (rest : List ℕ) → p bs ≡ got a rest → (p >>= f) bs ≡ f a rest
unfolding ◌>>=◌
bind_is {A} {B} p f bs a rest e = ap the e
  where
    the : Parsed A → Parsed B
    the r = elim r [ got a rest ↦ f a rest | failed q ↦ failed q ]

-- the beginning of a beginning and what follows it
take-both : (k j : ℕ) (bs rest zs : List ℕ) → rest ≡ drop k bs → take (k + j) bs ++ zs ≡ take k bs ++ (take j rest ++ zs)
take-both k j bs rest zs e = ap (λ (x : List ℕ). x ++ zs) (take-add k j bs ∙ ap (λ (x : List ℕ). take k bs ++ take j x) (sym e)) ∙ append_assoc (take k bs) (take j rest) zs

pub takes-bind : {A B : Type 0} (p : Parser A) (f : A → Parser B) → Takes p → ((a : A) → Takes (f a)) → Takes (p >>= f)
unfolding ◌>>=◌
takes-bind {A} {B} p f tp tf = record { rest = λ bs. go bs (p bs) (tp.rest bs) }
  where
    more : (bs : List ℕ) (a : A) (rest : List ℕ) (k : ℕ) → k ≤ length bs → rest ≡ drop k bs → ((zs : List ℕ) → p (take k bs ++ zs) ≡ got a zs)
        → (r : Parsed B) → Rest (f a) rest r → Rest (p >>= f) bs r
    more bs a rest k h e loc (got b s) w = (
      k + w.0,
      (let l = ap length e ∙ length-drop k bs in let z = w.1 in omega arith),
      w.2 ∙ ap (drop w.0) e ∙ drop-drop w.0 k bs,
      (λ zs. ap (p >>= f) (take-both k w.0 bs rest zs e) ∙ bind_is p f (take k bs ++ (take w.0 rest ++ zs)) a (take w.0 rest ++ zs) (loc (take w.0 rest ++ zs)) ∙ w.3 zs),
    )
    more bs a rest k h e loc (failed why) w = tt

    go : (bs : List ℕ) (r : Parsed A) → Rest p bs r → Rest {A = B} (p >>= f) bs (elim r [ got a rest ↦ f a rest | failed q ↦ failed q ])
    go bs (got a rest) w = more bs a rest w.0 w.1 w.2 w.3 (f a rest) ((tf a).rest rest)
    go bs (failed why) w = tt

pub takes-give : {A : Type 0} (a : A) → Takes (give a)
unfolding give
takes-give a = record { rest = λ bs. (0, omega arith, refl, λ zs. refl) }

pub takes-byte : Takes byte
unfolding byte
takes-byte = record { rest = go }
  where
    go : (bs : List ℕ) → Rest byte bs (byte bs)
    go [] = tt
    go (b ∷ bs) = (1, omega arith, refl, λ zs. refl)

pub takes_field : (w : ℕ) → Takes (field w)
unfolding field
takes_field zero = takes-give 0
takes_field (suc w) = takes-bind byte _ takes-byte (λ b. takes-bind (field w) _ (takes_field w) (λ n. takes-give (b * 256 ^ w + n)))

pub takes-counted : {A B : Type 0} (z : B) (c : A → B → B) (p : Parser A) → Takes p → (n : ℕ) → Takes (counted z c p n)
unfolding counted
takes-counted z c p tp zero = takes-give z
takes-counted z c p tp (suc n) = takes-bind p _ tp (λ a. takes-bind (counted z c p n) _ (takes-counted z c p tp n) (λ b. takes-give (c a b)))

pub takes-list : {A : Type 0} (w : ℕ) (p : Parser A) → Takes p → Takes (list_of w p)
unfolding list_of
takes-list w p tp = takes-bind (field w) _ (takes_field w) (λ n. takes-counted [] ◌∷◌ p tp n)

pub takes-name : Takes name
unfolding name
takes-name = takes-list 1 byte takes-byte

pub takes-text : Takes text
unfolding text
takes-text = takes-list 2 byte takes-byte

pub takes-keep : {A : Type 0} (b : Bool) (a : A) → Takes (keep b a)
unfolding keep unread
takes-keep true a = takes-give a
takes-keep false a = record { rest = λ bs. tt }

pub takes-checked : {A : Type 0} (test : A → Bool) (p : Parser A) → Takes p → Takes (checked test p)
unfolding checked
takes-checked test p tp = takes-bind p _ tp (λ a. takes-keep (test a) a)

-- ---- the records of a module

pub takes-instruction : Takes instruction
unfolding instruction
takes-instruction = takes-bind (checked is_instruction byte) _ (takes-checked is_instruction byte takes-byte)
    (λ op. takes-bind (field (first_width op)) _ (takes_field (first_width op))
    (λ a. takes-bind (field (second_width op)) _ (takes_field (second_width op)) (λ b. takes-give (instr op a b))))

pub takes-function : Takes function_record
unfolding function_record
takes-function = takes-bind (field 2) _ (takes_field 2) (λ k. takes-bind (field 1) _ (takes_field 1) (λ n. takes-bind (field 2) _ (takes_field 2)
    (λ l. takes-bind (field 2) _ (takes_field 2)
    (λ h. takes-bind (list_of 2 instruction) _ (takes-list 2 instruction takes-instruction) (λ is. takes-give (record { symbol = k; arity = n; locals = l; height = h; code = is }))))))

pub takes-method : Takes method_record
unfolding method_record
takes-method = takes-bind (checked is_name name) _ (takes-checked is_name name takes-name) (λ x. takes-bind (field 2) _ (takes_field 2) (λ f. takes-give (record { name = x; function = f })))

pub takes-class : Takes class_record
unfolding class_record
takes-class = takes-bind (checked is_name name) _ (takes-checked is_name name takes-name)
    (λ x. takes-bind (checked rising (list_of 2 method_record)) _ (takes-checked rising (list_of 2 method_record) (takes-list 2 method_record takes-method)) (λ ms. takes-give (record { name = x; methods = ms })))
