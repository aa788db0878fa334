-- Functions and classes as elements of lists, and how long lists can be.
use mathlib.Core.Path.{◌≡◌, refl, sym, ap, ap₂, ◌∙◌}
use mathlib.Core.List.{List, [], ◌∷◌, ◌++◌, map, append-nil}
use Prim.Native.Nat.{ℕ, zero, suc, min, ◌+◌, ◌*◌, ◌/◌, ◌%◌, ◌≤◌, ◌<◌}
use native.Mathlib.Omega.{arith}
use native.Mathlib.Nat.{mul-suc}
use lib.ListN.{length, get_or, length-append, length-take}
use native.Mathlib.Nat.{zero-min, min-zero, suc-min-suc}
use Rattle.definitions.specs.Bytes.{be, list_bytes}
use Rattle.definitions.specs.Instruction.{encode}
use Rattle.definitions.specs.Stack.{height_number}
use Rattle.definitions.specs.Module.{name_bytes, text_bytes, function_bytes, method_bytes, class_bytes}
use Rattle.definitions.proofs.BytesWritten.{length-be}
use Rattle.state.specs.Words.{region, name_at, text_at, instr_of, instrs_of}
use Rattle.state.specs.State.{spelled, function_from, functions_of, method_from, class_of, classes_of}
use Rattle.module.specs.Sections.{counted_list, symbol_bytes, string_bytes, functions_bytes, classes_bytes, constant_bytes}
use Rattle.writing.proofs.Begun.{joined}
use Rattle.module.proofs.Pieces.{counted-pieces, counted-words, counted-map, counted-room}
use Rattle.module.proofs.Encoding.{first-is, first_small, second_is, second-small}
use Rattle.module.proofs.Lengths.{Small, name-short, text-short, spelled-short, length-name, length-text}
use Rattle.definitions.proofs.Lengths.{length-encode}

pub region-short : (a n : ℕ) (xs : List ℕ) → length (region a n xs) ≤ n
unfolding region
region-short a n xs = simp length-take (omega arith)

abbrev placed : ℕ → List ℕ → List ℕ
placed k xs = region (k / 65536) (k % 65536) xs

-- ---- what a word stands for

abbrev pub symbol_piece : List ℕ → List ℕ → ℕ → List ℕ
symbol_piece tree made w = name_bytes (spelled tree made w)

abbrev pub string_piece : List ℕ → ℕ → List ℕ
string_piece tree w = text_bytes (text_at tree w)

abbrev pub code_piece : List ℕ → ℕ → List ℕ
code_piece tree w = encode (instr_of tree w)

abbrev pub method_piece : List ℕ → ℕ → List ℕ
method_piece tree w = method_bytes (method_from tree w)

pub symbols-room : (tree made ws : List ℕ) → Small tree → Small made → length (counted_list (map (symbol_piece tree made) ws)) ≤ 2 + 256 * length ws
symbols-room tree made ws b d = counted-room 256 (symbol_piece tree made) ws (λ x. let n = length-name (spelled tree made x) in let s = spelled-short tree made x b d in omega arith)

pub strings-room : (tree ws : List ℕ) → Small tree → length (counted_list (map (string_piece tree) ws)) ≤ 2 + 65537 * length ws
strings-room tree ws b = counted-room 65537 (string_piece tree) ws (λ x. let n = length-text (text_at tree x) in let s = text-short tree x b in omega arith)

pub code-room : (tree ws : List ℕ) → length (counted_list (map (code_piece tree) ws)) ≤ 2 + 10 * length ws
code-room tree ws =
    counted-room 10 (code_piece tree) ws
    (λ x. let o = (instr_of tree x).op in let n = length-encode (instr_of tree x) in omega (arith, first-is o, first_small o, second_is o, second-small o))

pub methods-room : (tree ws : List ℕ) → Small tree → length (counted_list (map (method_piece tree) ws)) ≤ 2 + 258 * length ws
unfolding method_bytes method_from
methods-room tree ws b = counted-room 258 (method_piece tree) ws (λ x. let n = length-method x in let s = name-short tree (x / 256) b in omega arith)
  where
    length-method : (w : ℕ) → length (method_piece tree w) ≡ 3 + length (name_at tree (w / 256))
    length-method w = simp (length-append, length-be, length-name) (omega arith)

pub length-constants : (ws : List ℕ) → length (counted_list (map (be 2) ws)) ≡ 2 + 2 * length ws
unfolding joined
length-constants ws =
    ap length (counted-pieces (map (be 2) ws)) ∙ length-append (be 2 (length (map (be 2) ws))) (joined (map (be 2) ws))
    ∙ (let l = length-be 2 (length (map (be 2) ws)) in let r = go ws in omega arith)
  where
    go : (ks : List ℕ) → length (joined (map (be 2) ks)) ≡ 2 * length ks
    go [] = refl
    go (k ∷ ks) = simp (length-append, length-be) (omega (arith, go ks))

-- ---- functions

module _ (tree fin : List ℕ) where
  abbrev pub function_elements : List ℕ → List ℕ → List (List ℕ)
  function_elements hs ks = map function_bytes (functions_of tree fin hs ks)

  pub functions-count : (hs ks : List ℕ) → min (length hs) (length ks) ≡ length (function_elements hs ks)
  unfolding functions_of
  functions-count [] ks = zero-min (length ks)
  functions-count (h ∷ hs) [] = min-zero (suc (length hs))
  functions-count (h ∷ hs) (k ∷ ks) = suc-min-suc (length hs) (length ks) ∙ ap suc (functions-count hs ks)

  pub functions-fewer : (hs ks : List ℕ) → (length (function_elements hs ks) ≤ length hs) × (length (function_elements hs ks) ≤ length ks)
  functions-fewer hs ks = let e = functions-count hs ks in (omega arith, omega arith)

  pub function-element : (hs ks : List ℕ) (i : ℕ) → i < length (function_elements hs ks) → get_or (function_elements hs ks) i [] ≡ function_bytes (function_from tree fin (get_or hs i 0) (get_or ks i 0))
  unfolding functions_of
  function-element [] ks i l = absurd (omega arith)
  function-element (h ∷ hs) [] i l = absurd (omega arith)
  function-element (h ∷ hs) (k ∷ ks) zero l = refl
  function-element (h ∷ hs) (k ∷ ks) (suc i) l = function-element hs ks i (omega arith)

  -- with the code that was found for it
  module _ {t ws : List ℕ} (hs ks : List ℕ) (i : ℕ) (e : t ≡ tree) (f : ws ≡ placed (get_or ks i 0) fin) (l : i < length (function_elements hs ks)) where
    pub function-pieces : {height : ℕ} → height ≡ height_number (instrs_of t ws) → let h = get_or hs i 0 in
        get_or (function_elements hs ks) i [] ≡ be 2 (h / 65536) ++ joined (be 1 (h / 256 % 256) ∷ be 2 (h % 256) ∷ be 2 height ∷ counted_list (map (code_piece t) ws) ∷ [])
    unfolding function_bytes function_from instrs_of joined
    function-pieces tall =
        let h = get_or hs i 0 in
        let c : list_bytes 2 encode (instrs_of tree (placed (get_or ks i 0) fin)) ≡ counted_list (map (code_piece t) ws) =
        counted-words encode (instr_of tree) (placed (get_or ks i 0) fin) ∙ sym (ap₂ (λ (x y : List ℕ). counted_list (map (code_piece x) y)) e f) in
        function-element hs ks i l
        ∙ ap₂ (λ (n : ℕ) (z : List ℕ). be 2 (h / 65536) ++ (be 1 (h / 256 % 256) ++ (be 2 (h % 256) ++ (be 2 n ++ z))))
        (sym (tall ∙ ap₂ (λ (x y : List ℕ). height_number (instrs_of x y)) e f)) (c ∙ sym (append-nil (counted_list (map (code_piece t) ws))))

    pub length-function : 7 + length (counted_list (map (code_piece t) ws)) ≡ length (get_or (function_elements hs ks) i [])
    unfolding joined
    length-function =
        let h = get_or hs i 0 in let c = counted_list (map (code_piece t) ws) in let n = height_number (instrs_of t ws) in
        let r : length (be 2 (h / 65536) ++ joined (be 1 (h / 256 % 256) ∷ be 2 (h % 256) ∷ be 2 n ∷ c ∷ [])) ≡ 7 + length c =
        simp (length-append, length-be) (omega arith) in
        sym (ap length (function-pieces refl) ∙ r)

  pub functions-room : (hs ks : List ℕ) → length (counted_list (function_elements hs ks)) ≤ 2 + 655359 * length hs
  unfolding functions_of joined
  functions-room hs ks =
      let e = ap length (counted-pieces (function_elements hs ks)) ∙ length-append (be 2 (length (function_elements hs ks))) (joined (function_elements hs ks)) in
      let l = length-be 2 (length (function_elements hs ks)) in
      let r = go hs ks in
      omega arith
    where
      one : (h k : ℕ) → length (function_bytes (function_from tree fin h k)) ≤ 655359
      one h k =
          let e = length-function (h ∷ []) (k ∷ []) 0 refl refl (omega arith) in
          let r = code-room tree (placed k fin) in let s = region-short (k / 65536) (k % 65536) fin in omega arith

      go : (hs ks : List ℕ) → length (joined (function_elements hs ks)) ≤ 655359 * length hs
      go [] ks = omega arith
      go (h ∷ hs) [] = omega arith
      go (h ∷ hs) (k ∷ ks) = let r = go hs ks in let l = length-append (function_bytes (function_from tree fin h k)) (joined (function_elements hs ks)) in let m = mul-suc 655359 (length hs) in omega (arith, one h k)

-- ---- classes

module _ (tree ms : List ℕ) where
  abbrev pub class_elements : List ℕ → List ℕ → List (List ℕ)
  class_elements xs ks = map class_bytes (classes_of tree ms xs ks)

  pub classes-count : (xs ks : List ℕ) → min (length xs) (length ks) ≡ length (class_elements xs ks)
  unfolding classes_of
  classes-count [] ks = zero-min (length ks)
  classes-count (x ∷ xs) [] = min-zero (suc (length xs))
  classes-count (x ∷ xs) (k ∷ ks) = suc-min-suc (length xs) (length ks) ∙ ap suc (classes-count xs ks)

  pub classes-fewer : (xs ks : List ℕ) → (length (class_elements xs ks) ≤ length xs) × (length (class_elements xs ks) ≤ length ks)
  classes-fewer xs ks = let e = classes-count xs ks in (omega arith, omega arith)

  pub class-element : (xs ks : List ℕ) (i : ℕ) → i < length (class_elements xs ks) → get_or (class_elements xs ks) i [] ≡ class_bytes (class_of tree ms (get_or xs i 0) (get_or ks i 0))
  unfolding classes_of
  class-element [] ks i l = absurd (omega arith)
  class-element (x ∷ xs) [] i l = absurd (omega arith)
  class-element (x ∷ xs) (k ∷ ks) zero l = refl
  class-element (x ∷ xs) (k ∷ ks) (suc i) l = class-element xs ks i (omega arith)

  -- with the name and the methods that were found for it
  module _ {n t ws : List ℕ} (xs ks : List ℕ) (i : ℕ) (d : n ≡ name_at tree (get_or xs i 0)) (e : t ≡ tree) (f : ws ≡ placed (get_or ks i 0) ms) (l : i < length (class_elements xs ks)) where
    pub class-pieces : get_or (class_elements xs ks) i [] ≡ (be 1 (length n) ++ n) ++ joined (counted_list (map (method_piece t) ws) ∷ [])
    unfolding class_bytes class_of name_bytes joined
    class-pieces =
        let c : list_bytes 2 method_bytes (map (method_from tree) (placed (get_or ks i 0) ms)) ≡ counted_list (map (method_piece t) ws) =
        counted-words method_bytes (method_from tree) (placed (get_or ks i 0) ms) ∙ sym (ap₂ (λ (x y : List ℕ). counted_list (map (method_piece x) y)) e f) in
        class-element xs ks i l
        ∙ ap₂ (λ (y z : List ℕ). (be 1 (length y) ++ y) ++ z) (sym d) (c ∙ sym (append-nil (counted_list (map (method_piece t) ws))))

    pub length-class : 1 + length n + length (counted_list (map (method_piece t) ws)) ≡ length (get_or (class_elements xs ks) i [])
    unfolding joined
    length-class =
        let r : length ((be 1 (length n) ++ n) ++ joined (counted_list (map (method_piece t) ws) ∷ [])) ≡ 1 + length n + length (counted_list (map (method_piece t) ws)) =
        simp (length-append, length-be) (omega arith) in
        sym (ap length class-pieces ∙ r)

  pub classes-room : Small tree → (xs ks : List ℕ) → length (counted_list (class_elements xs ks)) ≤ 2 + 16908288 * length xs
  unfolding classes_of joined
  classes-room b xs ks =
      let e = ap length (counted-pieces (class_elements xs ks)) ∙ length-append (be 2 (length (class_elements xs ks))) (joined (class_elements xs ks)) in
      let l = length-be 2 (length (class_elements xs ks)) in
      let r = go xs ks in
      omega arith
    where
      one : (x k : ℕ) → length (class_bytes (class_of tree ms x k)) ≤ 16908288
      one x k =
          let e = length-class (x ∷ []) (k ∷ []) 0 refl refl refl (omega arith) in
          let n = name-short tree x b in let r = methods-room tree (placed k ms) b in let s = region-short (k / 65536) (k % 65536) ms in omega arith

      go : (xs ks : List ℕ) → length (joined (class_elements xs ks)) ≤ 16908288 * length xs
      go [] ks = omega arith
      go (x ∷ xs) [] = omega arith
      go (x ∷ xs) (k ∷ ks) = let r = go xs ks in let l = length-append (class_bytes (class_of tree ms x k)) (joined (class_elements xs ks)) in let m = mul-suc 16908288 (length xs) in omega (arith, one x k)

-- ---- the sections as lists, of the words that the code has found

module _ {t ws : List ℕ} (tree rs : List ℕ) (e : t ≡ tree) (f : ws ≡ rs) where
  pub symbols-are : {m : List ℕ} (made : List ℕ) → m ≡ made → counted_list (map (symbol_piece t m) ws) ≡ symbol_bytes tree made rs
  unfolding symbol_bytes
  symbols-are made g =
      ap₂ (λ (x y : List ℕ). counted_list (map (symbol_piece x y) ws)) e g ∙ ap (λ (y : List ℕ). counted_list (map (symbol_piece tree made) y)) f
      ∙ sym (counted-words name_bytes (spelled tree made) rs)

  pub strings-are : counted_list (map (string_piece t) ws) ≡ string_bytes tree rs
  unfolding string_bytes
  strings-are = ap₂ (λ (x y : List ℕ). counted_list (map (string_piece x) y)) e f ∙ sym (counted-words text_bytes (text_at tree) rs)

module _ {t a hs ks : List ℕ} (tree b rs qs : List ℕ) (e : t ≡ tree) (f : a ≡ b) (g : hs ≡ rs) (h : ks ≡ qs) where
  pub functions-are : counted_list (function_elements t a hs ks) ≡ functions_bytes tree b rs qs
  unfolding functions_bytes
  functions-are = ap₂ (λ (x y : List ℕ). counted_list (function_elements x y hs ks)) e f ∙ ap₂ (λ (x y : List ℕ). counted_list (function_elements tree b x y)) g h ∙ sym (counted-map function_bytes (functions_of tree b rs qs))

  pub classes-are : counted_list (class_elements t a hs ks) ≡ classes_bytes tree b rs qs
  unfolding classes_bytes
  classes-are = ap₂ (λ (x y : List ℕ). counted_list (class_elements x y hs ks)) e f ∙ ap₂ (λ (x y : List ℕ). counted_list (class_elements tree b x y)) g h ∙ sym (counted-map class_bytes (classes_of tree b rs qs))

pub constants-are : {ws : List ℕ} (rs : List ℕ) → ws ≡ rs → counted_list (map (be 2) ws) ≡ constant_bytes rs
unfolding constant_bytes
constants-are rs f = ap (λ (y : List ℕ). counted_list (map (be 2) y)) f ∙ sym (counted-map (be 2) rs)
