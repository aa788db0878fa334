-- The sections of the areas as the module's bytes.
use mathlib.Core.Path.{◌≡◌, sym, ap, ap₂, ◌∙◌}
use mathlib.Core.List.{List, [], ◌∷◌, ◌++◌, map, append-nil, append_assoc}
use Prim.Native.Nat.{ℕ, suc, ◌+◌, ◌-◌, ◌≤◌}
use native.Mathlib.Omega.{arith}
use lib.ListN.{length, take, drop, length-append, length-drop}
use lib.Seq.{take_all}
use Rattle.definitions.specs.Bytes.{be, housed}
use Rattle.definitions.specs.Module.{module_version, table_bytes, module_bytes}
use Rattle.definitions.proofs.BytesWritten.{length-be}
use Rattle.state.specs.Words.{region}
use Rattle.state.specs.State.{strings_from, heads_from, codes_from, class_names_from, class_methods_from, methods_from, constants_from, done_from, tables_of}
use Rattle.state.specs.declared.Counts.{Counts}
use Rattle.module.specs.Sections.{counted_list, symbol_bytes, string_bytes, functions_bytes, classes_bytes, constant_bytes, texts_bytes, bodies_bytes, Roomy}
use Rattle.writing.proofs.Begun.{joined}
use Rattle.module.proofs.Lengths.{Small}
use Rattle.module.proofs.CodeLengths.{symbol_piece, string_piece, function_elements, class_elements, region-short, symbols-room}
use Rattle.module.proofs.CodeLengths.{strings-room, functions-room, classes-room, length-constants, symbols-are, strings-are, functions-are, classes-are, constants-are}

-- ---- symbols and strings, by the lists that the code has made

module _ (tree made tables : List ℕ) (c : Counts) {t m es u fs : List ℕ}
    (a : t ≡ tree) (b : m ≡ made) (d : es ≡ region 0 c.symbols tables) (e : u ≡ tree) (f : fs ≡ region strings_from c.strings tables) where
  texts-are : counted_list (map (symbol_piece t m) es) ++ counted_list (map (string_piece u) fs) ≡ texts_bytes tree made tables c
  unfolding texts_bytes
  texts-are = ap₂ (λ (x y : List ℕ). x ++ y) (symbols-are tree (region 0 c.symbols tables) a d made b) (strings-are tree (region strings_from c.strings tables) e f)

  pub texts-pieces : texts_bytes tree made tables c ≡ counted_list (map (symbol_piece t m) es) ++ joined (counted_list (map (string_piece u) fs) ∷ [])
  unfolding joined
  texts-pieces = sym texts-are ∙ ap (λ (z : List ℕ). counted_list (map (symbol_piece t m) es) ++ z) (sym (append-nil (counted_list (map (string_piece u) fs))))

  pub length-texts : length (counted_list (map (symbol_piece t m) es)) + length (counted_list (map (string_piece u) fs)) ≡ length (texts_bytes tree made tables c)
  length-texts = sym (length-append (counted_list (map (symbol_piece t m) es)) (counted_list (map (string_piece u) fs))) ∙ ap length texts-are

  -- how long they can be, and how long they are together
  pub texts-fit : Small t → Small m → Small u → c.symbols ≤ 1024 → c.strings ≤ 512 →
      (length (counted_list (map (symbol_piece t m) es)) ≤ 262146) × (length (counted_list (map (string_piece u) fs)) ≤ 33554946)
      × (length (counted_list (map (symbol_piece t m) es)) + length (counted_list (map (string_piece u) fs)) ≡ length (texts_bytes tree made tables c))
  texts-fit g h k l n =
      let r = symbols-room t m es g h in let o = region-short 0 c.symbols tables in let v = ap length d in
      let q = strings-room u fs k in let p = region-short strings_from c.strings tables in let w = ap length f in
      (omega arith, omega arith, length-texts)

-- ---- functions, classes and constants, likewise

-- the finished words, as they are lent
pub finished-are : (code : List ℕ) → take (length code - 8192) (drop 8192 code) ≡ drop done_from code
finished-are code = take_all (length code - 8192) (drop 8192 code) (let l = length-drop 8192 code in omega arith)

module _ (tree code tables : List ℕ) (c : Counts) {t fin hs ks u ms xs ps cs : List ℕ}
    (a : t ≡ tree) (b : fin ≡ drop done_from code) (d : hs ≡ region heads_from c.functions tables) (e : ks ≡ region codes_from c.functions tables)
    (f : u ≡ tree) (g : ms ≡ region methods_from 256 tables) (h : xs ≡ region class_names_from c.classes tables) (i : ps ≡ region class_methods_from c.classes tables)
    (j : cs ≡ region constants_from c.constants tables) where
  bodies-are : counted_list (function_elements t fin hs ks) ++ (counted_list (class_elements u ms xs ps) ++ counted_list (map (be 2) cs)) ≡ bodies_bytes tree code tables c
  unfolding bodies_bytes
  bodies-are =
      ap₂ (λ (x y : List ℕ). x ++ y) (functions-are tree (drop done_from code) (region heads_from c.functions tables) (region codes_from c.functions tables) a b d e)
      (ap₂ (λ (x y : List ℕ). x ++ y)
      (classes-are tree (region methods_from 256 tables) (region class_names_from c.classes tables) (region class_methods_from c.classes tables) f g h i)
      (constants-are (region constants_from c.constants tables) j))

  pub bodies-pieces : bodies_bytes tree code tables c ≡ counted_list (function_elements t fin hs ks) ++ joined (counted_list (class_elements u ms xs ps) ∷ counted_list (map (be 2) cs) ∷ [])
  unfolding joined
  bodies-pieces =
      sym bodies-are
      ∙ ap (λ (z : List ℕ). counted_list (function_elements t fin hs ks) ++ (counted_list (class_elements u ms xs ps) ++ z)) (sym (append-nil (counted_list (map (be 2) cs))))

  pub length-bodies : length (counted_list (function_elements t fin hs ks)) + length (counted_list (class_elements u ms xs ps)) + length (counted_list (map (be 2) cs)) ≡ length (bodies_bytes tree code tables c)
  length-bodies =
      let k = ap length bodies-are in
      let l = length-append (counted_list (function_elements t fin hs ks)) (counted_list (class_elements u ms xs ps) ++ counted_list (map (be 2) cs)) in
      let m = length-append (counted_list (class_elements u ms xs ps)) (counted_list (map (be 2) cs)) in
      omega arith

  pub bodies-fit : Small u → Roomy code tables c →
      (length (counted_list (function_elements t fin hs ks)) ≤ 167771906) × (length (counted_list (class_elements u ms xs ps)) ≤ 1082130434) × (length (counted_list (map (be 2) cs)) ≤ 130)
      × (length (counted_list (function_elements t fin hs ks)) + length (counted_list (class_elements u ms xs ps)) + length (counted_list (map (be 2) cs)) ≡ length (bodies_bytes tree code tables c))
  bodies-fit s r =
      let k = functions-room t fin hs ks in let l = region-short heads_from c.functions tables in let m = ap length d in
      let n = classes-room u ms s xs ps in let o = region-short class_names_from c.classes tables in let p = ap length h in
      let q = length-constants cs in let v = region-short constants_from c.constants tables in let w = ap length j in
      (omega (arith, r.functions), omega (arith, r.classes), omega (arith, r.constants), length-bodies)

-- ---- the module

module _ (tree made code tables : List ℕ) (c : Counts) where
  sections : table_bytes (tables_of tree made code tables c) ≡ texts_bytes tree made tables c ++ bodies_bytes tree code tables c
  unfolding table_bytes tables_of texts_bytes bodies_bytes symbol_bytes string_bytes functions_bytes classes_bytes constant_bytes
  sections = sym (append_assoc (symbol_bytes tree made (region 0 c.symbols tables)) (string_bytes tree (region strings_from c.strings tables)) (bodies_bytes tree code tables c))

  pub length-module : 5 + length (texts_bytes tree made tables c) + length (bodies_bytes tree code tables c) ≡ length (module_bytes (tables_of tree made code tables c))
  unfolding module_bytes housed
  length-module =
      let t = table_bytes (tables_of tree made code tables c) in
      let n = ap length sections ∙ length-append (texts_bytes tree made tables c) (bodies_bytes tree code tables c) in
      let l = length-append (be 4 (suc (length t))) (module_version ∷ t) in
      let k = length-be 4 (suc (length t)) in
      omega arith

  pub module-pieces : (size : ℕ) → size ≡ length (module_bytes (tables_of tree made code tables c)) →
      module_bytes (tables_of tree made code tables c) ≡ (be 4 (size - 4) ++ be 1 module_version) ++ joined (texts_bytes tree made tables c ∷ bodies_bytes tree code tables c ∷ [])
  unfolding module_bytes housed joined be
  module-pieces size e =
      let t = table_bytes (tables_of tree made code tables c) in
      let l = length-append (be 4 (suc (length t))) (module_version ∷ t) in
      let k = length-be 4 (suc (length t)) in
      let n : suc (length t) ≡ size - 4 = omega arith in
      ap₂ (λ (x : ℕ) (y : List ℕ). be 4 x ++ (module_version ∷ y)) n (sections ∙ ap (λ (z : List ℕ). texts_bytes tree made tables c ++ z) (sym (append-nil (bodies_bytes tree code tables c))))
      ∙ sym (append_assoc (be 4 (size - 4)) (module_version ∷ []) (texts_bytes tree made tables c ++ (bodies_bytes tree code tables c ++ [])))
