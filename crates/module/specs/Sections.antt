-- The bytes of each section of the module, from the words that the lowering keeps.
use Rattle.std.specs.Prelude.{ℕ, ◌≤◌, List, ◌++◌, map, length, drop}
use Rattle.definitions.specs.Bytes.{be, list_bytes}
use Rattle.definitions.specs.Module.{name_bytes, text_bytes, function_bytes, class_bytes}
use Rattle.state.specs.Words.{region, text_at}
use Rattle.state.specs.State.{spelled, functions_of, classes_of}
use Rattle.state.specs.State.{strings_from, heads_from, codes_from, class_names_from, class_methods_from, methods_from, constants_from, done_from}
use Rattle.state.specs.declared.Counts.{Counts}

-- a list whose elements have these bytes: their count in two bytes, then each one's
unfoldable pub counted_list : List (List ℕ) → List ℕ
counted_list ps = list_bytes 2 (λ (p : List ℕ). p) ps

-- symbols and strings, by their entries
unfoldable pub symbol_bytes : List ℕ → List ℕ → List ℕ → List ℕ
symbol_bytes tree made ws = list_bytes 2 name_bytes (map (spelled tree made) ws)

unfoldable pub string_bytes : List ℕ → List ℕ → List ℕ
string_bytes tree ws = list_bytes 2 text_bytes (map (text_at tree) ws)

-- functions, by their heads and the places of their code among the finished words
unfoldable pub functions_bytes : List ℕ → List ℕ → List ℕ → List ℕ → List ℕ
functions_bytes tree finished hs ks = list_bytes 2 function_bytes (functions_of tree finished hs ks)

-- classes, by their names and the places of their methods
unfoldable pub classes_bytes : List ℕ → List ℕ → List ℕ → List ℕ → List ℕ
classes_bytes tree methods xs ks = list_bytes 2 class_bytes (classes_of tree methods xs ks)

unfoldable pub constant_bytes : List ℕ → List ℕ
constant_bytes ws = list_bytes 2 (be 2) ws

-- the sections of the areas: symbols and strings; functions, classes and constants
unfoldable pub texts_bytes : List ℕ → List ℕ → List ℕ → Counts → List ℕ
texts_bytes tree made tables c = symbol_bytes tree made (region 0 c.symbols tables) ++ string_bytes tree (region strings_from c.strings tables)

unfoldable pub bodies_bytes : List ℕ → List ℕ → List ℕ → Counts → List ℕ
bodies_bytes tree code tables c =
    functions_bytes tree (drop done_from code) (region heads_from c.functions tables) (region codes_from c.functions tables)
    ++ (classes_bytes tree (region methods_from 256 tables) (region class_names_from c.classes tables) (region class_methods_from c.classes tables)
    ++ constant_bytes (region constants_from c.constants tables))

-- what the writer asks of the counts and of the areas' lengths; sound slices have it
pub record Roomy (code tables : List ℕ) (c : Counts) : Type 0 where
  pub code-room : 16384 ≤ length code
  pub tables-room : 16384 ≤ length tables
  pub symbols : c.symbols ≤ 1024
  pub strings : c.strings ≤ 512
  pub functions : c.functions ≤ 256
  pub classes : c.classes ≤ 64
  pub constants : c.constants ≤ 64
