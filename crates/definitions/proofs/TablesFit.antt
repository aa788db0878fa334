-- The tables of a block that is accepted fit the module's layout: each number its field, class and method names well formed, methods rising.
use mathlib.Core.List.{List, ◌∷◌, []}
use Prim.Native.Nat.{ℕ, ◌≤◌}
use native.Mathlib.Omega.{arith}
use lib.ListN.{length}
use Rattle.definitions.specs.Bytes.{Name, Text, field, name, text, checked, be}
use Rattle.definitions.specs.Utf8.{is_utf8}
use Rattle.definitions.specs.Tables.{Function, Method, Class, Tables}
use Rattle.definitions.specs.Module.{office, name_bytes, text_bytes, function_bytes, method_bytes, class_bytes}
use Rattle.definitions.specs.Reader.{function_record, method_record, class_record}
use Rattle.definitions.proofs.Every.{Every, no_every, every}
use Rattle.definitions.proofs.Accepted.{Within}
use Rattle.definitions.proofs.Readback.{Back, no_back, back, TablesFits, reads-checked, reads-name, reads-text, reads-field, reads-function, reads-method, reads-class}
use Rattle.definitions.proofs.Names.{Short, name-short}
use Rattle.definitions.proofs.Bounds.{Utf8, Lean, Tight, Named, Ordered, OfClass, texts, names, members}
use Rattle.definitions.proofs.Known.{Settles, Known}
use Rattle.definitions.proofs.InstructionsFit.{back-code}
use Rattle.definitions.proofs.NumberFew.{number-few}

module _ (t : Tables) (L : Within office t) (cs : length t.constants ≤ length t.classes) where
  back-functions : {fs : List Function} → Every (Tight t) fs → Every Lean fs → Every Settles fs → Back function_record function_bytes fs
  unfolding office
  back-functions no_every c d = no_back
  back-functions (every {a = f} y ys) (every z zs) (every q qs) =
      back (reads-function f (record {
        symbol = omega (arith, y.symbol, L.symbols);
        arity = omega (arith, y.arity);
        locals = omega (arith, z.slots);
        height = omega (arith, y.height, number-few f.code, z.code);
        count = omega (arith, z.code);
        code = back-code t L cs z.slots y.code q.settles;
      }))
      (back-functions ys zs qs)

  back-methods : {ms : List Method} → Every (Named t) ms → Back method_record method_bytes ms
  unfolding office
  back-methods no_every = no_back
  back-methods (every {a = m} y ys) =
      back (reads-method m (record { short = omega (arith, (name-short m.name y.named).short); name = y.named; function = omega (arith, y.function, L.functions) })) (back-methods ys)

  methods-count : (ms : List Method) → length ms ≤ names ms
  methods-count [] = omega arith
  methods-count (m ∷ ms) = omega (arith, methods-count ms)

  back-classes : {xs : List Class} → members xs ≤ 32768 → Every (Ordered t) xs → Back class_record class_bytes xs
  back-classes h no_every = no_back
  back-classes h (every {a = c} y ys) =
      back (reads-class c (record {
        short = omega (arith, (name-short c.name y.named).short);
        name = y.named;
        count = omega (arith, methods-count c.methods);
        rises = y.rises;
        methods = back-methods y.methods;
      }))
      (back-classes (omega arith) ys)

  back-constants : {ks : List ℕ} → Every (OfClass t) ks → Back (field 2) (be 2) ks
  unfolding office
  back-constants no_every = no_back
  back-constants (every {a = k} x xs) = back (reads-field 2 k (omega (arith, x.class, L.classes))) (back-constants xs)

back-symbols : {xs : List Name} → Every Short xs → Back name name_bytes xs
back-symbols no_every = no_back
back-symbols (every {a = x} h r) = back (reads-name x (omega (arith, h.short))) (back-symbols r)

back-strings : {ss : List Text} → Every Utf8 ss → texts ss ≤ 32768 → Back (checked is_utf8 text) text_bytes ss
back-strings no_every h = no_back
back-strings (every {a = s} u us) h = back (reads-checked is_utf8 u.utf8 (reads-text s (omega arith))) (back-strings us (omega arith))

pub tables-fit : {n : ℕ} (t : Tables) → n ≤ 32768 → Known n t → TablesFits t
unfolding office
tables-fit t h K =
    let L = K.limits in
    let B = K.bounded in
    let cs = B.constants in
    record {
      nsymbols = omega (arith, L.symbols);
      symbols = back-symbols B.trim.symbols;
      nstrings = omega (arith, L.strings);
      strings = back-strings B.trim.strings (omega (arith, B.weight));
      nfunctions = omega (arith, L.functions);
      functions = back-functions t L cs B.trim.functions K.lean K.settled;
      nclasses = omega (arith, L.classes);
      classes = back-classes t L cs (omega (arith, B.weight)) B.trim.classes;
      nconstants = omega (arith, L.classes, cs);
      constants = back-constants t L cs B.trim.constants;
    }
