-- A made name is written at the free end of the made bytes: what was made before keeps its spelling.
use Prim.Native.Nat.{ℕ, ◌+◌, ◌-◌}
use mathlib.Core.Path.{◌≡◌, sym, ap, subst, ◌∙◌}
use mathlib.Core.List.{List}
use native.Mathlib.Omega.{arith}
use lib.ListN.{length, take}
use Rattle.definitions.specs.Bytes.{Name}
use Rattle.state.specs.Words.{region, name_at}
use Rattle.state.specs.Index.{Covered}
use Rattle.state.specs.State.{symbol_index_from, symbol_buckets, spelled, tables_of, state_of, Sound}
use Rattle.state.specs.declared.Counts.{Counts}
use Rattle.state.specs.declared.Limits.{Limits}
use Rattle.state.proofs.Regions.{spelled_same, made-within-same, every_map}
use Rattle.names.specs.Made.{NameStands}
use Rattle.names.proofs.Spelling.{spelled-made}

module _ (tree made made' code tables : List ℕ) (c : Counts) (l : Limits) (s : Sound tree made code tables c l) (x : Name) (at : ℕ) (here : at ≡ c.made)
    (size : length made' ≡ length made) (w : NameStands x at made made') where
  kept : take c.made made ≡ take c.made made'
  kept = rw here at (sym w.before)

  pub made-sound : Sound tree made' code tables c l
  made-sound = record {
    code-room = s.code-room;
    tables-room = s.tables-room;
    made-room = let k = s.made-room in omega arith;
    limited = s.limited;
    symbols = s.symbols;
    strings = s.strings;
    functions = s.functions;
    classes = s.classes;
    constants = s.constants;
    methods = s.methods;
    words = s.words;
    base = s.base;
    made-count = s.made-count;
    names = every_map (λ a. made-within-same made made' c.made a kept) s.names;
    heads = s.heads;
    codes = s.codes;
    class-methods = s.class-methods;
    finished = s.finished;
    symbol-index = subst (Covered symbol_buckets (region symbol_index_from symbol_buckets tables) 0) (spelled_same tree made made' c.made (region 0 c.symbols tables) s.names kept) s.symbol-index;
    string-index = s.string-index;
  }

  pub made-state : state_of tree made' code tables c ≡ state_of tree made code tables c
  unfolding state_of tables_of
  made-state =
      let e = sym (spelled_same tree made made' c.made (region 0 c.symbols tables) s.names kept) in
      let t = tables_of tree made code tables c in
      λ j. record {
        stack = (state_of tree made code tables c).stack;
        tables = record { symbols = e j; strings = t.strings; functions = t.functions; classes = t.classes; constants = t.constants };
      }

  pub made-spelled : spelled tree made' (32768 + at) ≡ x
  made-spelled =
      let e : 32768 + at - 32768 ≡ at = omega arith in
      sym (spelled-made tree made' (32768 + at) (omega arith)) ∙ ap (name_at made') e ∙ w.name
