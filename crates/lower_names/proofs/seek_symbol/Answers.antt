use Prim.Native.Nat.{ℕ, ◌+◌, ◌%◌, ◌<◌}
use native.Mathlib.Omega.{arith}
use mathlib.Core.Path.{◌≡◌, refl, sym, ap, subst, ◌∙◌}
use mathlib.Core.Option.{some, none}
use Rattle.std.specs.Prelude.{Option, Some, None}
use Rattle.std.proofs.Common.{rules}
use Rattle.names.specs.Sought.{place_in}
use Rattle.state.specs.Words.{region}
use Rattle.state.specs.State.{symbol_buckets}
use Rattle.lower_names.specs.Naming.{SeeksSymbol}
use Rattle.lower_names.proofs.Symbols.{symbol-lt, seeks-some, seeks-none}
use Rattle.lower_names.proofs.seek_symbol.Goals.{After-first-1, After-map-found}
use Rattle.lower_names.proofs.seek_symbol.Goals as goal

small : (c : After-first-1) (x : ℕ) → c.find_spelling.result ≡ Some x → c.first_number-first.result + x < 4294967296
unfolding region
small c x e = let a = c.args in let n = c.args.names.now in
    let found = sym (ap place_in e) ∙ c.find_spelling.ensures in
    let below = symbol-lt a.tree.now n a.entries.now a.w (some x) c.requires c.spelling-name.ensures.result_value c.hash-bucket.ensures.0 c.first_number-first.ensures.0 found x refl in
    omega (arith, below, c.requires.size, n.symbols.most)

pub map-found-requires : goal.map-found-requires
map-found-requires c x e = let f = small c x e in ((λ κs l s r z. omega arith), (λ κs l s r z. omega arith))

moved : (c : After-map-found) (x : ℕ) → c.find_spelling.result ≡ Some x → c.map-found.result ≡ Some (c.first_number-first.result + x)
moved c x e = search rules

missed : (c : After-map-found) → c.find_spelling.result ≡ None → c.map-found.result ≡ None
missed c e = search rules

pub returns : goal.returns
unfolding region
returns c = go c.find_spelling.result refl
  where
    Sought-by : Option ℕ → Type 0
    Sought-by f = let a = c.args in SeeksSymbol (record { bucket = c.hash-bucket.result % symbol_buckets; first = c.first_number-first.result; found = f }) a.tree.now a.names.now a.entries.now a.w

    go : (o : Option ℕ) → c.find_spelling.result ≡ o → Sought-by c.map-found.result
    go (Some x) e = let a = c.args in
        subst Sought-by (sym (moved c x e))
        (seeks-some a.tree.now a.names.now a.entries.now a.w (some x) c.requires c.spelling-name.ensures.result_value c.hash-bucket.ensures.0 c.first_number-first.ensures.0 (sym (ap place_in e) ∙ c.find_spelling.ensures)
        c.first_number-first.ensures.1 x refl)
    go None e = let a = c.args in
        subst Sought-by (sym (missed c e))
        (seeks-none a.tree.now a.names.now a.entries.now a.w none c.requires c.spelling-name.ensures.result_value c.hash-bucket.ensures.0 c.first_number-first.ensures.0 (sym (ap place_in e) ∙ c.find_spelling.ensures)
        c.first_number-first.ensures.1 refl)
