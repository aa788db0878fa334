use native.Mathlib.Omega.{arith}
use Prim.Native.Nat.{◌+◌, ◌<◌}
use native.Mathlib.Nat.{zero-add}
use mathlib.Core.Path.{refl, sym, ap, ◌∙◌}
use mathlib.Core.Option.{none, some}
use Rattle.state.specs.Words.{region}
use Rattle.state.specs.State.{symbol_buckets, spelled}
use Rattle.names.specs.Sought.{place_in, shifted}
use Rattle.names.proofs.TableIndex.{bucket-is, indexed-found, indexed-lt}
use Rattle.names.proofs.number.find_symbol.Goals.{In_ok-rest}
use Rattle.names.proofs.number.find_symbol.Goals as goal

pub returns-in_err-rest : goal.returns-in_err-rest
unfolding region shifted
returns-in_err-rest c =
    let a = c.args in
    let b = bucket-is symbol_buckets a.name.now _ _ c.hash.ensures.0 refl in
    ap place_in c.from_residual.ensures
    ∙ indexed-found (spelled a.tree.now a.made.now) a.tables.now _ symbol_buckets 0 a.n a.name.now _ _ _ _ none
    (omega (arith, c.requires)) c.requires.2 b c.first_number-first.ensures.0 (sym (zero-add _)) refl c.in_err-rest.ensures

-- what is found is one of the n symbols
found-few : (c : In_ok-rest) → c.first_number-first.result + c.in_ok-rest.rest < c.args.n
unfolding region
found-few c =
    let a = c.args in
    let b = bucket-is symbol_buckets a.name.now _ _ c.hash.ensures.0 refl in
    indexed-lt (spelled a.tree.now a.made.now) a.tables.now _ symbol_buckets 0 a.n a.name.now _ _ _ _ (some c.in_ok-rest.rest)
    (omega (arith, c.requires)) c.requires.2 b c.first_number-first.ensures.0 (sym (zero-add _)) refl c.in_ok-rest.ensures c.in_ok-rest.rest refl

pub overflow_cast-result : goal.overflow_cast-result
overflow_cast-result c = omega (arith, found-few (goal.at.overflow_cast-result c).In_ok-rest, c.requires)

pub overflow_add-result : goal.overflow_add-result
overflow_add-result c = omega (arith, found-few (goal.at.overflow_add-result c).In_ok-rest, c.requires)

pub returns : goal.returns
unfolding region shifted
returns c =
    let a = c.args in
    let b = bucket-is symbol_buckets a.name.now _ _ c.hash.ensures.0 refl in
    indexed-found (spelled a.tree.now a.made.now) a.tables.now _ symbol_buckets 0 a.n a.name.now _ _ _ _ (some c.in_ok-rest.rest)
    (omega (arith, c.requires)) c.requires.2 b c.first_number-first.ensures.0 (sym (zero-add _)) refl c.in_ok-rest.ensures
