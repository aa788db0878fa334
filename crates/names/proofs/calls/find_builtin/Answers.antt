-- the table is the registry
use Rattle.std.proofs.Common.{rules, tests}
use Rattle.std.proofs.lemmas.Iterator.{YieldsList-from_slice}
use Rattle.std.proofs.lemmas.Iterator.Search.{find_from_yields_List}
use Rattle.std.specs.Slice.Iter.{iter_rest}
use Rattle.std.specs.Option.{option_map}
use Prim.Native.Nat.{ℕ}
use denote.Ref.{Bor}
use mathlib.Core.Path.{◌≡◌, refl, sym, ap, ◌∙◌}
use mathlib.Core.List.{List, map}
use Rattle.definitions.specs.Bytes.{same}
use Rattle.definitions.specs.Builtins.{registry, builtin}
use Rattle.names.specs.Sought.{place_in}
use Rattle.names.proofs.Calling.{row, found-builtin}
use Rattle.names.proofs.calls.find_builtin.Goals.{After-find}
use Rattle.names.proofs.calls.find_builtin.Goals as goal

found : (c : After-find) → place_in (option_map (λ (b : Bor (Bor (List ℕ) × ℕ)). b.now.1) c.find.result) ≡ builtin c.args.name.now
unfolding registry
found c =
    let x = c.args.name.now in let test = λ (b : Bor (List ℕ) × ℕ). same b.0.now x in
    found-builtin x (iter_rest c.iter.result) c.find.result (ap (λ (bs : List (Bor (List ℕ) × ℕ)). map row bs) c.iter.ensures.rest)
    (find_from_yields_List test _ _ c.find.result c.find.ensures.ran (YieldsList-from_slice (iter_rest c.iter.result) refl) (λ x b q k. search (rules, tests)))

pub returns-in_err-found : goal.returns-in_err-found
returns-in_err-found c = ap place_in c.from_residual.ensures ∙ sym (ap (λ r. place_in (option_map (λ (b : Bor (Bor (List ℕ) × ℕ)). b.now.1) r)) c.in_err-found.was) ∙ found (goal.at.returns-in_err-found c).After-find

pub returns : goal.returns
returns c = sym (ap (λ r. place_in (option_map (λ (b : Bor (Bor (List ℕ) × ℕ)). b.now.1) r)) c.in_ok-found.was) ∙ found (goal.at.returns c).After-find
