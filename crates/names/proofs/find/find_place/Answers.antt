use Rattle.std.proofs.Common.{rules, tests}
use Rattle.std.proofs.lemmas.Iterator.{YieldsList-from_slice}
use Rattle.std.proofs.lemmas.Iterator.Search.{position_from_yields_List}
use Prim.Native.Nat.{ℕ}
use mathlib.Core.Path.{sym, ◌∙◌}
use Rattle.definitions.specs.Bytes.{same}
use Rattle.state.specs.Words.{name_at}
use Rattle.state.specs.State.{names_at}
use Rattle.names.proofs.Finding.{place-is, position-map}
use Rattle.names.proofs.find.find_place.Goals as goal

pub returns : goal.returns
unfolding names_at
returns c =
    let a = c.args in
    let test = λ (w : ℕ). same a.name.now (name_at a.tree.now w) in
    place-is test a.words.now c.position.result (position_from_yields_List test _ _ c.position.result c.position.ensures.ran (YieldsList-from_slice a.words.now c.iter.ensures.rest) (λ x b q k. search (rules, tests)))
    ∙ sym (position-map (same a.name.now) (name_at a.tree.now) a.words.now)
