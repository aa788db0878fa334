use Rattle.std.proofs.Common.{rules, tests}
use Rattle.std.proofs.lemmas.Iterator.{YieldsList-from_slice}
use Rattle.std.proofs.lemmas.Iterator.Search.{position_from_yields_List}
use Prim.Native.Nat.{ℕ, ◌/◌, ◌^◌}
use lib.Dec.{eqb}
use Rattle.names.proofs.Finding.{place-is}
use Rattle.names.proofs.find.find_head.Goals as goal

pub returns : goal.returns
returns c =
    let test = λ (h : ℕ). eqb c.args.k (h / 2 ^ 16) in
    place-is test c.args.words.now c.position.result (position_from_yields_List test _ _ c.position.result c.position.ensures.ran (YieldsList-from_slice c.args.words.now c.iter.ensures.rest) (λ x b q k. search (rules, tests)))
