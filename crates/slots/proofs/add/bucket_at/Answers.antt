use mathlib.Core.Path.{ap, ◌∙◌}
use Rattle.state.specs.Index.{bucket_of}
use Rattle.state.specs.State.{slots_from}
use Rattle.slots.proofs.add.bucket_at.Goals as goal

pub returns : goal.returns
returns c = record { is = c.slot_bucket.ensures.0 ∙ ap (bucket_of slots_from) c.name_part.ensures.result_value; below = c.slot_bucket.ensures.1 }
