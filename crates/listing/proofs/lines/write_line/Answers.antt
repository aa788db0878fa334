use borrow.Author.Rules.{rules}
use native.Mathlib.Omega.{arith}
use Rattle.definitions.proofs.Listing.{five-digits}
use Rattle.columns.specs.Fields.{field_text}
use Rattle.listing.proofs.LineLaws.{first-room, second-room, line-in, line-written, line_same}
use Rattle.listing.proofs.lines.write_line.Goals as goal

pub first_shown-first-requires : goal.first_shown-first-requires
unfolding field_text
first_shown-first-requires c = c.requires.2.first

pub put_field-requires : goal.put_field-requires
unfolding field_text
put_field-requires c = (five-digits _ c.requires.0, search rules)

pub put_field-requires-2 : goal.put_field-requires-2
unfolding field_text
put_field-requires-2 c = let l = five-digits _ c.requires.1 in (omega arith, search rules)

pub put_name-requires : goal.put_name-requires
unfolding field_text
put_name-requires c = (c.requires.2.opcode, search rules)

pub put_field-requires-3 : goal.put_field-requires-3
unfolding field_text
put_field-requires-3 c = (first-room c.first_shown-first.result c.requires.2 c.first_shown-first.ensures, search rules)

pub put_field-requires-4 : goal.put_field-requires-4
unfolding field_text
put_field-requires-4 c = (second-room c.second_shown-second.result c.requires.2 c.second_shown-second.ensures, search rules)

pub shape_of-out : goal.shape_of-out
unfolding field_text
shape_of-out c =
    line_same c.first_shown-first.result c.second_shown-second.result (line-in _ _ c.requires.0 c.requires.1 c.requires.2) c.first_shown-first.ensures c.second_shown-second.ensures
    _ _ _ _ _ _ c.requires.3 c.put_field.ensures c.put_field-2.ensures c.put_name.ensures c.put_field-3.ensures c.put_field-4.ensures

pub returns : goal.returns
unfolding field_text
returns c =
    line-written c.first_shown-first.result c.second_shown-second.result (line-in _ _ c.requires.0 c.requires.1 c.requires.2) c.first_shown-first.ensures c.second_shown-second.ensures
    _ _ _ _ _ _ c.requires.3 c.put_field.ensures c.put_field-2.ensures c.put_name.ensures c.put_field-3.ensures c.put_field-4.ensures
