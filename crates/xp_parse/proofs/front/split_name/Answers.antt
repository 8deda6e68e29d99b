use Rattle.std.proofs.Common.{sym, ◌∙◌}
use Rattle.std.specs.Str.{chars}
use Rattle.spec_document.specs.Character.{is_name_part}
use Rattle.xp_parse.proofs.Fronts.{none_of, seam, word_is, no_name, no_name-empty}
use Rattle.xp_parse.proofs.front.split_name.Goals as goal
use Rattle.xp_parse.proofs.front.split_name.Goals.{in_default-via-in-Some+else-is_name_start, in_default-via-in_default}

pub split_at-requires : goal.split_at-requires
split_at-requires c = seam is_name_part c.args.text.now c.past_name-rest.result.now c.past_name-rest.ensures c.past_name-rest.utf8

pub returns-in-Some : goal.returns-in-Some
returns-in-Some c =
    let b = c.in-Some.ensures {u = tt} in
    word_is c.args.text.now c.past_name-rest.result.now c.split_at.result.0.now c.split_at.result.1.now c.in-Some.first (chars c.in-Some.field-0-1.now)
    b.characters (sym c.is_name_start.ensures ∙ c.if-is_name_start.true) c.past_name-rest.ensures c.utf8.text c.past_name-rest.utf8
    c.split_at.ensures.front c.split_at.ensures.back

pub returns-in_default : goal.returns-in_default
returns-in_default c = elim c.in_default.branch [
  | in_default-via-in-Some+else-is_name_start w ↦
      let b = w.in-Some.ensures {u = tt} in
      no_name w.in-Some.first (chars w.in-Some.field-0-1.now) (chars c.args.text.now) b.characters (sym w.is_name_start.ensures ∙ w.if-is_name_start.false)
  | in_default-via-in_default w ↦ no_name-empty c.args.text.now (none_of _ c.first_of.result c.first_of.ensures w.in_default.is)
]
