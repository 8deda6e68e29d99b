use Rattle.std.proofs.Common.{sym, ◌∙◌}
use Rattle.std.specs.Str.{chars}
use Rattle.xp_parse.proofs.Cuts.{number_cut, word_cut, mark_cut}
use Rattle.xp_parse.proofs.cut.piece_at.Goals as goal

pub returns-then-begins_number : goal.returns-then-begins_number
returns-then-begins_number c =
    number_cut _ c.args.after_operand c.args.first (chars c.args.behind.now) (chars c.args.text.now) c.requires.characters
    (sym c.begins_number.ensures ∙ c.if-begins_number.true) c.number_at.ensures

pub returns-in-Some : goal.returns-in-Some
returns-in-Some c =
    let w = c.in-Some.ensures {u = tt} in
    word_cut _ c.args.after_operand c.args.first (chars c.args.behind.now) (chars c.args.text.now) c.in-Some.name.now c.in-Some.rest.now c.requires.characters
    (sym c.begins_number.ensures ∙ c.if-begins_number.false) w (c.word_at.ensures (chars c.args.text.now) w)

pub returns-in-None : goal.returns-in-None
returns-in-None c =
    mark_cut c.mark_at.result c.args.after_operand c.args.first (chars c.args.behind.now) (chars c.args.text.now) c.requires.characters
    (sym c.begins_number.ensures ∙ c.if-begins_number.false) (c.in-None.ensures {u = tt}) c.mark_at.ensures
