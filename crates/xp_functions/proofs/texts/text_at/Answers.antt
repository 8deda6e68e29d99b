use Rattle.std.proofs.Common.{sym, ◌∙◌}
use Rattle.xp_functions.proofs.Words.{argument_is, no_argument, empty_chars}
use Rattle.xp_functions.proofs.texts.text_at.Goals as goal

pub returns-then-number-texts : goal.returns-then-number-texts
returns-then-number-texts c = c.as_str.ensures.characters ∙ c.index-texts-number.is ∙ sym (argument_is c.args.texts.now c.args.number _ c.if-number-texts.true)

pub returns-else-number-texts : goal.returns-else-number-texts
returns-else-number-texts c = empty_chars ∙ sym (no_argument c.args.texts.now c.args.number c.if-number-texts.false)
