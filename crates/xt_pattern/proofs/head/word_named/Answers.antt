use Rattle.std.proofs.Common.{refl, sym, ap}
use Rattle.std.specs.Prelude.{codes}
use Rattle.xp_parse.proofs.Cuts.{is_word, is_not}
use Rattle.xt_pattern.specs.Reading.{word_named}
use Rattle.xt_pattern.proofs.head.word_named.Goals as goal

pub returns-in-id : goal.returns-in-id
returns-in-id c = sym (ap word_named (is_word c.args.name.now (codes "id") refl c.in-id.is))

pub returns-in-key : goal.returns-in-key
returns-in-key c = sym (ap word_named (is_word c.args.name.now (codes "key") refl c.in-key.is))

pub returns-in_default : goal.returns-in_default
returns-in_default c = sym (rw
    (is_not c.args.name.now (codes "id") c.utf8.name refl c.in_default.not-id, is_not c.args.name.now (codes "key") c.utf8.name refl c.in_default.not-key) refl)
