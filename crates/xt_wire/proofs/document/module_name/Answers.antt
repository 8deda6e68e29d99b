use Rattle.std.proofs.Common.{refl, sym}
use Rattle.std.specs.Prelude.{codes}
use Rattle.std.specs.Str.{chars}
use Rattle.xt_wire.specs.View.{rest_of}
use Rattle.xt_wire.proofs.FirstWords.{no_module, a_module}
use Rattle.xt_wire.proofs.Texts.{compared}
use Rattle.xt_wire.proofs.document.module_name.Goals as goal

pub returns-then-is_word : goal.returns-then-is_word
returns-then-is_word c =
    let word = chars c.in_ok-name.name.now in
    sym (no_module (rest_of c.args.rest) word c.in_ok-name.ensures
    (compared c.in_ok-name.name.now (codes "source") c.is_word.result _ refl c.is_word.ensures c.if-is_word.true))

pub returns-else-is_word : goal.returns-else-is_word
returns-else-is_word c =
    let word = chars c.in_ok-name.name.now in
    sym (a_module (rest_of c.args.rest) word c.in_ok-name.ensures
    (compared c.in_ok-name.name.now (codes "source") c.is_word.result _ refl c.is_word.ensures c.if-is_word.false))
