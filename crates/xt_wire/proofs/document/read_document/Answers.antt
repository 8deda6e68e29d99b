use Rattle.std.proofs.Common.{refl, sym, ◌∙◌, ap}
use Rattle.std.specs.Prelude.{codes}
use Rattle.std.specs.Str.{chars}
use Rattle.spec_session.specs.Request.{ModuleName}
use Rattle.xt_wire.proofs.FirstWords.{names_source, names_module}
use Rattle.xt_wire.proofs.Texts.{compared}
use Rattle.xt_wire.proofs.document.read_document.Goals as goal

pub returns-then-is_word : goal.returns-then-is_word
returns-then-is_word c =
    sym (names_source (chars c.args.word.now) (compared c.args.word.now (codes "source") c.is_word.result _ refl c.is_word.ensures c.if-is_word.true))

pub returns : goal.returns
returns c =
    ap ModuleName c.in_ok-from_str.ensures
    ∙ sym (names_module (chars c.args.word.now) (compared c.args.word.now (codes "source") c.is_word.result _ refl c.is_word.ensures c.if-is_word.false))
