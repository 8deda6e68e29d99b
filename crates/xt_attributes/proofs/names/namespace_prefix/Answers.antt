use Rattle.std.proofs.Common.{Some}
use Rattle.std.specs.List.{before_first}
use Rattle.std.specs.Str.{chars}
use Rattle.spec_document.specs.Name.{is_colon, is_ncname}
use Rattle.spec_document.proofs.First.{after_first-none}
use Rattle.xt_attributes.proofs.Tests.{no_star}
use Rattle.xt_attributes.proofs.names.namespace_prefix.Goals as goal

pub returns-in-None : goal.returns-in-None
returns-in-None c =
    no_star (is_ncname (before_first is_colon (chars c.args.word.now))) _ (Some (before_first is_colon (chars c.args.word.now)))
    (after_first-none is_colon (chars c.args.word.now) c.in-None.ensures)
