use Rattle.std.proofs.Common.{◌∙◌, ap, bytes_eq}
use Rattle.xt_names.proofs.Words.{xml_chars}
use Rattle.xt_result.proofs.Names.{or_true, or_other}
use Rattle.xt_result.proofs.declare.is_barred.Goals as goal

pub returns-then-is : goal.returns-then-is
returns-then-is c = or_true _ _ _ c.if-is.true (c.is.ensures ∙ ap (bytes_eq c.args.prefix.now) xml_chars)

pub returns : goal.returns
returns c = or_other _ _ _ _ c.if-is.false (c.is.ensures ∙ ap (bytes_eq c.args.prefix.now) xml_chars) c.is_settled.ensures
