use Rattle.std.proofs.Common.{◌∙◌, sym, ap, bytes_eq}
use Rattle.xt_names.proofs.Words.{xml_chars, xml_uri_chars}
use Rattle.xt_result.proofs.Names.{if_ok_is, there, xml_prefix, own_prefix}
use Rattle.xt_result.proofs.name.prefix_for.Goals as goal

pub returns-then-is : goal.returns-then-is
returns-then-is c =
    if_ok_is _ _ _
    (xml_chars ∙ xml_prefix _ _ (there _ _ c.is_empty.ensures c.if-is_empty.false)
    (sym (c.is.ensures ∙ ap (bytes_eq c.args.uri.now) xml_uri_chars) ∙ c.if-is.true)) c.from_str.ensures

pub returns : goal.returns
returns c =
    if_ok_is _ _ _
    (own_prefix _ _ (there _ _ c.is_empty.ensures c.if-is_empty.false)
    (sym (c.is.ensures ∙ ap (bytes_eq c.args.uri.now) xml_uri_chars) ∙ c.if-is.false)) c.from_str-2.ensures
