use Rattle.std.proofs.Common.{ap, ◌∙◌, bytes_eq}
use Rattle.std.specs.Str.{chars}
use Rattle.xt_names.proofs.Words.{xml_chars, xml_uri_chars, unlike}
use Rattle.xt_names.proofs.barred.parts_xml.Goals as goal

pub returns : goal.returns
returns c =
    unlike _ _ _ _ (c.is_same.ensures ∙ ap (bytes_eq (chars c.args.prefix.now)) xml_chars)
    (c.is_same-2.ensures ∙ ap (bytes_eq (chars c.args.uri.now)) xml_uri_chars)
