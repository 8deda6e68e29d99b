use Rattle.std.proofs.Common.{◌∙◌, ap, bytes_eq}
use Rattle.std.specs.Prelude.{is_some}
use Rattle.spec_document.specs.Name.{qname_of}
use Rattle.xt_names.proofs.Words.{xmlns_chars}
use Rattle.xt_result.proofs.Names.{named}
use Rattle.xt_result.proofs.name.is_qualified.Goals as goal

pub returns-then-is_some : goal.returns-then-is_some
returns-then-is_some c =
    named _ _ _ _ c.if-is_some.true (c.is_some.ensures ∙ ap is_some (c.read.ensures ∙ ap qname_of c.as_str.ensures.characters))
    (c.is.ensures ∙ ap (bytes_eq c.args.name.now) xmlns_chars)
