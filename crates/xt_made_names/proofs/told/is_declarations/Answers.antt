use Rattle.std.proofs.Common.{ap, ◌∙◌, bytes_eq}
use Rattle.xt_names.proofs.Words.{xmlns_uri_chars}
use Rattle.xt_made_names.proofs.told.is_declarations.Goals as goal

pub returns : goal.returns
returns c = c.is.ensures ∙ ap (bytes_eq c.args.uri.now) xmlns_uri_chars
