use Rattle.std.proofs.Common.{◌∙◌, [], ap, bytes_eq}
use Rattle.std.proofs.lemmas.Str.{chars-nil}
use Rattle.xt_attributes.proofs.walk.is_in_no_namespace.Goals as goal

pub returns : goal.returns
returns c = c.is.ensures ∙ ap (bytes_eq c.uri.result.now) chars-nil ∙ ap (λ n. bytes_eq n []) c.uri.ensures
