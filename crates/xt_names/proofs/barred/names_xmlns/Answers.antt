use Rattle.std.proofs.Common.{sym, ap, ◌∙◌, bytes_eq}
use Rattle.std.specs.Str.{chars}
use Rattle.xt_names.proofs.Words.{xmlns_chars, xmlns_uri_chars, or-left, or-right}
use Rattle.xt_names.proofs.barred.names_xmlns.Goals as goal

pub returns-then-is_same : goal.returns-then-is_same
returns-then-is_same c = or-left _ _ _ (c.is_same.ensures ∙ ap (bytes_eq (chars c.args.prefix.now)) xmlns_chars) c.if-is_same.true

pub returns-else-is_same : goal.returns-else-is_same
returns-else-is_same c =
    or-right _ _ _ (sym (c.is_same.ensures ∙ ap (bytes_eq (chars c.args.prefix.now)) xmlns_chars) ∙ c.if-is_same.false)
    (c.is_same-else-is_same.ensures ∙ ap (bytes_eq (chars c.args.uri.now)) xmlns_uri_chars)
