use Rattle.std.proofs.Common.{◌≡◌, List, ℕ, ap, ◌∙◌, bytes_eq}
use Rattle.std.specs.Str.{chars}
use Rattle.spec_document.specs.Scope.{xslt_uri}
use Rattle.xp_functions.proofs.Words.{and_is, and_not, xslt_uri_chars}
use Rattle.xp_functions.proofs.name.is_xslt.Goals as goal

pub returns-then-is : goal.returns-then-is
returns-then-is c =
    let e : c.is.result ≡ bytes_eq c.args.name.now.uri xslt_uri = c.is.ensures ∙ ap (bytes_eq c.uri.result.now) xslt_uri_chars ∙ ap (λ (u : List ℕ). bytes_eq u xslt_uri) c.uri.ensures in
    and_is _ _ e c.if-is.true (c.is-then-is.ensures ∙ ap (λ (l : List ℕ). bytes_eq l (chars c.args.local.now)) c.local.ensures)

pub returns-else-is : goal.returns-else-is
returns-else-is c =
    let e : c.is.result ≡ bytes_eq c.args.name.now.uri xslt_uri = c.is.ensures ∙ ap (bytes_eq c.uri.result.now) xslt_uri_chars ∙ ap (λ (u : List ℕ). bytes_eq u xslt_uri) c.uri.ensures in
    and_not _ _ e c.if-is.false
