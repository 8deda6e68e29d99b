use Rattle.std.proofs.Common.{◌≡◌, List, ℕ, ap, ◌∙◌, bytes_eq}
use Rattle.std.specs.Str.{chars}
use Rattle.std.specs.List.{list_any}
use Rattle.spec_document.specs.Scope.{xslt_uri}
use Rattle.spec_meaning.specs.Function.{instructions}
use Rattle.xp_functions.proofs.Words.{and_is, and_not, xslt_uri_chars}
use Rattle.xp_functions.proofs.table.is_instruction.Goals as goal

pub returns-then-is : goal.returns-then-is
unfolding chars
returns-then-is c =
    let e : c.is.result ≡ bytes_eq c.args.name.now.uri xslt_uri = c.is.ensures ∙ ap (bytes_eq c.uri.result.now) xslt_uri_chars ∙ ap (λ (u : List ℕ). bytes_eq u xslt_uri) c.uri.ensures in
    let f : c.has_word.result ≡ list_any (bytes_eq c.local.result.now) instructions = c.has_word.ensures in
    and_is _ _ e c.if-is.true (f ∙ ap (λ (l : List ℕ). list_any (bytes_eq l) instructions) c.local.ensures)

pub returns-else-is : goal.returns-else-is
returns-else-is c =
    let e : c.is.result ≡ bytes_eq c.args.name.now.uri xslt_uri = c.is.ensures ∙ ap (bytes_eq c.uri.result.now) xslt_uri_chars ∙ ap (λ (u : List ℕ). bytes_eq u xslt_uri) c.uri.ensures in
    and_not _ _ e c.if-is.false
