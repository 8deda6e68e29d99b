use Rattle.std.proofs.Common.{◌≡◌, ℕ, List, true, false, bytes_eq, refl, sym, ap, ◌∙◌}
use Rattle.std.specs.List.{list_any}
use Rattle.std.specs.Str.{chars}
use Rattle.spec_document.specs.Scope.{xslt_uri}
use Rattle.spec_structure.specs.Elements.{element_named}
use Rattle.spec_structure.specs.Inside.{OfXslt, OfOther}
use Rattle.xt_structure.proofs.inside.role_by.Goals as goal

pub returns-then-is_of : goal.returns-then-is_of
unfolding chars
returns-then-is_of c =
    let e : bytes_eq c.args.name.now.uri xslt_uri ≡ true = sym c.is_of.ensures ∙ c.if-is_of.true in
    rw e (ap OfXslt (c.element_named.ensures ∙ ap element_named c.local.ensures))

pub returns-then-is_among : goal.returns-then-is_among
unfolding chars
returns-then-is_among c =
    let e : bytes_eq c.args.name.now.uri xslt_uri ≡ false = sym c.is_of.ensures ∙ c.if-is_of.false in
    let f = sym (c.is_among.ensures ∙ ap (λ (u : List ℕ). list_any (bytes_eq u) c.args.extensions.now) c.uri.ensures) ∙ c.if-is_among.true in
    rw (e, f) refl

pub returns-else-is_among : goal.returns-else-is_among
unfolding chars
returns-else-is_among c =
    let e : bytes_eq c.args.name.now.uri xslt_uri ≡ false = sym c.is_of.ensures ∙ c.if-is_of.false in
    let f = sym (c.is_among.ensures ∙ ap (λ (u : List ℕ). list_any (bytes_eq u) c.args.extensions.now) c.uri.ensures) ∙ c.if-is_among.false in
    rw (e, f) (ap OfOther c.uri-else-is_among.ensures)
