use Rattle.std.proofs.Common.{◌∙◌, ap, map}
use Rattle.std.specs.Str.{chars}
use Rattle.spec_result.specs.Recovery.{added_to, local_of}
use Rattle.xt_result.specs.View.{given_of}
use Rattle.xt_result.proofs.Openings.{added_as, with_name}
use Rattle.xt_result.proofs.attributes.Attributes.insert.Goals as goal

pub returns : goal.returns
returns c =
    ap (map given_of) c.in_ok-insert.ensures.entries
    ∙ added_as c.self.inside.by_name.entries (c.in_ok-uri.uri, c.in_ok-local.local) c.args.given _ _
    (ap chars c.in_ok-uri.ensures.ok ∙ c.as_str.ensures.characters)
    (ap chars c.in_ok-local.ensures.ok ∙ c.local_of.ensures ∙ ap local_of c.as_str-2.ensures.characters)
    ∙ ap (λ gs. added_to gs (with_name c.args.given (local_of c.args.name.now) c.args.uri.now)) c.self.view_is
