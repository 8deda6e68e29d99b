use Rattle.std.proofs.Common.{◌∙◌, ap, bytes_eq}
use Rattle.spec_result.specs.Shape.{prefix_for}
use Rattle.xt_names.proofs.Words.{xmlns_chars}
use Rattle.xt_result.proofs.Names.{if_ok_is, chosen, other, nothing_chars}
use Rattle.xt_result.proofs.declare.wanted_prefix.Goals as goal

pub returns-then-is : goal.returns-then-is
returns-then-is c =
    if_ok_is _ _ _
    (ap (λ p. prefix_for p c.args.uri.now) (nothing_chars ∙ chosen _ _ _ _ (c.is.ensures ∙ ap (bytes_eq c.args.written.now) xmlns_chars) c.if-is.true))
    c.prefix_for.ensures

pub returns : goal.returns
returns c =
    if_ok_is _ _ _
    (ap (λ p. prefix_for p c.args.uri.now)
    (c.as_str.ensures.characters ∙ other _ _ _ _ (c.is.ensures ∙ ap (bytes_eq c.args.written.now) xmlns_chars) c.if-is.false))
    c.prefix_for-2.ensures
