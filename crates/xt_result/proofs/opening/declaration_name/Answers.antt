use Rattle.std.proofs.Common.{◌∙◌, ap, ◌++◌}
use Rattle.xt_names.proofs.Words.{xmlns_chars}
use Rattle.xt_result.proofs.Names.{if_ok_is, there, not_there, declared_chars}
use Rattle.xt_result.proofs.Openings.{default_name, prefixed_name}
use Rattle.xt_result.proofs.opening.declaration_name.Goals as goal

pub returns-then-is_empty : goal.returns-then-is_empty
returns-then-is_empty c =
    if_ok_is _ _ _ (xmlns_chars ∙ default_name c.args.prefix.now (not_there _ _ c.is_empty.ensures c.if-is_empty.true)) c.from_str.ensures

pub returns : goal.returns
returns c =
    prefixed_name c.args.prefix.now _ (there _ _ c.is_empty.ensures c.if-is_empty.false)
    (c.in_ok-push_str.ensures.ok ∙ ap (λ more. c.in_ok-name.name ++ more) c.as_str.ensures.characters
    ∙ ap (λ name. name ++ c.args.prefix.now) (c.in_ok-name.ensures ∙ declared_chars))
