use Rattle.std.proofs.Common.{◌∙◌, ap, ◌++◌, ◌+◌}
use Rattle.std.specs.Prelude.{decimal}
use Rattle.xt_result.proofs.Names.{made_chars}
use Rattle.xt_result.proofs.declare.made_prefix.Goals as goal

pub returns : goal.returns
returns c = c.in_ok-push_number.ensures ∙ ap (λ p. p ++ decimal (c.args.tried + 1)) (c.in_ok-prefix.ensures ∙ made_chars)
