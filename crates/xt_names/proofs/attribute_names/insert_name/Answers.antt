use Rattle.std.proofs.Common.{sym, ap, ◌∙◌}
use Rattle.std.specs.Option.{option_copied}
use Rattle.xt_names.specs.NamesSoFar.{names_in, is_expanded}
use Rattle.xt_names.proofs.Keys.{pair_none}
use Rattle.xt_names.proofs.attribute_names.insert_name.Goals as goal

pub returns-in-None-clause-before : goal.returns-in-None-clause-before
returns-in-None-clause-before c =
    sym (ap (λ n. is_expanded (names_in c.args.pairs.now.keys) (option_copied n)) c.in-None.is ∙ pair_none (names_in c.args.pairs.now.keys))
