use Rattle.std.proofs.Common.{sym, ap, ◌∙◌}
use Rattle.xt_keys.specs.View.{is_last}
use Rattle.xt_keys.proofs.Grouping.{at_end}
use Rattle.xt_keys.proofs.groups.is_last.Goals as goal

pub returns-in-Some : goal.returns-in-Some
returns-in-Some c =
    c.same_ref.ensures ∙ sym (ap (is_last c.args.node) c.in-Some.ensures.cases.0 ∙ at_end c.args.node c.in-Some.last.now c.in-Some.field-0-1.now)
