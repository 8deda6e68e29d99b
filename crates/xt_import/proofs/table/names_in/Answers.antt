use Rattle.std.proofs.Common.{◌∙◌}
use Rattle.xt_import.proofs.Rows.{names_by_keys}
use Rattle.xt_import.proofs.table.names_in.Goals as goal

pub loop-name-init : goal.loop-name-init
loop-name-init c =
    names_by_keys _ _ c.args.table.now.entries c.new-names.ensures.items (c.into_iter-name-iterator.ensures.into_iter_gives ∙ c.keys-name-items.ensures.rest)
