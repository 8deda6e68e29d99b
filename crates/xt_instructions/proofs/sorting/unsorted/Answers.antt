use Rattle.xt_instructions.proofs.Rows.{none_asked}
use Rattle.xt_instructions.proofs.sorting.unsorted.Goals as goal

pub returns : goal.returns
returns c after =
    none_asked (record { keys = c.args.keys; here = c.args.here; criteria = c.new.result; rows = c.new-2.result; values = c.new-3.result; nodes = c.args.nodes; to = c.args.to }) after
    c.new.ensures.items c.new-2.ensures.items c.new-3.ensures.items
