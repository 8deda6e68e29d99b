use Rattle.std.proofs.Common.{[], ap}
use Rattle.xt_top_level.specs.View.{top_levels_in}
use Rattle.xt_compile.proofs.Places.{at_key, put_key}
use Rattle.xt_compile.proofs.opened.take_at.Goals as goal

pub returns-clause-taken : goal.returns-clause-taken
returns-clause-taken c = at_key c.args.opened.now.entries c.in_ok-key.key c.in_ok-key.ensures (c.in_ok-insert.ensures {u = tt}).old

pub returns-clause-rest : goal.returns-clause-rest
returns-clause-rest c =
    put_key c.args.opened.now.entries c.insert.new.self.entries c.in_ok-key.key c.args.path.now c.new.result [] c.in_ok-key.ensures (ap top_levels_in c.new.ensures.items)
    (c.in_ok-insert.ensures {u = tt}).entries
