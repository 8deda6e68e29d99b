use Rattle.std.proofs.Common.{sym, ◌∙◌}
use Rattle.xt_world.proofs.First.{number_added}
use Rattle.xt_world.proofs.numbers.add_turn.Goals as goal

pub returns : goal.returns
returns c sought other =
    number_added c.args.number c.args.turn sought other c.args.turns.now.entries c.insert.new.self.entries
    (sym c.contains_key.ensures ∙ c.if-contains_key.false) c.in_ok-insert.ensures.entries
