use Rattle.std.proofs.Common.{sym, ◌∙◌}
use Rattle.xt_world.proofs.First.{place_added}
use Rattle.xt_world.proofs.numbers.add_place.Goals as goal

pub returns : goal.returns
returns c sought other =
    place_added (record { place = c.args.place }) c.args.turn sought other c.args.places.now.entries c.insert.new.self.entries
    (sym c.contains_key.ensures ∙ c.if-contains_key.false) c.in_ok-insert.ensures.entries
