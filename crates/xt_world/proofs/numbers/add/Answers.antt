use Rattle.xt_world.proofs.First.{place_set}
use Rattle.xt_world.proofs.numbers.add.Goals as goal

pub returns-in-None-clause-added : goal.returns-in-None-clause-added
returns-in-None-clause-added c sought other =
    place_set (record { place = c.args.place }) c.args.number sought other c.args.places.now.entries c.insert.new.self.entries
    c.in_ok-insert.ensures.entries

pub returns-in-Some-clause-added : goal.returns-in-Some-clause-added
returns-in-Some-clause-added c sought other =
    place_set (record { place = c.args.place }) c.args.number sought other c.args.places.now.entries c.insert.new.self.entries
    c.in_ok-insert.ensures.entries
