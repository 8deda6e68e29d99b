use Rattle.xt_avt.proofs.Gathering.{so_new}
use Rattle.xt_avt.proofs.parts.Parts.new.Goals as goal

pub returns : goal.returns
returns c r = so_new c.new.result.items c.new-2.result c.new.ensures.items c.new-2.ensures r
