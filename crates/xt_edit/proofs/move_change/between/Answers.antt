use Rattle.xt_edit.specs.Site.{spot_in}
use Rattle.xt_edit.proofs.Stays.{out_stays}
use Rattle.xt_edit.proofs.move_change.between.Goals as goal

pub take_out-requires-clause-stands : goal.take_out-requires-clause-stands
take_out-requires-clause-stands c =
    let site = c.args.ends.site in out_stays c.args.old.now (spot_in site.spot) site.node.now c.requires.stands c.requires.there
