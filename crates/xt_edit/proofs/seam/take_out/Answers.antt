use Rattle.xt_edit.specs.Site.{spot_in}
use Rattle.xt_edit.proofs.Sites.{position-from}
use Rattle.xt_edit.proofs.seam.take_out.Goals as goal

pub overflow_sub-index : goal.overflow_sub-index
overflow_sub-index c = position-from c.args.document.now (spot_in c.args.site.spot) c.args.site.node.now c.requires.there
