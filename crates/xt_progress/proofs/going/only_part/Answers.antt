use Rattle.xt_progress.proofs.Parts.{only_so}
use Rattle.xt_progress.proofs.going.only_part.Goals as goal

pub returns-in-Part : goal.returns-in-Part
returns-in-Part c = only_so c.list-list.result.now c.index-list-0.result c.in-Part.part _ c.if-list-ne1.false c.index-list-0.is c.in-Part.is c.list-list.ensures.stream
