use Rattle.std.proofs.Common.{◌∙◌}
use Rattle.xt_compile.proofs.Found.{IsFound, found, is_there}
use Rattle.xt_compile.proofs.stock.has.Goals as goal

pub returns : goal.returns
returns c =
    let f : IsFound c.args.stock.now.entries c.args.name.now c.get.result
    = found c.as_str.result.now c.as_str.utf8 c.as_str.ensures.characters c.get.ensures.value in
    c.is_some.ensures ∙ is_there f
