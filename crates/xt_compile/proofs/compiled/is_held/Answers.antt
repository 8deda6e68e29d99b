use Rattle.std.proofs.Common.{◌∙◌}
use Rattle.xt_compile.proofs.Found.{IsFound, found, is_module}
use Rattle.xt_compile.proofs.compiled.is_held.Goals as goal

pub returns : goal.returns
returns c =
    let f : IsFound c.args.modules.now.entries c.args.name.now c.get.result
    = found c.as_str.result.now c.as_str.utf8 c.as_str.ensures.characters c.get.ensures.value in
    c.is_some.ensures ∙ is_module f
