use Rattle.std.proofs.Common.{◌≡◌, true, false, is_some, ap, sym, ◌∙◌}
use Rattle.xt_import.specs.View.{modules_in}
use Rattle.xt_compile.proofs.Found.{IsFound, found, its_module, no_module}
use Rattle.xt_compile.proofs.read.read.Goals as goal

pub unreachable-requires : goal.unreachable-requires
unreachable-requires c =
    let f : IsFound c.args.modules.now.entries c.args.listed.name c.get.result
    = found c.as_str.result.now c.as_str.utf8 c.as_str.ensures.characters c.get.ensures.value in
    let e : false ≡ true = sym (ap is_some (no_module f c.in-None.is)) ∙ c.requires.there in
    absurd (cc)

pub returns : goal.returns
returns c =
    let f : IsFound c.args.modules.now.entries c.args.listed.name c.get.result
    = found c.as_str.result.now c.as_str.utf8 c.as_str.ensures.characters c.get.ensures.value in
    c.read_document.ensures (modules_in c.args.modules.now.entries) (its_module c.in-Some.document f c.in-Some.is) c.requires.judged
